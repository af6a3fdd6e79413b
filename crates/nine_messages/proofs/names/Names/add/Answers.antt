use Rattle.std.proofs.Common.{ℕ, List, ◌≡◌, ◌++◌, ap, ◌∙◌, append_assoc}
use Rattle.std.specs.Int.{w16, to_le_bytes}
use Rattle.nine_messages.specs.Fields.{text, listed, texts_in}
use Rattle.nine_messages.proofs.NamesLemmas.{names_spelled}
use Rattle.nine_messages.proofs.names.Names.add.Goals as goal

pub returns-clause-ok : goal.returns-clause-ok
returns-clause-ok c =
    let texts : List (List ℕ) = texts_in c.self.inside.count c.self.inside.bytes.now in
    let spelled : to_le_bytes w16 c.self.inside.count ++ c.self.inside.bytes.now ≡ listed text texts = names_spelled c.self.inside.count c.self.inside.bytes.now texts c.self.invariant.bytes_fit c.self.invariant.filled in
    let whole : listed text texts ≡ listed text c.args.self.now = ap (λ (t : List (List ℕ)). listed text t) c.self.view_is in
    c.in_ok-extend.ensures.ok ∙ ap (λ (front : List ℕ). front ++ c.self.inside.bytes.now) c.in_ok-put_u16.ensures.ok
    ∙ append_assoc c.args.out.now (to_le_bytes w16 c.self.inside.count) c.self.inside.bytes.now ∙ ap (λ (more : List ℕ). c.args.out.now ++ more) (spelled ∙ whole)
