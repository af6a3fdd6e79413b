use Rattle.std.proofs.Common.{ℕ, suc, ◌≡◌, ◌-◌, sym, ap, ◌∙◌, arith}
use Rattle.nine_messages.specs.Fields.{texts_in}
use Rattle.nine_messages.proofs.NamesLemmas.{others_read, first_read, text_leaves}
use Rattle.nine_messages.proofs.names.Names.split_first.Goals as goal

pub returns-then-self-eq0 : goal.returns-then-self-eq0
unfolding texts_in
returns-then-self-eq0 c = sym c.self.view_is ∙ ap (λ (count : ℕ). texts_in count c.self.inside.bytes.now) c.if-self-eq0.true

pub invariant_of-result : goal.invariant_of-result
invariant_of-result c =
    let one_more : c.self.inside.count ≡ suc (c.self.inside.count - 1) = omega arith in
    record {
      filled = (others_read c.self.inside.count (c.self.inside.count - 1) c.self.inside.bytes.now c.in-Some.name.now c.in-Some.rest.now one_more c.self.invariant.filled c.in-Some.ensures).0;
      bytes_fit = text_leaves c.self.inside.bytes.now c.in-Some.rest.now c.in-Some.name.now c.self.invariant.bytes_fit c.in-Some.ensures;
    }

pub returns-in-None : goal.returns-in-None
returns-in-None c =
    let one_more : c.self.inside.count ≡ suc (c.self.inside.count - 1) = omega arith in
    absurd (first_read c.self.inside.count (c.self.inside.count - 1) c.self.inside.bytes.now (texts_in c.self.inside.count c.self.inside.bytes.now) one_more c.self.invariant.filled c.in-None.ensures)

pub returns-in-Some : goal.returns-in-Some
returns-in-Some c =
    let one_more : c.self.inside.count ≡ suc (c.self.inside.count - 1) = omega arith in
    sym c.self.view_is ∙ (others_read c.self.inside.count (c.self.inside.count - 1) c.self.inside.bytes.now c.in-Some.name.now c.in-Some.rest.now one_more c.self.invariant.filled c.in-Some.ensures).1
