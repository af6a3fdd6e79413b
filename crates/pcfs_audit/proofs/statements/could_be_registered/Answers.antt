-- The signature is accepted, there is room, and none is equal.
use Rattle.std.proofs.Common.{Bool, List, ℕ, ap, arith, length, subst, sym, take, ◌∙◌, ◌<◌}
use Rattle.std.specs.Borrow.{Bor}
use Rattle.std.specs.Prelude.{Contains, IsTrue, ◌↔◌}
use Rattle.std.proofs.lemmas.List.{length-take}
use Rattle.bl_syntax.specs.Statement.{StatementView}
use Rattle.pcfs_audit.specs.Papers.{shown}
use Rattle.pcfs_audit.proofs.FirstsLemmas.{could_be}
use Rattle.pcfs_audit.proofs.statements.could_be_registered.Goals as goal

pub returns : goal.returns
returns g c =
    let said = take c.args.earlier (shown c.args.dossier.now.papers.statements.items) in
    let accepted : List ℕ → List ℕ → Bool = λ (who message : List ℕ). g.S.Signatures.accepted c.args.ring.now who message c.args.signature.now in
    let who_is = c.bytes.ensures.same ∙ c.who.ensures in
    let message_is = c.as_slice.ensures ∙ c.in_ok-message.ensures.ok in
    let signed = sym (c.accepts.ensures ∙ ap (λ (w : List ℕ). accepted w c.as_slice.result.now) who_is ∙ ap (λ (m : List ℕ). accepted c.args.statement.now.who m) message_is) ∙ c.if-not-accepts.false in
    let room : length said < 4096 = omega (arith, c.if-earlier-ge-MOST_STATEMENTS.false, length-take c.args.earlier (shown c.args.dossier.now.papers.statements.items)) in
    could_be _ said c.args.statement.now c.is_new.result signed room
    (subst (λ (rs : List (Bor StatementView)). IsTrue c.is_new.result ↔ (Contains (take c.args.earlier (shown rs)) c.args.statement.now → ⊥)) c.as_slice-statements.ensures.value c.is_new.ensures)
