-- There is such a statement, it stands, and its withdrawal is signed; or not.
use Rattle.std.proofs.Common.{Bool, List, Option, ap, arith, length, subst, sym, take, ◌∙◌, ◌≤◌, ℕ}
use Rattle.std.specs.Borrow.{Bor}
use Rattle.std.proofs.lemmas.List.{length-take}
use Rattle.bl_syntax.specs.Statement.{StatementView}
use Rattle.access_history.specs.Numbered.{IsNumbered}
use Rattle.pcfs_audit.specs.Ends.{is_ended}
use Rattle.pcfs_audit.specs.Papers.{shown}
use Rattle.pcfs_audit.proofs.CredentialLemmas.{no_withdrawal_beyond, no_withdrawal_ended, no_withdrawal_zero, numbered_front, withdrawal_by_signature}
use Rattle.pcfs_audit.proofs.statements.could_be_withdrawn.Goals as goal

pub returns-then-number-eq0 : goal.returns-then-number-eq0
returns-then-number-eq0 g c =
    no_withdrawal_zero (g.S.Signatures.accepted c.args.ring.now) (take c.args.earlier (shown c.args.dossier.now.papers.statements.items)) c.args.dossier.now.papers.ends.items c.args.place c.args.number c.args.signature.now c.if-number-eq0.true

pub returns-then-earlier-number : goal.returns-then-earlier-number
returns-then-earlier-number g c =
    no_withdrawal_beyond (g.S.Signatures.accepted c.args.ring.now) (take c.args.earlier (shown c.args.dossier.now.papers.statements.items)) c.args.dossier.now.papers.ends.items c.args.place c.args.number c.args.signature.now
    (omega (arith, c.if-earlier-number.true, length-take c.args.earlier (shown c.args.dossier.now.papers.statements.items)))

pub returns-then-is_ended : goal.returns-then-is_ended
returns-then-is_ended g c =
    let ended = sym (c.is_ended.ensures ∙ ap (λ (es : List (Option ℕ)). is_ended es c.args.number c.args.place) c.as_slice.ensures.value) ∙ c.if-is_ended.true in
    no_withdrawal_ended (g.S.Signatures.accepted c.args.ring.now) (take c.args.earlier (shown c.args.dossier.now.papers.statements.items)) c.args.dossier.now.papers.ends.items c.args.place c.args.number c.args.signature.now ended

pub returns : goal.returns
returns g c =
    let items = c.args.dossier.now.papers.statements.items in
    let statement = c.index-statements-number.result in
    let accepted : List ℕ → List ℕ → Bool = λ (who message : List ℕ). g.S.Signatures.accepted c.args.ring.now who message c.args.signature.now in
    let stands = sym (c.is_ended.ensures ∙ ap (λ (es : List (Option ℕ)). is_ended es c.args.number c.args.place) c.as_slice.ensures.value) ∙ c.if-is_ended.false in
    let who_is = c.bytes.ensures.same ∙ c.who.ensures in
    let message_is = c.as_slice-2.ensures ∙ c.in_ok-message.ensures.ok in
    let is = c.accepts.ensures ∙ ap (λ (w : List ℕ). accepted w c.as_slice-2.result.now) who_is ∙ ap (λ (m : List ℕ). accepted statement.now.who m) message_is in
    let le : c.args.number ≤ c.args.earlier = omega (arith, c.if-earlier-number.false) in
    let shown_in = c.as_slice-statements.ensures.value in
    let numbered : IsNumbered (take c.args.earlier (shown items)) c.args.number statement.now =
    subst (λ (rs : List (Bor StatementView)). IsNumbered (take c.args.earlier (shown rs)) c.args.number statement.now) shown_in
    (numbered_front c.as_slice-statements.result.now c.args.earlier c.args.number statement c.if-number-eq0.false le (omega (arith, c.requires, ap length shown_in)) c.index-statements-number.is) in
    withdrawal_by_signature (g.S.Signatures.accepted c.args.ring.now) (take c.args.earlier (shown items)) c.args.dossier.now.papers.ends.items c.args.place c.args.number c.args.signature.now statement.now c.accepts.result numbered stands is
