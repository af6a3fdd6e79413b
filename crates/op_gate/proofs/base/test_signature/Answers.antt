use Rattle.std.proofs.Common.{ℕ, List, sym, ap, ◌∙◌}
use Rattle.bl_syntax.specs.Statement.{StatementView}
use Rattle.policy_statement.specs.Messages.{statement_message}
use Rattle.policy_statement.specs.Ring.{is_accepted}
use Rattle.op_gate.proofs.base.test_signature.Goals as goal

pub returns-then-is_accepted-clause-signed : goal.returns-then-is_accepted-clause-signed
returns-then-is_accepted-clause-signed c =
    let ring = c.args.ring.now in
    let entry = c.args.entry.now in
    let text = statement_message entry.statement in
    let who_is = c.bytes-who.ensures.same ∙ c.who.ensures ∙ ap (λ (s : StatementView). s.who) c.statement-statement.ensures in
    let text_is = c.as_slice.ensures ∙ c.in-Ok.ensures.ok ∙ ap statement_message c.statement-statement.ensures in
    let by_who = ap (λ (who : List ℕ). is_accepted ring who c.as_slice.result.now c.signature.result.now) who_is in
    let by_text = ap (λ (message : List ℕ). is_accepted ring entry.statement.who message c.signature.result.now) text_is in
    let by_signature = ap (λ (signature : List ℕ). is_accepted ring entry.statement.who text signature) c.signature.ensures in
    sym (by_who ∙ by_text ∙ by_signature) ∙ sym c.accepts-is_accepted.ensures ∙ c.if-is_accepted.true
