-- The statement is registered under the line's signature, or under the ring's.
use Rattle.std.proofs.Common.{ap, ◌∙◌}
use Rattle.std.proofs.lemmas.Result.{IfOk-weaker}
use Rattle.access_history.specs.declared.request.StepRequest.TheVariants as requests
use Rattle.line_forms.specs.declared.command.Command.TheVariants.{Register}
use Rattle.pcfs_session.specs.Interpreter.{IsDecidedAs, IsFollowed}
use Rattle.pcfs_session.specs.LineAnswer.{signature_under}
use Rattle.pcfs_session.proofs.InterpreterLemmas.{IsFollowed-register}
use Rattle.pcfs_session.proofs.StoredLemmas.{LeadsTo-also}
use Rattle.pcfs_session.proofs.interpreter.Interpreter.register.Goals as goal

pub returns-clause-ok : goal.returns-clause-ok
returns-clause-ok g c =
    IfOk-weaker c.ask.result _ _ (λ reply asked.
    LeadsTo-also g.D.Disk.clock g.D.Disk.left_since g.D.Disk.image g.D.Disk.faults (IsDecidedAs (requests.Register c.args.statement c.in_ok-signature.signature)) (IsFollowed (Register c.args.signature c.args.statement)) c.args.self.now c.ask.new.self reply (λ met decided.
    IsFollowed-register _ _ c.args.signature c.args.statement c.in_ok-signature.signature reply
    (c.in_ok-signature.ensures ∙ ap (λ r. signature_under r c.args.statement c.args.signature) (c.ring.ensures ∙ (ap (λ h. h.ring) c.gate.ensures ∙ ap (λ i. i.store.ring) c.self.view_is))) decided) asked) c.ask.ensures.ok
