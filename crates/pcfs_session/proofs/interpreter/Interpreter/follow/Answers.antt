-- Each command is answered.
use Rattle.std.proofs.Common.{subst, sym}
use Rattle.std.proofs.lemmas.Result.{IfOk-weaker}
use Rattle.std.proofs.lemmas.Int.{to_z-of_z}
use Rattle.std.specs.Int.{w64}
use Rattle.line_forms.specs.declared.command.Command.TheVariants.{Register, Withdraw, Verify, Procap, Checkpoint, Do}
use Rattle.line_forms.specs.Said.{IsWithin}
use Rattle.pcfs_session.specs.Interpreter.{IsFollowed}
use Rattle.access_history.proofs.HistoryLemmas.{SFits-moment}
use Rattle.pcfs_session.proofs.InterpreterLemmas.{IsFollowed-at, IsFollowed-as, IsFollowed-same}
use Rattle.pcfs_session.proofs.StoredLemmas.{LeadsTo-same, LeadsTo-changed, LeadsTo-also}
use Rattle.pcfs_session.proofs.interpreter.Interpreter.follow.Goals as goal

pub returns-in-At-clause-ok : goal.returns-in-At-clause-ok
returns-in-At-clause-ok g c =
    LeadsTo-changed g.D.Disk.clock g.D.Disk.left_since g.D.Disk.image g.D.Disk.faults (IsFollowed c.args.command) _ c.args.self.now _ _ c.self.view_is c.requires.running
    (IsFollowed-at c.args.self.now _ _ _ _ _ c.args.command c.in-At.second _ (sym c.self.view_is) c.in-At.is (to_z-of_z w64 c.in-At.second (SFits-moment c.in-At.second (subst IsWithin c.in-At.is c.requires.within))))

pub returns-in-As-clause-ok : goal.returns-in-As-clause-ok
returns-in-As-clause-ok g c =
    LeadsTo-changed g.D.Disk.clock g.D.Disk.left_since g.D.Disk.image g.D.Disk.faults (IsFollowed c.args.command) _ c.args.self.now _ _ c.self-in-As.view_is c.requires.running
    (IsFollowed-as c.args.self.now _ _ _ _ _ c.args.command c.in-As.who (sym c.self-in-As.view_is) c.in-As.is)

pub returns-in-Register-clause-ok : goal.returns-in-Register-clause-ok
returns-in-Register-clause-ok g c =
    IfOk-weaker c.register.result _ _ (λ reply. LeadsTo-also g.D.Disk.clock g.D.Disk.left_since g.D.Disk.image g.D.Disk.faults (IsFollowed (Register c.in-Register.signature c.in-Register.statement)) (IsFollowed c.args.command) c.args.self.now c.register.new.self reply
    (λ met followed. IsFollowed-same _ _ c.args.command _ reply c.in-Register.is followed)) c.register.ensures.ok

pub returns-in-Withdraw-clause-ok : goal.returns-in-Withdraw-clause-ok
returns-in-Withdraw-clause-ok g c =
    IfOk-weaker c.withdraw.result _ _ (λ reply. LeadsTo-also g.D.Disk.clock g.D.Disk.left_since g.D.Disk.image g.D.Disk.faults (IsFollowed (Withdraw c.in-Withdraw.number c.in-Withdraw.signature)) (IsFollowed c.args.command) c.args.self.now c.withdraw.new.self reply
    (λ met followed. IsFollowed-same _ _ c.args.command _ reply c.in-Withdraw.is followed)) c.withdraw.ensures.ok

pub verify-requires-clause-citable : goal.verify-requires-clause-citable
verify-requires-clause-citable g c = (subst IsWithin c.in-Verify.is c.requires.within).0

pub returns-in-Verify-clause-ok : goal.returns-in-Verify-clause-ok
returns-in-Verify-clause-ok g c =
    IfOk-weaker c.verify.result _ _ (λ reply. LeadsTo-also g.D.Disk.clock g.D.Disk.left_since g.D.Disk.image g.D.Disk.faults (IsFollowed (Verify c.in-Verify.goal c.in-Verify.numbers c.in-Verify.proof)) (IsFollowed c.args.command) c.args.self.now c.verify.new.self reply
    (λ met followed. IsFollowed-same _ _ c.args.command _ reply c.in-Verify.is followed)) c.verify.ensures.ok

pub check-requires : goal.check-requires
check-requires g c = (subst IsWithin c.in-Check.is c.requires.within).0

pub returns-in-Check-clause-ok : goal.returns-in-Check-clause-ok
returns-in-Check-clause-ok g c =
    IfOk-weaker c.check.result _ _ (λ reply followed. LeadsTo-same g.D.Disk.clock g.D.Disk.left_since g.D.Disk.image g.D.Disk.faults (IsFollowed c.args.command) c.args.self.now reply c.requires.running (IsFollowed-same _ _ c.args.command _ reply c.in-Check.is followed)) c.check.ensures

pub returns-in-Procap-clause-ok : goal.returns-in-Procap-clause-ok
returns-in-Procap-clause-ok g c =
    IfOk-weaker c.show.result _ _ (λ reply. LeadsTo-also g.D.Disk.clock g.D.Disk.left_since g.D.Disk.image g.D.Disk.faults (IsFollowed (Procap c.in-Procap.number)) (IsFollowed c.args.command) c.args.self.now c.show.new.self reply
    (λ met followed. IsFollowed-same _ _ c.args.command _ reply c.in-Procap.is followed)) c.show.ensures.ok

pub act-requires-clause-operation : goal.act-requires-clause-operation
act-requires-clause-operation g c = (subst IsWithin c.in-Do.is c.requires.within).operation

pub act-requires-clause-one_each : goal.act-requires-clause-one_each
act-requires-clause-one_each g c = (subst IsWithin c.in-Do.is c.requires.within).one_each

pub act-requires-clause-few_bytes : goal.act-requires-clause-few_bytes
act-requires-clause-few_bytes g c = (subst IsWithin c.in-Do.is c.requires.within).few_bytes

pub returns-in-Do-clause-ok : goal.returns-in-Do-clause-ok
returns-in-Do-clause-ok g c =
    IfOk-weaker c.act.result _ _ (λ reply. LeadsTo-also g.D.Disk.clock g.D.Disk.left_since g.D.Disk.image g.D.Disk.faults (IsFollowed (Do c.in-Do.op c.in-Do.words)) (IsFollowed c.args.command) c.args.self.now c.act.new.self reply
    (λ met followed. IsFollowed-same _ _ c.args.command _ reply c.in-Do.is followed)) c.act.ensures.ok

pub returns-in-Checkpoint-clause-ok : goal.returns-in-Checkpoint-clause-ok
returns-in-Checkpoint-clause-ok g c =
    IfOk-weaker c.checkpoint.result _ _ (λ reply. LeadsTo-also g.D.Disk.clock g.D.Disk.left_since g.D.Disk.image g.D.Disk.faults (IsFollowed Checkpoint) (IsFollowed c.args.command) c.args.self.now c.checkpoint.new.self reply
    (λ met followed. IsFollowed-same _ _ c.args.command _ reply c.in-Checkpoint.is followed)) c.checkpoint.ensures.ok
