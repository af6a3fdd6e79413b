-- The words bring their procaps, or the first issue that is not there is reported.
use Rattle.std.proofs.Common.{sym, ap, ◌∙◌}
use Rattle.std.proofs.lemmas.Result.{IfOk-weaker}
use Rattle.access_history.specs.declared.request.StepRequest.TheVariants as requests
use Rattle.line_forms.specs.declared.command.Command.TheVariants.{Do}
use Rattle.pcfs_session.specs.Interpreter.{IsDecidedAs, IsFollowed}
use Rattle.pcfs_session.proofs.FormedLemmas.{same_length}
use Rattle.pcfs_session.proofs.InterpreterLemmas.{unissued_here, brought_here, IsFollowed-do, IsFollowed-do_absent}
use Rattle.pcfs_session.proofs.StoredLemmas.{LeadsTo-same, LeadsTo-also}
use Rattle.pcfs_session.proofs.interpreter.Interpreter.act.Goals as goal

pub returns-in-Some-clause-ok : goal.returns-in-Some-clause-ok
returns-in-Some-clause-ok g c =
    LeadsTo-same g.D.Disk.clock g.D.Disk.left_since g.D.Disk.image g.D.Disk.faults (IsFollowed (Do c.args.op c.args.words.now)) c.args.self.now _ c.requires.running
    (IsFollowed-do_absent _ c.args.op c.args.words.now c.in-Some.number
    (unissued_here c.gate.result.now _ _ c.as_slice.result.now c.args.words.now _ c.add_procaps.new.procaps c.in_ok-number.field-0 c.in-Some.number c.gate.ensures c.self.view_is c.as_slice.ensures c.in-Some.is c.in_ok-number.ensures))

pub ask-requires-clause-well_formed : goal.ask-requires-clause-well_formed
ask-requires-clause-well_formed g c =
    let brought = brought_here c.gate.result.now _ _ c.as_slice.result.now c.args.words.now _ c.add_procaps.new.procaps c.in_ok-number.field-0 c.gate.ensures c.self.view_is c.as_slice.ensures c.in_default.is c.new-procaps.ensures c.in_ok-number.ensures in
    record {
      named = c.ask.invariant.1;
      operation = c.requires.operation;
      brought = record { slots = sym (same_length _ _ c.args.words.now c.add_procaps.new.procaps brought) ∙ c.requires.one_each; few_bytes = c.requires.few_bytes };
    }

pub returns-clause-ok : goal.returns-clause-ok
returns-clause-ok g c =
    let brought = brought_here c.gate.result.now _ _ c.as_slice.result.now c.args.words.now _ c.add_procaps.new.procaps c.in_ok-number.field-0 c.gate.ensures c.self.view_is c.as_slice.ensures c.in_default.is c.new-procaps.ensures c.in_ok-number.ensures in
    IfOk-weaker c.ask-2.result _ _ (λ reply asked.
    LeadsTo-also g.D.Disk.clock g.D.Disk.left_since g.D.Disk.image g.D.Disk.faults (IsDecidedAs (requests.Act _ c.args.op c.add_procaps.new.procaps)) (IsFollowed (Do c.args.op c.args.words.now)) c.args.self.now c.ask-2.new.self reply (λ met decided.
    IsFollowed-do _ _ c.args.op c.args.words.now c.add_procaps.new.procaps _ reply (ap (λ i. i.asker.caller) c.ask.view_is) brought decided) asked) c.ask-2.ensures.ok
