-- The names are walked, and the fid is made.
use Rattle.std.proofs.Common.{◌∙◌, ◌≤◌, length, ap, arith}
use Rattle.nine_messages.specs.Requests.{twalk}
use Rattle.nine_fids.specs.declared.step.Step.TheVariants as steps
use Rattle.nine_fids.specs.declared.connection.Connection.{Connection}
use Rattle.nine_front.specs.Views.{walk_end}
use Rattle.nine_front.proofs.StepLemmas.{comes_to, walk_room, nonce_walked}
use Rattle.nine_front.proofs.WalkedLemmas.{end_fits, walk_fits, was_walked}
use Rattle.nine_front.proofs.answering.walk_to.Goals as goal

pub caller_of-who-requires : goal.caller_of-who-requires
caller_of-who-requires g c = (comes_to c.args.connection.now (twalk c.args.fid c.args.newfid c.args.names.now) (steps.Walk c.args.node) c.requires.step).1.1

pub walk_names-end-requires-clause-few : goal.walk_names-end-requires-clause-few
walk_names-end-requires-clause-few g c =
    let few : length c.args.names.now ≤ 16 = (comes_to c.args.connection.now (twalk c.args.fid c.args.newfid c.args.names.now) (steps.Walk c.args.node) c.requires.step).1.0 in
    omega (arith, few, ap length c.new-found.ensures)

pub walked-requires : goal.walked-requires
walked-requires g c = walk_room c.args.connection.now c.args.fid c.args.newfid c.args.names.now c.args.node c.requires.step

pub returns-clause-answered : goal.returns-clause-answered
returns-clause-answered g c =
    let w = c.walk_names-end.ensures.walked in
    was_walked g.D.Disk.faults (g.C.TurnClock.gives c.args.clock.now) c.args.connection.now c.args.fid c.args.newfid c.args.names.now c.args.node c.caller_of-who.result c.new-found.result c.walk_names-end.new.found w.0 c.as_slice.result.now (walk_end c.walk_names-end.result) c.len.result c.args.pass.now c.walk_names-end.new.pass c.walked.new.self
    c.requires.step c.caller_of-who.ensures c.new-found.ensures w.1 w.2 c.walk_names-end.ensures.stopped c.len.ensures c.as_slice.ensures c.walked.ensures

pub returns-clause-writable : goal.returns-clause-writable
returns-clause-writable g c = walk_fits c.walk_names-end.new.found (walk_end c.walk_names-end.result) c.walk_names-end.ensures.few (λ error is. end_fits c.walk_names-end.result c.walk_names-end.ensures.writable error is)

pub returns-clause-nonce : goal.returns-clause-nonce
returns-clause-nonce g c = ap (λ (s : Connection). s.nonce) c.walked.ensures ∙ nonce_walked c.args.connection.now c.args.newfid c.len.result c.as_slice.result.now
