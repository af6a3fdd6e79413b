-- Each name that is found leads on.
use Rattle.std.proofs.Common.{codes}
use Rattle.nine_front.specs.Views.{walk_end, walk_error_text}
use Rattle.nine_front.proofs.WalkedLemmas.{walked_from, walked_no_further, walked_nowhere, no_end, end_is}
use Rattle.nine_front.proofs.walking.+walk_names.Goals as goal

pub returns-in-None-clause-walked : goal.returns-in-None-clause-walked
returns-in-None-clause-walked g t c = walked_nowhere (g.C.TurnClock.gives c.args.clock.now) c.args.connection.now.purse c.args.who c.args.node c.args.names.now c.args.found.now c.args.pass.now c.in-None.ensures

pub returns-in-Err-clause-walked : goal.returns-in-Err-clause-walked
returns-in-Err-clause-walked g t c =
    walked_no_further (g.C.TurnClock.gives c.args.clock.now) c.args.connection.now.purse c.args.who c.args.node c.in-Some.name.now c.in-Some.others c.args.names.now c.args.found.now (walk_error_text c.in-Err.error) c.args.pass.now c.find.new.pass
    c.in-Some.ensures c.in-Err.ensures.not_found

pub returns-in-Ok-clause-walked : goal.returns-in-Ok-clause-walked
returns-in-Ok-clause-walked g t c =
    walked_from (g.C.TurnClock.gives c.args.clock.now) c.args.connection.now.purse c.args.who c.args.node c.in-Ok.child c.in-Some.name.now c.in-Some.others c.args.names.now c.in-Ok.kind c.args.found.now c.push.new.self c.walk_names.new.found (walk_end c.walk_names.result) c.args.pass.now c.find.new.pass c.walk_names.new.pass
    c.in-Some.ensures c.push.ensures c.in-Ok.ensures.found c.walk_names.ensures.walked

pub returns-in-None-clause-stopped : goal.returns-in-None-clause-stopped
returns-in-None-clause-stopped g t c = λ is. absurd (no_end (codes "stopped") is)

pub returns-in-Err-clause-stopped : goal.returns-in-Err-clause-stopped
returns-in-Err-clause-stopped g t c = λ is. c.in-Err.ensures.stopped (end_is c.in-Err.error (codes "stopped") is)
