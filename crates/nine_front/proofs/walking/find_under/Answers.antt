-- The turn names a node, or it ends the walk.
use Rattle.std.proofs.Common.{◌∙◌}
use Rattle.nine_front.specs.Asking.{look_of}
use Rattle.nine_front.proofs.MarkLemmas.{stopped_line}
use Rattle.nine_front.proofs.ShortLemmas.{lookup_shortly, may_looked_short}
use Rattle.nine_front.proofs.WalkedLemmas.{found_node, walked_to_end, looked_lock}
use Rattle.nine_front.proofs.walking.find_under.Goals as goal

pub node_of-requires : goal.node_of-requires
node_of-requires g c =
    may_looked_short 0 (g.C.TurnClock.gives c.args.clock.now) (look_of c.args.who c.args.node c.args.name.now c.args.p) c.args.pass.now c.look_up-replied.new.pass c.look_up-replied.result.0 c.look_up-replied.result.1 (lookup_shortly c.args.node c.args.name.now) c.look_up-replied.ensures.looked

pub returns-in-Ok-clause-found : goal.returns-in-Ok-clause-found
returns-in-Ok-clause-found g c =
    found_node (g.C.TurnClock.gives c.args.clock.now) c.args.connection.now.purse c.args.who c.args.node c.in-Ok.child c.args.name.now c.args.p c.args.pass.now c.look_up-replied.new.pass c.look_up-replied.result.0 c.look_up-replied.result.1 c.requires.fits c.look_up-replied.ensures.looked c.in-Ok.ensures.found

pub returns-in-Ok-clause-same_lock : goal.returns-in-Ok-clause-same_lock
returns-in-Ok-clause-same_lock g c =
    looked_lock (g.C.TurnClock.gives c.args.clock.now) (look_of c.args.who c.args.node c.args.name.now c.args.p) c.args.pass.now c.look_up-replied.new.pass c.look_up-replied.result.0 c.look_up-replied.result.1 c.look_up-replied.ensures.looked ∙ c.requires.lock

pub returns-in-Err-clause-not_found : goal.returns-in-Err-clause-not_found
returns-in-Err-clause-not_found g c = λ names.
    walked_to_end (g.C.TurnClock.gives c.args.clock.now) c.args.connection.now.purse c.args.who c.args.node c.args.name.now names c.args.p c.args.pass.now c.look_up-replied.new.pass c.look_up-replied.result.0 c.look_up-replied.result.1 c.in-Err.line c.requires.fits c.look_up-replied.ensures.looked c.in-Err.ensures.none c.in-Err.ensures.says

pub returns-in-Err-clause-stopped : goal.returns-in-Err-clause-stopped
returns-in-Err-clause-stopped g c = λ is. c.look_up-replied.ensures.stopped (stopped_line c.look_up-replied.result.0 c.in-Err.line c.in-Err.ensures.says is)

pub returns-in-Err-clause-writable : goal.returns-in-Err-clause-writable
returns-in-Err-clause-writable g c = c.in-Err.ensures.writable

pub returns-in-Err-clause-same_lock : goal.returns-in-Err-clause-same_lock
returns-in-Err-clause-same_lock g c =
    looked_lock (g.C.TurnClock.gives c.args.clock.now) (look_of c.args.who c.args.node c.args.name.now c.args.p) c.args.pass.now c.look_up-replied.new.pass c.look_up-replied.result.0 c.look_up-replied.result.1 c.look_up-replied.ensures.looked ∙ c.requires.lock
