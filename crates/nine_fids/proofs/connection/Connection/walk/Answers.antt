use Rattle.nine_fids.specs.States.{fid_at}
use Rattle.nine_fids.specs.Tests.{walk_tests}
use Rattle.nine_fids.specs.Steps.{at_fid, walk_from}
use Rattle.nine_fids.proofs.TakingLemmas.{tested_refused, tested_passed, can_walk}
use Rattle.nine_fids.proofs.connection.Connection.walk.Goals as goal

pub returns-in-Some : goal.returns-in-Some
returns-in-Some c =
    tested_refused c.args.self.now (walk_tests c.args.self.now c.args.fid c.args.newfid c.args.names.now)
    (at_fid c.args.self.now (fid_at c.args.self.now c.args.fid) (walk_from c.args.self.now c.args.fid c.args.newfid c.args.names.now)) c.in-Some.error c.in-Some.ensures

pub walk_at-requires : goal.walk_at-requires
walk_at-requires c = can_walk c.args.self.now c.args.fid c.args.newfid c.args.names.now c.in-None.ensures

pub returns-in-None : goal.returns-in-None
returns-in-None c =
    tested_passed c.args.self.now (walk_tests c.args.self.now c.args.fid c.args.newfid c.args.names.now) _
    (at_fid c.args.self.now (fid_at c.args.self.now c.args.fid) (walk_from c.args.self.now c.args.fid c.args.newfid c.args.names.now)) c.in-None.ensures c.walk_at.ensures
