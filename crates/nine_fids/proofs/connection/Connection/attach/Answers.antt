use Rattle.std.proofs.Common.{ap, ◌∙◌}
use Rattle.nine_fids.specs.Tests.{attach_tests}
use Rattle.nine_fids.specs.Steps.{attach_file, attach_outcome}
use Rattle.nine_fids.proofs.TakingLemmas.{tested_refused, tested_passed, attach_room}
use Rattle.nine_fids.proofs.connection.Connection.attach.Goals as goal

pub returns-in-Some : goal.returns-in-Some
returns-in-Some c =
    tested_refused c.args.self.now (attach_tests c.args.self.now c.args.fid c.args.afid c.args.aname.now) (attach_outcome c.args.self.now c.args.fid c.args.aname.now) c.in-Some.error c.in-Some.ensures

pub attach_file-requires : goal.attach_file-requires
attach_file-requires c = attach_room c.args.self.now c.args.fid c.args.afid c.args.aname.now c.in-None.ensures

pub returns-in-None : goal.returns-in-None
returns-in-None c =
    tested_passed c.args.self.now (attach_tests c.args.self.now c.args.fid c.args.afid c.args.aname.now) _ (attach_outcome c.args.self.now c.args.fid c.args.aname.now) c.in-None.ensures
    (c.attach_file.ensures ∙ ap (attach_file c.args.self.now c.args.fid) c.file_named-file.ensures)
