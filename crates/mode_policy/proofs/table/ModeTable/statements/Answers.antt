-- What is said of each file, one after the other.
use Rattle.std.proofs.Common.{◌≤◌, length, arith}
use Rattle.mode_policy.proofs.StatingLemmas.{file_more, file_stops, all_files_said}
use Rattle.mode_policy.proofs.table.ModeTable.statements.Goals as goal

pub returns-in_err-state_file : goal.returns-in_err-state_file
returns-in_err-state_file c =
    file_stops c.args.self.now c.args.from c.args.to c.loop-place.place c.file.result c.loop-place.out c.file.ensures c.loop-place.invariant c.state_file.new.out c.from_residual.result c.in_err-state_file.field-0.0
    c.from_residual.ensures.1 c.in_err-state_file.ensures

pub loop-place-preserved : goal.loop-place-preserved
loop-place-preserved c =
    file_more c.args.self.now c.args.from c.args.to c.loop-place.place c.file.result c.loop-place.out c.file.ensures c.loop-place.invariant c.state_file.new.out c.in_ok-state_file.ensures

pub returns : goal.returns
returns c =
    let past : length c.args.self.now.files ≤ c.loop-place.place = omega (arith, c.loop-place-test.false, c.file_count-place-end.ensures) in
    all_files_said c.args.self.now c.args.from c.args.to c.loop-place.place c.loop-place.out c.loop-place.invariant past
