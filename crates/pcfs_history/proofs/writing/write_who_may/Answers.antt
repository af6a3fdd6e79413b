-- After an error some first part of the texts of those issues is out, and there are no others.
use Rattle.std.proofs.Common.{◌≡◌, ℕ, List, subst, sym}
use Rattle.std.specs.Prelude.{ℤ}
use Rattle.std.specs.Int.{w64}
use Rattle.std.proofs.lemmas.Int.{to_z-of_z}
use mir.Val.{of_z, to_z}
use Rattle.access_history.specs.Answer.{moment_of}
use Rattle.access_history.specs.History.{state_of}
use Rattle.history_table.specs.WhoMay.{AreAdmitting}
use Rattle.pcfs_history.proofs.WhoMayLemmas.{some_of_all}
use Rattle.pcfs_history.proofs.writing.write_who_may.Goals as goal

pub returns-clause-some : goal.returns-clause-some
returns-clause-some g c =
    let state = state_of c.args.history.now in
    let file = c.args.question.now.file in
    let permission = c.args.question.now.permission in
    let clock_is : to_z w64 (of_z w64 c.args.clock) ≡ c.args.clock = to_z-of_z w64 c.args.clock c.ranges.clock in
    let found : AreAdmitting state file permission (moment_of state c.args.clock) c.in_ok-numbers.numbers = subst (λ (clock : ℤ). AreAdmitting state file permission (moment_of state clock) c.in_ok-numbers.numbers) clock_is c.in_ok-numbers.ensures in
    let all : AreAdmitting state file permission (moment_of state c.args.clock) c.as_slice.result.now = subst (λ (numbers : List ℕ). AreAdmitting state file permission (moment_of state c.args.clock) numbers) (sym c.as_slice.ensures) found in
    some_of_all state file permission (moment_of state c.args.clock) c.write_numbers.result c.args.json _ _ c.as_slice.result.now all c.write_numbers.ensures.some
