-- The procaps so far.
use Rattle.std.proofs.Common.{◌≡◌, take}
use Rattle.journal_records.proofs.event.copy_procaps.Given as goal

abbrev pub invariant-loop-procap : goal.invariant-loop-procap
invariant-loop-procap l = l.copied ≡ take l.procap-index l.procaps
