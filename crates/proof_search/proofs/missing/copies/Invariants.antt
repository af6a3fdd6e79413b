-- The statements so far.
use Rattle.std.proofs.Common.{◌≡◌, take}
use Rattle.proof_search.proofs.missing.copies.Given as goal

abbrev pub invariant-loop-cite : goal.invariant-loop-cite
invariant-loop-cite l = l.copied.items ≡ take l.cite-index l.statements
