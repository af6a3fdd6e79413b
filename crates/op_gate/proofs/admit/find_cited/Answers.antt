-- Numbers that cannot be cited, or one that is absent, are not all found.
use Rattle.std.proofs.Common.{refl}
use Rattle.access_history.proofs.CitingLemmas.{absent_not_found}
use Rattle.op_gate.specs.Citations.{book_among}
use Rattle.op_gate.proofs.CheckLemmas.{is_so, is_not_so}
use Rattle.op_gate.proofs.admit.find_cited.Goals as goal

pub returns-then-not-are_citable : goal.returns-then-not-are_citable
returns-then-not-are_citable c = (refl, λ cites citable found. is_not_so _ _ c.are_citable.ensures c.if-not-are_citable.true citable)

pub returns-in-Ok-Cited : goal.returns-in-Ok-Cited
returns-in-Ok-Cited c = (is_so _ _ c.are_citable.ensures c.if-not-are_citable.false, rw c.in-Ok-Cited.field-0-is at c.in-Ok-Cited.ensures)

pub returns-in-Ok-Absent : goal.returns-in-Ok-Absent
returns-in-Ok-Absent c = (refl, λ cites citable found. absent_not_found (book_among c.args.among c.args.entries.now) c.args.numbers.now c.in-Ok-Absent.field-0-0 cites (rw c.in-Ok-Absent.field-0-is at c.in-Ok-Absent.ensures) found)
