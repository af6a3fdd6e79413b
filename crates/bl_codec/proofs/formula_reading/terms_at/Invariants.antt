-- The terms so far and those that are still read are those that the call reads.
use Rattle.std.proofs.Common.{◌≡◌, ◌-◌}
use Rattle.bl_syntax.specs.FormulaReading.{terms_at}
use Rattle.bl_codec.proofs.TermsLemmas.{with_front}
use Rattle.bl_codec.proofs.formula_reading.terms_at.Given as goal

abbrev pub invariant-loop : goal.invariant-loop
invariant-loop l = with_front l.terms (terms_at (l.count - l.counter) l.input l.still l.rest) ≡ terms_at l.count l.input l.left l.bytes
