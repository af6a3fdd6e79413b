-- The calendar has the date, so the test of it passes.
use Rattle.std.proofs.Common.{ap, ◌∙◌, refl, rules, arith, w8, w16, w64, Some}
use Rattle.std.proofs.lemmas.Int.{to_z-of_z, to_z_pos}
use Rattle.bl_tokens.proofs.DateLemmas.{date_second-from_signed}
use Rattle.bl_tokens.proofs.dates.date_second.Goals as goal

pub returns-in-Ok-clause-value : goal.returns-in-Ok-clause-value
returns-in-Ok-clause-value c =
    let h = c.in-Ok.ensures in
    let bits = to_z-of_z w64 c.first_second.result (search rules) in
    let year = to_z_pos w16 c.args.year (omega arith) in
    let month = to_z_pos w8 c.args.month (omega arith) in
    let day = to_z_pos w8 c.args.day (omega arith) in
    ap Some (bits ∙ c.first_second.ensures.value) ∙ date_second-from_signed c.args.year c.args.month c.args.day _ _ _ c.in-Ok.date year month day c.if-year-eq0.false (h.succeeds.0 refl) h.value
