-- What was read has terms with spellings, and so times in the range of moments.
use Rattle.bl_syntax.specs.Formula.{formula_view}
use Rattle.bl_codec.proofs.IsStatementLemmas.{terms_in_range}
use Rattle.byte_rows.proofs.kinds.formula_end.Goals as goal

pub write_formula-written-requires-clause-times : goal.write_formula-written-requires-clause-times
write_formula-written-requires-clause-times c = terms_in_range (formula_view c.in-Ok.found.0) c.in-Ok.ensures.front.found.0.terms
