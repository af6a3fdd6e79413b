-- The first, and then the others.
use Rattle.bl_syntax.specs.FormulaSpelling.{state_spelling}
use Rattle.record_parts.proofs.FrontLemmas.{some_first}
use Rattle.record_parts.proofs.grant_matching.+after_each_state.Goals as goal

pub returns-in-Some-clause-rest : goal.returns-in-Some-clause-rest
returns-in-Some-clause-rest t c =
    some_first _ state_spelling c.args.states.now c.first-item.result c.first-item.result c.args.bytes.now c.in-Some.rest.now c.after_each_state.result c.in-len1-up.len_at_least c.first-item.is c.in-Some.ensures.rest c.after_each_state.ensures.rest
