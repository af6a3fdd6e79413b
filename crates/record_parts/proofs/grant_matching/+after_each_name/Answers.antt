-- The first, and then the others.
use Rattle.std.proofs.Common.{get_or, refl}
use Rattle.procap.specs.GrantSpelling.{name_spelling}
use Rattle.record_parts.proofs.FrontLemmas.{none_first, some_first}
use Rattle.record_parts.proofs.grant_matching.+after_each_name.Goals as goal

pub returns-in-None-clause-rest : goal.returns-in-None-clause-rest
returns-in-None-clause-rest t c =
    none_first name_spelling c.args.numbers.now (get_or c.args.numbers.now 0 0) 0 c.args.bytes.now c.in-len1-up.len_at_least refl (rw c.u32_bytes.ensures at c.in-None.ensures)

pub returns-in-Some-clause-rest : goal.returns-in-Some-clause-rest
returns-in-Some-clause-rest t c =
    some_first _ name_spelling c.args.numbers.now (get_or c.args.numbers.now 0 0) 0 c.args.bytes.now c.in-Some.rest.now c.after_each_name.result c.in-len1-up.len_at_least refl (rw c.u32_bytes.ensures at c.in-Some.ensures) c.after_each_name.ensures.rest
