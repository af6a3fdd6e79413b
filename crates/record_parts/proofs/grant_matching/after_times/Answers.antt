-- How many there are, and then each.
use Rattle.std.proofs.Common.{[], ◌∷◌, length}
use Rattle.std.specs.List.{flat_map}
use Rattle.procap.specs.GrantSpelling.{time_condition_spelling}
use Rattle.record_parts.proofs.FrontLemmas.{none_after, some_after}
use Rattle.record_parts.proofs.grant_matching.after_times.Goals as goal

pub returns-in-None-clause-rest : goal.returns-in-None-clause-rest
returns-in-None-clause-rest c = none_after (length c.args.times.now ∷ []) (flat_map time_condition_spelling c.args.times.now) c.args.bytes.now c.in-None.ensures

pub returns-in-Some-clause-rest : goal.returns-in-Some-clause-rest
returns-in-Some-clause-rest c =
    some_after _ (length c.args.times.now ∷ []) (flat_map time_condition_spelling c.args.times.now) c.args.bytes.now c.in-Some.rest.now c.after_each_time.result c.in-Some.ensures c.after_each_time.ensures.rest
