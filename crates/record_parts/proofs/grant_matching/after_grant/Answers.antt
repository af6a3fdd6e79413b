-- The head, and then the parts.
use Rattle.std.proofs.Common.{◌∷◌, refl}
use Rattle.procap.specs.GrantSpelling.{goal_spelling, grant_spelling, parts_spelling, version_of}
use Rattle.record_parts.proofs.FrontLemmas.{none_after, some_after}
use Rattle.record_parts.proofs.grant_matching.after_grant.Goals as goal

pub returns-in-None-clause-rest : goal.returns-in-None-clause-rest
unfolding grant_spelling
returns-in-None-clause-rest c =
    let g = c.args.grant.now in
    none_after (71 ∷ version_of g.cited ∷ goal_spelling g.goal) (parts_spelling g) c.args.bytes.now c.in-None.ensures.rest

pub returns-in-Some-clause-rest : goal.returns-in-Some-clause-rest
unfolding grant_spelling
returns-in-Some-clause-rest c =
    let g = c.args.grant.now in
    some_after _ (71 ∷ version_of g.cited ∷ goal_spelling g.goal) (parts_spelling g) c.args.bytes.now c.in-Some.rest.now c.after_parts.result c.in-Some.ensures.rest c.after_parts.ensures.rest

pub returns-in-Some-clause-spelled : goal.returns-in-Some-clause-spelled
returns-in-Some-clause-spelled c some = record {
  goal = c.in-Some.ensures.spelled refl;
  times = c.after_parts.ensures.times some;
  states = c.after_parts.ensures.states some;
  names = c.after_parts.ensures.names some;
  grant = c.after_parts.ensures.kept;
}
