-- The byte and the version, and then the goal.
use Rattle.std.proofs.Common.{◌∙◌, ap, ℕ, [], ◌∷◌, subst, sym}
use Rattle.bl_syntax.specs.declared.grant.Goal.{Goal}
use Rattle.procap.specs.GrantSpelling.{goal_spelling, version_of}
use Rattle.record_parts.specs.Fronts.{after, Gives}
use Rattle.record_parts.proofs.FrontLemmas.{none_after, some_after}
use Rattle.record_parts.proofs.grant_matching.after_head.Goals as goal

pub returns-in-None-clause-rest : goal.returns-in-None-clause-rest
returns-in-None-clause-rest c =
    let same = c.version_of-version.ensures ∙ ap version_of c.cited.ensures.same in
    none_after (71 ∷ version_of c.args.grant.now.cited ∷ []) (goal_spelling c.args.grant.now.goal) c.args.bytes.now (ap (λ (v : ℕ). after (71 ∷ v ∷ []) c.args.bytes.now) (sym same) ∙ c.in-None.ensures)

pub returns-in-Some-clause-rest : goal.returns-in-Some-clause-rest
returns-in-Some-clause-rest c =
    let same = c.version_of-version.ensures ∙ ap version_of c.cited.ensures.same in
    some_after _ (71 ∷ version_of c.args.grant.now.cited ∷ []) (goal_spelling c.args.grant.now.goal) c.args.bytes.now c.in-Some.rest.now c.after_goal.result
    (ap (λ (v : ℕ). after (71 ∷ v ∷ []) c.args.bytes.now) (sym same) ∙ c.in-Some.ensures)
    (subst (λ (g : Goal). Gives (λ x. x.now) c.after_goal.result (after (goal_spelling g) c.in-Some.rest.now)) c.goal.ensures c.after_goal.ensures.rest)
