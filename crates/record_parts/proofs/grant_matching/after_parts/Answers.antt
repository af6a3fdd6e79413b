-- The conditions on time, those on the state, and the names. A grant names at most 64 statements.
use Rattle.std.proofs.Common.{◌≡◌, ◌∙◌, ap, ℕ, List, ◌++◌, None, Some, subst, sym}
use Rattle.bl_syntax.specs.declared.terms.Constraint.{Constraint}
use Rattle.bl_syntax.specs.declared.terms.StatePred.{StatePred}
use Rattle.bl_syntax.specs.FormulaSpelling.{state_spelling}
use Rattle.bl_syntax.specs.Grant.{GrantView, MayName}
use Rattle.procap.specs.GrantSpelling.{list_spelling, names_spelling, time_condition_spelling}
use Rattle.procap.proofs.NamesLemmas.{few_named}
use Rattle.record_parts.specs.Fronts.{after, Gives}
use Rattle.record_parts.proofs.FrontLemmas.{fronts, none_after, some_after, then_after}
use Rattle.record_parts.proofs.grant_matching.after_parts.Goals as goal

abbrev of_times : GrantView → List ℕ
of_times g = list_spelling time_condition_spelling g.times

abbrev of_states : GrantView → List ℕ
of_states g = list_spelling state_spelling g.states

abbrev behind_times : GrantView → List ℕ
behind_times g = of_states g ++ names_spelling g.cited

pub after_names-requires : goal.after_names-requires
after_names-requires c = few_named c.cited.result.now (subst MayName (sym c.cited.ensures.same) c.cited.ensures.kept.names)

pub returns-in-None-clause-rest : goal.returns-in-None-clause-rest
returns-in-None-clause-rest c =
    let g = c.args.grant.now in
    none_after (of_times g) (behind_times g) c.args.bytes.now (subst (λ (ts : List Constraint). after (list_spelling time_condition_spelling ts) c.args.bytes.now ≡ None) c.times.ensures.same c.in-None.ensures.rest)

pub returns-in-None-after_states-clause-rest : goal.returns-in-None-after_states-clause-rest
returns-in-None-after_states-clause-rest c =
    let g = c.args.grant.now in
    let rest = c.in-Some.rest.now in
    let first = subst (λ (ts : List Constraint). after (list_spelling time_condition_spelling ts) c.args.bytes.now ≡ Some rest) c.times.ensures.same c.in-Some.ensures.rest in
    let second = subst (λ (ss : List StatePred). after (list_spelling state_spelling ss) rest ≡ None) c.states.ensures.same c.in-None-after_states.ensures.rest in
    fronts (of_times g) (behind_times g) c.args.bytes.now ∙ (ap (then_after (behind_times g)) first ∙ none_after (of_states g) (names_spelling g.cited) rest second)

pub returns-in-Some-after_states-clause-rest : goal.returns-in-Some-after_states-clause-rest
returns-in-Some-after_states-clause-rest c =
    let g = c.args.grant.now in
    let rest = c.in-Some.rest.now in
    let first = subst (λ (ts : List Constraint). after (list_spelling time_condition_spelling ts) c.args.bytes.now ≡ Some rest) c.times.ensures.same c.in-Some.ensures.rest in
    let second = subst (λ (ss : List StatePred). after (list_spelling state_spelling ss) rest ≡ Some c.in-Some-after_states.rest.now) c.states.ensures.same c.in-Some-after_states.ensures.rest in
    let third = subst (λ (ns : List ℕ). Gives (λ x. x.now) c.after_names.result (after (names_spelling ns) c.in-Some-after_states.rest.now)) c.cited.ensures.same c.after_names.ensures.rest in
    some_after _ (of_times g) (behind_times g) c.args.bytes.now rest c.after_names.result first (some_after _ (of_states g) (names_spelling g.cited) rest c.in-Some-after_states.rest.now c.after_names.result second third)
