-- How many there are, and then each.
use Rattle.std.proofs.Common.{◌≡◌, ◌≤◌, ℕ, List, [], ◌∷◌, ◌++◌, length, refl, subst, sym, ap, ◌∙◌, arith}
use Rattle.std.specs.List.{flat_map}
use Rattle.procap.specs.GrantSpelling.{name_spelling, names_spelling}
use Rattle.record_parts.specs.Fronts.{after, Gives}
use Rattle.record_parts.proofs.FrontLemmas.{none_after, some_after}
use Rattle.record_parts.proofs.grant_matching.after_names.Goals as goal

named : (numbers : List ℕ) → 1 ≤ length numbers → names_spelling numbers ≡ (length numbers ∷ []) ++ flat_map name_spelling numbers
named [] some = absurd (omega (arith, some))
named (number ∷ numbers) some = refl

pub returns-in-None-clause-rest : goal.returns-in-None-clause-rest
returns-in-None-clause-rest c =
    let numbers = c.args.numbers.now in
    ap (λ (front : List ℕ). after front c.args.bytes.now) (named numbers c.in-len1-up.len_at_least) ∙ none_after (length numbers ∷ []) (flat_map name_spelling numbers) c.args.bytes.now c.in-None.ensures

pub returns-in-Some-clause-rest : goal.returns-in-Some-clause-rest
returns-in-Some-clause-rest c =
    let numbers = c.args.numbers.now in
    subst (λ (front : List ℕ). Gives (λ x. x.now) c.after_each_name.result (after front c.args.bytes.now)) (sym (named numbers c.in-len1-up.len_at_least))
    (some_after _ (length numbers ∷ []) (flat_map name_spelling numbers) c.args.bytes.now c.in-Some.rest.now c.after_each_name.result c.in-Some.ensures c.after_each_name.ensures.rest)
