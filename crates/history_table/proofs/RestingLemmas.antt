-- What rests on a statement, of one issue more.
use Rattle.std.proofs.Common.{◌≡◌, ◌+◌, ◌<◌, ◌≤◌, ℕ, zero, suc, List, [], ◌∷◌, ◌++◌, true, false, length, take, get_or, refl, sym, ap, ◌∙◌, append_assoc, arith, Some}
use Rattle.std.specs.List.{slice_get}
use Rattle.std.proofs.lemmas.Bool.{cond-true, cond-false}
use Rattle.std.proofs.lemmas.List.{append-nil, take_all}
use Rattle.std.proofs.lemmas.Option.{none-some, same_Some, slice_get_read}
use Rattle.access_history.specs.declared.event.Issue.{Issue}
use Rattle.access_history.specs.Base.{BaseView}
use Rattle.history_table.specs.declared.resting.Rest.{Rest}
use Rattle.history_table.specs.Resting.{does_cite, rest_of, resting_on, rests_added, rests_from}

-- an issue that does not cite the statement adds nothing
pub none_added : (state : BaseView) (statement number : ℕ) (issue : Issue) (rests : List Rest) → does_cite statement issue ≡ false → rests ≡ rests ++ rests_added state statement number issue
none_added state statement number issue rests not =
    sym (append-nil rests) ∙ ap (λ (rs : List Rest). rests ++ rs) (sym (cond-false (does_cite statement issue) (rest_of state number issue ∷ []) [] not))

-- and one that does adds itself
pub one_added : (state : BaseView) (statement number : ℕ) (issue : Issue) (rests : List Rest) (rest : Rest) → does_cite statement issue ≡ true → rest ≡ rest_of state number issue → rests ++ rest ∷ [] ≡ rests ++ rests_added state statement number issue
one_added state statement number issue rests rest cites is =
    ap (λ (r : Rest). rests ++ r ∷ []) is ∙ ap (λ (rs : List Rest). rests ++ rs) (sym (cond-true (does_cite statement issue) (rest_of state number issue ∷ []) [] cites))

-- after the next issue
pub rests_next : (state : BaseView) (statement number : ℕ) (issues : List Issue) (place : ℕ) (issue : Issue) (given : ℕ) → slice_get issues place ≡ Some issue → given ≡ number + place →
    rests_from state statement number (take (suc place) issues) ≡ rests_from state statement number (take place issues) ++ rests_added state statement given issue
rests_next state statement number [] place issue given found is = absurd (none-some _ found)
rests_next state statement number (first ∷ issues) zero issue given found is =
    let number_is : number ≡ given = omega (arith, is) in
    append-nil (rests_added state statement number first)
    ∙ ap (λ (n : ℕ). rests_added state statement n first) number_is ∙ ap (rests_added state statement given) (same_Some _ _ found)
rests_next state statement number (first ∷ issues) (suc place) issue given found is =
    ap (λ (rs : List Rest). rests_added state statement number first ++ rs) (rests_next state statement (number + 1) issues place issue given found (omega (arith, is)))
    ∙ sym (append_assoc (rests_added state statement number first) (rests_from state statement (number + 1) (take place issues)) (rests_added state statement given issue))

-- one issue more was looked at
pub rests_grow : (state : BaseView) (statement : ℕ) (issues : List Issue) (place next given : ℕ) (issue : Issue) (rests more : List Rest) → place < length issues → next ≡ suc place → given ≡ suc place → issue ≡ get_or issues place issue →
    rests ≡ rests_from state statement 1 (take place issues) → more ≡ rests ++ rests_added state statement given issue → more ≡ rests_from state statement 1 (take next issues)
rests_grow state statement issues place next given issue rests more below next_is given_is read is added =
    added ∙ ap (λ (rs : List Rest). rs ++ rests_added state statement given issue) is
    ∙ sym (rests_next state statement 1 issues place issue given (slice_get_read issues (length issues) place issue refl below read) (omega (arith, given_is)))
    ∙ ap (λ (n : ℕ). rests_from state statement 1 (take n issues)) (sym next_is)

-- and all were
pub rests_all : (state : BaseView) (statement : ℕ) (issues : List Issue) (place : ℕ) (rests : List Rest) → issues ≡ state.issues → length issues ≤ place → rests ≡ rests_from state statement 1 (take place issues) → rests ≡ resting_on state statement
rests_all state statement issues place rests same past is = is ∙ ap (rests_from state statement 1) (take_all place issues past ∙ same)
