-- The issue of a number.
use Rattle.std.proofs.Common.{◌≡◌, ◌<◌, ◌≤◌, ◌⊎◌, ℕ, zero, suc, List, length, refl, sym, ap, ◌∙◌, ⊎_elim, arith, Some, None}
use Rattle.std.specs.List.{slice_get}
use Rattle.std.specs.Option.{option_map}
use Rattle.std.proofs.lemmas.Option.{slice_get_past}
use Rattle.access_history.specs.declared.event.Issue.{Issue}
use Rattle.history_text.specs.IssueBasis.{issue_numbered, with_number}

pub numbered_read : (issues : List Issue) (number place : ℕ) (issue : Issue) → number ≡ suc place → slice_get issues place ≡ Some issue → issue_numbered issues number ≡ Some (with_number number issue)
numbered_read issues number place issue is found =
    ap (issue_numbered issues) is ∙ ap (option_map (with_number (suc place))) found ∙ ap (λ (n : ℕ). Some (with_number n issue)) (sym is)

pub numbered_none : (issues : List Issue) (number : ℕ) → (number ≡ 0) ⊎ (length issues < number) → issue_numbered issues number ≡ None
numbered_none issues zero past = refl
numbered_none issues (suc place) past =
    ap (option_map (with_number (suc place))) (slice_get_past issues place (⊎_elim (λ z. absurd (omega (arith, z))) (λ lt. let within : length issues ≤ place = omega (arith, lt) in within) past))
