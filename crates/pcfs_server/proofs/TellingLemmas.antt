-- What is taken off the front of what is told.
use Rattle.std.proofs.Common.{◌≡◌, ◌∙◌, ℕ, zero, suc, ◌+◌, List, [], ◌∷◌, drop, Option, Some, None, refl, sym, ap, subst}
use Rattle.std.specs.Prelude.{slice_get}
use Rattle.std.specs.Option.{option_map}
use Rattle.std.proofs.lemmas.List.{drop-drop}
use Rattle.pcfs_ports.specs.Telling.{IsAt, AreTakenOff}

-- nothing was taken at first
pub taken_none : {A : Type 0} (told : Option (List A)) → AreTakenOff 0 told told
taken_none None = refl
taken_none (Some all) = refl

abbrev some_list : {A : Type 0} → List A → Option (List A)
some_list all = Some all

dropped_more : {A : Type 0} (first second : ℕ) (told : Option (List A)) → option_map (drop second) (option_map (drop first) told) ≡ option_map (drop (first + second)) told
dropped_more first second None = refl
dropped_more first second (Some all) = ap some_list (drop-drop second first all)

-- some, and then some more
pub taken_more : {A : Type 0} (first second : ℕ) (old middle new : Option (List A)) → AreTakenOff first old middle → AreTakenOff second middle new → AreTakenOff (first + second) old new
taken_more first second old middle new taken more = more ∙ ap (option_map (drop second)) taken ∙ dropped_more first second old

-- what comes first after so many is at that place
pub get_dropped : {A : Type 0} (all : List A) (place : ℕ) (x : A) → slice_get (drop place all) 0 ≡ Some x → slice_get all place ≡ Some x
get_dropped [] zero x found = found
get_dropped [] (suc place) x found = found
get_dropped (y ∷ all) zero x found = found
get_dropped (y ∷ all) (suc place) x found = get_dropped all place x found

pub first_is_at : {I O : Type 0} (place : ℕ) (old new : Option (List (I × O))) (input : I) (output : O) → AreTakenOff place old new → IsAt new 0 input output → IsAt old place input output
first_is_at place None new input output taken first = tt
first_is_at place (Some all) new input output taken first =
    get_dropped all place (input, output) (subst (λ (told : Option (List _)). IsAt told 0 input output) taken first)

-- So what is expected of the connection at each place is expected of the one that comes next, under the number after those that were taken.
pub expected_here : {I O : Type 0} (expects : ℕ → I → O → Type 0) (first : ℕ) (queue now : Option (List (I × O))) (place number : ℕ) (input : I) (output : O) →
    ((place : ℕ) (input : I) (output : O) → IsAt queue place input output → expects (first + place + 1) input output) → AreTakenOff place queue now → IsAt now 0 input output → number ≡ first + place + 1 → expects number input output
expected_here expects first queue now place number input output each taken next is =
    subst (λ (n : ℕ). expects n input output) (sym is) (each place input output (first_is_at place queue now input output taken next))
