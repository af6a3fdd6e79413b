-- What is found at the places of a range.
use Rattle.std.proofs.Common.{◌≡◌, ◌+◌, ◌-◌, ℕ, zero, suc, List, [], ◌∷◌, length, map, refl, sym, subst, ◌∙◌, arith, Some}
use Rattle.std.specs.Prelude.{IfOk, MatchResult, Ok, Err}
use Rattle.std.specs.declared.result.Result.{Result}
use Rattle.std.specs.List.{AllZip, range_with_len, slice_get}
use Rattle.std.proofs.lemmas.Option.{none-some, same_Some}
use Rattle.bl_syntax.specs.declared.lists.NoMemory.{NoMemory}
use Rattle.pcfs_audit.specs.Examining.{AreFound}

module _ {A : Type 0} (Finds : ℕ → A → Type 0) where
  abbrev Tested : Type 0
  Tested = Result A NoMemory

  -- this is found at the place, or memory ran out
  abbrev pub FindsTested : ℕ → Tested → Type 0
  FindsTested place tested = IfOk tested (Finds place)

  counted_from : (start count : ℕ) (all : List A) → AllZip FindsTested (range_with_len start count) (map Ok all) → length all ≡ count
  counted_from start zero [] tested = refl
  counted_from start zero (one ∷ all) tested = absurd tested
  counted_from start (suc count) [] tested = absurd tested
  counted_from start (suc count) (one ∷ all) tested = omega (arith, counted_from (start + 1) count all tested.1)

  each_from : (start count : ℕ) (all : List A) → AllZip FindsTested (range_with_len start count) (map Ok all) →
      (place : ℕ) (one : A) → slice_get all place ≡ Some one → Finds (start + place) one
  each_from start zero [] tested place one found = absurd (none-some one found)
  each_from start zero (first ∷ all) tested place one found = absurd tested
  each_from start (suc count) [] tested place one found = absurd tested
  each_from start (suc count) (first ∷ all) tested zero one found =
      let at : start ≡ start + 0 = omega arith in
      subst (λ (n : ℕ). Finds n one) at (subst (Finds start) (same_Some first one found) tested.0)
  each_from start (suc count) (first ∷ all) tested (suc place) one found =
      let at : start + 1 + place ≡ start + suc place = omega arith in
      subst (λ (n : ℕ). Finds n one) at (each_from (start + 1) count all tested.1 place one found)

  -- what all threads found, if memory sufficed
  pub found_all : (count : ℕ) (places : List ℕ) (tested : List Tested) (oks all : List A) → places ≡ range_with_len 0 (count - 0) → AllZip FindsTested places tested → tested ≡ map Ok oks → all ≡ oks → AreFound Finds count all
  found_all count places tested oks all are_places each are_oks same =
      let n : count - 0 ≡ count = omega arith in
      let placed = subst (λ (ps : List ℕ). AllZip FindsTested ps tested) (are_places ∙ (λ i. range_with_len 0 (n i))) each in
      let made = subst (AllZip FindsTested (range_with_len 0 count)) (are_oks ∙ (λ i. map Ok (sym same i))) placed in record {
        counted = counted_from 0 count all made;
        each = λ place one found.
            let at : 0 + place ≡ place = omega arith in
            subst (λ (n : ℕ). Finds n one) at (each_from 0 count all made place one found);
      }

-- what follows where a value is an `Ok`
pub IfOk-of_match : {A E : Type 0} (r : Result A E) (P Q : A → Type 0) (Z : E → Type 0) → MatchResult r P Z → ((v : A) → P v → Q v) → IfOk r Q
IfOk-of_match (Ok v) P Q Z known goes = goes v known
IfOk-of_match (Err e) P Q Z known goes = tt
