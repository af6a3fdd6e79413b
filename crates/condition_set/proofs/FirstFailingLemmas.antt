-- The first item of a list that lacks a property, found from the front.
use Rattle.std.proofs.Common.{◌≡◌, IsTrue, false, ◌<◌, ℕ, suc, List, ◌∷◌, ◌++◌, length, take, drop, get_or, sym, ap, ◌∙◌, arith, drop-cons}
use Rattle.std.specs.List.{AllByRecursion}
use Rattle.std.proofs.lemmas.Bool.{false≢true}
use Rattle.std.proofs.lemmas.List.{take-append-drop}
use Rattle.std.proofs.Math.Seq.{length-take-le}
use Rattle.condition_set.specs.FailsFirst.{FailsFirst}

-- the items before have the property, and the test of the next one is false
pub fails_first : {X : Type 0} (P : X → Type 0) (xs : List X) (i : ℕ) (x : X) → i < length xs → x ≡ get_or xs i x → AllByRecursion P (take i xs) → (P x → IsTrue false) → FailsFirst P xs i
fails_first P xs i x lt is before fails = (
  x,
  record {
    before = take i xs;
    behind = drop (suc i) xs;
    parts = sym (take-append-drop i xs) ∙ ap (λ rest. take i xs ++ rest) (drop-cons xs i x lt ∙ ap (λ y. y ∷ drop (suc i) xs) (sym is));
    place_is = sym (length-take-le i xs (omega arith));
    holds_before = before;
    fails = λ holds. false≢true (fails holds);
  },
)
