-- Which passes are those of connections, and how many.
use Rattle.std.proofs.Common.{◌≡◌, ◌+◌, ◌≤◌, ℕ, Bool, true, false, List, [], ◌∷◌, length, refl, sym, subst, arith}
use Rattle.std.specs.Prelude.{if◌then◌else◌}
use Rattle.std.specs.List.{AllByRecursion}
use Rattle.session_service.specs.Connections.{AreOfConnections, no_more, was_attended, was_not_attended}

module _ {E : Type 0} (P : ℕ → List E → Type 0) where
  -- no more connections are counted than passes
  pub connections-le : (count : ℕ) (passes : List (ℕ × List E)) → AreOfConnections P count passes → count ≤ length passes
  connections-le _ _ no_more = omega arith
  connections-le _ _ (was_attended count number own passes had are) = let fewer = connections-le count passes are in omega (arith, fewer)
  connections-le _ _ (was_not_attended count number passes are) = let fewer = connections-le count passes are in omega (arith, fewer)

  -- if as many are counted as there are passes, it holds of each
  pub AreOfConnections-all : (count : ℕ) (passes : List (ℕ × List E)) → AreOfConnections P count passes → length passes ≡ count → AllByRecursion (λ (p : ℕ × List E). P p.0 p.1) passes
  AreOfConnections-all _ _ no_more all = tt
  AreOfConnections-all _ _ (was_attended count number own passes had are) all = (had, AreOfConnections-all count passes are (omega (arith, all)))
  AreOfConnections-all _ _ (was_not_attended count number passes are) all = let fewer = connections-le count passes are in absurd (omega (arith, fewer, all))

  -- one more pass, of a connection that was attended, or without entries
  one_more : (is_attended : Bool) (count number : ℕ) (own : List E) (passes : List (ℕ × List E)) → (is_attended ≡ false → own ≡ []) → (is_attended ≡ true → P number own) → AreOfConnections P count passes →
      AreOfConnections P (if is_attended then count + 1 else count) ((number, own) ∷ passes)
  one_more true count number own passes idle had are = was_attended count number own passes (had refl) are
  one_more false count number own passes idle had are = subst (λ (l : List E). AreOfConnections P count ((number, l) ∷ passes)) (sym (idle refl)) (was_not_attended count number passes are)

  pub AreOfConnections-one_more : (is_attended : Bool) (count after number : ℕ) (own : List E) (passes all : List (ℕ × List E)) → after ≡ (if is_attended then count + 1 else count) → all ≡ (number, own) ∷ passes → (is_attended ≡ false → own ≡ []) → (is_attended ≡ true → P number own) →
      AreOfConnections P count passes → AreOfConnections P after all
  AreOfConnections-one_more is_attended count after number own passes all after_is all_is idle had are =
      subst (λ (n : ℕ). AreOfConnections P n all) (sym after_is) (subst (AreOfConnections P (if is_attended then count + 1 else count)) (sym all_is) (one_more is_attended count number own passes idle had are))

-- what holds of each of them may be said otherwise
pub AreOfConnections-also : {E : Type 0} (P Q : ℕ → List E → Type 0) → ((number : ℕ) (own : List E) → P number own → Q number own) → (count : ℕ) (passes : List (ℕ × List E)) → AreOfConnections P count passes → AreOfConnections Q count passes
AreOfConnections-also P Q also _ _ no_more = no_more
AreOfConnections-also P Q also _ _ (was_attended count number own passes had are) = was_attended count number own passes (also number own had) (AreOfConnections-also P Q also count passes are)
AreOfConnections-also P Q also _ _ (was_not_attended count number passes are) = was_not_attended count number passes (AreOfConnections-also P Q also count passes are)
