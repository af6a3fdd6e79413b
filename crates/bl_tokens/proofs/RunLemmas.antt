-- The run at the front of a list is of its class.
use Rattle.std.proofs.Common.{◌≡◌, ℕ, ◌+◌, suc, Bool, true, false, cond, List, [], ◌∷◌, take, refl, IsTrue, arith}
use Rattle.std.specs.List.{list_all, prefix_len}

run_with : (p : ℕ → Bool) (b : Bool) (x : ℕ) (xs : List ℕ) → p x ≡ b → IsTrue (list_all p (take (prefix_len p xs) xs)) → IsTrue (list_all p (take (cond b (1 + prefix_len p xs) 0) (x ∷ xs)))
run_with p true x xs here others =
    let next : 1 + prefix_len p xs ≡ suc (prefix_len p xs) = omega arith in rw (next, here) others
run_with p false x xs here others = refl

pub list_all-prefix : (p : ℕ → Bool) (xs : List ℕ) → IsTrue (list_all p (take (prefix_len p xs) xs))
list_all-prefix p [] = refl
list_all-prefix p (x ∷ xs) = run_with p (p x) x xs refl (list_all-prefix p xs)
