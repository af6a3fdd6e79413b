-- A pass that counts.
use Rattle.std.proofs.Common.{◌≡◌, ℕ, suc, ◌+◌, ◌≤◌, List, [], ◌∷◌, ◌++◌, true, sym, ap, ◌∙◌, subst, arith, append_assoc}
use Rattle.std.proofs.lemmas.List.{append_cancel_left}
use Rattle.std.specs.List.{AllByRecursion}
use Rattle.tree_lock.specs.Entries.{of_number}
use Rattle.tree_lock.specs.Seen.{PassView, DoormanView, Retired, AreOwn}
use Rattle.tree_lock.specs.Closing.{IsClosed}
use Rattle.tree_lock.proofs.NumberLemmas.{each_made}
use Rattle.tree_lock.specs.Turned.{Turned}
use Rattle.lock_tests.specs.Counting.{Noted, count_so_far, HaveCounted}

-- after a turn that noted the next number, the pass has counted one further
pub counts_on : {V : Type 0} (entries : V → List (ℕ × ℕ)) (old new first : PassView ℕ) (number : ℕ) (result : _)
    → Turned entries (λ before pass after result. Noted pass number (entries before) (entries after) result) old new result → result ≡ true
    → old.lock ≡ first.lock → old.number ≡ first.number → old.own ≡ first.own ++ count_so_far first.number number
    → (new.lock ≡ first.lock) × (new.number ≡ first.number) × (new.own ≡ first.own ++ count_so_far first.number (number + 1))
counts_on entries old new first number result turned is lock same own =
    let noted = subst (λ b. Noted old.number number (entries turned.before) (entries turned.after) b) is turned.worked in
    let added : turned.added ≡ (old.number, number) ∷ [] = append_cancel_left (entries turned.before) turned.added ((old.number, number) ∷ []) (sym turned.left ∙ noted) in
    let next : number + 1 ≡ suc number = omega arith in (
      turned.lock ∙ lock,
      turned.number ∙ same,
      turned.own ∙ ap (λ l. old.own ++ l) (added ∙ ap (λ (n : ℕ). (n, number) ∷ []) same) ∙ ap (λ l. l ++ (first.number, number) ∷ []) own
          ∙ append_assoc first.own (count_so_far first.number number) ((first.number, number) ∷ []) ∙ ap (λ (n : ℕ). first.own ++ count_so_far first.number n) (sym next),
    )

-- where all that counted were taken in, the entries under each number are its count
pub all_counted : (count passes : ℕ) (door : DoormanView ℕ) (history : List (ℕ × ℕ)) → IsClosed door history → door.made ≡ passes → HaveCounted count door.retired → (n : ℕ) → 1 ≤ n → n ≤ passes
    → of_number n history ≡ count_so_far n count
all_counted count passes door history closed made counts n low high =
    each_made (λ m. of_number m history ≡ count_so_far m count) door.made door.retired n closed.knows.numbers closed.all (each door.retired closed.knows.own counts) low (subst (λ m. n ≤ m) (sym made) high)
  where
    each : (retired : List (Retired ℕ)) → AreOwn history retired → HaveCounted count retired → AllByRecursion (λ (r : Retired ℕ). of_number r.0 history ≡ count_so_far r.0 count) retired
    each [] own counts = tt
    each (r ∷ rs) own counts = (own.0 ∙ counts.0, each rs own.1 counts.1)
