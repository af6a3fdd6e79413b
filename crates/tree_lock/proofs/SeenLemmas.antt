-- Who has seen the whole history.
use Rattle.std.proofs.Common.{◌≡◌, ◌⊎◌, ℕ, ◌+◌, List, [], ◌∷◌, ◌++◌, length, set, refl, sym, ap, ◌∙◌, subst, ⊎_elim, inl, inr, arith, append-nil, length-append}
use mathlib.Core.Option.{some, some-injective}
use mathlib.Core.List.{IsPrefix}
use mathlib.Core.Logic.{dite}
use native.Mathlib.Decide.{ℕ_discrete}
use lib.ListN.{get_elem?}
use Rattle.atomic_table.proofs.Lists.{set_here, set_else}
use Rattle.tree_lock.specs.declared.view.Knowledge.{Knowledge}
use Rattle.tree_lock.specs.Seen.{PassView}
use Rattle.tree_lock.specs.Closing.{IsMadeAfter}
use Rattle.tree_lock.specs.Rule.{HasSeenAll, IsLongest}
use Rattle.tree_lock.proofs.EntryLemmas.{prefix_trans}
use Rattle.tree_lock.proofs.SeatLemmas.{at_within}

module _ {A : Type 0} where
  nothing_left : (xs : List A) → length xs ≡ 0 → xs ≡ []
  nothing_left [] e = refl
  nothing_left (x ∷ xs) e = absurd (omega arith)

  -- what lies between a list and the same list
  pub between : (xs ys zs : List A) → IsPrefix xs ys → IsPrefix ys zs → xs ≡ zs → ys ≡ zs
  between xs ys zs p q is =
      let first : length (xs ++ p.0) ≡ length ys = ap length p.1 in
      let second : length (ys ++ q.0) ≡ length zs = ap length q.1 in
      let same : length xs ≡ length zs = ap length is in
      let none : q.0 ≡ [] = nothing_left q.0 (omega (arith, first, second, same, length-append xs p.0, length-append ys q.0)) in
      sym (append-nil ys) ∙ ap (λ l. ys ++ l) (sym none) ∙ q.1

module _ {E : Type 0} where
  -- a seat changes, and has seen as much after
  pub seen_set : (history : List (ℕ × E)) (views : List (Knowledge E)) (id : ℕ) (v w : Knowledge E) → get_elem? views id ≡ some v → w.out ≡ v.out → w.seen ≡ v.seen → HasSeenAll history views → HasSeenAll history (set views id w)
  seen_set history views id v w at out seen a =
      dite (ℕ_discrete a.seat id)
      (λ here.
      let same : a.view ≡ v = some-injective a.view v (sym a.here ∙ ap (λ j. get_elem? views j) here ∙ at) in record {
        seat = id;
        view = w;
        here = set_here views id w (at_within views id v at);
        out = out ∙ ap (λ (u : Knowledge E). u.out) (sym same) ∙ a.out;
        all = seen ∙ ap (λ (u : Knowledge E). u.seen) (sym same) ∙ a.all;
      })
      (λ ne. record { seat = a.seat; view = a.view; here = set_else views id a.seat w ne ∙ a.here; out = a.out; all = a.all })

  pub longest_set : (history : List (ℕ × E)) (views : List (Knowledge E)) (door : Knowledge E) (id : ℕ) (v w : Knowledge E) → get_elem? views id ≡ some v → w.out ≡ v.out → w.seen ≡ v.seen → IsLongest history views door → IsLongest history (set views id w) door
  longest_set history views door id v w at out seen longest = ⊎_elim (λ (a : HasSeenAll history views). inl (seen_set history views id v w at out seen a)) (λ (told : door.told ≡ history). inr told) longest

  -- a pass that was made after another had left has seen as much
  pub later_has_seen : (left later : PassView E) → IsMadeAfter left later → IsPrefix left.seen later.seen
  later_has_seen left later m =
      subst (IsPrefix left.seen) (sym m.made) (prefix_trans left.seen m.after.seen m.door.seen m.taken.told m.more)
