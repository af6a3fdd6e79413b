-- No number is used again.
use Rattle.std.proofs.Common.{◌≡◌, ℕ, ◌+◌, ◌<◌, ◌≤◌, ◌⊎◌, inl, inr, Bool, true, false, cond, Option, Some, None, is_some, IsSome, List, [], ◌∷◌, refl, sym, ap, ◌∙◌, arith, nat_eq}
use Rattle.std.specs.Map.{lookup, remove_entry}
use Rattle.std.proofs.lemmas.Bool.{cond-true, cond-false, false≢true}
use Rattle.file_world.specs.declared.operation.MetaOp.{MetaOp}
use Rattle.file_world.specs.declared.operation.MetaOp.TheVariants as on_meta
use Rattle.file_world.specs.TreeEffect.{TreeChange, nothing, add, fill, remove, move, change_of, revise}
use Rattle.file_world.specs.World.{Item, World, tree_of}
use Rattle.file_world.specs.Effect.{Part, tree_part, meta_part, new_item, changed_world, marked_world, revised_world, world_after_part}
use Rattle.file_world.specs.Laws.{item_at}
use Rattle.file_world.proofs.RowLemmas.{split}
use Rattle.file_world.proofs.TreeLemmas.{found-push}

module _ {V : Type 0} where
  -- a revision leaves the numbers
  is_some-revised : (number other : ℕ) (revision : V → V) (rows : List (ℕ × V)) → is_some (lookup (nat_eq other) (revise number revision rows)) ≡ is_some (lookup (nat_eq other) rows)
  is_some-revised number other revision [] = refl
  is_some-revised number other revision (row ∷ rows) =
      split (nat_eq number row.0)
      (λ t. ap (λ (rs : List (ℕ × V)). is_some (lookup (nat_eq other) rs)) (cond-true (nat_eq number row.0) ((row.0, revision row.1) ∷ rows) (row ∷ revise number revision rows) t)
      ∙ by (nat_eq other row.0))
      (λ f. ap (λ (rs : List (ℕ × V)). is_some (lookup (nat_eq other) rs)) (cond-false (nat_eq number row.0) ((row.0, revision row.1) ∷ rows) (row ∷ revise number revision rows) f)
      ∙ further (nat_eq other row.0) (is_some-revised number other revision rows))
    where
      by : (b : Bool) → is_some (cond b (Some (revision row.1)) (lookup (nat_eq other) rows)) ≡ is_some (cond b (Some row.1) (lookup (nat_eq other) rows))
      by true = refl
      by false = refl

      further : (b : Bool) → is_some (lookup (nat_eq other) (revise number revision rows)) ≡ is_some (lookup (nat_eq other) rows) → is_some (cond b (Some row.1) (lookup (nat_eq other) (revise number revision rows))) ≡ is_some (cond b (Some row.1) (lookup (nat_eq other) rows))
      further true rest = refl
      further false rest = rest

  -- a number that is found after one is gone was there
  was_there : (number other : ℕ) (rows : List (ℕ × V)) → IsSome (lookup (nat_eq other) (remove_entry (nat_eq number) rows)) → IsSome (lookup (nat_eq other) rows)
  was_there number other [] there = there
  was_there number other (row ∷ rows) there = by (nat_eq number row.0) there (λ h. was_there number other rows h)
    where
      later : (b : Bool) → IsSome (lookup (nat_eq other) rows) → IsSome (cond b (Some row.1) (lookup (nat_eq other) rows))
      later true h = refl
      later false h = h

      here : (b : Bool) → IsSome (cond b (Some row.1) (lookup (nat_eq other) (remove_entry (nat_eq number) rows))) → (IsSome (lookup (nat_eq other) (remove_entry (nat_eq number) rows)) → IsSome (lookup (nat_eq other) rows)) → IsSome (cond b (Some row.1) (lookup (nat_eq other) rows))
      here true h rest = refl
      here false h rest = rest h

      by : (b : Bool) → IsSome (lookup (nat_eq other) (cond b rows (row ∷ remove_entry (nat_eq number) rows))) → (IsSome (lookup (nat_eq other) (remove_entry (nat_eq number) rows)) → IsSome (lookup (nat_eq other) rows)) → IsSome (lookup (nat_eq other) (row ∷ rows))
      by true h rest = later (nat_eq other row.0) h
      by false h rest = here (nat_eq other row.0) h rest

-- the numbers of a world are those of an earlier one, beside its next number if that was given away
pub record KeepsNumbers (world after : World) : Type 0 where
  pub rises : world.next ≤ after.next
  pub used : (number : ℕ) → IsSome (item_at after number) → IsSome (item_at world number) ⊎ ((number ≡ world.next) × (after.next ≡ world.next + 1))

same_numbers : (world : World) → KeepsNumbers world world
same_numbers world = record { rises = omega arith; used = λ number there. inl there }

numbers-revised : (number : ℕ) (revision : Item → Item) (world : World) → KeepsNumbers world (revised_world number revision world)
numbers-revised number revision world = record { rises = omega arith; used = λ other there. inl (sym (is_some-revised number other revision world.rows) ∙ there) }

pub numbers-changed : (caller : List ℕ) (change : TreeChange) (world : World) → KeepsNumbers world (changed_world caller change world)
numbers-changed caller nothing world = same_numbers world
numbers-changed caller (add kind place) world = record {
  rises = omega arith;
  used = λ number there. by number (item_at (changed_world caller (add kind place) world) number) refl there;
}
  where
    by : (number : ℕ) (found : Option Item) → item_at (changed_world caller (add kind place) world) number ≡ found → IsSome found → IsSome (item_at world number) ⊎ ((number ≡ world.next) × (world.next + 1 ≡ world.next + 1))
    by number None h there = absurd (false≢true there)
    by number (Some item) h there =
        elim (found-push world.rows world.next (new_item caller kind place) number item h) [
          | inl old ↦ inl (ap is_some old)
          | inr new ↦ inr (new.0, refl)
        ]
numbers-changed caller (fill number contents) world = numbers-revised number _ world
numbers-changed caller (remove number) world = record { rises = omega arith; used = λ other there. inl (was_there number other world.rows there) }
numbers-changed caller (move number place) world = numbers-revised number _ world

pub numbers-marked : (op : MetaOp) (world : World) → KeepsNumbers world (marked_world op world)
numbers-marked (on_meta.Get node name) world = same_numbers world
numbers-marked (on_meta.Set node name value) world = numbers-revised node.0 _ world
numbers-marked (on_meta.Remove node name) world = numbers-revised node.0 _ world
numbers-marked (on_meta.Chown node owner) world = numbers-revised node.0 _ world
numbers-marked (on_meta.Add node owner parent) world = same_numbers world
numbers-marked (on_meta.Drop node) world = same_numbers world
numbers-marked (on_meta.Move node parent) world = same_numbers world

pub numbers-after : (caller : List ℕ) (world : World) (part : Part) → KeepsNumbers world (world_after_part caller world part)
numbers-after caller world (tree_part op) = numbers-changed caller (change_of (tree_of world) op) world
numbers-after caller world (meta_part op) = numbers-marked op world

-- what is gone stays gone
pub stays_gone : (world after : World) → KeepsNumbers world after → (number : ℕ) → number < world.next → item_at world number ≡ None → (number < after.next) × (item_at after number ≡ None)
stays_gone world after keeps number below gone = (let rises = keeps.rises in omega (arith, below, rises), by (item_at after number) refl)
  where
    by : (found : Option Item) → item_at after number ≡ found → item_at after number ≡ None
    by None h = h
    by (Some item) h =
        elim (keeps.used number (ap is_some h)) [
          | inl there ↦ absurd (false≢true (sym (ap is_some gone) ∙ there))
          | inr new ↦ absurd (let same = new.0 in omega (arith, below, same))
        ]
