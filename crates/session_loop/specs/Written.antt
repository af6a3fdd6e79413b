-- What is written for items, each of which has one reply. If an output does not tell what it holds,
-- nothing is said of that (this project's own).
use Rattle.std.specs.Prelude.{ℕ, ◌≤◌, List, [], ◌∷◌, ◌++◌, length, Option}
use Rattle.pcfs_ports.specs.Observable.{HoldsSome}

-- all of a list but its last element
abbrev pub but_last : {A : Type 0} → List A → List A
but_last [] = []
but_last (x ∷ []) = []
but_last (x ∷ (y ∷ ys)) = x ∷ but_last (y ∷ ys)

module _ {I R : Type 0} (text : I → R → List ℕ) where
  -- the bytes of replies, each to its item
  abbrev pub output_of : List I → List R → List ℕ
  output_of [] replies = []
  output_of (item ∷ items) [] = []
  output_of (item ∷ items) (reply ∷ replies) = text item reply ++ output_of items replies

  -- beside what it held, the output holds all replies but the last, and of the last some first part
  pub record HoldsButLast (held held_after : Option (List ℕ)) (items : List I) (replies : List R) : Type 0 where
    pub some : HoldsSome held held_after (output_of items replies)
    pub earlier : length (output_of items (but_last replies)) ≤ some.count

  -- beside what it held, the output holds all replies, and some first part of the bytes that tell
  -- of what is no item
  pub record HoldsReplies (bad_text : List ℕ) (held held_after : Option (List ℕ)) (items : List I) (replies : List R) : Type 0 where
    pub some : HoldsSome held held_after (output_of items replies ++ bad_text)
    pub earlier : length (output_of items replies) ≤ some.count
