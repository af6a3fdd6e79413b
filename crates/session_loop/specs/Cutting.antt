-- How bytes are cut into items, one after the other: into lines, or messages (this project's own).
use Rattle.std.specs.Prelude.{ℕ, ◌<◌, ◌≤◌, List, [], ◌∷◌, ◌++◌, length}

-- what bytes are cut into
pub record Cutting : Type 1 where
  pub Item : Type 0
  -- what the items so far have agreed on
  pub Mark : Type 0
  -- before any item
  pub first : Mark
  -- the bytes begin with this item, after which this is agreed on, and these bytes stand after it
  pub IsNext : Mark → List ℕ → Item → Mark → List ℕ → Type 0
  -- the bytes are less than an item: more of them tell what it is
  pub IsOpen : Mark → List ℕ → Type 0
  -- the bytes begin with no item, whatever comes after them
  pub IsBad : Mark → List ℕ → Type 0
  -- the bytes are less than an item, and if nothing comes after them, they are these items
  pub IsLast : Mark → List ℕ → List Item → Type 0
  -- and if nothing comes after them, they are no item
  pub IsBadEnd : Mark → List ℕ → Type 0
  -- less than an item has no more bytes than these
  pub most : ℕ

-- the laws of a cutting: no bytes are less than an item; the bytes of what is less than an item are
-- few; an item has some bytes; and it stays one whatever comes after it
pub record CuttingLaws (c : Cutting) : Type 0 where
  pub begins : c.IsOpen c.first []
  pub few : (mark : c.Mark) (left : List ℕ) → c.IsOpen mark left → length left ≤ c.most
  pub shrinks : (mark : c.Mark) (left : List ℕ) (item : c.Item) (after : c.Mark) (rest : List ℕ) →
      c.IsNext mark left item after rest → length rest < length left
  pub stays : (mark : c.Mark) (left : List ℕ) (item : c.Item) (after : c.Mark)
      (rest more : List ℕ) → c.IsNext mark left item after rest →
      c.IsNext mark (left ++ more) item after (rest ++ more)

-- the items with which bytes begin, from what was agreed on before them to what is after them, and
-- the bytes that are left
pub data Cuts (c : Cutting) : c.Mark → List ℕ → List c.Item → c.Mark → List ℕ → Type 0 where
  none : (mark : c.Mark) (left : List ℕ) → Cuts c mark left [] mark left
  one_more : (mark : c.Mark) (left : List ℕ) (item : c.Item) (after : c.Mark) (rest : List ℕ)
      (items : List c.Item) (to : c.Mark) (end : List ℕ) → c.IsNext mark left item after rest →
      Cuts c after rest items to end → Cuts c mark left (item ∷ items) to end
