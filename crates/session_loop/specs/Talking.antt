-- A talk: the items of an input, each of which is answered by one reply (this project's own).
use Rattle.std.specs.Prelude.{◌≡◌, ℕ, List, [], ◌++◌, length}
use Rattle.session_loop.specs.Cutting.{Cutting, CuttingLaws}

-- what is said in a talk of which each answer may change what stands in `P`
pub record Talking (P : Type 0) : Type 1 where
  pub cutting : Cutting
  -- what it has come to
  pub State : Type 0
  pub Reply : Type 0
  -- in this state and at this moment these items were answered, each by one reply, and so the talk
  -- came to a later state and moment
  pub Said : State → P → P → List cutting.Item → List Reply → State → Type 0
  -- the bytes of a reply to an item
  pub text : cutting.Item → Reply → List ℕ
  -- the bytes that tell of what is no item
  pub bad_text : List ℕ

-- the laws of a talk: no items may be said, and some after others; and each has one reply
pub record TalkingLaws {P : Type 0} (t : Talking P) : Type 0 where
  pub cutting : CuttingLaws t.cutting
  pub none : (state : t.State) (at : P) → t.Said state at at [] [] state
  pub further : (start mid end : t.State) (old between new : P) (items others : List t.cutting.Item)
      (replies more : List t.Reply) → t.Said start old between items replies mid →
      t.Said mid between new others more end →
      t.Said start old new (items ++ others) (replies ++ more) end
  pub each : (start end : t.State) (old new : P) (items : List t.cutting.Item)
      (replies : List t.Reply) → t.Said start old new items replies end →
      length replies ≡ length items
