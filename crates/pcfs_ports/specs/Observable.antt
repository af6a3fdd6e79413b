-- What a port tells of its bytes: `Some` of those that a source still has to give, or that a sink
-- holds, and `None` if it does not tell them. This project's own.
use Rattle.std.specs.Prelude.{◌≡◌, ℕ, ◌≤◌, List, [], ◌++◌, length, take, drop, Option, IfSome}
use Rattle.std.specs.Option.{option_map}

-- these bytes, and then those that are told
abbrev pub with_front : List ℕ → Option (List ℕ) → Option (List ℕ)
with_front bytes told = option_map (λ rest. bytes ++ rest) told

-- those that are told, and then these bytes
abbrev pub with_back : Option (List ℕ) → List ℕ → Option (List ℕ)
with_back told bytes = option_map (λ first. first ++ bytes) told

-- if it is told, nothing is left
abbrev pub IsAtEnd : Option (List ℕ) → Type 0
IsAtEnd told = IfSome told (λ left. left ≡ [])

-- An input was read to its end: these bytes were left, and none are now.
pub record ReadsToEnd (old new : Option (List ℕ)) (bytes : List ℕ) : Type 0 where
  pub all : IfSome old (λ left. left ≡ bytes)
  pub end : new ≡ option_map (λ _. []) old

-- Of an input the first `count` bytes were taken: so many there were, and the others are left.
pub record TakesFirst (count : ℕ) (old new : Option (List ℕ)) : Type 0 where
  pub enough : IfSome old (λ left. count ≤ length left)
  pub rest : new ≡ option_map (drop count) old

-- Of an input some first part was taken.
pub record TakesSome (old new : Option (List ℕ)) : Type 0 where
  pub count : ℕ
  pub taken : TakesFirst count old new

-- An output holds some first part of these bytes beside what it held.
pub record HoldsSome (old new : Option (List ℕ)) (bytes : List ℕ) : Type 0 where
  pub count : ℕ
  pub within : count ≤ length bytes
  pub held : new ≡ with_back old (take count bytes)
