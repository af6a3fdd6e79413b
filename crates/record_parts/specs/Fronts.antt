-- What is after a front of bytes (this project's own).
use Rattle.std.specs.Prelude.{◌≡◌, ◌==◌, ℕ, List, [], ◌∷◌, if◌then◌else◌, Option, Some, None}

-- what is after the front; none if the bytes do not begin with it
unfoldable pub after : List ℕ → List ℕ → Option (List ℕ)
after [] bytes = Some bytes
after (first ∷ front) [] = None
after (first ∷ front) (byte ∷ bytes) = if first == byte then after front bytes else None

-- what a call gave, seen by view, is that
abbrev pub Gives : {X Y : Type 0} → (X → Y) → Option X → Option Y → Type 0
Gives view (Some x) given = given ≡ Some (view x)
Gives view None given = given ≡ None
