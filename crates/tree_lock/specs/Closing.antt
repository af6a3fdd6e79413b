-- What a doorman knows of the history. This project's own.
use Rattle.std.specs.Prelude.{◌≡◌, ℕ, ◌+◌, ◌≤◌, List, [], ◌∷◌, length}
use mathlib.Core.List.{IsPrefix}
use Rattle.tree_lock.specs.Entries.{of_number}
use Rattle.tree_lock.specs.Seen.{PassView, DoormanView, AreNumbers, AreOwn}

module _ {E : Type 0} where
  -- The doorman knows this history: the entries under each number that was retired are that pass's
  -- own, those under the number 0 are the opening ones, and there are none under a number that was
  -- not made.
  pub record Knows (door : DoormanView E) (history : List (ℕ × E)) : Type 0 where
    pub opened : IsPrefix door.opening history
    pub seen : IsPrefix door.seen history
    pub numbers : AreNumbers door.made door.retired
    pub own : AreOwn history door.retired
    pub opening : of_number 0 history ≡ door.opening
    pub none_above : (n : ℕ) → door.made + 1 ≤ n → of_number n history ≡ []

  -- The doorman took a pass in: it has seen all that the pass has seen, and knows the pass's own
  -- entries.
  pub record TakesIn (pass : PassView E) (old new : DoormanView E) : Type 0 where
    pub lock : new.lock ≡ old.lock
    pub opening : new.opening ≡ old.opening
    pub made : new.made ≡ old.made
    pub retired : new.retired ≡ (pass.number, pass.own) ∷ old.retired
    pub out : new.out + 1 ≡ old.out
    pub seen : IsPrefix old.seen new.seen
    pub told : IsPrefix pass.seen new.seen
    pub knows : Knows new new.seen

  -- The history of a lock whose passes were all taken in: the doorman has seen it whole.
  pub record IsClosed (door : DoormanView E) (history : List (ℕ × E)) : Type 0 where
    pub all : length door.retired ≡ door.made
    pub knows : Knows door history
    pub whole : history ≡ door.seen

  -- A pass was made after another had left: the doorman took the other in, and had seen no less when
  -- the pass was made.
  pub record IsMadeAfter (left later : PassView E) : Type 0 where
    pub before : DoormanView E
    pub after : DoormanView E
    pub door : DoormanView E
    pub taken : TakesIn left before after
    pub more : IsPrefix after.seen door.seen
    pub made : later.seen ≡ door.seen

-- What a pass had seen when it was taken in, each pass has seen that is made later.
abbrev pub LaterPassesHaveSeen : Type 0 → Type 0
LaterPassesHaveSeen E = (left later : PassView E) → IsMadeAfter left later →
    IsPrefix left.seen later.seen
