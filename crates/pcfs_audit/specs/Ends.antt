-- Before which event of a history each statement was withdrawn (this project's own).
use Rattle.std.specs.Prelude.{◌≡◌, ◌≤◌, ℕ, zero, suc, List, [], ◌∷◌, ◌++◌, Bool, false, IsTrue, if◌then◌else◌, nat_le, min, Option, Some, None, length, take}
use Rattle.bl_syntax.specs.Statement.{StatementView}
use Rattle.policy_statement.specs.Messages.{withdraw_message}
use Rattle.policy_statement.specs.Registered.{RegisteredView}
use Rattle.policy_statement.specs.Withdrawal.{is_withdrawn}
use Rattle.journal_records.specs.declared.event.Event.{Event}
use Rattle.journal_records.specs.declared.event.Event.TheVariants.{Registered, Withdrawn}
use Rattle.access_history.specs.Base.{BaseView}
use Rattle.access_history.specs.Numbered.{IsNumbered}
use Rattle.access_history.specs.Replay.{replay}

-- An end is the place, from 0, of the first event before which a statement was withdrawn; none if
-- it never was.

-- the end of a statement of a base
abbrev pub base_end : RegisteredView → Option ℕ
base_end entry = if entry.withdrawn then Some 0 else None

-- whether what has that end was withdrawn before the event at that place
abbrev pub is_past : Option ℕ → ℕ → Bool
is_past None place = false
is_past (Some end) place = nat_le end place

-- the end of the statement of a number; none too if nothing has that number
abbrev pub end_of : List (Option ℕ) → ℕ → Option ℕ
end_of [] number = None
end_of (end ∷ ends) zero = None
end_of (end ∷ ends) (suc zero) = end
end_of (end ∷ ends) (suc (suc number)) = end_of ends (suc number)

-- whether the statement of a number was withdrawn before the event at that place
abbrev pub is_ended : List (Option ℕ) → ℕ → ℕ → Bool
is_ended ends number place = is_past (end_of ends number) place

-- the end of what is withdrawn at that place, unless it was before
abbrev pub first_of_both : Option ℕ → ℕ → Option ℕ
first_of_both None place = Some place
first_of_both (Some end) place = Some end

-- the ends after the statement of that number was withdrawn before the event at that place; as they
-- were if nothing has that number
abbrev pub ended_at : List (Option ℕ) → ℕ → ℕ → List (Option ℕ)
ended_at [] number place = []
ended_at (end ∷ ends) zero place = end ∷ ends
ended_at (end ∷ ends) (suc zero) place = first_of_both end place ∷ ends
ended_at (end ∷ ends) (suc (suc number)) place = end ∷ ended_at ends (suc number) place

-- the ends with what an event adds to them; the event after it has that place
abbrev pub ends_with : List (Option ℕ) → ℕ → Event → List (Option ℕ)
ends_with ends place (Registered pass statement signature) = ends ++ None ∷ []
ends_with ends place (Withdrawn pass number signature) = ended_at ends number place
ends_with ends place _ = ends

-- what has that end was withdrawn before the event at that place, or it never was
abbrev pub IsEndWithin : ℕ → Option ℕ → Type 0
IsEndWithin place None = Unit {0}
IsEndWithin place (Some end) = end ≤ place

-- it was never withdrawn
abbrev pub NeverEnds : Option ℕ → Type 0
NeverEnds end = end ≡ None

-- before each event, and after the last, the ends tell which statements were withdrawn
abbrev pub AreEnds : BaseView → List Event → List (Option ℕ) → Type 0
AreEnds base events ends =
    (place number : ℕ) → place ≤ length events → is_withdrawn (replay base (take place events)).statements number ≡ is_ended ends number place

-- the earlier of two ends
abbrev pub earlier_end : Option ℕ → Option ℕ → Option ℕ
earlier_end None other = other
earlier_end (Some end) None = Some end
earlier_end (Some end) (Some other) = Some (min end other)

-- the first end of the statements of these numbers
abbrev pub first_end : List (Option ℕ) → List ℕ → Option ℕ
first_end ends [] = None
first_end ends (number ∷ numbers) = earlier_end (end_of ends number) (first_end ends numbers)

-- the statement of the number is one of these, it was not withdrawn before the event at that place,
-- and who said it signed its withdrawal
pub record CouldBeWithdrawn (accepts : List ℕ → List ℕ → List ℕ → Bool) (statements : List StatementView) (ends : List (Option ℕ)) (place number : ℕ)
    (signature : List ℕ) : Type 0 where
  pub statement : StatementView
  pub registered : IsNumbered statements number statement
  pub stands : is_ended ends number place ≡ false
  pub signed : IsTrue (accepts statement.who (withdraw_message statement) signature)
