-- Statements that were withdrawn. A withdrawn statement keeps its number (this project's own).
use Rattle.std.specs.Prelude.{◌≡◌, ◌+◌, ℕ, zero, suc, List, [], ◌∷◌, Bool, true, false, if◌then◌else◌, Option, None, Some, option_and_then, Result, Ok, Err}
use Rattle.std.specs.List.{slice_get, list_any}
use Rattle.std.specs.Option.{option_map_or}
use Rattle.bl_syntax.specs.Statement.{StatementView}
use Rattle.policy_statement.specs.declared.registry.WithdrawFault.{WithdrawFault}
use Rattle.policy_statement.specs.declared.registry.WithdrawFault.TheVariants.{Absent, BadSignature, NoMemory}
use Rattle.policy_statement.specs.Messages.{withdraw_message}
use Rattle.policy_statement.specs.Registered.{RegisteredView}

-- the statement of an entry; none if it was withdrawn
abbrev pub live_statement : RegisteredView → Option StatementView
live_statement entry = if entry.withdrawn then None else Some entry.statement

-- the entry of a number; none if nothing has that number
abbrev pub entry_of_number : List RegisteredView → ℕ → Option RegisteredView
entry_of_number entries zero = None
entry_of_number entries (suc place) = slice_get entries place

-- the statement of a number; none if nothing has that number, or it was withdrawn
abbrev pub live_of_number : List RegisteredView → ℕ → Option StatementView
live_of_number entries number = option_and_then live_statement (entry_of_number entries number)

-- whether the statement of a number was withdrawn
abbrev pub is_withdrawn : List RegisteredView → ℕ → Bool
is_withdrawn entries number = option_map_or (λ (entry : RegisteredView). entry.withdrawn) (entry_of_number entries number) false

-- whether one of them was withdrawn
abbrev pub has_withdrawn : List RegisteredView → Bool
has_withdrawn entries = list_any (λ (entry : RegisteredView). entry.withdrawn) entries

-- the entry, withdrawn
abbrev pub ended : RegisteredView → RegisteredView
ended entry = record { statement = entry.statement; signature = entry.signature; withdrawn = true }

-- the entries after that of the number was withdrawn; as they were if nothing has that number
abbrev pub marked : List RegisteredView → ℕ → List RegisteredView
marked [] number = []
marked (entry ∷ entries) zero = entry ∷ entries
marked (entry ∷ entries) (suc zero) = ended entry ∷ entries
marked (entry ∷ entries) (suc (suc number)) = entry ∷ marked entries (suc number)

-- the numbers of the withdrawn ones, where the first entry has that number
abbrev pub withdrawn_from : ℕ → List RegisteredView → List ℕ
withdrawn_from number [] = []
withdrawn_from number (entry ∷ entries) = if entry.withdrawn then (number ∷ withdrawn_from (number + 1) entries) else (withdrawn_from (number + 1) entries)

-- the statement of the number stands, and who said it signed its withdrawal, or did not
abbrev pub IsLiveSigned : (List ℕ → List ℕ → List ℕ → Bool) → List RegisteredView → ℕ → List ℕ →
    Bool → Type 0
IsLiveSigned accepts entries number signature signed = (s : StatementView) ×
    (live_of_number entries number ≡ Some s) ×
    (accepts s.who (withdraw_message s) signature ≡ signed)

-- whether and why not the statement of a number may be withdrawn under a signature: first it has to
-- stand, then its withdrawal has to be signed by who said it
abbrev pub MayWithdraw : (List ℕ → List ℕ → List ℕ → Bool) → List RegisteredView → ℕ → List ℕ →
    Result (Unit {0}) WithdrawFault → Type 0
MayWithdraw accepts entries number signature (Ok done) = IsLiveSigned accepts entries number signature true
MayWithdraw accepts entries number signature (Err Absent) = live_of_number entries number ≡ None
MayWithdraw accepts entries number signature (Err BadSignature) = IsLiveSigned accepts entries number signature false
MayWithdraw accepts entries number signature (Err NoMemory) = Unit {0}
