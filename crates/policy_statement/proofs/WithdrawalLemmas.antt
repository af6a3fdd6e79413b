-- Entries of which one was withdrawn.
use Rattle.std.proofs.Common.{◌≡◌, ◌≤◌, ◌-◌, ◌+◌, ℕ, zero, suc, List, [], ◌∷◌, ◌++◌, length, get_or, Bool, true, false, ◌||◌, Option, None, Some, IsSome, option_map, set, refl, sym, ap, ◌∙◌, arith}
use Rattle.std.specs.Prelude.{option_and_then}
use Rattle.std.specs.List.{slice_get}
use Rattle.std.specs.Option.{option_map_or}
use Rattle.std.proofs.lemmas.Option.{get_or_from_slice_get}
use Rattle.policy_statement.specs.Registered.{RegisteredView, RegistryView}
use Rattle.policy_statement.specs.Registry.{statement_of_number}
use Rattle.policy_statement.specs.Withdrawal.{live_statement, entry_of_number, live_of_number, is_withdrawn, has_withdrawn, ended, marked}
use Rattle.policy_statement.specs.Digests.{HasDigests, IsIndexed}

-- ---- one more entry

or_false : (b : Bool) → b || false ≡ b
or_false true = refl
or_false false = refl

or_twice : (a b c : Bool) → (a || (b || c)) ≡ ((a || b) || c)
or_twice true b c = refl
or_twice false b c = refl

-- one was withdrawn if one of the others was, or the last
pub has_withdrawn-push : (entries : List RegisteredView) (e : RegisteredView) → has_withdrawn (entries ++ e ∷ []) ≡ (has_withdrawn entries || e.withdrawn)
has_withdrawn-push [] e = or_false e.withdrawn
has_withdrawn-push (entry ∷ entries) e = ap (λ (b : Bool). entry.withdrawn || b) (has_withdrawn-push entries e) ∙ or_twice entry.withdrawn (has_withdrawn entries) e.withdrawn

-- an entry that was not withdrawn withdraws no number
is_withdrawn_at-push : (entries : List RegisteredView) (e : RegisteredView) (place : ℕ) → e.withdrawn ≡ false
    → option_map_or (λ (entry : RegisteredView). entry.withdrawn) (slice_get (entries ++ e ∷ []) place) false ≡ option_map_or (λ (entry : RegisteredView). entry.withdrawn) (slice_get entries place) false
is_withdrawn_at-push [] e zero stands = stands
is_withdrawn_at-push [] e (suc place) stands = refl
is_withdrawn_at-push (entry ∷ entries) e zero stands = refl
is_withdrawn_at-push (entry ∷ entries) e (suc place) stands = is_withdrawn_at-push entries e place stands

pub is_withdrawn-push : (entries : List RegisteredView) (e : RegisteredView) (number : ℕ) → e.withdrawn ≡ false → is_withdrawn (entries ++ e ∷ []) number ≡ is_withdrawn entries number
is_withdrawn-push entries e zero stands = refl
is_withdrawn-push entries e (suc place) stands = is_withdrawn_at-push entries e place stands

-- ---- one that is withdrawn

or_true : (b : Bool) → b || true ≡ true
or_true true = refl
or_true false = refl

pub length-marked : (entries : List RegisteredView) (number : ℕ) → length (marked entries number) ≡ length entries
length-marked [] number = refl
length-marked (entry ∷ entries) zero = refl
length-marked (entry ∷ entries) (suc zero) = refl
length-marked (entry ∷ entries) (suc (suc number)) = ap suc (length-marked entries (suc number))

statement_at-marked : (entries : List RegisteredView) (number place : ℕ)
    → option_map (λ (entry : RegisteredView). entry.statement) (slice_get (marked entries number) place) ≡ option_map (λ (entry : RegisteredView). entry.statement) (slice_get entries place)
statement_at-marked [] number place = refl
statement_at-marked (entry ∷ entries) zero place = refl
statement_at-marked (entry ∷ entries) (suc zero) zero = refl
statement_at-marked (entry ∷ entries) (suc zero) (suc place) = refl
statement_at-marked (entry ∷ entries) (suc (suc number)) zero = refl
statement_at-marked (entry ∷ entries) (suc (suc number)) (suc place) = statement_at-marked entries (suc number) place

-- each number keeps its statement
pub statement_of_number-marked : (entries : List RegisteredView) (number other : ℕ) → statement_of_number (marked entries number) other ≡ statement_of_number entries other
statement_of_number-marked entries number zero = refl
statement_of_number-marked entries number (suc place) = statement_at-marked entries number place

-- the number of an entry is that of a place
pub record IsEntryAt (entries : List RegisteredView) (number : ℕ) (entry : RegisteredView) : Type 0 where
  pub some : 1 ≤ number
  pub within : number ≤ length entries
  pub found : slice_get entries (number - 1) ≡ Some entry

within_places : (entries : List RegisteredView) (place : ℕ) (entry : RegisteredView) → slice_get entries place ≡ Some entry → place + 1 ≤ length entries
within_places [] place entry found = absurd cc
within_places (e ∷ entries) zero entry found = omega arith
within_places (e ∷ entries) (suc place) entry found = let rest = within_places entries place entry found in omega (arith, rest)

pub entry_at : (entries : List RegisteredView) (number : ℕ) (entry : RegisteredView) → entry_of_number entries number ≡ Some entry → IsEntryAt entries number entry
entry_at entries zero entry found = absurd cc
entry_at entries (suc place) entry found =
    let within = within_places entries place entry found in
    let same : suc place - 1 ≡ place = omega arith in
    record { some = omega arith; within = omega (arith, within); found = ap (slice_get entries) same ∙ found }

-- a statement that stands has an entry that was not withdrawn
pub record HasLiveEntry (entries : List RegisteredView) (number : ℕ) : Type 0 where
  pub entry : RegisteredView
  pub at : IsEntryAt entries number entry

live_entry_of : (entries : List RegisteredView) (number : ℕ) (found : Option RegisteredView) → entry_of_number entries number ≡ found → IsSome (option_and_then live_statement found) → HasLiveEntry entries number
live_entry_of entries number None is some = absurd cc
live_entry_of entries number (Some entry) is some = record { entry = entry; at = entry_at entries number entry is }

pub live_entry : (entries : List RegisteredView) (number : ℕ) → IsSome (live_of_number entries number) → HasLiveEntry entries number
live_entry entries number some = live_entry_of entries number (entry_of_number entries number) refl some

set_at-marked : (entries : List RegisteredView) (place : ℕ) (entry : RegisteredView) → slice_get entries place ≡ Some entry → set entries place (ended entry) ≡ marked entries (suc place)
set_at-marked [] place entry found = absurd cc
set_at-marked (e ∷ entries) zero entry found =
    let same : e ≡ entry = cc in ap (λ (r : RegisteredView). ended r ∷ entries) (sym same)
set_at-marked (e ∷ entries) (suc place) entry found = ap (λ (es : List RegisteredView). e ∷ es) (set_at-marked entries place entry found)

-- to withdraw the entry of a number is to write it into its place
pub set-marked : (entries : List RegisteredView) (number : ℕ) (entry : RegisteredView) → IsEntryAt entries number entry → set entries (number - 1) (ended entry) ≡ marked entries number
set-marked entries zero entry at = absurd (omega (arith, at.some))
set-marked entries (suc place) entry at =
    let same : suc place - 1 ≡ place = omega arith in
    ap (λ (p : ℕ). set entries p (ended entry)) same ∙ set_at-marked entries place entry (ap (slice_get entries) (sym same) ∙ at.found)

-- the entry that was read at the place of the number, once it is withdrawn
pub ended_at : (entries : List RegisteredView) (number : ℕ) (before after : RegisteredView) → IsSome (live_of_number entries number) → before ≡ get_or entries (number - 1) before → after ≡ ended before → set entries (number - 1) after ≡ marked entries number
ended_at entries number before after some before_is after_is =
    let live = live_entry entries number some in
    let same : before ≡ live.entry = before_is ∙ get_or_from_slice_get entries (number - 1) live.entry before live.at.found in
    ap (λ (e : RegisteredView). set entries (number - 1) e) (after_is ∙ ap ended same) ∙ set-marked entries number live.entry live.at

-- a registry by its parts
abbrev pub with_spare : ℕ → List RegisteredView → RegistryView
with_spare spare entries = record { entries = entries; spare = spare }

-- what a registry is after one was withdrawn
pub ended_view : (entries new : List RegisteredView) (spare number : ℕ) (old : RegistryView) → with_spare spare entries ≡ old → new ≡ marked entries number → with_spare spare new ≡ with_spare old.spare (marked old.entries number)
ended_view entries new spare number old is new_is =
    ap (with_spare spare) new_is ∙ ap (λ (r : RegistryView). with_spare r.spare (marked r.entries number)) is

marked_place : (entries : List RegisteredView) (place : ℕ) (entry : RegisteredView) → slice_get entries place ≡ Some entry → has_withdrawn (marked entries (suc place)) ≡ true
marked_place [] place entry found = absurd cc
marked_place (e ∷ entries) zero entry found = refl
marked_place (e ∷ entries) (suc place) entry found = ap (λ (b : Bool). e.withdrawn || b) (marked_place entries place entry found) ∙ or_true e.withdrawn

-- then one was withdrawn
pub has_withdrawn-marked : (entries : List RegisteredView) (number : ℕ) (entry : RegisteredView) → IsEntryAt entries number entry → has_withdrawn (marked entries number) ≡ true
has_withdrawn-marked entries zero entry at = absurd (omega (arith, at.some))
has_withdrawn-marked entries (suc place) entry at =
    let same : suc place - 1 ≡ place = omega arith in
    marked_place entries place entry (ap (slice_get entries) (sym same) ∙ at.found)

HasDigests-marked : (entries : List RegisteredView) (number : ℕ) (digests : List ℕ) → HasDigests entries digests → HasDigests (marked entries number) digests
HasDigests-marked entries number digests known other s found = known other s (sym (statement_of_number-marked entries number other) ∙ found)

-- the digests stay those of what is registered
pub IsIndexed-marked : (entries : List RegisteredView) (number : ℕ) (digests : List ℕ) (before : Bool) → IsSome (live_of_number entries number) → IsIndexed entries digests before → IsIndexed (marked entries number) digests true
IsIndexed-marked entries number digests before some indexed =
    let live = live_entry entries number some in
    let same = length-marked entries number in
    let few = indexed.few in
    record {
      few = omega (arith, same, few);
      rising = indexed.rising;
      known = HasDigests-marked entries number digests indexed.known;
      ended_is = sym (has_withdrawn-marked entries number live.entry live.at);
    }
