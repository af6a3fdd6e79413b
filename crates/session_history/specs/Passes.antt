-- Under which number an entry of a store stands, and whether a store is stopped (this project's
-- own).
use Rattle.std.specs.Prelude.{◌≡◌, ℕ, List, [], ◌∷◌, Bool, true, false}
use Rattle.std.specs.List.{AllByRecursion}
use Rattle.journal_records.specs.Passes.{event_pass}
use Rattle.pcfs_store.specs.Entries.{StoreEntry, happened, checkpointed, stopped}

-- the number of the pass in whose turn the entry was added
abbrev pub entry_pass : StoreEntry → ℕ
entry_pass (happened event) = event_pass event
entry_pass (checkpointed pass) = pass
entry_pass (stopped pass met) = pass

-- each of the entries was added in a turn of this pass
abbrev pub AllOfPass : ℕ → List StoreEntry → Type 0
AllOfPass pass entries = AllByRecursion (λ entry. entry_pass entry ≡ pass) entries

-- whether the mark Stop is among the entries: a disk failed, and nothing more is decided
abbrev pub has_stop : List StoreEntry → Bool
has_stop [] = false
has_stop (happened event ∷ entries) = has_stop entries
has_stop (checkpointed pass ∷ entries) = has_stop entries
has_stop (stopped pass met ∷ entries) = true
