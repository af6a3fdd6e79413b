-- Fids as they are kept, and what a search among them finds.
use Rattle.std.specs.Prelude.{◌≡◌, ℕ, zero, suc, [], ◌∷◌}
use Rattle.std.specs.List.{AllByRecursion}
use Rattle.std.specs.List.Sorted.{IsStrictlySortedBy}
use Rattle.std.specs.Map.{keys_of}
use Rattle.std.specs.Ordering.{nat_cmp}
use Rattle.std.specs.declared.cmp.Ordering.TheVariants.{Less}
use Rattle.nine_fids.specs.Fids.{FidList}

abbrev pub AreRising : FidList → Type 0
AreRising fids = IsStrictlySortedBy nat_cmp (keys_of fids)

-- the fid of that number stands at that place, after those with lesser numbers
abbrev pub IsFidAt : FidList → ℕ → ℕ → Type 0
IsFidAt [] number place = ⊥
IsFidAt (entry ∷ fids) number zero = entry.0 ≡ number
IsFidAt (entry ∷ fids) number (suc place) = (nat_cmp entry.0 number ≡ Less) × IsFidAt fids number place

-- a fid of that number would go to that place: those before it have lesser numbers, those from it
-- on greater ones
abbrev pub IsGap : FidList → ℕ → ℕ → Type 0
IsGap fids number zero = AllByRecursion (λ other. nat_cmp number other ≡ Less) (keys_of fids)
IsGap [] number (suc place) = ⊥
IsGap (entry ∷ fids) number (suc place) = (nat_cmp entry.0 number ≡ Less) × IsGap fids number place
