-- A list whose keys rise in an order is one in which each key comes after the one before it.
use Rattle.std.proofs.Common.{◌≡◌, List, [], ◌∷◌, Ordering, Less}
use Rattle.std.specs.List.{AllByRecursion}
use Rattle.std.specs.List.Sorted.{IsStrictlySortedBy}
use Rattle.std.specs.Map.{keys_of}
use Rattle.std.specs.Cmp.{IsTotalOrder}
use Rattle.std.proofs.lemmas.Map.Keys.{sorted_head, sorted_tail}
use Rattle.checkpoint_image.specs.Chain.{AreChained}

abbrev pub key_of : {K V : Type 0} → K × V → K
key_of row = row.0

sorted_cons : {K : Type 0} (cmp : K → K → Ordering) (key : K) (keys : List K) → AllByRecursion (λ other. cmp key other ≡ Less) keys → IsStrictlySortedBy cmp keys → IsStrictlySortedBy cmp (key ∷ keys)
unfolding IsStrictlySortedBy
sorted_cons cmp key keys after sorted = (after, sorted)

sorted_none : {K : Type 0} (cmp : K → K → Ordering) → IsStrictlySortedBy cmp []
unfolding IsStrictlySortedBy
sorted_none cmp = tt

-- the row's key comes after the previous one, and the row fits
abbrev pub IsAfter : {K V : Type 0} → (K → K → Ordering) → (K × V → Type 0) → K → K × V → Type 0
IsAfter cmp Fits previous row = (cmp previous row.0 ≡ Less) × Fits row

pub chained : {K V : Type 0} (cmp : K → K → Ordering) (Fits : K × V → Type 0) (previous : K) (rows : List (K × V)) → AllByRecursion (λ key. cmp previous key ≡ Less) (keys_of rows) → IsStrictlySortedBy cmp (keys_of rows) → AllByRecursion Fits rows → AreChained (IsAfter cmp Fits) key_of previous rows
chained cmp Fits previous [] after sorted fits = tt
chained cmp Fits previous (row ∷ rows) after sorted fits =
    ((after.0, fits.0), chained cmp Fits row.0 rows (sorted_head cmp row.0 (keys_of rows) sorted) (sorted_tail cmp row.0 (keys_of rows) sorted) fits.1)

pub each_fits : {K V : Type 0} (cmp : K → K → Ordering) (Fits : K × V → Type 0) (previous : K) (rows : List (K × V)) → AreChained (IsAfter cmp Fits) key_of previous rows → AllByRecursion Fits rows
each_fits cmp Fits previous [] h = tt
each_fits cmp Fits previous (row ∷ rows) h = (h.0.1, each_fits cmp Fits row.0 rows h.1)

all_after : {K V : Type 0} (cmp : K → K → Ordering) (order : IsTotalOrder cmp) (Fits : K × V → Type 0) (bound previous : K) (rows : List (K × V)) → cmp bound previous ≡ Less → AreChained (IsAfter cmp Fits) key_of previous rows → AllByRecursion (λ key. cmp bound key ≡ Less) (keys_of rows)
all_after cmp order Fits bound previous [] less h = tt
all_after cmp order Fits bound previous (row ∷ rows) less h =
    let here : cmp bound row.0 ≡ Less = order.trans bound previous row.0 less h.0.0 in
    (here, all_after cmp order Fits bound row.0 rows here h.1)

behind : {K V : Type 0} (cmp : K → K → Ordering) (order : IsTotalOrder cmp) (Fits : K × V → Type 0) (previous : K) (rows : List (K × V)) → AreChained (IsAfter cmp Fits) key_of previous rows → AllByRecursion (λ key. cmp previous key ≡ Less) (keys_of rows)
behind cmp order Fits previous [] h = tt
behind cmp order Fits previous (row ∷ rows) h = (h.0.0, all_after cmp order Fits previous row.0 rows h.0.0 h.1)

pub rising : {K V : Type 0} (cmp : K → K → Ordering) (order : IsTotalOrder cmp) (Fits : K × V → Type 0) (previous : K) (rows : List (K × V)) → AreChained (IsAfter cmp Fits) key_of previous rows → IsStrictlySortedBy cmp (keys_of rows)
rising cmp order Fits previous [] h = sorted_none cmp
rising cmp order Fits previous (row ∷ rows) h = sorted_cons cmp row.0 (keys_of rows) (behind cmp order Fits row.0 rows h.1) (rising cmp order Fits row.0 rows h.1)
