-- The rows after a recount: those of grants of which an issue cites the number were counted anew, and the others stand as before.
use Rattle.std.proofs.Common.{◌≡◌, ◌⊎◌, inl, inr, ⊎_elim, ◌==◌, ◌||◌, ℕ, suc, List, [], ◌∷◌, ◌++◌, length, map, Bool, true, false, if◌then◌else◌, cond, Option, Some, refl, sym, ap, subst, ◌∙◌}
use Rattle.std.specs.Prelude.{find, fold}
use Rattle.std.specs.List.{list_any, slice_get}
use Rattle.std.proofs.lemmas.Bool.{eqb-false}
use Rattle.bl_syntax.specs.Grant.{GrantView}
use Rattle.issue_standings.specs.declared.standing.GrantStanding.{GrantStanding}
use Rattle.issue_standings.specs.declared.standing.GrantStanding.TheVariants.{Unissued}
use Rattle.issue_standings.specs.declared.standings.Row.{Row}
use Rattle.issue_standings.specs.Bearing.{BearingView, cites}
use Rattle.issue_standings.specs.Gone.{HasOther}
use Rattle.issue_standings.specs.GrantStanding.{after, after_issue, standing_of}
use Rattle.issue_standings.specs.Rows.{AreRows, AreCounted, begun, begun_by, counted_anew, counted_in, each_changed, left, recounted}
use Rattle.issue_standings.specs.Index.{AreSameBut}
use Rattle.issue_standings.proofs.RowLemmas.{AreRows-each, AreRows-left, HoldsOfRows, HoldsOfRows-each, HoldsOfRows-left, KeepsPlace, get_push, length-each, length-left}
use Rattle.issue_standings.proofs.StandingLemmas.{after_other, after_same, has_or_other, standing_of-push}

-- ---- places stay

row_chosen : (test : Bool) (kept one other : Row) → one.place ≡ kept.place → other.place ≡ kept.place → (if test then one else other).place ≡ kept.place
row_chosen true kept one other same same_too = same
row_chosen false kept one other same same_too = same_too

keeps_begun : (number : ℕ) (b : BearingView) → KeepsPlace (begun_by number b)
keeps_begun number b kept = row_chosen (cites number b) kept (begun kept) kept refl refl

keeps_anew : (withdrawn : ℕ → Bool) (b : BearingView) → KeepsPlace (counted_anew withdrawn b)
keeps_anew withdrawn b kept = row_chosen kept.anew kept (counted_in (find withdrawn b.cited) kept) kept refl refl

module _ (withdrawn : ℕ → Bool) (number : ℕ) (bearings first : List BearingView) (rows : List Row) (row_of : List ℕ) where
  -- the rows stay
  pub AreRows-begun : AreRows bearings first rows row_of → AreRows bearings first (each_changed (begun_by number) row_of first (map left rows)) row_of
  AreRows-begun are = AreRows-each (begun_by number) (keeps_begun number) bearings first first row_of row_of (map left rows) (AreRows-left bearings first rows row_of are)

  pub AreRows-again : AreRows bearings first rows row_of → AreRows bearings first (recounted withdrawn number row_of first rows) row_of
  AreRows-again are =
      AreRows-each (counted_anew withdrawn) (keeps_anew withdrawn) bearings first first row_of row_of (each_changed (begun_by number) row_of first (map left rows)) (AreRows-begun are)

  pub length-begun : length (each_changed (begun_by number) row_of first (map left rows)) ≡ length rows
  length-begun = length-each (begun_by number) first row_of (map left rows) ∙ length-left rows

  pub length-again : length (recounted withdrawn number row_of first rows) ≡ length rows
  length-again = length-each (counted_anew withdrawn) first row_of (each_changed (begun_by number) row_of first (map left rows)) ∙ length-begun

-- ---- issues that do not cite the number

-- no issue with the grant cites it
abbrev NoneCites : ℕ → GrantView → List BearingView → Type 0
NoneCites number g bearings = (place : ℕ) (b : BearingView) → slice_get bearings place ≡ Some b → b.grant ≡ g → cites number b ≡ false

none_cites_push : (number : ℕ) (g : GrantView) (first : List BearingView) (b : BearingView) → NoneCites number g first → (b.grant ≡ g → cites number b ≡ false) → NoneCites number g (first ++ b ∷ [])
none_cites_push number g first b none last place c at =
    ⊎_elim (λ old. none place c old) (λ new. subst (λ (d : BearingView). d.grant ≡ g → cites number d ≡ false) new.1 last) (get_push first b place c at)

or_false : (one other : Bool) → (one || other) ≡ false → (one ≡ false) × (other ≡ false)
or_false true other is = absurd cc
or_false false other is = (refl, is)

if_true : (test : Bool) (one other : Row) → test ≡ true → (if test then one else other) ≡ one
if_true true one other is = refl
if_true false one other is = absurd cc

if_false : (test : Bool) (one other : Row) → test ≡ false → (if test then one else other) ≡ other
if_false true one other is = absurd cc
if_false false one other is = refl

-- ---- what was read of an issue and its row

-- the issue cites the number, or not
pub begun_citing : (number : ℕ) (b : BearingView) → cites number b ≡ true → (kept : Row) → begun kept ≡ begun_by number b kept
begun_citing number b is kept = sym (if_true (cites number b) (begun kept) kept is)

pub begun_not_citing : (number : ℕ) (b : BearingView) → cites number b ≡ false → (kept : Row) → begun_by number b kept ≡ kept
begun_not_citing number b is kept = if_false (cites number b) (begun kept) kept is

-- the row is to be counted anew, or not
pub counted_if_anew : (withdrawn : ℕ → Bool) (b : BearingView) (found : Option ℕ) (shown : List ℕ) (kept : Row) → found ≡ find withdrawn shown → shown ≡ b.cited → kept.anew ≡ true → counted_in found kept ≡ counted_anew withdrawn b kept
counted_if_anew withdrawn b found shown kept found_is shown_is is =
    ap (λ (o : Option ℕ). counted_in o kept) (found_is ∙ ap (find withdrawn) shown_is) ∙ sym (if_true kept.anew (counted_in (find withdrawn b.cited) kept) kept is)

pub kept_if_not : (withdrawn : ℕ → Bool) (b : BearingView) (kept : Row) → kept.anew ≡ false → counted_anew withdrawn b kept ≡ kept
kept_if_not withdrawn b kept is = if_false kept.anew (counted_in (find withdrawn b.cited) kept) kept is

-- ---- numbers that were withdrawn before

module _ (number : ℕ) (before now : ℕ → Bool) (same : AreSameBut number before now) where
  find_but : (numbers : List ℕ) → list_any (λ (n : ℕ). n == number) numbers ≡ false → find before numbers ≡ find now numbers
  find_but [] none = refl
  find_but (n ∷ numbers) none =
      let parts = or_false (n == number) (list_any (λ (m : ℕ). m == number) numbers) none in
      ap (λ (b : Bool). cond b (Some n) (find before numbers)) (same n (eqb-false n number parts.0)) ∙ ap (λ (o : Option ℕ). cond (now n) (Some n) o) (find_but numbers parts.1)

  after_but : (g : GrantView) (s : GrantStanding) (b : BearingView) → (b.grant ≡ g → cites number b ≡ false) → after_issue before g s b ≡ after_issue now g s b
  after_but g s b none =
      ⊎_elim (λ its. after_same before g s b its ∙ (ap (after s) (find_but b.cited (none its)) ∙ sym (after_same now g s b its))) (λ other. after_other before g s b other ∙ sym (after_other now g s b other))
      (has_or_other b g)

  standing_but : (g : GrantView) (s : GrantStanding) (first : List BearingView) → NoneCites number g first → fold (after_issue before g) s first ≡ fold (after_issue now g) s first
  standing_but g s [] none = refl
  standing_but g s (b ∷ first) none =
      standing_but g (after_issue before g s b) first (λ place c at. none (suc place) c at) ∙ ap (λ (t : GrantStanding). fold (after_issue now g) t first) (after_but g s b (none 0 b refl))

  -- ---- the rows that are to be counted anew

  module _ (all : List BearingView) where
    -- if some of the first issues with the grant cite the number, nothing is counted in the row; else it stands as before
    abbrev Begun : GrantView → List BearingView → Row → Type 0
    Begun g first kept = ((kept.anew ≡ false) × ((kept.standing ≡ standing_of before g all) × NoneCites number g first)) ⊎ ((kept.anew ≡ true) × (kept.standing ≡ Unissued))

    begun_left : (g : GrantView) (kept : Row) → kept.standing ≡ standing_of before g all → Begun g [] (left kept)
    begun_left g kept is = inl (refl, (is, λ place b found. absurd cc))

    begun_step : (test : Bool) (g : GrantView) (first : List BearingView) (b : BearingView) (kept : Row) → cites number b ≡ test → Begun g first kept → Begun g (first ++ b ∷ []) (if test then begun kept else kept)
    begun_step true g first b kept is holds = inr (refl, refl)
    begun_step false g first b kept is (inl old) = inl (old.0, (old.1.0, none_cites_push number g first b old.1.1 (λ its. is)))
    begun_step false g first b kept is (inr fresh) = inr fresh

    begun_here : (g : GrantView) (first : List BearingView) (b : BearingView) (kept : Row) → b.grant ≡ g → Begun g first kept → Begun g (first ++ b ∷ []) (begun_by number b kept)
    begun_here g first b kept its holds = begun_step (cites number b) g first b kept refl holds

    begun_there : (g : GrantView) (first : List BearingView) (b : BearingView) (kept : Row) → HasOther g b → Begun g first kept → Begun g (first ++ b ∷ []) kept
    begun_there g first b kept other (inl old) = inl (old.0, (old.1.0, none_cites_push number g first b old.1.1 (λ its. absurd (other its))))
    begun_there g first b kept other (inr fresh) = inr fresh

    -- ---- are counted anew

    -- the row stands by all issues, or is counted anew and stands by the first
    abbrev Anew : GrantView → List BearingView → Row → Type 0
    Anew g first kept = ((kept.anew ≡ false) × (kept.standing ≡ standing_of now g all)) ⊎ ((kept.anew ≡ true) × (kept.standing ≡ standing_of now g first))

    anew_begun : (g : GrantView) (kept : Row) → Begun g all kept → Anew g [] kept
    anew_begun g kept (inl old) = inl (old.0, old.1.0 ∙ standing_but g Unissued all old.1.1)
    anew_begun g kept (inr fresh) = inr fresh

    anew_here : (g : GrantView) (first : List BearingView) (b : BearingView) (kept : Row) → b.grant ≡ g → Anew g first kept → Anew g (first ++ b ∷ []) (counted_anew now b kept)
    anew_here g first b kept its (inl old) =
        subst (λ (r : Row). Anew g (first ++ b ∷ []) r) (sym (if_false kept.anew (counted_in (find now b.cited) kept) kept old.0)) (inl old)
    anew_here g first b kept its (inr fresh) =
        subst (λ (r : Row). Anew g (first ++ b ∷ []) r) (sym (if_true kept.anew (counted_in (find now b.cited) kept) kept fresh.0))
        (inr (fresh.0, ap (λ (s : GrantStanding). after s (find now b.cited)) fresh.1 ∙ (sym (after_same now g (standing_of now g first) b its) ∙ sym (standing_of-push now g first b))))

    anew_there : (g : GrantView) (first : List BearingView) (b : BearingView) (kept : Row) → HasOther g b → Anew g first kept → Anew g (first ++ b ∷ []) kept
    anew_there g first b kept other (inl old) = inl old
    anew_there g first b kept other (inr fresh) = inr (fresh.0, fresh.1 ∙ (sym (after_other now g (standing_of now g first) b other) ∙ sym (standing_of-push now g first b)))

    anew_end : (g : GrantView) (kept : Row) → Anew g all kept → kept.standing ≡ standing_of now g all
    anew_end g kept (inl old) = old.1
    anew_end g kept (inr fresh) = fresh.1

    -- so all are counted
    pub AreCounted-again : (bearings : List BearingView) (rows : List Row) (row_of : List ℕ) → AreRows bearings all rows row_of → AreCounted before bearings all rows → AreCounted now bearings all (recounted now number row_of all rows)
    AreCounted-again bearings rows row_of are counts =
        let rows_begun = each_changed (begun_by number) row_of all (map left rows) in
        let holds_left : HoldsOfRows (λ g kept. Begun g [] kept) bearings (map left rows) =
        HoldsOfRows-left (λ g kept. kept.standing ≡ standing_of before g all) (λ g kept. Begun g [] kept) bearings rows begun_left counts in
        let holds_begun : HoldsOfRows (λ g kept. Begun g all kept) bearings rows_begun =
        HoldsOfRows-each (begun_by number) (keeps_begun number) bearings Begun begun_here begun_there all (map left rows) row_of (AreRows-left bearings all rows row_of are) holds_left in
        let holds_anew : HoldsOfRows (λ g kept. Anew g [] kept) bearings rows_begun = λ row kept b at found. anew_begun b.grant kept (holds_begun row kept b at found) in
        let holds_counted : HoldsOfRows (λ g kept. Anew g all kept) bearings (recounted now number row_of all rows) =
        HoldsOfRows-each (counted_anew now) (keeps_anew now) bearings Anew anew_here anew_there all rows_begun row_of (AreRows-begun now number bearings all rows row_of are) holds_anew in
        λ row kept b at found. anew_end b.grant kept (holds_counted row kept b at found)
