-- The index: what it is of no issues, of one more, and after plain ones were counted again; and what it tells of a grant.
use Rattle.std.proofs.Common.{◌≡◌, ◌⊎◌, inl, inr, ⊎_elim, ◌<◌, ◌≤◌, ◌+◌, ℕ, zero, suc, List, [], ◌∷◌, ◌++◌, length, Bool, true, false, cond, Option, Some, None, IsSome, Result, Ok, Err, ◌||◌, ◌==◌, refl, sym, ap, subst, ◌∙◌, arith, length-append}
use Rattle.std.specs.Prelude.{find, IsOk, MatchOption, OnOk, Vec, vec_capacity, vec_len}
use Rattle.std.specs.declared.alloc.Global.{Global}
use Rattle.std.specs.List.{slice_get}
use Rattle.std.proofs.lemmas.Bool.{false≢true}
use Rattle.std.proofs.lemmas.Bool.Decides.{Decides-eqb}
use Rattle.std.proofs.lemmas.Option.{none-some, same_Some, slice_get_within}
use Rattle.bl_syntax.specs.Grant.{GrantView}
use Rattle.policy_statement.specs.Registered.{RegisteredView}
use Rattle.policy_statement.specs.Withdrawal.{has_withdrawn, is_withdrawn}
use Rattle.procap.specs.Genuine.{seal_of}
use Rattle.procap.specs.declared.procap.Procap.{Procap}
use Rattle.issue_standings.specs.declared.standings.Row.{Row}
use Rattle.issue_standings.specs.declared.standings.Standings.{Standings}
use Rattle.issue_standings.specs.Bearing.{BearingView, IsUnissued, is_plain, plain}
use Rattle.issue_standings.specs.GrantStanding.{standing_of, gone_by}
use Rattle.issue_standings.specs.Rows.{IsRowOf, AreRows, AreCounted, TellsRow, counted, counted_in, recounted}
use Rattle.issue_standings.specs.Index.{AreFronts, AreSameBut, Finds, GivesRow, HasNewRow, IsIndexOf, IsSameIndex, Knows, added_row, front_of, kept_row, room_of, row_at, rows_of}
use Rattle.issue_standings.proofs.RowLemmas.{AreRows-added, AreCounted-added, IsReady, counted_more, get_push, length-changed, new_row, ready_added, ready_found, rows_more, unissued_rowless}
use Rattle.issue_standings.proofs.PlainLemmas.{plain-named, plain-push, plain_unnamed, standing_of-plain, unissued-plain}
use Rattle.issue_standings.proofs.RecountLemmas.{AreCounted-again, AreRows-again, length-again}
use Rattle.issue_standings.proofs.StandingLemmas.{not_gone, some_is, standing-unissued, standing_of-same}

-- ---- where nothing was withdrawn

first_false : (entry : RegisteredView) (entries : List RegisteredView) → has_withdrawn (entry ∷ entries) ≡ false → (entry.withdrawn ≡ false) × (has_withdrawn entries ≡ false)
first_false entry entries none = parts entry.withdrawn (has_withdrawn entries) none where
  parts : (a b : Bool) → (a || b) ≡ false → (a ≡ false) × (b ≡ false)
  parts true b is = absurd cc
  parts false b is = (refl, is)

none_at : (entries : List RegisteredView) (place : ℕ) → has_withdrawn entries ≡ false → is_withdrawn entries (suc place) ≡ false
none_at [] place none = refl
none_at (entry ∷ entries) zero none = (first_false entry entries none).0
none_at (entry ∷ entries) (suc place) none = none_at entries place (first_false entry entries none).1

-- no number was withdrawn
pub none_withdrawn : (entries : List RegisteredView) → has_withdrawn entries ≡ false → (number : ℕ) → is_withdrawn entries number ≡ false
none_withdrawn entries none zero = refl
none_withdrawn entries none (suc place) = none_at entries place none

-- no grant is gone
pub nothing_gone : (entries : List RegisteredView) (g : GrantView) (bearings : List BearingView) → has_withdrawn entries ≡ false → gone_by (standing_of (is_withdrawn entries) g bearings) ≡ None
nothing_gone entries g bearings none = not_gone (is_withdrawn entries) g bearings (none_withdrawn entries none)

-- ---- no issues

-- an index without rows
pub IsIndexOf-nothing : (key : List ℕ) (entries : List RegisteredView) (index : Standings) → rows_of index ≡ [] → index.row_of.items ≡ [] → ((front : ℕ) → row_at index front ≡ None) → IsIndexOf key entries [] index
IsIndexOf-nothing key entries index no_rows no_row_of no_fronts = record {
  rows = record {
    each = ap length no_row_of;
    has = λ place b found. absurd cc;
    places = λ row kept found. absurd (no_item row kept (subst (λ (rs : List Row). slice_get rs row ≡ Some kept) no_rows found));
    once = λ g row other is is_too. absurd (no_item row is.kept (subst (λ (rs : List Row). slice_get rs row ≡ Some is.kept) no_rows is.at));
  };
  counted = λ row kept b found at. absurd cc;
  fronts = record { known = λ place b found. absurd cc; within = λ front row found. absurd (none-some row (sym (no_fronts front) ∙ found)) };
} where
  no_item : (row : ℕ) (kept : Row) → slice_get [] row ≡ Some kept → ⊥
  no_item row kept found = absurd cc

-- ---- the same index

fronts_same : (key : List ℕ) (bearings : List BearingView) (index other : Standings) → IsSameIndex index other → AreFronts key bearings index → AreFronts key bearings other
fronts_same key bearings index other same are = record {
  known = λ place b found. subst IsSome (sym (same.fronts (front_of (seal_of key b.grant)))) (are.known place b found);
  within = λ front row found. subst (λ (rs : List Row). row < length rs) (sym same.rows) (are.within front row (sym (same.fronts front) ∙ found));
}

-- what has the same as an index is one
pub IsIndexOf-same : (key : List ℕ) (entries : List RegisteredView) (bearings : List BearingView) (index other : Standings) → IsSameIndex index other → IsIndexOf key entries bearings index → IsIndexOf key entries bearings other
IsIndexOf-same key entries bearings index other same is = record {
  rows = subst (λ (rs : List Row). AreRows bearings (plain bearings) rs other.row_of.items) (sym same.rows) (subst (λ (ns : List ℕ). AreRows bearings (plain bearings) (rows_of index) ns) (sym same.row_of) is.rows);
  counted = subst (λ (rs : List Row). AreCounted (is_withdrawn entries) bearings (plain bearings) rs) (sym same.rows) is.counted;
  fronts = fronts_same key bearings index other same is.fronts;
}

-- an index stays one if no number is withdrawn or stands that did not before
pub IsIndexOf-entries : (key : List ℕ) (before now : List RegisteredView) (bearings : List BearingView) (index : Standings) → ((number : ℕ) → is_withdrawn now number ≡ is_withdrawn before number) → IsIndexOf key before bearings index → IsIndexOf key now bearings index
IsIndexOf-entries key before now bearings index same is = record {
  rows = is.rows;
  counted = λ row kept b found at. is.counted row kept b found at ∙ sym (standing_of-same (is_withdrawn now) (is_withdrawn before) same b.grant (plain bearings));
  fronts = is.fronts;
}

-- ---- plain issues are counted again

pub IsIndexOf-recounted : (key : List ℕ) (number : ℕ) (before now : List RegisteredView) (bearings : List BearingView) (index other : Standings) → AreSameBut number (is_withdrawn before) (is_withdrawn now)
    → rows_of other ≡ recounted (is_withdrawn now) number index.row_of.items (plain bearings) (rows_of index) → other.row_of.items ≡ index.row_of.items
    → ((front : ℕ) → row_at other front ≡ row_at index front) → IsIndexOf key before bearings index → IsIndexOf key now bearings other
IsIndexOf-recounted key number before now bearings index other same_but rows_are same_rows same_fronts is =
    let row_of = index.row_of.items in
    let again = recounted (is_withdrawn now) number row_of (plain bearings) (rows_of index) in
    record {
      rows = subst (λ (rs : List Row). AreRows bearings (plain bearings) rs other.row_of.items) (sym rows_are)
          (subst (λ (ns : List ℕ). AreRows bearings (plain bearings) again ns) (sym same_rows) (AreRows-again (is_withdrawn now) number bearings (plain bearings) (rows_of index) row_of is.rows));
      counted = subst (λ (rs : List Row). AreCounted (is_withdrawn now) bearings (plain bearings) rs) (sym rows_are)
          (AreCounted-again number (is_withdrawn before) (is_withdrawn now) same_but (plain bearings) bearings (rows_of index) row_of is.rows is.counted);
      fronts = record {
        known = λ place b found. subst IsSome (sym (same_fronts (front_of (seal_of key b.grant)))) (is.fronts.known place b found);
        within = λ front row found.
            let below = is.fronts.within front row (sym (same_fronts front) ∙ found) in
            let count = ap length rows_are ∙ length-again (is_withdrawn now) number bearings (plain bearings) (rows_of index) row_of in
            omega (arith, below, count);
      };
    }

-- without plain issues, nothing is to be counted again
no_first : (first : List BearingView) (row_of : List ℕ) → length row_of ≡ length first → row_of ≡ [] → first ≡ []
no_first [] row_of each none = refl
no_first (b ∷ first) row_of each none = absurd (omega (arith, each, ap length none))

pub IsIndexOf-none_plain : (key : List ℕ) (before now : List RegisteredView) (bearings : List BearingView) (index : Standings) → index.row_of.items ≡ [] → IsIndexOf key before bearings index → IsIndexOf key now bearings index
IsIndexOf-none_plain key before now bearings index none is =
    let none_plain : plain bearings ≡ [] = no_first (plain bearings) index.row_of.items is.rows.each none in
    record {
      rows = is.rows;
      counted = λ row kept b found at.
          is.counted row kept b found at
          ∙ (ap (standing_of (is_withdrawn before) b.grant) none_plain ∙ sym (ap (standing_of (is_withdrawn now) b.grant) none_plain));
      fronts = is.fronts;
    }

-- ---- one issue more

front_chosen : (test : Bool) (front sought : ℕ) (new : ℕ) (old : Option ℕ) → IsSome old → IsSome (cond test (Some new) old)
front_chosen true front sought new old some = refl
front_chosen false front sought new old some = some

front_here : (front : ℕ) (new : ℕ) (old : Option ℕ) → IsSome (cond (front == front) (Some new) old)
front_here front new old =
    let same : front == front ≡ true = (Decides-eqb front front).1 refl in subst (λ (b : Bool). IsSome (cond b (Some new) old)) (sym same) refl

front_within : (test : Bool) (new row : ℕ) (old : Option ℕ) → cond test (Some new) old ≡ Some row → (new ≡ row) ⊎ (old ≡ Some row)
front_within true new row old is = inl (same_Some new row is)
front_within false new row old is = inr is

-- what the index has after a row was given for the grant
record IsGiven (key : List ℕ) (withdrawn : ℕ → Bool) (bearings : List BearingView) (b : BearingView) (index : Standings) (row : ℕ) : Type 0 where
  pub ready : IsReady withdrawn bearings (plain bearings) b (rows_of index) index.row_of.items row
  pub known : (place : ℕ) (c : BearingView) → slice_get (plain bearings ++ b ∷ []) place ≡ Some c → IsSome (row_at index (front_of (seal_of key c.grant)))
  pub within : (front row : ℕ) → row_at index front ≡ Some row → row < length (rows_of index)

module _ (key : List ℕ) (entries : List RegisteredView) (bearings : List BearingView) (b : BearingView) where
  -- the front of the grant's tag
  abbrev its_front : ℕ
  its_front = front_of (seal_of key b.grant)

  known_by : (index : Standings) → ((place : ℕ) (c : BearingView) → slice_get (plain bearings) place ≡ Some c → IsSome (row_at index (front_of (seal_of key c.grant)))) → IsSome (row_at index its_front)
      → (place : ℕ) (c : BearingView) → slice_get (plain bearings ++ b ∷ []) place ≡ Some c → IsSome (row_at index (front_of (seal_of key c.grant)))
  known_by index old new place c at =
      ⊎_elim (λ earlier. old place c earlier) (λ last. subst (λ (d : BearingView). IsSome (row_at index (front_of (seal_of key d.grant)))) last.1 new) (get_push (plain bearings) b place c at)

  given_found : (index : Standings) (row : ℕ) → IsIndexOf key entries bearings index → IsRowOf bearings (rows_of index) b.grant row → IsSome (row_at index its_front) → IsGiven key (is_withdrawn entries) bearings b index row
  given_found index row is row_is known_front = record {
    ready = ready_found (is_withdrawn entries) bearings (plain bearings) b (rows_of index) index.row_of.items row is.rows is.counted row_is;
    known = known_by index is.fronts.known known_front;
    within = is.fronts.within;
  }

  given_added : (index other : Standings) → is_plain b ≡ true → IsIndexOf key entries bearings index → IsUnissued (plain bearings) b.grant → HasNewRow index other (length bearings) its_front → IsGiven key (is_withdrawn entries) bearings b other (length (rows_of index))
  given_added index other is_so is none new =
      let more : length (rows_of other) ≡ length (rows_of index) + 1 = ap length new.rows ∙ length-append (rows_of index) (new_row (length bearings) ∷ []) in
      let none_at_all : IsUnissued bearings b.grant = unissued-plain b.grant (plain_unnamed b is_so) bearings none in
      record {
        ready = subst (λ (rs : List Row). IsReady (is_withdrawn entries) bearings (plain bearings) b rs other.row_of.items (length (rows_of index))) (sym new.rows)
            (subst (λ (ns : List ℕ). IsReady (is_withdrawn entries) bearings (plain bearings) b (rows_of index ++ new_row (length bearings) ∷ []) ns (length (rows_of index))) (sym (ap (λ v. v.items) new.row_of))
            (ready_added (is_withdrawn entries) bearings (plain bearings) b (rows_of index) index.row_of.items is.rows none_at_all none is.counted));
        known = known_by other
            (λ place c at. let front = front_of (seal_of key c.grant) in
            subst IsSome (sym (new.fronts front)) (front_chosen (its_front == front) its_front front (length (rows_of index)) (row_at index front) (is.fronts.known place c at)))
            (subst IsSome (sym (new.fronts its_front)) (front_here its_front (length (rows_of index)) (row_at index its_front)));
        within = λ front row at.
            ⊎_elim (λ last. omega (arith, last, more)) (λ old. let below = is.fronts.within front row old in omega (arith, below, more))
            (front_within (its_front == front) (length (rows_of index)) row (row_at index front) (sym (new.fronts front) ∙ at));
      }

  given : (index other : Standings) (row : ℕ) → is_plain b ≡ true → IsIndexOf key entries bearings index → GivesRow bearings b.grant its_front index other row → IsGiven key (is_withdrawn entries) bearings b other row
  given index other _ is_so is (kept_row row row_is known_front same) =
      subst (λ (i : Standings). IsGiven key (is_withdrawn entries) bearings b i row) (sym same) (given_found index row is row_is known_front)
  given index other _ is_so is (added_row row none new last) =
      subst (λ (n : ℕ). IsGiven key (is_withdrawn entries) bearings b other n) (sym last) (given_added index other is_so is none new)

  -- the index after one more plain issue: it was counted in the row that was given, which is that of the issue
  pub IsIndexOf-added : (index mid after : Standings) (row : ℕ) → is_plain b ≡ true → IsIndexOf key entries bearings index → GivesRow bearings b.grant its_front index mid row → rows_of after ≡ counted (rows_of mid) row (find (is_withdrawn entries) b.cited) →
      after.row_of.items ≡ mid.row_of.items ++ row ∷ [] → ((front : ℕ) → row_at after front ≡ row_at mid front) → IsIndexOf key entries (bearings ++ b ∷ []) after
  IsIndexOf-added index mid after row is_so is gives rows_are row_of_is same_fronts =
      let given_row = given index mid row is_so is gives in
      let withdrawn = is_withdrawn entries in
      let more = bearings ++ b ∷ [] in
      let plain_more : plain more ≡ plain bearings ++ b ∷ [] = plain-push bearings b is_so in
      let rows_counted = counted (rows_of mid) row (find withdrawn b.cited) in
      record {
        rows = subst (λ (rs : List Row). AreRows more (plain more) rs after.row_of.items) (sym rows_are)
            (subst (λ (ns : List ℕ). AreRows more (plain more) rows_counted ns) (sym row_of_is)
            (subst (λ (first : List BearingView). AreRows more first rows_counted (mid.row_of.items ++ row ∷ [])) (sym plain_more)
            (AreRows-added withdrawn bearings (plain bearings) b (rows_of mid) mid.row_of.items row given_row.ready)));
        counted = subst (λ (rs : List Row). AreCounted withdrawn more (plain more) rs) (sym rows_are)
            (subst (λ (first : List BearingView). AreCounted withdrawn more first rows_counted) (sym plain_more)
            (AreCounted-added withdrawn bearings (plain bearings) b (rows_of mid) mid.row_of.items row given_row.ready));
        fronts = record {
          known = λ place c at. subst IsSome (sym (same_fronts (front_of (seal_of key c.grant)))) (given_row.known place c (subst (λ (bs : List BearingView). slice_get bs place ≡ Some c) plain_more at));
          within = λ front place at.
              let below = given_row.within front place (sym (same_fronts front) ∙ at) in
              let count = ap length rows_are ∙ length-changed (counted_in (find withdrawn b.cited)) (rows_of mid) row in
              omega (arith, below, count);
        };
      }

  -- the index is that of one more issue if this is not plain
  pub IsIndexOf-named : (index : Standings) → is_plain b ≡ false → IsIndexOf key entries bearings index → IsIndexOf key entries (bearings ++ b ∷ []) index
  IsIndexOf-named index is_not is =
      let more = bearings ++ b ∷ [] in
      let same : plain more ≡ plain bearings = plain-named bearings b is_not in
      record {
        rows = subst (λ (first : List BearingView). AreRows more first (rows_of index) index.row_of.items) (sym same) (rows_more bearings (plain bearings) b (rows_of index) index.row_of.items is.rows);
        counted = subst (λ (first : List BearingView). AreCounted (is_withdrawn entries) more first (rows_of index)) (sym same)
            (counted_more (is_withdrawn entries) bearings (plain bearings) b (rows_of index) is.rows.places is.counted);
        fronts = record {
          known = λ place c at. is.fronts.known place c (subst (λ (bs : List BearingView). slice_get bs place ≡ Some c) same at);
          within = is.fronts.within;
        };
      }

  -- what was given for the grant that was read, by the front of its tag
  pub gives_its : (g : GrantView) (front : ℕ) (tag : List ℕ) (index mid : Standings) (row : ℕ) → g ≡ b.grant → tag ≡ seal_of key g → front ≡ front_of tag → GivesRow bearings g front index mid row → GivesRow bearings b.grant (front_of (seal_of key b.grant)) index mid row
  gives_its g front tag index mid row grant_is tag_is front_is gives =
      let at : front ≡ front_of (seal_of key b.grant) = front_is ∙ (ap front_of tag_is ∙ ap (λ (w : GrantView). front_of (seal_of key w)) grant_is) in
      subst (λ (w : GrantView). GivesRow bearings w (front_of (seal_of key b.grant)) index mid row) grant_is (subst (λ (n : ℕ). GivesRow bearings g n index mid row) at gives)

  -- the row that is given is one of the rows
  pub given_within : (index mid : Standings) (row : ℕ) → is_plain b ≡ true → IsIndexOf key entries bearings index → GivesRow bearings b.grant its_front index mid row → row < length (rows_of mid)
  given_within index mid row is_so is gives =
      let is_row = (given index mid row is_so is gives).ready.is_row in slice_get_within (rows_of mid) row is_row.kept is_row.at

-- ---- room

row_room : (index : Standings) → 1 ≤ room_of index → vec_len index.row_of < vec_capacity index.row_of
row_room index room = grind (arith, room)

-- there is room for the number of the row that is given
pub room_given : (bearings : List BearingView) (g : GrantView) (front : ℕ) (index mid : Standings) (row : ℕ) → 1 ≤ room_of index → GivesRow bearings g front index mid row → vec_len mid.row_of < vec_capacity mid.row_of
room_given bearings g front index mid _ room (kept_row row row_is known same) = subst (λ (i : Standings). vec_len i.row_of < vec_capacity i.row_of) (sym same) (row_room index room)
room_given bearings g front index mid _ room (added_row row none new last) = subst (λ (v : Vec ℕ Global). vec_len v < vec_capacity v) (sym new.row_of) (row_room index room)

-- what a call that succeeds says
pub done : {T E P : Type 0} (r : Result T E) → OnOk r P → IsOk r → P
done (Ok x) says ok = says
done (Err e) says ok = absurd (false≢true ok)

-- ---- what the index tells

-- no plain issue has a grant whose front is not known
pub unissued_unknown : (bearings : List BearingView) (index : Standings) (front : ℕ) (g : GrantView) → Finds bearings index front g → row_at index front ≡ None → IsUnissued (plain bearings) g
unissued_unknown bearings index front g finds none place has =
    let known : IsSome (row_at index (front_of (seal_of finds.key has.bearing.grant))) = finds.fronts.known place has.bearing has.at in
    let same : row_at index (front_of (seal_of finds.key has.bearing.grant)) ≡ None = ap (λ (w : GrantView). row_at index (front_of (seal_of finds.key w))) has.grant_is ∙ (ap (row_at index) (sym finds.front_is) ∙ none) in
    some_is (row_at index (front_of (seal_of finds.key has.bearing.grant))) known same

-- what is told of the rows is told of the issues
pub tells_issued : (bearings first : List BearingView) (rows : List Row) (row_of : List ℕ) (g : GrantView) (told : Option ℕ) → AreRows bearings first rows row_of → TellsRow bearings rows g told → MatchOption told (IsUnissued first g) (IsRowOf bearings rows g)
tells_issued bearings first rows row_of g None are told = unissued_rowless bearings first rows row_of g are told
tells_issued bearings first rows row_of g (Some row) are told = told

-- a procap that the index knows is found by the front of its tag
pub Finds-known : (entries : List RegisteredView) (bearings : List BearingView) (index : Standings) (p : Procap) → Knows entries bearings index p → Finds bearings index (front_of p.tag) p.grant
Finds-known entries bearings index p knows = record { key = knows.key; rows = knows.indexed.rows; fronts = knows.indexed.fronts; front_is = ap front_of knows.genuine }

-- the row of a grant that names no statements has how it stands
pub standing_in : (key : List ℕ) (entries : List RegisteredView) (bearings : List BearingView) (index : Standings) (g : GrantView) (row : ℕ) (kept : Row) → g.cited ≡ [] → IsIndexOf key entries bearings index → IsRowOf bearings (rows_of index) g row → slice_get (rows_of index) row ≡ Some kept →
    kept.standing ≡ standing_of (is_withdrawn entries) g bearings
standing_in key entries bearings index g row kept unnamed is row_is at =
    let same : kept ≡ row_is.kept = same_Some kept row_is.kept (sym at ∙ row_is.at) in
    let found = subst (λ (r : Row). slice_get bearings r.place ≡ Some row_is.grant_at.bearing) (sym same) row_is.grant_at.at in
    is.counted row kept row_is.grant_at.bearing at found
    ∙ (ap (λ (w : GrantView). standing_of (is_withdrawn entries) w (plain bearings)) row_is.grant_at.grant_is
    ∙ standing_of-plain g unnamed (is_withdrawn entries) bearings)

-- one that no plain issue has is not gone
pub unissued_not_gone : (entries : List RegisteredView) (g : GrantView) (bearings : List BearingView) → g.cited ≡ [] → IsUnissued (plain bearings) g → gone_by (standing_of (is_withdrawn entries) g bearings) ≡ None
unissued_not_gone entries g bearings unnamed none = ap gone_by (standing-unissued (is_withdrawn entries) g bearings (unissued-plain g unnamed bearings none))
