-- How a grant stands by its issues: what one more issue does, what the standing says of the issues, and what they say of it.
use Rattle.std.proofs.Common.{◌≡◌, ◌⊎◌, inl, inr, ⊎_elim, ℕ, suc, List, [], ◌∷◌, ◌++◌, Bool, true, false, if◌then◌else◌, cond, Option, Some, None, IsSome, refl, sym, ap, subst, ◌∙◌}
use Rattle.std.specs.Prelude.{◌↔◌, Contains, find, fold}
use Rattle.std.specs.List.{AllByRecursion}
use Rattle.std.proofs.lemmas.Bool.{false≢true}
use Rattle.std.proofs.lemmas.List.Elements.{All-from_recursion, All-contains, Contains-append_right}
use Rattle.bl_syntax.specs.Equality.{grant_eq}
use Rattle.bl_syntax.specs.Grant.{GrantView}
use Rattle.bl_syntax.proofs.EqualityLemmas.{Decides-grant_eq}
use Rattle.bl_syntax.proofs.GrantLemmas.{Contains-head}
use Rattle.issue_standings.specs.declared.standing.GrantStanding.{GrantStanding}
use Rattle.issue_standings.specs.declared.standing.GrantStanding.TheVariants.{Unissued, Stands, GoneBy}
use Rattle.issue_standings.specs.Bearing.{BearingView, IsUnissued}
use Rattle.issue_standings.specs.GrantStanding.{after, after_issue, standing_of, gone_by}
use Rattle.issue_standings.specs.Gone.{RestsOnWithdrawn, HasOther, IsGoneBy}

-- ---- folds

fold-append : {A B : Type 0} (f : B → A → B) (s : B) (xs ys : List A) → fold f s (xs ++ ys) ≡ fold f (fold f s xs) ys
fold-append f s [] ys = refl
fold-append f s (x ∷ xs) ys = fold-append f (f s x) xs ys

-- ---- one more issue

after_nothing : (before : GrantStanding) → after before None ≡ Stands
after_nothing Unissued = refl
after_nothing Stands = refl
after_nothing (GoneBy number) = refl

after_number : (before : GrantStanding) (number : ℕ) → (before ≡ Stands → ⊥) → after before (Some number) ≡ GoneBy number
after_number Unissued number not = refl
after_number Stands number not = absurd (not refl)
after_number (GoneBy other) number not = refl

-- what is gone by a number after an issue is gone by the issue's
gone_after : (before : GrantStanding) (found : Option ℕ) (number : ℕ) → after before found ≡ GoneBy number → found ≡ Some number
gone_after Stands found number is = absurd cc
gone_after Unissued None number is = absurd cc
gone_after Unissued (Some other) number is = cc
gone_after (GoneBy old) None number is = absurd cc
gone_after (GoneBy old) (Some other) number is = cc

-- an issue leaves no grant unissued
issued_after : (before : GrantStanding) (found : Option ℕ) → after before found ≡ Unissued → ⊥
issued_after Stands found is = absurd cc
issued_after Unissued None is = absurd cc
issued_after Unissued (Some number) is = absurd cc
issued_after (GoneBy old) None is = absurd cc
issued_after (GoneBy old) (Some number) is = absurd cc

-- what stands after an issue stood before, or the issue stands
stands_after : (before : GrantStanding) (found : Option ℕ) → after before found ≡ Stands → (before ≡ Stands) ⊎ (found ≡ None)
stands_after Stands found is = inl refl
stands_after before None is = inr refl
stands_after Unissued (Some number) is = absurd cc
stands_after (GoneBy old) (Some number) is = absurd cc

chosen : (test : Bool) (x y : GrantStanding) → test ≡ true → (if test then x else y) ≡ x
chosen true x y is = refl
chosen false x y is = absurd (false≢true is)

passed_by : (test : Bool) (x y : GrantStanding) → (test ≡ true → ⊥) → (if test then x else y) ≡ y
passed_by true x y not = absurd (not refl)
passed_by false x y not = refl

same_or_other : (test : Bool) (b : BearingView) (g : GrantView) → (test ≡ true → b.grant ≡ g) → (b.grant ≡ g → test ≡ true) → (b.grant ≡ g) ⊎ HasOther g b
same_or_other true b g there back = inl (there refl)
same_or_other false b g there back = inr (λ same. false≢true (back same))

-- an issue has the grant, or another
pub has_or_other : (b : BearingView) (g : GrantView) → (b.grant ≡ g) ⊎ HasOther g b
has_or_other b g = let decides = Decides-grant_eq b.grant g in same_or_other (grant_eq b.grant g) b g decides.0 decides.1

-- an issue with the grant, of whose statements none was withdrawn
pub record IsLive (withdrawn : ℕ → Bool) (g : GrantView) (bearings : List BearingView) : Type 0 where
  pub bearing : BearingView
  pub among : Contains bearings bearing
  pub grant_is : bearing.grant ≡ g
  pub none_withdrawn : find withdrawn bearing.cited ≡ None

-- the last issue with the grant
record HasLast (withdrawn : ℕ → Bool) (g : GrantView) (bearings : List BearingView) (number : ℕ) : Type 0 where
  pub earlier : List BearingView
  pub last : BearingView
  pub later : List BearingView
  pub parts : bearings ≡ earlier ++ last ∷ later
  pub grant_is : last.grant ≡ g
  pub none_later : AllByRecursion (HasOther g) later
  pub first : find withdrawn last.cited ≡ Some number

never_stood : Unissued ≡ Stands → ⊥
never_stood is = absurd cc

never_gone : (number : ℕ) → Unissued ≡ GoneBy number → ⊥
never_gone number is = absurd cc

-- a number that was found is not none
pub some_is : (found : Option ℕ) → IsSome found → found ≡ None → ⊥
some_is None some none = absurd cc
some_is (Some number) some none = absurd cc

gone_is : (standing : GrantStanding) (number : ℕ) → gone_by standing ≡ Some number → standing ≡ GoneBy number
gone_is Unissued number is = absurd cc
gone_is Stands number is = absurd cc
gone_is (GoneBy other) number is = cc

module _ (withdrawn : ℕ → Bool) (g : GrantView) where
  abbrev counts : GrantStanding → BearingView → GrantStanding
  counts before b = after_issue withdrawn g before b

  abbrev standing_from : GrantStanding → List BearingView → GrantStanding
  standing_from before bearings = fold counts before bearings

  -- one more issue with the grant counts
  pub after_same : (before : GrantStanding) (b : BearingView) → b.grant ≡ g → counts before b ≡ after before (find withdrawn b.cited)
  after_same before b same = chosen (grant_eq b.grant g) (after before (find withdrawn b.cited)) before ((Decides-grant_eq b.grant g).1 same)

  -- and one with another grant does not
  pub after_other : (before : GrantStanding) (b : BearingView) → HasOther g b → counts before b ≡ before
  after_other before b other = passed_by (grant_eq b.grant g) (after before (find withdrawn b.cited)) before (λ is. other ((Decides-grant_eq b.grant g).0 is))

  pub standing_of-push : (bearings : List BearingView) (b : BearingView) → standing_of withdrawn g (bearings ++ b ∷ []) ≡ counts (standing_of withdrawn g bearings) b
  standing_of-push bearings b = fold-append counts Unissued bearings (b ∷ [])

  -- issues with other grants do not count
  others_pass : (before : GrantStanding) (bearings : List BearingView) → AllByRecursion (HasOther g) bearings → standing_from before bearings ≡ before
  others_pass before [] all = refl
  others_pass before (b ∷ bearings) all =
      ap (λ (s : GrantStanding). standing_from s bearings) (after_other before b all.0) ∙ others_pass before bearings all.1

  all_other : (bearings : List BearingView) → IsUnissued bearings g → AllByRecursion (HasOther g) bearings
  all_other [] none = tt
  all_other (b ∷ bearings) none = (
    λ same. none 0 (record { bearing = b; at = refl; grant_is = same }),
    all_other bearings (λ place has. none (suc place) (record { bearing = has.bearing; at = has.at; grant_is = has.grant_is })),
  )

  -- a grant that no issue has is unissued
  pub standing-unissued : (bearings : List BearingView) → IsUnissued bearings g → standing_of withdrawn g bearings ≡ Unissued
  standing-unissued bearings none = others_pass Unissued bearings (all_other bearings none)

  -- ---- what stands

  -- once a grant stands, it stands
  stands_on : (bearings : List BearingView) → standing_from Stands bearings ≡ Stands
  stands_on [] = refl
  stands_on (b ∷ bearings) =
      ⊎_elim (λ same. ap (λ (s : GrantStanding). standing_from s bearings) (after_same Stands b same) ∙ stands_on bearings)
      (λ other. ap (λ (s : GrantStanding). standing_from s bearings) (after_other Stands b other) ∙ stands_on bearings)
      (has_or_other b g)

  live_later : (b : BearingView) (bearings : List BearingView) → IsLive withdrawn g bearings → IsLive withdrawn g (b ∷ bearings)
  live_later b bearings live = record { bearing = live.bearing; among = Contains-append_right (b ∷ []) bearings live.bearing live.among; grant_is = live.grant_is; none_withdrawn = live.none_withdrawn }

  live_here : (before : GrantStanding) (b : BearingView) (bearings : List BearingView) → (b.grant ≡ g) ⊎ HasOther g b → counts before b ≡ Stands → IsLive withdrawn g (b ∷ bearings) ⊎ (before ≡ Stands)
  live_here before b bearings (inl same) is =
      ⊎_elim (λ old. inr old) (λ none. inl (record { bearing = b; among = Contains-head b b bearings refl; grant_is = same; none_withdrawn = none }))
      (stands_after before (find withdrawn b.cited) (sym (after_same before b same) ∙ is))
  live_here before b bearings (inr other) is = inr (sym (after_other before b other) ∙ is)

  live_or_before : (before : GrantStanding) (bearings : List BearingView) → standing_from before bearings ≡ Stands → IsLive withdrawn g bearings ⊎ (before ≡ Stands)
  live_or_before before [] is = inr is
  live_or_before before (b ∷ bearings) is =
      ⊎_elim (λ live. inl (live_later b bearings live)) (λ here. live_here before b bearings (has_or_other b g) here) (live_or_before (counts before b) bearings is)

  unissued_here : (before : GrantStanding) (b : BearingView) → (b.grant ≡ g) ⊎ HasOther g b → counts before b ≡ Unissued → (before ≡ Unissued) × HasOther g b
  unissued_here before b (inl same) is = absurd (issued_after before (find withdrawn b.cited) (sym (after_same before b same) ∙ is))
  unissued_here before b (inr other) is = (sym (after_other before b other) ∙ is, other)

  -- what is unissued after some issues was unissued, and they have other grants
  unissued_before : (before : GrantStanding) (bearings : List BearingView) → standing_from before bearings ≡ Unissued → (before ≡ Unissued) × AllByRecursion (HasOther g) bearings
  unissued_before before [] is = (is, tt)
  unissued_before before (b ∷ bearings) is =
      let later = unissued_before (counts before b) bearings is in
      let here = unissued_here before b (has_or_other b g) later.0 in
      (here.0, (here.1, later.1))

  live_of : (bearings : List BearingView) (b : BearingView) (standing : GrantStanding) → standing_of withdrawn g bearings ≡ standing → Contains bearings b → b.grant ≡ g → gone_by standing ≡ None → IsLive withdrawn g bearings
  live_of bearings b Unissued is among same not_gone =
      let others = (unissued_before Unissued bearings is).1 in
      absurd (All-contains (HasOther g) bearings b (All-from_recursion (HasOther g) bearings others) among same)
  live_of bearings b Stands is among same not_gone = ⊎_elim (λ live. live) (λ stood. absurd (never_stood stood)) (live_or_before Unissued bearings is)
  live_of bearings b (GoneBy number) is among same not_gone = absurd cc

  -- a grant that was issued and is not gone has an issue of whose statements none was withdrawn
  pub live_issue : (bearings : List BearingView) (b : BearingView) → Contains bearings b → b.grant ≡ g → gone_by (standing_of withdrawn g bearings) ≡ None → IsLive withdrawn g bearings
  live_issue bearings b among same not_gone = live_of bearings b (standing_of withdrawn g bearings) refl among same not_gone

  -- ---- what is gone

  some_found : (found : Option ℕ) (before : GrantStanding) (bearings : List BearingView) (number : ℕ) → standing_from (after before found) bearings ≡ GoneBy number → IsSome found
  some_found None before bearings number is =
      let both : Stands ≡ GoneBy number = sym (stands_on bearings) ∙ (ap (λ (s : GrantStanding). standing_from s bearings) (sym (after_nothing before)) ∙ is) in
      absurd cc
  some_found (Some other) before bearings number is = refl

  each_rests : (before : GrantStanding) (bearings : List BearingView) (number : ℕ) → standing_from before bearings ≡ GoneBy number → AllByRecursion (RestsOnWithdrawn withdrawn g) bearings
  each_rests before [] number is = tt
  each_rests before (b ∷ bearings) number is = (
    λ same. some_found (find withdrawn b.cited) before bearings number (ap (λ (s : GrantStanding). standing_from s bearings) (sym (after_same before b same)) ∙ is),
    each_rests (counts before b) bearings number is,
  )

  -- the issues have a last one with the grant, or they do not count
  abbrev LastOrNone : GrantStanding → List BearingView → ℕ → Type 0
  LastOrNone before bearings number = HasLast withdrawn g bearings number ⊎ ((before ≡ GoneBy number) × AllByRecursion (HasOther g) bearings)

  last_later : (b : BearingView) (bearings : List BearingView) (number : ℕ) → HasLast withdrawn g bearings number → HasLast withdrawn g (b ∷ bearings) number
  last_later b bearings number has = record {
    earlier = b ∷ has.earlier;
    last = has.last;
    later = has.later;
    parts = ap (λ (bs : List BearingView). b ∷ bs) has.parts;
    grant_is = has.grant_is;
    none_later = has.none_later;
    first = has.first;
  }

  last_here : (before : GrantStanding) (b : BearingView) (bearings : List BearingView) (number : ℕ) → (b.grant ≡ g) ⊎ HasOther g b → counts before b ≡ GoneBy number → AllByRecursion (HasOther g) bearings → LastOrNone before (b ∷ bearings) number
  last_here before b bearings number (inl same) is none =
      inl (record {
        earlier = [];
        last = b;
        later = bearings;
        parts = refl;
        grant_is = same;
        none_later = none;
        first = gone_after before (find withdrawn b.cited) number (sym (after_same before b same) ∙ is);
      })
  last_here before b bearings number (inr other) is none = inr (sym (after_other before b other) ∙ is, (other, none))

  last_or_none : (before : GrantStanding) (bearings : List BearingView) (number : ℕ) → standing_from before bearings ≡ GoneBy number → LastOrNone before bearings number
  last_or_none before [] number is = inr (is, tt)
  last_or_none before (b ∷ bearings) number is =
      ⊎_elim (λ has. inl (last_later b bearings number has)) (λ here. last_here before b bearings number (has_or_other b g) here.0 here.1) (last_or_none (counts before b) bearings number is)

  by_last : (bearings : List BearingView) (number : ℕ) → standing_of withdrawn g bearings ≡ GoneBy number → LastOrNone Unissued bearings number → IsGoneBy withdrawn g bearings number
  by_last bearings number is (inl has) = record {
    earlier = has.earlier;
    last = has.last;
    later = has.later;
    parts = has.parts;
    grant_is = has.grant_is;
    none_later = has.none_later;
    each_rests = each_rests Unissued bearings number is;
    first = has.first;
  }
  by_last bearings number is (inr none) = absurd (never_gone number none.0)

  -- what is gone is gone by the last issue
  gone_means : (bearings : List BearingView) (number : ℕ) → gone_by (standing_of withdrawn g bearings) ≡ Some number → IsGoneBy withdrawn g bearings number
  gone_means bearings number is =
      let gone = gone_is (standing_of withdrawn g bearings) number is in
      by_last bearings number gone (last_or_none Unissued bearings number gone)

  -- issues that rest on withdrawn statements let nothing stand
  stands_not_here : (before : GrantStanding) (b : BearingView) → (b.grant ≡ g) ⊎ HasOther g b → RestsOnWithdrawn withdrawn g b → (before ≡ Stands → ⊥) → counts before b ≡ Stands → ⊥
  stands_not_here before b (inl same) rests not is =
      ⊎_elim not (λ none. some_is (find withdrawn b.cited) (rests same) none) (stands_after before (find withdrawn b.cited) (sym (after_same before b same) ∙ is))
  stands_not_here before b (inr other) rests not is = not (sym (after_other before b other) ∙ is)

  stands_not : (before : GrantStanding) (bearings : List BearingView) → AllByRecursion (RestsOnWithdrawn withdrawn g) bearings → (before ≡ Stands → ⊥) → standing_from before bearings ≡ Stands → ⊥
  stands_not before [] all not is = not is
  stands_not before (b ∷ bearings) all not is = stands_not (counts before b) bearings all.1 (stands_not_here before b (has_or_other b g) all.0 not) is

  rests_front : (earlier later : List BearingView) → AllByRecursion (RestsOnWithdrawn withdrawn g) (earlier ++ later) → AllByRecursion (RestsOnWithdrawn withdrawn g) earlier
  rests_front [] later all = tt
  rests_front (b ∷ earlier) later all = (all.0, rests_front earlier later all.1)

  gone_by_last : (bearings : List BearingView) (number : ℕ) (gone : IsGoneBy withdrawn g bearings number) → standing_of withdrawn g (gone.earlier ++ gone.last ∷ gone.later) ≡ GoneBy number
  gone_by_last bearings number gone =
      let before = standing_of withdrawn g gone.earlier in
      let rests = rests_front gone.earlier (gone.last ∷ gone.later) (subst (AllByRecursion (RestsOnWithdrawn withdrawn g)) gone.parts gone.each_rests) in
      let not : before ≡ Stands → ⊥ = stands_not Unissued gone.earlier rests never_stood in
      let here : counts before gone.last ≡ GoneBy number =
      after_same before gone.last gone.grant_is ∙ (ap (after before) gone.first ∙ after_number before number not) in
      fold-append counts Unissued gone.earlier (gone.last ∷ gone.later)
      ∙ (others_pass (counts before gone.last) gone.later gone.none_later ∙ here)

  -- and what is gone by the last issue is gone
  gone_meant : (bearings : List BearingView) (number : ℕ) → IsGoneBy withdrawn g bearings number → gone_by (standing_of withdrawn g bearings) ≡ Some number
  gone_meant bearings number gone =
      ap (λ (bs : List BearingView). gone_by (standing_of withdrawn g bs)) gone.parts ∙ ap gone_by (gone_by_last bearings number gone)

  pub gone_exactly : (bearings : List BearingView) (number : ℕ) → (gone_by (standing_of withdrawn g bearings) ≡ Some number) ↔ IsGoneBy withdrawn g bearings number
  gone_exactly bearings number = (gone_means bearings number, gone_meant bearings number)

  -- a grant of which nothing that it rests on was withdrawn is not gone
  not_gone_here : (before : GrantStanding) (b : BearingView) → (b.grant ≡ g) ⊎ HasOther g b → find withdrawn b.cited ≡ None → gone_by before ≡ None → gone_by (counts before b) ≡ None
  not_gone_here before b (inl same) none not = ap gone_by (after_same before b same ∙ (ap (after before) none ∙ after_nothing before))
  not_gone_here before b (inr other) none not = ap gone_by (after_other before b other) ∙ not

  not_gone_from : (before : GrantStanding) (bearings : List BearingView) → AllByRecursion (λ (b : BearingView). find withdrawn b.cited ≡ None) bearings → gone_by before ≡ None → gone_by (standing_from before bearings) ≡ None
  not_gone_from before [] all not = not
  not_gone_from before (b ∷ bearings) all not = not_gone_from (counts before b) bearings all.1 (not_gone_here before b (has_or_other b g) all.0 not)

-- ---- where no number was withdrawn

pub find_nothing : (withdrawn : ℕ → Bool) → ((number : ℕ) → withdrawn number ≡ false) → (numbers : List ℕ) → find withdrawn numbers ≡ None
find_nothing withdrawn none [] = refl
find_nothing withdrawn none (number ∷ numbers) =
    ap (λ (b : Bool). cond b (Some number) (find withdrawn numbers)) (none number) ∙ find_nothing withdrawn none numbers

all_nothing : (withdrawn : ℕ → Bool) → ((number : ℕ) → withdrawn number ≡ false) → (bearings : List BearingView) → AllByRecursion (λ (b : BearingView). find withdrawn b.cited ≡ None) bearings
all_nothing withdrawn none [] = tt
all_nothing withdrawn none (b ∷ bearings) = (find_nothing withdrawn none b.cited, all_nothing withdrawn none bearings)

-- no grant is gone
pub not_gone : (withdrawn : ℕ → Bool) (g : GrantView) (bearings : List BearingView) → ((number : ℕ) → withdrawn number ≡ false) → gone_by (standing_of withdrawn g bearings) ≡ None
not_gone withdrawn g bearings none = not_gone_from withdrawn g Unissued bearings (all_nothing withdrawn none bearings) refl

-- ---- where the same numbers were withdrawn

pub find_same : (one other : ℕ → Bool) → ((number : ℕ) → one number ≡ other number) → (numbers : List ℕ) → find one numbers ≡ find other numbers
find_same one other same [] = refl
find_same one other same (number ∷ numbers) =
    ap (λ (b : Bool). cond b (Some number) (find one numbers)) (same number) ∙ ap (λ (o : Option ℕ). cond (other number) (Some number) o) (find_same one other same numbers)

after_issue_same : (one other : ℕ → Bool) → ((number : ℕ) → one number ≡ other number) → (g : GrantView) (before : GrantStanding) (b : BearingView) → after_issue one g before b ≡ after_issue other g before b
after_issue_same one other same g before b = ap (λ (found : Option ℕ). if grant_eq b.grant g then after before found else before) (find_same one other same b.cited)

standing_same : (one other : ℕ → Bool) → ((number : ℕ) → one number ≡ other number) → (g : GrantView) (before : GrantStanding) (bearings : List BearingView) → fold (after_issue one g) before bearings ≡ fold (after_issue other g) before bearings
standing_same one other same g before [] = refl
standing_same one other same g before (b ∷ bearings) =
    standing_same one other same g (after_issue one g before b) bearings ∙ ap (λ (s : GrantStanding). fold (after_issue other g) s bearings) (after_issue_same one other same g before b)

-- each grant stands the same
pub standing_of-same : (one other : ℕ → Bool) → ((number : ℕ) → one number ≡ other number) → (g : GrantView) (bearings : List BearingView) → standing_of one g bearings ≡ standing_of other g bearings
standing_of-same one other same g bearings = standing_same one other same g Unissued bearings
