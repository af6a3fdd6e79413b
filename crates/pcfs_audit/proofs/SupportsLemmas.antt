-- Until when grants have support, and what that tells of their standing.
use Rattle.std.proofs.Common.{◌≡◌, ◌⊎◌, inl, inr, ⊎_elim, ◌<◌, ◌≤◌, ◌+◌, ℕ, zero, suc, List, [], ◌∷◌, ◌++◌, length, get_or, replicate, set, take, Bool, true, false, cond, not, Option, Some, None, is_some, refl, sym, ap, subst, ◌∙◌, arith}
use Rattle.std.specs.Prelude.{Contains, IsTrue, find, fold, ◌↔◌}
use Rattle.std.specs.List.{AllByRecursion, slice_get}
use Rattle.std.proofs.lemmas.Bool.{false≢true, le-leb, lt-leb, leb-true, leb-false}
use Rattle.std.proofs.lemmas.List.{map_push, take_more}
use Rattle.std.proofs.lemmas.Option.{same_Some, slice_get_within, get_or_from_slice_get}
use Rattle.bl_syntax.specs.Equality.{grant_eq}
use Rattle.bl_syntax.specs.Grant.{GrantView}
use Rattle.bl_syntax.proofs.EqualityLemmas.{Decides-grant_eq}
use Rattle.policy_statement.specs.Withdrawal.{is_withdrawn}
use Rattle.issue_standings.specs.declared.standing.GrantStanding.{GrantStanding}
use Rattle.issue_standings.specs.declared.standing.GrantStanding.TheVariants as standings
use Rattle.issue_standings.specs.Bearing.{BearingView, IsUnissued}
use Rattle.issue_standings.specs.GrantStanding.{after, after_issue, gone_by, standing_of}
use Rattle.issue_standings.proofs.StandingLemmas.{find_nothing, find_same, not_gone, standing-unissued, standing_of-same}
use Rattle.journal_records.specs.declared.event.Event.{Event}
use Rattle.access_history.specs.declared.event.Issue.{Issue}
use Rattle.access_history.specs.Base.{BaseView}
use Rattle.access_history.specs.Gone.{bearing, bearings, gone, gone_by_issues, gone_by_names, gone_naming}
use Rattle.access_history.specs.Replay.{next_state, replay}
use Rattle.access_history.proofs.ReplayLemmas.{replay-more}
use Rattle.access_history.proofs.ListLemmas.{AllByRecursion-contains, IsImage-from_map}
use Rattle.pcfs_audit.specs.declared.dossier.Dossier.{Dossier}
use Rattle.pcfs_audit.specs.declared.papers.Before.{Before}
use Rattle.pcfs_audit.specs.declared.supports.Support.{Support}
use Rattle.pcfs_audit.specs.declared.supports.Support.TheVariants as kinds
use Rattle.pcfs_audit.specs.declared.supports.Supports.{Supports}
use Rattle.pcfs_audit.specs.Dossier.{IsDossier}
use Rattle.pcfs_audit.specs.Ends.{first_end, is_ended, is_past}
use Rattle.pcfs_audit.specs.Papers.{shown}
use Rattle.pcfs_audit.specs.Supports.{AreSupports, FollowIssues, IsFirstOf, TellsGone, has_lost, support_of, supported, supported_by}
use Rattle.pcfs_audit.proofs.EndsLemmas.{first_end_tells, never_past}
use Rattle.pcfs_audit.proofs.PapersLemmas.{TellsBefore}

-- ---- a grant's support, and how it stands before the event at a place

-- the standing is what the support makes of it there
abbrev Matches : ℕ → GrantStanding → Support → Type 0
Matches place standings.Unissued kinds.Unissued = Unit {0}
Matches place standings.Stands kinds.Always = Unit {0}
Matches place standings.Stands (kinds.Until end) = place < end
Matches place (standings.GoneBy number) (kinds.Until end) = end ≤ place
Matches place _ _ = ⊥

-- one more issue, of whose statements the first ends there
matches_after : (place : ℕ) (standing : GrantStanding) (support : Support) (found end : Option ℕ) → Matches place standing support → is_past end place ≡ is_some found → Matches place (after standing found) (supported support end)
matches_after place standings.Unissued kinds.Unissued None None h is = tt
matches_after place standings.Unissued kinds.Unissued None (Some end) h is = leb-false end place is
matches_after place standings.Unissued kinds.Unissued (Some number) None h is = absurd (false≢true is)
matches_after place standings.Unissued kinds.Unissued (Some number) (Some end) h is = leb-true end place is
matches_after place standings.Unissued (kinds.Until before) found end h is = absurd h
matches_after place standings.Unissued kinds.Always found end h is = absurd h
matches_after place standings.Stands kinds.Unissued found end h is = absurd h
matches_after place standings.Stands kinds.Always found end h is = tt
matches_after place standings.Stands (kinds.Until before) found None h is = tt
matches_after place standings.Stands (kinds.Until before) found (Some end) h is = omega (arith, h)
matches_after place (standings.GoneBy number) kinds.Unissued found end h is = absurd h
matches_after place (standings.GoneBy number) kinds.Always found end h is = absurd h
matches_after place (standings.GoneBy number) (kinds.Until before) None None h is = tt
matches_after place (standings.GoneBy number) (kinds.Until before) None (Some end) h is = omega (arith, leb-false end place is)
matches_after place (standings.GoneBy number) (kinds.Until before) (Some other) None h is = absurd (false≢true is)
matches_after place (standings.GoneBy number) (kinds.Until before) (Some other) (Some end) h is = omega (arith, h, leb-true end place is)

matches_if : (same : Bool) (place : ℕ) (standing : GrantStanding) (support : Support) (found end : Option ℕ) → Matches place standing support → is_past end place ≡ is_some found → Matches place (cond same (after standing found) standing) (cond same (supported support end) support)
matches_if true place standing support found end h is = matches_after place standing support found end h is
matches_if false place standing support found end h is = h

matches_all : (ends : List (Option ℕ)) (g : GrantView) (place : ℕ) (standing : GrantStanding) (support : Support) (issues : List BearingView) → Matches place standing support →
    Matches place (fold (after_issue (λ (number : ℕ). is_ended ends number place) g) standing issues) (fold (supported_by ends g) support issues)
matches_all ends g place standing support [] h = h
matches_all ends g place standing support (b ∷ issues) h =
    let withdrawn : ℕ → Bool = λ (number : ℕ). is_ended ends number place in
    matches_all ends g place (after_issue withdrawn g standing b) (supported_by ends g support b) issues
    (matches_if (grant_eq b.grant g) place standing support (find withdrawn b.cited) (first_end ends b.cited) h (first_end_tells ends b.cited place))

gone_matches : (place : ℕ) (standing : GrantStanding) (support : Support) → Matches place standing support → is_some (gone_by standing) ≡ has_lost support place
gone_matches place standings.Unissued kinds.Unissued h = refl
gone_matches place standings.Unissued (kinds.Until end) h = absurd h
gone_matches place standings.Unissued kinds.Always h = absurd h
gone_matches place standings.Stands kinds.Unissued h = absurd h
gone_matches place standings.Stands (kinds.Until end) h = sym (lt-leb end place h)
gone_matches place standings.Stands kinds.Always h = refl
gone_matches place (standings.GoneBy number) kinds.Unissued h = absurd h
gone_matches place (standings.GoneBy number) (kinds.Until end) h = sym (le-leb end place h)
gone_matches place (standings.GoneBy number) kinds.Always h = absurd h

-- a grant that names no statements is gone if it lost its support
gone_told : (ends : List (Option ℕ)) (g : GrantView) (place : ℕ) (state : BaseView) → ((number : ℕ) → is_withdrawn state.statements number ≡ is_ended ends number place) → is_some (gone_by_issues state g) ≡ has_lost (support_of ends g (bearings state.issues)) place
gone_told ends g place state same =
    let withdrawn : ℕ → Bool = λ (number : ℕ). is_ended ends number place in
    let issues = bearings state.issues in
    ap (λ (standing : GrantStanding). is_some (gone_by standing)) (standing_of-same (is_withdrawn state.statements) withdrawn same g issues)
    ∙ gone_matches place (standing_of withdrawn g issues) (support_of ends g issues) (matches_all ends g place standings.Unissued kinds.Unissued issues tt)

none_if : (found : Option ℕ) (lost : Bool) → is_some found ≡ lost → IsTrue (not lost) ↔ (found ≡ None)
none_if None lost is = (λ yes. refl, λ none. ap not (sym is))
none_if (Some number) lost is = (λ yes. absurd (false≢true (ap not is ∙ yes)), λ none. absurd cc)

-- ---- rows

contains_at : {A : Type 0} (items : List A) (place : ℕ) (item : A) → slice_get items place ≡ Some item → Contains items item
contains_at items place item found = (place, slice_get_within items place item found, get_or_from_slice_get items place item item found)

first_once : (grants : List GrantView) (g : GrantView) (row other : ℕ) → IsFirstOf grants g row → IsFirstOf grants g other → row ≡ other
first_once grants g row other one two = omega (arith, one.first other two.at, two.first row one.at)

set_here : {A : Type 0} (items : List A) (place : ℕ) (old new : A) → slice_get items place ≡ Some old → slice_get (set items place new) place ≡ Some new
set_here [] place old new found = absurd cc
set_here (item ∷ items) zero old new found = refl
set_here (item ∷ items) (suc place) old new found = set_here items place old new found

set_other : {A : Type 0} (items : List A) (place other : ℕ) (new : A) → (other ≡ place → ⊥) → slice_get (set items place new) other ≡ slice_get items other
set_other [] place other new differs = refl
set_other (item ∷ items) zero zero new differs = absurd (differs refl)
set_other (item ∷ items) zero (suc other) new differs = refl
set_other (item ∷ items) (suc place) zero new differs = refl
set_other (item ∷ items) (suc place) (suc other) new differs = set_other items place other new (λ same. differs (ap suc same))

fold_push : {A B : Type 0} (f : B → A → B) (start : B) (items : List A) (last : A) → fold f start (items ++ last ∷ []) ≡ f (fold f start items) last
fold_push f start [] last = refl
fold_push f start (item ∷ items) last = fold_push f (f start item) items last

support_of-push : (ends : List (Option ℕ)) (g : GrantView) (issues : List Issue) (issue : Issue) → support_of ends g (bearings (issues ++ issue ∷ [])) ≡ supported_by ends g (support_of ends g (bearings issues)) (bearing issue)
support_of-push ends g issues issue = ap (support_of ends g) (map_push bearing issues issue) ∙ fold_push (supported_by ends g) kinds.Unissued (bearings issues) (bearing issue)

counts_if : (same : Bool) (counted before : Support) → same ≡ true → cond same counted before ≡ counted
counts_if true counted before is = refl
counts_if false counted before is = absurd (false≢true is)

counts_not : (same : Bool) (counted before : Support) → (same ≡ true → ⊥) → cond same counted before ≡ before
counts_not true counted before differs = absurd (differs refl)
counts_not false counted before differs = refl

-- an issue counts for its grant alone
support-own : (ends : List (Option ℕ)) (issues : List Issue) (issue : Issue) → support_of ends issue.grant (bearings (issues ++ issue ∷ [])) ≡ supported (support_of ends issue.grant (bearings issues)) (first_end ends issue.cited)
support-own ends issues issue =
    let before = support_of ends issue.grant (bearings issues) in
    support_of-push ends issue.grant issues issue ∙ counts_if (grant_eq issue.grant issue.grant) (supported before (first_end ends issue.cited)) before ((Decides-grant_eq issue.grant issue.grant).1 refl)

support-other : (ends : List (Option ℕ)) (g : GrantView) (issues : List Issue) (issue : Issue) → (issue.grant ≡ g → ⊥) → support_of ends g (bearings (issues ++ issue ∷ [])) ≡ support_of ends g (bearings issues)
support-other ends g issues issue differs =
    let before = support_of ends g (bearings issues) in
    support_of-push ends g issues issue ∙ counts_not (grant_eq issue.grant g) (supported before (first_end ends issue.cited)) before (λ same. differs ((Decides-grant_eq issue.grant g).0 same))

grants_differ : (g other : GrantView) (same : Bool) → grant_eq g other ≡ same → (g ≡ other) ⊎ (g ≡ other → ⊥)
grants_differ g other true is = inl ((Decides-grant_eq g other).0 is)
grants_differ g other false is = inr (λ same. false≢true (sym is ∙ (Decides-grant_eq g other).1 same))

-- the row of an issue's grant is written
pub supports_counted : (grants : List GrantView) (ends : List (Option ℕ)) (issues : List Issue) (issue : Issue) (row : ℕ) (rows new : List Support) (made : Support) → IsFirstOf grants issue.grant row →
    ((support : Support) → slice_get rows row ≡ Some support → made ≡ supported support (first_end ends issue.cited)) → new ≡ set rows row made → AreSupports grants ends issues rows → AreSupports grants ends (issues ++ issue ∷ []) new
supports_counted grants ends issues issue row rows new made first made_is new_is are g other other_first =
    subst (λ (rs : List Support). slice_get rs other ≡ Some (support_of ends g (bearings (issues ++ issue ∷ [])))) (sym new_is)
    (⊎_elim
    (λ same.
    let first_is : IsFirstOf grants g row = subst (λ (h : GrantView). IsFirstOf grants h row) same first in
    let at : row ≡ other = first_once grants g row other first_is other_first in
    let own = are issue.grant row first in
    let now : slice_get (set rows row made) row ≡ Some made = set_here rows row (support_of ends issue.grant (bearings issues)) made own in
    let counted : made ≡ support_of ends issue.grant (bearings (issues ++ issue ∷ [])) = made_is (support_of ends issue.grant (bearings issues)) own ∙ sym (support-own ends issues issue) in
    subst (λ (p : ℕ). slice_get (set rows row made) p ≡ Some (support_of ends g (bearings (issues ++ issue ∷ [])))) at
    (now ∙ ap (λ (s : Support). Some s) counted ∙ ap (λ (h : GrantView). Some (support_of ends h (bearings (issues ++ issue ∷ [])))) same))
    (λ differs.
    let apart : other ≡ row → ⊥ = λ at. differs (same_Some issue.grant g (sym first.at ∙ ap (slice_get grants) (sym at) ∙ other_first.at)) in
    set_other rows row other made apart ∙ (are g other other_first ∙ ap (λ (s : Support). Some s) (sym (support-other ends g issues issue differs))))
    (grants_differ issue.grant g (grant_eq issue.grant g) refl))

-- an issue whose grant has no row
pub supports_uncounted : (grants : List GrantView) (ends : List (Option ℕ)) (issues : List Issue) (issue : Issue) (rows : List Support) → (Contains grants issue.grant → ⊥) → AreSupports grants ends issues rows → AreSupports grants ends (issues ++ issue ∷ []) rows
supports_uncounted grants ends issues issue rows none are g row first =
    let differs : issue.grant ≡ g → ⊥ = λ same. none (subst (Contains grants) (sym same) (contains_at grants row g first.at)) in
    are g row first ∙ ap (λ (s : Support). Some s) (sym (support-other ends g issues issue differs))

-- no issues
unissued_at : (count row : ℕ) → row < count → slice_get (replicate count kinds.Unissued) row ≡ Some kinds.Unissued
unissued_at zero row within = absurd (omega (arith, within))
unissued_at (suc count) zero within = refl
unissued_at (suc count) (suc row) within = unissued_at count row (omega (arith, within))

pub supports_none : (grants : List GrantView) (ends : List (Option ℕ)) (count : ℕ) (rows : List Support) → length grants ≤ count → rows ≡ replicate count kinds.Unissued → AreSupports grants ends [] rows
supports_none grants ends count rows few is g row first =
    let within : row < length grants = slice_get_within grants row g first.at in
    ap (λ (rs : List Support). slice_get rs row) is ∙ unissued_at count row (omega (arith, within, few))

pub replicate_push : (count : ℕ) → replicate count kinds.Unissued ++ kinds.Unissued ∷ [] ≡ replicate (count + 1) kinds.Unissued
replicate_push count = pushed count ∙ (let number : suc count ≡ count + 1 = omega arith in ap (λ (n : ℕ). replicate n kinds.Unissued) number)
  where
    pushed : (n : ℕ) → replicate n kinds.Unissued ++ kinds.Unissued ∷ [] ≡ replicate (suc n) kinds.Unissued
    pushed zero = refl
    pushed (suc n) = ap (λ (rows : List Support). kinds.Unissued ∷ rows) (pushed n)

pub length_replicate : (count : ℕ) → length (replicate count kinds.Unissued) ≡ count
length_replicate zero = refl
length_replicate (suc count) = ap suc (length_replicate count)

pub length_set : {A : Type 0} (items : List A) (place : ℕ) (item : A) → length (set items place item) ≡ length items
length_set [] place item = refl
length_set (first ∷ items) zero item = refl
length_set (first ∷ items) (suc place) item = ap suc (length_set items place item)

-- ---- events

-- an event that is no issue leaves the issues
pub follow_same : (dossier : Dossier) (issues : List Issue) (old new : Supports) → new.rows.items ≡ old.rows.items → FollowIssues dossier issues old → FollowIssues dossier issues new
follow_same dossier issues old new same follow = record {
  sized = ap length same ∙ follow.sized;
  rows_are = λ some. subst (AreSupports (shown dossier.papers.grants.items) dossier.papers.ends.items issues) (sym same) (follow.rows_are some);
}

-- ---- what they tell

-- nothing was ever withdrawn
gone_never : (state : BaseView) (g : GrantView) (named : List ℕ) → ((number : ℕ) → is_withdrawn state.statements number ≡ false) → gone_naming state g named ≡ None
gone_never state g [] none = not_gone (is_withdrawn state.statements) g (bearings state.issues) none
gone_never state g (number ∷ numbers) none = find_nothing (is_withdrawn state.statements) none (number ∷ numbers)

pub stands_always : (dossier : Dossier) (supports : Supports) (state : BaseView) (g : GrantView) → IsDossier dossier → dossier.papers.has_ended ≡ false → TellsGone dossier supports state → gone state g ≡ None
stands_always dossier supports state g is none tells =
    gone_never state g g.cited (λ number. tells.ended_are number ∙ never_past dossier.papers.ends.items number supports.place (is.papers_are.none_ended none))

-- a grant that names statements stands if none of them was withdrawn
by_names : (state : BaseView) (g : GrantView) (named : List ℕ) → (named ≡ [] → ⊥) → gone_by_names state named ≡ gone_naming state g named
by_names state g [] some = absurd (some refl)
by_names state g (number ∷ numbers) some = refl

pub stands_by_names : (dossier : Dossier) (supports : Supports) (state : BaseView) (g : GrantView) (named : List ℕ) → named ≡ g.cited → (named ≡ [] → ⊥) → TellsGone dossier supports state →
    IsTrue (not (is_past (first_end dossier.papers.ends.items named) supports.place)) ↔ (gone state g ≡ None)
stands_by_names dossier supports state g named named_are some tells =
    let ends = dossier.papers.ends.items in
    let found : gone_by_names state named ≡ find (λ (number : ℕ). is_ended ends number supports.place) named = find_same (is_withdrawn state.statements) (λ (number : ℕ). is_ended ends number supports.place) tells.ended_are named in
    let is : is_some (gone_by_names state named) ≡ is_past (first_end ends named) supports.place = ap is_some found ∙ sym (first_end_tells ends named supports.place) in
    let same : gone_by_names state named ≡ gone state g = by_names state g named some ∙ ap (gone_naming state g) named_are in
    none_if (gone state g) (is_past (first_end ends named) supports.place) (ap is_some (sym same) ∙ is)

-- one that names none stands as its issues tell
pub stands_plain : (state : BaseView) (g : GrantView) (named : List ℕ) (test : Bool) → named ≡ g.cited → named ≡ [] → IsTrue test ↔ (gone_by_issues state g ≡ None) → IsTrue test ↔ (gone state g ≡ None)
stands_plain state g named test named_are none tells = subst (λ (ns : List ℕ). IsTrue test ↔ (gone_naming state g ns ≡ None)) (sym none ∙ named_are) tells

no_issue : (grants : List GrantView) (issues : List Issue) (g : GrantView) → (Contains grants g → ⊥) → AllByRecursion (λ (issue : Issue). Contains grants issue.grant) issues → IsUnissued (bearings issues) g
no_issue grants issues g none known place at =
    let image = IsImage-from_map bearing issues at.bearing (contains_at (bearings issues) place at.bearing at.at) in
    let here : Contains grants image.item.grant = AllByRecursion-contains (λ (issue : Issue). Contains grants issue.grant) issues image.item known image.contained in
    none (subst (Contains grants) (ap (λ (b : BearingView). b.grant) image.same ∙ at.grant_is) here)

-- a grant that is none of all
pub stands_unissued : (dossier : Dossier) (supports : Supports) (state : BaseView) (g : GrantView) → (Contains (shown dossier.papers.grants.items) g → ⊥) → TellsGone dossier supports state → gone_by_issues state g ≡ None
stands_unissued dossier supports state g none tells =
    ap gone_by (standing-unissued (is_withdrawn state.statements) g (bearings state.issues) (no_issue (shown dossier.papers.grants.items) state.issues g none tells.known))

-- a grant by its row
pub stands_by_row : (dossier : Dossier) (supports : Supports) (state : BaseView) (g : GrantView) (row : ℕ) (test : Bool) → dossier.papers.has_ended ≡ true → IsFirstOf (shown dossier.papers.grants.items) g row →
    ((support : Support) → slice_get supports.rows.items row ≡ Some support → test ≡ not (has_lost support supports.place)) → TellsGone dossier supports state → IsTrue test ↔ (gone_by_issues state g ≡ None)
stands_by_row dossier supports state g row test some first test_is tells =
    let ends = dossier.papers.ends.items in
    let support = support_of ends g (bearings state.issues) in
    let is : test ≡ not (has_lost support supports.place) = test_is support (tells.follow.rows_are some g row first) in
    subst (λ (b : Bool). IsTrue b ↔ (gone_by_issues state g ≡ None)) (sym is) (none_if (gone_by_issues state g) (has_lost support supports.place) (gone_told ends g supports.place state tells.ended_are))

-- what is told before an event
pub tells_gone : (dossier : Dossier) (supports : Supports) (base : BaseView) (events : List Event) (place : ℕ) (before : Before) → FollowIssues dossier (replay base (take place events)).issues supports → supports.place ≡ place →
    TellsBefore base events dossier.papers place before → TellsGone dossier supports (replay base (take place events))
tells_gone dossier supports base events place before follow place_is tells = record {
  follow = follow;
  known = tells.known;
  ended_are = λ number. tells.ended_are number ∙ ap (is_ended dossier.papers.ends.items number) (sym place_is);
}

-- the issues after one event more
pub followed_more : (dossier : Dossier) (supports : Supports) (base : BaseView) (events : List Event) (place : ℕ) (event : Event) → place < length events → event ≡ get_or events place event →
    FollowIssues dossier (next_state (replay base (take place events)) event).issues supports → FollowIssues dossier (replay base (take (place + 1) events)).issues supports
followed_more dossier supports base events place event within read follow =
    let more : take (place + 1) events ≡ take place events ++ event ∷ [] = take_more events place event within ∙ ap (λ (e : Event). take place events ++ e ∷ []) (sym read) in
    let next : next_state (replay base (take place events)) event ≡ replay base (take (place + 1) events) = sym (replay-more base (take place events) event) ∙ ap (replay base) (sym more) in
    subst (λ (state : BaseView). FollowIssues dossier state.issues supports) next follow

-- what follows the issues follows them after an event that makes none
pub follow_unmoved : (dossier : Dossier) (state : BaseView) (event made : Event) (old new : Supports) → event ≡ made → (next_state state made).issues ≡ state.issues → new.rows.items ≡ old.rows.items
    → FollowIssues dossier state.issues old → FollowIssues dossier (next_state state event).issues new
follow_unmoved dossier state event made old new is unmoved same follow =
    subst (λ (e : Event). FollowIssues dossier (next_state state e).issues new) (sym is)
    (subst (λ (issues : List Issue). FollowIssues dossier issues new) (sym unmoved) (follow_same dossier state.issues old new same follow))
