-- The papers of a history, event by event.
use Rattle.std.proofs.Common.{◌≡◌, ◌<◌, ◌≤◌, ◌+◌, ℕ, zero, suc, List, [], ◌∷◌, ◌++◌, length, take, drop, get_or, refl, sym, ap, subst, ◌∙◌, append_assoc, false, Some, arith}
use Rattle.std.specs.Prelude.{Contains}
use Rattle.std.specs.List.{AllByRecursion, slice_get}
use Rattle.std.proofs.lemmas.List.{append-nil, length-append, length-map, map_push, take-append-drop, take_at}
use Rattle.std.proofs.lemmas.List.Elements.{Contains-append_right}
use Rattle.bl_syntax.specs.Grant.{GrantView}
use Rattle.bl_syntax.specs.Statement.{StatementView}
use Rattle.bl_syntax.proofs.GrantLemmas.{Contains-head}
use Rattle.policy_statement.specs.Registered.{RegisteredView}
use Rattle.policy_statement.specs.Withdrawal.{is_withdrawn}
use Rattle.access_history.specs.declared.event.Issue.{Issue}
use Rattle.journal_records.specs.declared.event.Event.{Event}
use Rattle.journal_records.specs.declared.event.Event.TheVariants.{Registered, Withdrawn, Issued, Acted}
use Rattle.policy_statement.specs.Registry.{sayings}
use Rattle.access_history.specs.Base.{BaseView}
use Rattle.access_history.specs.Replay.{next_state, replay}
use Rattle.access_history.proofs.CitingLemmas.{sayings-marked, sayings-more}
use Rattle.access_history.proofs.ReplayLemmas.{replay-more}
use Rattle.pcfs_audit.specs.declared.papers.Before.{Before}
use Rattle.pcfs_audit.specs.declared.papers.Papers.{Papers}
use Rattle.pcfs_audit.specs.Ends.{AreEnds, IsEndWithin, NeverEnds, ends_with, is_ended}
use Rattle.pcfs_audit.specs.Papers.{ArePapers, counts_before, counts_in, grants_in, shown}
use Rattle.pcfs_audit.proofs.EndsLemmas.{AreEnds-more, ends_counted-more, ends_within-more}
use Rattle.pcfs_audit.proofs.ReferenceLemmas.{length-shown}

-- ---- what an event adds

abbrev pub said_by : Event → List StatementView
said_by (Registered pass statement signature) = statement ∷ []
said_by (Withdrawn pass number signature) = []
said_by (Issued pass cited proof g) = []
said_by (Acted pass caller op procaps moment) = []

abbrev pub granted_by : Event → List GrantView
granted_by (Registered pass statement signature) = []
granted_by (Withdrawn pass number signature) = []
granted_by (Issued pass cited proof g) = g ∷ []
granted_by (Acted pass caller op procaps moment) = []

said_next : (state : BaseView) (event : Event) → sayings (next_state state event).statements ≡ sayings state.statements ++ said_by event
said_next state (Registered pass statement signature) = sayings-more state.statements statement signature
said_next state (Withdrawn pass number signature) = sayings-marked state.statements number ∙ sym (append-nil (sayings state.statements))
said_next state (Issued pass cited proof g) = sym (append-nil (sayings state.statements))
said_next state (Acted pass caller op procaps moment) = sym (append-nil (sayings state.statements))

granted_next : (state : BaseView) (event : Event) → grants_in (next_state state event).issues ≡ grants_in state.issues ++ granted_by event
granted_next state (Registered pass statement signature) = sym (append-nil (grants_in state.issues))
granted_next state (Withdrawn pass number signature) = sym (append-nil (grants_in state.issues))
granted_next state (Issued pass cited proof g) = map_push (λ (i : Issue). i.grant) state.issues (record { cited = cited; proof = proof; grant = g })
granted_next state (Acted pass caller op procaps moment) = sym (append-nil (grants_in state.issues))

-- ---- counts

counts_before-more : (base : BaseView) (events : List Event) (event : Event) → counts_before base (events ++ event ∷ []) ≡ counts_before base events ++ counts_in (replay base events) ∷ []
counts_before-more base [] event = refl
counts_before-more base (first ∷ events) event = ap (λ (cs : List Before). counts_in base ∷ cs) (counts_before-more (next_state base first) events event)

length-counts_before : (base : BaseView) (events : List Event) → length (counts_before base events) ≡ length events
length-counts_before base [] = refl
length-counts_before base (event ∷ events) = ap suc (length-counts_before (next_state base event) events)

counts_at : (base : BaseView) (events : List Event) (place : ℕ) → place < length events → slice_get (counts_before base events) place ≡ Some (counts_in (replay base (take place events)))
counts_at base [] place within = absurd (omega (arith, within))
counts_at base (event ∷ events) zero within = refl
counts_at base (event ∷ events) (suc place) within = counts_at (next_state base event) events place (omega (arith, within))

-- how many statements and issues these papers have
abbrev pub counts_of : Papers → Before
counts_of papers = record { statements = length papers.statements.items; issues = length papers.grants.items }

pub counts_are : (base : BaseView) (events : List Event) (papers : Papers) → ArePapers base events papers → counts_of papers ≡ counts_in (replay base events)
counts_are base events papers are =
    let state = replay base events in
    let said : length papers.statements.items ≡ length state.statements =
    sym (length-shown papers.statements.items) ∙ ap length are.statements_are ∙ length-map state.statements (λ (entry : RegisteredView). entry.statement) in
    let granted : length papers.grants.items ≡ length state.issues =
    sym (length-shown papers.grants.items) ∙ ap length are.grants_are ∙ length-map state.issues (λ (i : Issue). i.grant) in
    let first : counts_of papers ≡ record { statements = length state.statements; issues = length papers.grants.items } = ap (λ (n : ℕ). record { statements = n; issues = length papers.grants.items }) said in
    first ∙ ap (λ (n : ℕ). record { statements = length state.statements; issues = n }) granted

-- there is a count for each event
pub counted : (base : BaseView) (events : List Event) (papers : Papers) → ArePapers base events papers → length papers.before.items ≡ length events
counted base events papers are = ap length are.before_are ∙ length-counts_before base events

-- the papers with those of one more event; the event after it has that place
pub ArePapers-more : (base : BaseView) (events : List Event) (event : Event) (papers after : Papers) (place : ℕ) → ArePapers base events papers → shown after.statements.items ≡ shown papers.statements.items ++ said_by event →
    shown after.grants.items ≡ shown papers.grants.items ++ granted_by event → after.before.items ≡ papers.before.items ++ counts_of papers ∷ [] → place ≡ length papers.before.items + 1 → after.ends.items ≡ ends_with papers.ends.items place event →
    (after.has_ended ≡ false → AllByRecursion NeverEnds after.ends.items) → ArePapers base (events ++ event ∷ []) after
ArePapers-more base events event papers after place are said granted before place_is ends none =
    let state = replay base events in
    let next : next_state state event ≡ replay base (events ++ event ∷ []) = sym (replay-more base events event) in
    let at : place ≡ length events + 1 = place_is ∙ ap (λ (n : ℕ). n + 1) (counted base events papers are) in
    let ends_is : after.ends.items ≡ ends_with papers.ends.items (length events + 1) event = ends ∙ ap (λ (n : ℕ). ends_with papers.ends.items n event) at in
    record {
      statements_are = said ∙ ap (λ (ss : List StatementView). ss ++ said_by event) are.statements_are ∙ sym (said_next state event) ∙ ap (λ (b : BaseView). sayings b.statements) next;
      grants_are = granted ∙ ap (λ (gs : List GrantView). gs ++ granted_by event) are.grants_are ∙ sym (granted_next state event) ∙ ap (λ (b : BaseView). grants_in b.issues) next;
      before_are = before ∙ ap (λ (cs : List Before). cs ++ counts_of papers ∷ []) are.before_are
          ∙ ap (λ (c : Before). counts_before base events ++ c ∷ []) (counts_are base events papers are) ∙ sym (counts_before-more base events event);
      ends_counted = ap length ends ∙ (ends_counted-more state papers.ends.items place event are.ends_counted ∙ ap (λ (b : BaseView). length b.statements) next);
      ends_within = subst (AllByRecursion (IsEndWithin (length (events ++ event ∷ [])))) (sym ends_is) (ends_within-more events event papers.ends.items are.ends_within);
      ends_are = subst (AreEnds base (events ++ event ∷ [])) (sym ends_is) (AreEnds-more base events event papers.ends.items are.ends_counted are.ends_within are.ends_are);
      none_ended = none;
    }

-- ---- what there was before an event

replay-joined : (base : BaseView) (first second : List Event) → replay base (first ++ second) ≡ replay (replay base first) second
replay-joined base [] second = refl
replay-joined base (event ∷ first) second = replay-joined (next_state base event) first second

abbrev Added : {A : Type 0} → List A → List A → Type 0
Added {A} before after = (more : List A) × (after ≡ before ++ more)

said_added : (state : BaseView) (events : List Event) → Added (sayings state.statements) (sayings (replay state events).statements)
said_added state [] = ([], sym (append-nil (sayings state.statements)))
said_added state (event ∷ events) =
    let rest = said_added (next_state state event) events in
    (said_by event ++ rest.0, rest.1 ∙ ap (λ (ss : List StatementView). ss ++ rest.0) (said_next state event) ∙ append_assoc (sayings state.statements) (said_by event) rest.0)

granted_added : (state : BaseView) (events : List Event) → Added (grants_in state.issues) (grants_in (replay state events).issues)
granted_added state [] = ([], sym (append-nil (grants_in state.issues)))
granted_added state (event ∷ events) =
    let rest = granted_added (next_state state event) events in
    (granted_by event ++ rest.0, rest.1 ∙ ap (λ (gs : List GrantView). gs ++ rest.0) (granted_next state event) ∙ append_assoc (grants_in state.issues) (granted_by event) rest.0)

front_of : {A : Type 0} (before after : List A) (count : ℕ) → count ≡ length before → Added before after → before ≡ take count after
front_of {A} before after count counted (more, is) = sym (ap (take count) is ∙ take_at before more count (sym counted))

-- what the papers tell of the state before an event
pub record TellsBefore (base : BaseView) (events : List Event) (papers : Papers) (place : ℕ) (before : Before) : Type 0 where
  pub statements_within : before.statements ≤ length papers.statements.items
  pub grants_within : before.issues ≤ length papers.grants.items
  pub statements_are : sayings (replay base (take place events)).statements ≡ take before.statements (shown papers.statements.items)
  pub grants_are : grants_in (replay base (take place events)).issues ≡ take before.issues (shown papers.grants.items)
  pub known : AllByRecursion (λ (issue : Issue). Contains (shown papers.grants.items) issue.grant) (replay base (take place events)).issues
  pub ended_are : (number : ℕ) → is_withdrawn (replay base (take place events)).statements number ≡ is_ended papers.ends.items number place

-- the grant of each of these issues is one of all
known_in : (all front more : List GrantView) (issues : List Issue) → all ≡ front ++ (grants_in issues ++ more) → AllByRecursion (λ (issue : Issue). Contains all issue.grant) issues
known_in all front more [] is = tt
known_in all front more (issue ∷ issues) is =
    let others : List GrantView = grants_in issues ++ more in (
      subst (λ (gs : List GrantView). Contains gs issue.grant) (sym is) (Contains-append_right front (issue.grant ∷ others) issue.grant (Contains-head issue.grant issue.grant others refl)),
      known_in all (front ++ issue.grant ∷ []) more issues (is ∙ sym (append_assoc front (issue.grant ∷ []) others)),
    )

length_added : {A : Type 0} (before after : List A) → Added before after → length before ≤ length after
length_added before after (more, is) = omega (arith, ap length is, length-append before more)

pub tells_before : (base : BaseView) (events : List Event) (papers : Papers) (place : ℕ) (before : Before) → ArePapers base events papers → place < length events → slice_get papers.before.items place ≡ Some before →
    TellsBefore base events papers place before
tells_before base events papers place before are within found =
    let state = replay base (take place events) in
    let whole : replay state (drop place events) ≡ replay base events = sym (replay-joined base (take place events) (drop place events)) ∙ ap (replay base) (take-append-drop place events) in
    let counts : Some before ≡ Some (counts_in state) = sym found ∙ ap (λ (cs : List Before). slice_get cs place) are.before_are ∙ counts_at base events place within in
    let is : before ≡ counts_in state = cc in
    let said : Added (sayings state.statements) (shown papers.statements.items) =
    subst (Added (sayings state.statements)) (ap (λ (b : BaseView). sayings b.statements) whole ∙ sym are.statements_are) (said_added state (drop place events)) in
    let granted : Added (grants_in state.issues) (shown papers.grants.items) =
    subst (Added (grants_in state.issues)) (ap (λ (b : BaseView). grants_in b.issues) whole ∙ sym are.grants_are) (granted_added state (drop place events)) in
    let said_count : before.statements ≡ length (sayings state.statements) = ap (λ (b : Before). b.statements) is ∙ sym (length-map state.statements (λ (entry : RegisteredView). entry.statement)) in
    let granted_count : before.issues ≡ length (grants_in state.issues) = ap (λ (b : Before). b.issues) is ∙ sym (length-map state.issues (λ (i : Issue). i.grant)) in
    record {
      statements_within = omega (arith, said_count, length_added (sayings state.statements) (shown papers.statements.items) said, length-shown papers.statements.items);
      grants_within = omega (arith, granted_count, length_added (grants_in state.issues) (shown papers.grants.items) granted, length-shown papers.grants.items);
      statements_are = front_of (sayings state.statements) (shown papers.statements.items) before.statements said_count said;
      grants_are = front_of (grants_in state.issues) (shown papers.grants.items) before.issues granted_count granted;
      known = known_in (shown papers.grants.items) [] granted.0 state.issues granted.1;
      ended_are = λ number. are.ends_are place number (omega (arith, within));
    }

-- what a count that is read tells
pub slice_get_at : {A : Type 0} (items : List A) (place : ℕ) (default : A) → place < length items → slice_get items place ≡ Some (get_or items place default)
slice_get_at [] place default within = absurd (omega (arith, within))
slice_get_at (item ∷ items) zero default within = refl
slice_get_at (item ∷ items) (suc place) default within = slice_get_at items place default (omega (arith, within))

pub tells_at : (base : BaseView) (events : List Event) (papers : Papers) (place : ℕ) (slice : List Before) (default : Before) → ArePapers base events papers → place < length events → slice ≡ papers.before.items →
    TellsBefore base events papers place (get_or slice place default)
tells_at base events papers place slice default are within same =
    let there : place < length slice = omega (arith, within, counted base events papers are, ap length same) in
    tells_before base events papers place (get_or slice place default) are within (ap (λ (items : List Before). slice_get items place) (sym same) ∙ slice_get_at slice place default there)
