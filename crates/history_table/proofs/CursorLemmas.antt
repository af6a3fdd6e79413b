-- A cursor before the first event, and past one more.
use Rattle.std.proofs.Common.{◌≡◌, ◌<◌, ◌-◌, ◌^◌, ℕ, suc, List, [], ◌∷◌, ◌++◌, get_or, length, take, refl, sym, ap, subst, ◌∙◌, arith, Some}
use Rattle.std.specs.Prelude.{IfOk, Result, Ok, Err}
use Rattle.std.specs.List.{slice_get}
use Rattle.std.proofs.lemmas.Option.{slice_get_read, slice_get_within}
use Rattle.bl_syntax.specs.TimeOrder.{IsMoment}
use Rattle.bl_syntax.specs.declared.lists.NoMemory.{NoMemory}
use Rattle.policy_statement.specs.Ring.{KeyView}
use Rattle.journal_records.specs.declared.event.Event.{Event}
use Rattle.journal_records.specs.declared.event.Event.TheVariants.{Registered, Withdrawn, Issued, Acted}
use Rattle.access_history.specs.Authority.{Authority}
use Rattle.access_history.specs.Base.{BaseView}
use Rattle.access_history.specs.History.{HistoryView, authority_of, authority_with, state_of}
use Rattle.access_history.specs.Lawful.{IsLawful, IsLawfulBase, MayFollow}
use Rattle.access_history.specs.Replay.{moment_next, next_state, replay}
use Rattle.access_history.proofs.LawfulLemmas.{IsLawfulBase-lawful}
use Rattle.access_history.proofs.ReplayLemmas.{replay-more}
use Rattle.history_table.specs.declared.issues.IssueIndex.{IssueIndex}
use Rattle.history_table.specs.declared.rows.Row.{Row}
use Rattle.history_table.specs.Table.{row_of}
use Rattle.history_table.specs.Following.{Keeps, MayKeep}
use Rattle.history_table.specs.Index.{IsIndexOf, digests_of}
use Rattle.history_table.specs.Cursor.{CursorView, IsAt}
use Rattle.history_table.proofs.NextLemmas.{counted_in, follows_in, lawful_front, take_next}

module _ (whole : HistoryView) (passed : ℕ) (before : HistoryView) (index : IssueIndex) (is : IsAt whole passed before index) where
  -- the state before the next event
  pub state_is : state_of before ≡ replay whole.base (take passed whole.events)
  state_is = ap (λ (b : BaseView). replay b before.events) is.base_is ∙ ap (replay whole.base) is.events_are

  authority_is : authority_of before ≡ authority_of whole
  authority_is = ap (λ (k : List ℕ). authority_with k before.ring) is.key_is ∙ ap (authority_with whole.key) is.ring_is

  -- the next event may be kept
  pub may_keep : (event : Event) → IsLawful (authority_of whole) whole.base whole.events → slice_get whole.events passed ≡ Some event → MayKeep before event
  may_keep event lawful next =
      let follows : MayFollow (authority_of whole) (replay whole.base (take passed whole.events)) event = follows_in (authority_of whole) whole.base whole.events passed event lawful next in
      let below : passed < length whole.events = slice_get_within whole.events passed event next in
      let counted : (replay whole.base (take passed whole.events)).count < 2 ^ 48 - 1 = counted_in (authority_of whole) whole.base whole.events passed lawful below in
      record {
        follows = subst (λ (a : Authority). MayFollow a (state_of before) event) (sym authority_is) (subst (λ (s : BaseView). MayFollow (authority_of whole) s event) (sym state_is) follows);
        counted = subst (λ (s : BaseView). s.count < 2 ^ 48 - 1) (sym state_is) counted;
      }

  -- past the next event
  pub is_past : (event : Event) (after : HistoryView) (more : IssueIndex) → slice_get whole.events passed ≡ Some event → Keeps before event after → IsIndexOf (digests_of before.key (next_state (state_of before) event).issues) more → IsAt whole (suc passed) after more
  is_past event after more next keeps indexed =
      let state : state_of after ≡ next_state (state_of before) event =
      ap (λ (b : BaseView). replay b after.events) keeps.base_is ∙ ap (replay before.base) keeps.events_are ∙ replay-more before.base before.events event in
      record {
        key_is = keeps.key_is ∙ is.key_is;
        ring_is = keeps.ring_is ∙ is.ring_is;
        base_is = keeps.base_is ∙ is.base_is;
        events_are = keeps.events_are ∙ ap (λ (es : List Event). es ++ event ∷ []) is.events_are ∙ sym (take_next whole.events passed event next);
        within = omega (arith, slice_get_within whole.events passed event next);
        index_is = subst (λ (k : List ℕ). IsIndexOf (digests_of k (state_of after).issues) more) (sym keeps.key_is) (subst (λ (s : BaseView). IsIndexOf (digests_of before.key s.issues) more) (sym state) indexed);
      }

-- before the first event
pub is_first : (whole before : HistoryView) (index : IssueIndex) → before.key ≡ whole.key → before.ring ≡ whole.ring → before.base ≡ whole.base → before.events ≡ [] → IsIndexOf (digests_of whole.key whole.base.issues) index → IsAt whole 0 before index
is_first whole before index key ring base events indexed =
    let state : state_of before ≡ whole.base = ap (λ (b : BaseView). replay b before.events) base ∙ ap (replay whole.base) events in
    record {
      key_is = key;
      ring_is = ring;
      base_is = base;
      events_are = events;
      within = omega arith;
      index_is = subst (λ (k : List ℕ). IsIndexOf (digests_of k (state_of before).issues) index) (sym key) (subst (λ (s : BaseView). IsIndexOf (digests_of whole.key s.issues) index) (sym state) indexed);
    }

moment_follows : (authority : Authority) (state : BaseView) (event : Event) → IsMoment state.moment → MayFollow authority state event → IsMoment (moment_next state.moment event)
moment_follows authority state (Registered pass statement signature) moment may = moment
moment_follows authority state (Withdrawn pass number signature) moment may = moment
moment_follows authority state (Issued pass cited proof grant) moment may = moment
moment_follows authority state (Acted pass caller op procaps at) moment may = may.in_range

-- the second of the next event is in the range
pub second_in_range : (authority : Authority) (base : BaseView) (events : List Event) (place : ℕ) (event : Event) → IsLawful authority base events → slice_get events place ≡ Some event → IsMoment (moment_next (replay base (take place events)).moment event)
second_in_range authority base events place event lawful next =
    moment_follows authority (replay base (take place events)) event
    (IsLawfulBase-lawful authority base (take place events) (lawful_front authority base events place lawful)).moment_in_range
    (follows_in authority base events place event lawful next)

-- a copy of the base, under a copy of the ring and the same key, may begin a history
pub base_lawful : (h : HistoryView) (key : List ℕ) (ring : List KeyView) (base : BaseView) → key ≡ h.key → ring ≡ h.ring → base ≡ h.base → IsLawful (authority_of h) h.base h.events → IsLawfulBase (authority_with key ring) base
base_lawful h key ring base key_is ring_is base_is lawful =
    subst (λ (k : List ℕ). IsLawfulBase (authority_with k ring) base) (sym key_is)
    (subst (λ (r : List KeyView). IsLawfulBase (authority_with h.key r) base) (sym ring_is)
    (subst (λ (b : BaseView). IsLawfulBase (authority_with h.key h.ring) b) (sym base_is) lawful.lawful_base))

-- ---- the cursor as it is seen

abbrev seen_as : HistoryView → ℕ → CursorView
seen_as whole passed = record { history = whole; passed = passed }

-- the next event of what is seen is the next one
pub next_event : (whole : HistoryView) (passed : ℕ) (view : CursorView) (event : Event) → seen_as whole passed ≡ view →
    slice_get view.history.events view.passed ≡ Some event → slice_get whole.events passed ≡ Some event
next_event whole passed view event is next = subst (λ (v : CursorView). slice_get v.history.events v.passed ≡ Some event) (sym is) next

-- and what is read in its place is it
pub next_read : (whole : HistoryView) (passed : ℕ) (view : CursorView) (read : List Event) (event : Event) → seen_as whole passed ≡ view →
    view.passed < length view.history.events → read ≡ whole.events → event ≡ get_or read passed event → slice_get whole.events passed ≡ Some event
next_read whole passed view read event is more read_is at =
    let below : passed < length whole.events = subst (λ (v : CursorView). v.passed < length v.history.events) (sym is) more in
    slice_get_read whole.events (length whole.events) passed event refl below (subst (λ (es : List Event). event ≡ get_or es passed event) read_is at)

module _ (whole : HistoryView) (passed : ℕ) (before : HistoryView) (index : IssueIndex) (view : CursorView) (event : Event) (at : IsAt whole passed before index)
    (seen : seen_as whole passed ≡ view) (lawful : IsLawful (authority_of whole) whole.base whole.events) (next : slice_get view.history.events view.passed ≡ Some event) where
  -- the number of the next event has its range
  pub row_counted : (state_of before).count < 2 ^ 64 - 1
  row_counted =
      let here : slice_get whole.events passed ≡ Some event = next_event whole passed view event seen next in
      let counted : (replay whole.base (take passed whole.events)).count < 2 ^ 48 - 1 = counted_in (authority_of whole) whole.base whole.events passed lawful (slice_get_within whole.events passed event here) in
      let same : (state_of before).count ≡ (replay whole.base (take passed whole.events)).count = ap (λ (s : BaseView). s.count) (state_is whole passed before index at) in
      omega (arith, counted, same)

  -- and its second too
  pub row_second : IsMoment (moment_next (state_of before).moment event)
  row_second =
      subst (λ (s : BaseView). IsMoment (moment_next s.moment event)) (sym (state_is whole passed before index at))
      (second_in_range (authority_of whole) whole.base whole.events passed event lawful (next_event whole passed view event seen next))

-- a row that was made has the second of its event
pub second_of_row : (result : Result Row NoMemory) (state : BaseView) (event : Event) → IfOk result (λ row. row ≡ row_of state event) → IsMoment (moment_next state.moment event) →
    IfOk result (λ row. IsMoment row.second)
second_of_row (Ok row) state event is moment = subst IsMoment (sym (ap (λ (r : Row). r.second) is)) moment
second_of_row (Err fault) state event is moment = is
