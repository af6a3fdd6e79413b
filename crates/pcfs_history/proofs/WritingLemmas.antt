-- The text of a table while a cursor goes through the events.
use Rattle.std.proofs.Common.{◌≡◌, ◌<◌, ◌≤◌, ◌+◌, ℕ, List, ◌++◌, Bool, length, take, get_or, refl, sym, ap, subst, ◌∙◌, add-one, Option, Some}
use Rattle.std.specs.List.{slice_get}
use Rattle.std.proofs.lemmas.Option.{slice_get_read}
use Rattle.pcfs_ports.specs.Observable.{HoldsSome, with_back}
use Rattle.journal_records.specs.declared.event.Event.{Event}
use Rattle.access_history.specs.History.{HistoryView}
use Rattle.history_table.specs.declared.filter.Filter.{Filter}
use Rattle.history_table.specs.Cursor.{CursorView, state_before}
use Rattle.pcfs_history.specs.Outbox.{GoesOut}
use Rattle.pcfs_history.specs.Written.{event_text, table_text}
use Rattle.pcfs_history.proofs.TableLemmas.{written_all, written_next, written_part, written_some, written_some_more}

-- the cursor is in the history, before the event of that place
abbrev pub StandsAt : HistoryView → CursorView → ℕ → Type 0
StandsAt h cursor place = cursor ≡ record { history = h; passed = place }

-- once it has passed that event, it is before the next one
pub has_passed : (h : HistoryView) (cursor after : CursorView) (place : ℕ) → StandsAt h cursor place → after ≡ record cursor { passed = cursor.passed + 1 } → StandsAt h after (place + 1)
has_passed h cursor after place at passed = passed ∙ ap (λ (c : CursorView). record c { passed = c.passed + 1 }) at

-- the event that it passes next is that of the place
pub stands_before : (h : HistoryView) (cursor : CursorView) (place : ℕ) (events : List Event) (event : Event) → StandsAt h cursor place → events ≡ h.events → place < length events → event ≡ get_or events place event →
    slice_get cursor.history.events cursor.passed ≡ Some event
stands_before h cursor place events event at same below read =
    subst (λ (c : CursorView). slice_get c.history.events c.passed ≡ Some event) (sym at)
    (subst (λ (es : List Event). slice_get es place ≡ Some event) same (slice_get_read events (length events) place event refl below read))

-- an equal event is the one read there too
pub read_again : (events : List Event) (place : ℕ) (event given : Event) → given ≡ event → event ≡ get_or events place event → given ≡ get_or events place given
read_again events place event given same read = subst (λ (e : Event). e ≡ get_or events place e) (sym same) read

module _ (json : Bool) (filter : Filter) (h : HistoryView) (start : Option (List ℕ)) where
  -- of the table the text of the first events is out, or on its way
  abbrev pub IsOnItsWay : ℕ → Option (List ℕ) → List ℕ → Type 0
  IsOnItsWay place held made = GoesOut start (table_text json filter h.base (take place h.events)) held made

  -- and that of one event more
  pub one_more : (cursor : CursorView) (place : ℕ) (events : List Event) (event : Event) (held new : Option (List ℕ)) (made after : List ℕ) → StandsAt h cursor place → events ≡ h.events → place < length events → event ≡ get_or events place event →
      IsOnItsWay place held made → GoesOut held (made ++ event_text json filter (state_before cursor) event) new after → IsOnItsWay (place + 1) new after
  one_more cursor place events event held new made after at same below read so_far more =
      written_next json filter h.base h.events start held new place (place + 1) event made after (subst (λ (es : List Event). place < length es) same below) (add-one place) (subst (λ (es : List Event). event ≡ get_or es place event) same read) so_far
      (subst (λ (c : CursorView). GoesOut held (made ++ event_text json filter (state_before c) event) new after) at more)

  -- the text of that event was cut
  pub is_cut : (cursor : CursorView) (place : ℕ) (events : List Event) (event : Event) (held new : Option (List ℕ)) (made : List ℕ) → StandsAt h cursor place → events ≡ h.events → place < length events → event ≡ get_or events place event →
      IsOnItsWay place held made → HoldsSome held new (made ++ event_text json filter (state_before cursor) event) → HoldsSome start new (table_text json filter h.base h.events)
  is_cut cursor place events event held new made at same below read so_far some =
      written_some_more json filter h.base h.events start held new place event made (subst (λ (es : List Event). place < length es) same below) (subst (λ (es : List Event). event ≡ get_or es place event) same read) so_far
      (subst (λ (c : CursorView). HoldsSome held new (made ++ event_text json filter (state_before c) event)) at some)

  -- no more is written
  pub is_left : (place : ℕ) (held : Option (List ℕ)) (made : List ℕ) → IsOnItsWay place held made → HoldsSome start held (table_text json filter h.base h.events)
  is_left place held made so_far = written_some json filter h.base h.events start held place made so_far

  -- all is written
  pub all_written : (place : ℕ) (events : List Event) (held new : Option (List ℕ)) (made : List ℕ) → events ≡ h.events → length events ≤ place → IsOnItsWay place held made → new ≡ with_back held made → new ≡ with_back start (table_text json filter h.base h.events)
  all_written place events held new made same past so_far written = written_all json filter h.base h.events start held new place made (subst (λ (es : List Event). length es ≤ place) same past) so_far written

  -- or some first part of what was left
  pub part_written : (place : ℕ) (events : List Event) (held new : Option (List ℕ)) (made : List ℕ) → events ≡ h.events → length events ≤ place → IsOnItsWay place held made → HoldsSome held new made → HoldsSome start new (table_text json filter h.base h.events)
  part_written place events held new made same past so_far some = written_part json filter h.base h.events start held new place made (subst (λ (es : List Event). length es ≤ place) same past) so_far some
