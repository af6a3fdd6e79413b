-- The text of a table with one event more, and the texts of issues.
use Rattle.std.proofs.Common.{◌≡◌, ◌<◌, ◌≤◌, ℕ, zero, suc, List, [], ◌∷◌, ◌++◌, Bool, length, take, get_or, refl, sym, ap, subst, ◌∙◌, append_assoc, Option, Some}
use Rattle.std.specs.List.{slice_get}
use Rattle.std.proofs.lemmas.List.{append-nil, take_all}
use Rattle.std.proofs.lemmas.Option.{none-some, same_Some, slice_get_read}
use Rattle.pcfs_ports.specs.Observable.{HoldsSome, with_back}
use Rattle.journal_records.specs.declared.event.Event.{Event}
use Rattle.access_history.specs.Base.{BaseView}
use Rattle.access_history.specs.Replay.{next_state, replay}
use Rattle.history_table.specs.declared.filter.Filter.{Filter}
use Rattle.pcfs_history.specs.Outbox.{GoesOut}
use Rattle.pcfs_history.specs.Written.{event_text, table_text}
use Rattle.pcfs_history.proofs.OutboxLemmas.{GoesOut-held, GoesOut-more, GoesOut-part, GoesOut-some, GoesOut-whole, HoldsSome-of}

table_next : (json : Bool) (filter : Filter) (state : BaseView) (events : List Event) (place : ℕ) (event : Event) → slice_get events place ≡ Some event →
    table_text json filter state (take (suc place) events) ≡ table_text json filter state (take place events) ++ event_text json filter (replay state (take place events)) event
table_next json filter state [] place event found = absurd (none-some _ found)
table_next json filter state (first ∷ events) zero event found = append-nil (event_text json filter state first) ∙ ap (event_text json filter state) (same_Some _ _ found)
table_next json filter state (first ∷ events) (suc place) event found =
    ap (λ (rest : List ℕ). event_text json filter state first ++ rest) (table_next json filter (next_state state first) events place event found)
    ∙ sym (append_assoc (event_text json filter state first) (table_text json filter (next_state state first) (take place events)) (event_text json filter (replay (next_state state first) (take place events)) event))

-- the table begins with that of the first events
table_parts : (json : Bool) (filter : Filter) (state : BaseView) (events : List Event) (place : ℕ) → (rest : List ℕ) × (table_text json filter state events ≡ table_text json filter state (take place events) ++ rest)
table_parts json filter state [] zero = ([], refl)
table_parts json filter state [] (suc place) = ([], refl)
table_parts json filter state (first ∷ events) zero = (table_text json filter state (first ∷ events), refl)
table_parts json filter state (first ∷ events) (suc place) =
    let parts = table_parts json filter (next_state state first) events place in
    (parts.0, ap (λ (texts : List ℕ). event_text json filter state first ++ texts) parts.1 ∙ sym (append_assoc (event_text json filter state first) (table_text json filter (next_state state first) (take place events)) parts.0))

module _ (json : Bool) (filter : Filter) (state : BaseView) (events : List Event) (start : Option (List ℕ)) where
  -- what is on its way after one event more
  pub written_next : (held new : Option (List ℕ)) (place next : ℕ) (event : Event) (made after : List ℕ) → place < length events → next ≡ suc place → event ≡ get_or events place event →
      GoesOut start (table_text json filter state (take place events)) held made → GoesOut held (made ++ event_text json filter (replay state (take place events)) event) new after →
      GoesOut start (table_text json filter state (take next events)) new after
  written_next held new place next event made after below next_is read so_far more =
      let found : slice_get events place ≡ Some event = slice_get_read events (length events) place event refl below read in
      let text = table_next json filter state events place event found in
      subst (λ (n : ℕ). GoesOut start (table_text json filter state (take n events)) new after) (sym next_is)
      (subst (λ (bytes : List ℕ). GoesOut start bytes new after) (sym text) (GoesOut-more start held new (table_text json filter state (take place events)) made (event_text json filter (replay state (take place events)) event) after so_far more))

  -- of what is on its way some first part of the table is out
  pub written_some : (held : Option (List ℕ)) (place : ℕ) (made : List ℕ) → GoesOut start (table_text json filter state (take place events)) held made → HoldsSome start held (table_text json filter state events)
  written_some held place made so_far =
      let parts = table_parts json filter state events place in
      HoldsSome-of start held (table_text json filter state (take place events)) parts.0 (table_text json filter state events) parts.1 (GoesOut-held start held (table_text json filter state (take place events)) made so_far)

  -- also where the next text was cut
  pub written_some_more : (held new : Option (List ℕ)) (place : ℕ) (event : Event) (made : List ℕ) → place < length events → event ≡ get_or events place event →
      GoesOut start (table_text json filter state (take place events)) held made → HoldsSome held new (made ++ event_text json filter (replay state (take place events)) event) → HoldsSome start new (table_text json filter state events)
  written_some_more held new place event made below read so_far some =
      let found : slice_get events place ≡ Some event = slice_get_read events (length events) place event refl below read in
      let parts = table_parts json filter state events (suc place) in
      let first = table_text json filter state (take place events) in
      let text = event_text json filter (replay state (take place events)) event in
      HoldsSome-of start new (first ++ text) parts.0 (table_text json filter state events) (parts.1 ∙ ap (λ (bytes : List ℕ). bytes ++ parts.0) (table_next json filter state events place event found))
      (GoesOut-some start held new first made text so_far some)

  -- all is out
  pub written_all : (held new : Option (List ℕ)) (place : ℕ) (made : List ℕ) → length events ≤ place → GoesOut start (table_text json filter state (take place events)) held made → new ≡ with_back held made → new ≡ with_back start (table_text json filter state events)
  written_all held new place made past so_far written =
      GoesOut-whole start held new (table_text json filter state (take place events)) made so_far written ∙ ap (λ (es : List Event). with_back start (table_text json filter state es)) (take_all place events past)

  -- or some first part of what was left
  pub written_part : (held new : Option (List ℕ)) (place : ℕ) (made : List ℕ) → length events ≤ place → GoesOut start (table_text json filter state (take place events)) held made → HoldsSome held new made → HoldsSome start new (table_text json filter state events)
  written_part held new place made past so_far some =
      subst (λ (es : List Event). HoldsSome start new (table_text json filter state es)) (take_all place events past) (GoesOut-part start held new (table_text json filter state (take place events)) made so_far some)
