-- A statement that was withdrawn stays withdrawn, whichever events come after.
use Rattle.std.proofs.Common.{◌≡◌, ◌∙◌, ◌+◌, ℕ, zero, suc, List, [], ◌∷◌, ◌++◌, Bool, true, false, if◌then◌else◌, Option, None, Some, refl, sym, ap, subst, arith}
use Rattle.std.specs.Prelude.{option_and_then}
use Rattle.std.specs.List.{slice_get}
use Rattle.std.specs.Option.{option_map, option_map_or}
use Rattle.std.proofs.lemmas.Option.{none-some, same_Some, slice_get-map}
use Rattle.bl_syntax.specs.Statement.{StatementView}
use Rattle.policy_statement.specs.Registered.{RegisteredView}
use Rattle.policy_statement.specs.Withdrawal.{entry_of_number, live_statement, marked}
use Rattle.journal_records.specs.declared.event.Event.{Event}
use Rattle.journal_records.specs.declared.event.Event.TheVariants.{Registered, Withdrawn, Issued, Acted}
use Rattle.policy_statement.specs.Registry.{sayings}
use Rattle.access_history.specs.Base.{BaseView}
use Rattle.access_history.specs.Books.{live_book, book_of}
use Rattle.access_history.specs.Laws.{IsWithdrawnIn}
use Rattle.access_history.specs.Numbered.{IsNumbered}
use Rattle.access_history.specs.Replay.{next_state, replay}
use Rattle.access_history.proofs.CitingLemmas.{IsLiveEntry, live_entry, live_in_registry}
use Rattle.access_history.proofs.NumberedLemmas.{Contains-numbered}

-- it is an entry of this statement, which was withdrawn
abbrev IsOut : Option RegisteredView → StatementView → Type 0
IsOut None s = ⊥
IsOut (Some entry) s = (entry.withdrawn ≡ true) × (entry.statement ≡ s)

-- ---- what an event does to it

-- more entries leave it
out_at-more : (entries more : List RegisteredView) (place : ℕ) (s : StatementView) → IsOut (slice_get entries place) s → IsOut (slice_get (entries ++ more) place) s
out_at-more [] more place s out = absurd out
out_at-more (entry ∷ entries) more zero s out = out
out_at-more (entry ∷ entries) more (suc place) s out = out_at-more entries more place s out

out-more : (entries more : List RegisteredView) (number : ℕ) (s : StatementView) → IsOut (entry_of_number entries number) s → IsOut (entry_of_number (entries ++ more) number) s
out-more entries more zero s out = out
out-more entries more (suc place) s out = out_at-more entries more place s out

-- and so does the withdrawal of whichever number
out_at-marked : (entries : List RegisteredView) (other place : ℕ) (s : StatementView) → IsOut (slice_get entries place) s → IsOut (slice_get (marked entries other) place) s
out_at-marked [] other place s out = out
out_at-marked (entry ∷ entries) zero place s out = out
out_at-marked (entry ∷ entries) (suc zero) zero s out = (refl, out.1)
out_at-marked (entry ∷ entries) (suc zero) (suc place) s out = out
out_at-marked (entry ∷ entries) (suc (suc other)) zero s out = out
out_at-marked (entry ∷ entries) (suc (suc other)) (suc place) s out = out_at-marked entries (suc other) place s out

out-marked : (entries : List RegisteredView) (other number : ℕ) (s : StatementView) → IsOut (entry_of_number entries number) s → IsOut (entry_of_number (marked entries other) number) s
out-marked entries other zero s out = out
out-marked entries other (suc place) s out = out_at-marked entries other place s out

out-next : (state : BaseView) (event : Event) (number : ℕ) (s : StatementView) → IsOut (entry_of_number state.statements number) s → IsOut (entry_of_number (next_state state event).statements number) s
out-next state (Registered pass statement signature) number s out =
    let entry : RegisteredView = record { statement = statement; signature = signature; withdrawn = false } in out-more state.statements (entry ∷ []) number s out
out-next state (Withdrawn pass other signature) number s out = out-marked state.statements other number s out
out-next state (Issued pass cited proof g) number s out = out
out-next state (Acted pass caller op procaps moment) number s out = out

out-replay : (state : BaseView) (events : List Event) (number : ℕ) (s : StatementView) → IsOut (entry_of_number state.statements number) s → IsOut (entry_of_number (replay state events).statements number) s
out-replay state [] number s out = out
out-replay state (event ∷ events) number s out = out-replay (next_state state event) events number s (out-next state event number s out)

-- ---- its withdrawal

out_place : (entries : List RegisteredView) (place : ℕ) (entry : RegisteredView) → slice_get entries place ≡ Some entry → IsOut (slice_get (marked entries (suc place)) place) entry.statement
out_place [] place entry found = absurd cc
out_place (e ∷ entries) zero entry found = (refl, ap (λ (r : RegisteredView). r.statement) (same_Some e entry found))
out_place (e ∷ entries) (suc place) entry found = out_place entries place entry found

-- a statement that stood is out once it is withdrawn
out_here : (entries : List RegisteredView) (number : ℕ) (s : StatementView) → IsNumbered (live_book entries) number (Some s) → IsOut (entry_of_number (marked entries number) number) s
out_here entries number s numbered =
    let live : IsLiveEntry entries number s = live_entry entries number s numbered in
    let at : suc live.numbered.place ≡ number = omega (arith, live.numbered.from_one) in
    let here : IsOut (entry_of_number (marked entries number) number) live.entry.statement =
    subst (λ (n : ℕ). IsOut (entry_of_number (marked entries n) n) live.entry.statement) at (out_place entries live.numbered.place live.entry live.numbered.found) in
    subst (λ (t : StatementView). IsOut (entry_of_number (marked entries number) number) t) live.said here

-- ---- what it comes to

abbrev shown_if : Bool → StatementView → Option StatementView
shown_if out s = if out then None else Some s

not_live-out : (found : Option RegisteredView) (s t : StatementView) → IsOut found s → option_and_then live_statement found ≡ Some t → ⊥
not_live-out None s t out live = out
not_live-out (Some entry) s t out live = none-some t (sym (ap (λ (gone : Bool). shown_if gone entry.statement) out.0) ∙ live)

counts-out : (found : Option RegisteredView) (s : StatementView) → IsOut found s → option_map_or (λ (entry : RegisteredView). entry.withdrawn) found false ≡ true
counts-out None s out = absurd out
counts-out (Some entry) s out = out.0

abbrev its_statement : RegisteredView → StatementView
its_statement entry = entry.statement

said-out : (found : Option RegisteredView) (s : StatementView) → IsOut found s → option_map its_statement found ≡ Some s
said-out None s out = absurd out
said-out (Some entry) s out = ap (λ (t : StatementView). Some t) out.1

-- the number keeps the statement
keeps-out : (entries : List RegisteredView) (number : ℕ) (s : StatementView) → IsOut (entry_of_number entries number) s → IsNumbered (sayings entries) number s
keeps-out entries zero s out = absurd out
keeps-out entries (suc place) s out =
    let from : suc place ≡ place + 1 = omega arith in
    record { place = place; from_one = from; found = slice_get-map its_statement entries place ∙ said-out (slice_get entries place) s out }

IsWithdrawnIn-out : (state : BaseView) (number : ℕ) (s : StatementView) → IsOut (entry_of_number state.statements number) s → IsWithdrawnIn state number s
IsWithdrawnIn-out state number s out =
    let keeps : IsNumbered (sayings state.statements) number s = keeps-out state.statements number s out in
    record {
      stands_not = λ held. not_live-out (entry_of_number state.statements number) s held.0 out (live_in_registry state.statements number held.0 held.1);
      counts = counts-out (entry_of_number state.statements number) s out;
      keeps = keeps;
      once = λ can. can.new (Contains-numbered (sayings state.statements) number s keeps);
    }

-- a statement that stood is withdrawn for good
pub withdrawn_for_good : (state : BaseView) (pass number : ℕ) (signature : List ℕ) (s : StatementView) (events : List Event)
    → IsNumbered (book_of state) number (Some s) → IsWithdrawnIn (replay (next_state state (Withdrawn pass number signature)) events) number s
withdrawn_for_good state pass number signature s events numbered =
    let after = next_state state (Withdrawn pass number signature) in
    IsWithdrawnIn-out (replay after events) number s (out-replay after events number s (out_here state.statements number s numbered))
