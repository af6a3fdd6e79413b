-- How many issues there are in the state of a store: each takes bytes of its area.
use Rattle.std.proofs.Common.{◌≡◌, ℕ, zero, suc, ◌+◌, ◌<◌, ◌≤◌, ◌^◌, List, [], ◌∷◌, ◌++◌, length, drop, refl, ap, arith, length-append}
use Rattle.std.specs.List.{flat_map}
use Rattle.std.specs.Int.{w32, to_be_bytes}
use Rattle.journal_core.specs.Area.{records, record_bytes}
use Rattle.journal_core.proofs.RecordLemmas.{record_length}
use Rattle.journal_records.specs.declared.event.Event.{Event}
use Rattle.journal_records.specs.declared.event.Event.TheVariants.{Registered, Withdrawn, Issued, Acted}
use Rattle.access_history.specs.declared.event.Issue.{Issue}
use Rattle.access_history.specs.Base.{BaseView}
use Rattle.access_history.specs.Replay.{next_state, replay}
use Rattle.record_parts.specs.RecordSpelling.{issued_spelling}
use Rattle.journal_records.specs.EventSpelling.{event_spelling}
use Rattle.checkpoint_image.specs.NodeSpelling.{nodes_spelling}
use Rattle.checkpoint_image.specs.ImageSpelling.{head_spelling, statements_spelling, issue_spelling, issues_spelling, fields_spelling, image_spelling}
use Rattle.checkpoint_image.specs.WithdrawnNumbers.{withdrawn_numbers_spelling}
use Rattle.checkpoint.specs.Reading.{IsSpelledAs, current, old}
use Rattle.pcfs_store.specs.StoredHistory.{payloads_of, state_after}
use Rattle.pcfs_store.specs.StoreView.{StoreView, settled_of, head_of, records_of, image_of, state_of_store, IsStore}
use Rattle.pcfs_store.proofs.EntryLemmas.{area-length}

-- an issue takes a byte
issue_long : (issue : Issue) → 1 ≤ length (issue_spelling issue)
unfolding issued_spelling
issue_long issue = omega arith

issues_long : (issues : List Issue) → length issues ≤ length (flat_map issue_spelling issues)
issues_long [] = omega arith
issues_long (issue ∷ issues) =
    let rest = issues_long issues in
    omega (arith, rest, issue_long issue, length-append (issue_spelling issue) (flat_map issue_spelling issues))

-- and so does each in an image of a state
fields_long : (base : BaseView) → length base.issues ≤ length (fields_spelling base)
unfolding fields_spelling
fields_long base =
    let statements = statements_spelling base.statements in
    let issues = issues_spelling base.issues in
    let nodes = nodes_spelling base.world.rows in
    omega (
      arith,
      issues_long base.issues,
      length-append (to_be_bytes w32 (length base.issues)) (flat_map issue_spelling base.issues),
      length-append issues nodes,
      length-append statements (issues ++ nodes),
      length-append (head_spelling base.moment base.count base.world.next) (statements ++ (issues ++ nodes)),
    )

image_long : (base : BaseView) (image : List ℕ) → IsSpelledAs base image → length base.issues ≤ length image
unfolding image_spelling
image_long base _ (old fields) = fields_long base
image_long base _ (current spelled) = omega (arith, fields_long base, length-append (fields_spelling base) (withdrawn_numbers_spelling base.statements))

-- an event takes bytes, and adds one issue at most
records_long : (events : List Event) → length events ≤ length (records (payloads_of events))
records_long [] = omega arith
records_long (event ∷ events) =
    let rest = records_long events in
    omega (arith, rest, record_length (event_spelling event), length-append (record_bytes (event_spelling event)) (records (payloads_of events)))

next_issues : (state : BaseView) (event : Event) → length (next_state state event).issues ≤ length state.issues + 1
next_issues state (Registered pass statement signature) = omega arith
next_issues state (Issued pass cited proof grant) = let more = length-append state.issues (record { cited = cited; proof = proof; grant = grant } ∷ []) in omega (arith, more)
next_issues state (Acted pass caller op procaps moment) = omega arith
next_issues state (Withdrawn pass number signature) = omega arith

replay_issues : (state : BaseView) (events : List Event) → length (replay state events).issues ≤ length state.issues + length events
replay_issues state [] = omega arith
replay_issues state (event ∷ events) = let rest = replay_issues (next_state state event) events in omega (arith, rest, next_issues state event)

-- the state is that of the image and the events since
pub state_split : (base : BaseView) (events : List Event) (settled : ℕ) → replay (state_after base events settled) (drop settled events) ≡ replay base events
state_split base events zero = refl
state_split base [] (suc settled) = refl
state_split base (event ∷ events) (suc settled) = state_split (next_state base event) events settled

pub few_issues : {D : Type 0} (s : StoreView D) → IsStore s → length (state_of_store s).issues < 2 ^ 32
few_issues s store =
    let head = head_of s in
    let since = records_of s in
    omega (
      arith,
      ap (λ (state : BaseView). length state.issues) (state_split s.base s.events (settled_of s)),
      replay_issues head since,
      image_long head (image_of s) store.is_image.spelled,
      records_long since,
      area-length s.generation (image_of s) (payloads_of since),
      store.used_is,
      store.fits,
    )
