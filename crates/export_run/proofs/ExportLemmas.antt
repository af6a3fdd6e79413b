-- Messages that are written in large pieces.
use Rattle.std.proofs.Common.{◌≡◌, inl, inr, ◌+◌, ◌-◌, ◌^◌, ◌<◌, ◌≤◌, ℕ, zero, suc, List, [], ◌∷◌, ◌++◌, length, get_or, take, drop, Bool, Option, refl, sym, ap, ◌∙◌, subst, arith, append_assoc, append-nil}
use Rattle.std.specs.Prelude.{IfErr, Result, Err}
use Rattle.std.proofs.lemmas.List.{length-take-le, take-append-drop, length-drop}
use Rattle.policy_statement.specs.Ring.{KeyView}
use Rattle.access_history.specs.Base.{BaseView}
use Rattle.access_history.specs.History.{authority_with}
use Rattle.access_history.specs.Lawful.{IsLawful}
use Rattle.access_history.specs.Replay.{replay}
use Rattle.journal_records.specs.declared.event.Event.{Event}
use Rattle.event_messages.specs.Messages.{Message, message_spelling, messages_spelling}
use Rattle.payload_limits.specs.Limits.{PayloadsAreShort}
use Rattle.pcfs_ports.specs.Faults.{raise}
use Rattle.pcfs_ports.specs.Observable.{with_back, HoldsSome}
use Rattle.pcfs_session.specs.Outbox.{GoesOut}
use Rattle.pcfs_session.specs.declared.outbox.SendFault.{SendFault}
use Rattle.pcfs_session.specs.declared.outbox.SendFault.TheVariants.{Write, NoMemory}
use Rattle.pcfs_session.proofs.OutboxLemmas.{with_back-nil, GoesOut-all, GoesOut-more, GoesOut-part, GoesOut-some, GoesOut-whole, HoldsSome-more, all_out}
use Rattle.op_gate.proofs.FittingLemmas.{fits_fields}
use Rattle.recover.proofs.FollowingLemmas.{next_at}
use Rattle.export_run.specs.Exported.{TellsExport, message_of, messages_of, messages_from}
use Rattle.export_run.specs.Outgoing.{AreCollectedOrOut, AreCutShort, FitMessages, FitsMessage, IsUnsent}

-- ---- spellings

spelling-append : (first second : List Message) → messages_spelling (first ++ second) ≡ messages_spelling first ++ messages_spelling second
spelling-append [] second = refl
spelling-append (m ∷ first) second =
    ap (λ (b : List ℕ). message_spelling m ++ b) (spelling-append first second) ∙ sym (append_assoc (message_spelling m) (messages_spelling first) (messages_spelling second))

spelled_more : (messages : List Message) (m : Message) → messages_spelling (messages ++ m ∷ []) ≡ messages_spelling messages ++ message_spelling m
spelled_more messages m = spelling-append messages (m ∷ []) ∙ ap (λ (b : List ℕ). messages_spelling messages ++ b) (append-nil (message_spelling m))

-- ---- the messages of events

messages-append : (number : ℕ) (first second : List Event) → messages_of number (first ++ second) ≡ messages_of number first ++ messages_of (number + length first) second
messages-append number [] second = let here : number ≡ number + 0 = omega arith in ap (λ (n : ℕ). messages_of n second) here
messages-append number (event ∷ first) second =
    let place : (number + 1) + length first ≡ number + length (event ∷ first) = omega arith in
    ap (λ (ms : List Message). message_of number event ∷ ms) (messages-append (number + 1) first second ∙ ap (λ (n : ℕ). messages_of (number + 1) first ++ messages_of n second) place)

-- those of one event more
pub messages_more : (first : ℕ) (events : List Event) (k number : ℕ) (event : Event) → k ≤ length events → number ≡ first + k → take (k + 1) events ≡ take k events ++ event ∷ [] →
    messages_of first (take (k + 1) events) ≡ messages_of first (take k events) ++ message_of number event ∷ []
messages_more first events k number event within is more =
    let counted = length-take-le k events within in
    let place : first + length (take k events) ≡ number = omega (arith, counted, is) in
    ap (messages_of first) more ∙ messages-append first (take k events) (event ∷ []) ∙ ap (λ (n : ℕ). messages_of first (take k events) ++ message_of n event ∷ []) place

-- those of the first events, and others
messages_later : (first : ℕ) (events : List Event) (k : ℕ) → messages_of first events ≡ messages_of first (take k events) ++ messages_of (first + length (take k events)) (drop k events)
messages_later first events k = ap (messages_of first) (sym (take-append-drop k events)) ∙ messages-append first (take k events) (drop k events)

-- ---- messages on their way

-- of these messages the first were written, and the others are collected
pub record AreGoingOut (held : Option (List ℕ)) (messages : List Message) (held_after : Option (List ℕ)) (collected : List ℕ) : Type 0 where
  pub sent : List Message
  pub kept : List Message
  pub parts : messages ≡ sent ++ kept
  pub output : held_after ≡ with_back held (messages_spelling sent)
  pub collected_is : collected ≡ messages_spelling kept

pub AreGoingOut-none : (held : Option (List ℕ)) (collected : List ℕ) → collected ≡ [] → AreGoingOut held [] held collected
AreGoingOut-none held collected is = record { sent = []; kept = []; parts = refl; output = with_back-nil held; collected_is = is }

-- their bytes go out
goes_out : (held mid : Option (List ℕ)) (messages : List Message) (collected : List ℕ) → AreGoingOut held messages mid collected → GoesOut held (messages_spelling messages) mid collected
goes_out held mid messages collected going = record {
  sent = messages_spelling going.sent;
  parts = ap messages_spelling going.parts ∙ spelling-append going.sent going.kept ∙ ap (λ (b : List ℕ). messages_spelling going.sent ++ b) (sym going.collected_is);
  output = going.output;
}

pub AreGoingOut-more : (held mid new : Option (List ℕ)) (messages : List Message) (m : Message) (collected after : List ℕ) → AreGoingOut held messages mid collected →
    AreCollectedOrOut mid (collected ++ message_spelling m) new after → AreGoingOut held (messages ++ m ∷ []) new after
AreGoingOut-more held mid new messages m collected after going (inl kept) = record {
  sent = going.sent;
  kept = going.kept ++ m ∷ [];
  parts = ap (λ (ms : List Message). ms ++ m ∷ []) going.parts ∙ append_assoc going.sent going.kept (m ∷ []);
  output = kept.0 ∙ going.output;
  collected_is = kept.1 ∙ ap (λ (b : List ℕ). b ++ message_spelling m) going.collected_is ∙ sym (spelled_more going.kept m);
}
AreGoingOut-more held mid new messages m collected after going (inr out) = record {
  sent = messages ++ m ∷ [];
  kept = [];
  parts = sym (append-nil (messages ++ m ∷ []));
  output =
      all_out held new (messages_spelling messages ++ message_spelling m)
      (GoesOut-more held mid new (messages_spelling messages) collected (message_spelling m) [] (goes_out held mid messages collected going) (GoesOut-all mid new (collected ++ message_spelling m) [] out.0 refl))
      ∙ ap (with_back held) (sym (spelled_more messages m));
  collected_is = out.1;
}

-- what was collected is out at last
pub all_sent : (held mid new : Option (List ℕ)) (messages all : List Message) (collected : List ℕ) → messages ≡ all → AreGoingOut held messages mid collected → new ≡ with_back mid collected → new ≡ with_back held (messages_spelling all)
all_sent held mid new messages all collected is going written =
    GoesOut-whole held mid new (messages_spelling messages) collected (goes_out held mid messages collected going) written ∙ ap (λ (ms : List Message). with_back held (messages_spelling ms)) is

-- or some first part of it is
pub part_sent : (held mid new : Option (List ℕ)) (messages all : List Message) (collected : List ℕ) → messages ≡ all → AreGoingOut held messages mid collected → HoldsSome mid new collected → HoldsSome held new (messages_spelling all)
part_sent held mid new messages all collected is going some =
    subst (λ (ms : List Message). HoldsSome held new (messages_spelling ms)) is (GoesOut-part held mid new (messages_spelling messages) collected (goes_out held mid messages collected going) some)

-- the next message is not sent, and others are to come
cut_at : (fault : SendFault) (held mid new : Option (List ℕ)) (faults before after : ℕ) (broken : Bool) (messages all others : List Message) (m : Message) (collected : List ℕ) → all ≡ (messages ++ m ∷ []) ++ others →
    AreGoingOut held messages mid collected → before ≡ faults → IsUnsent fault mid before (collected ++ message_spelling m) new after broken → AreCutShort fault held faults all new after broken
cut_at Write held mid new faults before after broken messages all others m collected is going still unsent =
    let spelled : messages_spelling all ≡ (messages_spelling messages ++ message_spelling m) ++ messages_spelling others =
    ap messages_spelling is ∙ spelling-append (messages ++ m ∷ []) others ∙ ap (λ (b : List ℕ). b ++ messages_spelling others) (spelled_more messages m) in
    let some = GoesOut-some held mid new (messages_spelling messages) collected (message_spelling m) (goes_out held mid messages collected going) unsent.1 in
    ((unsent.0.0 ∙ ap raise still, unsent.0.1), subst (HoldsSome held new) (sym spelled) (HoldsSome-more held new (messages_spelling messages ++ message_spelling m) (messages_spelling others) some))
cut_at NoMemory held mid new faults before after broken messages all others m collected is going still unsent = (
  record {
    first = going.sent;
    others = going.kept ++ m ∷ others;
    parts = is ∙ append_assoc messages (m ∷ []) others ∙ ap (λ (ms : List Message). ms ++ m ∷ others) going.parts ∙ append_assoc going.sent going.kept (m ∷ others);
    output = unsent.0 ∙ going.output;
  },
  unsent.1 ∙ still,
)

-- the message of an event is not sent
pub cut_short_at : (fault : SendFault) (held mid new : Option (List ℕ)) (faults before after : ℕ) (broken : Bool) (first : ℕ) (events : List Event) (k number : ℕ) (event : Event) (collected : List ℕ) →
    k ≤ length events → number ≡ first + k → take (k + 1) events ≡ take k events ++ event ∷ [] → AreGoingOut held (messages_of first (take k events)) mid collected → before ≡ faults →
    IsUnsent fault mid before (collected ++ message_spelling (message_of number event)) new after broken → AreCutShort fault held faults (messages_of first events) new after broken
cut_short_at fault held mid new faults before after broken first events k number event collected within is more going still unsent =
    let others = messages_of (first + length (take (k + 1) events)) (drop (k + 1) events) in
    let parts : messages_of first events ≡ (messages_of first (take k events) ++ message_of number event ∷ []) ++ others =
    messages_later first events (k + 1) ∙ ap (λ (ms : List Message). ms ++ others) (messages_more first events k number event within is more) in
    cut_at fault held mid new faults before after broken (messages_of first (take k events)) (messages_of first events) others (message_of number event) collected parts going still unsent

-- this is the fault
pub at_fault : {A : Type 0} (r : Result A SendFault) (fault : SendFault) (P : SendFault → Type 0) → r ≡ Err fault → P fault → IfErr r P
at_fault r fault P is holds = subst (λ (q : Result _ SendFault). IfErr q P) (sym is) holds

-- ---- what fits

pub fits_at : (events : List Event) (k : ℕ) (d : Event) → k < length events → FitMessages events → FitsMessage (get_or events k d)
fits_at [] k d inside fit = absurd (omega (arith, inside))
fits_at (event ∷ events) zero d inside fit = fit.0
fits_at (event ∷ events) (suc k) d inside fit = fits_at events k d (omega (arith, inside)) fit.1

module _ (key : List ℕ) (ring : List KeyView) (base : BaseView) (all : List Event) (lawful : IsLawful (authority_with key ring) base all) (short : PayloadsAreShort) where
  fit_later : (earlier events : List Event) → all ≡ earlier ++ events → FitMessages events
  fit_later earlier [] parts = tt
  fit_later earlier (event ∷ events) parts =
      let next = next_at (authority_with key ring) base all earlier events event lawful parts in
      (record { fields = fits_fields key ring (replay base earlier) event next.follows; few = short key ring (replay base earlier) event next.follows }, fit_later (earlier ++ event ∷ []) events (parts ∙ sym (append_assoc earlier (event ∷ []) events)))

  -- the later events of a lawful history fit messages
  pub fit_after : (n : ℕ) (events : List Event) → events ≡ drop n all → FitMessages events
  fit_after n events is = subst FitMessages (sym is) (fit_later (take n all) (drop n all) (sym (take-append-drop n all)))

  -- and there are numbers for them
  pub numbers_for : (from n : ℕ) (events : List Event) → from < 2 ^ 64 → base.count < from → n ≡ from - base.count - 1 → events ≡ drop n all → from + length events < 2 ^ 64
  numbers_for from n events fits after is shown = omega (arith, fits, after, is, ap length shown, length-drop n all, lawful.counted)

-- the messages of the events after the first ones
pub messages_same : (base : BaseView) (all events : List Event) (from n : ℕ) → n ≡ from - base.count - 1 → events ≡ drop n all → messages_of from events ≡ messages_from base all from
messages_same base all events from n is shown = ap (messages_of from) (shown ∙ ap (λ (m : ℕ). drop m all) is)

-- the export of an equal history
pub TellsExport-same : (base base' : BaseView) (events events' : List Event) (from : ℕ) (held held_after : Option (List ℕ)) (faults faults_after result : ℕ) (broken : Bool) → base ≡ base' → events ≡ events' →
    TellsExport base events from held faults result held_after faults_after broken → TellsExport base' events' from held faults result held_after faults_after broken
TellsExport-same base base' events events' from held held_after faults faults_after result broken same_base same_events tells =
    subst (λ (b : BaseView). TellsExport b events' from held faults result held_after faults_after broken) same_base
    (subst (λ (es : List Event). TellsExport base es from held faults result held_after faults_after broken) same_events tells)
