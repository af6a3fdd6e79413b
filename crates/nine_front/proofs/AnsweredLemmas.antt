-- What becomes of a request, from its turn or from none.
use Rattle.std.proofs.Common.{◌≡◌, ◌≤◌, inl, inr, ℕ, List, [], ◌++◌, length, codes, Some, refl, sym, ap, subst, arith}
use Rattle.std.specs.Prelude.{ℤ}
use Rattle.bl_syntax.specs.declared.terms.NodeId.{NodeId}
use Rattle.procap.specs.declared.procap.Procap.{Procap}
use Rattle.file_world.specs.declared.operation.Op.TheVariants as operations
use Rattle.line_wire.specs.declared.reply.LineReply.TheVariants as lines
use Rattle.line_wire.specs.ReplyText.{reply_text}
use Rattle.tree_lock.specs.Seen.{PassView}
use Rattle.pcfs_store.specs.Entries.{StoreEntry}
use Rattle.session_history.specs.declared.request.TurnRequest.{TurnRequest}
use Rattle.session_history.specs.declared.request.TurnRequest.TheVariants as requests
use Rattle.session_history.specs.declared.reply.TurnReply.{TurnReply}
use Rattle.session_history.specs.declared.reply.TurnReply.TheVariants as turn_replies
use Rattle.session_history.specs.Turn.{StorePass, TurnPlaced}
use Rattle.shared_store.specs.declared.entry.LockEntry.{LockEntry}
use Rattle.shared_store.specs.Turning.{pass_at}
use Rattle.pcfs_store.specs.StoreView.{StoreView}
use Rattle.shared_store.specs.Asking.{entries_seen, HasHistory, HasAsked, HasSeenFault}
use Rattle.session_lines.proofs.DoneLemmas.{stays}
use Rattle.session_lines.proofs.TurnCountLemmas.{no_turn, one_turn}
use Rattle.nine_messages.specs.Requests.{RequestView}
use Rattle.nine_messages.specs.Replies.{ReplyView, rerror, IsWritableReply}
use Rattle.nine_fids.specs.declared.error.NineError.{NineError}
use Rattle.nine_fids.specs.declared.step.Answer.{Answer}
use Rattle.nine_fids.specs.declared.step.Step.{Step}
use Rattle.nine_fids.specs.declared.step.Step.TheVariants as steps
use Rattle.nine_fids.specs.declared.connection.Connection.{Connection}
use Rattle.nine_fids.specs.Errors.{error_text}
use Rattle.nine_fids.specs.Steps.{answer_view}
use Rattle.nine_fids.specs.Memory.{MayLackMemory}
use Rattle.nine_fids.specs.Taking.{IsTaken}
use Rattle.nine_front.specs.Asking.{act_of, bytes_of, IsTurnOf, IsReplyTo, after_login, after_turn}
use Rattle.nine_front.specs.Placed.{MessagePlaced, refused, answered, in_a_turn}
use Rattle.nine_front.specs.Placed as places
use Rattle.nine_front.specs.Said.{HasAnswered}
use Rattle.nine_front.specs.Walked.{MayHaveAsked, ComesTo, NeedsTurns}
use Rattle.nine_front.proofs.StepLemmas.{comes_to, taken_to, comes_at, may_lack}
use Rattle.nine_front.specs.Short.{IsShortReply}
use Rattle.nine_front.proofs.ShortLemmas.{read_shortly, write_shortly, asked_short, may_asked_short}
use Rattle.nine_front.proofs.WordLemmas.{stopped_apart, text_in, not_it, no_error, no_answer}
use Rattle.nine_front.proofs.MarkLemmas.{stopped_reply}

-- a turn is not before an earlier place
earlier : (gives : List StoreEntry → ℤ → Type 0) (p : StorePass) (history : List StoreEntry) (from at : ℕ) (request : TurnRequest) (reply : TurnReply) (to : ℕ) (given : List StoreEntry) → from ≤ at → TurnPlaced gives p history at request reply to given → TurnPlaced gives p history from request reply to given
earlier gives p history from at request reply to given before t =
    record { before = t.before; after = t.after; parts = t.parts; not_earlier = omega (arith, before, t.not_earlier); place = t.place; turn = t.turn }

-- after a turn what the pass has seen is a history
pub seen_history : {D : Type 0} (gives : List StoreEntry → ℤ → Type 0) (request : TurnRequest) (old new : PassView (LockEntry D)) (reply : TurnReply) → HasAsked gives request old new reply → (opening : StoreView D) × HasHistory opening new
seen_history {D} gives request old new reply a = (a.root, record { entries = a.found ++ a.given; seen_is = a.seen_is })

module _ {D : Type 0} (faults : D → ℕ) (gives : List StoreEntry → ℤ → Type 0) (s : Connection) (m : RequestView) where
  -- one turn was taken
  pub answered_in_turn : (step : Step) (request : TurnRequest) (old new : PassView (LockEntry D)) (replied : TurnReply) (reply : ReplyView) →
      ComesTo s m step → IsTurnOf s m step request → HasAsked gives request old new replied → IsReplyTo (length (bytes_of m)) replied reply → (replied ≡ turn_replies.Stopped → HasSeenFault faults new) →
      HasAnswered faults gives s m old new reply (after_turn s step replied)
  answered_in_turn step request old new replied reply c is_turn a says fault = record {
    given = a.given;
    goes_on = a.goes_on;
    count = 1;
    turns = one_turn old.turns new.turns a.turns;
    known = λ some. seen_history gives request old new replied a;
    still = λ none. absurd (omega (arith, none));
    placed = λ from within. record {
      to = entries_seen new;
      within = omega arith;
      latest = λ some. refl;
      still = λ none. absurd (omega (arith, none));
      placed = λ opening entries begins. (
        in_a_turn c.asked step request replied reply (entries_seen new) a.given c.asks c.is is_turn
            (earlier gives (pass_at opening old.number) entries from (entries_seen old) request replied (entries_seen new) a.given within (a.placed opening entries begins)) says,
        refl,
      );
    };
    stopped = λ is. fault (stopped_reply (length (bytes_of m)) replied reply says is);
  }

  -- memory ran out before any
  pub answered_without_memory : (old : PassView (LockEntry D)) → MayLackMemory s m → HasAnswered faults gives s m old old (rerror (reply_text lines.NoMemory)) s
  answered_without_memory old may = record {
    given = [];
    goes_on = stays old;
    count = 0;
    turns = no_turn 0 old.turns;
    known = λ some. absurd (some refl);
    still = λ none. refl;
    placed = λ from within. record { to = from; within = within; latest = λ some. absurd (some refl); still = λ none. refl; placed = λ opening entries begins. (places.without_memory may, refl) };
    stopped = λ is. absurd (not_it (codes "stopped") stopped_apart (codes "nomemory") refl (ap text_in is));
  }

  -- one turn was taken, or memory ran out before it
  pub answered_by_turn : (step : Step) (request : TurnRequest) (old new : PassView (LockEntry D)) (replied : TurnReply) (reply : ReplyView) →
      ComesTo s m step → IsTurnOf s m step request → after_turn s step replied ≡ s → MayLackMemory s m → MayHaveAsked gives request old new replied → IsReplyTo (length (bytes_of m)) replied reply → (replied ≡ turn_replies.Stopped → HasSeenFault faults new) →
      HasAnswered faults gives s m old new reply s
  answered_by_turn step request old new replied reply c is_turn same may (inl a) says fault =
      subst (λ (after : Connection). HasAnswered faults gives s m old new reply after) same (answered_in_turn step request old new replied reply c is_turn a says fault)
  answered_by_turn step request old new replied reply c is_turn same may (inr none) says fault =
      let told : reply ≡ rerror (reply_text lines.NoMemory) = subst (λ (r : TurnReply). IsReplyTo (length (bytes_of m)) r reply) none.1 says in
      subst (λ (r : ReplyView). HasAnswered faults gives s m old new r s) (sym told)
      (subst (λ (n : PassView (LockEntry D)). HasAnswered faults gives s m old n (rerror (reply_text lines.NoMemory)) s) (sym none.0) (answered_without_memory old may))

  -- a test holds
  pub answered_refused : (after : Connection) (error : NineError) (old : PassView (LockEntry D)) → IsTaken s m (steps.Refused error) after → HasAnswered faults gives s m old old (rerror (error_text error)) after
  answered_refused after error old t =
      let same : after ≡ s = taken_to s after m (steps.Refused error) t in
      let c = comes_at s after m (steps.Refused error) same t in
      subst (λ (a : Connection). HasAnswered faults gives s m old old (rerror (error_text error)) a) (sym same)
      (record {
        given = [];
        goes_on = stays old;
        count = 0;
        turns = no_turn 0 old.turns;
        known = λ some. absurd (some refl);
        still = λ none. refl;
        placed = λ from within. record { to = from; within = within; latest = λ some. absurd (some refl); still = λ none. refl; placed = λ opening entries begins. (refused c.asked error c.asks c.is, refl) };
        stopped = λ is. absurd (no_error (codes "stopped") stopped_apart error (ap text_in is));
      })

  -- no turn is needed
  pub answered_at_once : (after : Connection) (answer : Answer) (old : PassView (LockEntry D)) → IsTaken s m (steps.Answered answer) after → HasAnswered faults gives s m old old (answer_view s.nonce answer) after
  answered_at_once after answer old t = record {
    given = [];
    goes_on = stays old;
    count = 0;
    turns = no_turn 0 old.turns;
    known = λ some. absurd (some refl);
    still = λ none. refl;
    placed = λ from within. record { to = from; within = within; latest = λ some. absurd (some refl); still = λ none. refl; placed = λ opening entries begins. (answered t.asked answer after t.asks (sym t.is), refl) };
    stopped = λ is. absurd (no_answer (codes "stopped") stopped_apart s.nonce answer is);
  }

  -- ---- as the code does it

  -- a login
  pub logged_in : (who signature : List ℕ) (asked : TurnRequest) (old new : PassView (LockEntry D)) (replied : TurnReply) (reply : ReplyView) (count : ℕ) (after : Connection) →
      ComesTo s m (steps.Login who signature) → asked ≡ requests.Login who s.nonce signature → HasAsked gives asked old new replied → (replied ≡ turn_replies.Stopped → HasSeenFault faults new) →
      count ≡ length (bytes_of m) → after ≡ after_login s who replied → IsReplyTo count replied reply → HasAnswered faults gives s m old new reply after
  logged_in who signature asked old new replied reply count after c is a fault counts later says =
      subst (λ (l : Connection). HasAnswered faults gives s m old new reply l) (sym later)
      (answered_in_turn (steps.Login who signature) (requests.Login who s.nonce signature) old new replied reply c refl (subst (λ (r : TurnRequest). HasAsked gives r old new replied) is a)
      (subst (λ (n : ℕ). IsReplyTo n replied reply) counts says) fault)

  -- a reading
  pub was_read : (node : NodeId) (p : Procap) (offset len : ℕ) (who : List ℕ) (old new : PassView (LockEntry D)) (replied : TurnReply) (reply : ReplyView) (count : ℕ) →
      ComesTo s m (steps.Read node p offset len) → s.caller ≡ Some who → MayHaveAsked gives (act_of who (operations.Read node offset len) p) old new replied → (replied ≡ turn_replies.Stopped → HasSeenFault faults new) →
      count ≡ length (bytes_of m) → IsReplyTo count replied reply → HasAnswered faults gives s m old new reply s
  was_read node p offset len who old new replied reply count c caller a fault counts says =
      answered_by_turn (steps.Read node p offset len) (act_of who (operations.Read node offset len) p) old new replied reply c (who, caller, refl) refl
      (may_lack s m (steps.Read node p offset len) c tt) a (subst (λ (n : ℕ). IsReplyTo n replied reply) counts says) fault

  -- a writing
  pub was_written : (node : NodeId) (p : Procap) (offset : ℕ) (bytes : List ℕ) (who : List ℕ) (old new : PassView (LockEntry D)) (replied : TurnReply) (reply : ReplyView) (count : ℕ) →
      ComesTo s m (steps.Write node p offset) → s.caller ≡ Some who → bytes ≡ bytes_of m → MayHaveAsked gives (act_of who (operations.Write node offset bytes) p) old new replied → (replied ≡ turn_replies.Stopped → HasSeenFault faults new) →
      count ≡ length (bytes_of m) → IsReplyTo count replied reply → HasAnswered faults gives s m old new reply s
  was_written node p offset bytes who old new replied reply count c caller same a fault counts says =
      answered_by_turn (steps.Write node p offset) (act_of who (operations.Write node offset (bytes_of m)) p) old new replied reply c (who, caller, refl) refl
      (may_lack s m (steps.Write node p offset) c tt)
      (subst (λ (b : List ℕ). MayHaveAsked gives (act_of who (operations.Write node offset b) p) old new replied) same a) (subst (λ (n : ℕ). IsReplyTo n replied reply) counts says) fault

  -- memory ran out as the request was taken
  pub answered_untaken : (after : Connection) (old : PassView (LockEntry D)) → (after ≡ s) × MayLackMemory s m → HasAnswered faults gives s m old old (rerror (reply_text lines.NoMemory)) after
  answered_untaken after old lacks =
      subst (λ (a : Connection). HasAnswered faults gives s m old old (rerror (reply_text lines.NoMemory)) a) (sym lacks.0) (answered_without_memory old lacks.1)

-- what turns reply is short
module _ {D : Type 0} (gives : List StoreEntry → ℤ → Type 0) (old new : PassView (LockEntry D)) (replied : TurnReply) where
  pub login_short : (who nonce signature : List ℕ) (asked : TurnRequest) → asked ≡ requests.Login who nonce signature → HasAsked gives asked old new replied → IsShortReply 65536 replied
  login_short who nonce signature asked is a =
      asked_short 65536 gives (requests.Login who nonce signature) old new replied tt (subst (λ (r : TurnRequest). HasAsked gives r old new replied) is a)

  pub read_short : (s : Connection) (m : RequestView) (node : NodeId) (p : Procap) (offset len : ℕ) (who : List ℕ) → ComesTo s m (steps.Read node p offset len) → MayHaveAsked gives (act_of who (operations.Read node offset len) p) old new replied → IsShortReply 65536 replied
  read_short s m node p offset len who c a =
      may_asked_short 65536 gives (act_of who (operations.Read node offset len) p) old new replied (read_shortly node offset len (comes_to s m (steps.Read node p offset len) c).1.1) a

  pub write_short : (node : NodeId) (p : Procap) (offset : ℕ) (bytes who : List ℕ) → MayHaveAsked gives (act_of who (operations.Write node offset bytes) p) old new replied → IsShortReply 65536 replied
  write_short node p offset bytes who a = may_asked_short 65536 gives (act_of who (operations.Write node offset bytes) p) old new replied (write_shortly node offset bytes) a

-- a turn does not change the lock
pub asked_lock : {D : Type 0} (gives : List StoreEntry → ℤ → Type 0) (request : TurnRequest) (old new : PassView (LockEntry D)) (replied : TurnReply) → MayHaveAsked gives request old new replied → new.lock ≡ old.lock
asked_lock {D} gives request old new replied (inl a) = a.goes_on.lock
asked_lock {D} gives request old new replied (inr none) = ap (λ (p : PassView (LockEntry D)). p.lock) none.0

-- a step that is neither refused nor answered at once is done in turns
pub needs_turns : (step : Step) → ((error : NineError) → step ≡ steps.Refused error → ⊥) → ((answer : Answer) → step ≡ steps.Answered answer → ⊥) → NeedsTurns step
needs_turns (steps.Refused error) unrefused unanswered = unrefused error refl
needs_turns (steps.Answered answer) unrefused unanswered = unanswered answer refl
needs_turns (steps.Login who signature) unrefused unanswered = tt
needs_turns (steps.Read node p offset len) unrefused unanswered = tt
needs_turns (steps.Write node p offset) unrefused unanswered = tt
needs_turns (steps.Walk node) unrefused unanswered = tt

-- a reply that is spelled with the state after it
pub writable_before : (nonce before : List ℕ) (answer : Answer) (reply : ReplyView) → reply ≡ answer_view nonce answer → nonce ≡ before → IsWritableReply reply → IsWritableReply (answer_view before answer)
writable_before nonce before answer reply is same writable =
    subst (λ (n : List ℕ). IsWritableReply (answer_view n answer)) same (subst IsWritableReply is writable)
