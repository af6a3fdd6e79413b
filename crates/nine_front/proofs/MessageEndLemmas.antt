-- A message has an end, if the store is not stopped.
use Rattle.std.proofs.Common.{◌≡◌, ◌∙◌, ◌+◌, ◌≤◌, ℕ, List, [], ◌∷◌, ◌++◌, length, Bool, true, false, true≢false, Option, Some, None, refl, sym, ap, subst, codes, arith, append_assoc, append-nil, length-append}
use Rattle.std.specs.Prelude.{ℤ, IsTrue}
use Rattle.bl_syntax.specs.Names.{is_principal_name}
use Rattle.bl_syntax.specs.declared.terms.NodeId.{NodeId}
use Rattle.bl_syntax.specs.declared.terms.Perm.TheVariants as perms
use Rattle.file_world.specs.Effect.{IsOperation}
use Rattle.file_world.specs.Needs.{slots, bytes_to_write}
use Rattle.file_world.specs.declared.operation.Op.{Op}
use Rattle.file_world.specs.declared.operation.Op.TheVariants as operations
use Rattle.procap.specs.declared.procap.Procap.{Procap}
use Rattle.proof_verifier.specs.declared.cites.Cite.{Cite}
use Rattle.line_wire.specs.declared.reply.LineReply.{LineReply}
use Rattle.line_wire.specs.declared.reply.LineReply.TheVariants as lines
use Rattle.line_wire.specs.ReplyText.{reply_text}
use Rattle.pcfs_store.specs.Entries.{StoreEntry, happened, checkpointed, stopped, state_of_entries}
use Rattle.session_history.specs.Passes.{has_stop}
use Rattle.session_history.specs.declared.request.TurnRequest.{TurnRequest}
use Rattle.session_history.specs.declared.request.TurnRequest.TheVariants as requests
use Rattle.session_history.specs.declared.reply.TurnReply.{TurnReply}
use Rattle.session_history.specs.declared.reply.TurnReply.TheVariants as turn_replies
use Rattle.session_history.specs.Turn.{StorePass, Turn, TurnPlaced, IsTurnFormed}
use Rattle.session_history.specs.Tasks.{IsSingle, IsNamed}
use Rattle.session_history.specs.Placed.{IsReplyOf}
use Rattle.session_history.specs.Laws.{IsUndisturbed}
use Rattle.session_history.proofs.EndLemmas.{single_not_cited}
use Rattle.session_history.proofs.StopLemmas.{stops_told}
use Rattle.session_history.proofs.TurnLemmas.{turn_ends}
use Rattle.shared_store.specs.Looking.{node_named, names_directory}
use Rattle.nine_messages.specs.Requests.{RequestView, tversion, tattach, tflush, twalk, topen, tread, twrite, tclunk, tother}
use Rattle.nine_messages.specs.Replies.{ReplyView, rwrite, rerror}
use Rattle.nine_fids.specs.declared.connection.Connection.{Connection}
use Rattle.nine_fids.specs.declared.control.Control.{Control}
use Rattle.nine_fids.specs.declared.error.NineError.TheVariants as errors
use Rattle.nine_fids.specs.declared.fid.FidFile.{FidFile}
use Rattle.nine_fids.specs.declared.fid.FidFile.TheVariants as files
use Rattle.nine_fids.specs.declared.step.Step.{Step}
use Rattle.nine_fids.specs.declared.step.Step.TheVariants as steps
use Rattle.nine_fids.specs.Errors.{error_text}
use Rattle.nine_fids.specs.Purse.{fitting}
use Rattle.nine_fids.specs.Steps.{answer_view, decided}
use Rattle.nine_fids.specs.Tests.{IsAskedBy}
use Rattle.nine_fids.specs.Walks.{walked}
use Rattle.nine_front.specs.Asking.{act_of, look_of, bytes_of, step_reply_view, IsTurnOf, IsReplyTo, after_turn}
use Rattle.nine_front.specs.Laws.{IsCalm, HasMessageEnd}
use Rattle.nine_front.specs.Placed.{WalksPlaced, all_found, goes_on, no_procap, walk_reply, MessagePlaced, refused, answered, in_a_turn, walks}
use Rattle.nine_front.specs.Placed as places
use Rattle.nine_front.specs.Turns.{walk_turns, WalkHadMemory, message_turns, HadMemory, AreUndisturbed}
use Rattle.nine_front.proofs.StepLemmas.{IsNameWalk, IsOutcome, outcome_is}
use Rattle.nine_front.proofs.WordLemmas.{stopped_apart, memory_apart, text_in, not_it, no_step_text, no_error, no_text, no_answer, no_step}

-- ---- what is told calmly

-- a reply without a text
calm_without : (reply : ReplyView) → text_in reply ≡ [] → IsCalm reply
calm_without reply none = (λ is. no_text (codes "nomemory") memory_apart reply none is, λ is. no_text (codes "stopped") stopped_apart reply none is)

-- a text that differs from both
calm_text : (words : List ℕ) → (words ≡ codes "nomemory" → ⊥) → (words ≡ codes "stopped" → ⊥) → IsCalm (rerror words)
calm_text words had_memory not_stopped = (λ is. had_memory (ap text_in is), λ is. not_stopped (ap text_in is))

-- the line of a turn that is not disturbed
record IsLineTold (replied : TurnReply) : Type 0 where
  line : LineReply
  told : IsReplyOf replied line
  calm : IsCalm (rerror (reply_text line))

line_told : (replied : TurnReply) → ((cites : List Cite) → replied ≡ turn_replies.Cited cites → ⊥) → IsUndisturbed replied → IsLineTold replied
line_told (turn_replies.Step reply) other calm =
    record { line = lines.Step reply; told = refl; calm = calm_text (reply_text (lines.Step reply)) (no_step_text (codes "nomemory") memory_apart reply) (no_step_text (codes "stopped") stopped_apart reply) }
line_told (turn_replies.Cited cites) other calm = absurd (other cites refl)
line_told turn_replies.LoggedIn other calm =
    record { line = lines.Done; told = refl; calm = calm_text (codes "ok") (not_it (codes "nomemory") memory_apart (codes "ok") refl) (not_it (codes "stopped") stopped_apart (codes "ok") refl) }
line_told turn_replies.Checkpointed other calm =
    record { line = lines.Checkpointed; told = refl; calm = calm_text (codes "ok checkpoint") (not_it (codes "nomemory") memory_apart (codes "ok checkpoint") refl) (not_it (codes "stopped") stopped_apart (codes "ok checkpoint") refl) }
line_told turn_replies.Full other calm =
    record { line = lines.Full; told = refl; calm = calm_text (codes "full") (not_it (codes "nomemory") memory_apart (codes "full") refl) (not_it (codes "stopped") stopped_apart (codes "full") refl) }
line_told turn_replies.Stopped other calm = absurd (calm.not_stopped refl)
line_told turn_replies.NoMemory other calm = absurd (calm.had_memory refl)

-- the reply to a request of one turn that is not disturbed
record IsViewTold (count : ℕ) (replied : TurnReply) : Type 0 where
  view : ReplyView
  told : IsReplyTo count replied view
  calm : IsCalm view

view_told : (count : ℕ) (replied : TurnReply) → ((cites : List Cite) → replied ≡ turn_replies.Cited cites → ⊥) → IsUndisturbed replied → IsViewTold count replied
view_told count (turn_replies.Step reply) other calm =
    record { view = step_reply_view count reply; told = refl; calm = (λ is. no_step (codes "nomemory") memory_apart count reply is, λ is. no_step (codes "stopped") stopped_apart count reply is) }
view_told count (turn_replies.Cited cites) other calm = absurd (other cites refl)
view_told count turn_replies.LoggedIn other calm = record { view = rwrite count; told = refl; calm = calm_without (rwrite count) refl }
view_told count turn_replies.Checkpointed other calm = let l = line_told turn_replies.Checkpointed other calm in
    record { view = rerror (reply_text lines.Checkpointed); told = refl; calm = subst (λ (line : LineReply). IsCalm (rerror (reply_text line))) l.told l.calm }
view_told count turn_replies.Full other calm = let l = line_told turn_replies.Full other calm in
    record { view = rerror (reply_text lines.Full); told = refl; calm = subst (λ (line : LineReply). IsCalm (rerror (reply_text line))) l.told l.calm }
view_told count turn_replies.Stopped other calm = absurd (calm.not_stopped refl)
view_told count turn_replies.NoMemory other calm = absurd (calm.had_memory refl)

-- ---- the store goes on

mark_or_not : (entries : List StoreEntry) (is_stopped : Bool) → has_stop entries ≡ is_stopped → (has_stop entries ≡ true → ⊥) → has_stop entries ≡ false
mark_or_not entries true is not = absurd (not is)
mark_or_not entries false is not = is

running_after : (before given : List StoreEntry) → has_stop before ≡ false → has_stop given ≡ false → has_stop (before ++ given) ≡ false
running_after [] given running calm = calm
running_after (happened event ∷ before) given running calm = running_after before given running calm
running_after (checkpointed pass ∷ before) given running calm = running_after before given running calm
running_after (stopped pass met ∷ before) given running calm = absurd (true≢false running)

module _ (gives : List StoreEntry → ℤ → Type 0) (p : StorePass) (always : (found : List StoreEntry) → (clock : ℤ) × gives found clock) where
  -- a turn at the end, which is not disturbed
  record HasTurnEnd (before : List StoreEntry) (request : TurnRequest) : Type 0 where
    reply : TurnReply
    given : List StoreEntry
    turn : Turn gives p before request reply given
    calm : IsUndisturbed reply
    other : (cites : List Cite) → reply ≡ turn_replies.Cited cites → ⊥
    running : has_stop (before ++ given) ≡ false

  turn_end : (before : List StoreEntry) (request : TurnRequest) → has_stop before ≡ false → IsTurnFormed request → IsSingle request → HasTurnEnd before request
  turn_end before request running formed single =
      let clock = always before in
      let end = turn_ends gives p before request clock.0 clock.1 formed running in
      record {
        reply = end.0;
        given = end.1;
        turn = end.2;
        calm = end.3;
        other = single_not_cited gives p before request end.0 end.1 single end.2;
        running = running_after before end.1 running (mark_or_not end.1 (has_stop end.1) refl (λ mark. end.3.not_stopped ((stops_told gives p before request end.0 end.1 end.2).1 mark)));
      }

  -- it is placed before what others, or later turns, add
  placed_front : (before given more : List StoreEntry) (request : TurnRequest) (reply : TurnReply) → Turn gives p before request reply given → TurnPlaced gives p (before ++ (given ++ more)) (length before) request reply (length before + length given) given
  placed_front before given more request reply turn = record { before = before; after = more; parts = refl; not_earlier = omega arith; place = refl; turn = turn }

  placed_last : (before given : List StoreEntry) (request : TurnRequest) (reply : TurnReply) → Turn gives p before request reply given → TurnPlaced gives p (before ++ given) (length before) request reply (length before + length given) given
  placed_last before given request reply turn =
      record { before = before; after = []; parts = ap (λ (l : List StoreEntry). before ++ l) (sym (append-nil given)); not_earlier = omega arith; place = refl; turn = turn }

  act_formed : (who : List ℕ) (op : Op) (q : Procap) → IsTrue (is_principal_name who) → IsOperation op → slots op ≡ 1 → bytes_to_write op ≤ 65536 → IsTurnFormed (act_of who op q)
  act_formed who op q named operation one few = record { named = named; operation = operation; brought = record { slots = sym one; few_bytes = few } }

  -- ---- walks

  module _ (purse : List Procap) (who : List ℕ) (named : IsTrue (is_principal_name who)) where
    -- a walk of which no turn was disturbed, and memory did not run out before one
    abbrev IsCalmWalk : List StoreEntry → ℕ → NodeId → List (List ℕ) → List FidFile → Option (List ℕ) → ℕ → List StoreEntry → Type 0
    IsCalmWalk history from node names found end to given = (walk : WalksPlaced gives p history purse who from node names found end to given) × (WalkHadMemory walk × AreUndisturbed (walk_turns walk))

    record HasWalkEnd (before : List StoreEntry) (node : NodeId) (names : List (List ℕ)) : Type 0 where
      found : List FidFile
      end : Option (List ℕ)
      given : List StoreEntry
      placed : IsCalmWalk (before ++ given) (length before) node names found end (length before + length given) given
      calm : IsCalm (walk_reply found end)

    -- a walk that is placed where nothing is added
    at_rest : (before : List StoreEntry) (node : NodeId) (names : List (List ℕ)) (end : Option (List ℕ)) → IsCalmWalk (before ++ []) (length before) node names [] end (length before) [] → IsCalm (walk_reply [] end) → HasWalkEnd before node names
    at_rest before node names end placed calm =
        let same : length before ≡ length before + length {A = StoreEntry} [] = omega arith in
        record { found = []; end = end; given = []; placed = subst (λ (n : ℕ). IsCalmWalk (before ++ []) (length before) node names [] end n []) same placed; calm = calm }

    -- the same walk, said otherwise
    as_walk : (history also : List StoreEntry) (from at : ℕ) (node : NodeId) (names : List (List ℕ)) (found : List FidFile) (end : Option (List ℕ)) (to last : ℕ) (given : List StoreEntry) → history ≡ also → from ≡ at → to ≡ last →
        IsCalmWalk history from node names found end to given → IsCalmWalk also at node names found end last given
    as_walk history also from at node names found end to last given one two three placed =
        subst (λ (h : List StoreEntry). IsCalmWalk h at node names found end last given) one
        (subst (λ (n : ℕ). IsCalmWalk history n node names found end last given) two
        (subst (λ (n : ℕ). IsCalmWalk history from node names found end n given) three placed))

    module _ (before : List StoreEntry) (node : NodeId) (name : List ℕ) (names : List (List ℕ)) (q : Procap) (fits : fitting purse who node perms.Execute ≡ Some q) (t : HasTurnEnd before (look_of who node name q)) where
      ends_here : node_named t.reply ≡ None → HasWalkEnd before node (name ∷ names)
      unfolding placed_last
      ends_here none =
          let told = line_told t.reply t.other t.calm in
          record {
            found = [];
            end = Some (reply_text told.line);
            given = t.given;
            placed = (
              places.ends (length before) (length before + length t.given) node name names q t.reply (names_directory (state_of_entries p.root (before ++ t.given)) t.reply) told.line t.given fits
                  (record { placed = placed_last before t.given (look_of who node name q) t.reply t.turn; told = refl }) none told.told,
              (tt, (t.calm, tt)),
            );
            calm = told.calm;
          }

      found_one : (child : NodeId) → node_named t.reply ≡ Some child → HasWalkEnd (before ++ t.given) child names → HasWalkEnd before node (name ∷ names)
      unfolding placed_front
      found_one child is rest =
          let here : length (before ++ t.given) ≡ length before + length t.given = length-append before t.given in
          let last : length (before ++ t.given) + length rest.given ≡ length before + length (t.given ++ rest.given) = omega (arith, here, length-append t.given rest.given) in
          let kind : Bool = names_directory (state_of_entries p.root (before ++ t.given)) t.reply in
          let others =
          as_walk ((before ++ t.given) ++ rest.given) (before ++ (t.given ++ rest.given)) (length (before ++ t.given)) (length before + length t.given) child names rest.found rest.end
          (length (before ++ t.given) + length rest.given) (length before + length (t.given ++ rest.given)) rest.given (append_assoc before t.given rest.given) here last rest.placed in
          record {
            found = files.Node child kind ∷ rest.found;
            end = rest.end;
            given = t.given ++ rest.given;
            placed = (
              goes_on (length before) (length before + length t.given) (length before + length (t.given ++ rest.given)) node child name names q t.reply kind rest.found rest.end t.given rest.given fits
                  (record { placed = placed_front before t.given rest.given (look_of who node name q) t.reply t.turn; told = refl }) is others.0,
              (others.1.0, (t.calm, others.1.1)),
            );
            calm = calm_without (walk_reply (files.Node child kind ∷ rest.found) rest.end) refl;
          }

      by_node : (o : Option NodeId) → node_named t.reply ≡ o → ((child : NodeId) → HasWalkEnd (before ++ t.given) child names) → HasWalkEnd before node (name ∷ names)
      by_node None is rest = ends_here is
      by_node (Some child) is rest = found_one child is (rest child)

    step_end : (before : List StoreEntry) (node : NodeId) (name : List ℕ) (names : List (List ℕ)) (o : Option Procap) → fitting purse who node perms.Execute ≡ o → has_stop before ≡ false →
        ((entries : List StoreEntry) → has_stop entries ≡ false → (child : NodeId) → HasWalkEnd entries child names) → HasWalkEnd before node (name ∷ names)
    step_end before node name names None none running rest =
        at_rest before node (name ∷ names) (Some (error_text errors.NoProcap)) (no_procap (length before) node name names none, (tt, tt))
        (calm_text (error_text errors.NoProcap) (no_error (codes "nomemory") memory_apart errors.NoProcap) (no_error (codes "stopped") stopped_apart errors.NoProcap))
    step_end before node name names (Some q) fits running rest =
        let t = turn_end before (look_of who node name q) running (act_formed who (operations.Lookup node name) q named tt refl (omega arith)) tt in
        by_node before node name names q fits t (node_named t.reply) refl (λ child. rest (before ++ t.given) t.running child)

    walk_end : (names : List (List ℕ)) (before : List StoreEntry) (node : NodeId) → has_stop before ≡ false → HasWalkEnd before node names
    walk_end [] before node running = at_rest before node [] None (all_found (length before) node, (tt, tt)) (calm_without (walk_reply [] None) refl)
    walk_end (name ∷ names) before node running = step_end before node name names (fitting purse who node perms.Execute) refl running (λ entries goes child. walk_end names entries child goes)

  -- ---- messages

  -- a message of which no turn was disturbed, and memory did not run out before one
  abbrev IsCalmMessage : List StoreEntry → ℕ → Connection → RequestView → ReplyView → Connection → ℕ → List StoreEntry → Type 0
  IsCalmMessage history from s m reply after to given = (one : MessagePlaced gives p history from s m reply after to given) × (HadMemory one × AreUndisturbed (message_turns one))

  module _ (s : Connection) (m : RequestView) (asked : Option Control) (asks : IsAskedBy s m asked) (before : List StoreEntry) (running : has_stop before ≡ false) where
    -- without a turn
    at_once : (reply : ReplyView) (after : Connection) → IsCalmMessage (before ++ []) (length before) s m reply after (length before) [] → IsCalm reply → HasMessageEnd gives p before s m
    at_once reply after placed calm =
        let same : length before ≡ length before + length {A = StoreEntry} [] = omega arith in
        let one = subst (λ (n : ℕ). IsCalmMessage (before ++ []) (length before) s m reply after n []) same placed in
        record { reply = reply; after = after; given = []; placed = one.0; calm = calm; had_memory = one.1.0; undisturbed = one.1.1 }

    one_turn : (step : Step) (request : TurnRequest) → decided s asked m ≡ (step, s) → IsTurnOf s m step request → IsTurnFormed request → IsSingle request → HasMessageEnd gives p before s m
    one_turn step request is turns formed single =
        let t = turn_end before request running formed single in
        let told = view_told (length (bytes_of m)) t.reply t.other t.calm in
        record {
          reply = told.view;
          after = after_turn s step t.reply;
          given = t.given;
          placed = in_a_turn asked step request t.reply told.view (length before + length t.given) t.given asks is turns (placed_last before t.given request t.reply t.turn) told.told;
          calm = told.calm;
          had_memory = tt;
          undisturbed = (t.calm, tt);
        }

    names_walked : (fid newfid : ℕ) (names : List (List ℕ)) (node : NodeId) (who : List ℕ) → m ≡ twalk fid newfid names → decided s None m ≡ (steps.Walk node, s) → s.caller ≡ Some who → IsTrue (is_principal_name who) → HasMessageEnd gives p before s m
    names_walked fid newfid names node who same is caller named =
        let w = walk_end s.purse who named names before node running in
        record {
          reply = walk_reply w.found w.end;
          after = walked s newfid (length names) w.found;
          given = w.given;
          placed = walks fid newfid names node who w.found w.end (length before + length w.given) w.given same is caller w.placed.0;
          calm = w.calm;
          had_memory = w.placed.1.0;
          undisturbed = w.placed.1.1;
        }

  -- what is decided, and the state after it
  as_decided : (s after : Connection) (asked : Option Control) (m : RequestView) (step : Step) → decided s asked m ≡ (step, after) → after ≡ s → decided s asked m ≡ (step, s)
  as_decided s after asked m step is same = is ∙ ap (λ (a : Connection). (step, a)) same

  who_named : (s : Connection) (who : List ℕ) → IsNamed s.caller → s.caller ≡ Some who → IsTrue (is_principal_name who)
  who_named s who named caller = subst IsNamed caller named

  walk_message : (s : Connection) (m : RequestView) (asked : Option Control) (before : List StoreEntry) (node : NodeId) → IsAskedBy s m asked → IsNamed s.caller → has_stop before ≡ false → decided s asked m ≡ (steps.Walk node, s) → IsNameWalk s m → HasMessageEnd gives p before s m
  walk_message s (tversion msize version) asked before node asks named running is walk = absurd walk
  walk_message s (tattach fid afid uname aname) asked before node asks named running is walk = absurd walk
  walk_message s (tflush oldtag) asked before node asks named running is walk = absurd walk
  walk_message s (twalk fid newfid names) asked before node asks named running is walk =
      names_walked s (twalk fid newfid names) asked asks before running fid newfid names node walk.1.0 refl
      (subst (λ (a : Option Control). decided s a (twalk fid newfid names) ≡ (steps.Walk node, s)) asks is) walk.1.1 (who_named s walk.1.0 named walk.1.1)
  walk_message s (topen fid mode) asked before node asks named running is walk = absurd walk
  walk_message s (tread fid offset count) asked before node asks named running is walk = absurd walk
  walk_message s (twrite fid offset bytes) asked before node asks named running is walk = absurd walk
  walk_message s (tclunk fid) asked before node asks named running is walk = absurd walk
  walk_message s (tother kind body) asked before node asks named running is walk = absurd walk

  module _ (s : Connection) (m : RequestView) (asked : Option Control) (asks : IsAskedBy s m asked) (before : List StoreEntry) (running : has_stop before ≡ false) (named : IsNamed s.caller) (few : length (bytes_of m) ≤ 65536) where
    by_step : (step : Step) (after : Connection) → decided s asked m ≡ (step, after) → IsOutcome s m step after → HasMessageEnd gives p before s m
    by_step (steps.Refused error) after is out =
        at_once s m asked asks before running (rerror (error_text error)) s (refused asked error asks (as_decided s after asked m (steps.Refused error) is out), (tt, tt))
        (calm_text (error_text error) (no_error (codes "nomemory") memory_apart error) (no_error (codes "stopped") stopped_apart error))
    by_step (steps.Answered answer) after is out =
        at_once s m asked asks before running (answer_view s.nonce answer) after (answered asked answer after asks is, (tt, tt))
        (λ told. no_answer (codes "nomemory") memory_apart s.nonce answer told, λ told. no_answer (codes "stopped") stopped_apart s.nonce answer told)
    by_step (steps.Login who signature) after is out =
        one_turn s m asked asks before running (steps.Login who signature) (requests.Login who s.nonce signature) (as_decided s after asked m (steps.Login who signature) is out) refl tt tt
    by_step (steps.Read node q offset len) after is out =
        let who = out.1.0 in
        one_turn s m asked asks before running (steps.Read node q offset len) (act_of who.0 (operations.Read node offset len) q) (as_decided s after asked m (steps.Read node q offset len) is out.0) (who.0, who.1, refl)
        (act_formed who.0 (operations.Read node offset len) q (who_named s who.0 named who.1) tt refl (omega arith)) tt
    by_step (steps.Write node q offset) after is out =
        let who = out.1 in
        one_turn s m asked asks before running (steps.Write node q offset) (act_of who.0 (operations.Write node offset (bytes_of m)) q) (as_decided s after asked m (steps.Write node q offset) is out.0) (who.0, who.1, refl)
        (act_formed who.0 (operations.Write node offset (bytes_of m)) q (who_named s who.0 named who.1) tt refl few) tt
    by_step (steps.Walk node) after is out = walk_message s m asked before node asks named running (as_decided s after asked m (steps.Walk node) is out.0) out.1

  pub message_ends : (s : Connection) (m : RequestView) (asked : Option Control) (before : List StoreEntry) → IsAskedBy s m asked → IsNamed s.caller → length (bytes_of m) ≤ 65536 → has_stop before ≡ false → HasMessageEnd gives p before s m
  message_ends s m asked before asks named few running =
      by_step s m asked asks before running named few (decided s asked m).0 (decided s asked m).1 refl (outcome_is s asked m)
