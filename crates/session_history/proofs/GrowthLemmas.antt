-- What is placed stays placed where the history grows at its end, and places do not go back.
use Rattle.std.proofs.Common.{◌≡◌, ◌∙◌, ◌+◌, ◌≤◌, ℕ, List, [], ◌∷◌, ◌++◌, length, refl, ap, arith, append_assoc, length-append}
use Rattle.std.specs.Prelude.{ℤ}
use Rattle.line_wire.specs.declared.reply.LineReply.{LineReply}
use Rattle.pcfs_store.specs.Entries.{StoreEntry}
use Rattle.session_history.specs.declared.request.TurnRequest.{TurnRequest}
use Rattle.session_history.specs.declared.reply.TurnReply.{TurnReply}
use Rattle.session_history.specs.Turn.{StorePass, TurnPlaced}
use Rattle.session_history.specs.SessionState.{SessionState}
use Rattle.session_history.specs.declared.task.LineTask.{LineTask}
use Rattle.session_history.specs.Placed.{LinePlaced, at_once, in_a_turn, cites_none, proves_none, issues, without_memory, LinesPlaced, no_line, one_more}

-- ---- growth

pub turn_longer : (gives : List StoreEntry → ℤ → Type 0) (p : StorePass) (history more : List StoreEntry) (from : ℕ) (request : TurnRequest) (reply : TurnReply) (to : ℕ) (given : List StoreEntry) →
    TurnPlaced gives p history from request reply to given → TurnPlaced gives p (history ++ more) from request reply to given
turn_longer gives p history more from request reply to given t = record {
  before = t.before;
  after = t.after ++ more;
  parts = ap (λ (l : List StoreEntry). l ++ more) t.parts ∙ append_assoc t.before (given ++ t.after) more ∙ ap (λ (l : List StoreEntry). t.before ++ l) (append_assoc given t.after more);
  not_earlier = t.not_earlier;
  place = t.place;
  turn = t.turn;
}

pub line_longer : (gives : List StoreEntry → ℤ → Type 0) (p : StorePass) (history more : List StoreEntry) (from : ℕ) (task : LineTask) (reply : LineReply) (to : ℕ) (given : List StoreEntry) →
    LinePlaced gives p history from task reply to given → LinePlaced gives p (history ++ more) from task reply to given
line_longer gives p history more from _ _ _ _ (at_once reply) = at_once reply
line_longer gives p history more from _ _ _ _ (in_a_turn request found reply to given turn is) = in_a_turn request found reply to given (turn_longer gives p history more from _ found to given turn) is
line_longer gives p history more from _ _ _ _ (cites_none goal numbers proof found reply to given turn is) = cites_none goal numbers proof found reply to given (turn_longer gives p history more from _ found to given turn) is
line_longer gives p history more from _ _ _ _ (proves_none goal numbers proof cites fault to turn verdict_is) = proves_none goal numbers proof cites fault to (turn_longer gives p history more from _ _ to [] turn) verdict_is
line_longer gives p history more from _ _ _ _ (issues goal numbers proof cites g at found reply to given turn verdict_is second is) =
    issues goal numbers proof cites g at found reply to given (turn_longer gives p history more from _ _ at [] turn) verdict_is (turn_longer gives p history more at _ found to given second) is
line_longer gives p history more from _ _ _ _ (without_memory task) = without_memory task

pub session_longer : (gives : List StoreEntry → ℤ → Type 0) (p : StorePass) (history more : List StoreEntry) (start : SessionState) (from : ℕ) (lines : List (List ℕ)) (answers : List LineReply) (end : SessionState) (to : ℕ) (given : List StoreEntry) →
    LinesPlaced gives p history start from lines answers end to given → LinesPlaced gives p (history ++ more) start from lines answers end to given
session_longer gives p history more start from _ _ _ _ _ no_line = no_line
session_longer gives p history more start from _ _ _ _ _ (one_more lines answers s at given line task reply to others placed asks_for here) =
    one_more lines answers s at given line task reply to others (session_longer gives p history more start from lines answers s at given placed) asks_for (line_longer gives p history more at task reply to others here)

-- ---- places

pub turn_places : (gives : List StoreEntry → ℤ → Type 0) (p : StorePass) (history : List StoreEntry) (from : ℕ) (request : TurnRequest) (reply : TurnReply) (to : ℕ) (given : List StoreEntry) →
    TurnPlaced gives p history from request reply to given → (from ≤ to) × (to ≤ length history)
turn_places gives p history from request reply to given t =
    let whole : length history ≡ length t.before + (length given + length t.after) = ap length t.parts ∙ length-append t.before (given ++ t.after) ∙ ap (λ (n : ℕ). length t.before + n) (length-append given t.after) in
    (omega (arith, t.not_earlier, t.place), omega (arith, whole, t.place))

pub line_places : (gives : List StoreEntry → ℤ → Type 0) (p : StorePass) (history : List StoreEntry) (from : ℕ) (task : LineTask) (reply : LineReply) (to : ℕ) (given : List StoreEntry) →
    from ≤ length history → LinePlaced gives p history from task reply to given → (from ≤ to) × (to ≤ length history)
line_places gives p history from _ _ _ _ within (at_once reply) = (omega arith, within)
line_places gives p history from _ _ _ _ within (in_a_turn request found reply to given turn is) = turn_places gives p history from _ found to given turn
line_places gives p history from _ _ _ _ within (cites_none goal numbers proof found reply to given turn is) = turn_places gives p history from _ found to given turn
line_places gives p history from _ _ _ _ within (proves_none goal numbers proof cites fault to turn verdict_is) = turn_places gives p history from _ _ to [] turn
line_places gives p history from _ _ _ _ within (issues goal numbers proof cites g at found reply to given turn verdict_is second is) =
    let one = turn_places gives p history from _ _ at [] turn in
    let other = turn_places gives p history at _ found to given second in
    (omega (arith, one.0, other.0), other.1)
line_places gives p history from _ _ _ _ within (without_memory task) = (omega arith, within)

pub session_places : (gives : List StoreEntry → ℤ → Type 0) (p : StorePass) (history : List StoreEntry) (start : SessionState) (from : ℕ) (lines : List (List ℕ)) (answers : List LineReply) (end : SessionState) (to : ℕ) (given : List StoreEntry) →
    from ≤ length history → LinesPlaced gives p history start from lines answers end to given → (from ≤ to) × (to ≤ length history)
session_places gives p history start from _ _ _ _ _ within no_line = (omega arith, within)
session_places gives p history start from _ _ _ _ _ within (one_more lines answers s at given line task reply to others placed asks_for here) =
    let before = session_places gives p history start from lines answers s at given within placed in
    let now = line_places gives p history at task reply to others before.1 here in
    (omega (arith, before.0, now.0), now.1)

-- ---- as many replies as lines

pub session_answered : (gives : List StoreEntry → ℤ → Type 0) (p : StorePass) (history : List StoreEntry) (start : SessionState) (from : ℕ) (lines : List (List ℕ)) (answers : List LineReply) (end : SessionState) (to : ℕ) (given : List StoreEntry) →
    LinesPlaced gives p history start from lines answers end to given → length answers ≡ length lines
session_answered gives p history start from _ _ _ _ _ no_line = refl
session_answered gives p history start from _ _ _ _ _ (one_more lines answers s at given line task reply to others placed asks_for here) =
    let before = session_answered gives p history start from lines answers s at given placed in
    omega (arith, before, length-append lines (line ∷ []), length-append answers (reply ∷ []))
