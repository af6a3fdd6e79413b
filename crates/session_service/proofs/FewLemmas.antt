-- Each line of a session adds one entry at most.
use Rattle.std.proofs.Common.{◌≤◌, ℕ, List, [], ◌∷◌, length, arith, length-append}
use Rattle.std.specs.Prelude.{ℤ}
use Rattle.line_wire.specs.declared.reply.LineReply.{LineReply}
use Rattle.pcfs_store.specs.Entries.{StoreEntry}
use Rattle.session_history.specs.declared.request.TurnRequest.{TurnRequest}
use Rattle.session_history.specs.declared.reply.TurnReply.{TurnReply}
use Rattle.session_history.specs.Turn.{StorePass, Turn, was_stopped, answered, full, kept, failed}
use Rattle.session_history.specs.Turn as turns
use Rattle.session_history.specs.SessionState.{SessionState}
use Rattle.session_history.specs.declared.task.LineTask.{LineTask}
use Rattle.session_history.specs.Placed.{LinePlaced, at_once, in_a_turn, cites_none, proves_none, issues, LinesPlaced, no_line, one_more}
use Rattle.session_history.specs.Placed as places

module _ (gives : List StoreEntry → ℤ → Type 0) (p : StorePass) where
  turn_few : (before : List StoreEntry) (request : TurnRequest) (reply : TurnReply) (given : List StoreEntry) → Turn gives p before request reply given → length given ≤ 1
  turn_few before request _ _ (was_stopped is) = omega arith
  turn_few before request _ _ (answered clock reply running shown answers) = omega arith
  turn_few before request _ _ (full clock reply entry running shown answers is_full) = omega arith
  turn_few before request _ _ (kept clock reply entry running shown answers room) = omega arith
  turn_few before request _ _ (failed clock reply entry running shown answers room) = omega arith
  turn_few before request _ _ turns.without_memory = omega arith

  module _ (history : List StoreEntry) where
    line_few : (from : ℕ) (task : LineTask) (reply : LineReply) (to : ℕ) (given : List StoreEntry) → LinePlaced gives p history from task reply to given → length given ≤ 1
    line_few from _ _ _ _ (at_once reply) = omega arith
    line_few from _ _ _ _ (in_a_turn request found reply to given turn is) = turn_few turn.before request found given turn.turn
    line_few from _ _ _ _ (cites_none goal numbers proof found reply to given turn is) = turn_few turn.before _ found given turn.turn
    line_few from _ _ _ _ (proves_none goal numbers proof cited fault to turn verdict_is) = omega arith
    line_few from _ _ _ _ (issues goal numbers proof cited g at found reply to given turn verdict_is second is) = turn_few second.before _ found given second.turn
    line_few from _ _ _ _ (places.without_memory task) = omega arith

    pub session_few : (start : SessionState) (from : ℕ) (lines : List (List ℕ)) (answers : List LineReply) (end : SessionState) (to : ℕ) (given : List StoreEntry) → LinesPlaced gives p history start from lines answers end to given → length given ≤ length lines
    session_few start from _ _ _ _ _ no_line = omega arith
    session_few start from _ _ _ _ _ (one_more lines answers s at given line task reply to others placed is here) =
        let before = session_few start from lines answers s at given placed in
        let now = line_few at task reply to others here in
        omega (arith, before, now, length-append given others, length-append lines (line ∷ []))
