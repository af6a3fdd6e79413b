-- The laws of lines that are said, for the place of a session among the talks: they are answered one
-- after the other.
use Rattle.std.proofs.Common.{◌≡◌, ◌⊎◌, ⊎_elim, inl, inr, ℕ, ◌+◌, ◌*◌, List, [], ◌∷◌, ◌++◌, length, length-append, sym, subst, arith, append_assoc, append-nil}
use Rattle.std.specs.Prelude.{ℤ}
use mathlib.Core.List.{IsPrefix}
use Rattle.tree_lock.specs.Seen.{PassView}
use Rattle.tree_lock.proofs.EntryLemmas.{prefix_trans}
use Rattle.line_wire.specs.declared.reply.LineReply.{LineReply}
use Rattle.line_wire.specs.declared.reply.LineReply.TheVariants.{Stopped}
use Rattle.pcfs_store.specs.Entries.{StoreEntry}
use Rattle.session_history.specs.SessionState.{SessionState}
use Rattle.session_history.specs.Turn.{StorePass}
use Rattle.session_history.specs.Placed.{LinesPlaced, no_line, one_more}
use Rattle.shared_store.specs.declared.entry.LockEntry.{LockEntry}
use Rattle.shared_store.specs.LockHistory.{lock_history}
use Rattle.shared_store.specs.Turning.{pass_at}
use Rattle.shared_store.specs.Asking.{HasSeenFault}
use Rattle.shared_store.proofs.AskingLemmas.{seen_later}
use Rattle.session_lines.specs.Replied.{IsPlacedFrom, HasReplied}
use Rattle.session_lines.specs.Turns.{least_turns}
use Rattle.session_lines.proofs.DoneLemmas.{stays, goes_further}
use Rattle.session_lines.proofs.TurnCountLemmas.{no_turn, looser, turns_then}
use Rattle.session_service.specs.Said.{SaysStopped, turns_of, AreAnswered, none_more, next_one, AreSaidFrom, HasSaid}

-- ---- in a history

module _ (gives : List StoreEntry → ℤ → Type 0) (p : StorePass) (history : List StoreEntry) (start : SessionState) (from : ℕ) where
  -- the same lines, said otherwise
  as_lines : (lines also : List (List ℕ)) (answers replies : List LineReply) (end : SessionState) (to : ℕ) (given added : List StoreEntry) → lines ≡ also →
      answers ≡ replies → given ≡ added →
      LinesPlaced gives p history start from lines answers end to given → LinesPlaced gives p history start from also replies end to added
  as_lines lines also answers replies end to given added one two three placed =
      subst (λ (l : List (List ℕ)). LinesPlaced gives p history start from l replies end to added) one
      (subst (λ (a : List LineReply). LinesPlaced gives p history start from lines a end to added) two
      (subst (λ (g : List StoreEntry). LinesPlaced gives p history start from lines answers end to g) three placed))

  -- more lines after lines
  pub LinesPlaced-then : (lines : List (List ℕ)) (answers : List LineReply) (mid : SessionState) (at : ℕ) (given : List StoreEntry)
      (others : List (List ℕ)) (more : List LineReply) (end : SessionState) (to : ℕ) (added : List StoreEntry) →
      LinesPlaced gives p history start from lines answers mid at given →
      LinesPlaced gives p history mid at others more end to added →
      LinesPlaced gives p history start from (lines ++ others) (answers ++ more) end to (given ++ added)
  LinesPlaced-then lines answers mid at given _ _ _ _ _ first no_line =
      as_lines lines (lines ++ []) answers (answers ++ []) mid at given (given ++ []) (sym (append-nil lines)) (sym (append-nil answers))
      (sym (append-nil given)) first
  LinesPlaced-then lines answers mid at given _ _ _ _ _ first (one_more others more s then_at added line task reply to last placed is here) =
      as_lines ((lines ++ others) ++ line ∷ []) (lines ++ (others ++ line ∷ [])) ((answers ++ more) ++ reply ∷ []) (answers ++ (more ++ reply ∷ [])) _ to
      ((given ++ added) ++ last) (given ++ (added ++ last))
      (append_assoc lines others (line ∷ [])) (append_assoc answers more (reply ∷ [])) (append_assoc given added last)
      (one_more (lines ++ others) (answers ++ more) s then_at (given ++ added) line task reply to last
      (LinesPlaced-then lines answers mid at given others more s then_at added first placed) is here)

-- ---- that the store is stopped

only_stopped : (reply : LineReply) → SaysStopped (reply ∷ []) → reply ≡ Stopped
only_stopped reply (inl is) = is
only_stopped reply (inr none) = absurd none

either_stopped : (answers more : List LineReply) → SaysStopped (answers ++ more) → SaysStopped answers ⊎ SaysStopped more
either_stopped [] more says = inr says
either_stopped (reply ∷ answers) more (inl is) = inl (inl is)
either_stopped (reply ∷ answers) more (inr says) = ⊎_elim (λ (first : SaysStopped answers). inl (inr first)) (λ (other : SaysStopped more). inr other)
    (either_stopped answers more says)

-- ---- turns

turns_of-append : (answers more : List LineReply) → turns_of (answers ++ more) ≡ turns_of answers + turns_of more
turns_of-append [] more = omega arith
turns_of-append (reply ∷ answers) more = let rest = turns_of-append answers more in omega (arith, rest)

-- ---- under a pass

answered_then : {D : Type 0} (gives : List StoreEntry → ℤ → Type 0) (start mid end : SessionState)
    (old between new : PassView (LockEntry D)) (lines others : List (List ℕ)) (answers more : List LineReply) →
    AreAnswered gives start old lines answers mid between →
    AreAnswered gives mid between others more end new →
    AreAnswered gives start old (lines ++ others) (answers ++ more) end new
answered_then gives _ _ end _ _ new _ others _ more (none_more state at) rest = rest
answered_then gives _ _ end _ _ new _ others _ more (next_one state old line reply after next lines answers mid between replied tail) rest =
    next_one state old line reply after next (lines ++ others) (answers ++ more) end new replied
    (answered_then gives after mid end next between new lines others answers more tail rest)

module _ {D : Type 0} (faults : D → ℕ) (gives : List StoreEntry → ℤ → Type 0) where
  pub HasSaid-none : (state : SessionState) (pass : PassView (LockEntry D)) → HasSaid faults gives state pass pass [] [] state
  HasSaid-none state pass =
      record {
        given = [];
        goes_on = stays pass;
        placed = λ from within. record { to = from; within = within; placed = λ opening entries begins. no_line };
        stopped = λ says. absurd says;
        turns = no_turn 0 pass.turns;
        answered = none_more state pass;
      }

  said_line : (state : SessionState) (line : List ℕ) (old new : PassView (LockEntry D)) (after : SessionState) (reply : LineReply) (from : ℕ) →
      (r : HasReplied gives state line old new after reply) → IsPlacedFrom gives r.task old new reply r.done.given from →
      AreSaidFrom faults gives state old new (line ∷ []) (reply ∷ []) after r.done.given from
  said_line state line old new after reply from r at = record {
    to = at.to;
    within = at.within;
    placed = λ opening entries begins.
        subst (λ (s : SessionState). LinesPlaced gives (pass_at opening old.number) entries state from (line ∷ []) (reply ∷ []) s at.to r.done.given)
        (sym r.after_is)
        (one_more [] [] state from [] line r.task reply at.to r.done.given no_line r.is_task (at.placed opening entries begins));
  }

  pub HasSaid-line : (state : SessionState) (line : List ℕ) (old new : PassView (LockEntry D)) (after : SessionState) (reply : LineReply) →
      HasReplied gives state line old new after reply → (reply ≡ Stopped → HasSeenFault faults new) →
      HasSaid faults gives state old new (line ∷ []) (reply ∷ []) after
  HasSaid-line state line old new after reply r fault =
      record {
        given = r.done.given;
        goes_on = r.done.goes_on;
        placed = λ from within. said_line state line old new after reply from r (r.done.placed from within);
        stopped = λ says. fault (only_stopped reply says);
        turns = looser (least_turns reply) (least_turns reply + 0) 2 2 old.turns new.turns (omega arith) (omega arith) r.turns;
        answered = next_one state old line reply after new [] [] after new r (none_more after new);
      }

  module _ (start mid end : SessionState) (old between new : PassView (LockEntry D)) (lines others : List (List ℕ)) (answers more : List LineReply) where
    said_then : (given added : List StoreEntry) (from : ℕ) → between.number ≡ old.number → IsPrefix between.seen new.seen →
        (a : AreSaidFrom faults gives start old between lines answers mid given from) → AreSaidFrom faults gives mid between new others more end added a.to →
        AreSaidFrom faults gives start old new (lines ++ others) (answers ++ more) end (given ++ added) from
    said_then given added from same seen a b = record {
      to = b.to;
      within = b.within;
      placed = λ opening entries begins.
          LinesPlaced-then gives (pass_at opening old.number) entries start from lines answers mid a.to given others more end b.to added
          (a.placed opening entries (prefix_trans between.seen new.seen (lock_history opening entries) seen begins))
          (subst (λ (n : ℕ). LinesPlaced gives (pass_at opening n) entries mid a.to others more end b.to added) same (b.placed opening entries begins));
    }

    pub HasSaid-then : HasSaid faults gives start old between lines answers mid → HasSaid faults gives mid between new others more end →
        HasSaid faults gives start old new (lines ++ others) (answers ++ more) end
    HasSaid-then one other = record {
      given = one.given ++ other.given;
      goes_on = goes_further old between new one.given other.given one.goes_on other.goes_on;
      placed = λ from within. said_then one.given other.given from one.goes_on.number other.goes_on.seen (one.placed from within)
          (other.placed (one.placed from within).to (one.placed from within).within);
      stopped = λ says. ⊎_elim (λ (first : SaysStopped answers). seen_later faults between new other.goes_on.seen (one.stopped first)) other.stopped
          (either_stopped answers more says);
      turns = let both = turns_of-append answers more in let long = length-append lines others in
          looser (turns_of answers + turns_of more) (turns_of (answers ++ more)) (2 * length lines + 2 * length others)
          (2 * length (lines ++ others)) old.turns new.turns (omega (arith, both)) (omega (arith, long))
          (turns_then (turns_of answers) (turns_of more) (2 * length lines) (2 * length others) old.turns between.turns new.turns one.turns other.turns);
      answered = answered_then gives start mid end old between new lines others answers more one.answered other.answered;
    }
