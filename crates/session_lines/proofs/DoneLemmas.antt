-- What becomes of a task, from its turns.
use Rattle.std.proofs.Common.{◌≡◌, ◌∙◌, ◌⊎◌, inl, inr, ◌≤◌, ℕ, List, [], ◌++◌, length, refl, sym, ap, subst, arith, append-nil, append_assoc, length-append}
use Rattle.std.specs.Prelude.{ℤ, ◌≢◌}
use mathlib.Core.List.{IsPrefix}
use Rattle.tree_lock.specs.Seen.{PassView}
use Rattle.tree_lock.proofs.EntryLemmas.{prefix_refl, prefix_trans}
use Rattle.bl_syntax.specs.declared.grant.Goal.{Goal}
use Rattle.proof_term.specs.Proof.{ProofView}
use Rattle.proof_verifier.specs.declared.cites.Cite.{Cite as CiteOf}
use Rattle.proof_verifier.specs.declared.fault.CheckFault.{CheckFault}
use Rattle.proof_verifier.specs.declared.fault.CheckFault.TheVariants as check_faults
use Rattle.proof_verifier.specs.Cited.{statements_of}
use Rattle.proof_verifier.specs.CheckedView.{CheckedView, checked_view, IsChecked}
use Rattle.proof_verifier.specs.Run.{IsFault}
use Rattle.proof_verifier.specs.Verdict.{verdict}
use Rattle.access_history.specs.declared.request.StepRequest.TheVariants.{Issue}
use Rattle.line_wire.specs.declared.reply.LineReply.{LineReply}
use Rattle.line_wire.specs.declared.reply.LineReply.TheVariants as replies
use Rattle.pcfs_store.specs.Entries.{StoreEntry}
use Rattle.pcfs_store.specs.StoreView.{StoreView}
use Rattle.session_history.specs.declared.request.TurnRequest.{TurnRequest}
use Rattle.session_history.specs.declared.request.TurnRequest.TheVariants.{Step, Cite}
use Rattle.session_history.specs.declared.reply.TurnReply.{TurnReply}
use Rattle.session_history.specs.declared.reply.TurnReply.TheVariants as turn_replies
use Rattle.session_history.specs.declared.task.LineTask.{LineTask}
use Rattle.session_history.specs.declared.task.LineTask.TheVariants as tasks
use Rattle.session_history.specs.SessionState.{SessionState}
use Rattle.session_history.specs.Turn.{StorePass, TurnPlaced}
use Rattle.session_history.specs.Placed.{IsReplyOf, at_once, in_a_turn, cites_none, proves_none, issues}
use Rattle.session_history.specs.Placed as places
use Rattle.session_history.proofs.AskingLemmas.{asks_something}
use Rattle.shared_store.specs.declared.entry.LockEntry.{LockEntry}
use Rattle.shared_store.specs.LockHistory.{numbered, lock_history}
use Rattle.shared_store.specs.Turning.{pass_at}
use Rattle.shared_store.specs.Asking.{entries_seen, HasHistory, PassGoesOn, HasAsked}
use Rattle.shared_store.proofs.HistoryLemmas.{numbered_both}
use Rattle.session_lines.specs.Replied.{HasTold, HasIssued, refuted, granted, without_memory, HasDone, HasReplied}
use Rattle.session_lines.proofs.TurnCountLemmas.{no_turn, no_turns, by_turn, by_two_turns}
use Rattle.session_lines.proofs.ReplyLemmas.{cites_nothing_more, state_without_memory}

-- a beginning is not longer than the whole
pub shorter : {A : Type 0} (xs ys : List A) → IsPrefix xs ys → length xs ≤ length ys
shorter xs ys begins = let whole : length (xs ++ begins.0) ≡ length ys = ap length begins.1 in omega (arith, whole, length-append xs begins.0)

-- a turn is not before an earlier place
earlier : (gives : List StoreEntry → ℤ → Type 0) (p : StorePass) (history : List StoreEntry) (from at : ℕ) (request : TurnRequest) (reply : TurnReply) (to : ℕ) (given : List StoreEntry) → from ≤ at → TurnPlaced gives p history at request reply to given → TurnPlaced gives p history from request reply to given
earlier gives p history from at request reply to given before t =
    record { before = t.before; after = t.after; parts = t.parts; not_earlier = omega (arith, before, t.not_earlier); place = t.place; turn = t.turn }

module _ {D : Type 0} where
  -- ---- passes

  pub stays : (pass : PassView (LockEntry D)) → PassGoesOn pass pass []
  stays pass = record { lock = refl; number = refl; seen = prefix_refl pass.seen; history = λ opening h. h; own = sym (append-nil pass.own) }

  pub goes_further : (old mid new : PassView (LockEntry D)) (given more : List StoreEntry) → PassGoesOn old mid given → PassGoesOn mid new more → PassGoesOn old new (given ++ more)
  goes_further old mid new given more one other = record {
    lock = other.lock ∙ one.lock;
    number = other.number ∙ one.number;
    seen = prefix_trans old.seen mid.seen new.seen one.seen other.seen;
    history = λ opening h. other.history opening (one.history opening h);
    own = other.own ∙ ap (λ (l : List (ℕ × LockEntry D)). l ++ numbered more) one.own ∙ append_assoc old.own (numbered given) (numbered more) ∙ ap (λ (l : List (ℕ × LockEntry D)). old.own ++ l) (sym (numbered_both D given more));
  }

  -- after a turn that added nothing
  goes_after_nothing : (old mid new : PassView (LockEntry D)) (given more : List StoreEntry) → given ≡ [] → PassGoesOn old mid given → PassGoesOn mid new more → PassGoesOn old new more
  goes_after_nothing old mid new given more none one other = subst (λ (l : List StoreEntry). PassGoesOn old new (l ++ more)) none (goes_further old mid new given more one other)

  goes_by_nothing : (old new : PassView (LockEntry D)) (given : List StoreEntry) → given ≡ [] → PassGoesOn old new given → PassGoesOn old new []
  goes_by_nothing old new given none one = subst (PassGoesOn old new) none one

module _ {D : Type 0} (gives : List StoreEntry → ℤ → Type 0) where
  -- ---- a check

  -- it refused the proof, or memory ran out
  pub issued_refused : (cites : List CiteOf) (goal : Goal) (proof : ProofView) (pass : PassView (LockEntry D)) (fault : CheckFault) (reply : LineReply) → IsFault fault (verdict (statements_of cites) goal proof) →
      (reply ≡ replies.NoMemory) ⊎ ((reply ≡ replies.Unproved fault) × (fault ≢ check_faults.NoMemory)) → HasIssued gives cites goal proof pass pass reply
  issued_refused cites goal proof pass fault reply refused (inl told) = subst (HasIssued gives cites goal proof pass pass) (sym told) (without_memory refl)
  issued_refused cites goal proof pass fault reply (inl none) (inr told) = absurd (told.1 none)
  issued_refused cites goal proof pass fault reply (inr is) (inr told) = subst (HasIssued gives cites goal proof pass pass) (sym told.0) (refuted fault refl is)

  -- it granted the goal, and the turn came after
  pub issued_granted : (cites : List CiteOf) (goal : Goal) (proof : ProofView) (old new : PassView (LockEntry D)) (checked : CheckedView) (reply : LineReply) → checked ≡ checked_view cites goal proof checked.grant → IsChecked checked → HasTold gives (Step (Issue checked)) old new reply →
      HasIssued gives cites goal proof old new reply
  issued_granted cites goal proof old new checked reply same is told =
      granted checked.grant reply (subst IsChecked same is).verdict_is (subst (λ (c : CheckedView). HasTold gives (Step (Issue c)) old new reply) same told)

  -- ---- tasks

  -- after a turn what the pass has seen is a history
  knows : (request : TurnRequest) (old new : PassView (LockEntry D)) (reply : TurnReply) → HasAsked gives request old new reply → (opening : StoreView D) × HasHistory opening new
  knows request old new reply a = (a.root, record { entries = a.found ++ a.given; seen_is = a.seen_is })

  pub done_at_once : (old : PassView (LockEntry D)) (reply : LineReply) → HasDone gives (tasks.Reply reply) old old reply
  done_at_once old reply =
      record { given = []; goes_on = stays old; placed = λ from within. record { to = from; within = within; latest = λ needs some. absurd needs; placed = λ opening entries begins. at_once reply }; known = λ needs some. absurd needs; turns = no_turn 2 old.turns }

  pub done_without_memory : (old : PassView (LockEntry D)) (task : LineTask) → HasDone gives task old old replies.NoMemory
  done_without_memory old task =
      record { given = []; goes_on = stays old; placed = λ from within. record { to = from; within = within; latest = λ needs some. absurd (some refl); placed = λ opening entries begins. places.without_memory task }; known = λ needs some. absurd (some refl); turns = no_turns task old.turns }

  pub done_turn : (old new : PassView (LockEntry D)) (request : TurnRequest) (reply : LineReply) → HasTold gives request old new reply → HasDone gives (tasks.Turn request) old new reply
  done_turn old new request reply t =
      let a = t.asked in
      record {
        given = a.given;
        goes_on = a.goes_on;
        placed = λ from within. record {
          to = entries_seen new;
          within = omega arith;
          latest = λ needs some. refl;
          placed = λ opening entries begins. in_a_turn request t.replied reply (entries_seen new) a.given (earlier gives (pass_at opening old.number) entries from (entries_seen old) request t.replied (entries_seen new) a.given within (a.placed opening entries begins)) t.says;
        };
        known = λ needs some. knows request old new t.replied a;
        turns = by_turn reply old.turns new.turns a.turns;
      }

  module _ (goal : Goal) (numbers : List ℕ) (proof : ProofView) where
    pub done_uncited : (old new : PassView (LockEntry D)) (found : TurnReply) (reply : LineReply) → HasAsked gives (Cite numbers) old new found → IsReplyOf found reply → HasDone gives (tasks.Proof goal numbers proof) old new reply
    done_uncited old new found reply a says =
        record {
          given = a.given;
          goes_on = a.goes_on;
          placed = λ from within. record {
            to = entries_seen new;
            within = omega arith;
            latest = λ needs some. refl;
            placed = λ opening entries begins. cites_none goal numbers proof found reply (entries_seen new) a.given (earlier gives (pass_at opening old.number) entries from (entries_seen old) (Cite numbers) found (entries_seen new) a.given within (a.placed opening entries begins)) says;
          };
          known = λ needs some. knows (Cite numbers) old new found a;
          turns = by_turn reply old.turns new.turns a.turns;
        }

    module _ (cites : List CiteOf) (old mid : PassView (LockEntry D)) (a : HasAsked gives (Cite numbers) old mid (turn_replies.Cited cites)) where
      none_given : a.given ≡ []
      none_given = cites_nothing_more gives (pass_at a.root old.number) a.found numbers (turn_replies.Cited cites) a.given a.turn

      -- the turn for the statements, in a history that begins with what was seen after it
      cited_in : (opening : StoreView D) (entries : List StoreEntry) (from : ℕ) → from ≤ entries_seen old → IsPrefix mid.seen (lock_history opening entries) →
          TurnPlaced gives (pass_at opening old.number) entries from (Cite numbers) (turn_replies.Cited cites) (entries_seen mid) []
      cited_in opening entries from within begins =
          subst (TurnPlaced gives (pass_at opening old.number) entries from (Cite numbers) (turn_replies.Cited cites) (entries_seen mid)) none_given
          (earlier gives (pass_at opening old.number) entries from (entries_seen old) (Cite numbers) (turn_replies.Cited cites) (entries_seen mid) a.given within (a.placed opening entries begins))

      by_check : (new : PassView (LockEntry D)) (reply : LineReply) → HasIssued gives cites goal proof mid new reply → HasDone gives (tasks.Proof goal numbers proof) old new reply
      by_check new _ (refuted fault same is) =
          subst (λ (n : PassView (LockEntry D)). HasDone gives (tasks.Proof goal numbers proof) old n (replies.Unproved fault)) (sym same)
          (record {
            given = [];
            goes_on = goes_by_nothing old mid a.given none_given a.goes_on;
            placed = λ from within. record { to = entries_seen mid; within = omega arith; latest = λ needs some. refl; placed = λ opening entries begins. proves_none goal numbers proof cites fault (entries_seen mid) (cited_in opening entries from within begins) is };
            known = λ needs some. knows (Cite numbers) old mid (turn_replies.Cited cites) a;
            turns = by_turn (replies.Unproved fault) old.turns mid.turns a.turns;
          })
      by_check new _ (granted g reply is t) =
          let b = t.asked in
          record {
            given = b.given;
            goes_on = goes_after_nothing old mid new a.given b.given none_given a.goes_on b.goes_on;
            placed = λ from within. record {
              to = entries_seen new;
              within = omega arith;
              latest = λ needs some. refl;
              placed = λ opening entries begins.
                  issues goal numbers proof cites g (entries_seen mid) t.replied reply (entries_seen new) b.given
                  (cited_in opening entries from within (prefix_trans mid.seen new.seen (lock_history opening entries) b.goes_on.seen begins)) is
                  (subst (λ (n : ℕ). TurnPlaced gives (pass_at opening n) entries (entries_seen mid) (Step (Issue (checked_view cites goal proof g))) t.replied (entries_seen new) b.given) a.goes_on.number (b.placed opening entries begins)) t.says;
            };
            known = λ needs some. knows (Step (Issue (checked_view cites goal proof g))) mid new t.replied b;
            turns = by_two_turns reply old.turns mid.turns new.turns a.turns b.turns;
          }
      by_check new _ (without_memory same) =
          subst (λ (n : PassView (LockEntry D)). HasDone gives (tasks.Proof goal numbers proof) old n replies.NoMemory) (sym same)
          (record {
            given = [];
            goes_on = goes_by_nothing old mid a.given none_given a.goes_on;
            placed = λ from within. record { to = from; within = seen_more from within; latest = λ needs some. absurd (some refl); placed = λ opening entries begins. places.without_memory (tasks.Proof goal numbers proof) };
            known = λ needs some. absurd (some refl);
            turns = by_turn replies.NoMemory old.turns mid.turns a.turns;
          })
        where
          seen_more : (from : ℕ) → from ≤ entries_seen old → from ≤ entries_seen mid
          seen_more from within = let more = shorter old.seen mid.seen a.goes_on.seen in omega (arith, within, more)

    pub done_proof : (cites : List CiteOf) (old mid new : PassView (LockEntry D)) (reply : LineReply) → HasAsked gives (Cite numbers) old mid (turn_replies.Cited cites) → HasIssued gives cites goal proof mid new reply → HasDone gives (tasks.Proof goal numbers proof) old new reply
    done_proof cites old mid new reply a i = by_check cites old mid a new reply i

  -- ---- lines

  pub replied_without_memory : (state : SessionState) (line : List ℕ) (old : PassView (LockEntry D)) → HasReplied gives state line old old state replies.NoMemory
  replied_without_memory state line old =
      let some = asks_something state line in
      record { task = some.0; is_task = some.1; after_is = state_without_memory state some.0; done = done_without_memory old some.0; turns = no_turn 2 old.turns }
