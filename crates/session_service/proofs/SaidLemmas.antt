-- Where the lines of a session are placed.
use Rattle.std.proofs.Common.{◌≡◌, ℕ, ◌≤◌, List, length, sym, subst, arith}
use Rattle.std.specs.Prelude.{ℤ}
use mathlib.Core.List.{IsPrefix}
use Rattle.tree_lock.specs.Seen.{PassView}
use Rattle.tree_lock.specs.Closing.{IsMadeAfter}
use Rattle.tree_lock.proofs.EntryLemmas.{prefix_refl, prefix_trans}
use Rattle.tree_lock.proofs.SeenLemmas.{later_has_seen}
use Rattle.line_wire.specs.declared.reply.LineReply.{LineReply}
use Rattle.pcfs_store.specs.Entries.{StoreEntry}
use Rattle.pcfs_store.specs.StoreView.{StoreView}
use Rattle.session_history.specs.SessionState.{SessionState, guest_with}
use Rattle.session_history.specs.Placed.{LinesPlaced}
use Rattle.shared_store.specs.declared.entry.LockEntry.{LockEntry}
use Rattle.shared_store.specs.LockHistory.{lock_history, bare}
use Rattle.shared_store.specs.Turning.{pass_at}
use Rattle.shared_store.specs.Asking.{entries_seen, HasHistory, InEachHistory}
use Rattle.shared_store.proofs.HistoryLemmas.{opened_alike, entries_after}
use Rattle.session_lines.proofs.ToldLemmas.{told_few}
use Rattle.session_service.specs.Said.{HasSaid}
use Rattle.session_service.specs.Laws.{IsPlacedSession}
use Rattle.session_service.specs.SessionEnds.{Speaks}

module _ {D : Type 0} (faults : D → ℕ) (gives : List StoreEntry → ℤ → Type 0) where
  -- a session that begins under the pass, with nobody logged in
  pub Speaks-said : (nonce : List ℕ) (end : SessionState) (old new : PassView (LockEntry D)) (lines : List (List ℕ)) (answers : List LineReply) → HasSaid faults gives (guest_with nonce) old new lines answers end → Speaks faults gives nonce old new lines answers
  Speaks-said nonce end old new lines answers said =
      let all = said.placed (entries_seen old) (omega arith) in
      record { end = end; to = all.to; within = all.within; given = said.given; goes_on = said.goes_on; placed = all.placed; stopped = said.stopped; turns = said.turns; answered = said.answered }

  -- what its pass has seen at the end is a history in which it is placed
  pub Speaks-placed : (nonce : List ℕ) (opening : StoreView D) (old new : PassView (LockEntry D)) (lines : List (List ℕ)) (answers : List LineReply) → HasHistory opening old → Speaks faults gives nonce old new lines answers → IsPlacedSession faults gives nonce opening old new lines answers
  Speaks-placed nonce opening old new lines answers has s =
      let h = s.goes_on.history opening has in
      record {
        entries = h.entries;
        seen_is = h.seen_is;
        end = s.end;
        to = s.to;
        given = s.given;
        placed = s.placed opening h.entries (subst (λ (l : List (ℕ × LockEntry D)). IsPrefix new.seen l) h.seen_is (prefix_refl new.seen));
        within = s.within;
        own = s.goes_on.own;
        stopped = s.stopped;
      }

  -- the other pass had seen what begins each history that begins with what this one has seen
  pub Speaks-later : (nonce : List ℕ) (opening : StoreView D) (told old new : PassView (LockEntry D)) (lines : List (List ℕ)) (answers : List LineReply) → (h : HasHistory opening told) → IsMadeAfter told old → (s : Speaks faults gives nonce old new lines answers) →
      (length h.entries ≤ entries_seen old) ×
      InEachHistory new (λ root entries. (root ≡ opening) × IsPrefix h.entries entries × LinesPlaced gives (pass_at opening old.number) entries (guest_with nonce) (entries_seen old) lines answers s.end s.to s.given)
  Speaks-later nonce opening told old new lines answers h later s =
      let seen : IsPrefix told.seen old.seen = later_has_seen told old later in
      let placed : InEachHistory new (λ root entries. (root ≡ opening) × IsPrefix h.entries entries × LinesPlaced gives (pass_at opening old.number) entries (guest_with nonce) (entries_seen old) lines answers s.end s.to s.given) =
      λ root entries begins.
      let whole : IsPrefix told.seen (lock_history root entries) = prefix_trans told.seen old.seen (lock_history root entries) seen (prefix_trans old.seen new.seen (lock_history root entries) s.goes_on.seen begins) in
      let first : IsPrefix (lock_history opening h.entries) (lock_history root entries) = subst (λ (l : List (ℕ × LockEntry D)). IsPrefix l (lock_history root entries)) h.seen_is whole in
      let alike : opening ≡ root = opened_alike opening root h.entries entries first in (
        sym alike,
        (bare first.0, sym (entries_after opening root h.entries entries first)),
        subst (λ (o : StoreView D). LinesPlaced gives (pass_at o old.number) entries (guest_with nonce) (entries_seen old) lines answers s.end s.to s.given) (sym alike) (s.placed root entries begins),
      ) in
      (told_few told old opening h.entries h.seen_is seen, placed)
