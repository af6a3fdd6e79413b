-- A connection is placed in what its pass has seen.
use Rattle.std.proofs.Common.{◌≡◌, ◌≢◌, ◌∙◌, ◌≤◌, ℕ, List, length, sym, ap, subst, arith}
use Rattle.std.specs.Prelude.{ℤ}
use Rattle.std.proofs.lemmas.List.{length-map}
use mathlib.Core.List.{IsPrefix}
use Rattle.tree_lock.specs.Seen.{PassView}
use Rattle.tree_lock.specs.Closing.{IsMadeAfter}
use Rattle.tree_lock.proofs.EntryLemmas.{prefix_refl, prefix_trans}
use Rattle.tree_lock.proofs.SeenLemmas.{later_has_seen}
use Rattle.pcfs_store.specs.Entries.{StoreEntry}
use Rattle.pcfs_store.specs.StoreView.{StoreView}
use Rattle.shared_store.specs.declared.entry.LockEntry.{LockEntry}
use Rattle.shared_store.specs.LockHistory.{numbered_entry, numbered, lock_history, bare}
use Rattle.shared_store.specs.Turning.{pass_at}
use Rattle.shared_store.specs.Asking.{entries_seen, HasHistory, InEachHistory}
use Rattle.shared_store.proofs.HistoryLemmas.{opened_alike, entries_after}
use Rattle.session_lines.specs.Turns.{CountsTurns}
use Rattle.session_lines.proofs.ToldLemmas.{told_few}
use Rattle.nine_messages.specs.Requests.{MessageView}
use Rattle.nine_messages.specs.Replies.{ReplyView}
use Rattle.nine_fids.specs.States.{begun_with}
use Rattle.nine_front.specs.Placed.{MessagesPlaced}
use Rattle.nine_front.specs.Said.{Speaks}
use Rattle.nine_front.specs.Laws.{IsPlacedConnection}

-- so many entries are seen of a history
seen_long : {D : Type 0} (new : PassView (LockEntry D)) (opening : StoreView D) (entries : List StoreEntry) → new.seen ≡ lock_history opening entries → entries_seen new ≡ length entries
seen_long {D} new opening entries seen =
    let long : length new.seen ≡ length (lock_history opening entries) = ap length seen in
    let same : length (numbered {D = D} entries) ≡ length entries = length-map entries numbered_entry in
    omega (arith, long, same)

module _ {D : Type 0} (faults : D → ℕ) (gives : List StoreEntry → ℤ → Type 0) (nonce : List ℕ) where
  -- what its pass has seen at the end is a history in which it is placed
  placed_in : (opening : StoreView D) (old new : PassView (LockEntry D)) (messages : List MessageView) (replies : List ReplyView) → HasHistory opening new → Speaks faults gives nonce old new messages replies → IsPlacedConnection faults gives nonce opening old new messages replies
  placed_in opening old new messages replies h s =
      let all = s.placed opening h.entries (subst (λ (l : List (ℕ × LockEntry D)). IsPrefix new.seen l) h.seen_is (prefix_refl new.seen)) in
      let long : entries_seen new ≡ length h.entries = seen_long new opening h.entries h.seen_is in
      record {
        entries = h.entries;
        seen_is = h.seen_is;
        end = s.end;
        to = s.to;
        given = s.given;
        placed = all.0;
        latest = λ some. s.latest (λ none. some (all.1 ∙ none)) ∙ long;
        within = omega (arith, s.within, long);
        turns = subst (λ (n : ℕ). CountsTurns n n old.turns new.turns) (sym all.1) s.turns;
        own = s.goes_on.own;
        stopped = s.stopped;
      }

  pub Speaks-placed : (opening : StoreView D) (old new : PassView (LockEntry D)) (messages : List MessageView) (replies : List ReplyView) → HasHistory opening old → Speaks faults gives nonce old new messages replies → IsPlacedConnection faults gives nonce opening old new messages replies
  Speaks-placed opening old new messages replies has s = placed_in opening old new messages replies (s.goes_on.history opening has) s

  -- it is one if a turn was taken
  pub Speaks-known : (old new : PassView (LockEntry D)) (messages : List MessageView) (replies : List ReplyView) → (s : Speaks faults gives nonce old new messages replies) → s.count ≢ 0 → (opening : StoreView D) × IsPlacedConnection faults gives nonce opening old new messages replies
  Speaks-known old new messages replies s some =
      let known = s.known some in
      (known.0, placed_in known.0 old new messages replies known.1 s)

  -- the other pass had seen what begins each history that begins with what this one has seen
  pub Speaks-later : (opening : StoreView D) (told old new : PassView (LockEntry D)) (messages : List MessageView) (replies : List ReplyView) → (h : HasHistory opening told) → IsMadeAfter told old → (s : Speaks faults gives nonce old new messages replies) →
      (length h.entries ≤ entries_seen old) ×
      InEachHistory new (λ root entries. (root ≡ opening) × IsPrefix h.entries entries × MessagesPlaced gives (pass_at opening old.number) entries (begun_with nonce) (entries_seen old) messages replies s.end s.to s.given)
  Speaks-later opening told old new messages replies h later s =
      let seen : IsPrefix told.seen old.seen = later_has_seen told old later in
      let placed : InEachHistory new (λ root entries. (root ≡ opening) × IsPrefix h.entries entries × MessagesPlaced gives (pass_at opening old.number) entries (begun_with nonce) (entries_seen old) messages replies s.end s.to s.given) =
      λ root entries begins.
      let whole : IsPrefix told.seen (lock_history root entries) = prefix_trans told.seen old.seen (lock_history root entries) seen (prefix_trans old.seen new.seen (lock_history root entries) s.goes_on.seen begins) in
      let first : IsPrefix (lock_history opening h.entries) (lock_history root entries) = subst (λ (l : List (ℕ × LockEntry D)). IsPrefix l (lock_history root entries)) h.seen_is whole in
      let alike : opening ≡ root = opened_alike opening root h.entries entries first in (
        sym alike,
        (bare first.0, sym (entries_after opening root h.entries entries first)),
        subst (λ (o : StoreView D). MessagesPlaced gives (pass_at o old.number) entries (begun_with nonce) (entries_seen old) messages replies s.end s.to s.given) (sym alike) (s.placed root entries begins).0,
      ) in
      (told_few told old opening h.entries h.seen_is seen, placed)
