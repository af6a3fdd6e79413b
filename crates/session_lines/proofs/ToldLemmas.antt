-- A line finds what was told before.
use Rattle.std.proofs.Common.{◌≡◌, ◌∙◌, ◌≤◌, ℕ, List, length, sym, ap, subst, arith}
use Rattle.std.specs.Prelude.{ℤ, ◌≢◌}
use Rattle.std.proofs.lemmas.List.{length-map}
use mathlib.Core.List.{IsPrefix}
use Rattle.tree_lock.specs.Seen.{PassView}
use Rattle.tree_lock.specs.Closing.{IsMadeAfter}
use Rattle.tree_lock.proofs.EntryLemmas.{prefix_refl, prefix_trans}
use Rattle.tree_lock.proofs.SeenLemmas.{later_has_seen}
use Rattle.line_wire.specs.declared.reply.LineReply.{LineReply}
use Rattle.line_wire.specs.declared.reply.LineReply.TheVariants as replies
use Rattle.pcfs_store.specs.Entries.{StoreEntry}
use Rattle.pcfs_store.specs.StoreView.{StoreView}
use Rattle.session_history.specs.declared.task.LineTask.{LineTask}
use Rattle.shared_store.specs.declared.entry.LockEntry.{LockEntry}
use Rattle.shared_store.specs.LockHistory.{numbered_entry, numbered, lock_history, bare}
use Rattle.shared_store.specs.Asking.{entries_seen, HasHistory}
use Rattle.shared_store.proofs.HistoryLemmas.{opened_alike, entries_after}
use Rattle.session_lines.specs.Replied.{NeedsTurns, HasDone, IsPlacedAfter}
use Rattle.session_lines.proofs.DoneLemmas.{shorter}

module _ {D : Type 0} where
  -- so many entries were seen
  pub told_few : (told old : PassView (LockEntry D)) (opening : StoreView D) (entries : List StoreEntry) → told.seen ≡ lock_history opening entries → IsPrefix told.seen old.seen → length entries ≤ entries_seen old
  told_few told old opening entries seen earlier =
      let long : length told.seen ≡ length (lock_history opening entries) = ap length seen in
      let same : length (numbered {D = D} entries) ≡ length entries = length-map entries numbered_entry in
      let within : length told.seen ≤ length old.seen = shorter told.seen old.seen earlier in
      omega (arith, long, same, within)

  pub line_after_told : (gives : List StoreEntry → ℤ → Type 0) (told old new : PassView (LockEntry D)) (opening : StoreView D) (task : LineTask) (reply : LineReply) → (h : HasHistory opening told) → IsPrefix told.seen old.seen → NeedsTurns task → reply ≢ replies.NoMemory →
      (d : HasDone gives task old new reply) → IsPlacedAfter gives opening h.entries task old new reply d.given
  line_after_told gives told old new opening task reply h earlier needs some d =
      let known = d.known needs some in
      let entries : List StoreEntry = known.1.entries in
      let seen : IsPrefix told.seen new.seen = prefix_trans told.seen old.seen new.seen earlier d.goes_on.seen in
      let begins : IsPrefix (lock_history opening h.entries) (lock_history known.0 entries) =
      subst (λ (l : List (ℕ × LockEntry D)). IsPrefix l (lock_history known.0 entries)) h.seen_is (subst (λ (l : List (ℕ × LockEntry D)). IsPrefix told.seen l) known.1.seen_is seen) in
      let same : opening ≡ known.0 = opened_alike opening known.0 h.entries entries begins in
      let here : new.seen ≡ lock_history opening entries = known.1.seen_is ∙ ap (λ (o : StoreView D). lock_history o entries) (sym same) in
      let at = d.placed (length h.entries) (told_few told old opening h.entries h.seen_is earlier) in
      record {
        entries = entries;
        seen_is = here;
        begins = (bare begins.0, sym (entries_after opening known.0 h.entries entries begins));
        to = at.to;
        placed = at.placed opening entries (subst (λ (l : List (ℕ × LockEntry D)). IsPrefix new.seen l) here (prefix_refl new.seen));
      }

  -- a pass that was made after another had left has seen as much
  pub line_after_left : (gives : List StoreEntry → ℤ → Type 0) (told made old new : PassView (LockEntry D)) (opening : StoreView D) (task : LineTask) (reply : LineReply) → (h : HasHistory opening told) → IsMadeAfter told made → IsPrefix made.seen old.seen → NeedsTurns task →
      reply ≢ replies.NoMemory → (d : HasDone gives task old new reply) → IsPlacedAfter gives opening h.entries task old new reply d.given
  line_after_left gives told made old new opening task reply h later more needs some d =
      line_after_told gives told old new opening task reply h (prefix_trans told.seen made.seen old.seen (later_has_seen told made later) more) needs some d
