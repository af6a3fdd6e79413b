-- What a pass knows after a turn.
use Rattle.std.proofs.Common.{◌≡◌, ◌∙◌, ◌+◌, ◌-◌, ◌≤◌, ℕ, List, ◌∷◌, ◌++◌, length, true, sym, ap, subst, arith, append_assoc, length-append}
use Rattle.std.proofs.lemmas.List.{append_cancel_left, length-map}
use Rattle.std.specs.Prelude.{ℤ}
use mathlib.Core.List.{IsPrefix}
use Rattle.tree_lock.specs.Entries.{Appends}
use Rattle.tree_lock.specs.Seen.{PassView}
use Rattle.tree_lock.specs.Closing.{IsMadeAfter}
use Rattle.tree_lock.specs.Turned.{Turned}
use Rattle.tree_lock.proofs.EntryLemmas.{prefix_refl, prefix_trans}
use Rattle.tree_lock.proofs.SeenLemmas.{later_has_seen}
use Rattle.tree_lock.proofs.TurnLemmas.{seen_grew}
use Rattle.pcfs_store.specs.Entries.{StoreEntry, entries_of}
use Rattle.pcfs_store.specs.StoreView.{StoreView}
use Rattle.session_history.specs.declared.request.TurnRequest.{TurnRequest}
use Rattle.session_history.specs.declared.reply.TurnReply.{TurnReply}
use Rattle.session_history.specs.declared.reply.TurnReply.TheVariants as turn_replies
use Rattle.session_history.specs.Passes.{has_stop}
use Rattle.session_history.specs.Turn.{Turn}
use Rattle.session_history.proofs.GivenLemmas.{turn_given}
use Rattle.session_history.proofs.StopLemmas.{stop_there}
use Rattle.shared_store.specs.declared.entry.LockEntry.{LockEntry}
use Rattle.shared_store.specs.declared.entry.LockEntry.TheVariants.{Opened}
use Rattle.shared_store.specs.OpenedView.{OpenedView}
use Rattle.shared_store.specs.LockHistory.{numbered_entry, numbered, lock_history, lock_entries, bare}
use Rattle.shared_store.specs.Turning.{pass_at, HasTurned, TakesTurn}
use Rattle.shared_store.specs.Asking.{HasHistory, HasAsked, HasSeenFault}
use Rattle.shared_store.proofs.HistoryLemmas.{numbered_both, all_numbered, opened_alike, entries_after}
use Rattle.shared_store.proofs.TurningLemmas.{stop_of, turn_shown}

module _ {D : Type 0} where
  -- the entries after a turn are those before, and then the given ones under the number of the pass
  pub grown : (faults : D → ℕ) (gives : List StoreEntry → ℤ → Type 0) (request : TurnRequest) (before after : OpenedView D) (pass : ℕ) (reply : TurnReply) (t : HasTurned faults gives request before pass after reply) → lock_entries after ≡ lock_history before.opening (entries_of before.store ++ t.given)
  grown faults gives request before after pass reply t = ap (λ (o : StoreView D). lock_history o (entries_of after.store)) t.opening_stays ∙ ap (lock_history before.opening) t.grows

  pub appends : (faults : D → ℕ) (gives : List StoreEntry → ℤ → Type 0) (request : TurnRequest) (before after : OpenedView D) (pass : ℕ) (reply : TurnReply) → HasTurned faults gives request before pass after reply → Appends pass (lock_entries before) (lock_entries after)
  appends faults gives request before after pass reply t = record {
    added = numbered t.given;
    is = grown faults gives request before after pass reply t ∙ ap (λ (l : List (ℕ × LockEntry D)). (0, Opened before.opening) ∷ l) (numbered_both D (entries_of before.store) t.given);
    of_number = all_numbered D pass t.given (turn_given gives (pass_at before.opening pass) (entries_of before.store) request reply t.given t.turn);
  }

  -- the moment was one that the clock gives
  pub turned_shown : (faults : D → ℕ) (gives : List StoreEntry → ℤ → Type 0) (request : TurnRequest) (before after : OpenedView D) (pass : ℕ) (moment : ℤ) (reply : TurnReply) → gives (entries_of before.store) moment → HasTurned faults (λ _ m. m ≡ moment) request before pass after reply → HasTurned faults gives request before pass after reply
  turned_shown faults gives request before after pass moment reply shown t =
      record { given = t.given; opening_stays = t.opening_stays; grows = t.grows; turn = turn_shown gives (pass_at before.opening pass) (entries_of before.store) request moment reply t.given shown t.turn; none_failed = t.none_failed; stops = t.stops }

  module _ (faults : D → ℕ) (gives : List StoreEntry → ℤ → Type 0) (request : TurnRequest) where
    abbrev Done : OpenedView D → ℕ → OpenedView D → TurnReply → Type 0
    Done before pass after reply = TakesTurn faults gives request before pass after reply

    -- so many entries after the root, of which the first were seen
    pub few_seen : (seen : List (ℕ × LockEntry D)) (opening : StoreView D) (entries : List StoreEntry) → IsPrefix seen (lock_history opening entries) → length seen - 1 ≤ length entries
    few_seen seen opening entries begins =
        let long : length (seen ++ begins.0) ≡ length (lock_history opening entries) = ap length begins.1 in
        let same : length (numbered {D = D} entries) ≡ length entries = length-map entries numbered_entry in
        omega (arith, long, same, length-append seen begins.0)

    pub all_seen : (seen : List (ℕ × LockEntry D)) (opening : StoreView D) (entries given : List StoreEntry) → seen ≡ lock_history opening (entries ++ given) → length seen - 1 ≡ length entries + length given
    all_seen seen opening entries given is =
        let long : length seen ≡ length (lock_history opening (entries ++ given)) = ap length is in
        let same : length (numbered {D = D} (entries ++ given)) ≡ length (entries ++ given) = length-map (entries ++ given) numbered_entry in
        omega (arith, long, same, length-append entries given)

    -- what has been seen of a store is of the same one later
    pub same_store : (old new : PassView (LockEntry D)) (opening first : StoreView D) (entries : List StoreEntry) → IsPrefix old.seen new.seen → new.seen ≡ lock_history first entries → HasHistory opening old → HasHistory opening new
    same_store old new opening first entries grew seen h =
        let longer = subst (λ (l : List (ℕ × LockEntry D)). IsPrefix (lock_history opening h.entries) l) seen (subst (λ (l : List (ℕ × LockEntry D)). IsPrefix l new.seen) h.seen_is grew) in
        let same : opening ≡ first = opened_alike opening first h.entries entries longer in
        record { entries = entries; seen_is = seen ∙ ap (λ (o : StoreView D). lock_history o entries) (sym same) }

    -- what the pass has seen after a turn
    pub grown_seen : (old new : PassView (LockEntry D)) (reply : TurnReply) → (t : Turned lock_entries Done old new reply) → new.seen ≡ lock_history t.before.opening (entries_of t.before.store ++ t.worked.turned.given)
    grown_seen old new reply t = t.seen ∙ grown faults gives request t.before t.after old.number reply t.worked.turned

    unfoldable pub asked : (old new : PassView (LockEntry D)) (reply : TurnReply) → Turned lock_entries Done old new reply → HasAsked gives request old new reply
    asked old new reply t =
        let w = t.worked.turned in
        let first : StoreView D = t.before.opening in
        let found : List StoreEntry = entries_of t.before.store in
        let left : lock_entries t.after ≡ lock_history first (found ++ w.given) = grown faults gives request t.before t.after old.number reply w in
        let both : lock_history first (found ++ w.given) ≡ lock_history first found ++ numbered w.given = ap (λ (l : List (ℕ × LockEntry D)). (0, Opened first) ∷ l) (numbered_both D found w.given) in
        let added : t.added ≡ numbered w.given = append_cancel_left (lock_history first found) t.added (numbered w.given) (sym t.left ∙ left ∙ both) in
        let seen : new.seen ≡ lock_history first (found ++ w.given) = t.seen ∙ left in
        let grew : IsPrefix old.seen new.seen = seen_grew lock_entries Done old new reply t in
        record {
          given = w.given;
          goes_on = record {
            lock = t.lock;
            number = t.number;
            seen = grew;
            history = λ opening h. same_store old new opening first (found ++ w.given) grew seen h;
            own = t.own ∙ ap (λ (l : List (ℕ × LockEntry D)). old.own ++ l) added;
          };
          root = first;
          found = found;
          found_seen = t.found;
          seen_is = seen;
          turn = w.turn;
          turns = t.turns;
          placed = λ opening entries begins.
              let longer = subst (λ (l : List (ℕ × LockEntry D)). IsPrefix l (lock_history opening entries)) seen begins in
              record {
                before = found;
                after = bare longer.0;
                parts = entries_after first opening (found ++ w.given) entries longer ∙ append_assoc found w.given (bare longer.0);
                not_earlier = few_seen old.seen first found t.found;
                place = all_seen new.seen first found w.given seen;
                turn = subst (λ (o : StoreView D). Turn gives (pass_at o old.number) found request reply w.given) (opened_alike first opening (found ++ w.given) entries longer) w.turn;
              };
        }

    -- a turn is told that the store is stopped only if the store that it left is
    pub fault_seen : (old new : PassView (LockEntry D)) (reply : TurnReply) → Turned lock_entries Done old new reply → reply ≡ turn_replies.Stopped → HasSeenFault faults new
    fault_seen old new reply t is =
        let w = t.worked.turned in
        let mark : has_stop (entries_of t.after.store) ≡ true = ap has_stop w.grows ∙ stop_there gives (pass_at t.before.opening old.number) (entries_of t.before.store) request reply w.given w.turn is in
        let stop = stop_of t.after.store mark in
        record {
          root = t.after.opening;
          after = t.after.store;
          number = stop.0;
          seen = subst (λ (l : List (ℕ × LockEntry D)). IsPrefix (lock_entries t.after) l) (sym t.seen) (prefix_refl (lock_entries t.after));
          stop = stop.1;
          since = t.worked.failed stop.0 stop.1;
        }

  -- ---- later

  pub seen_later : (faults : D → ℕ) (old new : PassView (LockEntry D)) → IsPrefix old.seen new.seen → HasSeenFault faults old → HasSeenFault faults new
  seen_later faults old new grew f =
      record { root = f.root; after = f.after; number = f.number; seen = prefix_trans (lock_history f.root (entries_of f.after)) old.seen new.seen f.seen grew; stop = f.stop; since = f.since }

  pub told_found : (gives : List StoreEntry → ℤ → Type 0) (told old new : PassView (LockEntry D)) (opening : StoreView D) (request : TurnRequest) (reply : TurnReply) → (h : HasHistory opening told) → IsPrefix told.seen old.seen → (a : HasAsked gives request old new reply) →
      (opening ≡ a.root) × IsPrefix h.entries a.found
  told_found gives told old new opening request reply h earlier a =
      let whole : IsPrefix told.seen (lock_history a.root a.found) = prefix_trans told.seen old.seen (lock_history a.root a.found) earlier a.found_seen in
      let begins : IsPrefix (lock_history opening h.entries) (lock_history a.root a.found) = subst (λ (l : List (ℕ × LockEntry D)). IsPrefix l (lock_history a.root a.found)) h.seen_is whole in
      (opened_alike opening a.root h.entries a.found begins, (bare begins.0, sym (entries_after opening a.root h.entries a.found begins)))

  -- a pass that was made after another had left has seen as much
  pub later_found : (gives : List StoreEntry → ℤ → Type 0) (told made old new : PassView (LockEntry D)) (opening : StoreView D) (request : TurnRequest) (reply : TurnReply) → (h : HasHistory opening told) → IsMadeAfter told made → IsPrefix made.seen old.seen → (a : HasAsked gives request old new reply) →
      (opening ≡ a.root) × IsPrefix h.entries a.found
  later_found gives told made old new opening request reply h later more a =
      told_found gives told old new opening request reply h (prefix_trans told.seen made.seen old.seen (later_has_seen told made later) more) a
