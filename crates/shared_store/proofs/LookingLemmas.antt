-- What a pass knows after a turn that told it the kind of a node.
use Rattle.std.proofs.Common.{◌≡◌, ◌∙◌, ℕ, List, ◌++◌, Bool, ap, subst, append_assoc}
use Rattle.std.specs.Prelude.{ℤ}
use Rattle.tree_lock.specs.Seen.{PassView}
use Rattle.tree_lock.specs.Turned.{Turned}
use Rattle.pcfs_store.specs.Entries.{StoreEntry, root_of, entries_of, state_of_entries}
use Rattle.pcfs_store.specs.StoreView.{StoreView}
use Rattle.session_history.specs.declared.request.TurnRequest.{TurnRequest}
use Rattle.session_history.specs.declared.reply.TurnReply.{TurnReply}
use Rattle.session_history.specs.declared.reply.TurnReply.TheVariants as turn_replies
use Rattle.session_history.specs.Turn.{Turn}
use Rattle.shared_store.specs.declared.entry.LockEntry.{LockEntry}
use Rattle.shared_store.specs.OpenedView.{OpenedView}
use Rattle.shared_store.specs.LockHistory.{lock_entries, lock_history, bare}
use Rattle.shared_store.specs.Turning.{pass_at, TakesTurn}
use Rattle.shared_store.specs.Asking.{HasSeenFault}
use Rattle.shared_store.specs.Looking.{names_directory, Looks, HasLooked}
use Rattle.shared_store.proofs.HistoryLemmas.{opened_alike, entries_after}
use Rattle.shared_store.proofs.AskingLemmas.{asked, fault_seen, grown_seen, few_seen, all_seen}
use mathlib.Core.List.{IsPrefix}

module _ {D : Type 0} (faults : D → ℕ) (gives : List StoreEntry → ℤ → Type 0) (request : TurnRequest) where
  abbrev LookDone : OpenedView D → ℕ → OpenedView D → TurnReply × Bool → Type 0
  LookDone before pass after out = Looks faults gives request before pass after out.0 out.1

  abbrev TurnDone : OpenedView D → ℕ → OpenedView D → TurnReply → Type 0
  TurnDone before pass after reply = TakesTurn faults gives request before pass after reply

  -- without the kind
  without_kind : (old new : PassView (LockEntry D)) (out : TurnReply × Bool) → Turned lock_entries LookDone old new out → Turned lock_entries TurnDone old new out.0
  without_kind old new out t =
      record { before = t.before; after = t.after; added = t.added; worked = t.worked.turned; found = t.found; left = t.left; of_pass = t.of_pass; seen = t.seen; own = t.own; lock = t.lock; number = t.number; turns = t.turns; own_before = t.own_before; own_after = t.own_after }

  -- the kind after the entries that the turn found and those that it added
  kind_there : (old new : PassView (LockEntry D)) (out : TurnReply × Bool) (t : Turned lock_entries LookDone old new out) →
      out.1 ≡ names_directory (state_of_entries (root_of t.before.opening) (entries_of t.before.store ++ t.worked.turned.turned.given)) out.0
  kind_there old new out t =
      let w = t.worked.turned.turned in
      t.worked.told
      ∙ ap (λ (o : StoreView D). names_directory (state_of_entries (root_of o) (entries_of t.after.store)) out.0) w.opening_stays
      ∙ ap (λ (es : List StoreEntry). names_directory (state_of_entries (root_of t.before.opening) es) out.0) w.grows

  pub looked : (old new : PassView (LockEntry D)) (out : TurnReply × Bool) → Turned lock_entries LookDone old new out → HasLooked gives request old new out.0 out.1
  unfolding without_kind asked
  looked old new out t =
      let plain = without_kind old new out t in
      let w = t.worked.turned.turned in
      let first : StoreView D = t.before.opening in
      let found : List StoreEntry = entries_of t.before.store in
      let seen : new.seen ≡ lock_history first (found ++ w.given) = grown_seen faults gives request old new out.0 plain in
      record {
        asked = asked faults gives request old new out.0 plain;
        placed = λ opening entries begins.
            let longer = subst (λ (l : List (ℕ × LockEntry D)). IsPrefix l (lock_history opening entries)) seen begins in
            let alike : first ≡ opening = opened_alike first opening (found ++ w.given) entries longer in
            record {
              placed = record {
                before = found;
                after = bare longer.0;
                parts = entries_after first opening (found ++ w.given) entries longer ∙ append_assoc found w.given (bare longer.0);
                not_earlier = few_seen faults gives request old.seen first found t.found;
                place = all_seen faults gives request new.seen first found w.given seen;
                turn = subst (λ (o : StoreView D). Turn gives (pass_at o old.number) found request out.0 w.given) alike w.turn;
              };
              told = kind_there old new out t ∙ ap (λ (o : StoreView D). names_directory (state_of_entries (root_of o) (found ++ w.given)) out.0) alike;
            };
      }

  pub looked_fault : (old new : PassView (LockEntry D)) (out : TurnReply × Bool) → Turned lock_entries LookDone old new out → out.0 ≡ turn_replies.Stopped → HasSeenFault faults new
  looked_fault old new out t is = fault_seen faults gives request old new out.0 (without_kind old new out t) is
