-- How a connection ends: what was taken, what was written, and where its replies are placed in the
-- history that others grow too. If the input does not tell what it has, or the output what it
-- holds, nothing is said of that (this project's own).
use Rattle.std.specs.Prelude.{◌≡◌, ℕ, ℤ, List}
use Rattle.pcfs_ports.specs.declared.streams.TheConstants.{INPUT_LIMIT}
use Rattle.pcfs_ports.specs.Faults.{HasRisen}
use Rattle.pcfs_ports.specs.Observable.{with_back, TakesFirst}
use Rattle.tree_lock.specs.Seen.{PassView}
use Rattle.pcfs_store.specs.Entries.{StoreEntry}
use Rattle.shared_store.specs.declared.entry.LockEntry.{LockEntry}
use Rattle.pcfs_session.specs.Streams.{Streams}
use Rattle.nine_messages.specs.Requests.{MessageView}
use Rattle.nine_messages.specs.Replies.{ReplyView}
use Rattle.nine_front.specs.declared.nine_end.NineEnd.{NineEnd}
use Rattle.nine_front.specs.declared.nine_end.NineEnd.TheVariants as ends
use Rattle.nine_front.specs.Said.{Speaks}
use Rattle.nine_front.specs.Taken.{AreTaken, AreAllTaken, IsCutAtBad, IsReadWhole, IsCutOff, output_of, HoldsButLast}

-- `Answered messages replies` says of messages that they were answered, with these replies
module _ (Answered : List MessageView → List ReplyView → Type 0) where
  -- Which messages a connection answers that ends so: all of the input; those before a bad one, or
  -- before one that the end of the input cuts off; or all that were taken whole.
  pub data NineRepliesBy (before after : Streams) : NineEnd → List MessageView → List ReplyView →
      Type 0 where
    done : (messages : List MessageView) (replies : List ReplyView) →
        IsReadWhole before.left after.left messages → Answered messages replies →
        NineRepliesBy before after ends.Done messages replies
    at_bad : (messages : List MessageView) (replies : List ReplyView) →
        IsCutAtBad before.left after.left messages → Answered messages replies →
        NineRepliesBy before after ends.BadMessage messages replies
    cut_off : (messages : List MessageView) (replies : List ReplyView) →
        IsCutOff before.left after.left messages → Answered messages replies →
        NineRepliesBy before after ends.BadMessage messages replies
    read_fault : (messages : List MessageView) (replies : List ReplyView) →
        HasRisen before.read_faults after.read_faults →
        AreAllTaken before.left after.left messages → Answered messages replies →
        NineRepliesBy before after ends.ReadFault messages replies
    input_too_long : (messages : List MessageView) (replies : List ReplyView) →
        TakesFirst INPUT_LIMIT before.left after.left →
        AreAllTaken before.left after.left messages → Answered messages replies →
        NineRepliesBy before after ends.InputTooLong messages replies

  -- How a connection ends: all those replies were written. Or the output failed, or there was no
  -- memory for a reply's bytes or for a piece of the input: then all replies but the last to the
  -- messages that were answered, which are the first of those taken, and of the last some first
  -- part.
  pub data NineEndsBy (before : Streams) : NineEnd → Streams → Type 0 where
    written : (how : NineEnd) (after : Streams) (messages : List MessageView) (replies : List ReplyView) →
        NineRepliesBy before after how messages replies →
        after.held ≡ with_back before.held (output_of messages replies) →
        NineEndsBy before how after
    write_fault : (after : Streams) (messages : List MessageView) (replies : List ReplyView) →
        HasRisen before.write_faults after.write_faults →
        AreTaken before.left after.left messages → Answered messages replies →
        HoldsButLast before.held after.held messages replies →
        NineEndsBy before ends.WriteFault after
    no_memory : (after : Streams) (messages : List MessageView) (replies : List ReplyView) →
        AreTaken before.left after.left messages → Answered messages replies →
        HoldsButLast before.held after.held messages replies →
        NineEndsBy before ends.NoMemory after

-- each of these, of messages that were answered from one moment of a pass to a later one
module _ {D : Type 0} (faults : D → ℕ) (gives : List StoreEntry → ℤ → Type 0) (nonce : List ℕ) where
  abbrev pub NineReplies : PassView (LockEntry D) → PassView (LockEntry D) → Streams → Streams →
      NineEnd → List MessageView → List ReplyView → Type 0
  NineReplies old new before after how messages replies =
      NineRepliesBy (Speaks faults gives nonce old new) before after how messages replies

  abbrev pub NineEnds : PassView (LockEntry D) → PassView (LockEntry D) → Streams → NineEnd →
      Streams → Type 0
  NineEnds old new before how after = NineEndsBy (Speaks faults gives nonce old new) before how after

-- no call of the input failed, unless the connection ends by that: its count of faults stands still
abbrev pub InputStandsStill : NineEnd → ℕ → ℕ → Type 0
InputStandsStill ends.Done before after = after ≡ before
InputStandsStill ends.BadMessage before after = after ≡ before
InputStandsStill ends.ReadFault before after = Unit {0}
InputStandsStill ends.WriteFault before after = after ≡ before
InputStandsStill ends.NoMemory before after = after ≡ before
InputStandsStill ends.InputTooLong before after = after ≡ before

-- and none of the output
abbrev pub OutputStandsStill : NineEnd → ℕ → ℕ → Type 0
OutputStandsStill ends.Done before after = after ≡ before
OutputStandsStill ends.BadMessage before after = after ≡ before
OutputStandsStill ends.ReadFault before after = after ≡ before
OutputStandsStill ends.WriteFault before after = Unit {0}
OutputStandsStill ends.NoMemory before after = after ≡ before
OutputStandsStill ends.InputTooLong before after = after ≡ before

-- Unless a connection ends by a fault of the input, no call of that failed, and unless by one of
-- the output, none of that; also where a port tells nothing of its bytes.
pub record NothingFailedBefore (before : Streams) (how : NineEnd) (after : Streams) : Type 0 where
  pub input : InputStandsStill how before.read_faults after.read_faults
  pub output : OutputStandsStill how before.write_faults after.write_faults
