-- How a talk ends: what was taken, what was answered, and what was written. If the input does not
-- tell what it has, or the output what it holds, nothing is said of that (this project's own).
use Rattle.std.specs.Prelude.{◌≡◌, ℕ, List, ◌++◌}
use Rattle.pcfs_ports.specs.declared.streams.TheConstants.{INPUT_LIMIT}
use Rattle.pcfs_ports.specs.Faults.{HasRisen}
use Rattle.pcfs_ports.specs.Observable.{with_back, TakesFirst}
use Rattle.session_loop.specs.declared.talk_end.TalkEnd.{TalkEnd}
use Rattle.session_loop.specs.declared.talk_end.TalkEnd.TheVariants as ends
use Rattle.session_loop.specs.declared.talk_end.Unsent.{Unsent}
use Rattle.session_loop.specs.declared.talk_end.Unsent.TheVariants.{Write}
use Rattle.session_loop.specs.Ends.{Ports, unsent_end}
use Rattle.session_loop.specs.Talking.{Talking}
use Rattle.session_loop.specs.Taken.{AreTaken, AreAllTaken, IsCutAtBad, IsReadWhole, IsCutOff}
use Rattle.session_loop.specs.Written.{output_of, HoldsButLast, HoldsReplies}

module _ {P : Type 0} (t : Talking P) where
  -- the replies, and after what is no item that it is none
  abbrev pub all_told : TalkEnd → List ℕ → List ℕ
  all_told ends.Done replies = replies
  all_told ends.Bad replies = replies ++ t.bad_text
  all_told ends.ReadFault replies = replies
  all_told ends.WriteFault replies = replies
  all_told ends.NoMemory replies = replies
  all_told ends.InputTooLong replies = replies

  module _ (start : t.State) (old new : P) where
    -- a talk that began in this state and at the first moment answered these items by the second
    pub record Speaks (items : List t.cutting.Item) (replies : List t.Reply) : Type 0 where
      pub end : t.State
      pub said : t.Said start old new items replies end

    module _ (before after : Ports) where
      -- how far a talk is: it answered items that were taken; or the input was read to its end, and
      -- it answered all its items
      pub data IsUnderWay (items : List t.cutting.Item) (replies : List t.Reply) : Type 0 where
        while_reading : AreTaken t.cutting before.left after.left items → Speaks items replies →
            IsUnderWay items replies
        all_read : IsReadWhole t.cutting before.left after.left items → Speaks items replies →
            IsUnderWay items replies

      -- Which items a talk answers that ends so: all of the input; those before what is no item, or
      -- before what the end of the input leaves none; or all that were taken whole.
      pub data TalkReplies (items : List t.cutting.Item) (replies : List t.Reply) : TalkEnd →
          Type 0 where
        done : IsReadWhole t.cutting before.left after.left items → Speaks items replies →
            TalkReplies items replies ends.Done
        at_bad : IsCutAtBad t.cutting before.left after.left items → Speaks items replies →
            TalkReplies items replies ends.Bad
        cut_off : IsCutOff t.cutting before.left after.left items → Speaks items replies →
            TalkReplies items replies ends.Bad
        read_fault : HasRisen before.read_faults after.read_faults →
            AreAllTaken t.cutting before.left after.left items → Speaks items replies →
            TalkReplies items replies ends.ReadFault
        input_too_long : TakesFirst INPUT_LIMIT before.left after.left →
            AreAllTaken t.cutting before.left after.left items → Speaks items replies →
            TalkReplies items replies ends.InputTooLong

      -- How a talk ends: all those replies were written, and after what is no item that it is none.
      -- Or the output failed, or memory ran out: of the items that were answered all replies were
      -- written but the last, of which some first part was, or that what comes next is no item.
      pub data TalkEnds : TalkEnd → Type 0 where
        written : (how : TalkEnd) (items : List t.cutting.Item) (replies : List t.Reply) →
            TalkReplies items replies how →
            after.held ≡ with_back before.held (all_told how (output_of t.text items replies)) →
            TalkEnds how
        cut_short : (fault : Unsent) (items : List t.cutting.Item) (replies : List t.Reply) →
            (fault ≡ Write → HasRisen before.write_faults after.write_faults) →
            IsUnderWay items replies → HoldsButLast t.text before.held after.held items replies →
            TalkEnds (unsent_end fault)
        cut_at_bad : (fault : Unsent) (items : List t.cutting.Item) (replies : List t.Reply) →
            (fault ≡ Write → HasRisen before.write_faults after.write_faults) →
            TalkReplies items replies ends.Bad →
            HoldsReplies t.text t.bad_text before.held after.held items replies →
            TalkEnds (unsent_end fault)
