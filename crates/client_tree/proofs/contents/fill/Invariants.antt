use Rattle.std.proofs.Common.{◌≡◌, ◌+◌, length}
use Rattle.std.specs.Slice.Iter.{chunks_rest}
use Rattle.client_tree.proofs.contents.fill.Given as goal

-- what was written, and what is left, are all the bytes
abbrev pub invariant-loop-part : goal.invariant-loop-part
invariant-loop-part g l =
    (goal.iterator-loop-part g).can_next l.part-iterator
    × (goal.iterator-loop-part g).is_finite l.part-iterator
    × (l.offset + length (chunks_rest l.part-iterator) ≡ length l.fn.bytes)
