-- The digits of the bytes so far were added.
use Rattle.std.proofs.Common.{◌≡◌, ◌++◌, length}
use Rattle.hex.specs.Hex.{encode_lower}
use Rattle.bl_syntax.specs.BeginsWith.{BeginsWith}
use Rattle.line_wire.proofs.hex_text.put_digits.Given as goal

abbrev pub invariant-pieces : goal.invariant-pieces
invariant-pieces l = record {
  so_far : l.out ++ encode_lower l.rest ≡ l.fn.out ++ encode_lower l.bytes;
  begins : BeginsWith l.out l.fn.out;
}

-- fewer bytes are left
abbrev pub decreases-pieces : goal.decreases-pieces
decreases-pieces l = length l.rest
