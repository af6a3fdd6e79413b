use Rattle.std.proofs.Common.{◌≡◌, ◌+◌, drop}
use Rattle.std.specs.List.{prefix_len}
use Rattle.bl_tokens.specs.Classes.{is_in}
use Rattle.bl_tokens.proofs.classes.run_len.Given as goal

-- the bytes so far are of the class
abbrev pub invariant-loop-byte : goal.invariant-loop-byte
invariant-loop-byte l = (l.len ≡ l.byte-index) × (l.len + prefix_len (is_in l.class) (drop l.byte-index l.bytes) ≡ prefix_len (is_in l.class) l.bytes)
