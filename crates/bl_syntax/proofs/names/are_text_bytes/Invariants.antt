use Rattle.std.proofs.Common.{◌≡◌, take}
use Rattle.std.specs.List.{list_all}
use Rattle.bl_syntax.specs.Names.{is_text_byte}
use Rattle.bl_syntax.proofs.names.are_text_bytes.Given as goal

-- whether the bytes so far are bytes of a text
abbrev pub invariant-loop-byte : goal.invariant-loop-byte
invariant-loop-byte l = l.fit ≡ list_all is_text_byte (take l.byte-index l.bytes)
