use Rattle.std.proofs.Common.{◌≡◌, ◌++◌, take}
use Rattle.bl_text.specs.Printed.{terms_text}
use Rattle.bl_text.proofs.print.write_others.Given as goal

-- the terms so far are written
abbrev pub invariant-loop-term : goal.invariant-loop-term
invariant-loop-term l = l.out ≡ l.initial.out ++ terms_text l.depth (take l.term-index l.terms)
