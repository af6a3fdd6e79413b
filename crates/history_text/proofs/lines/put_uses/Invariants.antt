-- What the procaps so far were brought for was written.
use Rattle.std.proofs.Common.{◌≡◌, ◌++◌, take}
use Rattle.std.specs.List.{flat_map}
use Rattle.access_history.specs.History.{state_of}
use Rattle.history_text.specs.Lines.{use_text}
use Rattle.history_text.proofs.lines.put_uses.Given as goal

abbrev pub invariant-loop-one : goal.invariant-loop-one
invariant-loop-one l = l.out ≡ l.fn.out ++ flat_map (use_text (state_of l.history)) (take l.one-index l.uses)
