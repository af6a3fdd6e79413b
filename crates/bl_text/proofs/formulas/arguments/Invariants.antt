use Rattle.std.proofs.Common.{◌≤◌, ◌+◌, length}
use Rattle.bl_text.specs.Scope.{variables}
use Rattle.bl_text.specs.Grammar.{AreArguments}
use Rattle.bl_text.proofs.formulas.arguments.Given as goal

-- the terms so far are arguments up to that place
abbrev pub invariant-further : goal.invariant-further
invariant-further l = record {
  are_arguments : AreArguments l.text l.in_statement (variables l.scope) l.is_atom l.here l.there l.terms;
  left : l.there.left + 1 ≤ l.here.left;
  within : l.there.end ≤ length l.text;
}

abbrev pub decreases-further : goal.decreases-further
decreases-further l = l.there.left
