use Rattle.std.proofs.Common.{◌≡◌, ℕ, ◌+◌, ◌≤◌, length, false}
use Rattle.bl_syntax.specs.Formula.{formula_view}
use Rattle.bl_text.specs.Scope.{variables}
use Rattle.bl_text.specs.Grammar.{postfix, Is, is_continued_by}
use Rattle.bl_text.specs.Grammar as grammar
use Rattle.bl_text.proofs.formulas.postfix.Given as goal

-- what was read so far is a text of the formula
abbrev pub invariant-at : goal.invariant-at
invariant-at l = record {
  is_text : (depth : ℕ) → Is l.text l.in_statement postfix (variables l.scope) depth l.fn.here l.here (formula_view l.a.value);
  ended : is_continued_by grammar.primary l.here.token ≡ false;
  left : l.here.left + 1 ≤ l.fn.here.left;
  within : l.here.end ≤ length l.text;
}

abbrev pub decreases-at : goal.decreases-at
decreases-at l = l.here.left
