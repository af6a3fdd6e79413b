use Rattle.std.proofs.Common.{◌≡◌, ◌+◌, ◌-◌, ◌*◌, ◌≤◌, length, false}
use Rattle.bl_syntax.specs.Formula.{formula_view}
use Rattle.bl_text.specs.Scope.{variables}
use Rattle.bl_text.specs.Grammar.{disjunction, conjunction, postfix, Is, is_continued_by}
use Rattle.bl_text.specs.Grammar as grammar
use Rattle.bl_text.proofs.formulas.+descent.Given as goal

-- a node that is taken, or a parenthesis that is opened, makes less room for what is left; within one place the level falls

abbrev pub decreases-formula_at : goal.decreases-formula_at
decreases-formula_at l = l.here.now.left * 4104 + (512 - l.depth) * 8 + 7

abbrev pub decreases-for_every : goal.decreases-for_every
decreases-for_every l = l.here.now.left * 4104 + (512 - l.depth) * 8 + 6

abbrev pub decreases-for_some : goal.decreases-for_some
decreases-for_some l = l.here.now.left * 4104 + (512 - l.depth) * 8 + 6

abbrev pub decreases-implication : goal.decreases-implication
decreases-implication l = l.here.now.left * 4104 + (512 - l.depth) * 8 + 6

abbrev pub decreases-disjunction : goal.decreases-disjunction
decreases-disjunction l = l.here.now.left * 4104 + (512 - l.depth) * 8 + 5

abbrev pub decreases-conjunction : goal.decreases-conjunction
decreases-conjunction l = l.here.now.left * 4104 + (512 - l.depth) * 8 + 4

abbrev pub decreases-unary : goal.decreases-unary
decreases-unary l = l.here.now.left * 4104 + (512 - l.depth) * 8 + 3

abbrev pub decreases-says_formula : goal.decreases-says_formula
decreases-says_formula l = l.here.now.left * 4104 + (512 - l.depth) * 8 + 2

abbrev pub decreases-grouped : goal.decreases-grouped
decreases-grouped l = l.here.now.left * 4104 + (512 - l.depth) * 8 + 2

abbrev pub decreases-group : goal.decreases-group
decreases-group l = l.here.now.left * 4104 + (512 - l.depth) * 8 + 0

-- what was read so far is a text of the formula
abbrev pub invariant-disjunction-or : goal.invariant-disjunction-or
invariant-disjunction-or l = record {
  is_text : Is l.text l.in_statement disjunction (variables l.scope) l.depth l.fn.here l.here (formula_view l.a.value);
  ended : is_continued_by grammar.conjunction l.here.token ≡ false;
  left : l.here.left + 1 ≤ l.fn.here.left;
  within : l.here.end ≤ length l.text;
}

abbrev pub decreases-disjunction-or : goal.decreases-disjunction-or
decreases-disjunction-or l = l.here.left

-- what was read so far is a text of the formula
abbrev pub invariant-conjunction-and : goal.invariant-conjunction-and
invariant-conjunction-and l = record {
  is_text : Is l.text l.in_statement conjunction (variables l.scope) l.depth l.fn.here l.here (formula_view l.a.value);
  ended : is_continued_by grammar.unary l.here.token ≡ false;
  left : l.here.left + 1 ≤ l.fn.here.left;
  within : l.here.end ≤ length l.text;
}

abbrev pub decreases-conjunction-and : goal.decreases-conjunction-and
decreases-conjunction-and l = l.here.left

-- what was read so far is a text of the formula
abbrev pub invariant-grouped-at : goal.invariant-grouped-at
invariant-grouped-at l = record {
  is_text : Is l.text l.in_statement postfix (variables l.scope) l.depth l.fn.here l.here (formula_view l.a.value);
  ended : is_continued_by grammar.primary l.here.token ≡ false;
  left : l.here.left + 1 ≤ l.fn.here.left;
  within : l.here.end ≤ length l.text;
}

abbrev pub decreases-grouped-at : goal.decreases-grouped-at
decreases-grouped-at l = l.here.left
