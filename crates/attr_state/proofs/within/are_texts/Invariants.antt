-- All are texts if those that are left are.
use Rattle.std.proofs.Common.{ℕ, List, drop}
use Rattle.std.specs.Prelude.{IsTrue}
use Rattle.std.specs.List.{AllByRecursion}
use Rattle.bl_syntax.specs.Names.{is_text}
use Rattle.attr_state.proofs.within.are_texts.Given as goal

abbrev pub invariant-loop-attribute : goal.invariant-loop-attribute
invariant-loop-attribute l =
    AllByRecursion (λ (attribute : List ℕ × List ℕ). IsTrue (is_text attribute.1)) (drop l.attribute-index l.attributes)
    → AllByRecursion (λ (attribute : List ℕ × List ℕ). IsTrue (is_text attribute.1)) l.attributes
