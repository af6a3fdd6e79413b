-- What is no name of another predicate is a predicate on the server's state.
use Rattle.std.proofs.Common.{◌≡◌, ℕ, List, Bool, true, false, IsTrue, refl, sym, subst, Result}
use Rattle.std.specs.Prelude.{if◌then◌else◌}
use Rattle.std.proofs.lemmas.Bool.{false≢true}
use Rattle.bl_syntax.specs.declared.terms.Term.{Term}
use Rattle.bl_syntax.specs.Formula.{FormulaView}
use Rattle.bl_syntax.specs.Names.{is_predicate_name}
use Rattle.bl_tokens.specs.declared.faults.TextFault.{TextFault}
use Rattle.bl_text.specs.Scope.{Variable, variables}
use Rattle.bl_text.specs.Pieces.{apply_predicate, apply_state, GivesPiece}
use Rattle.bl_text.proofs.predicates.apply_predicate.Goals as goal

chosen : {A : Type 0} (b : Bool) (x y : A) → (IsTrue b → ⊥) → (if b then x else y) ≡ y
chosen true x y never = absurd (never refl)
chosen false x y never = refl

applied_state : (scope : List Variable) (at : ℕ) (name : List ℕ) (terms : List Term) → (IsTrue (is_predicate_name name) → ⊥) → apply_predicate scope at name terms ≡ apply_state scope at name terms
unfolding apply_predicate
applied_state scope at name terms never = chosen (is_predicate_name name) _ _ never

pub returns-in-None : goal.returns-in-None
returns-in-None c =
    let never : IsTrue (is_predicate_name c.args.name.now) → ⊥ = λ h. false≢true (c.in-None.ensures.named.1 (subst (λ (n : List ℕ). IsTrue (is_predicate_name n)) (sym c.bytes.ensures.same) h)) in
    subst (λ (r : Result FormulaView TextFault). GivesPiece c.apply_state.result r) (sym (applied_state (variables c.args.scope.now) c.args.at c.args.name.now c.args.terms never)) c.apply_state.ensures
