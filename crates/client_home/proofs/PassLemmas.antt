-- Conditions on time hold exactly between the ends of their window, and never after the last one.
use Rattle.std.proofs.Common.{◌↔◌, ℤ, List, Bool, false, not, IsTrue, sym, ◌∙◌}
use Rattle.std.proofs.lemmas.Bool.{false≢true, not-true}
use Rattle.bl_syntax.specs.declared.terms.Constraint.{Constraint}
use Rattle.bl_syntax.specs.declared.terms.TimePoint.{TimePoint}
use Rattle.bl_syntax.specs.declared.terms.TimePoint.TheVariants.{At}
use Rattle.bl_syntax.specs.TimeOrder.{IsUpTo}
use Rattle.bl_syntax.proofs.EntailmentLemmas.{IsUpTo-transitive}
use Rattle.condition_set.specs.Window.{MeetsConditions, IsWindow}
use Rattle.client_home.specs.Passes.{IsEnded}

-- a second that is not before the first end meets them exactly if it is not after the last
pub holds_between : (times : List Constraint) (first last : TimePoint) (second : ℤ) (holds : Bool) → IsWindow times first last → IsUpTo first (At second) →
    (IsTrue holds ↔ IsUpTo (At second) last) → IsTrue holds ↔ MeetsConditions times second
holds_between times first last second holds window begun ends = (
  (λ h. (window.between second).1 (record { not_before = begun; not_after = ends.0 h })),
  (λ h. ends.1 ((window.between second).0 h).not_after),
)

-- a second before the first end does not meet them
pub fails_before : (times : List Constraint) (first last : TimePoint) (second : ℤ) → IsWindow times first last → (IsUpTo first (At second) → ⊥) →
    IsTrue false ↔ MeetsConditions times second
fails_before times first last second window before =
    ((λ h. absurd (false≢true h)), (λ h. absurd (before ((window.between second).0 h).not_before)))

-- no second from one after the last end on meets them
pub ended_after : (times : List Constraint) (first last : TimePoint) (second : ℤ) (lasts : Bool) → IsWindow times first last →
    (IsTrue lasts ↔ IsUpTo (At second) last) → IsTrue (not lasts) → IsEnded times second
ended_after times first last second lasts window ends over later from meets =
    false≢true (sym (not-true lasts over) ∙ ends.1 (IsUpTo-transitive (At second) (At later) last from ((window.between later).0 meets).not_after))
