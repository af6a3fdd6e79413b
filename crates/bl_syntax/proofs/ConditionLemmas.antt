-- Two terms that are times are in order where the times are.
use Rattle.std.proofs.Common.{◌≡◌, ◌↔◌}
use Rattle.bl_syntax.specs.declared.terms.Term.{Term}
use Rattle.bl_syntax.specs.declared.terms.Term.TheVariants.{Time}
use Rattle.bl_syntax.specs.declared.terms.TimePoint.{TimePoint}
use Rattle.bl_syntax.specs.TimeOrder.{IsUpTo}
use Rattle.bl_syntax.specs.Terms.{AreInOrder, in_order}

IsUpTo-in_order : {u v : TimePoint} → AreInOrder (Time u) (Time v) → IsUpTo u v
IsUpTo-in_order (in_order h) = h

pub AreInOrder-times : (a b : Term) (u v : TimePoint) → a ≡ Time u → b ≡ Time v → AreInOrder a b ↔ IsUpTo u v
AreInOrder-times a b u v low high =
    (λ h. IsUpTo-in_order (rw (low, high) at h), λ h. rw (low, high) (in_order h))
