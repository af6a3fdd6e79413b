-- The moment comes back from its bits, and the two terms are then in order where their times are.
use Rattle.std.proofs.Common.{w64}
use Rattle.std.proofs.lemmas.Int.{to_z-of_z}
use Rattle.bl_syntax.proofs.ConditionLemmas.{AreInOrder-times}
use Rattle.bl_syntax.proofs.conditions.holds_at.Goals as goal

pub returns-in-Some-Some : goal.returns-in-Some-Some
returns-in-Some-Some c =
    let again = to_z-of_z w64 c.args.moment c.ranges.moment in
    let low = simp again at c.in-Some-Some.ensures in
    let high = simp again at c.in-Some-Some.ensures' in
    let compared = AreInOrder-times _ _ _ _ low high in
    let answer = c.is_up_to.ensures in
    (λ e. compared.1 (answer.0 e), λ h. answer.1 (compared.0 h))
