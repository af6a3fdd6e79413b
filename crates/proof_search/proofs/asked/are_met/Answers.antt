-- The window begins no later than the first moment, and ends no earlier than the last.
use Rattle.std.proofs.Common.{ℤ, w64, rules, refl, subst, sym}
use Rattle.std.proofs.lemmas.Int.{to_z-of_z}
use Rattle.bl_syntax.specs.declared.terms.TimePoint.TheVariants.{At}
use Rattle.bl_syntax.specs.TimeOrder.{IsUpTo}
use Rattle.proof_search.specs.declared.asked.Moments.{Moments}
use Rattle.proof_search.specs.Asked.{AreMet}
use Rattle.proof_search.proofs.AskedLemmas.{met_between}
use Rattle.proof_search.proofs.asked.are_met.Goals as goal

pub returns-else-not-is_up_to : goal.returns-else-not-is_up_to
returns-else-not-is_up_to c ends_after =
    let times = c.args.grant.now.times in
    let first = c.in-Some.ends.0 in
    let last = c.in-Some.ends.1 in
    let begins = subst (λ (moment : ℤ). IsUpTo first (At moment)) (to_z-of_z w64 c.in-Each.from (search rules)) (c.if-not-is_up_to.ensures.0 refl) in
    let ends = subst (λ (moment : ℤ). IsUpTo (At moment) last) (to_z-of_z w64 c.in-Each.to (search rules)) (c.is_up_to-in-Each.ensures.0 ends_after) in
    subst (λ (moments : Moments). AreMet moments times) (sym c.in-Each.is)
    (met_between times first last c.in-Each.from c.in-Each.to c.in-Some.ensures begins ends)
