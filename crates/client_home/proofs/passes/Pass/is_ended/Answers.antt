-- After the last end of the window no second meets the conditions.
use Rattle.std.proofs.Common.{◌≡◌, ◌↔◌, ℤ, IsTrue, subst}
use mir.Val.{to_z, of_z}
use mir.Syntax.{w64}
use Rattle.std.proofs.lemmas.Int.{to_z-of_z}
use Rattle.bl_syntax.specs.declared.terms.TimePoint.TheVariants.{At}
use Rattle.bl_syntax.specs.TimeOrder.{IsUpTo}
use Rattle.client_home.proofs.PassLemmas.{ended_after}
use Rattle.client_home.proofs.passes.Pass.is_ended.Goals as goal

pub returns : goal.returns
returns c =
    let same : to_z w64 (of_z w64 c.args.second) ≡ c.args.second = to_z-of_z w64 c.args.second c.ranges.second in
    let lasts : IsTrue c.is_up_to.result ↔ IsUpTo (At c.args.second) c.in-Some.ends.1 = subst (λ (s : ℤ). IsTrue c.is_up_to.result ↔ IsUpTo (At s) c.in-Some.ends.1) same c.is_up_to.ensures in
    ended_after c.args.self.now.procap.grant.times c.in-Some.ends.0 c.in-Some.ends.1 c.args.second c.is_up_to.result c.in-Some.ensures lasts
