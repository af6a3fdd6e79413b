-- The entry of the number is withdrawn, in its place.
use Rattle.std.proofs.Common.{List, subst, sym}
use Rattle.std.specs.Prelude.{IsSome, true}
use Rattle.policy_statement.specs.Registered.{RegisteredView, RegistryView}
use Rattle.policy_statement.specs.Digests.{IsIndexed}
use Rattle.policy_statement.specs.Withdrawal.{live_of_number}
use Rattle.policy_statement.proofs.WithdrawalLemmas.{IsIndexed-marked, ended_at, ended_view}
use Rattle.policy_statement.proofs.registry.Registry.end.Goals as goal

pub invariant_of-self : goal.invariant_of-self
invariant_of-self c =
    let entries = c.self.inside.entries.items in
    let some : IsSome (live_of_number entries c.args.number) = subst (λ (r : RegistryView). IsSome (live_of_number r.entries c.args.number)) (sym c.self.view_is) c.requires in
    subst (λ (es : List RegisteredView). IsIndexed es c.self.inside.digests.items true) (sym (ended_at entries c.args.number c.index_mut.result.now c.withdraw.new.self some c.index_mut.ensures.value c.withdraw.ensures))
    (IsIndexed-marked entries c.args.number c.self.inside.digests.items c.self.inside.ended some c.self.invariant)

pub returns : goal.returns
returns c =
    let entries = c.self.inside.entries.items in
    let some : IsSome (live_of_number entries c.args.number) = subst (λ (r : RegistryView). IsSome (live_of_number r.entries c.args.number)) (sym c.self.view_is) c.requires in
    ended_view entries _ _ c.args.number c.args.self.now c.self.view_is (ended_at entries c.args.number c.index_mut.result.now c.withdraw.new.self some c.index_mut.ensures.value c.withdraw.ensures)
