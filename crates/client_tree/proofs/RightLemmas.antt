-- Of two procaps the one that holds for longer.
use Rattle.std.proofs.Common.{◌≡◌, ℤ, Option, Some, None, IfSome, IsSomeAnd, ◌⊎◌, inl, inr, subst, sym}
use Rattle.std.specs.Borrow.{Bor}
use Rattle.condition_set.specs.Window.{MeetsConditions}
use Rattle.client_home.specs.declared.passes.Pass.{Pass}

-- what was chosen holds at the second, as both did
pub chosen_meets : (best : Option (Bor Pass)) (one found : Pass) (second : ℤ)
    → (found ≡ one) ⊎ IsSomeAnd best (λ known. found ≡ known.now)
    → IfSome best (λ known. MeetsConditions known.now.procap.grant.times second)
    → MeetsConditions one.procap.grant.times second → MeetsConditions found.procap.grant.times second
chosen_meets best one found second (inl same) old new = subst (λ (p : Pass). MeetsConditions p.procap.grant.times second) (sym same) new
chosen_meets (Some known) one found second (inr same) old new = subst (λ (p : Pass). MeetsConditions p.procap.grant.times second) (sym same) old
chosen_meets None one found second (inr never) old new = absurd never
