-- The order of pairs of numbers is total, and tells all pairs apart.
use Rattle.std.proofs.Common.{ℕ}
use Rattle.std.specs.Cmp.{IsTotalOrder, nat_cmp_total}
use Rattle.std.specs.Ordering.{nat_cmp}
use Rattle.std.proofs.lemmas.Cmp.{then_total, on_total}
use Rattle.std.proofs.lemmas.Map.Lookups.{CmpEqualImpliesEq, exact_pairs, exact_unsigned}
use Rattle.mode_policy.specs.Places.{pair_cmp}

pub pair_cmp_total : IsTotalOrder pair_cmp
pair_cmp_total = then_total (on_total (λ (p : ℕ × ℕ). p.0) nat_cmp_total) (on_total (λ (p : ℕ × ℕ). p.1) nat_cmp_total)

pub exact_pair_cmp : CmpEqualImpliesEq pair_cmp
exact_pair_cmp = exact_pairs nat_cmp nat_cmp exact_unsigned exact_unsigned
