-- The new membership is at the end.
use Rattle.std.proofs.Common.{◌≡◌, ◌∙◌, ℕ, Some, List, length, cond, ap, subst, arith}
use Rattle.std.specs.Prelude.{Contains}
use Rattle.std.specs.Map.{lookup}
use Rattle.std.specs.BTreeMap.{is_at}
use Rattle.mode_policy.specs.Places.{pair_cmp}
use Rattle.mode_policy.proofs.PairLemmas.{pair_cmp_total, exact_pair_cmp}
use Rattle.mode_policy.proofs.PlacesLemmas.{ArePlacesOf-push}
use Rattle.mode_policy.proofs.members.MemberList.add.Goals as goal

pub invariant_of-self-in-Ok : goal.invariant_of-self-in-Ok
invariant_of-self-in-Ok c =
    let members : List (ℕ × ℕ) = c.self.inside.members.items in
    let m : ℕ × ℕ = (c.args.who, c.args.group) in
    let len : c.len-len.result ≡ length members = omega (arith, c.self.inside.members.ok.0) in
    let none : Contains members m → ⊥ = λ h. c.requires (subst (λ (l : List (ℕ × ℕ)). Contains l m) c.self.view_is h) in
    let updates : (q : ℕ × ℕ) → lookup (is_at (pair_cmp q)) c.insert.new.self.entries ≡ cond (is_at (pair_cmp m) q) (Some (length members)) (lookup (is_at (pair_cmp q)) c.self.inside.places.entries) =
    λ q. c.in-Ok.ensures.updates.0 q
    ∙ ap (λ (n : ℕ). cond (is_at (pair_cmp m) q) (Some n) (lookup (is_at (pair_cmp q)) c.self.inside.places.entries)) len in
    rw c.in_ok-push.ensures.items
    (ArePlacesOf-push pair_cmp pair_cmp_total exact_pair_cmp members m c.self.inside.places.entries c.insert.new.self.entries none updates c.self.invariant)
