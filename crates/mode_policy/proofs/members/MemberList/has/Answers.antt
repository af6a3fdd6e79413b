-- The map has the memberships that are there.
use Rattle.std.proofs.Common.{ℕ, List, subst}
use Rattle.std.specs.Map.{lookup}
use Rattle.std.specs.BTreeMap.{is_at}
use Rattle.mode_policy.specs.Places.{ArePlacesOf, pair_cmp}
use Rattle.mode_policy.proofs.PlacesLemmas.{has_place}
use Rattle.mode_policy.proofs.members.MemberList.has.Goals as goal

pub returns : goal.returns
returns c =
    let m : ℕ × ℕ = (c.args.who, c.args.group) in
    let places : ArePlacesOf pair_cmp c.self.inside.places.entries c.args.self.now = subst (λ (l : List (ℕ × ℕ)). ArePlacesOf pair_cmp c.self.inside.places.entries l) c.self.view_is c.self.invariant in
    has_place c.args.self.now m (lookup (is_at (pair_cmp m)) c.self.inside.places.entries) c.contains_key.result c.contains_key.ensures (places m)
