-- The new name is at the end; where there is no memory, all is as before.
use Rattle.std.proofs.Common.{◌≡◌, ◌∙◌, ◌∷◌, [], ℕ, Some, List, length, cond, take, ap, subst, arith}
use Rattle.std.specs.Prelude.{Contains}
use Rattle.std.specs.Map.{lookup}
use Rattle.std.specs.BTreeMap.{is_at}
use Rattle.std.specs.Cmp.Lexicographic.{slice_cmp, nat_list_cmp_total}
use Rattle.std.specs.Ordering.{nat_cmp}
use Rattle.std.proofs.lemmas.List.{take_at}
use Rattle.std.proofs.lemmas.Map.Lookups.{exact_bytes}
use Rattle.mode_policy.proofs.PlacesLemmas.{ArePlacesOf-push}
use Rattle.mode_policy.proofs.names.NameList.add.Goals as goal

pub invariant_of-self-in-Ok : goal.invariant_of-self-in-Ok
invariant_of-self-in-Ok c =
    let names : List (List ℕ) = c.self.inside.names.items in
    let name : List ℕ = c.args.name in
    let len : c.len-len.result ≡ length names = omega (arith, c.self.inside.names.ok.0) in
    let none : Contains names name → ⊥ = λ h. c.requires (subst (λ (l : List (List ℕ)). Contains l name) c.self.view_is h) in
    let updates : (q : List ℕ) → lookup (is_at (slice_cmp nat_cmp q)) c.insert.new.self.entries ≡ cond (is_at (slice_cmp nat_cmp name) q) (Some (length names)) (lookup (is_at (slice_cmp nat_cmp q)) c.self.inside.places.entries) =
    λ q. c.in-Ok.ensures.updates.0 q
    ∙ ap (λ (p : List ℕ). cond (is_at (slice_cmp nat_cmp p) q) (Some c.len-len.result) (lookup (is_at (slice_cmp nat_cmp q)) c.self.inside.places.entries)) c.new.ensures
    ∙ ap (λ (n : ℕ). cond (is_at (slice_cmp nat_cmp name) q) (Some n) (lookup (is_at (slice_cmp nat_cmp q)) c.self.inside.places.entries)) len in
    rw c.in_ok-push.ensures.items
    (ArePlacesOf-push (slice_cmp nat_cmp) nat_list_cmp_total exact_bytes names name c.self.inside.places.entries c.insert.new.self.entries none updates c.self.invariant)

pub invariant_of-self-in-Err : goal.invariant_of-self-in-Err
invariant_of-self-in-Err c =
    let names : List (List ℕ) = c.self.inside.names.items in
    let len : length names ≡ c.len-len.result = omega (arith, c.self.inside.names.ok.0) in
    let same : c.truncate.new.self.items ≡ names = c.truncate.ensures.items ∙ ap (take c.len-len.result) c.in_ok-push.ensures.items ∙ take_at names (c.args.name ∷ []) c.len-len.result len in
    let kept : c.insert.new.self.entries ≡ c.self.inside.places.entries = c.in-Err.ensures.err in
    rw (same, kept) c.self.invariant
