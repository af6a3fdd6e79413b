-- The new file is at the end.
use Rattle.std.proofs.Common.{◌≡◌, ◌∙◌, ◌++◌, ◌∷◌, [], ℕ, Some, List, length, map, cond, ap, sym, subst, arith}
use Rattle.std.specs.Prelude.{Contains}
use Rattle.std.specs.Map.{lookup}
use Rattle.std.specs.BTreeMap.{is_at}
use Rattle.std.specs.Cmp.{nat_cmp_total}
use Rattle.std.specs.Ordering.{nat_cmp}
use Rattle.std.proofs.lemmas.List.{map_push, length-map}
use Rattle.std.proofs.lemmas.Map.Lookups.{exact_unsigned}
use Rattle.mode_policy.specs.declared.files.FileRow.{FileRow}
use Rattle.mode_policy.specs.Places.{ArePlacesOf}
use Rattle.mode_policy.specs.Rows.{number_of}
use Rattle.mode_policy.proofs.PlacesLemmas.{ArePlacesOf-push}
use Rattle.mode_policy.proofs.files.FileList.add.Goals as goal

pub invariant_of-self-in-Ok : goal.invariant_of-self-in-Ok
invariant_of-self-in-Ok c =
    let rows : List FileRow = c.self.inside.files.items in
    let numbers : List ℕ = map number_of rows in
    let number : ℕ = c.args.row.number in
    let len : c.len-len.result ≡ length numbers = let e = length-map rows number_of in omega (arith, c.self.inside.files.ok.0) in
    let none : Contains numbers number → ⊥ = λ h. c.requires (subst (λ (l : List FileRow). Contains (map number_of l) number) c.self.view_is h) in
    let updates : (q : ℕ) → lookup (is_at (nat_cmp q)) c.insert.new.self.entries ≡ cond (is_at (nat_cmp number) q) (Some (length numbers)) (lookup (is_at (nat_cmp q)) c.self.inside.places.entries) =
    λ q. c.in-Ok.ensures.updates.0 q
    ∙ ap (λ (n : ℕ). cond (is_at (nat_cmp number) q) (Some n) (lookup (is_at (nat_cmp q)) c.self.inside.places.entries)) len in
    let all : map number_of c.push.new.self.items ≡ numbers ++ number ∷ [] = ap (λ (l : List FileRow). map number_of l) c.in_ok-push.ensures.items ∙ map_push number_of rows c.args.row in
    subst (λ (l : List ℕ). ArePlacesOf nat_cmp c.insert.new.self.entries l) (sym all)
    (ArePlacesOf-push nat_cmp nat_cmp_total exact_unsigned numbers number c.self.inside.places.entries c.insert.new.self.entries none updates c.self.invariant)
