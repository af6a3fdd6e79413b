-- The places of the needs of an operation.
use Rattle.std.proofs.Common.{◌≤◌, ℕ, Option, Some, None, List, [], ◌∷◌, map, refl, arith, nat_cmp}
use Rattle.std.specs.List.{AllByRecursion}
use Rattle.std.specs.List.Sorted.{IsStrictlySortedBy}
use Rattle.bl_syntax.specs.declared.terms.NodeId.{NodeId}
use Rattle.bl_syntax.specs.declared.terms.Perm.{Perm}
use Rattle.bl_syntax.specs.declared.terms.Perm.TheVariants as perm
use Rattle.file_world.specs.declared.operation.Op.TheVariants.{Read, Write, Truncate, List as ListOf, Lookup, Create, Mkdir, Unlink, Rename, Getattr, Setattr, Delattr, Chown}
use Rattle.file_world.specs.TreeEffect.{child_of}
use Rattle.file_world.specs.World.{tree_of}
use Rattle.file_world.specs.Needs.{Need, need, child_need, attribute_permission}
use Rattle.file_world.specs.Laws.{NeedsHaveProcaps}

-- rising places from 1 to the greatest
abbrev HasPlaces : List Need → ℕ → Type 0
HasPlaces all most = IsStrictlySortedBy nat_cmp (map (λ need. need.place) all) × AllByRecursion (λ need. (1 ≤ need.place) × (need.place ≤ most)) all

one_rises : IsStrictlySortedBy nat_cmp (1 ∷ [])
unfolding IsStrictlySortedBy
one_rises = (tt, tt)

two_rise : IsStrictlySortedBy nat_cmp (1 ∷ 2 ∷ [])
unfolding IsStrictlySortedBy
two_rise = ((refl, tt), (tt, tt))

three_rise : IsStrictlySortedBy nat_cmp (1 ∷ 2 ∷ 3 ∷ [])
unfolding IsStrictlySortedBy
three_rise = ((refl, (refl, tt)), ((refl, tt), (tt, tt)))

within : (place most : ℕ) → 1 ≤ place → place ≤ most → (1 ≤ place) × (place ≤ most)
within place most a b = (a, b)

one_need : (file : NodeId) (permission : Perm) → HasPlaces (need 1 file permission ∷ []) 1
one_need file permission = (one_rises, (within 1 1 (omega arith) (omega arith), tt))

unlink_needs : (directory : NodeId) (child : Option ℕ) → HasPlaces (need 1 directory perm.Write ∷ child_need 2 child) 2
unlink_needs directory None = (one_rises, (within 1 2 (omega arith) (omega arith), tt))
unlink_needs directory (Some child) = (two_rise, (within 1 2 (omega arith) (omega arith), (within 2 2 (omega arith) (omega arith), tt)))

rename_needs : (directory target : NodeId) (child : Option ℕ) → HasPlaces (need 1 directory perm.Write ∷ need 2 target perm.Write ∷ child_need 3 child) 3
rename_needs directory target None = (two_rise, (within 1 3 (omega arith) (omega arith), (within 2 3 (omega arith) (omega arith), tt)))
rename_needs directory target (Some child) = (three_rise, (within 1 3 (omega arith) (omega arith), (within 2 3 (omega arith) (omega arith), (within 3 3 (omega arith) (omega arith), tt))))

pub needs_have_procaps : NeedsHaveProcaps
needs_have_procaps world (Read file offset len) = one_need file perm.Read
needs_have_procaps world (Write file offset bytes) = one_need file perm.Write
needs_have_procaps world (Truncate file len) = one_need file perm.Write
needs_have_procaps world (ListOf directory) = one_need directory perm.Read
needs_have_procaps world (Lookup directory name) = one_need directory perm.Execute
needs_have_procaps world (Create directory name) = one_need directory perm.Write
needs_have_procaps world (Mkdir directory name) = one_need directory perm.Write
needs_have_procaps world (Unlink directory name) = unlink_needs directory (child_of (tree_of world).rows directory.0 name)
needs_have_procaps world (Rename directory name target renamed) = rename_needs directory target (child_of (tree_of world).rows directory.0 name)
needs_have_procaps world (Getattr node name) = one_need node perm.Read
needs_have_procaps world (Setattr node name value) = one_need node (attribute_permission name)
needs_have_procaps world (Delattr node name) = one_need node (attribute_permission name)
needs_have_procaps world (Chown node owner) = one_need node perm.Govern
