-- What a table of modes allows: the digit of one class alone counts, that of the owner before that
-- of the group before
-- that of the others (after the file access permissions of POSIX).
use Rattle.std.specs.Prelude.{◌≡◌, ℕ, List, Contains, IsTrue, Bool, if◌then◌else◌, ◌&&◌}
use Rattle.std.specs.List.{list_any}
use Rattle.std.specs.Str.{bytes_eq}
use Rattle.bl_syntax.specs.declared.terms.NodeId.{NodeId}
use Rattle.bl_syntax.specs.declared.terms.Perm.{Perm as Permission}
use Rattle.mode_policy.specs.declared.modes.Class.{Class}
use Rattle.mode_policy.specs.declared.modes.Class.TheVariants.{Owner, Group, Other}
use Rattle.mode_policy.specs.Modes.{digit_of, permits}
use Rattle.mode_policy.specs.declared.entry.Membership.{Membership}
use Rattle.mode_policy.specs.declared.entry.FileModes.{FileModes}
use Rattle.mode_policy.specs.Table.{TableView}

abbrev pub membership : List ℕ → List ℕ → Membership
membership who group = record { who = who; group = group }

-- the class of a principal for a file: it owns the file; or it does not, and is a member of the
-- file's group; or neither
pub data IsOfClass (t : TableView) (f : FileModes) (who : List ℕ) : Class → Type 0 where
  as_owner : who ≡ f.owner → IsOfClass t f who Owner
  as_member : (who ≡ f.owner → ⊥) → Contains t.members (membership who f.group) →
      IsOfClass t f who Group
  as_other : (who ≡ f.owner → ⊥) → (Contains t.members (membership who f.group) → ⊥) →
      IsOfClass t f who Other

-- the principal and the file are in the table, and the digit of the principal's class has the
-- permission
pub record ModeAllows (t : TableView) (who : List ℕ) (node : NodeId) (permission : Permission) : Type 0 where
  pub known : Contains t.who who
  pub file : FileModes
  pub among : Contains t.files file
  pub node_is : file.node ≡ node
  pub class : Class
  pub is_of_class : IsOfClass t file who class
  pub permitted : IsTrue (permits (digit_of file.modes class) permission)

-- the class, computed
abbrev pub is_member : List Membership → List ℕ → List ℕ → Bool
is_member members who group = list_any (λ (m : Membership). bytes_eq m.who who && bytes_eq m.group group) members

abbrev pub class_of : TableView → FileModes → List ℕ → Class
class_of t f who = if bytes_eq who f.owner then Owner else if is_member t.members who f.group then Group else Other
