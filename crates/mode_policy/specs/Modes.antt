-- The modes of a file: an octal digit for each class of principals (after the modes of files in
-- POSIX).
use Rattle.std.specs.Prelude.{◌/◌, ◌%◌, ℕ, List, [], ◌∷◌, codes, Bool, false, ◌==◌}
use Rattle.std.specs.List.{filter}
use Rattle.bl_syntax.specs.declared.terms.Perm.{Perm as Permission}
use Rattle.bl_syntax.specs.declared.terms.Perm.TheVariants.{Read, Write, Execute, Identity, Govern}
use Rattle.mode_policy.specs.declared.modes.Class.{Class}
use Rattle.mode_policy.specs.declared.modes.Class.TheVariants.{Owner, Group, Other}
use Rattle.mode_policy.specs.declared.modes.Modes.{Modes}

-- the name of a class
abbrev pub class_name : Class → List ℕ
class_name Owner = codes "owner"
class_name Group = codes "group"
class_name Other = codes "other"

-- the digit of a class
abbrev pub digit_of : Modes → Class → ℕ
digit_of modes Owner = modes.owner
digit_of modes Group = modes.group
digit_of modes Other = modes.other

-- whether the digit has the bit of the permission: 4 is for reading, 2 for writing, 1 for
-- executing. No digit lets anybody say who a file is or govern it
abbrev pub permits : ℕ → Permission → Bool
permits digit Read = digit / 4 % 2 == 1
permits digit Write = digit / 2 % 2 == 1
permits digit Execute = digit % 2 == 1
permits digit Identity = false
permits digit Govern = false

-- the permissions of a digit
abbrev pub permitted : ℕ → List Permission
permitted digit = filter (permits digit) (Read ∷ Write ∷ Execute ∷ [])
