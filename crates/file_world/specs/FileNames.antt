-- The grammar of the names of nodes and of attributes (this project's own).
use Rattle.std.specs.Prelude.{ℕ, List, [], ◌∷◌, length, codes, Bool, false, not, nat_le, ◌-◌, ◌&&◌, ◌||◌, ◌==◌}
use Rattle.std.specs.List.{list_all, starts_with}
use Rattle.std.specs.Prelude.{nat_eq}
use Rattle.std.specs.Str.{bytes_eq}
use Rattle.bl_syntax.specs.Names.{is_lower_case, is_digit, is_upper_case}
use Rattle.file_world.specs.Limits.{longest_name}

-- what a node's name is made of: letters, digits, `_`, `.` and `-`
abbrev pub is_node_name_byte : ℕ → Bool
is_node_name_byte byte = is_lower_case byte || is_upper_case byte || is_digit byte || (byte == 95) || (byte == 46) || (byte == 45)

-- whether the bytes name a node: 1 to 64 of these, and neither `.` nor `..`
unfoldable pub is_node_name : List ℕ → Bool
is_node_name name = nat_le 1 (length name) && nat_le (length name) longest_name
    && list_all is_node_name_byte name && not (bytes_eq name (codes "."))
    && not (bytes_eq name (codes ".."))

-- what may follow the first byte of an attribute's name: a lower-case letter, a digit, `_` or `.`
abbrev pub is_attribute_name_byte : ℕ → Bool
is_attribute_name_byte byte = is_lower_case byte || is_digit byte || (byte == 95) || (byte == 46)

-- whether the bytes name an attribute: a lower-case letter, and at most 63 of these
abbrev pub is_attribute_name_from : List ℕ → Bool
is_attribute_name_from [] = false
is_attribute_name_from (first ∷ others) = is_lower_case first && list_all is_attribute_name_byte others && nat_le (length others) (longest_name - 1)

unfoldable pub is_attribute_name : List ℕ → Bool
is_attribute_name name = is_attribute_name_from name

-- whether the name is that of an attribute on which policy rests
abbrev pub is_policy_name : List ℕ → Bool
is_policy_name name = starts_with nat_eq name (codes "pcfs.")
