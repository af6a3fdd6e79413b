-- How long the names of nodes and of attributes are.
use Rattle.std.proofs.Common.{◌≤◌, ℕ, List, [], ◌∷◌, length, arith}
use Rattle.std.specs.Prelude.{IsTrue, ◌&&◌, nat_le, not, codes}
use Rattle.std.specs.List.{list_all}
use Rattle.std.specs.Str.{bytes_eq}
use Rattle.std.proofs.lemmas.Bool.{false≢true, and_parts, leb-true}
use Rattle.bl_syntax.specs.Names.{is_lower_case}
use Rattle.bl_syntax.proofs.WordLemmas.{IsBetween}
use Rattle.file_world.specs.FileNames.{is_node_name_byte, is_node_name, is_attribute_name_byte, is_attribute_name}
use Rattle.node_rows.specs.Names.{is_name_or_none}

short_node_name : (name : List ℕ) → IsTrue (is_node_name name) → length name ≤ 64
unfolding is_node_name
short_node_name name h =
    let a = and_parts (nat_le 1 (length name) && nat_le (length name) 64 && list_all is_node_name_byte name && not (bytes_eq name (codes "."))) (not (bytes_eq name (codes ".."))) h in
    let b = and_parts (nat_le 1 (length name) && nat_le (length name) 64 && list_all is_node_name_byte name) (not (bytes_eq name (codes "."))) a.0 in
    let c = and_parts (nat_le 1 (length name) && nat_le (length name) 64) (list_all is_node_name_byte name) b.0 in
    leb-true (length name) 64 (and_parts (nat_le 1 (length name)) (nat_le (length name) 64) c.0).1

pub short_name_or_none : (name : List ℕ) → IsTrue (is_name_or_none name) → length name ≤ 64
short_name_or_none [] h = omega arith
short_name_or_none (byte ∷ bytes) h = short_node_name (byte ∷ bytes) h

pub short_attribute_name : (name : List ℕ) → IsTrue (is_attribute_name name) → IsBetween 1 64 (length name)
unfolding is_attribute_name
short_attribute_name [] h = absurd (false≢true h)
short_attribute_name (first ∷ others) h =
    let short = leb-true (length others) 63 (and_parts (is_lower_case first && list_all is_attribute_name_byte others) (nat_le (length others) 63) h).1 in
    record { not_below = omega arith; not_above = omega (arith, short) }
