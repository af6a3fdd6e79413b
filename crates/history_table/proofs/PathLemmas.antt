-- Where a node hangs, and the names above it.
use Rattle.std.proofs.Common.{◌≡◌, ◌<◌, ℕ, zero, suc, List, [], ◌∷◌, ◌++◌, Bool, true, false, refl, sym, ap, subst, ◌∙◌, append_assoc, arith, Option, Some, None, nat_eq}
use Rattle.std.specs.Prelude.{◌==◌}
use Rattle.std.specs.Option.{option_map}
use Rattle.std.proofs.lemmas.Bool.{cond-true, cond-false, eqb-true}
use Rattle.std.proofs.lemmas.List.{append-nil}
use Rattle.std.proofs.lemmas.Option.{none-some, same_Some}
use Rattle.bl_syntax.specs.declared.terms.NodeId.{NodeId}
use Rattle.file_world.specs.Limits.{root_number}
use Rattle.file_world.specs.Tree.{FileTree, IsTree, Node, Nodes, Place, node_at, number_at}
use Rattle.file_world.specs.TreeEffect.{at, child_of, is_directory}
use Rattle.file_world.proofs.PlaceLemmas.{Stands}
use Rattle.file_tree.specs.Index.{option_number}
use Rattle.file_tree.proofs.ChildLemmas.{stands_in}
use Rattle.history_table.specs.Path.{names_above, names_from, place_at, with_name}

found_child : (rows : Nodes) (directory : ℕ) (name : List ℕ) (number : ℕ) → (b : Bool) → is_directory (node_at rows directory) ≡ b → child_of rows directory name ≡ Some number → number_at rows (at directory name) ≡ Some number
found_child rows directory name number true is found = sym (cond-true (is_directory (node_at rows directory)) (number_at rows (at directory name)) None is) ∙ found
found_child rows directory name number false is found = absurd (none-some number (sym (cond-false (is_directory (node_at rows directory)) (number_at rows (at directory name)) None is) ∙ found))

-- a child hangs where it is found
pub place_of_child : (tree : FileTree) (directory : ℕ) (name : List ℕ) (number : ℕ) → IsTree tree → child_of tree.rows directory name ≡ Some number → place_at tree.rows number ≡ Some (at directory name)
place_of_child tree directory name number whole found =
    let stands : Stands tree.rows number (at directory name) = stands_in tree (at directory name) number whole (found_child tree.rows directory name number (is_directory (node_at tree.rows directory)) refl found) in
    ap (option_map (λ (node : Node). node.place)) stands.found ∙ ap (λ (p : Place). Some p) stands.there

-- the number of a child that is found
number_of_child : (found : Option ℕ) (child : NodeId) → Some child ≡ option_number found → found ≡ Some child.0
number_of_child None child answer = absurd (none-some child (sym answer))
number_of_child (Some number) child answer = ap (λ (node : NodeId). Some node.0) (sym (same_Some child _ answer))

-- a node hangs where it is found
pub spot_is : (tree : FileTree) (directory : ℕ) (name : List ℕ) (number : ℕ) (child : NodeId) → IsTree tree → Some child ≡ option_number (child_of tree.rows directory name) → nat_eq child.0 number ≡ true →
    place_at tree.rows number ≡ Some (at directory name)
spot_is tree directory name number child whole answer same =
    subst (λ (n : ℕ). place_at tree.rows n ≡ Some (at directory name)) (eqb-true child.0 number same) (place_of_child tree directory name child.0 whole (number_of_child (child_of tree.rows directory name) child answer))

-- ---- the way up

abbrev pub after : List (List ℕ) → Option (List (List ℕ)) → Option (List (List ℕ))
after names above = option_map (λ others. names ++ others) above

pub after_none : (above : Option (List (List ℕ))) → above ≡ after [] above
after_none None = refl
after_none (Some names) = refl

after_name : (names : List (List ℕ)) (name : List ℕ) (above : Option (List (List ℕ))) → after names (with_name name above) ≡ after (names ++ name ∷ []) above
after_name names name None = refl
after_name names name (Some others) = ap (λ (ns : List (List ℕ)). Some ns) (sym (append_assoc names (name ∷ []) others))

-- at the root
pub names_at_root : (rows : Nodes) (steps number : ℕ) → 0 < steps → number ≡ root_number → names_above rows steps number ≡ Some []
names_at_root rows zero number some is = absurd (omega (arith, some))
names_at_root rows (suc steps) number some is = cond-true (number == root_number) (Some []) (names_from (place_at rows number) (names_above rows steps)) (subst (λ (n : ℕ). (n == root_number) ≡ true) (sym is) refl)

-- at another node
pub names_below_root : (rows : Nodes) (steps left number : ℕ) → steps ≡ suc left → (number == root_number) ≡ false → names_above rows steps number ≡ names_from (place_at rows number) (names_above rows left)
names_below_root rows steps left number is other =
    ap (λ (n : ℕ). names_above rows n number) is ∙ cond-false (number == root_number) (Some []) (names_from (place_at rows number) (names_above rows left)) other

-- one more name
pub one_up : (rows : Nodes) (steps left number directory : ℕ) (name : List ℕ) (names : List (List ℕ)) → steps ≡ suc left → (number == root_number) ≡ false → place_at rows number ≡ Some (at directory name) →
    after names (names_above rows steps number) ≡ after (names ++ name ∷ []) (names_above rows left directory)
one_up rows steps left number directory name names is other hangs =
    ap (after names) (names_below_root rows steps left number is other ∙ ap (λ (p : Option Place). names_from p (names_above rows left)) hangs)
    ∙ after_name names name (names_above rows left directory)

-- a node that is not there
pub none_up : (rows : Nodes) (steps left number : ℕ) (names : List (List ℕ)) → steps ≡ suc left → (number == root_number) ≡ false → place_at rows number ≡ None → after names (names_above rows steps number) ≡ None
none_up rows steps left number names is other gone =
    ap (after names) (names_below_root rows steps left number is other ∙ ap (λ (p : Option Place). names_from p (names_above rows left)) gone)

-- the root was met
pub path_met : (rows : Nodes) (steps number : ℕ) (names : List (List ℕ)) → 0 < steps → number ≡ root_number → after names (names_above rows steps number) ≡ Some names
path_met rows steps number names some is = ap (after names) (names_at_root rows steps number some is) ∙ ap (λ (ns : List (List ℕ)). Some ns) (append-nil names)

-- no steps are left
pub out_of_steps : (rows : Nodes) (steps number : ℕ) (names : List (List ℕ)) → steps ≡ 0 → after names (names_above rows steps number) ≡ None
out_of_steps rows steps number names is = ap (λ (n : ℕ). after names (names_above rows n number)) is
