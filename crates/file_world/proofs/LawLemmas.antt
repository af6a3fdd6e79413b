-- The laws of the definitions.
use Rattle.std.proofs.Common.{◌≡◌, ◌≢◌, ℕ, zero, suc, ◌+◌, ◌-◌, ◌≤◌, inl, inr, Bool, true, false, cond, IsSome, is_some, Option, Some, None, unwrap_or, List, [], ◌∷◌, ◌++◌, length, map, take, drop, replicate, min, refl, sym, ap, ap₂, ◌∙◌, subst, arith, nat_eq, nat_cmp, bytes_eq, append_assoc, length-append, length-take}
use Rattle.std.specs.List.{IsDistinct, list_any, AllByRecursion}
use Rattle.std.specs.List.Sorted.{IsStrictlySortedBy}
use Rattle.std.specs.Map.{lookup, keys_of}
use Rattle.std.specs.BTreeMap.{is_at}
use Rattle.std.specs.Cmp.{nat_eq_equiv}
use Rattle.std.specs.Cmp.Lexicographic.{slice_cmp}
use Rattle.std.proofs.lemmas.Bool.{cond-true, cond-false, false≢true, true≢false, eq-eqb, ne_eqb, eqb-true, eqb-false, cases_eq, not_from_false, not-true, not-false, or_cases, or_parts, false_from_ne_true}
use Rattle.std.proofs.lemmas.List.{length-replicate, take_at, drop_at}
use Rattle.std.proofs.lemmas.Map.Steps.{length-le_from_keys}
use Rattle.std.proofs.lemmas.Map.Text.{is_eq-slice_cmp}
use Rattle.std.proofs.lemmas.Option.{none-some, same_Some}
use Rattle.file_world.specs.declared.operation.TreeOp.TheVariants as on_tree
use Rattle.file_world.specs.declared.operation.Op.TheVariants.{Rename}
use Rattle.file_world.specs.declared.refusal.Refusal.{Refusal}
use Rattle.file_world.specs.declared.reply.NamedNode.{NamedNode}
use Rattle.file_world.specs.Limits.{root_number}
use Rattle.file_world.specs.Outcome.{Tests, first_of, NoneHolds, IsFirst, Outcome, refused, replied, outcome}
use Rattle.file_world.specs.Tree.{Place, Node, Nodes, FileTree, node_at, number_at, ReachesRoot, at_root, below, root, IsTree}
use Rattle.file_world.specs.TreeEffect.{at, names_in, is_directory, has_way_past, has_way_on, write_at, tree_refusal, tree_reply, tree_after, tests_of, revise}
use Rattle.file_world.specs.Attributes.{AreMarks}
use Rattle.file_world.specs.AttributeEffect.{meta_refusal, meta_reply, marks_after}
use Rattle.file_world.specs.World.{World, tree_of}
use Rattle.file_world.specs.Effect.{Part, tree_part, meta_part, part_of, tests_in, refusal_in, refusal, reply, world_after, item_with_place}
use Rattle.file_world.specs.Laws.{TreesStayTrees, StandsIn, itself, below_it, WalksAreLongEnough, NamesAreChildren, RefusalsComeInOrder, NumbersAreUsedOnce, MarksStayMarks, HalvesFollow, MarksChangeAlone, FreshIsWorld, RenamesKeepTheRest, WritesAreReadBack}
use Rattle.file_world.proofs.RowLemmas.{split, cond_at_true, cond_at_false, lookup-revised_same, lookup-revised_other}
use Rattle.file_world.proofs.EffectLemmas.{none_hold, named_child, IsTree-after}
use Rattle.file_world.proofs.MarkLemmas.{AreMarks-after}
use Rattle.file_world.proofs.NumberLemmas.{KeepsNumbers, numbers-after, stays_gone}
use Rattle.file_world.proofs.HalvesLemmas.{tree_of-changed, marks_of-changed, tree_of-marked, marks_of-marked, item_from_node, IsWorld-fresh}
use Rattle.file_world.proofs.ListingLemmas.{pairs_of, names_found, names_sorted, order, found_in}

-- ---- outcomes

pub replied_parts : {A S : Type 0} (refusal : Option Refusal) (reply found : A) (state after : S) → outcome refusal reply state ≡ replied found after → (refusal ≡ None) × (state ≡ after)
replied_parts None reply found state after e = (refl, cc)
replied_parts (Some r) reply found state after e = absurd (no (r) e)
  where
    no : (q : Refusal) → refused q ≡ replied found after → ⊥
    no q h = cc

pub trees_stay_trees : TreesStayTrees
trees_stay_trees tree after op found is e =
    let parts = replied_parts (tree_refusal tree op) (tree_reply tree op) found (tree_after tree op) after e in
    subst IsTree parts.1 (IsTree-after tree op is parts.0)

first_from : (tests : Tests) (refusal : Refusal) → first_of tests ≡ Some refusal → IsFirst tests refusal
first_from [] refusal e = absurd (none-some _ e)
first_from (test ∷ tests) refusal e =
    split test.0
    (λ t. let same : test ≡ (true, refusal) = ap₂ (λ (b : Bool) (r : Refusal). (b, r)) t (same_Some _ _ (cond_at_true test.0 _ _ _ t e)) in
    record { earlier = []; later = tests; whole = ap (λ (first : Bool × Refusal). first ∷ tests) same; none_earlier = tt })
    (λ f. let rest = first_from tests refusal (cond_at_false test.0 _ _ _ f e) in
    record { earlier = test ∷ rest.earlier; later = rest.later; whole = ap (λ (others : Tests). test ∷ others) rest.whole; none_earlier = (f, rest.none_earlier) })

first_after : (earlier later : Tests) (refusal : Refusal) → NoneHolds earlier → first_of (earlier ++ (true, refusal) ∷ later) ≡ Some refusal
first_after [] later refusal none = refl
first_after (test ∷ earlier) later refusal none = cond-false test.0 _ _ none.0 ∙ first_after earlier later refusal none.1

none_first : (tests : Tests) → NoneHolds tests → first_of tests ≡ None
none_first [] none = refl
none_first (test ∷ tests) none = cond-false test.0 _ _ none.0 ∙ none_first tests none.1

not_refused : {A S : Type 0} (answer : A) (state : S) (found : Refusal) → replied answer state ≡ refused found → ⊥
not_refused answer state found e = cc

same_refusal : {A S : Type 0} (first found : Refusal) → ◌≡◌ {A = Outcome A S} (refused first) (refused found) → first ≡ found
same_refusal first found e = cc

refused_part : {A S : Type 0} (first : Option Refusal) (answer : A) (state : S) (found : Refusal) → outcome first answer state ≡ refused found → first ≡ Some found
refused_part None answer state found e = absurd (not_refused answer state found e)
refused_part (Some first) answer state found e = ap (λ (r : Refusal). Some r) (same_refusal first found e)

tests_first : (world : World) (part : Part) → refusal_in world part ≡ first_of (tests_in world part)
tests_first world (tree_part op) = refl
tests_first world (meta_part op) = refl

pub refusals_come_in_order : RefusalsComeInOrder
refusals_come_in_order caller op world =
    let tests = tests_in world (part_of op) in
    let first = tests_first world (part_of op) in (
      λ found. (
        λ e. first_from tests found (sym first ∙ refused_part (refusal world op) (reply world op) (world_after caller world op) found e),
        λ is. ap (λ (r : Option Refusal). outcome r (reply world op) (world_after caller world op)) (first ∙ (ap first_of is.whole ∙ first_after is.earlier is.later found is.none_earlier)),
      ),
      (
        λ e. none_hold tests (sym first ∙ (replied_parts (refusal world op) (reply world op) (reply world op) (world_after caller world op) (world_after caller world op) e).0),
        λ none. ap (λ (r : Option Refusal). outcome r (reply world op) (world_after caller world op)) (first ∙ none_first tests none),
      ),
    )

-- ---- numbers, marks, and the halves of a world

pub numbers_are_used_once : NumbersAreUsedOnce
numbers_are_used_once caller op world after found e =
    let parts = replied_parts (refusal world op) (reply world op) found (world_after caller world op) after e in
    let keeps : KeepsNumbers world after = subst (KeepsNumbers world) parts.1 (numbers-after caller world (part_of op)) in
    (keeps.rises, keeps.used, stays_gone world after keeps)

pub marks_stay_marks : MarksStayMarks
marks_stay_marks marks after op found are fit askable e =
    let parts = replied_parts (meta_refusal marks op) (meta_reply marks op) found (marks_after marks op) after e in
    subst AreMarks parts.1 (AreMarks-after marks op are fit askable parts.0)

pub halves_follow : HalvesFollow
halves_follow caller change world is = (tree_of-changed caller change world, marks_of-changed caller change world is)

pub marks_change_alone : MarksChangeAlone
marks_change_alone op world direct = (tree_of-marked op world, marks_of-marked op world direct)

pub fresh_is_world : FreshIsWorld
fresh_is_world = (IsWorld-fresh, refl, refl)

-- ---- the walk to the root

-- the numbers on the way from a node to the root
data Path (rows : Nodes) : ℕ → List ℕ → Type 0 where
  ends : Path rows root_number (root_number ∷ [])
  goes : (number : ℕ) (node : Node) (rest : List ℕ) → node_at rows number ≡ Some node → number ≢ 1 → Path rows node.place.directory rest → Path rows number (number ∷ rest)

path_from : (rows : Nodes) (number : ℕ) → ReachesRoot rows number → (numbers : List ℕ) × Path rows number numbers
path_from rows number at_root = (1 ∷ [], ends)
path_from rows number (below _ node found directory held kind up) =
    let rest = path_from rows node.place.directory up in
    elim (cases_eq number 1) [
      | inl one ↦ (1 ∷ [], subst (λ (n : ℕ). Path rows n (1 ∷ [])) (sym one) ends)
      | inr other ↦ (number ∷ rest.0, goes number node rest.0 found other rest.1)
    ]

-- there is one way
one_path : (rows : Nodes) (number : ℕ) (xs ys : List ℕ) → Path rows number xs → Path rows number ys → xs ≡ ys
one_path rows number xs ys ends p = root_path ys p refl
  where
    root_path : (zs : List ℕ) {n : ℕ} → Path rows n zs → n ≡ 1 → (1 ∷ []) ≡ zs
    root_path zs ends e = refl
    root_path zs (goes _ node rest found other up) e = absurd (other e)
one_path rows number xs ys (goes _ node rest found other up) p =
    by ys p refl (λ zs q. one_path rows node.place.directory rest zs up q)
  where
    by : (zs : List ℕ) {n : ℕ} → Path rows n zs → n ≡ number → ((ws : List ℕ) → Path rows node.place.directory ws → rest ≡ ws) → (number ∷ rest) ≡ zs
    by zs ends e further = absurd (other (sym e))
    by zs (goes n node2 rest2 found2 other2 up2) e further =
        let same : node2 ≡ node = same_Some _ _ (sym found2 ∙ (ap (node_at rows) e ∙ found)) in
        let tails : rest ≡ rest2 = further rest2 (subst (λ (m : Node). Path rows m.place.directory rest2) same up2) in
        ap₂ (λ (n1 : ℕ) (ns : List ℕ). n1 ∷ ns) (sym e) tails

-- each number on the way has the rest of the way
way_on : (rows : Nodes) (number : ℕ) (xs : List ℕ) → Path rows number xs → (other : ℕ) → list_any (nat_eq other) xs ≡ true → (ys : List ℕ) × Path rows other ys × (length ys ≤ length xs)
way_on rows number xs ends other e =
    elim (or_cases (nat_eq other 1) false e) [
      | inl h ↦ (1 ∷ [], subst (λ (n : ℕ). Path rows n (1 ∷ [])) (sym (eqb-true other 1 h)) ends, omega arith)
      | inr h ↦ absurd (false≢true h)
    ]
way_on rows number xs (goes _ node rest found apart up) other e =
    let further = λ (h : list_any (nat_eq other) rest ≡ true). way_on rows node.place.directory rest up other h in
    elim (or_cases (nat_eq other number) (list_any (nat_eq other) rest) e) [
      | inl h ↦ (number ∷ rest, subst (λ (n : ℕ). Path rows n (number ∷ rest)) (sym (eqb-true other number h)) (goes number node rest found apart up), omega arith)
      | inr h ↦ let w = further h in (w.0, w.1, (let le = w.2 in omega (arith, le)))
    ]

-- each number on the way is a node's
on_the_way : (rows : Nodes) (number : ℕ) (xs : List ℕ) → IsSome (node_at rows root_number) → Path rows number xs → (other : ℕ) → list_any (nat_eq other) xs ≡ true → IsSome (node_at rows other)
on_the_way rows number xs top path other e =
    let w = way_on rows number xs path other e in by w.1
  where
    by : {n : ℕ} {ys : List ℕ} → Path rows n ys → IsSome (node_at rows n)
    by ends = top
    by (goes n node rest found apart up) = ap is_some found

all_apart : (number : ℕ) (xs : List ℕ) → list_any (nat_eq number) xs ≡ false → AllByRecursion (λ other. nat_eq number other ≡ false) xs
all_apart number [] e = tt
all_apart number (x ∷ xs) e = let parts = or_parts (nat_eq number x) (list_any (nat_eq number) xs) e in (parts.0, all_apart number xs parts.1)

distinct_nil : IsDistinct nat_eq []
unfolding IsDistinct
distinct_nil = tt

distinct_cons : (x : ℕ) (xs : List ℕ) → AllByRecursion (λ other. nat_eq x other ≡ false) xs → IsDistinct nat_eq xs → IsDistinct nat_eq (x ∷ xs)
unfolding IsDistinct
distinct_cons x xs apart rest = (apart, rest)

distinct_path : (rows : Nodes) (number : ℕ) (xs : List ℕ) → Path rows number xs → IsDistinct nat_eq xs
distinct_path rows number xs ends = distinct_cons 1 [] tt distinct_nil
distinct_path rows number xs (goes _ node rest found apart up) =
    distinct_cons number rest
    (all_apart number rest (false_from_ne_true (list_any (nat_eq number) rest)
    (λ t. let w = way_on rows node.place.directory rest up number t in
    let same : w.0 ≡ number ∷ rest = one_path rows number w.0 (number ∷ rest) w.1 (goes number node rest found apart up) in
    let le = w.2 in let len = ap length same in omega (arith, le, len))))
    (distinct_path rows node.place.directory rest up)

-- the way is no longer than the tree
way_fits : (tree : FileTree) (number : ℕ) (xs : List ℕ) → IsTree tree → Path tree.rows number xs → length xs ≤ length tree.rows
way_fits tree number xs is path =
    length-le_from_keys nat_eq_equiv xs tree.rows (distinct_path tree.rows number xs path) (on_the_way tree.rows number xs (ap is_some is.has_root) path)

-- a walk that is long enough passes what is not on the way
walk_past : (rows : Nodes) (avoided number : ℕ) (xs : List ℕ) → Path rows number xs → (steps : ℕ) → length xs ≤ steps → list_any (nat_eq avoided) xs ≡ false → has_way_past steps rows avoided number ≡ true
walk_past rows avoided number xs ends zero fits e = absurd (omega (arith, fits))
walk_past rows avoided number xs ends (suc steps) fits e =
    let parts = or_parts (nat_eq avoided 1) false e in
    cond-false (nat_eq 1 avoided) false true (ne_eqb 1 avoided (λ h. eqb-false avoided 1 parts.0 (sym h)))
walk_past rows avoided number xs (goes _ node rest found apart up) zero fits e = absurd (omega (arith, fits))
walk_past rows avoided number xs (goes _ node rest found apart up) (suc steps) fits e =
    let parts = or_parts (nat_eq avoided number) (list_any (nat_eq avoided) rest) e in
    cond-false (nat_eq number avoided) _ _ (ne_eqb number avoided (λ h. eqb-false avoided number parts.0 (sym h)))
    ∙ (cond-false (nat_eq number 1) _ _ (ne_eqb number 1 apart)
    ∙ (ap (λ (n : Option Node). has_way_on n (has_way_past steps rows avoided)) found
    ∙ walk_past rows avoided node.place.directory rest up steps (omega (arith, fits)) parts.1))

-- what is on the way contains what the way begins at
stands_on_way : (rows : Nodes) (container number : ℕ) (xs : List ℕ) → Path rows number xs → list_any (nat_eq container) xs ≡ true → StandsIn rows container number
stands_on_way rows container number xs ends e =
    elim (or_cases (nat_eq container 1) false e) [
      | inl h ↦ subst (λ (n : ℕ). StandsIn rows n 1) (sym (eqb-true container 1 h)) itself
      | inr h ↦ absurd (false≢true h)
    ]
stands_on_way rows container number xs (goes _ node rest found apart up) e =
    let further = λ (h : list_any (nat_eq container) rest ≡ true). stands_on_way rows container node.place.directory rest up h in
    elim (or_cases (nat_eq container number) (list_any (nat_eq container) rest) e) [
      | inl h ↦ subst (λ (n : ℕ). StandsIn rows n number) (sym (eqb-true container number h)) itself
      | inr h ↦ below_it number node found (further h)
    ]

-- nothing stands in another node than the root without the root's standing apart
not_in_nothing : (tree : FileTree) (container : ℕ) → IsTree tree → 1 ≤ container → {n : ℕ} → StandsIn tree.rows container n → n ≡ 0 → ⊥
not_in_nothing tree container is above itself e = omega (arith, above, e)
not_in_nothing tree container is above (below_it number node found up) e =
    let one : 1 ≤ number = (is.sound number node found).above_zero in omega (arith, one, e)

-- a walk does not pass what contains its beginning
walk_stopped : (tree : FileTree) (container : ℕ) → IsTree tree → 1 ≤ container → (steps : ℕ) (number : ℕ) → StandsIn tree.rows container number → has_way_past steps tree.rows container number ≡ false
walk_stopped tree container is above zero number stands = refl
walk_stopped tree container is above (suc steps) number itself = cond-true (nat_eq container container) _ _ (eq-eqb container container refl)
walk_stopped tree container is above (suc steps) number (below_it _ node found up) =
    let further = walk_stopped tree container is above steps node.place.directory up in
    split (nat_eq number container)
    (λ t. cond-true (nat_eq number container) _ _ t)
    (λ f. cond-false (nat_eq number container) _ _ f
    ∙ split (nat_eq number 1)
    (λ t. let root_is : root ≡ node = same_Some _ _ (sym is.has_root ∙ (ap (node_at tree.rows) (sym (eqb-true number 1 t)) ∙ found)) in
    absurd (not_in_nothing tree container is above up (sym (ap (λ (n : Node). n.place.directory) root_is))))
    (λ g. cond-false (nat_eq number 1) _ _ g ∙ (ap (λ (n : Option Node). has_way_on n (has_way_past steps tree.rows container)) found ∙ further)))

node_from : (rows : Nodes) (number : ℕ) → IsSome (node_at rows number) → (node : Node) × (node_at rows number ≡ Some node)
node_from rows number some = by (node_at rows number) refl
  where
    by : (found : Option Node) → node_at rows number ≡ found → (node : Node) × (node_at rows number ≡ Some node)
    by None h = absurd (false≢true (sym (ap is_some h) ∙ some))
    by (Some node) h = (node, h)

pub walks_are_long_enough : WalksAreLongEnough
walks_are_long_enough tree container number is there here =
    let node = node_from tree.rows number here in
    let holder = node_from tree.rows container there in
    let path = path_from tree.rows number (is.sound number node.0 node.1).reached in
    let fits = way_fits tree number path.0 is path.1 in (
      λ t. split (list_any (nat_eq container) path.0)
          (λ on. stands_on_way tree.rows container number path.0 path.1 on)
          (λ off. absurd (true≢false (sym (walk_past tree.rows container number path.0 path.1 (length tree.rows) fits off) ∙ not-true _ t))),
      λ stands. not_from_false (has_way_past (length tree.rows) tree.rows container number) (walk_stopped tree container is (is.sound container holder.0 holder.1).above_zero (length tree.rows) number stands),
    )

-- ---- the names in a directory

names_of_pairs : (names : List NamedNode) → keys_of (pairs_of names) ≡ map (λ named. named.name) names
names_of_pairs [] = refl
names_of_pairs (first ∷ others) = ap (λ (rest : List (List ℕ)). first.name ∷ rest) (names_of_pairs others)

same_lookup : (pairs : List (List ℕ × ℕ)) (name : List ℕ) → lookup (bytes_eq name) pairs ≡ found_in pairs name
same_lookup [] name = refl
same_lookup (pair ∷ pairs) name =
    ap (λ (b : Bool). cond b (Some pair.1) (lookup (bytes_eq name) pairs)) (sym (is_eq-slice_cmp name pair.0))
    ∙ ap (λ (rest : Option ℕ). cond (is_at (order name) pair.0) (Some pair.1) rest) (same_lookup pairs name)

pub names_are_children : NamesAreChildren
names_are_children tree directory is holds = (
  subst (IsStrictlySortedBy (slice_cmp nat_cmp)) (names_of_pairs (names_in tree.rows directory)) (names_sorted tree.rows directory is.places_differ),
  λ name. same_lookup (pairs_of (names_in tree.rows directory)) name ∙ (names_found tree.rows directory is.places_differ name ∙ sym (cond-true (is_directory (node_at tree.rows directory)) (number_at tree.rows (at directory name)) None holds)),
)

-- ---- a rename

pub renames_keep_the_rest : RenamesKeepTheRest
renames_keep_the_rest caller directory target name renamed world after found is e =
    let tree = tree_of world in
    let parts = replied_parts (refusal world (Rename directory name target renamed)) (reply world (Rename directory name target renamed)) found (world_after caller world (Rename directory name target renamed)) after e in
    let h = none_hold (tests_of tree (on_tree.Rename directory name target renamed)) parts.0 in
    let child = named_child tree directory.0 name is.tree (not-false _ h.1.0) h.1.1.1.1.1.1.0 in
    let item = item_from_node world child.child child.stands.node child.stands.found in
    let place : Place = at target.0 renamed in
    let rows : after.rows ≡ revise child.child (item_with_place place) world.rows =
    ap (λ (w : World). w.rows) (sym parts.1) ∙ ap (λ (n : Option ℕ). revise (unwrap_or n 0) (item_with_place place) world.rows) child.is_child in (
      child.child,
      item.0,
      child.is_child,
      item.1,
      ap (lookup (nat_eq child.child)) rows ∙ lookup-revised_same child.child (item_with_place place) world.rows item.0 item.1,
      λ other apart. ap (lookup (nat_eq other)) rows ∙ lookup-revised_other child.child other (item_with_place place) world.rows apart,
      ap (λ (w : World). w.next) (sym parts.1),
    )

-- ---- a write

pub writes_are_read_back : WritesAreReadBack
writes_are_read_back old [] offset some = absurd (omega (arith, some))
writes_are_read_back old (byte ∷ bytes) offset some =
    let more : List ℕ = byte ∷ bytes in
    let front : List ℕ = take offset old ++ replicate (offset - length old) 0 in
    let rest : List ℕ = drop (offset + length more) old in
    let len : length front ≡ offset =
    (let a = length-append (take offset old) (replicate (offset - length old) 0) in
    let b = length-replicate {A = ℕ} (offset - length old) 0 in
    let d : length (take offset old) ≡ min offset (length old) = length-take offset old in omega (arith, a, b, d)) in
    let whole : write_at old offset more ≡ front ++ (more ++ rest) = append_assoc front more rest in
    let behind : drop offset (write_at old offset more) ≡ more ++ rest = ap (drop offset) whole ∙ drop_at front (more ++ rest) offset len in
    let all : length (front ++ more) ≡ offset + length more = (let a = length-append front more in omega (arith, a, len)) in (
      ap (take (length more)) behind ∙ take_at more rest (length more) refl,
      ap (take offset) whole ∙ take_at front (more ++ rest) offset len,
      drop_at (front ++ more) rest (offset + length more) all,
    )
