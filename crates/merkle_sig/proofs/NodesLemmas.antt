-- The nodes of a tree in one list.
use Rattle.std.proofs.Common.{◌≡◌, ◌≢◌, ℕ, zero, suc, ◌+◌, ◌-◌, ◌*◌, ◌/◌, ◌%◌, ◌^◌, ◌<◌, ◌≤◌, List, [], length, get_or, sym, ap, ap₂, subst, ◌∙◌, inl, inr, arith, below_more, get_or-set_other, get_or-set_same}
use Rattle.std.proofs.Math.ListN.{set}
use Rattle.std.proofs.Math.Nat.{div-one, two-pow-succ}
use Rattle.std.proofs.Math.Pow.{pow_mono}
use Rattle.std.proofs.lemmas.Bool.{cases_eq, cond-false, cond-true, eq-eqb, ne_eqb}
use Rattle.std.proofs.lemmas.Nat.{pow_pos, shr_below, shr-shr}
use Rattle.bl_syntax.specs.declared.limits.TheConstants.{HIGHEST_TREE}
use Rattle.merkle_sig.specs.HashTree.{node, parent}
use Rattle.merkle_sig.specs.Signature.{beside}
use Rattle.merkle_sig.specs.Nodes.{AreLeaves, AreParents, IsTree}

-- one leaf more
pub AreLeaves-set : (seed : List ℕ) (width n : ℕ) (nodes : List (List ℕ)) (leaf : List ℕ) → width + n < length nodes → leaf ≡ node seed 0 n → AreLeaves seed width nodes n
    → AreLeaves seed width (set nodes (width + n) leaf) (n + 1)
AreLeaves-set seed width n nodes leaf room is_leaf are =
    below_more _ _
    (λ k h. let ne : width + k ≢ width + n = omega arith in get_or-set_other nodes (width + n) (width + k) leaf [] ne ∙ are k h)
    (get_or-set_same nodes (width + n) leaf [] room ∙ is_leaf)

-- one node more over two
module _ (width place from : ℕ) (nodes : List (List ℕ)) (new : List ℕ) (before : from + 1 ≡ place) (room : place < length nodes)
    (is_new : new ≡ parent (get_or nodes (2 * place) []) (get_or nodes (2 * place + 1) [])) (are : AreParents width place nodes) where
  under : (n : ℕ) → place ≤ n → parent (get_or nodes (2 * n) []) (get_or nodes (2 * n + 1) []) ≡ parent (get_or (set nodes place new) (2 * n) []) (get_or (set nodes place new) (2 * n + 1) [])
  under n high =
      let left : 2 * n ≢ place = omega arith in
      let right : 2 * n + 1 ≢ place = omega arith in
      sym (ap₂ parent (get_or-set_other nodes place (2 * n) new [] left) (get_or-set_other nodes place (2 * n + 1) new [] right))

  here : (n : ℕ) → n ≡ place → get_or (set nodes place new) n [] ≡ parent (get_or nodes (2 * n) []) (get_or nodes (2 * n + 1) [])
  here n is =
      subst (λ (k : ℕ). get_or (set nodes place new) k [] ≡ parent (get_or nodes (2 * k) []) (get_or nodes (2 * k + 1) [])) (sym is)
      (get_or-set_same nodes place new [] room ∙ is_new)

  further : (n : ℕ) → from < n → n < width → (n ≡ place → ⊥) → get_or (set nodes place new) n [] ≡ parent (get_or nodes (2 * n) []) (get_or nodes (2 * n + 1) [])
  further n low high ne = get_or-set_other nodes place n new [] ne ∙ are n (omega arith) high

  pub AreParents-set : AreParents width from (set nodes place new)
  AreParents-set n low high =
      elim (cases_eq n place) [ inl is ↦ here n is | inr ne ↦ further n low high ne ] ∙ under n (omega arith)

-- all leaves and all nodes over two are the tree
module _ (seed : List ℕ) (height : ℕ) (nodes : List (List ℕ)) (leaves : AreLeaves seed (2 ^ height) nodes (2 ^ height)) (parents : AreParents (2 ^ height) 0 nodes) where
  node_at : (level width place : ℕ) → level + width ≡ height → place < 2 ^ width → get_or nodes (2 ^ width + place) [] ≡ node seed level place
  unfolding node
  node_at zero width place top below =
      let same : width ≡ height = omega arith in
      subst (λ (w : ℕ). place < 2 ^ w → get_or nodes (2 ^ w + place) [] ≡ node seed 0 place) (sym same) (leaves place) below
  node_at (suc level) width place top below =
      let double = two-pow-succ width in
      let positive = pow_pos width in
      let within : 2 ^ suc width ≤ 2 ^ height = pow_mono (omega arith) in
      let n = 2 ^ width + place in
      let first : 2 ^ suc width + 2 * place ≡ 2 * n = omega arith in
      let second : 2 ^ suc width + (2 * place + 1) ≡ 2 * n + 1 = omega arith in
      let left = node_at level (suc width) (2 * place) (omega arith) (omega arith) in
      let right = node_at level (suc width) (2 * place + 1) (omega arith) (omega arith) in
      parents n (omega arith) (omega arith)
      ∙ ap₂ parent (ap (λ i. get_or nodes i []) (sym first) ∙ left) (ap (λ i. get_or nodes i []) (sym second) ∙ right)

  pub IsTree-from : length nodes ≡ 512 → IsTree seed height nodes
  IsTree-from whole = record {
    whole = whole;
    at = λ level place low below. node_at level (height - level) place (omega arith) below;
  }

-- ---- the places beside the way of a leaf

pub beside-even : (place : ℕ) → place % 2 ≡ 0 → beside place ≡ place + 1
beside-even place even = cond-true _ _ _ (eq-eqb _ _ even)

pub beside-odd : (place : ℕ) → (place % 2 ≡ 0 → ⊥) → beside place ≡ place - 1
beside-odd place odd = cond-false _ _ _ (ne_eqb _ _ odd)

-- beside a place past an even number
beside-past : (half place : ℕ) → beside (2 * half + place) ≡ 2 * half + beside place
beside-past half place =
    elim (cases_eq (place % 2) 0) [
      | inl even ↦ let is = beside-even place even in beside-even (2 * half + place) (omega arith) ∙ omega (arith, is)
      | inr odd ↦ let is = beside-odd place odd in beside-odd (2 * half + place) (omega arith) ∙ omega (arith, is)
    ]

-- beside a place below an even number
beside-below : (half place : ℕ) → place < 2 * half → beside place < 2 * half
beside-below half place below =
    elim (cases_eq (place % 2) 0) [
      | inl even ↦ let is = beside-even place even in omega (arith, is)
      | inr odd ↦ let is = beside-odd place odd in omega (arith, is)
    ]

-- the place of a node on the way of a leaf
abbrev pub IsOnWay : ℕ → ℕ → ℕ → ℕ → Type 0
IsOnWay height leaf level place = place ≡ 2 ^ (height - level) + leaf / 2 ^ level

module _ (seed : List ℕ) (height leaf level place : ℕ) (nodes : List (List ℕ)) (tree : IsTree seed height nodes) (leaf_in : leaf < 2 ^ height) (low : level < height) (on_way : IsOnWay height leaf level place) where
  half : ℕ
  half = 2 ^ (height - (level + 1))

  halves : 2 ^ (height - level) ≡ 2 * half
  unfolding half
  halves =
      let up : height - level ≡ suc (height - (level + 1)) = omega arith in
      let double = two-pow-succ (height - (level + 1)) in
      ap (λ (k : ℕ). 2 ^ k) up ∙ omega (arith, double)

  way_below : leaf / 2 ^ level < 2 ^ (height - level)
  way_below =
      let whole : height ≡ (height - level) + level = omega arith in
      shr_below leaf (height - level) level (subst (λ (k : ℕ). leaf < 2 ^ k) whole leaf_in)

  beside_is : beside place ≡ 2 ^ (height - level) + beside (leaf / 2 ^ level)
  beside_is =
      ap (λ (p : ℕ). beside p) (on_way ∙ ap (λ (k : ℕ). k + leaf / 2 ^ level) halves)
      ∙ beside-past half (leaf / 2 ^ level) ∙ ap (λ (k : ℕ). k + beside (leaf / 2 ^ level)) (sym halves)

  beside_in : beside (leaf / 2 ^ level) < 2 ^ (height - level)
  beside_in = subst (λ (k : ℕ). beside (leaf / 2 ^ level) < k) (sym halves) (beside-below half _ (subst (λ (k : ℕ). leaf / 2 ^ level < k) halves way_below))

  -- the node beside the way
  pub node_beside : get_or nodes (beside place) [] ≡ node seed level (beside (leaf / 2 ^ level))
  node_beside = ap (λ (i : ℕ). get_or nodes i []) beside_is ∙ tree.at level (beside (leaf / 2 ^ level)) (omega arith) beside_in

  -- which is one of the 512
  pub beside_within : height ≤ HIGHEST_TREE → beside place < 512
  beside_within small =
      let most : 2 ^ (height - level) ≤ 2 ^ 8 = pow_mono {j = 8} (omega arith) in
      omega (arith, beside_is, beside_in, most)

  -- the way one level up
  pub up_the_way : IsOnWay height leaf (level + 1) (place / 2)
  up_the_way =
      let split : place ≡ 2 * half + leaf / 2 ^ level = on_way ∙ ap (λ (k : ℕ). k + leaf / 2 ^ level) halves in
      let halved : place / 2 ≡ half + leaf / 2 ^ level / 2 = omega (arith, split) in
      halved ∙ unfold half in (ap (λ (k : ℕ). 2 ^ (height - (level + 1)) + k) (shr-shr leaf level 1))

-- the way of a leaf begins after the leaves' places
pub way_first : (height leaf place : ℕ) → place ≡ 2 ^ height + leaf → IsOnWay height leaf 0 place
way_first height leaf place is =
    let whole : height ≡ height - 0 = omega arith in
    is ∙ ap₂ (λ (k q : ℕ). 2 ^ k + q) whole (sym (div-one leaf))
