-- The root of a tree accepts the signature of each of its leaves.
use Rattle.std.proofs.Common.{◌≡◌, ℕ, zero, suc, ◌+◌, ◌-◌, ◌*◌, ◌/◌, ◌%◌, ◌^◌, ◌<◌, ◌≤◌, List, [], ◌++◌, length, take, true, refl, sym, ap, ap₂, subst, ◌∙◌, inl, inr, arith, add-one, length-append}
use Rattle.std.specs.Int.{w32, from_be_bytes, to_be_bytes}
use Rattle.std.proofs.Math.Nat.{div-one}
use Rattle.std.proofs.lemmas.Bool.{cases_eq, cases_lt, lt-ltb}
use Rattle.std.proofs.lemmas.List.{append-nil, append_assoc, drop_at, take_at}
use Rattle.std.proofs.lemmas.Nat.{from_be_bytes-to_be_bytes_4, shr-shr}
use Rattle.std.proofs.lemmas.Slice.Eq.{bytes_eq-Decides}
use Rattle.merkle_sig.specs.HashTree.{leaf_over, node, parent, public_pair, public_pairs, public_value, root_of, secret}
use Rattle.merkle_sig.specs.Laws.{RootAcceptsLeaves}
use Rattle.merkle_sig.specs.Signature.{accepts_root, beside, bit_of, climb, digest_at, leaf_number, message_digest, over, pair_from, pairs_from, shown, shown_bits, shown_part, siblings, signature_length, signature_of, way_part}
use Rattle.merkle_sig.proofs.LengthLemmas.{digest_at-append, digest_at-next, length-node, length-public_value, length-secret, length-shown_bits, length-siblings, middle}
use Rattle.merkle_sig.proofs.NodesLemmas.{beside-even, beside-odd}
use Rattle.merkle_sig.proofs.StepLemmas.{above_none, decides_by_root, over-even, over-odd, reaches}

-- ---- what is shown gives the leaf back

module _ (seed : List ℕ) (leaf : ℕ) (digest : List ℕ) where
  abbrev own : ℕ → List ℕ
  own n = secret seed leaf n (bit_of digest n)

  abbrev other : ℕ → List ℕ
  other n = public_value (secret seed leaf n (1 - bit_of digest n))

  own_next : (n : ℕ) → digest_at (shown_bits seed leaf digest (suc n)) (2 * n) ≡ own n
  unfolding shown_bits shown
  own_next n =
      let before = length-shown_bits seed leaf digest n in
      digest_at-next (shown_bits seed leaf digest n) (own n) (other n) (2 * n) (omega (arith, before)) (length-secret seed leaf n (bit_of digest n))

  own_at : (many n : ℕ) → n < many → digest_at (shown_bits seed leaf digest many) (2 * n) ≡ own n
  unfolding shown_bits
  own_at zero n below = absurd (omega arith)
  own_at (suc many) n below =
      let before = length-shown_bits seed leaf digest many in
      elim (cases_lt n many) [
        | inl earlier ↦ digest_at-append (shown_bits seed leaf digest many) (shown seed leaf many (bit_of digest many)) (2 * n) (omega (arith, before)) ∙ own_at many n earlier
        | inr last ↦ let same : many ≡ n = omega arith in subst (λ (k : ℕ). digest_at (shown_bits seed leaf digest (suc many)) (2 * k) ≡ own k) same (own_next many)
      ]

  other_next : (n : ℕ) → digest_at (shown_bits seed leaf digest (suc n)) (2 * n + 1) ≡ other n
  unfolding shown_bits shown
  other_next n =
      let before = length-shown_bits seed leaf digest n in
      let first = length-secret seed leaf n (bit_of digest n) in
      let front = length-append (shown_bits seed leaf digest n) (own n) in
      let whole : (shown_bits seed leaf digest n ++ own n) ++ (other n ++ []) ≡ shown_bits seed leaf digest n ++ (own n ++ other n) =
      ap (λ (xs : List ℕ). (shown_bits seed leaf digest n ++ own n) ++ xs) (append-nil (other n)) ∙ append_assoc (shown_bits seed leaf digest n) (own n) (other n) in
      ap (λ (xs : List ℕ). digest_at xs (2 * n + 1)) (sym whole)
      ∙ digest_at-next (shown_bits seed leaf digest n ++ own n) (other n) [] (2 * n + 1) (omega (arith, before, first, front)) (length-public_value (secret seed leaf n (1 - bit_of digest n)))

  other_at : (many n : ℕ) → n < many → digest_at (shown_bits seed leaf digest many) (2 * n + 1) ≡ other n
  unfolding shown_bits
  other_at zero n below = absurd (omega arith)
  other_at (suc many) n below =
      let before = length-shown_bits seed leaf digest many in
      elim (cases_lt n many) [
        | inl earlier ↦ digest_at-append (shown_bits seed leaf digest many) (shown seed leaf many (bit_of digest many)) (2 * n + 1) (omega (arith, before)) ∙ other_at many n earlier
        | inr last ↦ let same : many ≡ n = omega arith in subst (λ (k : ℕ). digest_at (shown_bits seed leaf digest (suc many)) (2 * k + 1) ≡ other k) same (other_next many)
      ]

  pair_is : (n value : ℕ) → value < 2 → pair_from value (secret seed leaf n value) (public_value (secret seed leaf n (1 - value))) ≡ public_pair seed leaf n
  unfolding public_pair
  pair_is n zero below = refl
  pair_is n (suc zero) below = refl
  pair_is n (suc (suc value)) below = absurd (omega arith)

  pub pairs_are : (many n : ℕ) → n ≤ many → pairs_from (shown_bits seed leaf digest many) digest n ≡ public_pairs seed leaf n
  unfolding pairs_from public_pairs
  pairs_are many zero below = refl
  pairs_are many (suc n) below =
      let here : pair_from (bit_of digest n) (own n) (other n) ≡ public_pair seed leaf n = pair_is n (bit_of digest n) (omega arith) in
      ap₂ (λ (a b : List ℕ). a ++ b) (pairs_are many n (omega arith))
      (ap₂ (pair_from (bit_of digest n)) (own_at many n (omega arith)) (other_at many n (omega arith)) ∙ here)

-- ---- the way leads to the root

over_even_node : (seed : List ℕ) (level place : ℕ) → place % 2 ≡ 0 → over place (node seed level place) (node seed level (beside place)) ≡ node seed (suc level) (place / 2)
unfolding node
over_even_node seed level place even =
    let here : place ≡ 2 * (place / 2) = omega arith in
    over-even place _ _ even ∙ ap₂ parent (ap (node seed level) here) (ap (node seed level) (beside-even place even ∙ ap (λ (k : ℕ). k + 1) here))

over_odd_node : (seed : List ℕ) (level place : ℕ) → (place % 2 ≡ 0 → ⊥) → over place (node seed level place) (node seed level (beside place)) ≡ node seed (suc level) (place / 2)
unfolding node
over_odd_node seed level place odd =
    let left : place - 1 ≡ 2 * (place / 2) = omega arith in
    let right : place ≡ 2 * (place / 2) + 1 = omega arith in
    over-odd place _ _ odd ∙ ap₂ parent (ap (node seed level) (beside-odd place odd ∙ left)) (ap (node seed level) right)

over_node : (seed : List ℕ) (level place : ℕ) → over place (node seed level place) (node seed level (beside place)) ≡ node seed (suc level) (place / 2)
over_node seed level place = elim (cases_eq (place % 2) 0) [ inl even ↦ over_even_node seed level place even | inr odd ↦ over_odd_node seed level place odd ]

module _ (seed : List ℕ) (leaf : ℕ) where
  sibling_next : (n : ℕ) → digest_at (siblings seed leaf (suc n)) n ≡ node seed n (beside (leaf / 2 ^ n))
  unfolding siblings
  sibling_next n =
      let here = node seed n (beside (leaf / 2 ^ n)) in
      ap (λ (xs : List ℕ). digest_at (siblings seed leaf n ++ xs) n) (sym (append-nil here))
      ∙ digest_at-next (siblings seed leaf n) here [] n (length-siblings seed leaf n) (length-node seed n (beside (leaf / 2 ^ n)))

  sibling_at : (many n : ℕ) → n < many → digest_at (siblings seed leaf many) n ≡ node seed n (beside (leaf / 2 ^ n))
  unfolding siblings
  sibling_at zero n below = absurd (omega arith)
  sibling_at (suc many) n below =
      let before = length-siblings seed leaf many in
      elim (cases_lt n many) [
        | inl earlier ↦ digest_at-append (siblings seed leaf many) (node seed many (beside (leaf / 2 ^ many))) n (omega (arith, before)) ∙ sibling_at many n earlier
        | inr last ↦ let same : many ≡ n = omega arith in subst (λ (k : ℕ). digest_at (siblings seed leaf (suc many)) k ≡ node seed k (beside (leaf / 2 ^ k))) same (sibling_next many)
      ]

  pub climbs : (many n : ℕ) → n ≤ many → climb (node seed 0 leaf) leaf (siblings seed leaf many) n ≡ node seed n (leaf / 2 ^ n)
  unfolding climb
  climbs many zero below = ap (node seed 0) (sym (div-one leaf))
  climbs many (suc n) below =
      ap₂ (over (leaf / 2 ^ n)) (climbs many n (omega arith)) (sibling_at many n (omega arith))
      ∙ over_node seed n (leaf / 2 ^ n)
      ∙ ap (node seed (suc n)) (shr-shr leaf n 1 ∙ ap (λ (k : ℕ). leaf / 2 ^ k) (add-one n))

-- ---- the parts of a signature

module _ (number shown_of_bits way : List ℕ) (first : length number ≡ 4) (second : length shown_of_bits ≡ 16384) where
  abbrev parts : List ℕ
  parts = (number ++ shown_of_bits) ++ way

  pub number_of_parts : leaf_number parts ≡ from_be_bytes w32 number
  unfolding leaf_number
  number_of_parts = ap (from_be_bytes w32) (ap (take 4) (append_assoc number shown_of_bits way) ∙ take_at number (shown_of_bits ++ way) 4 first)

  pub shown_of_parts : shown_part parts ≡ shown_of_bits
  unfolding shown_part
  shown_of_parts = middle number shown_of_bits way 4 16384 first second

  pub way_of_parts : way_part parts ≡ way
  unfolding way_part
  way_of_parts =
      let both = length-append number shown_of_bits in
      drop_at (number ++ shown_of_bits) way 16388 (omega (arith, both, first, second))

module _ (seed : List ℕ) (height leaf : ℕ) (message : List ℕ) (within : leaf < 2 ^ height) (fits : leaf < 2 ^ 32) where
  abbrev digest : List ℕ
  digest = message_digest message

  number_length : length (to_be_bytes w32 leaf) ≡ 4
  number_length = refl

  signature_has_length : length (signature_of seed height leaf message) ≡ signature_length height
  unfolding signature_of
  signature_has_length =
      let all = length-append (to_be_bytes w32 leaf ++ shown_bits seed leaf digest 256) (siblings seed leaf height) in
      let front = length-append (to_be_bytes w32 leaf) (shown_bits seed leaf digest 256) in
      omega (arith, all, front, number_length, length-shown_bits seed leaf digest 256, length-siblings seed leaf height)

  pub number_is : leaf ≡ leaf_number (signature_of seed height leaf message)
  unfolding signature_of
  number_is =
      sym (number_of_parts (to_be_bytes w32 leaf) (shown_bits seed leaf digest 256) (siblings seed leaf height) number_length (length-shown_bits seed leaf digest 256)
      ∙ from_be_bytes-to_be_bytes_4 leaf fits)

  shown_is : shown_bits seed leaf digest 256 ≡ shown_part (signature_of seed height leaf message)
  unfolding signature_of
  shown_is = sym (shown_of_parts (to_be_bytes w32 leaf) (shown_bits seed leaf digest 256) (siblings seed leaf height) number_length (length-shown_bits seed leaf digest 256))

  way_is : siblings seed leaf height ≡ way_part (signature_of seed height leaf message)
  unfolding signature_of
  way_is = sym (way_of_parts (to_be_bytes w32 leaf) (shown_bits seed leaf digest 256) (siblings seed leaf height) number_length (length-shown_bits seed leaf digest 256))

  leaf_is : node seed 0 leaf ≡ leaf_over (pairs_from (shown_bits seed leaf digest 256) digest 256)
  unfolding node
  leaf_is = ap leaf_over (sym (pairs_are seed leaf digest 256 256 (omega arith)))

  root_is : root_of seed height ≡ climb (node seed 0 leaf) leaf (siblings seed leaf height) height
  root_is = ap (node seed height) (sym (above_none leaf height within)) ∙ sym (climbs seed leaf height height (omega arith))

  pub accepted : accepts_root (root_of seed height) height message (signature_of seed height leaf message) ≡ true
  accepted =
      sym (decides_by_root (root_of seed height) height message (signature_of seed height leaf message) (root_of seed height) leaf signature_has_length number_is (lt-ltb _ _ within)
      (reaches height message (signature_of seed height leaf message) (shown_bits seed leaf digest 256) digest (node seed 0 leaf) leaf (siblings seed leaf height) (root_of seed height)
      shown_is refl leaf_is number_is way_is root_is))
      ∙ (bytes_eq-Decides (root_of seed height) (root_of seed height)).1 refl

pub roots_accept : RootAcceptsLeaves
roots_accept seed height leaf message within fits = accepted seed height leaf message within fits
