-- One step more of each recursion, as the loops take it, and the tests of a signature.
use Rattle.std.proofs.Common.{◌≡◌, ℕ, ◌+◌, ◌-◌, ◌*◌, ◌/◌, ◌%◌, ◌^◌, ◌<◌, ◌≤◌, List, [], ◌∷◌, ◌++◌, length, true, false, eqb, ltb, sym, refl, subst, add-one, append_assoc, arith}
use Rattle.std.specs.Int.{w32, to_be_bytes}
use Rattle.std.specs.Str.{bytes_eq}
use Rattle.std.proofs.lemmas.Bool.{and_left, and_right, cond-false, cond-true, eq-eqb, lt-ltb, ne_eqb}
use Rattle.std.proofs.lemmas.Bool.Decides.{Decides-eqb, Decides-like, Decides-ltb, same_from_decides}
use Rattle.std.proofs.lemmas.List.{append-nil}
use Rattle.std.proofs.lemmas.Nat.{div_below, mod_below, pow_pos, shr_split}
use Rattle.std.proofs.Math.Pow.{pow_mono}
use Rattle.merkle_sig.specs.HashTree.{leaf_over, node, parent, public_pair, public_pairs, public_value, secret}
use Rattle.merkle_sig.specs.Signature.{accepts_root, beside, bit_of, climb, digest_at, leaf_number, message_digest, over, pair_from, pairs_from, root_from, shown, shown_bits, shown_part, siblings, signature_length, signature_of, way_part}

-- the public values of one bit more
pub public_pairs_step : (seed : List ℕ) (leaf n : ℕ) (first second : List ℕ) → first ≡ public_value (secret seed leaf n 0) → second ≡ public_value (secret seed leaf n 1)
    → ((2 ∷ public_pairs seed leaf n) ++ first) ++ second ≡ 2 ∷ public_pairs seed leaf (n + 1)
unfolding public_pairs public_pair
public_pairs_step seed leaf n first second is_first is_second =
    rw (is_first, is_second, add-one) (append_assoc (2 ∷ public_pairs seed leaf n) (public_value (secret seed leaf n 0)) (public_value (secret seed leaf n 1)))

-- the same, of what is shown
pub pairs_from_step : (shown digest : List ℕ) (n value : ℕ) (hidden other : List ℕ) → value ≡ bit_of digest n → hidden ≡ digest_at shown (2 * n) → other ≡ digest_at shown (2 * n + 1)
    → (2 ∷ pairs_from shown digest n) ++ pair_from value hidden other ≡ 2 ∷ pairs_from shown digest (n + 1)
unfolding pairs_from
pairs_from_step shown digest n value hidden other is_value is_hidden is_other = rw (is_value, is_hidden, is_other, add-one n) refl

-- the node over one at an even place, and over one at an odd place
pub over-even : (place : ℕ) (here other : List ℕ) → place % 2 ≡ 0 → over place here other ≡ parent here other
over-even place here other even = cond-true (eqb (place % 2) 0) _ _ (eq-eqb _ _ even)

pub over-odd : (place : ℕ) (here other : List ℕ) → (place % 2 ≡ 0 → ⊥) → over place here other ≡ parent other here
over-odd place here other odd = cond-false (eqb (place % 2) 0) _ _ (ne_eqb _ _ odd)

-- one level more
pub climb_step : (from : List ℕ) (leaf : ℕ) (others : List ℕ) (n place : ℕ) (here other after : List ℕ) → here ≡ climb from leaf others n → place ≡ leaf / 2 ^ n
    → other ≡ digest_at others n → after ≡ over place here other → after ≡ climb from leaf others (n + 1)
unfolding climb
climb_step from leaf others n place here other after is_here is_place is_other is_after = rw (is_after, is_here, is_place, is_other, add-one) refl

none_left : (number power : ℕ) → number / 2 ^ power ≡ 0 → number < 2 ^ power
none_left number power none =
    let split : 0 * 2 ^ power + number % 2 ^ power ≡ number = subst (λ (q : ℕ). q * 2 ^ power + number % 2 ^ power ≡ number) none (shr_split number power) in
    omega (arith, split, mod_below number (2 ^ power) (pow_pos power))

pub above_none : (number power : ℕ) → number < 2 ^ power → number / 2 ^ power ≡ 0
above_none number power below =
    let small : number / 2 ^ power < 1 = div_below number (2 ^ power) 1 (pow_pos power) (omega arith) in
    omega arith

-- what is below a power of two has nothing left above that many bits
pub shift_tells : (number power : ℕ) → eqb (number / 2 ^ power) 0 ≡ ltb number (2 ^ power)
shift_tells number power =
    same_from_decides _ _ (Decides-like _ (none_left number power) (above_none number power) (Decides-eqb (number / 2 ^ power) 0)) (Decides-ltb number (2 ^ power))

-- a number of 32 bits is below each power from 2 ^ 32 on
pub high_power : (number power : ℕ) → number < 2 ^ 32 → 32 ≤ power → true ≡ ltb number (2 ^ power)
high_power number power fits high = sym (lt-ltb _ _ (let mono = pow_mono high in omega (arith, fits, mono)))

-- ---- the tests of a signature

-- one of another length is refused
pub refuses_length : (root : List ℕ) (height : ℕ) (message signature : List ℕ) → (length signature ≡ signature_length height → ⊥) → false ≡ accepts_root root height message signature
unfolding accepts_root
refuses_length root height message signature other =
    sym (and_left _ _ (and_left _ _ (ne_eqb _ _ other)))

-- and so is one whose leaf the tree does not have
pub refuses_leaf : (root : List ℕ) (height : ℕ) (message signature : List ℕ) (number : ℕ) → number ≡ leaf_number signature → ltb number (2 ^ height) ≡ false
    → false ≡ accepts_root root height message signature
unfolding accepts_root
refuses_leaf root height message signature number is_number past =
    sym (and_left _ _ (and_right _ _ (subst (λ (n : ℕ). ltb n (2 ^ height) ≡ false) is_number past)))

-- of the others the hashes decide
pub decides_by_root : (root : List ℕ) (height : ℕ) (message signature reached : List ℕ) (number : ℕ) → length signature ≡ signature_length height → number ≡ leaf_number signature
    → ltb number (2 ^ height) ≡ true → reached ≡ root_from height message signature → bytes_eq reached root ≡ accepts_root root height message signature
unfolding accepts_root
decides_by_root root height message signature reached number is_length is_number below is_reached =
    let below' : ltb (leaf_number signature) (2 ^ height) ≡ true = subst (λ (n : ℕ). ltb n (2 ^ height) ≡ true) is_number below in
    rw (eq-eqb _ _ is_length, below', is_reached) refl

-- the root that is reached, step by step
pub reaches : (height : ℕ) (message signature shown digest leaf : List ℕ) (number : ℕ) (others reached : List ℕ) → shown ≡ shown_part signature → digest ≡ message_digest message
    → leaf ≡ leaf_over (pairs_from shown digest 256) → number ≡ leaf_number signature → others ≡ way_part signature → reached ≡ climb leaf number others height
    → reached ≡ root_from height message signature
reaches height message signature shown digest leaf number others reached is_shown is_digest is_leaf is_number is_others is_reached =
    rw (is_reached, is_leaf, is_shown, is_digest, is_number, is_others) refl

-- ---- what a signature is written of

-- a bit more
pub bit_added : (before own other middle after seed : List ℕ) (leaf bit value : ℕ) → middle ≡ before ++ own → after ≡ middle ++ other → own ≡ secret seed leaf bit value
    → other ≡ public_value (secret seed leaf bit (1 - value)) → after ≡ before ++ shown seed leaf bit value
unfolding shown
bit_added before own other middle after seed leaf bit value is_middle is_after is_own is_other =
    rw (is_after, is_middle, is_own, is_other) (append_assoc before (secret seed leaf bit value) (public_value (secret seed leaf bit (1 - value))))

pub shown_bits_none : (before seed : List ℕ) (leaf : ℕ) (digest : List ℕ) → before ≡ before ++ shown_bits seed leaf digest 0
unfolding shown_bits
shown_bits_none before seed leaf digest = sym (append-nil before)

pub shown_bits_step : (before seed : List ℕ) (leaf : ℕ) (digest : List ℕ) (n value : ℕ) (middle after : List ℕ) → middle ≡ before ++ shown_bits seed leaf digest n
    → value ≡ bit_of digest n → after ≡ middle ++ shown seed leaf n value → after ≡ before ++ shown_bits seed leaf digest (n + 1)
unfolding shown_bits
shown_bits_step before seed leaf digest n value middle after is_middle is_value is_after =
    rw (is_after, is_middle, is_value, add-one n) (append_assoc before (shown_bits seed leaf digest n) (shown seed leaf n (bit_of digest n)))

pub siblings_none : (before seed : List ℕ) (leaf : ℕ) → before ≡ before ++ siblings seed leaf 0
unfolding siblings
siblings_none before seed leaf = sym (append-nil before)

pub siblings_step : (before seed : List ℕ) (leaf n : ℕ) (sibling middle after : List ℕ) → middle ≡ before ++ siblings seed leaf n
    → sibling ≡ node seed n (beside (leaf / 2 ^ n)) → after ≡ middle ++ sibling → after ≡ before ++ siblings seed leaf (n + 1)
unfolding siblings
siblings_step before seed leaf n sibling middle after is_middle is_sibling is_after =
    rw (is_after, is_middle, is_sibling, add-one n) (append_assoc before (siblings seed leaf n) (node seed n (beside (leaf / 2 ^ n))))

-- all parts of a signature
pub parts_are : (start first second third number seed : List ℕ) (height leaf : ℕ) (message digest : List ℕ) → start ≡ [] → number ≡ to_be_bytes w32 leaf → first ≡ start ++ number
    → digest ≡ message_digest message → second ≡ first ++ shown_bits seed leaf digest 256 → third ≡ second ++ siblings seed leaf height → third ≡ signature_of seed height leaf message
unfolding signature_of
parts_are start first second third number seed height leaf message digest none is_number is_first is_digest is_second is_third =
    rw (is_third, is_second, is_first, none, is_number, is_digest) refl
