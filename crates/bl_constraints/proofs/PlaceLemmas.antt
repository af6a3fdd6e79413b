-- Places as bits of words.
use Rattle.std.proofs.Common.{◌≡◌, ◌⊎◌, inl, inr, ℕ, ◌+◌, ◌*◌, ◌/◌, ◌%◌, ◌^◌, ◌<◌, ◌≤◌, List, get_or, set, length, refl, sym, ap, ◌∙◌, arith}
use Rattle.std.specs.Prelude.{◌↔◌, true, not, nat_eq, bit_and, bit_or}
use Rattle.std.specs.Int.{bit_at, trailing_zeros, w64}
use Rattle.std.proofs.lemmas.Bool.{cases_eq, cases_lt, ne_eqb, false≢true}
use Rattle.std.proofs.lemmas.List.{get_or-set_same, get_or-set_other, get_or_past}
use Rattle.std.proofs.lemmas.Nat.{and_le_l}
use Rattle.std.proofs.lemmas.Nat.Bits.{bit_at-zero, bit_at_and, bit_at_or, bit_at-lt, bit_at_set_same, bit_at_set_other, bit_at-trailing_zeros}
use Rattle.bl_constraints.specs.Places.{HasPlace, ShareBit, Meet}
use Rattle.bl_constraints.proofs.ChainLemmas.{by_cases}

-- a bit of a disjunction
or_told : (a b i : ℕ) → bit_at (bit_or a b) i ≡ 1 → (bit_at a i ≡ 1) ⊎ (bit_at b i ≡ 1)
or_told a b i h = by_cases (cases_eq (bit_at a i) 1) inl (λ other. inr (omega (arith, h, other, bit_at_or a b i, bit_at-lt a i, bit_at-lt b i)))

or_test : (a b i : ℕ) → (bit_at a i ≡ 1) ⊎ (bit_at b i ≡ 1) → bit_at (bit_or a b) i ≡ 1
or_test a b i (inl h) = omega (arith, h, bit_at_or a b i, bit_at-lt a i, bit_at-lt b i)
or_test a b i (inr h) = omega (arith, h, bit_at_or a b i, bit_at-lt a i, bit_at-lt b i)

-- no place lies past the words
pub none_past : (words : List ℕ) (place : ℕ) → length words ≤ place / 64 → HasPlace words place → ⊥
none_past words place past h = let e : bit_at 0 (place % 64) ≡ 1 = ap (λ (w : ℕ). bit_at w (place % 64)) (sym (get_or_past words (place / 64) 0 past)) ∙ h in absurd (omega (arith, e, bit_at-zero (place % 64)))

pub none_in_zeros : (words : List ℕ) → ((w : ℕ) → get_or words w 0 ≡ 0) → (place : ℕ) → HasPlace words place → ⊥
none_in_zeros words zeros place h = let e : bit_at 0 (place % 64) ≡ 1 = ap (λ (w : ℕ). bit_at w (place % 64)) (sym (zeros (place / 64))) ∙ h in absurd (omega (arith, e, bit_at-zero (place % 64)))

-- one place more
module _ (words : List ℕ) (place : ℕ) (eight : length words ≡ 8) (within : place < 512) where
  abbrev pub word : ℕ
  word = bit_or (get_or words (place / 64) 0) (1 * 2 ^ (place % 64) % 18446744073709551616)

  in_range : place / 64 < length words
  in_range = omega (arith, eight, within)

  pub insert_has : (k : ℕ) → HasPlace (set words (place / 64) word) k ↔ ((k ≡ place) ⊎ HasPlace words k)
  insert_has k =
      by_cases (cases_eq (k / 64) (place / 64))
      (λ same_word.
      let here : get_or (set words (place / 64) word) (k / 64) 0 ≡ word = ap (λ (w : ℕ). get_or (set words (place / 64) word) w 0) same_word ∙ get_or-set_same words (place / 64) word 0 in_range in
      let old : get_or words (k / 64) 0 ≡ get_or words (place / 64) 0 = ap (λ (w : ℕ). get_or words w 0) same_word in
      by_cases (cases_eq (k % 64) (place % 64))
      (λ same_bit. (
        λ _. inl (omega (arith, same_word, same_bit)),
        λ _. ap (λ (w : ℕ). bit_at w (k % 64)) here ∙ ap (bit_at word) same_bit ∙ bit_at_set_same w64 (get_or words (place / 64) 0) (place % 64) (omega arith),
      ))
      (λ other_bit.
      let kept : bit_at word (k % 64) ≡ bit_at (get_or words (place / 64) 0) (k % 64) = bit_at_set_other w64 (get_or words (place / 64) 0) (place % 64) (omega arith) (k % 64) other_bit in (
        λ h. inr (ap (λ (w : ℕ). bit_at w (k % 64)) old ∙ sym kept ∙ ap (λ (w : ℕ). bit_at w (k % 64)) (sym here) ∙ h),
        λ h. by_cases h (λ e. absurd (other_bit (ap (λ (n : ℕ). n % 64) e))) (λ was. ap (λ (w : ℕ). bit_at w (k % 64)) here ∙ kept ∙ ap (λ (w : ℕ). bit_at w (k % 64)) (sym old) ∙ was),
      )))
      (λ other_word.
      let here : get_or (set words (place / 64) word) (k / 64) 0 ≡ get_or words (k / 64) 0 = get_or-set_other words (place / 64) (k / 64) word 0 other_word in (
        λ h. inr (ap (λ (w : ℕ). bit_at w (k % 64)) (sym here) ∙ h),
        λ h. by_cases h (λ e. absurd (other_word (ap (λ (n : ℕ). n / 64) e))) (λ was. ap (λ (w : ℕ). bit_at w (k % 64)) here ∙ was),
      ))

-- the first words have the places of both, the others those of one
pub record IsAdding (words others : List ℕ) (done : ℕ) (now : List ℕ) : Type 0 where
  pub eight : length now ≡ 8
  pub added : (w : ℕ) → w < done → get_or now w 0 ≡ bit_or (get_or words w 0) (get_or others w 0)
  pub rest : (w : ℕ) → done ≤ w → get_or now w 0 ≡ get_or words w 0

pub adding_none : (words others : List ℕ) → length words ≡ 8 → IsAdding words others 0 words
adding_none words others eight = record { eight = eight; added = λ w lt. absurd (omega (arith, lt)); rest = λ w _. refl }

pub adding_more : (words others now next : List ℕ) (done x : ℕ) → IsAdding words others done now → done < 8 → length next ≡ 8 → next ≡ set now done x → x ≡ bit_or (get_or now done 0) (get_or others done 0)
    → IsAdding words others (done + 1) next
adding_more words others now next done x so_far lt eight is value = record {
  eight = eight;
  added = λ w before.
      by_cases (cases_eq w done)
      (λ same.
      let in_now : done < length now = omega (arith, lt, so_far.eight) in
      let here : get_or next w 0 ≡ x = ap (λ (l : List ℕ). get_or l w 0) is ∙ ap (λ (k : ℕ). get_or (set now done x) k 0) same ∙ get_or-set_same now done x 0 in_now in
      here ∙ value ∙ ap (λ (k : ℕ). bit_or k (get_or others done 0)) (so_far.rest done (omega arith)) ∙ ap (λ (k : ℕ). bit_or (get_or words k 0) (get_or others k 0)) (sym same))
      (λ other. ap (λ (l : List ℕ). get_or l w 0) is ∙ get_or-set_other now done w x 0 other ∙ so_far.added w (omega (arith, before, other)));
  rest = λ w behind. ap (λ (l : List ℕ). get_or l w 0) is ∙ get_or-set_other now done w x 0 (λ e. absurd (omega (arith, e, behind))) ∙ so_far.rest w (omega (arith, behind));
}

pub added_all : (words others now : List ℕ) (done : ℕ) → IsAdding words others done now → 8 ≤ done → length words ≡ 8 → length others ≡ 8
    → (k : ℕ) → HasPlace now k ↔ (HasPlace words k ⊎ HasPlace others k)
added_all words others now done adding all eight eight_others k =
    by_cases (cases_lt (k / 64) 8)
    (λ lt.
    let is = adding.added (k / 64) (omega (arith, lt, all)) in (
      λ h. or_told (get_or words (k / 64) 0) (get_or others (k / 64) 0) (k % 64) (ap (λ (w : ℕ). bit_at w (k % 64)) (sym is) ∙ h),
      λ h. ap (λ (w : ℕ). bit_at w (k % 64)) is ∙ or_test (get_or words (k / 64) 0) (get_or others (k / 64) 0) (k % 64) h,
    ))
    (λ past. (
      λ h. absurd (none_past now k (omega (arith, past, adding.eight)) h),
      λ h. by_cases h (λ was. absurd (none_past words k (omega (arith, past, eight)) was)) (λ was. absurd (none_past others k (omega (arith, past, eight_others)) was)),
    ))

-- a word that is in both has a place in both
at_bit : (words : List ℕ) (w i : ℕ) → i < 64 → bit_at (get_or words w 0) i ≡ 1 → HasPlace words (64 * w + i)
at_bit words w i lt h =
    let word_is : (64 * w + i) / 64 ≡ w = omega (arith, lt) in
    let bit_is : (64 * w + i) % 64 ≡ i = omega (arith, lt) in
    ap (λ (k : ℕ). bit_at (get_or words k 0) ((64 * w + i) % 64)) word_is ∙ ap (bit_at (get_or words w 0)) bit_is ∙ h

pub meet_at : (words others : List ℕ) (w : ℕ) → ShareBit (get_or words w 0) (get_or others w 0) → Meet words others
meet_at words others w share = record { place = 64 * w + share.bit; here = at_bit words w share.bit share.within share.here; there = at_bit others w share.bit share.within share.there }

pub sharing : (a b : ℕ) → a < 18446744073709551616 → (bit_and a b ≡ 0 → ⊥) → ShareBit a b
sharing a b range some =
    let below : bit_and a b < 18446744073709551616 = omega (arith, range, and_le_l a b) in
    let positive : 0 < bit_and a b = by_cases (cases_eq (bit_and a b) 0) (λ e. absurd (some e)) (λ other. omega (arith, other)) in
    let found = bit_at-trailing_zeros w64 (bit_and a b) positive below in
    let both = bit_at_and a b (trailing_zeros w64 (bit_and a b)) in
    let one = bit_at-lt a (trailing_zeros w64 (bit_and a b)) in
    let other = bit_at-lt b (trailing_zeros w64 (bit_and a b)) in
    let is = found.1 in
    record { bit = trailing_zeros w64 (bit_and a b); within = found.0; here = omega (arith, is, both, one, other); there = omega (arith, is, both, one, other) }

pub not_sharing : (a b : ℕ) → bit_and a b ≡ 0 → ShareBit a b → ⊥
not_sharing a b none share =
    let zero : bit_at (bit_and a b) share.bit ≡ bit_at 0 share.bit = ap (λ (w : ℕ). bit_at w share.bit) none in
    let here = share.here in
    let there = share.there in
    absurd (omega (arith, zero, bit_at-zero share.bit, bit_at_and a b share.bit, here, there))

-- no word is in both
pub no_meeting : (words others : List ℕ) → length words ≡ 8 → ((w : ℕ) → w < 8 → ShareBit (get_or words w 0) (get_or others w 0) → ⊥) → Meet words others → ⊥
no_meeting words others eight none m =
    by_cases (cases_lt (m.place / 64) 8)
    (λ lt. none (m.place / 64) lt (record { bit = m.place % 64; within = omega arith; here = m.here; there = m.there }))
    (λ past. none_past words m.place (omega (arith, past, eight)) m.here)

-- two words have a bit in common exactly if their conjunction is not 0
pub sharing_told : (a b : ℕ) → a < 18446744073709551616 → not (nat_eq (bit_and a b) 0) ≡ true → ShareBit a b
sharing_told a b range t = sharing a b range (λ e. absurd (false≢true (sym (ap (λ (n : ℕ). not (nat_eq n 0)) e) ∙ t)))

pub sharing_test : (a b : ℕ) → ShareBit a b → not (nat_eq (bit_and a b) 0) ≡ true
sharing_test a b share = ap not (ne_eqb (bit_and a b) 0 (λ e. absurd (not_sharing a b e share)))
