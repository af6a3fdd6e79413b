-- Lists, each item of which is read with what the one before it leaves: what is read is spelled so, and what is spelled so is read.
use Rattle.std.proofs.Common.{◌≡◌, ℕ, zero, suc, ◌^◌, ◌<◌, ◌≤◌, List, [], ◌∷◌, ◌++◌, length, Ok, Err, refl, sym, ap, subst, ◌∙◌, append_assoc, arith}
use Rattle.std.specs.List.{flat_map, AllByRecursion}
use Rattle.std.specs.Int.{w32, to_be_bytes}
use Rattle.bl_syntax.specs.declared.codec_fault.CodecFault.TheVariants as faults
use Rattle.bl_syntax.specs.Reading.{◌>>=◌, Reading, number_at}
use Rattle.bl_syntax.specs.Codec.{AreBytes, IsCodec}
use Rattle.bl_syntax.proofs.CodecLemmas.{bind_ok, ok_is, bind_memoryless, AreBytes-rest, AreBytes-behind, codec}
use Rattle.bl_syntax.proofs.FieldLemmas.{wide32, number_found, number_again, number_memoryless}
use Rattle.procap.specs.GrantSpelling.{list_spelling}
use Rattle.record_parts.proofs.CodecLemmas.{done, same_codec}
use Rattle.checkpoint_image.specs.Chain.{chain_at, short_list_at, long_list_at, long_list_spelling, AreChained, AreShortChained, AreLongChained, alone, nothing_left}
use Rattle.checkpoint_image.specs.ImageSpelling.{AreSpelledIn}

-- so many that were read
record FoundChain {S A : Type 0} (Fits : S → A → Type 0) (left : A → S) (spelling : A → List ℕ) (count : ℕ) (state : S) (bytes : List ℕ) (items : List A) (rest : List ℕ) : Type 0 where
  count_is : length items ≡ count
  chained : AreChained Fits left state items
  bytes_are : bytes ≡ flat_map spelling items ++ rest

chain_found : {S A : Type 0} (Fits : S → A → Type 0) (left : A → S) (spelling : A → List ℕ) (one_at : S → ℕ → List ℕ → Reading A) → ((state : S) → IsCodec (Fits state) spelling (one_at state))
    → (count input : ℕ) (state : S) (bytes rest : List ℕ) (items : List A) → AreBytes bytes → chain_at (λ s. one_at s input) left count state bytes ≡ Ok (items, rest) → FoundChain Fits left spelling count state bytes items rest
unfolding chain_at
chain_found {S} {A} Fits left spelling one_at c zero input state bytes rest items fits e =
    let pair = ok_is ([], bytes) (items, rest) e in
    subst (λ (p : List A × List ℕ). FoundChain Fits left spelling 0 state bytes p.0 p.1) pair (record { count_is = refl; chained = tt; bytes_are = refl })
chain_found {S} {A} Fits left spelling one_at c (suc count) input state bytes rest items fits e =
    let a = bind_ok (one_at state input bytes) (λ first. chain_at (λ s. one_at s input) left count (left first.0) first.1 >>= λ others. done (first.0 ∷ others.0, others.1)) (items, rest) e in
    let b = bind_ok (chain_at (λ s. one_at s input) left count (left a.0.0) a.0.1) (λ others. done (a.0.0 ∷ others.0, others.1)) (items, rest) a.2 in
    let one = (c state).found input bytes a.0.1 a.0.0 fits a.1 in
    let behind : AreBytes a.0.1 = AreBytes-behind (spelling a.0.0) a.0.1 (subst AreBytes one.1 fits) in
    let others = chain_found Fits left spelling one_at c count input (left a.0.0) a.0.1 b.0.1 b.0.0 behind b.1 in
    let found : FoundChain Fits left spelling (suc count) state bytes (a.0.0 ∷ b.0.0) b.0.1 = record {
      count_is = ap suc others.count_is;
      chained = (one.0, others.chained);
      bytes_are = one.1 ∙ ap (λ (end : List ℕ). spelling a.0.0 ++ end) others.bytes_are ∙ sym (append_assoc (spelling a.0.0) (flat_map spelling b.0.0) b.0.1);
    } in
    subst (λ (p : List A × List ℕ). FoundChain Fits left spelling (suc count) state bytes p.0 p.1) (ok_is (a.0.0 ∷ b.0.0, b.0.1) (items, rest) b.2) found

chain_again : {S A : Type 0} (Fits : S → A → Type 0) (left : A → S) (spelling : A → List ℕ) (one_at : S → ℕ → List ℕ → Reading A) → ((state : S) → IsCodec (Fits state) spelling (one_at state))
    → (input : ℕ) (state : S) (items : List A) (rest : List ℕ) → AreChained Fits left state items → chain_at (λ s. one_at s input) left (length items) state (flat_map spelling items ++ rest) ≡ Ok (items, rest)
unfolding chain_at
chain_again Fits left spelling one_at c input state [] rest chained = refl
chain_again Fits left spelling one_at c input state (x ∷ xs) rest chained =
    rw (append_assoc (spelling x) (flat_map spelling xs) rest, (c state).again input x (flat_map spelling xs ++ rest) chained.0, chain_again Fits left spelling one_at c input (left x) xs rest chained.1) refl

chain_memoryless : {S A : Type 0} (left : A → S) (one_at : S → List ℕ → Reading A) → ((state : S) (bytes : List ℕ) → one_at state bytes ≡ Err faults.NoMemory → ⊥)
    → (count : ℕ) (state : S) (bytes : List ℕ) → chain_at one_at left count state bytes ≡ Err faults.NoMemory → ⊥
unfolding chain_at
chain_memoryless left one_at h zero state bytes e = cc
chain_memoryless left one_at h (suc count) state bytes e =
    bind_memoryless (one_at state bytes) (λ first. chain_at one_at left count (left first.0) first.1 >>= λ others. done (first.0 ∷ others.0, others.1)) (h state bytes)
    (λ first k. bind_memoryless (chain_at one_at left count (left first.0) first.1) (λ others. done (first.0 ∷ others.0, others.1)) (chain_memoryless left one_at h count (left first.0) first.1) (λ others m. cc) k) e

-- ---- with their number in one byte

module _ {S A : Type 0} (Fits : S → A → Type 0) (left : A → S) (start : S) (spelling : A → List ℕ) (one_at : S → ℕ → List ℕ → Reading A) (c : (state : S) → IsCodec (Fits state) spelling (one_at state)) where
  short_found : (input : ℕ) (bytes rest : List ℕ) (items : List A) → AreBytes bytes → short_list_at (λ s. one_at s input) left start bytes ≡ Ok (items, rest)
      → AreShortChained Fits left start items × (bytes ≡ list_spelling spelling items ++ rest)
  unfolding short_list_at
  short_found input [] rest items fits e = absurd cc
  short_found input (count ∷ more) rest items fits e =
      let it = chain_found Fits left spelling one_at c count input start more rest items (AreBytes-rest count more fits) e in
      let low : count < 256 = fits 0 in
      let few : length items ≤ 255 = omega (arith, it.count_is, low) in
      (record { few = few; chained = it.chained }, ap (λ (k : ℕ). k ∷ more) (sym it.count_is) ∙ ap (λ (b : List ℕ). length items ∷ b) it.bytes_are)

  short_again : (input : ℕ) (items : List A) (rest : List ℕ) → AreShortChained Fits left start items → short_list_at (λ s. one_at s input) left start (list_spelling spelling items ++ rest) ≡ Ok (items, rest)
  unfolding short_list_at
  short_again input items rest h = chain_again Fits left spelling one_at c input start items rest h.chained

  short_memoryless : (input : ℕ) (bytes : List ℕ) → short_list_at (λ s. one_at s input) left start bytes ≡ Err faults.NoMemory → ⊥
  unfolding short_list_at
  short_memoryless input [] e = cc
  short_memoryless input (count ∷ more) e = chain_memoryless left (λ s. one_at s input) (λ s. (c s).memoryless input) count start more e

  pub short_codec : IsCodec (AreShortChained Fits left start) (list_spelling spelling) (λ input. short_list_at (λ s. one_at s input) left start)
  short_codec = codec (AreShortChained Fits left start) (list_spelling spelling) (λ input. short_list_at (λ s. one_at s input) left start) short_found short_again short_memoryless

  -- ---- with their number in four bytes

  long_found : (input : ℕ) (bytes rest : List ℕ) (items : List A) → AreBytes bytes → long_list_at (λ s. one_at s input) left start bytes ≡ Ok (items, rest)
      → AreLongChained Fits left start items × (bytes ≡ long_list_spelling spelling items ++ rest)
  unfolding long_list_at
  long_found input bytes rest items fits e =
      let a = bind_ok (number_at w32 bytes) (λ count. chain_at (λ s. one_at s input) left count.0 start count.1) (items, rest) e in
      let number = number_found w32 (2 ^ 32) wide32 bytes a.0.0 a.0.1 fits a.1 in
      let behind : AreBytes a.0.1 = AreBytes-behind (to_be_bytes w32 a.0.0) a.0.1 (subst AreBytes number.1 fits) in
      let it = chain_found Fits left spelling one_at c a.0.0 input start a.0.1 rest items behind a.2 in
      let few : length items < 2 ^ 32 = rw it.count_is number.0 in
      let whole : bytes ≡ (to_be_bytes w32 a.0.0 ++ flat_map spelling items) ++ rest =
      number.1 ∙ ap (λ (end : List ℕ). to_be_bytes w32 a.0.0 ++ end) it.bytes_are ∙ sym (append_assoc (to_be_bytes w32 a.0.0) (flat_map spelling items) rest) in
      (record { few = few; chained = it.chained }, whole ∙ ap (λ (k : ℕ). (to_be_bytes w32 k ++ flat_map spelling items) ++ rest) (sym it.count_is))

  long_again : (input : ℕ) (items : List A) (rest : List ℕ) → AreLongChained Fits left start items → long_list_at (λ s. one_at s input) left start (long_list_spelling spelling items ++ rest) ≡ Ok (items, rest)
  unfolding long_list_at
  long_again input items rest h =
      rw (append_assoc (to_be_bytes w32 (length items)) (flat_map spelling items) rest, number_again w32 (2 ^ 32) wide32 (length items) (flat_map spelling items ++ rest) h.few)
      (chain_again Fits left spelling one_at c input start items rest h.chained)

  long_memoryless : (input : ℕ) (bytes : List ℕ) → long_list_at (λ s. one_at s input) left start bytes ≡ Err faults.NoMemory → ⊥
  unfolding long_list_at
  long_memoryless input bytes e =
      bind_memoryless (number_at w32 bytes) (λ count. chain_at (λ s. one_at s input) left count.0 start count.1) (number_memoryless w32 bytes)
      (λ count h. chain_memoryless left (λ s. one_at s input) (λ s. (c s).memoryless input) count.0 start count.1 h) e

  pub long_codec : IsCodec (AreLongChained Fits left start) (long_list_spelling spelling) (λ input. long_list_at (λ s. one_at s input) left start)
  long_codec = codec (AreLongChained Fits left start) (long_list_spelling spelling) (λ input. long_list_at (λ s. one_at s input) left start) long_found long_again long_memoryless

-- ---- items that have nothing to do with one another

abbrev Whatever : {A : Type 0} → (A → Type 0) → Unit {0} → A → Type 0
Whatever IsSpelled nothing item = IsSpelled item

chained_each : {A : Type 0} (IsSpelled : A → Type 0) (items : List A) → AreChained (Whatever IsSpelled) nothing_left tt items → AllByRecursion IsSpelled items
chained_each IsSpelled [] h = tt
chained_each IsSpelled (x ∷ xs) h = (h.0, chained_each IsSpelled xs h.1)

each_chained : {A : Type 0} (IsSpelled : A → Type 0) (items : List A) → AllByRecursion IsSpelled items → AreChained (Whatever IsSpelled) nothing_left tt items
each_chained IsSpelled [] h = tt
each_chained IsSpelled (x ∷ xs) h = (h.0, each_chained IsSpelled xs h.1)

abbrev whatever_at : {A : Type 0} → (ℕ → List ℕ → Reading A) → Unit {0} → ℕ → List ℕ → Reading A
whatever_at one_at nothing input bytes = one_at input bytes

pub alone_codec : {A : Type 0} (IsSpelled : A → Type 0) (spelling : A → List ℕ) (one_at : ℕ → List ℕ → Reading A) → IsCodec IsSpelled spelling one_at
    → IsCodec (AreSpelledIn IsSpelled) (long_list_spelling spelling) (λ input. long_list_at (alone (one_at input)) nothing_left tt)
alone_codec IsSpelled spelling one_at c =
    same_codec (AreLongChained (Whatever IsSpelled) nothing_left tt) (long_list_spelling spelling) (λ input. long_list_at (λ nothing. whatever_at one_at nothing input) nothing_left tt)
    (AreSpelledIn IsSpelled) (long_list_spelling spelling) (λ input. long_list_at (alone (one_at input)) nothing_left tt)
    (long_codec (Whatever IsSpelled) nothing_left tt spelling (whatever_at one_at) (λ nothing. c))
    (λ items h. record { few = h.few; each = chained_each IsSpelled items h.chained }) (λ items h. record { few = h.few; chained = each_chained IsSpelled items h.each })
    (λ items. refl) (λ input bytes. refl)
