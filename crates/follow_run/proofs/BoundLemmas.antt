-- Bytes at the front of which a message may still come, and where a message ends.
use Rattle.std.proofs.Common.{◌≡◌, ◌+◌, ◌-◌, ◌^◌, ◌<◌, ◌≤◌, ℕ, zero, suc, ltb, List, [], ◌∷◌, ◌++◌, length, take, drop, Result, Ok, Err, refl, sym, ap, subst, ◌∙◌, arith, length-append}
use Rattle.std.specs.Prelude.{◌==◌}
use Rattle.std.specs.Int.{Width, w32, w64, byte_len, from_be_bytes}
use Rattle.std.proofs.lemmas.Bool.{ltb-false, ltb-true}
use Rattle.std.proofs.lemmas.List.{length-drop}
use Rattle.std.proofs.Math.Nat.{min-eq_left}
use Rattle.bl_syntax.specs.declared.codec_fault.CodecFault.{CodecFault}
use Rattle.bl_syntax.specs.declared.codec_fault.CodecFault.TheVariants.{Short, BadTag}
use Rattle.bl_syntax.specs.Reading.{◌>>=◌, number_at}
use Rattle.bl_syntax.specs.Codec.{AreBytes}
use Rattle.bl_syntax.proofs.CodecLemmas.{by_test, ok_is, AreBytes-behind}
use Rattle.event_messages.specs.Messages.{Message, IsMessage, message_spelling, message_length, payload_of, payload_at, fields_at, message_at}
use Rattle.event_messages.specs.Reader.{ReaderState, after_message, MayGoOn}
use Rattle.event_messages.proofs.MessageLemmas.{message_codec}
use Rattle.event_messages.proofs.MoreLemmas.{message_long}

-- ---- no more is kept than a message

-- a fault of a reading, or of the one after it
bind_short : {A B : Type 0} (r : Result A CodecFault) (f : A → Result B CodecFault) (P : Type 0) → (r >>= f) ≡ Err Short → (r ≡ Err Short → P) → ((x : A) → r ≡ Ok x → f x ≡ Err Short → P) → P
bind_short (Ok x) f P e first second = second x refl e
bind_short (Err d) f P e first second = first cc

number_lacks : (w : Width) (bytes : List ℕ) → number_at w bytes ≡ Err Short → length bytes < byte_len w
number_lacks w bytes e = by_test (ltb (length bytes) (byte_len w)) (Err Short) (Ok (from_be_bytes w (take (byte_len w) bytes), drop (byte_len w) bytes)) (Err Short) e (λ short _. ltb-true _ _ short) (λ _ read. absurd cc)

number_leaves : (w : Width) (bytes : List ℕ) (x : ℕ × List ℕ) → number_at w bytes ≡ Ok x → length bytes ≡ byte_len w + length x.1
number_leaves w bytes x e =
    by_test (ltb (length bytes) (byte_len w)) (Err Short) (Ok (from_be_bytes w (take (byte_len w) bytes), drop (byte_len w) bytes)) (Ok x) e (λ _ fault. absurd cc) (λ long found.
    let pair = ok_is (from_be_bytes w (take (byte_len w) bytes), drop (byte_len w) bytes) x found in
    omega (arith, ltb-false _ _ long, ap (λ (p : ℕ × List ℕ). length p.1) pair, length-drop (byte_len w) bytes))

payload_lacks : (number len : ℕ) (bytes : List ℕ) → payload_of number len bytes ≡ Err Short → length bytes ≤ 1048575
payload_lacks number len bytes e =
    by_test (ltb 1048576 len) _ _ _ e (λ _ fault. absurd cc) (λ few e1.
    by_test (ltb (length bytes) len) _ _ _ e1 (λ short _. omega (arith, ltb-false _ _ few, ltb-true _ _ short)) (λ _ read. absurd cc))

after_number : (number : ℕ) (bytes : List ℕ) → payload_at number bytes ≡ Err Short → length bytes ≤ 1048579
unfolding payload_at
after_number number bytes e =
    bind_short (number_at w32 bytes) (λ len. payload_of number len.0 len.1) (length bytes ≤ 1048579) e (λ short. let few = number_lacks w32 bytes short in omega (arith, few)) (λ x at none.
    omega (arith, number_leaves w32 bytes x at, payload_lacks number x.0 x.1 none))

after_first : (bytes : List ℕ) → fields_at bytes ≡ Err Short → length bytes ≤ 1048587
unfolding fields_at
after_first bytes e =
    bind_short (number_at w64 bytes) (λ number. payload_at number.0 number.1) (length bytes ≤ 1048587) e (λ short. let few = number_lacks w64 bytes short in omega (arith, few)) (λ x at none.
    omega (arith, number_leaves w64 bytes x at, after_number x.0 x.1 none))

-- bytes that more may make a message are fewer than one has
pub few_open : (bytes : List ℕ) → MayGoOn bytes → length bytes ≤ 1048588
unfolding message_at
few_open [] e = omega arith
few_open (first ∷ more) e = by_test (first == 0x52) (fields_at more) (Err (BadTag 0)) (Err Short) e (λ _ short. let few = after_first more short in omega (arith, few)) (λ _ fault. absurd cc)

-- before the first byte a message may still come
pub MayGoOn-none : MayGoOn []
unfolding message_at
MayGoOn-none = refl

-- ---- a message that is there

-- the bytes begin with a message, and these are left
pub record IsFirst (bytes : List ℕ) (message : Message) (rest : List ℕ) : Type 0 where
  pub is_message : IsMessage message
  pub parts : bytes ≡ message_spelling message ++ rest

pub IsFirst-read : (bytes rest : List ℕ) (message : Message) → AreBytes bytes → message_at bytes ≡ Ok (message, rest) → IsFirst bytes message rest
IsFirst-read bytes rest message fits read =
    let found = message_codec.found 0 bytes rest message fits read in
    record { is_message = found.0; parts = found.1 }

-- fewer bytes are left, and with their place they are as many
pub fewer_left : (bytes rest : List ℕ) (message : Message) → IsFirst bytes message rest → length rest < length bytes
fewer_left bytes rest message first = omega (arith, ap length first.parts, length-append (message_spelling message) rest, message_long message)

pub counted_after : (s : ReaderState) (rest : List ℕ) (message : Message) → IsFirst s.left message rest → s.place + length s.left < 2 ^ 63 → (after_message s message rest).place + length rest ≡ s.place + length s.left
counted_after s rest message first few =
    let long : length s.left ≡ message_length message + length rest = ap length first.parts ∙ length-append (message_spelling message) rest in
    let small : s.place + message_length message ≤ 2 ^ 64 - 1 = omega (arith, long, few) in
    let sum : (s.place + message_length message) + length rest ≡ s.place + length s.left = omega (arith, long) in
    ap (λ (n : ℕ). n + length rest) (min-eq_left small) ∙ sum

-- ---- bytes

pub AreBytes-none : AreBytes []
AreBytes-none index = let is : 0 < 256 = omega arith in is

pub AreBytes-both : (front rest : List ℕ) → AreBytes front → AreBytes rest → AreBytes (front ++ rest)
AreBytes-both [] rest fits more index = more index
AreBytes-both (byte ∷ front) rest fits more zero = fits zero
AreBytes-both (byte ∷ front) rest fits more (suc index) = AreBytes-both front rest (λ (i : ℕ). fits (suc i)) more index

pub AreBytes-after : (bytes rest : List ℕ) (message : Message) → IsFirst bytes message rest → AreBytes bytes → AreBytes rest
AreBytes-after bytes rest message first fits = AreBytes-behind (message_spelling message) rest (subst AreBytes first.parts fits)

-- ---- a message is taken from a reader

module _ (before after : ReaderState) (message : Message) (rest : List ℕ) (first : IsFirst before.left message rest) (taken : after ≡ after_message before message rest) where
  pub fewer_after : length after.left < length before.left
  fewer_after = subst (λ (r : ReaderState). length r.left < length before.left) (sym taken) (fewer_left before.left rest message first)

  pub bytes_after : AreBytes before.left → AreBytes after.left
  bytes_after fits = subst (λ (r : ReaderState). AreBytes r.left) (sym taken) (AreBytes-after before.left rest message first fits)

  pub as_many_after : before.place + length before.left < 2 ^ 63 → after.place + length after.left ≡ before.place + length before.left
  as_many_after few = subst (λ (r : ReaderState). r.place + length r.left ≡ before.place + length before.left) (sym taken) (counted_after before rest message first few)

-- ---- a piece is fed

module _ (before after : ReaderState) (piece : List ℕ) (fed : after ≡ record before { left = before.left ++ piece }) where
  pub fed_bytes : AreBytes before.left → AreBytes piece → AreBytes after.left
  fed_bytes fits more = subst (λ (r : ReaderState). AreBytes r.left) (sym fed) (AreBytes-both before.left piece fits more)

  pub fed_few : before.place + length before.left + length piece < 2 ^ 63 → after.place + length after.left < 2 ^ 63
  fed_few few =
      subst (λ (r : ReaderState). r.place + length r.left < 2 ^ 63) (sym fed) (
      let is : before.place + length (before.left ++ piece) < 2 ^ 63 = omega (arith, few, length-append before.left piece) in
      is
      )
