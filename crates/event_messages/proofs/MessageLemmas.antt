-- What is read of a message is spelled so, and what is spelled so is read.
use Rattle.std.proofs.Common.{◌≡◌, ℕ, ◌^◌, ◌<◌, ◌≤◌, false, ltb, List, [], ◌∷◌, ◌++◌, length, take, drop, Ok, Err, refl, sym, ap, subst, ◌∙◌, arith, append_assoc}
use Rattle.std.specs.Prelude.{◌==◌}
use Rattle.std.specs.Int.{w32, w64, to_be_bytes}
use Rattle.std.proofs.lemmas.Bool.{ltb-false, le-ltb, eqb-true}
use Rattle.std.proofs.lemmas.List.{take_at, drop_at, take-append-drop, length-append, length-take}
use Rattle.bl_syntax.specs.declared.limits.TheConstants.{LONGEST_MESSAGE}
use Rattle.bl_syntax.specs.declared.codec_fault.CodecFault.TheVariants.{Short, BadTag, TooLarge}
use Rattle.bl_syntax.specs.declared.codec_fault.CodecFault.TheVariants as faults
use Rattle.bl_syntax.specs.Reading.{number_at}
use Rattle.bl_syntax.specs.Codec.{AreBytes, IsCodec}
use Rattle.bl_syntax.proofs.CodecLemmas.{bind_ok, bind_memoryless, by_test, ok_is, codec, AreBytes-rest, AreBytes-behind}
use Rattle.bl_syntax.proofs.FieldLemmas.{wide32, wide64, number_found, number_again, number_memoryless}
use Rattle.event_messages.specs.Messages.{Message, IsMessage, message_spelling, payload_of, payload_at, fields_at, message_at}

-- ---- what was read

payload_found : (number : ℕ) (bytes rest : List ℕ) (m : Message) → AreBytes bytes → payload_at number bytes ≡ Ok (m, rest) →
    (m.number ≡ number) × (length m.payload ≤ LONGEST_MESSAGE) × (bytes ≡ (to_be_bytes w32 (length m.payload) ++ m.payload) ++ rest)
unfolding payload_at
payload_found number bytes rest m fits e =
    let a = bind_ok (number_at w32 bytes) (λ len. payload_of number len.0 len.1) (m, rest) e in
    let len = number_found w32 (2 ^ 32) wide32 bytes a.0.0 a.0.1 fits a.1 in
    by_test (ltb LONGEST_MESSAGE a.0.0) _ _ _ a.2 (λ _ fault. absurd cc) (λ few e1.
    by_test (ltb (length a.0.1) a.0.0) _ _ _ e1 (λ _ fault. absurd cc) (λ long found.
    let enough : a.0.0 ≤ length a.0.1 = ltb-false _ _ long in
    let small : a.0.0 ≤ LONGEST_MESSAGE = ltb-false _ _ few in
    let count : length (take a.0.0 a.0.1) ≡ a.0.0 = omega (arith, length-take a.0.0 a.0.1) in
    let fit : length (take a.0.0 a.0.1) ≤ LONGEST_MESSAGE = rw count small in
    let whole : bytes ≡ (to_be_bytes w32 a.0.0 ++ take a.0.0 a.0.1) ++ drop a.0.0 a.0.1 =
    len.1 ∙ ap (λ (end : List ℕ). to_be_bytes w32 a.0.0 ++ end) (sym (take-append-drop a.0.0 a.0.1)) ∙ sym (append_assoc (to_be_bytes w32 a.0.0) (take a.0.0 a.0.1) (drop a.0.0 a.0.1)) in
    let sized : bytes ≡ (to_be_bytes w32 (length (take a.0.0 a.0.1)) ++ take a.0.0 a.0.1) ++ drop a.0.0 a.0.1 = whole ∙ ap (λ (k : ℕ). (to_be_bytes w32 k ++ take a.0.0 a.0.1) ++ drop a.0.0 a.0.1) (sym count) in
    let read : Message = record { number = number; payload = take a.0.0 a.0.1 } in
    subst (λ (p : Message × List ℕ). (p.0.number ≡ number) × (length p.0.payload ≤ LONGEST_MESSAGE) × (bytes ≡ (to_be_bytes w32 (length p.0.payload) ++ p.0.payload) ++ p.1))
    (ok_is (read, drop a.0.0 a.0.1) (m, rest) found) (refl, fit, sized)))

fields_found : (bytes rest : List ℕ) (m : Message) → AreBytes bytes → fields_at bytes ≡ Ok (m, rest) →
    IsMessage m × (bytes ≡ (to_be_bytes w64 m.number ++ (to_be_bytes w32 (length m.payload) ++ m.payload)) ++ rest)
unfolding fields_at
fields_found bytes rest m fits e =
    let a = bind_ok (number_at w64 bytes) (λ number. payload_at number.0 number.1) (m, rest) e in
    let number = number_found w64 (2 ^ 64) wide64 bytes a.0.0 a.0.1 fits a.1 in
    let behind : AreBytes a.0.1 = AreBytes-behind (to_be_bytes w64 a.0.0) a.0.1 (subst AreBytes number.1 fits) in
    let p = payload_found a.0.0 a.0.1 rest m behind a.2 in
    let sized : List ℕ = to_be_bytes w32 (length m.payload) ++ m.payload in (
      record { numbered = subst (λ (n : ℕ). n < 2 ^ 64) (sym p.0) number.0; few = p.1 },
      number.1 ∙ ap (λ (end : List ℕ). to_be_bytes w64 a.0.0 ++ end) p.2 ∙ sym (append_assoc (to_be_bytes w64 a.0.0) sized rest) ∙ ap (λ (n : ℕ). (to_be_bytes w64 n ++ sized) ++ rest) (sym p.0),
    )

found : (bytes rest : List ℕ) (m : Message) → AreBytes bytes → message_at bytes ≡ Ok (m, rest) → IsMessage m × (bytes ≡ message_spelling m ++ rest)
unfolding message_at message_spelling
found [] rest m fits e = absurd cc
found (first ∷ more) rest m fits e =
    by_test (first == 0x52) (fields_at more) (Err (BadTag 0)) (Ok (m, rest)) e (λ is found.
    let f = fields_found more rest m (AreBytes-rest first more fits) found in
    (f.0, ap (λ (b : ℕ). b ∷ more) (eqb-true first 0x52 is) ∙ ap (λ (end : List ℕ). 0x52 ∷ end) f.1)) (λ _ fault. absurd cc)

-- ---- what was spelled

payload_again : (m : Message) (rest : List ℕ) → length m.payload ≤ LONGEST_MESSAGE → payload_at m.number ((to_be_bytes w32 (length m.payload) ++ m.payload) ++ rest) ≡ Ok (m, rest)
unfolding payload_at
payload_again m rest few =
    let small : ltb LONGEST_MESSAGE (length m.payload) ≡ false = le-ltb _ _ few in
    let enough : ltb (length (m.payload ++ rest)) (length m.payload) ≡ false = le-ltb _ _ (omega (arith, length-append m.payload rest)) in
    rw (
      number_again w32 (2 ^ 32) wide32 (length m.payload) (m.payload ++ rest) (omega (arith, few)),
      small,
      enough,
      take_at m.payload rest (length m.payload) refl,
      drop_at m.payload rest (length m.payload) refl,
    ) refl

again : (m : Message) (rest : List ℕ) → IsMessage m → message_at (message_spelling m ++ rest) ≡ Ok (m, rest)
unfolding message_at message_spelling fields_at
again m rest is =
    rw (number_again w64 (2 ^ 64) wide64 m.number ((to_be_bytes w32 (length m.payload) ++ m.payload) ++ rest) is.numbered) (payload_again m rest is.few)

-- ---- no memory is taken

payload_memoryless : (number : ℕ) (bytes : List ℕ) → payload_at number bytes ≡ Err faults.NoMemory → ⊥
unfolding payload_at
payload_memoryless number bytes e =
    bind_memoryless (number_at w32 bytes) (λ len. payload_of number len.0 len.1) (number_memoryless w32 bytes)
    (λ len h. by_test (ltb LONGEST_MESSAGE len.0) _ _ _ h (λ _ fault. cc) (λ _ e1. by_test (ltb (length len.1) len.0) _ _ _ e1 (λ _ fault. cc) (λ _ read. cc))) e

memoryless : (bytes : List ℕ) → message_at bytes ≡ Err faults.NoMemory → ⊥
unfolding message_at fields_at
memoryless [] e = cc
memoryless (first ∷ more) e =
    by_test (first == 0x52) (fields_at more) (Err (BadTag 0)) (Err faults.NoMemory) e
    (λ _ h. bind_memoryless (number_at w64 more) (λ number. payload_at number.0 number.1) (number_memoryless w64 more) (λ number k. payload_memoryless number.0 number.1 k) h) (λ _ fault. cc)

pub message_codec : IsCodec IsMessage message_spelling (λ input. message_at)
message_codec = codec IsMessage message_spelling (λ input. message_at) (λ input. found) (λ input. again) (λ input. memoryless)
