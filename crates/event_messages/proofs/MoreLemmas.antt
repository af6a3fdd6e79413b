-- What was read stays so if more bytes come, and where it ends.
use Rattle.std.proofs.Common.{◌≡◌, ◌≢◌, ℕ, ◌+◌, ◌-◌, ◌^◌, ◌≤◌, false, ltb, List, [], ◌∷◌, ◌++◌, length, take, drop, Result, Ok, Err, refl, sym, ap, subst, ◌∙◌, arith, append_assoc, eq-eqb}
use Rattle.std.specs.Prelude.{◌==◌, min, OnOk, IsTrue, nat_eq}
use Rattle.std.specs.Int.{Width, w32, w64, byte_len, from_be_bytes, to_be_bytes}
use Rattle.std.proofs.lemmas.Bool.{ltb-false, le-ltb, eqb-true}
use Rattle.std.proofs.lemmas.List.{take-append-le, drop-append-le, drop-drop, length-append, length-take, length-drop}
use Rattle.bl_syntax.specs.declared.limits.TheConstants.{LONGEST_MESSAGE}
use Rattle.bl_syntax.specs.declared.codec_fault.CodecFault.{CodecFault}
use Rattle.bl_syntax.specs.declared.codec_fault.CodecFault.TheVariants.{Short, BadTag}
use Rattle.bl_syntax.specs.Reading.{◌>>=◌, Reading, number_at}
use Rattle.bl_syntax.proofs.CodecLemmas.{bind_ok, by_test, ok_is}
use Rattle.event_messages.specs.Messages.{Message, message_spelling, message_length, payload_of, payload_at, fields_at, message_at}
use Rattle.event_messages.specs.Reader.{ReaderState, after_message}

-- ---- numbers

-- a number that is there: where it ends
record Ends (w : Width) (bytes : List ℕ) (n : ℕ) (rest : List ℕ) : Type 0 where
  pub enough : byte_len w ≤ length bytes
  pub number : from_be_bytes w (take (byte_len w) bytes) ≡ n
  pub rest_is : drop (byte_len w) bytes ≡ rest

number_ends : (w : Width) (bytes : List ℕ) (n : ℕ) (rest : List ℕ) → number_at w bytes ≡ Ok (n, rest) → Ends w bytes n rest
number_ends w bytes n rest e =
    by_test (ltb (length bytes) (byte_len w)) (Err Short) (Ok (from_be_bytes w (take (byte_len w) bytes), drop (byte_len w) bytes)) (Ok (n, rest)) e (λ _ fault. absurd cc) (λ long found.
    let pair = ok_is (from_be_bytes w (take (byte_len w) bytes), drop (byte_len w) bytes) (n, rest) found in
    record { enough = ltb-false _ _ long; number = ap (λ (p : ℕ × List ℕ). p.0) pair; rest_is = ap (λ (p : ℕ × List ℕ). p.1) pair })

number_more : (w : Width) (bytes more : List ℕ) (n : ℕ) (rest : List ℕ) → number_at w bytes ≡ Ok (n, rest) → number_at w (bytes ++ more) ≡ Ok (n, rest ++ more)
number_more w bytes more n rest e =
    let ends = number_ends w bytes n rest e in
    let long : ltb (length (bytes ++ more)) (byte_len w) ≡ false = le-ltb _ _ (omega (arith, ends.enough, length-append bytes more)) in
    rw (long, take-append-le (byte_len w) bytes more ends.enough, drop-append-le (byte_len w) bytes more ends.enough, ends.number, ends.rest_is) refl

-- a number has no fault but that it is short
number_short : (w : Width) (bytes : List ℕ) (fault : CodecFault) → number_at w bytes ≡ Err fault → fault ≡ Short
number_short w bytes fault e = by_test (ltb (length bytes) (byte_len w)) (Err Short) (Ok (from_be_bytes w (take (byte_len w) bytes), drop (byte_len w) bytes)) (Err fault) e (λ _ is. cc) (λ _ read. absurd cc)

-- ---- payloads

record Stands (number : ℕ) (bytes : List ℕ) (m : Message) (rest : List ℕ) : Type 0 where
  pub number_is : number ≡ m.number
  pub enough : length m.payload + 4 ≤ length bytes
  pub rest_is : drop (length m.payload + 4) bytes ≡ rest

payload_stands : (number : ℕ) (bytes rest : List ℕ) (m : Message) → payload_at number bytes ≡ Ok (m, rest) → Stands number bytes m rest
unfolding payload_at
payload_stands number bytes rest m e =
    let a = bind_ok (number_at w32 bytes) (λ len. payload_of number len.0 len.1) (m, rest) e in
    let ends = number_ends w32 bytes a.0.0 a.0.1 a.1 in
    by_test (ltb LONGEST_MESSAGE a.0.0) _ _ _ a.2 (λ _ fault. absurd cc) (λ few e1.
    by_test (ltb (length a.0.1) a.0.0) _ _ _ e1 (λ _ fault. absurd cc) (λ long found.
    let enough : a.0.0 ≤ length a.0.1 = ltb-false _ _ long in
    let count : length (take a.0.0 a.0.1) ≡ a.0.0 = omega (arith, length-take a.0.0 a.0.1) in
    let read : Message = record { number = number; payload = take a.0.0 a.0.1 } in
    let behind : length a.0.1 ≡ length bytes - 4 = ap length (sym ends.rest_is) ∙ length-drop 4 bytes in
    subst (λ (p : Message × List ℕ). Stands number bytes p.0 p.1) (ok_is (read, drop a.0.0 a.0.1) (m, rest) found) (record {
      number_is = refl;
      enough = omega (arith, count, enough, behind, ends.enough);
      rest_is =
          ap (λ (n : ℕ). drop (n + 4) bytes) count ∙ (let same : drop (a.0.0 + 4) bytes ≡ drop (4 + a.0.0) bytes = ap (λ (n : ℕ). drop n bytes) (omega arith) in same)
          ∙ sym (drop-drop a.0.0 4 bytes) ∙ ap (drop a.0.0) ends.rest_is;
    })))

of_more : (number len : ℕ) (bytes more rest : List ℕ) (m : Message) → payload_of number len bytes ≡ Ok (m, rest) → payload_of number len (bytes ++ more) ≡ Ok (m, rest ++ more)
of_more number len bytes more rest m e =
    by_test (ltb LONGEST_MESSAGE len) _ _ _ e (λ _ fault. absurd cc) (λ few e1.
    by_test (ltb (length bytes) len) _ _ _ e1 (λ _ fault. absurd cc) (λ long found.
    let enough : len ≤ length bytes = ltb-false _ _ long in
    let long_more : ltb (length (bytes ++ more)) len ≡ false = le-ltb _ _ (omega (arith, enough, length-append bytes more)) in
    let read : Message = record { number = number; payload = take len bytes } in
    let pair = ok_is (read, drop len bytes) (m, rest) found in
    rw (few, long_more, take-append-le len bytes more enough, drop-append-le len bytes more enough) (ap (λ (p : Message × List ℕ). Ok (p.0, p.1 ++ more)) pair)))

of_none : (number len : ℕ) (bytes more : List ℕ) (fault : CodecFault) → fault ≢ Short → payload_of number len bytes ≡ Err fault → payload_of number len (bytes ++ more) ≡ Err fault
of_none number len bytes more fault other e =
    by_test (ltb LONGEST_MESSAGE len) _ _ _ e (λ large is. rw large is) (λ few e1. by_test (ltb (length bytes) len) _ _ _ e1 (λ _ is. absurd (other cc)) (λ _ read. absurd cc))

-- ---- messages

fields_more : (bytes more rest : List ℕ) (m : Message) → fields_at bytes ≡ Ok (m, rest) → fields_at (bytes ++ more) ≡ Ok (m, rest ++ more)
unfolding fields_at payload_at
fields_more bytes more rest m e =
    let a = bind_ok (number_at w64 bytes) (λ number. payload_at number.0 number.1) (m, rest) e in
    let b = bind_ok (number_at w32 a.0.1) (λ len. payload_of a.0.0 len.0 len.1) (m, rest) a.2 in
    ap (λ (r : Reading ℕ). r >>= λ number. payload_at number.0 number.1) (number_more w64 bytes more a.0.0 a.0.1 a.1)
    ∙ ap (λ (r : Reading ℕ). r >>= λ len. payload_of a.0.0 len.0 len.1) (number_more w32 a.0.1 more b.0.0 b.0.1 b.1) ∙ of_more a.0.0 b.0.0 b.0.1 more rest m b.2

-- a fault of a number or after it
bind_err : {A B : Type 0} (r : Result A CodecFault) (f : A → Result B CodecFault) (fault : CodecFault) (P : Type 0) → (r >>= f) ≡ Err fault → (r ≡ Err fault → P) → ((x : A) → r ≡ Ok x → f x ≡ Err fault → P) → P
bind_err (Ok x) f fault P e first second = second x refl e
bind_err (Err d) f fault P e first second = first cc

fields_none : (bytes more : List ℕ) (fault : CodecFault) → fault ≢ Short → fields_at bytes ≡ Err fault → fields_at (bytes ++ more) ≡ Err fault
unfolding fields_at payload_at
fields_none bytes more fault other e =
    bind_err (number_at w64 bytes) (λ number. payload_at number.0 number.1) fault (fields_at (bytes ++ more) ≡ Err fault) e (λ short. absurd (other (number_short w64 bytes fault short))) (λ a at rest.
    bind_err (number_at w32 a.1) (λ len. payload_of a.0 len.0 len.1) fault (fields_at (bytes ++ more) ≡ Err fault) rest (λ short. absurd (other (number_short w32 a.1 fault short))) (λ b at_len none.
    ap (λ (r : Reading ℕ). r >>= λ number. payload_at number.0 number.1) (number_more w64 bytes more a.0 a.1 at)
    ∙ ap (λ (r : Reading ℕ). r >>= λ len. payload_of a.0 len.0 len.1) (number_more w32 a.1 more b.0 b.1 at_len) ∙ of_none a.0 b.0 b.1 more fault other none))

pub message_more : (bytes more rest : List ℕ) (m : Message) → message_at bytes ≡ Ok (m, rest) → message_at (bytes ++ more) ≡ Ok (m, rest ++ more)
unfolding message_at
message_more [] more rest m e = absurd cc
message_more (first ∷ bytes) more rest m e =
    by_test (first == 0x52) (fields_at bytes) (Err (BadTag 0)) (Ok (m, rest)) e (λ is read. rw is (fields_more bytes more rest m read)) (λ _ fault. absurd cc)

pub message_none : (bytes more : List ℕ) (fault : CodecFault) → fault ≢ Short → message_at bytes ≡ Err fault → message_at (bytes ++ more) ≡ Err fault
unfolding message_at
message_none [] more fault other e = absurd (other cc)
message_none (first ∷ bytes) more fault other e =
    by_test (first == 0x52) (fields_at bytes) (Err (BadTag 0)) (Err fault) e (λ is none. rw is (fields_none bytes more fault other none)) (λ is fault_is. rw is fault_is)

-- where a message ends
pub record IsTaken (bytes : List ℕ) (m : Message) (rest : List ℕ) : Type 0 where
  pub enough : length m.payload + 13 ≤ length bytes
  pub rest_is : drop (length m.payload + 13) bytes ≡ rest

fields_end : (bytes rest : List ℕ) (m : Message) → fields_at bytes ≡ Ok (m, rest) → (length m.payload + 12 ≤ length bytes) × (drop (length m.payload + 12) bytes ≡ rest)
unfolding fields_at
fields_end bytes rest m e =
    let a = bind_ok (number_at w64 bytes) (λ number. payload_at number.0 number.1) (m, rest) e in
    let ends = number_ends w64 bytes a.0.0 a.0.1 a.1 in
    let stands = payload_stands a.0.0 a.0.1 rest m a.2 in
    let behind : length a.0.1 ≡ length bytes - 8 = ap length (sym ends.rest_is) ∙ length-drop 8 bytes in
    let parts : length m.payload + 12 ≡ 8 + (length m.payload + 4) = omega arith in (
      omega (arith, stands.enough, behind, ends.enough),
      ap (λ (n : ℕ). drop n bytes) parts ∙ sym (drop-drop (length m.payload + 4) 8 bytes) ∙ ap (drop (length m.payload + 4)) ends.rest_is ∙ stands.rest_is,
    )

one_off : (n : ℕ) (first : ℕ) (bytes : List ℕ) → drop (n + 13) (first ∷ bytes) ≡ drop (n + 12) bytes
one_off n first bytes = (let parts : n + 13 ≡ 1 + (n + 12) = omega arith in ap (λ (k : ℕ). drop k (first ∷ bytes)) parts) ∙ sym (drop-drop (n + 12) 1 (first ∷ bytes))

pub message_taken : (bytes rest : List ℕ) (m : Message) → message_at bytes ≡ Ok (m, rest) → IsTaken bytes m rest
unfolding message_at
message_taken [] rest m e = absurd cc
message_taken (first ∷ bytes) rest m e =
    by_test (first == 0x52) (fields_at bytes) (Err (BadTag 0)) (Ok (m, rest)) e (λ is read.
    let f = fields_end bytes rest m read in
    record { enough = omega (arith, f.0); rest_is = one_off (length m.payload) first bytes ∙ f.1 }) (λ _ fault. absurd cc)

pub message_long : (m : Message) → message_length m ≡ length m.payload + 13
unfolding message_spelling
message_long m = omega arith

-- ---- what was written

pub on_ok : {A E P Q : Type 0} (r : Result A E) → (P → Q) → OnOk r P → OnOk r Q
on_ok (Ok x) f p = f p
on_ok (Err e) f p = tt

pub spelled : (out first second third last : List ℕ) (number : ℕ) (payload : List ℕ) → first ≡ out ++ 0x52 ∷ [] → second ≡ first ++ to_be_bytes w64 number → third ≡ second ++ to_be_bytes w32 (length payload) → last ≡ third ++ payload →
    last ≡ out ++ message_spelling (record { number = number; payload = payload })
unfolding message_spelling
spelled out first second third last number payload one two three four =
    let eight : List ℕ = to_be_bytes w64 number in
    let four_bytes : List ℕ = to_be_bytes w32 (length payload) in
    four ∙ ap (λ (b : List ℕ). b ++ payload) (three ∙ ap (λ (b : List ℕ). b ++ four_bytes) (two ∙ ap (λ (b : List ℕ). b ++ eight) one))
    ∙ append_assoc ((out ++ 0x52 ∷ []) ++ eight) four_bytes payload ∙ append_assoc (out ++ 0x52 ∷ []) eight (four_bytes ++ payload) ∙ append_assoc out (0x52 ∷ []) (eight ++ (four_bytes ++ payload))

-- ---- what is left

none_left : (l : List ℕ) → length l ≡ 0 → l ≡ []
none_left [] e = refl
none_left (x ∷ xs) e = absurd (omega (arith, e))

pub empty_left : (items left : List ℕ) (start len : ℕ) → len ≡ length items → start ≤ length items → drop start items ≡ left → (IsTrue (nat_eq len start) → left ≡ []) × (left ≡ [] → IsTrue (nat_eq len start))
empty_left items left start len len_is within is =
    let few : length left ≡ length items - start = ap length (sym is) ∙ length-drop start items in (
      λ same. none_left left (omega (arith, few, eqb-true len start same, len_is)),
      λ none. eq-eqb len start (omega (arith, few, ap length none, len_is, within)),
    )

-- ---- one message only

pub one_message : (bytes rest others : List ℕ) (m other : Message) → message_at bytes ≡ Ok (m, rest) → message_at bytes ≡ Ok (other, others) → (m ≡ other) × (rest ≡ others)
one_message bytes rest others m other first second =
    let pair = ok_is (m, rest) (other, others) (sym first ∙ second) in
    (ap (λ (p : Message × List ℕ). p.0) pair, ap (λ (p : Message × List ℕ). p.1) pair)

-- ---- a message is taken

-- where it ends in all bytes that are held
pub record IsMoved (items : List ℕ) (start total : ℕ) (rest : List ℕ) (m : Message) : Type 0 where
  pub rest_few : length rest ≤ total
  pub not_before : start ≤ total - length rest
  pub within : total - length rest ≤ length items
  pub rest_is : drop (total - length rest) items ≡ rest
  pub count : (total - length rest) - start ≡ message_length m

pub moved : (items left rest : List ℕ) (start total : ℕ) (m : Message) → total ≡ length items → start ≤ length items → drop start items ≡ left → message_at left ≡ Ok (m, rest) → IsMoved items start total rest m
moved items left rest start total m total_is within left_is read =
    let taken = message_taken left rest m read in
    let few : length left ≡ length items - start = ap length (sym left_is) ∙ length-drop start items in
    let fewer : length rest ≡ length left - (length m.payload + 13) = ap length (sym taken.rest_is) ∙ length-drop (length m.payload + 13) left in
    let end : total - length rest ≡ start + (length m.payload + 13) = omega (arith, total_is, few, fewer, taken.enough, within) in
    record {
      rest_few = omega (arith, total_is, few, fewer);
      not_before = omega (arith, end);
      within = omega (arith, total_is, few, fewer);
      rest_is = ap (λ (n : ℕ). drop n items) end ∙ sym (drop-drop (length m.payload + 13) start items) ∙ ap (drop (length m.payload + 13)) left_is ∙ taken.rest_is;
      count = omega (arith, end, message_long m);
    }

same_state : (left other : List ℕ) (place there : ℕ) → left ≡ other → place ≡ there → record { left = left; place = place } ≡ (let s : ReaderState = record { left = other; place = there } in s)
same_state left other place there lefts places = cc

pub moved_state : (s : ReaderState) (items left rest others : List ℕ) (start total place now : ℕ) (m other : Message) → IsMoved items start total rest m → record { left = drop start items; place = place } ≡ s → message_at left ≡ Ok (m, rest) → left ≡ s.left →
    now ≡ min (place + ((total - length rest) - start)) (2 ^ 64 - 1) → message_at s.left ≡ Ok (other, others) → record { left = drop (total - length rest) items; place = now } ≡ after_message s other others
moved_state s items left rest others start total place now m other is state_is read left_is now_is there =
    let one = one_message left rest others m other read (ap message_at left_is ∙ there) in
    let place_is : place ≡ s.place = ap (λ (t : ReaderState). t.place) state_is in
    same_state (drop (total - length rest) items) others now (min (s.place + message_length other) (2 ^ 64 - 1)) (is.rest_is ∙ one.1)
    (now_is ∙ ap (λ (n : ℕ). min (place + n) (2 ^ 64 - 1)) (is.count ∙ ap message_length one.0) ∙ ap (λ (n : ℕ). min (n + message_length other) (2 ^ 64 - 1)) place_is)
