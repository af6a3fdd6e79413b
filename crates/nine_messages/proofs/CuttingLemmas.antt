-- Where messages begin and end in bytes that come in pieces.
use Rattle.std.proofs.Common.{◌≡◌, ℕ, zero, suc, ◌+◌, ◌<◌, ◌≤◌, ltb, List, [], ◌∷◌, ◌++◌, length, take, drop, Option, Some, None, refl, sym, ap, subst, ◌∙◌, append_assoc, arith, inl, inr}
use Rattle.std.specs.Int.{w32, from_le_bytes}
use Rattle.std.proofs.lemmas.Bool.{cases_lt, ltb-false, ltb-true}
use Rattle.std.proofs.lemmas.List.{take_at, take-append-le, take-append-drop, length-append, length-take}
use Rattle.nine_messages.specs.Fields.{number_at}
use Rattle.nine_messages.specs.Codec.{AreBytes}
use Rattle.nine_messages.specs.Requests.{request_kind, request_fields, MessageView, spelling, IsMessage, message_of}
use Rattle.nine_messages.specs.Cutting.{size_of, IsNoMessage, IsNext, IsBad, small, large, unfilled, IsOpen, without_size, within_message, agreed_after, Cuts, none, one_more, CutsAll, AreOneCut, IsLeft, less, bad, Begins, with_message, with_less, with_bad}
use Rattle.nine_messages.proofs.ReadingLemmas.{by_test, some_parts, AreBytes-after}
use Rattle.nine_messages.proofs.FieldLemmas.{AreBytes-take}
use Rattle.nine_messages.proofs.MessageLemmas.{length-message, size_of-message, messages_apart, message_found, messages_refused}

-- what is known of bytes that begin with a message
pub record NextFacts (agreed : ℕ) (left : List ℕ) (m : MessageView) (rest : List ℕ) : Type 0 where
  pub size_is : size_of left ≡ length (spelling m)
  pub least : 7 ≤ length (spelling m)
  pub most : length (spelling m) ≤ agreed
  pub together : length left ≡ length (spelling m) + length rest
  pub front : take (size_of left) left ≡ spelling m

at_least : (n : ℕ) → 7 ≤ 7 + n
at_least n = omega arith

pub next_facts : (agreed : ℕ) (left rest : List ℕ) (m : MessageView) → IsNext agreed left m rest → NextFacts agreed left m rest
next_facts agreed left rest m h =
    let len = length-message (request_kind m.request) m.tag (request_fields m.request) in
    let size : size_of left ≡ length (spelling m) = ap size_of h.parts ∙ size_of-message (request_kind m.request) m.tag (request_fields m.request) rest h.spelled.size_fits ∙ sym len in
    record {
      size_is = size;
      least = subst (λ (n : ℕ). 7 ≤ n) (sym len) (at_least (length (request_fields m.request)));
      most = h.within;
      together = ap length h.parts ∙ length-append (spelling m) rest;
      front = ap (λ (n : ℕ). take n left) size ∙ ap (take (length (spelling m))) h.parts ∙ take_at (spelling m) rest (length (spelling m)) refl;
    }

-- ---- no two ways

too_low : (size len : ℕ) → size ≡ len → 7 ≤ len → size < 7 → ⊥
too_low size len is least low = omega arith

too_high : (agreed size len : ℕ) → size ≡ len → len ≤ agreed → agreed < size → ⊥
too_high agreed size len is most high = omega arith

too_few : (all size len rest : ℕ) → all ≡ len + rest → size ≡ len → all < size → ⊥
too_few all size len rest together is few = omega arith

none_there : (all len rest : ℕ) → all ≡ len + rest → 7 ≤ len → all < 4 → ⊥
none_there all len rest together least few = omega arith

pub not_bad : (agreed : ℕ) (left rest : List ℕ) (m : MessageView) → IsNext agreed left m rest → IsBad agreed left → ⊥
not_bad agreed left rest m h (small there low) = let facts = next_facts agreed left rest m h in too_low (size_of left) (length (spelling m)) facts.size_is facts.least low
not_bad agreed left rest m h (large there high) = let facts = next_facts agreed left rest m h in too_high agreed (size_of left) (length (spelling m)) facts.size_is facts.most high
not_bad agreed left rest m h (unfilled there whole never) = let facts = next_facts agreed left rest m h in never m h.spelled facts.front

pub not_open : (agreed : ℕ) (left rest : List ℕ) (m : MessageView) → IsNext agreed left m rest → IsOpen agreed left → ⊥
not_open agreed left rest m h (without_size few) = let facts = next_facts agreed left rest m h in none_there (length left) (length (spelling m)) (length rest) facts.together facts.least few
not_open agreed left rest m h (within_message there least most few) = let facts = next_facts agreed left rest m h in too_few (length left) (size_of left) (length (spelling m)) (length rest) facts.together facts.size_is few

no_size : (n : ℕ) → 4 ≤ n → n < 4 → ⊥
no_size n there few = omega arith

not_between : (low high : ℕ) → low < high → high ≤ low → ⊥
not_between low high below above = omega arith

pub bad_not_open : (agreed : ℕ) (left : List ℕ) → IsBad agreed left → IsOpen agreed left → ⊥
bad_not_open agreed left (small there low) (without_size few) = no_size (length left) there few
bad_not_open agreed left (small there low) (within_message more least most few) = not_between (size_of left) 7 low least
bad_not_open agreed left (large there high) (without_size few) = no_size (length left) there few
bad_not_open agreed left (large there high) (within_message more least most few) = not_between agreed (size_of left) high most
bad_not_open agreed left (unfilled there whole never) (without_size few) = no_size (length left) there few
bad_not_open agreed left (unfilled there whole never) (within_message more least most few) = not_between (length left) (size_of left) few whole

pub one_next : (agreed : ℕ) (left : List ℕ) (m n : MessageView) (rest others : List ℕ) → IsNext agreed left m rest → IsNext agreed left n others → (m ≡ n) × (rest ≡ others)
one_next agreed left m n rest others first second = messages_apart m n rest others first.spelled second.spelled (sym first.parts ∙ second.parts)

-- ---- one way

length-front : (n : ℕ) (left : List ℕ) → n ≤ length left → length (take n left) ≡ n
length-front n left h = omega (arith, length-take n left)

-- a whole message, or none
by_reading : (agreed : ℕ) (left : List ℕ) (read : Option MessageView) → AreBytes left → 4 ≤ length left → size_of left ≤ agreed → size_of left ≤ length left → message_of (take (size_of left) left) ≡ read → Begins agreed left
by_reading agreed left (Some m) fits there most whole e =
    let it = message_found (take (size_of left) left) m (AreBytes-take (size_of left) left fits) e in
    let len : length (spelling m) ≡ size_of left = ap length (sym it.1) ∙ length-front (size_of left) left whole in
    with_message m (drop (size_of left) left) (record {
      spelled = it.0;
      parts = sym (take-append-drop (size_of left) left) ∙ ap (λ (front : List ℕ). front ++ drop (size_of left) left) it.1;
      within = subst (λ (n : ℕ). n ≤ agreed) (sym len) most;
    })
by_reading agreed left None fits there most whole e = with_bad (unfilled there whole (messages_refused (take (size_of left) left) e))

pub begins : (agreed : ℕ) (left : List ℕ) → AreBytes left → Begins agreed left
begins agreed left fits =
    elim (cases_lt (length left) 4) [
      | inl few ↦ with_less (without_size few)
      | inr there ↦ elim (cases_lt (size_of left) 7) [
        | inl low ↦ with_bad (small there low)
        | inr least ↦ elim (cases_lt agreed (size_of left)) [
          | inl high ↦ with_bad (large there high)
          | inr most ↦ elim (cases_lt (length left) (size_of left)) [
            | inl part ↦ with_less (within_message there least most part)
            | inr whole ↦ by_reading agreed left (message_of (take (size_of left) left)) fits there most whole refl
          ]
        ]
      ]
    ]

-- ---- when more comes

pub size_of-more : (left more : List ℕ) → 4 ≤ length left → size_of (left ++ more) ≡ size_of left
unfolding size_of
size_of-more left more there = ap (from_le_bytes w32) (take-append-le 4 left more there)

pub next_stays : (agreed : ℕ) (left more rest : List ℕ) (m : MessageView) → IsNext agreed left m rest → IsNext agreed (left ++ more) m (rest ++ more)
next_stays agreed left more rest m h = record {
  spelled = h.spelled;
  parts = ap (λ (bytes : List ℕ). bytes ++ more) h.parts ∙ append_assoc (spelling m) rest more;
  within = h.within;
}

longer : (n : ℕ) (left more : List ℕ) → n ≤ length left → n ≤ length (left ++ more)
longer n left more h = omega (arith, length-append left more)

pub bad_stays : (agreed : ℕ) (left more : List ℕ) → IsBad agreed left → IsBad agreed (left ++ more)
bad_stays agreed left more (small there low) = small (longer 4 left more there) (subst (λ (n : ℕ). n < 7) (sym (size_of-more left more there)) low)
bad_stays agreed left more (large there high) = large (longer 4 left more there) (subst (λ (n : ℕ). agreed < n) (sym (size_of-more left more there)) high)
bad_stays agreed left more (unfilled there whole never) =
    let size = size_of-more left more there in
    let front : take (size_of (left ++ more)) (left ++ more) ≡ take (size_of left) left = ap (λ (n : ℕ). take n (left ++ more)) size ∙ take-append-le (size_of left) left more whole in
    unfilled (longer 4 left more there) (subst (λ (n : ℕ). n ≤ length (left ++ more)) (sym size) (longer (size_of left) left more whole)) (λ m spelled e. never m spelled (sym front ∙ e))

shorter_by : (all len rest : ℕ) → all ≡ len + rest → 7 ≤ len → rest < all
shorter_by all len rest together least = omega arith

pub next_shrinks : (agreed : ℕ) (left rest : List ℕ) (m : MessageView) → IsNext agreed left m rest → length rest < length left
next_shrinks agreed left rest m h = let facts = next_facts agreed left rest m h in shorter_by (length left) (length (spelling m)) (length rest) facts.together facts.least

-- ---- streams

pub cuts_more : (agreed to : ℕ) (left end more : List ℕ) (messages : List MessageView) → Cuts agreed left messages to end → Cuts agreed (left ++ more) messages to (end ++ more)
cuts_more _ _ _ _ more _ (none agreed left) = none agreed (left ++ more)
cuts_more _ _ _ _ more _ (one_more agreed left m rest others to end first h) =
    one_more agreed (left ++ more) m (rest ++ more) others to (end ++ more) (next_stays agreed left more rest m first) (cuts_more (agreed_after agreed m.request) to rest end more others h)

pub cuts_join : (agreed to last : ℕ) (left end stop : List ℕ) (messages others : List MessageView) → Cuts agreed left messages to end → Cuts to end others last stop → Cuts agreed left (messages ++ others) last stop
cuts_join _ _ last _ _ stop _ others (none agreed left) second = second
cuts_join _ _ last _ _ stop _ others (one_more agreed left m rest more to end first h) second =
    one_more agreed left m rest (more ++ others) last stop first (cuts_join (agreed_after agreed m.request) to last rest end stop more others h second)

next_not_left : (agreed : ℕ) (left rest : List ℕ) (m : MessageView) → IsNext agreed left m rest → IsLeft agreed left → ⊥
next_not_left agreed left rest m h (less few) = not_open agreed left rest m h few
next_not_left agreed left rest m h (bad wrong) = not_bad agreed left rest m h wrong

-- a second way to cut what has no message in front
none_cut : (agreed last : ℕ) (left stop : List ℕ) (others : List MessageView) → IsLeft agreed left → Cuts agreed left others last stop → AreOneCut [] others agreed last left stop
none_cut _ _ _ _ _ over (none agreed left) = record { messages_are = refl; sizes_are = refl; ends_are = refl }
none_cut _ _ _ _ _ over (one_more agreed left n more ns last stop second k) = absurd (next_not_left agreed left more n second over)

-- the same bytes in front, in the second way
record Goes (agreed : ℕ) (left : List ℕ) (m : MessageView) (rest : List ℕ) (others : List MessageView) (last : ℕ) (stop : List ℕ) : Type 0 where
  after_it : List MessageView
  others_are : m ∷ after_it ≡ others
  goes_on : Cuts (agreed_after agreed m.request) rest after_it last stop

goes : (agreed last : ℕ) (left rest stop : List ℕ) (m : MessageView) (others : List MessageView) → IsNext agreed left m rest → Cuts agreed left others last stop → IsLeft last stop → Goes agreed left m rest others last stop
goes _ _ _ rest _ m _ first (none agreed left) over = absurd (next_not_left agreed left rest m first over)
goes _ _ _ rest _ m _ first (one_more agreed left n more ns last stop second k) over =
    let same = one_next agreed left m n rest more first second in
    let moved : Cuts (agreed_after agreed m.request) more ns last stop = subst (λ (p : MessageView). Cuts (agreed_after agreed p.request) more ns last stop) (sym same.0) k in
    record {
      after_it = ns;
      others_are = ap (λ (p : MessageView). p ∷ ns) same.0;
      goes_on = subst (λ (r : List ℕ). Cuts (agreed_after agreed m.request) r ns last stop) (sym same.1) moved;
    }

pub one_cut : (agreed to last : ℕ) (left end stop : List ℕ) (messages others : List MessageView) → Cuts agreed left messages to end → IsLeft to end → Cuts agreed left others last stop → IsLeft last stop
    → AreOneCut messages others to last end stop
one_cut _ _ last _ _ stop _ others (none agreed left) over second also = none_cut agreed last left stop others over second
one_cut _ _ last _ _ stop _ others (one_more agreed left m rest ms to end first h) over second also =
    let it = goes agreed last left rest stop m others first second also in
    let later = one_cut (agreed_after agreed m.request) to last rest end stop ms it.after_it h over it.goes_on also in
    record { messages_are = ap (λ (ps : List MessageView). m ∷ ps) later.messages_are ∙ it.others_are; sizes_are = later.sizes_are; ends_are = later.ends_are }

cut_within : (fuel agreed : ℕ) (left : List ℕ) → AreBytes left → length left < fuel → CutsAll agreed left
cut_within zero agreed left fits lt = absurd (omega arith)
cut_within (suc fuel) agreed left fits lt =
    elim (begins agreed left fits) [
      | with_message m rest h ↦
          let shorter = next_shrinks agreed left rest m h in
          let it = cut_within fuel (agreed_after agreed m.request) rest (AreBytes-after (spelling m) rest (subst AreBytes h.parts fits)) (omega arith) in
          record { messages = m ∷ it.messages; to = it.to; end = it.end; cut = one_more agreed left m rest it.messages it.to it.end h it.cut; over = it.over }
      | with_less h ↦ record { messages = []; to = agreed; end = left; cut = none agreed left; over = less h }
      | with_bad h ↦ record { messages = []; to = agreed; end = left; cut = none agreed left; over = bad h }
    ]

pub each_is_cut : (agreed : ℕ) (left : List ℕ) → AreBytes left → CutsAll agreed left
each_is_cut agreed left fits = cut_within (suc (length left)) agreed left fits (omega arith)

-- ---- what the code finds

pub small_is_bad : (agreed : ℕ) (left : List ℕ) → 4 ≤ length left → size_of left < 7 → IsBad agreed left
small_is_bad agreed left there low = small there low

pub large_is_bad : (agreed : ℕ) (left : List ℕ) → 4 ≤ length left → agreed < size_of left → IsBad agreed left
large_is_bad agreed left there high = large there high

pub unfilled_is_bad : (agreed : ℕ) (left : List ℕ) → 4 ≤ length left → size_of left ≤ length left → IsNoMessage (take (size_of left) left) → IsBad agreed left
unfilled_is_bad agreed left there whole never = unfilled there whole never

pub part_is_open : (agreed : ℕ) (left : List ℕ) → 4 ≤ length left → 7 ≤ size_of left → size_of left ≤ agreed → length left < size_of left → IsOpen agreed left
part_is_open agreed left there least most part = within_message there least most part

pub whole_is_next : (agreed : ℕ) (left : List ℕ) (m : MessageView) (rest : List ℕ) → IsMessage m → take (size_of left) left ≡ spelling m → rest ≡ drop (size_of left) left → size_of left ≤ agreed → size_of left ≤ length left → IsNext agreed left m rest
whole_is_next agreed left m rest spelled front behind most whole =
    let len : length (spelling m) ≡ size_of left = ap length (sym front) ∙ length-front (size_of left) left whole in
    record {
      spelled = spelled;
      parts = sym (take-append-drop (size_of left) left) ∙ ap (λ (f : List ℕ). f ++ drop (size_of left) left) front ∙ ap (λ (r : List ℕ). spelling m ++ r) (sym behind);
      within = subst (λ (n : ℕ). n ≤ agreed) (sym len) most;
    }

pub sized_left : (left rest : List ℕ) (size : ℕ) → number_at w32 left ≡ Some (size, rest) → (size ≡ size_of left) × (4 ≤ length left)
unfolding size_of
sized_left left rest size e =
    by_test (ltb (length left) 4) None (Some (from_le_bytes w32 (take 4 left), drop 4 left)) (Some (size, rest)) e (λ short gone. absurd cc) (λ long found.
    let parts = some_parts (from_le_bytes w32 (take 4 left)) size (drop 4 left) rest found in
    (sym parts.0, ltb-false _ _ long))

pub unsized_left : (agreed : ℕ) (left : List ℕ) → number_at w32 left ≡ None → IsOpen agreed left
unsized_left agreed left e =
    by_test (ltb (length left) 4) None (Some (from_le_bytes w32 (take 4 left), drop 4 left)) None e (λ short gone. without_size (ltb-true _ _ short)) (λ long found. absurd cc)

pub ruleset cutting = (small_is_bad, large_is_bad, unfilled_is_bad, part_is_open, whole_is_next)
