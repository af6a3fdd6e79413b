-- Each word writes a value of a grammar, or it writes none.
use Rattle.std.proofs.Common.{◌≡◌, ◌≢◌, ℕ, ◌^◌, ◌<◌, ◌≤◌, Bool, true, false, not, List, [], ◌∷◌, ◌++◌, length, slice_index, Result, Ok, Err, Option, Some, None, IsTrue, codes, ◌⊎◌, inl, inr, refl, sym, ap, ◌∙◌, subst, arith, append-nil, append_assoc}
use Rattle.std.specs.Prelude.{◌==◌}
use Rattle.std.specs.Bool.{Decides}
use Rattle.std.specs.List.{list_all}
use Rattle.std.specs.Str.{bytes_eq}
use Rattle.std.specs.Str.Parse.{digits_value}
use Rattle.std.proofs.lemmas.Bool.{cases_eq, cases_lt, cases_Bool, false≢true, and_from, and_parts, eqb-true}
use Rattle.std.proofs.lemmas.List.{append_cancel_right}
use Rattle.std.proofs.lemmas.Slice.Eq.{bytes_eq-Decides}
use Rattle.hex.specs.Hex.{decode_of}
use Rattle.hex.specs.declared.error.FromHexError.{FromHexError}
use Rattle.bl_syntax.specs.Citable.{DoRise}
use Rattle.bl_syntax.specs.Names.{is_digit, is_principal_name, is_text}
use Rattle.bl_syntax.specs.declared.codec_fault.CodecFault.{CodecFault}
use Rattle.bl_syntax.specs.declared.terms.TimePoint.{TimePoint}
use Rattle.bl_syntax.specs.declared.terms.TimePoint.TheVariants.{NegInf, At, PosInf}
use Rattle.bl_tokens.specs.declared.faults.TextFault.{TextFault}
use Rattle.bl_tokens.specs.Times.{time_reading}
use Rattle.line_words.proofs.TimeLemmas.{read, same_read}
use Rattle.bl_syntax.specs.declared.terms.Perm.{Perm}
use Rattle.bl_syntax.specs.declared.terms.Perm.TheVariants.{Read, Write, Execute, Identity, Govern}
use Rattle.line_text.specs.HexWord.{IsHex, has_no_upper_case}
use Rattle.line_text.specs.Words.{is_word_end, HasNo}
use Rattle.line_text.proofs.HexLemmas.{IsHex-nothing, IsHex-form, IsHex-same, IsHex-decode_of, decode_of-IsHex}
use Rattle.line_text.proofs.WordLemmas.{same_split}
use Rattle.procap.specs.declared.procap.Procap.{Procap}
use Rattle.procap.specs.Procap.{procap_spelling, procap_at}
use Rattle.procap.proofs.ProcapLemmas.{procap_codec}
use Rattle.line_words.specs.Cited.{AreJoined, one_number, more_numbers, IsCited}
use Rattle.line_words.specs.Grammar.{IsName, is_name_word, IsPrincipal, IsData, IsQuoted, IsPermission, IsSignature, IsSignatureHex, IsSigned, by_ring, by_bytes}
use Rattle.line_words.specs.Numbers.{IsSecond, IsNumberBelow, IsLongNumber, IsFile, IsIssue}
use Rattle.line_words.specs.Numerals.{IsPlain}
use Rattle.line_words.specs.Procaps.{IsProcapHex, IsProcapWord, by_number, by_spelling}
use Rattle.line_words.specs.declared.procap_word.ProcapWord.TheVariants.{Procap as BySpelling, Issue}
use Rattle.line_words.proofs.CitedLemmas.{IsFirst, alone, followed, first_of, no_first, joined_some, AreJoined-same}
use Rattle.line_words.proofs.NumeralLemmas.{number_of, IsWritten-below, IsNumberBelow-unique}
use Rattle.line_words.proofs.ProcapLemmas.{number_of_word, not_given}

-- there is such a value, or there is none
abbrev pub IsDecided : {A : Type 0} → (A → Type 0) → Type 0
IsDecided {A} P = ((x : A) × P x) ⊎ ((x : A) → P x → ⊥)

decided : {P : Type 0} (b : Bool) → Decides b P → P ⊎ (P → ⊥)
decided true d = inl (d.0 refl)
decided false d = inr (λ p. false≢true (d.1 p))

-- a narrower grammar, whose values the wider one gives
refined : {A : Type 0} (P Q : A → Type 0) → IsDecided P → ((x : A) → P x → Q x ⊎ (Q x → ⊥)) → ((x y : A) → P x → P y → x ≡ y) → ((x : A) → Q x → P x) → IsDecided Q
refined P Q h test same back = elim h [
  | inl one ↦ elim (test one.0 one.1) [
    | inl is ↦ inl (one.0, is)
    | inr never ↦ inr (λ y q. never (subst Q (sym (same one.0 y one.1 (back y q))) q))
  ]
  | inr none ↦ inr (λ y q. none y (back y q))
]

-- ---- numbers

-- digits alone, some and not more than that
record IsRun (most : ℕ) (word : List ℕ) : Type 0 where
  digits : IsTrue (list_all is_digit word)
  some : 1 ≤ length word
  few : length word ≤ most

long_or_not : (most : ℕ) (word : List ℕ) → IsTrue (list_all is_digit word) → IsRun most word ⊎ (IsRun most word → ⊥)
long_or_not most word digits = elim (cases_lt most (length word)) [
  | inl long ↦ inr (λ h. omega (arith, h.few, long))
  | inr few ↦ elim (cases_lt 0 (length word)) [
    | inl some ↦ inl (record { digits = digits; some = omega arith; few = few })
    | inr none ↦ inr (λ h. omega (arith, h.some, none))
  ]
]

run_or_not : (most : ℕ) (word : List ℕ) → IsRun most word ⊎ (IsRun most word → ⊥)
run_or_not most word = elim (cases_Bool (list_all is_digit word)) [
  | inl digits ↦ long_or_not most word digits
  | inr other ↦ inr (λ h. false≢true (sym other ∙ h.digits))
]

zero_or_not : (word : List ℕ) → IsRun 20 word → IsPlain word ⊎ (IsPlain word → ⊥)
zero_or_not word h = elim (cases_eq (slice_index word 0) 48) [
  | inl zero_first ↦ elim (cases_eq (length word) 1) [
    | inl one ↦ inl (record { some = h.some; few = h.few; digits = h.digits; no_zero = λ _. one })
    | inr more ↦ inr (λ p. more (p.no_zero zero_first))
  ]
  | inr other ↦ inl (record { some = h.some; few = h.few; digits = h.digits; no_zero = λ is. absurd (other is) })
]

plain_or_not : (word : List ℕ) → IsPlain word ⊎ (IsPlain word → ⊥)
plain_or_not word = elim (run_or_not 20 word) [
  | inl h ↦ zero_or_not word h
  | inr never ↦ inr (λ p. never (record { digits = p.digits; some = p.some; few = p.few }))
]

pub number_decided : (limit : ℕ) → limit ≤ 2 ^ 64 → (word : List ℕ) → IsDecided (IsNumberBelow limit word)
number_decided limit few word = elim (plain_or_not word) [
  | inl is ↦ elim (cases_lt (digits_value 10 word) limit) [
    | inl fits ↦ inl (digits_value 10 word, number_of limit word few is fits)
    | inr large ↦ inr (λ n h. omega (arith, h.fits, large, (IsWritten-below limit few word n h).value))
  ]
  | inr never ↦ inr (λ n h. never (IsWritten-below limit few word n h).plain)
]

pub file_decided : (word : List ℕ) → IsDecided (IsFile word)
file_decided [] = inr (λ node h. let never = h.word_is in absurd (cc))
file_decided (byte ∷ digits) = elim (cases_eq byte 35) [
  | inl sign ↦ elim (number_decided (2 ^ 64) (omega arith) digits) [
    | inl one ↦ inl (record { 0 = one.0 }, record { digits = digits; word_is = ap (λ b. b ∷ digits) sign; number = one.1 })
    | inr none ↦ inr (λ node h.
        let both : byte ∷ digits ≡ 35 ∷ h.digits = h.word_is in
        let same : h.digits ≡ digits = cc in
        none node.0 (subst (λ ds. IsNumberBelow (2 ^ 64) ds node.0) same h.number))
  ]
  | inr other ↦ inr (λ node h.
      let both : byte ∷ digits ≡ 35 ∷ h.digits = h.word_is in
      let is : byte ≡ 35 = cc in
      other is)
]

pub issue_decided : (word : List ℕ) → IsDecided (IsIssue word)
issue_decided word =
    refined (IsLongNumber word) (IsIssue word) (number_decided (2 ^ 64) (omega arith) word) (λ n h. elim (cases_lt 0 n) [
      | inl some ↦ inl (record { number_is = h; some = omega arith })
      | inr none ↦ inr (λ i. omega (arith, i.some, none))
    ]) (λ m n h k. IsNumberBelow-unique (2 ^ 64) (omega arith) h k) (λ n i. i.number_is)

second_by : (word : List ℕ) (r : Result TimePoint TextFault) → time_reading word ≡ r → IsDecided (IsSecond word)
second_by word (Ok (At n)) e = inl (n, e)
second_by word (Ok NegInf) e = inr (λ n h. let both : NegInf ≡ At n = same_read NegInf (At n) (sym e ∙ h) in absurd cc)
second_by word (Ok PosInf) e = inr (λ n h. let both : PosInf ≡ At n = same_read PosInf (At n) (sym e ∙ h) in absurd cc)
second_by word (Err fault) e = inr (λ n h. let both : read (At n) ≡ Err fault = sym h ∙ e in absurd cc)

pub second_decided : (word : List ℕ) → IsDecided (IsSecond word)
second_decided word = second_by word (time_reading word) refl

-- ---- names, texts and permissions

pub name_decided : (word : List ℕ) → IsDecided (IsName word)
name_decided word = elim (cases_Bool (is_name_word word)) [
  | inl named ↦ inl (word, record { named = named; same = refl })
  | inr other ↦ inr (λ name h. false≢true (sym other ∙ h.named))
]

pub principal_decided : (word : List ℕ) → IsDecided (IsPrincipal word)
principal_decided word = elim (cases_Bool (is_principal_name word)) [
  | inl named ↦ inl (word, record { named = named; same = refl })
  | inr other ↦ inr (λ name h. false≢true (sym other ∙ h.named))
]

-- a quote at the end
abbrev EndsWithQuote : List ℕ → List ℕ → Type 0
EndsWithQuote rest text = rest ≡ text ++ 34 ∷ []

no_end : (text : List ℕ) → EndsWithQuote [] text → ⊥
no_end [] h = absurd (cc)
no_end (byte ∷ text) h = absurd (cc)

not_alone : (byte : ℕ) (text : List ℕ) → (byte ≡ 34 → ⊥) → EndsWithQuote (byte ∷ []) text → ⊥
not_alone byte [] other h = let is : byte ≡ 34 = cc in other is
not_alone byte (first ∷ text) other h = let tails : [] ≡ text ++ 34 ∷ [] = cc in no_end text tails

not_later : (byte next : ℕ) (rest text : List ℕ) → ((t : List ℕ) → EndsWithQuote (next ∷ rest) t → ⊥) → EndsWithQuote (byte ∷ next ∷ rest) text → ⊥
not_later byte next rest [] none h = absurd (cc)
not_later byte next rest (first ∷ text) none h = let tails : next ∷ rest ≡ text ++ 34 ∷ [] = cc in none text tails

last_quote : (byte : ℕ) (rest : List ℕ) → ((text : List ℕ) → EndsWithQuote rest text → ⊥) → IsDecided (EndsWithQuote (byte ∷ rest))
last_quote byte [] none = elim (cases_eq byte 34) [
  | inl is ↦ inl ([], ap (λ b. b ∷ []) is)
  | inr other ↦ inr (λ text h. not_alone byte text other h)
]
last_quote byte (next ∷ rest) none = inr (λ text h. not_later byte next rest text none h)

end_decided : (rest : List ℕ) → IsDecided (EndsWithQuote rest)
end_decided [] = inr no_end
end_decided (byte ∷ rest) = elim (end_decided rest) [
  | inl one ↦ inl (byte ∷ one.0, ap (λ l. byte ∷ l) one.1)
  | inr none ↦ last_quote byte rest none
]

abbrev IsBetweenQuotes : List ℕ → List ℕ → Type 0
IsBetweenQuotes word text = word ≡ 34 ∷ (text ++ 34 ∷ [])

between_decided : (word : List ℕ) → IsDecided (IsBetweenQuotes word)
between_decided [] = inr (λ text h. absurd (cc))
between_decided (byte ∷ rest) = elim (cases_eq byte 34) [
  | inl quote ↦ elim (end_decided rest) [
    | inl one ↦ inl (one.0, ap (λ b. b ∷ rest) quote ∙ ap (λ l. 34 ∷ l) one.1)
    | inr none ↦ inr (λ text h. let tails : rest ≡ text ++ 34 ∷ [] = cc in none text tails)
  ]
  | inr other ↦ inr (λ text h. let is : byte ≡ 34 = cc in other is)
]

between-unique : (word first second : List ℕ) → IsBetweenQuotes word first → IsBetweenQuotes word second → first ≡ second
between-unique word first second h k =
    let both : 34 ∷ (first ++ 34 ∷ []) ≡ 34 ∷ (second ++ 34 ∷ []) = sym h ∙ k in
    let tails : first ++ 34 ∷ [] ≡ second ++ 34 ∷ [] = cc in
    append_cancel_right first second (34 ∷ []) tails

pub quoted_decided : (word : List ℕ) → IsDecided (IsQuoted word)
quoted_decided word =
    refined (IsBetweenQuotes word) (IsQuoted word) (between_decided word) (λ text h. elim (cases_Bool (is_text text)) [
      | inl fits ↦ inl (record { fits = fits; word_is = h })
      | inr other ↦ inr (λ q. false≢true (sym other ∙ q.fits))
    ]) (between-unique word) (λ text q. q.word_is)

same_or_not : (word other : List ℕ) → (word ≡ other) ⊎ (word ≡ other → ⊥)
same_or_not word other = decided (bytes_eq word other) (bytes_eq-Decides word other)

no_permission : (word : List ℕ) → (word ≡ codes "read" → ⊥) → (word ≡ codes "write" → ⊥) → (word ≡ codes "execute" → ⊥) → (word ≡ codes "identity" → ⊥) → (word ≡ codes "govern" → ⊥) → (p : Perm) → IsPermission word p → ⊥
no_permission word a b c d e Read = a
no_permission word a b c d e Write = b
no_permission word a b c d e Execute = c
no_permission word a b c d e Identity = d
no_permission word a b c d e Govern = e

pub permission_decided : (word : List ℕ) → IsDecided (IsPermission word)
permission_decided word = elim (same_or_not word (codes "read")) [
  | inl is ↦ inl (Read, is)
  | inr a ↦ elim (same_or_not word (codes "write")) [
    | inl is ↦ inl (Write, is)
    | inr b ↦ elim (same_or_not word (codes "execute")) [
      | inl is ↦ inl (Execute, is)
      | inr c ↦ elim (same_or_not word (codes "identity")) [
        | inl is ↦ inl (Identity, is)
        | inr d ↦ elim (same_or_not word (codes "govern")) [
          | inl is ↦ inl (Govern, is)
          | inr e ↦ inr (no_permission word a b c d e)
        ]
      ]
    ]
  ]
]

-- ---- hexadecimal

by_decoding : (word : List ℕ) → (word ≡ codes "-" → ⊥) → 0 < length word → IsTrue (has_no_upper_case word) → (r : Result (List ℕ) FromHexError) → decode_of word ≡ r → IsDecided (IsHex word)
by_decoding word other some lower (Ok bytes) is = inl (bytes, IsHex-decode_of word bytes some lower is)
by_decoding word other some lower (Err e) is = inr (λ bytes h. let both : ◌≡◌ {A = Result (List ℕ) FromHexError} (Ok bytes) (Err e) = sym (decode_of-IsHex word bytes other h) ∙ is in absurd (cc))

digits_decided : (word : List ℕ) → (word ≡ codes "-" → ⊥) → IsDecided (IsHex word)
digits_decided word other = elim (cases_lt 0 (length word)) [
  | inl some ↦ elim (cases_Bool (has_no_upper_case word)) [
    | inl lower ↦ by_decoding word other some lower (decode_of word) refl
    | inr upper ↦ inr (λ bytes h. false≢true (sym upper ∙ (IsHex-form word bytes other h).1))
  ]
  | inr none ↦ inr (λ bytes h. omega (arith, none, (IsHex-form word bytes other h).0))
]

hex_decided : (word : List ℕ) → IsDecided (IsHex word)
hex_decided word = elim (same_or_not word (codes "-")) [
  | inl dash ↦ inl ([], IsHex-nothing word [] dash refl)
  | inr other ↦ digits_decided word other
]

pub data_decided : (word : List ℕ) → IsDecided (IsData word)
data_decided word =
    refined (IsHex word) (IsData word) (hex_decided word) (λ bytes h. elim (cases_lt 65536 (length bytes)) [
      | inl many ↦ inr (λ d. omega (arith, d.few, many))
      | inr few ↦ inl (record { hex = h; few = few })
    ]) (IsHex-same word) (λ bytes d. d.hex)

pub signature_hex_decided : (word : List ℕ) → IsDecided (IsSignatureHex word)
signature_hex_decided word =
    refined (IsHex word) (IsSignatureHex word) (hex_decided word) (λ bytes h. elim (cases_lt 32768 (length bytes)) [
      | inl many ↦ inr (λ s. omega (arith, s.few, many))
      | inr few ↦ inl (record { hex = h; few = few })
    ]) (IsHex-same word) (λ bytes s. s.hex)

long_signature : (word bytes : List ℕ) → IsHex word bytes → 1 ≤ length bytes → IsSignature word bytes ⊎ (IsSignature word bytes → ⊥)
long_signature word bytes h some = elim (cases_lt 32768 (length bytes)) [
  | inl many ↦ inr (λ s. omega (arith, s.few, many))
  | inr few ↦ inl (record { hex = h; some = some; few = few })
]

signature_decided : (word : List ℕ) → IsDecided (IsSignature word)
signature_decided word =
    refined (IsHex word) (IsSignature word) (hex_decided word) (λ bytes h. elim (cases_lt 0 (length bytes)) [
      | inl some ↦ long_signature word bytes h (omega arith)
      | inr none ↦ inr (λ s. omega (arith, s.some, none))
    ]) (IsHex-same word) (λ bytes s. s.hex)

no_signed : {word : List ℕ} {signature : Option (List ℕ)} → IsSigned word signature → (word ≡ codes "-" → ⊥) → ((bytes : List ℕ) → IsSignature word bytes → ⊥) → ⊥
no_signed by_ring other none = other refl
no_signed (by_bytes word bytes h) other none = none bytes h

pub signed_decided : (word : List ℕ) → IsDecided (IsSigned word)
signed_decided word = elim (same_or_not word (codes "-")) [
  | inl dash ↦ inl (None, subst (λ w. IsSigned w None) (sym dash) by_ring)
  | inr other ↦ elim (signature_decided word) [
    | inl one ↦ inl (Some one.0, by_bytes word one.0 one.1)
    | inr none ↦ inr (λ signature h. no_signed h other none)
  ]
]

-- ---- numbers of statements

one_way : (front behind : List ℕ) → HasNo 44 front → IsTrue (is_word_end 44 behind) → (w b : List ℕ) → HasNo 44 w → IsTrue (is_word_end 44 b) → front ++ behind ≡ w ++ b → (front ≡ w) × (behind ≡ b)
one_way front behind never ends w b no_w ends_b same = let split = same_split 44 front w behind b never no_w ends ends_b same in (split.word, split.rest)

is_no_comma : (byte : ℕ) (test : Bool) → (byte == 44) ≡ test → (byte ≡ 44 → ⊥) → IsTrue (not test)
is_no_comma byte true is other = absurd (other (eqb-true byte 44 is))
is_no_comma byte false is other = refl

no_comma_more : (front : List ℕ) (byte : ℕ) → HasNo 44 front → (byte ≡ 44 → ⊥) → HasNo 44 (front ++ byte ∷ [])
no_comma_more [] byte h other = and_from (not (byte == 44)) true (is_no_comma byte (byte == 44) refl other) refl
no_comma_more (first ∷ front) byte h other =
    let parts = and_parts (not (first == 44)) (list_all (λ b. not (b == 44)) front) h in
    and_from (not (first == 44)) (list_all (λ b. not (b == 44)) (front ++ byte ∷ [])) parts.0 (no_comma_more front byte parts.1 other)

no_others : {front behind numbers : List ℕ} → IsFirst front behind numbers → (rest : List ℕ) → behind ≡ 44 ∷ rest → ((ns : List ℕ) → AreJoined rest ns → ⊥) → ⊥
no_others (alone n h none) rest comma never = absurd (let nothing : [] ≡ 44 ∷ rest = sym none ∙ comma in cc)
no_others (followed n others ns h same more) rest comma never =
    let rests : others ≡ rest = let both : 44 ∷ others ≡ 44 ∷ rest = sym same ∙ comma in cc in
    never ns (subst (λ r. AreJoined r ns) rests more)

last_decided : (front : List ℕ) → HasNo 44 front → IsDecided (AreJoined (front ++ []))
last_decided front no_comma = elim (number_decided (2 ^ 32) (omega arith) front) [
  | inl one ↦ inl (one.0 ∷ [], subst (λ w. AreJoined w (one.0 ∷ [])) (sym (append-nil front)) (one_number front one.0 one.1))
  | inr none ↦ inr (λ numbers h. no_first (first_of front [] (one_way front [] no_comma refl) h) none)
]

comma_decided : (front rest : List ℕ) → HasNo 44 front → IsDecided (AreJoined rest) → IsDecided (AreJoined (front ++ 44 ∷ rest))
comma_decided front rest no_comma others = elim (number_decided (2 ^ 32) (omega arith) front) [
  | inl one ↦ elim others [
    | inl more ↦ inl (one.0 ∷ more.0, more_numbers front rest one.0 more.0 one.1 more.1)
    | inr none ↦ inr (λ numbers h. no_others (first_of front (44 ∷ rest) (one_way front (44 ∷ rest) no_comma refl) h) rest refl none)
  ]
  | inr none ↦ inr (λ numbers h. no_first (first_of front (44 ∷ rest) (one_way front (44 ∷ rest) no_comma refl) h) none)
]

joined_decided : (front rest : List ℕ) → HasNo 44 front → IsDecided (AreJoined (front ++ rest))
joined_decided front [] no_comma = last_decided front no_comma
joined_decided front (byte ∷ rest) no_comma = elim (cases_eq byte 44) [
  | inl comma ↦ subst (λ b. IsDecided (AreJoined (front ++ b ∷ rest))) (sym comma) (comma_decided front rest no_comma (joined_decided [] rest refl))
  | inr other ↦ subst (λ w. IsDecided (AreJoined w)) (append_assoc front (byte ∷ []) rest) (joined_decided (front ++ byte ∷ []) rest (no_comma_more front byte no_comma other))
]

rising_or_not : (numbers : List ℕ) → DoRise numbers ⊎ (DoRise numbers → ⊥)
rising_or_not [] = inl tt
rising_or_not (first ∷ []) = inl tt
rising_or_not (first ∷ second ∷ others) = elim (cases_lt first second) [
  | inl below ↦ elim (rising_or_not (second ∷ others)) [
    | inl h ↦ inl (below, h)
    | inr never ↦ inr (λ h. never h.1)
  ]
  | inr high ↦ inr (λ h. omega (arith, high, h.0))
]

cited_or_not : (word numbers : List ℕ) → AreJoined word numbers → IsCited word numbers ⊎ (IsCited word numbers → ⊥)
cited_or_not word numbers h = elim (cases_lt 64 (length numbers)) [
  | inl many ↦ inr (λ c. omega (arith, c.citable.few, many))
  | inr few ↦ elim (rising_or_not numbers) [
    | inl rising ↦ inl (record { joined = h; citable = record { some = joined_some h; few = few; rising = rising } })
    | inr never ↦ inr (λ c. never c.citable.rising)
  ]
]

pub cited_decided : (word : List ℕ) → IsDecided (IsCited word)
cited_decided word =
    refined (AreJoined word) (IsCited word) (joined_decided [] word refl) (cited_or_not word) (λ first second h k. AreJoined-same h word second refl k) (λ numbers c. c.joined)

-- ---- procaps

abbrev rest_of : Result (Procap × List ℕ) CodecFault → List ℕ
rest_of (Ok x) = x.1
rest_of (Err e) = []

-- what is read of the bytes of a procap
read_again : (word bytes : List ℕ) (p : Procap) → IsHex word bytes → IsProcapHex word p → procap_at (length bytes) bytes ≡ Ok (p, [])
read_again word bytes p is h =
    let bytes_are : bytes ≡ procap_spelling p ++ [] = IsHex-same word bytes (procap_spelling p) is h.hex ∙ sym (append-nil (procap_spelling p)) in
    subst (λ b. procap_at (length bytes) b ≡ Ok (p, [])) (sym bytes_are) (procap_codec.again (length bytes) p [] h.spelled)

by_rest : (word bytes : List ℕ) (p : Procap) (rest : List ℕ) → IsHex word bytes → procap_at (length bytes) bytes ≡ Ok (p, rest) → IsDecided (IsProcapHex word)
by_rest word bytes p [] hex is =
    let found = procap_codec.found (length bytes) bytes [] p hex.in_range is in
    inl (p, record { spelled = found.0; hex = subst (IsHex word) (found.1 ∙ append-nil (procap_spelling p)) hex })
by_rest word bytes p (byte ∷ rest) hex is = inr (λ q h. let never : [] ≡ byte ∷ rest = ap rest_of (sym (read_again word bytes q hex h) ∙ is) in absurd (cc))

by_reading : (word bytes : List ℕ) → IsHex word bytes → (r : Result (Procap × List ℕ) CodecFault) → procap_at (length bytes) bytes ≡ r → IsDecided (IsProcapHex word)
by_reading word bytes hex (Ok pair) is = by_rest word bytes pair.0 pair.1 hex is
by_reading word bytes hex (Err e) is = inr (λ q h. let both : ◌≡◌ {A = Result (Procap × List ℕ) CodecFault} (Ok (q, [])) (Err e) = sym (read_again word bytes q hex h) ∙ is in absurd (cc))

pub procap_hex_decided : (word : List ℕ) → IsDecided (IsProcapHex word)
procap_hex_decided word = elim (hex_decided word) [
  | inl one ↦ by_reading word one.0 one.1 (procap_at (length one.0) one.0) refl
  | inr none ↦ inr (λ p h. none (procap_spelling p) h.hex)
]

without_sign : (word : List ℕ) → ((rest : List ℕ) → word ≢ codes "@" ++ rest) → IsDecided (IsProcapWord word)
without_sign word no_sign = elim (procap_hex_decided word) [
  | inl one ↦ inl (BySpelling one.0, by_spelling word one.0 one.1)
  | inr none ↦ inr (λ given h. not_given h no_sign none)
]

pub procap_decided : (word : List ℕ) → IsDecided (IsProcapWord word)
procap_decided [] = without_sign [] (λ rest same. absurd (cc))
procap_decided (byte ∷ digits) = elim (cases_eq byte 64) [
  | inl sign ↦ elim (number_decided (2 ^ 64) (omega arith) digits) [
    | inl one ↦ inl (Issue one.0, subst (λ b. IsProcapWord (b ∷ digits) (Issue one.0)) (sym sign) (by_number digits one.0 one.1))
    | inr none ↦ inr (λ given h. let of = number_of_word h digits (ap (λ b. b ∷ digits) sign) in none of.0 of.1)
  ]
  | inr other ↦ without_sign (byte ∷ digits) (λ rest same. let is : byte ≡ 64 = cc in other is)
]
