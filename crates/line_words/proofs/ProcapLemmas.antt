-- A word in the place of a procap or of a signature is one thing only.
use Rattle.std.proofs.Common.{◌≡◌, ◌≢◌, ◌^◌, ℕ, List, [], ◌∷◌, ◌++◌, length, not, Option, MatchOption, Some, None, refl, sym, ap, ◌∙◌, subst, arith}
use Rattle.std.specs.Prelude.{codes, ◌==◌}
use Rattle.std.proofs.lemmas.Bool.{false≢true}
use Rattle.std.proofs.lemmas.Option.{none-some, same_Some}
use Rattle.bl_syntax.specs.Codec.{AreBytes}
use Rattle.line_text.specs.HexWord.{hex_word, IsHex}
use Rattle.line_text.proofs.HexLemmas.{IsHex-same, IsHex-all, only_nothing}
use Rattle.procap.specs.declared.procap.Procap.{Procap}
use Rattle.procap.specs.Procap.{procap_spelling, IsSpellableProcap}
use Rattle.procap.proofs.ProcapLemmas.{procap_codec}
use Rattle.line_words.specs.declared.procap_word.ProcapWord.{ProcapWord}
use Rattle.line_words.specs.declared.procap_word.ProcapWord.TheVariants.{Procap as BySpelling, Issue}
use Rattle.line_text.specs.Words.{HasNo}
use Rattle.line_words.specs.Numbers.{IsLongNumber}
use Rattle.line_words.specs.Procaps.{IsProcapHex, IsProcapWord, by_number, by_spelling}
use Rattle.line_words.specs.Grammar.{IsSignature, IsSigned, by_ring, by_bytes}
use Rattle.line_words.proofs.NumeralLemmas.{IsNumberBelow-unique}

-- ---- procaps

pub procap-unique : (p q : Procap) → IsSpellableProcap p → IsSpellableProcap q → procap_spelling p ≡ procap_spelling q → p ≡ q
procap-unique p q first second same = (procap_codec.apart p q [] [] first second (ap (λ l. l ++ []) same)).0

pub IsProcapHex-same : (word : List ℕ) (p q : Procap) → IsProcapHex word p → IsProcapHex word q → p ≡ q
IsProcapHex-same word p q first second =
    procap-unique p q first.spelled second.spelled (IsHex-same word (procap_spelling p) (procap_spelling q) first.hex second.hex)

-- what a word holds whose bytes are read
pub IsProcapHex-read : (word bytes : List ℕ) → IsHex word bytes → (read : Option Procap) → MatchOption read ((p : Procap) → IsSpellableProcap p → bytes ≡ procap_spelling p → ⊥) (λ p. IsSpellableProcap p × (bytes ≡ procap_spelling p))
    → MatchOption read ((p : Procap) → IsProcapHex word p → ⊥) (IsProcapHex word)
IsProcapHex-read word bytes is None none = λ p h. none p h.spelled (IsHex-same word bytes (procap_spelling p) is h.hex)
IsProcapHex-read word bytes is (Some p) h = record { spelled = h.0; hex = subst (IsHex word) h.1 is }

-- an `@` is no digit
pub no_sign : (digits bytes : List ℕ) → IsHex (64 ∷ digits) bytes → ⊥
no_sign digits bytes is = false≢true (IsHex-all (λ byte. not (byte == 64)) refl refl (64 ∷ digits) bytes is)

pub number_of_word : {word : List ℕ} {given : ProcapWord} → IsProcapWord word given → (digits : List ℕ) → word ≡ 64 ∷ digits → (number : ℕ) × IsLongNumber digits number × (given ≡ Issue number)
number_of_word (by_number ds number h) digits same =
    let digits_are : ds ≡ digits = let both : 64 ∷ ds ≡ 64 ∷ digits = same in cc in
    (number, subst (λ w. IsLongNumber w number) digits_are h, refl)
number_of_word (by_spelling word p h) digits same = absurd (no_sign digits (procap_spelling p) (subst (λ w. IsHex w (procap_spelling p)) same h.hex))

pub IsProcapWord-number : (word digits : List ℕ) (number : ℕ) → word ≡ 64 ∷ digits → IsLongNumber digits number → IsProcapWord word (Issue number)
IsProcapWord-number word digits number same h = rw same (by_number digits number h)

pub IsProcapWord-same : {word : List ℕ} {first : ProcapWord} → IsProcapWord word first → (other : List ℕ) (second : ProcapWord) → word ≡ other → IsProcapWord other second → first ≡ second
IsProcapWord-same (by_number digits m h) other second same k =
    let of = number_of_word k digits (sym same) in
    ap Issue (IsNumberBelow-unique (2 ^ 64) (omega arith) h of.1) ∙ sym of.2
IsProcapWord-same (by_spelling word p h) other second same (by_number digits n k) = absurd (no_sign digits (procap_spelling p) (subst (λ w. IsHex w (procap_spelling p)) same h.hex))
IsProcapWord-same (by_spelling word p h) other second same (by_spelling w q k) = ap BySpelling (IsProcapHex-same w p q (subst (λ v. IsProcapHex v p) same h) k)

-- what is written of a procap gives it
pub IsProcapWord-shown : (p : Procap) → IsSpellableProcap p → AreBytes (procap_spelling p) → IsProcapWord (hex_word (procap_spelling p)) (BySpelling p)
IsProcapWord-shown p spelled fits = by_spelling (hex_word (procap_spelling p)) p (record { spelled = spelled; hex = record { in_range = fits; word_is = refl } })

pub not_given : {word : List ℕ} {given : ProcapWord} → IsProcapWord word given → ((rest : List ℕ) → word ≢ codes "@" ++ rest) → ((p : Procap) → IsProcapHex word p → ⊥) → ⊥
not_given (by_number digits number h) no_sign no_procap = no_sign digits refl
not_given (by_spelling word p h) no_sign no_procap = no_procap p h

-- ---- signatures

pub no_dash : (word bytes : List ℕ) → word ≡ codes "-" → IsSignature word bytes → ⊥
no_dash word bytes dash h =
    let nothing = ap length (only_nothing word bytes dash h.hex) in
    omega (arith, nothing, h.some)

pub IsSigned-same : {word : List ℕ} {first : Option (List ℕ)} → IsSigned word first → (other : List ℕ) (second : Option (List ℕ)) → word ≡ other → IsSigned other second → first ≡ second
IsSigned-same by_ring other second same by_ring = refl
IsSigned-same by_ring other second same (by_bytes word bytes k) = absurd (no_dash word bytes (sym same) k)
IsSigned-same (by_bytes word bytes h) other second same by_ring = absurd (no_dash word bytes same h)
IsSigned-same (by_bytes word bytes h) other second same (by_bytes w others k) = ap Some (IsHex-same w bytes others (subst (λ v. IsHex v bytes) same h.hex) k.hex)

pub HasNo-signed : {word : List ℕ} {signature : Option (List ℕ)} → IsSigned word signature → HasNo 32 word
HasNo-signed by_ring = refl
HasNo-signed (by_bytes word bytes h) = IsHex-all (λ byte. not (byte == 32)) refl refl word bytes h.hex

pub ring_word : {word : List ℕ} {signature : Option (List ℕ)} → IsSigned word signature → signature ≡ None → word ≡ codes "-"
ring_word by_ring same = refl
ring_word (by_bytes word bytes h) same = absurd (none-some bytes (sym same))

pub signature_of : {word : List ℕ} {signature : Option (List ℕ)} → IsSigned word signature → (bytes : List ℕ) → signature ≡ Some bytes → IsSignature word bytes
signature_of by_ring bytes same = absurd (none-some bytes same)
signature_of (by_bytes word others h) bytes same = subst (IsSignature word) (same_Some others bytes same) h
