-- The letters of a text in which a question mark stands in the place of each control character.
use Rattle.std.proofs.Common.{◌≡◌, ℕ, Bool, true, false, not, cond, List, [], ◌∷◌, map, Result, Ok, Err, IfOk, IsTrue, refl, sym, ap, ◌∙◌, subst, string_bytes}
use Rattle.std.specs.Char.{is_control}
use Rattle.std.specs.List.{list_all}
use Rattle.std.specs.Str.{chars}
use Rattle.std.specs.Prelude.{String}
use Rattle.std.proofs.lemmas.Bool.{and_parts, and_from}
use Rattle.std.proofs.lemmas.Str.{chars-encodes}
use lib.Utf8.{scalars, scalar, encodes}
use Rattle.client_words.specs.PlainLetters.{plain_letter}

letter_is_scalar : (control : Bool) (letter : ℕ) → scalar letter ≡ true → scalar (cond control 63 letter) ≡ true
letter_is_scalar true letter h = refl
letter_is_scalar false letter h = h

are_scalars : (letters : List ℕ) → scalars letters ≡ true → scalars (map plain_letter letters) ≡ true
are_scalars [] h = refl
are_scalars (letter ∷ letters) h =
    let parts = and_parts (scalar letter) (scalars letters) h in
    and_from (scalar (plain_letter letter)) (scalars (map plain_letter letters)) (letter_is_scalar (is_control letter) letter parts.0) (are_scalars letters parts.1)

letter_is_plain : (control : Bool) (letter : ℕ) → is_control letter ≡ control → IsTrue (not (is_control (cond control 63 letter)))
letter_is_plain true letter is = refl
letter_is_plain false letter is = rw is refl

are_plain : (letters : List ℕ) → IsTrue (list_all (λ letter. not (is_control letter)) (map plain_letter letters))
are_plain [] = refl
are_plain (letter ∷ letters) =
    and_from (not (is_control (plain_letter letter))) (list_all (λ l. not (is_control l)) (map plain_letter letters)) (letter_is_plain (is_control letter) letter refl) (are_plain letters)

pub letters_of : {Z E : Type 0} (r : Result (String Z) E) (letters : List ℕ) → scalars letters ≡ true
    → IfOk r (λ plain. string_bytes plain ≡ encodes (map plain_letter letters)) → IfOk r (λ plain. chars (string_bytes plain) ≡ map plain_letter letters)
letters_of (Ok plain) letters h is = ap chars is ∙ chars-encodes (map plain_letter letters) (are_scalars letters h)
letters_of (Err fault) letters h is = tt

one_line : (text letters : List ℕ) → text ≡ map plain_letter letters → IsTrue (list_all (λ letter. not (is_control letter)) text)
one_line text letters is = subst (λ (t : List ℕ). IsTrue (list_all (λ letter. not (is_control letter)) t)) (sym is) (are_plain letters)

pub one_line_of : {Z E : Type 0} (r : Result (String Z) E) (letters : List ℕ) → scalars letters ≡ true
    → IfOk r (λ plain. string_bytes plain ≡ encodes (map plain_letter letters))
    → IfOk r (λ plain. IsTrue (list_all (λ letter. not (is_control letter)) (chars (string_bytes plain))))
one_line_of (Ok plain) letters h is = one_line (chars (string_bytes plain)) letters (ap chars is ∙ chars-encodes (map plain_letter letters) (are_scalars letters h))
one_line_of (Err fault) letters h is = tt
