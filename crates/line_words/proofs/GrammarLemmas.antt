-- A word is one name, text or permission, and one list of bytes.
use Rattle.std.proofs.Common.{◌≡◌, ℕ, List, [], ◌∷◌, ◌++◌, Option, Some, None, MatchOption, IsTrue, refl, sym, ap, subst, ◌∙◌}
use Rattle.std.specs.Prelude.{◌↔◌, IsSome, IfSome}
use Rattle.std.proofs.lemmas.Bool.{and_parts, false≢true}
use Rattle.bl_syntax.specs.Names.{is_text_byte, is_text}
use Rattle.line_text.specs.Words.{HasNo, is_word_end}
use Rattle.std.proofs.lemmas.List.{append_cancel_right}
use Rattle.bl_syntax.specs.declared.terms.Perm.{Perm}
use Rattle.bl_syntax.specs.declared.terms.Perm.TheVariants.{Read, Write, Execute, Identity, Govern}
use Rattle.bl_text.specs.Printed.{permission_text}
use Rattle.line_text.proofs.HexLemmas.{IsHex-same}
use Rattle.line_text.proofs.WordLemmas.{differ, HasNo-all}
use Rattle.line_words.specs.Grammar.{IsName, IsPrincipal, IsData, IsQuoted}

pub IsName-unique : {word first second : List ℕ} → IsName word first → IsName word second → first ≡ second
IsName-unique h k = h.same ∙ sym k.same

pub IsPrincipal-unique : {word first second : List ℕ} → IsPrincipal word first → IsPrincipal word second → first ≡ second
IsPrincipal-unique h k = h.same ∙ sym k.same

pub IsData-unique : {word first second : List ℕ} → IsData word first → IsData word second → first ≡ second
IsData-unique {word} {first} {second} h k = IsHex-same word first second h.hex k.hex

-- the last byte aside, the lists are one
front_of : (first second : List ℕ) (byte : ℕ) → first ++ byte ∷ [] ≡ second ++ byte ∷ [] → first ≡ second
front_of first second byte same = append_cancel_right first second (byte ∷ []) same

pub IsQuoted-unique : {word first second : List ℕ} → IsQuoted word first → IsQuoted word second → first ≡ second
IsQuoted-unique {word} {first} {second} h k =
    let both : 34 ∷ (first ++ 34 ∷ []) ≡ 34 ∷ (second ++ 34 ∷ []) = sym h.word_is ∙ k.word_is in
    let tails : first ++ 34 ∷ [] ≡ second ++ 34 ∷ [] = cc in
    front_of first second 34 tails

-- ---- a text between quotes

quoted_parts : {word behind text : List ℕ} → word ≡ 34 ∷ behind → IsQuoted word text → behind ≡ text ++ 34 ∷ []
quoted_parts {word} {behind} {text} same h = let both : 34 ∷ behind ≡ 34 ∷ (text ++ 34 ∷ []) = sym same ∙ h.word_is in cc

abbrev IsCutAtQuote : List ℕ → List ℕ → List ℕ → Type 0
IsCutAtQuote behind front closing = (w b : List ℕ) → HasNo 34 w → IsTrue (is_word_end 34 b) → behind ≡ w ++ b → (front ≡ w) × (closing ≡ b)

pub only_text : (word behind front closing : List ℕ) → word ≡ 34 ∷ behind → IsCutAtQuote behind front closing → (text : List ℕ) → IsQuoted word text → (front ≡ text) × (closing ≡ 34 ∷ [])
only_text word behind front closing same cut text h = cut text (34 ∷ []) (HasNo-all is_text_byte 34 refl text (and_parts _ _ h.fits).0) refl (quoted_parts same h)

pub reads_text : (word behind front closing : List ℕ) (read : Option (List ℕ)) → word ≡ 34 ∷ behind → behind ≡ front ++ closing → closing ≡ 34 ∷ [] → IsCutAtQuote behind front closing
    → IsSome read ↔ IsTrue (is_text front) → IfSome read (λ t. t ≡ front) → MatchOption read ((text : List ℕ) → IsQuoted word text → ⊥) (IsQuoted word)
reads_text word behind front closing None word_is parts closing_is cut fits same = λ text h.
    let one = only_text word behind front closing word_is cut text h in
    false≢true (fits.1 (subst (λ f. IsTrue (is_text f)) (sym one.0) h.fits))
reads_text word behind front closing (Some t) word_is parts closing_is cut fits same = record {
  fits = subst (λ f. IsTrue (is_text f)) (sym same) (fits.0 refl);
  word_is = word_is ∙ ap (λ b. 34 ∷ b) (parts ∙ ap (λ c. front ++ c) closing_is ∙ ap (λ f. f ++ 34 ∷ []) (sym same));
}

-- ---- permissions

pub permission-unique : (p q : Perm) → permission_text p ≡ permission_text q → p ≡ q
permission-unique Read Read same = refl
permission-unique Write Write same = refl
permission-unique Execute Execute same = refl
permission-unique Identity Identity same = refl
permission-unique Govern Govern same = refl
permission-unique Read Write same = absurd (differ 0 refl same)
permission-unique Read Execute same = absurd (differ 0 refl same)
permission-unique Read Identity same = absurd (differ 0 refl same)
permission-unique Read Govern same = absurd (differ 0 refl same)
permission-unique Write Read same = absurd (differ 0 refl same)
permission-unique Write Execute same = absurd (differ 0 refl same)
permission-unique Write Identity same = absurd (differ 0 refl same)
permission-unique Write Govern same = absurd (differ 0 refl same)
permission-unique Execute Read same = absurd (differ 0 refl same)
permission-unique Execute Write same = absurd (differ 0 refl same)
permission-unique Execute Identity same = absurd (differ 0 refl same)
permission-unique Execute Govern same = absurd (differ 0 refl same)
permission-unique Identity Read same = absurd (differ 0 refl same)
permission-unique Identity Write same = absurd (differ 0 refl same)
permission-unique Identity Execute same = absurd (differ 0 refl same)
permission-unique Identity Govern same = absurd (differ 0 refl same)
permission-unique Govern Read same = absurd (differ 0 refl same)
permission-unique Govern Write same = absurd (differ 0 refl same)
permission-unique Govern Execute same = absurd (differ 0 refl same)
permission-unique Govern Identity same = absurd (differ 0 refl same)
