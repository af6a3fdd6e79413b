-- A secrets file has one meaning, and a text that is none has one first bad line.
use Rattle.std.proofs.Common.{◌≡◌, ℕ, zero, suc, ◌+◌, List, [], ◌∷◌, ◌++◌, codes, refl, sym, ap, ◌∙◌, subst, ◌⊎◌, inl, inr}
use Rattle.std.proofs.lemmas.List.{append_cancel_left}
use Rattle.line_text.proofs.HexLemmas.{IsHex-same}
use Rattle.policy_statement.specs.Ring.{KeyView}
use Rattle.pcfs_secrets.specs.declared.secrets.Secrets.{Secrets}
use Rattle.pcfs_secrets.specs.SecretLines.{IsKeyWord, IsSealLine, GiveKeys, IsBadAt}
use Rattle.pcfs_secrets.specs.SecretsFile.{IsSecrets, IsFirstBad, no_line, no_seal, no_key}
use Rattle.pcfs_secrets.proofs.LineLemmas.{seal_word, IsKeyLine-same}

IsSealLine-same : (line a b : List ℕ) → IsSealLine line a → IsSealLine line b → a ≡ b
IsSealLine-same line a b first second =
    let one = seal_word first in
    let other = seal_word second in
    let same = append_cancel_left (codes "seal ") one.word other.word (sym one.line_is ∙ other.line_is) in
    IsHex-same other.word a b (subst (λ w. IsKeyWord w a) same one.key_is).hex other.key_is.hex

one_ring : (ring : List KeyView) (lines : List (List ℕ)) (a b : List KeyView) → GiveKeys ring lines a → GiveKeys ring lines b → a ≡ b
one_ring ring [] a b first second = sym first ∙ second
one_ring ring (line ∷ lines) a b first second =
    let same = IsKeyLine-same line second.0 first.0 second.1.line_is first.1.line_is in
    one_ring (ring ++ first.0 ∷ []) lines a b first.2 (subst (λ k. GiveKeys (ring ++ k ∷ []) lines b) same second.2)

pub one_reading : (lines : List (List ℕ)) (a b : Secrets) → IsSecrets lines a → IsSecrets lines b → a ≡ b
one_reading [] a b first second = absurd first
one_reading (line ∷ lines) a b first second =
    let keys = IsSealLine-same line a.seal_key b.seal_key first.0 second.0 in
    let rings = one_ring [] lines a.ring b.ring first.1 second.1 in
    ap (λ key. let s : Secrets = record { seal_key = key; ring = a.ring } in s) keys ∙ ap (λ ring. let s : Secrets = record { seal_key = b.seal_key; ring = ring } in s) rings

one_place : (ring : List KeyView) (lines : List (List ℕ)) (m n : ℕ) → IsBadAt ring lines m → IsBadAt ring lines n → m ≡ n
one_place ring [] m n first second = absurd first
one_place ring (line ∷ lines) zero zero first second = refl
one_place ring (line ∷ lines) zero (suc n) first second = absurd (first second.0 second.1)
one_place ring (line ∷ lines) (suc m) zero first second = absurd (second first.0 first.1)
one_place ring (line ∷ lines) (suc m) (suc n) first second =
    let same = IsKeyLine-same line second.0 first.0 second.1.line_is first.1.line_is in
    ap suc (one_place (ring ++ first.0 ∷ []) lines m n first.2 (subst (λ k. IsBadAt (ring ++ k ∷ []) lines n) same second.2))

never_given : (ring : List KeyView) (lines : List (List ℕ)) (after : List KeyView) (place : ℕ) → GiveKeys ring lines after → IsBadAt ring lines place → ⊥
never_given ring [] after place given bad = bad
never_given ring (line ∷ lines) after zero given bad = bad given.0 given.1
never_given ring (line ∷ lines) after (suc place) given bad =
    let same = IsKeyLine-same line bad.0 given.0 bad.1.line_is given.1.line_is in
    never_given (ring ++ given.0 ∷ []) lines after place given.2 (subst (λ k. IsBadAt (ring ++ k ∷ []) lines place) same bad.2)

-- the first bad line, by the first line
abbrev FirstBad : List (List ℕ) → ℕ → Type 0
FirstBad [] number = number ≡ 1
FirstBad (line ∷ lines) number = (((key : List ℕ) → IsSealLine line key → ⊥) × (number ≡ 1)) ⊎ ((key : List ℕ) × (place : ℕ) × IsSealLine line key × IsBadAt [] lines place × (number ≡ place + 2))

first_bad : {lines : List (List ℕ)} {number : ℕ} → IsFirstBad lines number → FirstBad lines number
first_bad no_line = refl
first_bad (no_seal line lines none) = inl (none, refl)
first_bad (no_key line key lines place seal bad) = inr (key, place, seal, bad, refl)

never_bad : (lines : List (List ℕ)) (secrets : Secrets) (number : ℕ) → IsSecrets lines secrets → FirstBad lines number → ⊥
never_bad [] secrets number is bad = is
never_bad (line ∷ lines) secrets number is (inl without) = without.0 secrets.seal_key is.0
never_bad (line ∷ lines) secrets number is (inr behind) = never_given [] lines secrets.ring behind.1 is.1 behind.3

pub never_both : (lines : List (List ℕ)) (secrets : Secrets) (number : ℕ) → IsSecrets lines secrets → IsFirstBad lines number → ⊥
never_both lines secrets number is bad = never_bad lines secrets number is (first_bad bad)

one_bad : (lines : List (List ℕ)) (m n : ℕ) → FirstBad lines m → FirstBad lines n → m ≡ n
one_bad [] m n first second = first ∙ sym second
one_bad (line ∷ lines) m n (inl first) (inl second) = first.1 ∙ sym second.1
one_bad (line ∷ lines) m n (inl first) (inr second) = absurd (first.0 second.0 second.2)
one_bad (line ∷ lines) m n (inr first) (inl second) = absurd (second.0 first.0 first.2)
one_bad (line ∷ lines) m n (inr first) (inr second) = first.4 ∙ ap (λ p. p + 2) (one_place [] lines first.1 second.1 first.3 second.3) ∙ sym second.4

pub one_first_bad : (lines : List (List ℕ)) (m n : ℕ) → IsFirstBad lines m → IsFirstBad lines n → m ≡ n
one_first_bad lines m n first second = one_bad lines m n (first_bad first) (first_bad second)
