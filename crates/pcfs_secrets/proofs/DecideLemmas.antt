-- Whether a line gives a key is decided, and so a text is a secrets file or has a first bad line.
use Rattle.std.proofs.Common.{◌≡◌, ◌≤◌, ◌<◌, ◌-◌, ℕ, zero, suc, ◌+◌, Bool, true, false, Option, Some, None, List, [], ◌∷◌, ◌++◌, length, get_or, take, drop, codes, IsTrue, IsSome, refl, sym, ap, ◌∙◌, subst, arith, ◌⊎◌, inl, inr}
use Rattle.std.specs.Prelude.{nat_lt, ◌==◌}
use Rattle.std.proofs.lemmas.Bool.{cases_eq, cases_lt, eqb-true, eqb-false, ltb-true, ltb-false, false≢true}
use Rattle.std.proofs.lemmas.List.{append_cancel_left, take-append-drop}
use Rattle.bl_syntax.specs.declared.limits.TheConstants.{HIGHEST_TREE}
use Rattle.bl_syntax.specs.Names.{is_principal_name}
use Rattle.line_text.specs.HexWord.{IsHex}
use Rattle.line_text.proofs.IsHexLemmas.{DecidesHex, decided_hex}
use Rattle.line_text.proofs.HexLemmas.{IsHex-same}
use Rattle.line_text.proofs.WordLemmas.{stop_place, IsSplit-at_word, HasNo-principal}
use Rattle.policy_statement.specs.Ring.{Credential, keyed, rooted, KeyView, IsKnown, credential_of}
use Rattle.pcfs_secrets.specs.declared.secrets.Secrets.{Secrets}
use Rattle.pcfs_secrets.specs.SecretLines.{IsCredentialWord, IsKeyWord, IsRootWord, IsSealLine, seal_line, IsKeyLine, key_line, literal_of, GivesKey, GiveKeys, IsBadAt}
use Rattle.pcfs_secrets.specs.SecretsFile.{IsSecrets, IsFirstBad, no_line, no_seal, no_key}
use Rattle.pcfs_secrets.proofs.LineLemmas.{seal_word, name_and_word, IsKeyLine-same}

-- ---- a literal in front

abbrev DecidesFront : List ℕ → List ℕ → Type 0
DecidesFront literal line = ((rest : List ℕ) × (line ≡ literal ++ rest)) ⊎ ((rest : List ℕ) → line ≡ literal ++ rest → ⊥)

front_step : (byte : ℕ) (literal : List ℕ) (first : ℕ) (line : List ℕ) (same : Bool) → (first == byte) ≡ same → DecidesFront literal line → DecidesFront (byte ∷ literal) (first ∷ line)
front_step byte literal first line true is (inl h) =
    inl (h.0, ap (λ b. b ∷ line) (eqb-true first byte is) ∙ ap (λ l. byte ∷ l) h.1)
front_step byte literal first line true is (inr none) = inr (λ rest h. let tail : line ≡ literal ++ rest = cc in none rest tail)
front_step byte literal first line false is _ = inr (λ rest h. let head : first ≡ byte = cc in eqb-false first byte is head)

decided_front : (literal line : List ℕ) → DecidesFront literal line
decided_front [] line = inl (line, refl)
decided_front (byte ∷ literal) [] = inr (λ rest h. cc)
decided_front (byte ∷ literal) (first ∷ line) = front_step byte literal first line (first == byte) refl (decided_front literal line)

-- ---- keys

abbrev DecidesKeyWord : List ℕ → Type 0
DecidesKeyWord word = ((key : List ℕ) × IsKeyWord word key) ⊎ ((key : List ℕ) → IsKeyWord word key → ⊥)

short_key : (word bytes : List ℕ) → IsHex word bytes → (long : Bool) → nat_lt 1024 (length bytes) ≡ long → DecidesKeyWord word
short_key word bytes is true long = inr (λ key other.
    let same = ap length (IsHex-same word key bytes other.hex is) in
    let bound = other.short in
    absurd (omega (arith, ltb-true 1024 (length bytes) long)))
short_key word bytes is false long = inl (bytes, record { hex = is; short = ltb-false 1024 (length bytes) long })

key_word_step : (word : List ℕ) → DecidesHex word → DecidesKeyWord word
key_word_step word (inl h) = short_key word h.0 h.1 (nat_lt 1024 (length h.0)) refl
key_word_step word (inr none) = inr (λ key is. none key is.hex)

decided_key_word : (word : List ℕ) → DecidesKeyWord word
decided_key_word word = key_word_step word (decided_hex word)

-- ---- lines

abbrev DecidesSeal : List ℕ → Type 0
DecidesSeal line = ((key : List ℕ) × IsSealLine line key) ⊎ ((key : List ℕ) → IsSealLine line key → ⊥)

seal_step : (line word : List ℕ) → line ≡ codes "seal " ++ word → DecidesKeyWord word → DecidesSeal line
seal_step line word line_is (inl h) = inl (h.0, subst (λ l. IsSealLine l h.0) (sym line_is) (seal_line word h.0 h.1))
seal_step line word line_is (inr none) = inr (λ key is.
    let seal = seal_word is in
    let same = append_cancel_left (codes "seal ") seal.word word (sym seal.line_is ∙ line_is) in
    none key (subst (λ w. IsKeyWord w key) same seal.key_is))

seal_front : (line : List ℕ) → DecidesFront (codes "seal ") line → DecidesSeal line
seal_front line (inl h) = seal_step line h.0 h.1 (decided_key_word h.0)
seal_front line (inr none) = inr (λ key is. let seal = seal_word is in none seal.word seal.line_is)

decided_seal : (line : List ℕ) → DecidesSeal line
decided_seal line = seal_front line (decided_front (codes "seal ") line)

-- ---- words of roots

abbrev DecidesRootWord : List ℕ → Type 0
DecidesRootWord word = ((height : ℕ) × (root : List ℕ) × IsRootWord word height root) ⊎ ((height : ℕ) (root : List ℕ) → IsRootWord word height root → ⊥)

root_hex_step : (digit : ℕ) (digits root : List ℕ) → 48 ≤ digit → digit ≤ 56 → IsHex digits root → (length root ≡ 32) ⊎ (length root ≡ 32 → ⊥) → DecidesRootWord (digit ∷ 32 ∷ digits)
root_hex_step digit digits root low high is (inl whole) =
    let height : 48 + (digit - 48) ≡ digit = omega arith in
    inl (digit - 48, root, record { digits = digits; word_is = ap (λ (d : ℕ). d ∷ 32 ∷ digits) (sym height); low = omega arith; hex = is; whole = whole })
root_hex_step digit digits root low high is (inr other) = inr (λ height root' word.
    let same : digits ≡ word.digits = let e = word.word_is in cc in
    other (ap length (IsHex-same digits root root' is (subst (λ d. IsHex d root') (sym same) word.hex)) ∙ word.whole))

root_digits : (digit : ℕ) (digits : List ℕ) → 48 ≤ digit → digit ≤ 56 → DecidesHex digits → DecidesRootWord (digit ∷ 32 ∷ digits)
root_digits digit digits low high (inl h) = root_hex_step digit digits h.0 low high h.1 (cases_eq (length h.0) 32)
root_digits digit digits low high (inr none) = inr (λ height root word.
    let same : word.digits ≡ digits = let e = word.word_is in cc in
    none root (subst (λ d. IsHex d root) same word.hex))

-- the digit of a word that writes a root
root_digit : (digit : ℕ) (others : List ℕ) (height : ℕ) (root : List ℕ) → IsRootWord (digit ∷ others) height root → (digit ≡ 48 + height) × (height ≤ HIGHEST_TREE)
root_digit digit others height root word = (ap (λ (l : List ℕ). get_or l 0 0) word.word_is, word.low)

root_high : (digit : ℕ) (digits : List ℕ) → 48 ≤ digit → (digit < 57) ⊎ (57 ≤ digit) → DecidesRootWord (digit ∷ 32 ∷ digits)
root_high digit digits low (inl high) = root_digits digit digits low (omega arith) (decided_hex digits)
root_high digit digits low (inr past) = inr (λ height root word. let is = root_digit digit (32 ∷ digits) height root word in absurd (omega (arith, is.0, is.1)))

root_low : (digit : ℕ) (digits : List ℕ) → (digit < 48) ⊎ (48 ≤ digit) → DecidesRootWord (digit ∷ 32 ∷ digits)
root_low digit digits (inl below) = inr (λ height root word. let is = root_digit digit (32 ∷ digits) height root word in absurd (omega (arith, is.0)))
root_low digit digits (inr low) = root_high digit digits low (cases_lt digit 57)

root_space : (digit space : ℕ) (digits : List ℕ) → (space ≡ 32) ⊎ (space ≡ 32 → ⊥) → DecidesRootWord (digit ∷ space ∷ digits)
root_space digit space digits (inl is) = subst (λ (s : ℕ). DecidesRootWord (digit ∷ s ∷ digits)) (sym is) (root_low digit digits (cases_lt digit 48))
root_space digit space digits (inr other) = inr (λ height root word. other (ap (λ (l : List ℕ). get_or l 1 0) word.word_is))

decided_root_word : (word : List ℕ) → DecidesRootWord word
decided_root_word [] = inr (λ height root word. let e = word.word_is in cc)
decided_root_word (digit ∷ []) = inr (λ height root word. let e = word.word_is in cc)
decided_root_word (digit ∷ space ∷ digits) = root_space digit space digits (cases_eq space 32)

-- ---- lines that begin with one literal

-- the word writes what a line with this literal gives
abbrev DecidesWord : List ℕ → List ℕ → Type 0
DecidesWord literal word = ((holds : Credential) × (literal_of holds ≡ literal) × IsCredentialWord word holds) ⊎ ((holds : Credential) → literal_of holds ≡ literal → IsCredentialWord word holds → ⊥)

not_root : (word : List ℕ) → ((key : List ℕ) → IsKeyWord word key → ⊥) → (holds : Credential) → literal_of holds ≡ codes "key " → IsCredentialWord word holds → ⊥
not_root word none (keyed key) same is = none key is
not_root word none (rooted height root) same is = let heads : 114 ≡ 107 = ap (λ (l : List ℕ). get_or l 0 0) same in omega (arith, heads)

not_key : (word : List ℕ) → ((height : ℕ) (root : List ℕ) → IsRootWord word height root → ⊥) → (holds : Credential) → literal_of holds ≡ codes "root " → IsCredentialWord word holds → ⊥
not_key word none (keyed key) same is = let heads : 107 ≡ 114 = ap (λ (l : List ℕ). get_or l 0 0) same in omega (arith, heads)
not_key word none (rooted height root) same is = none height root is

key_word_of : (word : List ℕ) → DecidesKeyWord word → DecidesWord (codes "key ") word
key_word_of word (inl h) = inl (keyed h.0, refl, h.1)
key_word_of word (inr none) = inr (not_root word none)

root_word_of : (word : List ℕ) → DecidesRootWord word → DecidesWord (codes "root ") word
root_word_of word (inl h) = inl (rooted h.0 h.1, refl, h.2)
root_word_of word (inr none) = inr (not_key word none)

module _ (literal : List ℕ) (decided_word : (word : List ℕ) → DecidesWord literal word) where
  abbrev DecidesLineOf : List ℕ → Type 0
  DecidesLineOf line = ((k : KeyView) × IsKeyLine line k) ⊎ ((k : KeyView) → literal_of k.holds ≡ literal → IsKeyLine line k → ⊥)

  -- such a line falls at its first space
  record FallsAt (rest : List ℕ) (k : KeyView) : Type 0 where
    pub word : List ℕ
    pub named : IsTrue (is_principal_name k.who)
    pub name_is : take (stop_place 32 rest) rest ≡ k.who
    pub behind_is : drop (stop_place 32 rest) rest ≡ 32 ∷ word
    pub holds_is : IsCredentialWord word k.holds

  falls_at : (line rest : List ℕ) (k : KeyView) → line ≡ literal ++ rest → literal_of k.holds ≡ literal → IsKeyLine line k → FallsAt rest k
  falls_at line rest k line_is of is =
      let parts = name_and_word is in
      let whole : literal ++ rest ≡ literal ++ (k.who ++ 32 ∷ parts.word) = sym line_is ∙ parts.line_is ∙ ap (λ (l : List ℕ). l ++ (k.who ++ 32 ∷ parts.word)) of in
      let rest_is = append_cancel_left literal rest (k.who ++ 32 ∷ parts.word) whole in
      let split = IsSplit-at_word 32 rest k.who (32 ∷ parts.word) (stop_place 32 rest) refl rest_is (HasNo-principal k.who parts.named) refl in
      record { word = parts.word; named = parts.named; name_is = split.front; behind_is = split.back; holds_is = parts.holds_is }

  line_step : (line rest word : List ℕ) → line ≡ literal ++ rest → drop (stop_place 32 rest) rest ≡ 32 ∷ word → (named : Bool) → is_principal_name (take (stop_place 32 rest) rest) ≡ named → DecidesWord literal word → DecidesLineOf line
  line_step line rest word line_is behind_is false named _ = inr (λ k of is.
      let falls = falls_at line rest k line_is of is in
      false≢true (sym named ∙ ap is_principal_name falls.name_is ∙ falls.named))
  line_step line rest word line_is behind_is true named (inl h) =
      let name : List ℕ = take (stop_place 32 rest) rest in
      let k : KeyView = record { who = name; holds = h.0 } in
      let rest_is : rest ≡ name ++ 32 ∷ word = sym (take-append-drop (stop_place 32 rest) rest) ∙ ap (λ b. name ++ b) behind_is in
      let whole : line ≡ literal_of h.0 ++ (name ++ 32 ∷ word) = line_is ∙ ap (λ r. literal ++ r) rest_is ∙ ap (λ (l : List ℕ). l ++ (name ++ 32 ∷ word)) (sym h.1) in
      inl (k, subst (λ l. IsKeyLine l k) (sym whole) (key_line name word h.0 named h.2))
  line_step line rest word line_is behind_is true named (inr none) = inr (λ k of is.
      let falls = falls_at line rest k line_is of is in
      let both : 32 ∷ falls.word ≡ 32 ∷ word = sym falls.behind_is ∙ behind_is in
      let same : falls.word ≡ word = cc in
      none k.holds of (subst (λ w. IsCredentialWord w k.holds) same falls.holds_is))

  line_behind : (line rest : List ℕ) → line ≡ literal ++ rest → DecidesFront (32 ∷ []) (drop (stop_place 32 rest) rest) → DecidesLineOf line
  line_behind line rest line_is (inl h) = line_step line rest h.0 line_is h.1 (is_principal_name (take (stop_place 32 rest) rest)) refl (decided_word h.0)
  line_behind line rest line_is (inr none) = inr (λ k of is. let falls = falls_at line rest k line_is of is in none falls.word falls.behind_is)

  line_front : (line : List ℕ) → DecidesFront literal line → DecidesLineOf line
  line_front line (inl h) = line_behind line h.0 h.1 (decided_front (32 ∷ []) (drop (stop_place 32 h.0) h.0))
  line_front line (inr none) = inr (λ k of is.
      let parts = name_and_word is in
      none (k.who ++ 32 ∷ parts.word) (parts.line_is ∙ ap (λ (l : List ℕ). l ++ (k.who ++ 32 ∷ parts.word)) of))

  pub decided_line_of : (line : List ℕ) → DecidesLineOf line
  decided_line_of line = line_front line (decided_front literal line)

abbrev DecidesKeyLine : List ℕ → Type 0
DecidesKeyLine line = ((k : KeyView) × IsKeyLine line k) ⊎ ((k : KeyView) → IsKeyLine line k → ⊥)

neither : (line who : List ℕ) (holds : Credential) → ((k : KeyView) → literal_of k.holds ≡ codes "key " → IsKeyLine line k → ⊥) → ((k : KeyView) → literal_of k.holds ≡ codes "root " → IsKeyLine line k → ⊥)
    → IsKeyLine line (record { who = who; holds = holds }) → ⊥
neither line who (keyed key) keys roots is = keys (record { who = who; holds = keyed key }) refl is
neither line who (rooted height root) keys roots is = roots (record { who = who; holds = rooted height root }) refl is

line_of_two : (line : List ℕ) → ((k : KeyView) × IsKeyLine line k) ⊎ ((k : KeyView) → literal_of k.holds ≡ codes "key " → IsKeyLine line k → ⊥)
    → ((k : KeyView) × IsKeyLine line k) ⊎ ((k : KeyView) → literal_of k.holds ≡ codes "root " → IsKeyLine line k → ⊥) → DecidesKeyLine line
line_of_two line (inl h) _ = inl h
line_of_two line (inr keys) (inl h) = inl h
line_of_two line (inr keys) (inr roots) = inr (λ k is. neither line k.who k.holds keys roots is)

decided_key_line : (line : List ℕ) → DecidesKeyLine line
decided_key_line line =
    line_of_two line (decided_line_of (codes "key ") (λ word. key_word_of word (decided_key_word word)) line)
    (decided_line_of (codes "root ") (λ word. root_word_of word (decided_root_word word)) line)

-- ---- the ring

abbrev DecidesGiven : List KeyView → List ℕ → Type 0
DecidesGiven ring line = ((k : KeyView) × GivesKey ring line k) ⊎ ((k : KeyView) → GivesKey ring line k → ⊥)

unknown : {A : Type 0} (o : Option A) → IsSome o ⊎ (IsSome o → ⊥)
unknown None = inr (λ h. cc)
unknown (Some x) = inl refl

known_step : (ring : List KeyView) (line : List ℕ) (k : KeyView) → IsKeyLine line k → IsSome (credential_of ring k.who) ⊎ (IsSome (credential_of ring k.who) → ⊥) → DecidesGiven ring line
known_step ring line k is (inl known) = inr (λ other gives. gives.unknown (subst (λ l. IsKnown ring l.who) (IsKeyLine-same line k other is gives.line_is) known))
known_step ring line k is (inr none) = inl (k, record { line_is = is; unknown = none })

given_step : (ring : List KeyView) (line : List ℕ) → DecidesKeyLine line → DecidesGiven ring line
given_step ring line (inl h) = known_step ring line h.0 h.1 (unknown (credential_of ring h.0.who))
given_step ring line (inr none) = inr (λ k gives. none k gives.line_is)

abbrev DecidesLines : List KeyView → List (List ℕ) → Type 0
DecidesLines ring lines = ((after : List KeyView) × GiveKeys ring lines after) ⊎ ((place : ℕ) × IsBadAt ring lines place)

more_step : (ring : List KeyView) (line : List ℕ) (lines : List (List ℕ)) (k : KeyView) → GivesKey ring line k → DecidesLines (ring ++ k ∷ []) lines → DecidesLines ring (line ∷ lines)
more_step ring line lines k gives (inl h) = inl (h.0, (k, gives, h.1))
more_step ring line lines k gives (inr h) = inr (suc h.0, (k, gives, h.1))

lines_step : (ring : List KeyView) (line : List ℕ) (lines : List (List ℕ)) → DecidesGiven ring line → ((k : KeyView) → DecidesLines (ring ++ k ∷ []) lines) → DecidesLines ring (line ∷ lines)
lines_step ring line lines (inl h) rest = more_step ring line lines h.0 h.1 (rest h.0)
lines_step ring line lines (inr none) rest = inr (zero, none)

decided_lines : (ring : List KeyView) (lines : List (List ℕ)) → DecidesLines ring lines
decided_lines ring [] = inl (ring, refl)
decided_lines ring (line ∷ lines) = lines_step ring line lines (given_step ring line (decided_key_line line)) (λ k. decided_lines (ring ++ k ∷ []) lines)

abbrev DecidesFile : List (List ℕ) → Type 0
DecidesFile lines = ((secrets : Secrets) × IsSecrets lines secrets) ⊎ ((number : ℕ) × IsFirstBad lines number)

file_step : (line : List ℕ) (lines : List (List ℕ)) → DecidesSeal line → DecidesLines [] lines → DecidesFile (line ∷ lines)
file_step line lines (inl seal) (inl keys) = inl (record { seal_key = seal.0; ring = keys.0 }, (seal.1, keys.1))
file_step line lines (inl seal) (inr bad) = inr (bad.0 + 2, no_key line seal.0 lines bad.0 seal.1 bad.1)
file_step line lines (inr none) keys = inr (1, no_seal line lines none)

pub one_or_the_other : (lines : List (List ℕ)) → DecidesFile lines
one_or_the_other [] = inr (1, no_line)
one_or_the_other (line ∷ lines) = file_step line lines (decided_seal line) (decided_lines [] lines)
