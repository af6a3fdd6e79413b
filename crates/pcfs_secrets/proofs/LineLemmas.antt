-- A line of a secrets file gives one key.
use Rattle.std.proofs.Common.{◌≡◌, ◌+◌, ℕ, Bool, true, false, Option, Some, None, MatchOption, MatchBool, List, [], ◌∷◌, ◌++◌, IsTrue, codes, get_or, refl, sym, ap, ap₂, ◌∙◌, subst, arith}
use Rattle.std.proofs.lemmas.List.{append_cancel_left}
use Rattle.bl_syntax.specs.Names.{is_principal_name}
use Rattle.line_text.proofs.HexLemmas.{IsHex-same}
use Rattle.line_text.proofs.WordLemmas.{same_words, HasNo-principal}
use Rattle.policy_statement.specs.Ring.{Credential, keyed, rooted, KeyView, IsKnown}
use Rattle.pcfs_secrets.specs.SecretLines.{IsCredentialWord, IsKeyWord, IsRootWord, IsSealLine, seal_line, IsKeyLine, key_line, literal_of, GivesKey, MayHave}

-- ---- the line of the seal

pub record HasSealWord (line key : List ℕ) : Type 0 where
  pub word : List ℕ
  pub line_is : line ≡ codes "seal " ++ word
  pub key_is : IsKeyWord word key

pub seal_word : {line key : List ℕ} → IsSealLine line key → HasSealWord line key
seal_word (seal_line word key h) = record { word = word; line_is = refl; key_is = h }

-- ---- a line with a name and its key or its root

pub record HasNameAndWord (line : List ℕ) (k : KeyView) : Type 0 where
  pub word : List ℕ
  pub named : IsTrue (is_principal_name k.who)
  pub line_is : line ≡ literal_of k.holds ++ (k.who ++ 32 ∷ word)
  pub holds_is : IsCredentialWord word k.holds

pub name_and_word : {line : List ℕ} {k : KeyView} → IsKeyLine line k → HasNameAndWord line k
name_and_word (key_line who word holds named h) = record { word = word; named = named; line_is = refl; holds_is = h }

-- no line begins with both literals
pub two_literals : (line one other : List ℕ) → line ≡ codes "key " ++ one → line ≡ codes "root " ++ other → ⊥
two_literals line one other key root =
    let heads : 107 ≡ 114 = ap (λ (l : List ℕ). get_or l 0 0) (sym key ∙ root) in
    omega (arith, heads)

-- a word writes one root
root_same : (word : List ℕ) (height height' : ℕ) (root root' : List ℕ) → IsRootWord word height root → IsRootWord word height' root' → (height ≡ height') × (root ≡ root')
root_same word height height' root root' one other =
    let both : (48 + height) ∷ 32 ∷ one.digits ≡ (48 + height') ∷ 32 ∷ other.digits = sym one.word_is ∙ other.word_is in
    let heads : 48 + height ≡ 48 + height' = ap (λ (l : List ℕ). get_or l 0 0) both in
    let digits : one.digits ≡ other.digits = cc in
    (omega (arith, heads), IsHex-same one.digits root root' one.hex (rw digits other.hex))

same_parts : (literal who who' word word' : List ℕ) (line : List ℕ) → line ≡ literal ++ (who ++ 32 ∷ word) → line ≡ literal ++ (who' ++ 32 ∷ word')
    → IsTrue (is_principal_name who) → IsTrue (is_principal_name who') → (who ≡ who') × (word ≡ word')
same_parts literal who who' word word' line one other named named' =
    let same = same_words (codes " ") who who' word word' refl (HasNo-principal who named) (HasNo-principal who' named')
    (append_cancel_left literal (who ++ 32 ∷ word) (who' ++ 32 ∷ word') (sym one ∙ other)) in
    (same.word, same.rest)

holds_same : (line who who' word word' : List ℕ) (holds holds' : Credential) → line ≡ literal_of holds ++ (who ++ 32 ∷ word) → line ≡ literal_of holds' ++ (who' ++ 32 ∷ word')
    → IsTrue (is_principal_name who) → IsTrue (is_principal_name who') → IsCredentialWord word holds → IsCredentialWord word' holds' → (who ≡ who') × (holds ≡ holds')
holds_same line who who' word word' (keyed key) (keyed key') one other named named' is is' =
    let same = same_parts (codes "key ") who who' word word' line one other named named' in
    (same.0, ap keyed (IsHex-same word key key' is.hex (rw same.1 is'.hex)))
holds_same line who who' word word' (keyed key) (rooted height root) one other named named' is is' = absurd (two_literals line _ _ one other)
holds_same line who who' word word' (rooted height root) (keyed key) one other named named' is is' = absurd (two_literals line _ _ other one)
holds_same line who who' word word' (rooted height root) (rooted height' root') one other named named' is is' =
    let same = same_parts (codes "root ") who who' word word' line one other named named' in
    let roots = root_same word height height' root root' is (subst (λ (w : List ℕ). IsRootWord w height' root') (sym same.1) is') in
    (same.0, ap₂ rooted roots.0 roots.1)

pub IsKeyLine-same : (line : List ℕ) (k l : KeyView) → IsKeyLine line k → IsKeyLine line l → k ≡ l
IsKeyLine-same line k l first second =
    let one = name_and_word first in
    let other = name_and_word second in
    let same = holds_same line k.who l.who one.word other.word k.holds l.holds one.line_is other.line_is one.named other.named one.holds_is other.holds_is in
    ap₂ (λ (who : List ℕ) (holds : Credential). let k' : KeyView = record { who = who; holds = holds } in k') same.0 same.1

-- ---- what a reading answers

pub reads_seal : (line word : List ℕ) (read : Option (List ℕ)) → line ≡ codes "seal " ++ word → MatchOption read ((key : List ℕ) → IsKeyWord word key → ⊥) (IsKeyWord word)
    → MatchOption read ((key : List ℕ) → IsSealLine line key → ⊥) (IsSealLine line)
reads_seal line word None line_is h = λ key is.
    let seal = seal_word is in
    let same = append_cancel_left (codes "seal ") word seal.word (sym line_is ∙ seal.line_is) in
    h key (subst (λ w. IsKeyWord w key) (sym same) seal.key_is)
reads_seal line word (Some key) line_is h = subst (λ l. IsSealLine l key) (sym line_is) (seal_line word key h)

-- the line falls into a name and a word after the literal in no other way
abbrev pub FallsAlone : List ℕ → List ℕ → List ℕ → List ℕ → Type 0
FallsAlone literal line name word = (who other : List ℕ) → IsTrue (is_principal_name who) → line ≡ literal ++ (who ++ 32 ∷ other) → (name ≡ who) × (word ≡ other)

-- what was given to the name of the line
given_to : (ring more : List KeyView) (line name word : List ℕ) (holds : Credential) → line ≡ literal_of holds ++ (name ++ 32 ∷ word) → MayHave ring name word holds
    → more ≡ ring ++ record { who = name; holds = holds } ∷ [] → (k : KeyView) × GivesKey ring line k × (more ≡ ring ++ k ∷ [])
given_to ring more line name word holds line_is may more_is =
    let k : KeyView = record { who = name; holds = holds } in
    (k, record { line_is = subst (λ l. IsKeyLine l k) (sym line_is) (key_line name word holds may.named may.holds_is); unknown = may.unknown }, more_is)

-- what a line gives that falls so
may_have : (ring : List KeyView) (line name word : List ℕ) (k : KeyView) → FallsAlone (literal_of k.holds) line name word → GivesKey ring line k → MayHave ring name word k.holds
may_have ring line name word k only gives =
    let parts = name_and_word gives.line_is in
    let same = only k.who parts.word parts.named parts.line_is in
    record {
      named = subst (λ who. IsTrue (is_principal_name who)) (sym same.0) parts.named;
      holds_is = subst (λ w. IsCredentialWord w k.holds) (sym same.1) parts.holds_is;
      unknown = λ known. gives.unknown (subst (IsKnown ring) same.0 known);
    }

no_key : (ring : List KeyView) (line name word who : List ℕ) (holds : Credential) → line ≡ codes "key " ++ (name ++ 32 ∷ word) → FallsAlone (codes "key ") line name word
    → ((key : List ℕ) → MayHave ring name word (keyed key) → ⊥) → GivesKey ring line (record { who = who; holds = holds }) → ⊥
no_key ring line name word who (keyed key) line_is only none gives = none key (may_have ring line name word (record { who = who; holds = keyed key }) only gives)
no_key ring line name word who (rooted height root) line_is only none gives = two_literals line _ _ line_is (name_and_word gives.line_is).line_is

no_root : (ring : List KeyView) (line name word who : List ℕ) (holds : Credential) → line ≡ codes "root " ++ (name ++ 32 ∷ word) → FallsAlone (codes "root ") line name word
    → ((height : ℕ) (root : List ℕ) → MayHave ring name word (rooted height root) → ⊥) → GivesKey ring line (record { who = who; holds = holds }) → ⊥
no_root ring line name word who (keyed key) line_is only none gives = two_literals line _ _ (name_and_word gives.line_is).line_is line_is
no_root ring line name word who (rooted height root) line_is only none gives = none height root (may_have ring line name word (record { who = who; holds = rooted height root }) only gives)

abbrev AnswersLine : List KeyView → List KeyView → List ℕ → Bool → Type 0
AnswersLine ring more line added = MatchBool added ((k : KeyView) × GivesKey ring line k × (more ≡ ring ++ k ∷ [])) (((k : KeyView) → GivesKey ring line k → ⊥) × (more ≡ ring))

-- where the line falls into a name and the word of a key
pub gives_key : (ring more : List KeyView) (line name word : List ℕ) → line ≡ codes "key " ++ (name ++ 32 ∷ word) → FallsAlone (codes "key ") line name word → (added : Bool)
    → MatchBool added ((key : List ℕ) × MayHave ring name word (keyed key) × (more ≡ ring ++ record { who = name; holds = keyed key } ∷ []))
    (((key : List ℕ) → MayHave ring name word (keyed key) → ⊥) × (more ≡ ring))
    → AnswersLine ring more line added
gives_key ring more line name word line_is only true h = given_to ring more line name word (keyed h.0) line_is h.1 h.2
gives_key ring more line name word line_is only false h = (λ k gives. no_key ring line name word k.who k.holds line_is only h.0 gives, h.1)

-- where it falls into a name and the word of a root
pub gives_root : (ring more : List KeyView) (line name word : List ℕ) → line ≡ codes "root " ++ (name ++ 32 ∷ word) → FallsAlone (codes "root ") line name word → (added : Bool)
    → MatchBool added ((height : ℕ) × (root : List ℕ) × MayHave ring name word (rooted height root) × (more ≡ ring ++ record { who = name; holds = rooted height root } ∷ []))
    (((height : ℕ) (root : List ℕ) → MayHave ring name word (rooted height root) → ⊥) × (more ≡ ring))
    → AnswersLine ring more line added
gives_root ring more line name word line_is only true h = given_to ring more line name word (rooted h.0 h.1) line_is h.2 h.3
gives_root ring more line name word line_is only false h = (λ k gives. no_root ring line name word k.who k.holds line_is only h.0 gives, h.1)

-- where it falls into none
falls_into_none : (ring : List KeyView) (line who : List ℕ) (holds : Credential) → ((other word : List ℕ) → IsTrue (is_principal_name other) → line ≡ codes "key " ++ (other ++ 32 ∷ word) → ⊥)
    → ((other word : List ℕ) → IsTrue (is_principal_name other) → line ≡ codes "root " ++ (other ++ 32 ∷ word) → ⊥) → GivesKey ring line (record { who = who; holds = holds }) → ⊥
falls_into_none ring line who (keyed key) keys roots gives = let parts = name_and_word gives.line_is in keys who parts.word parts.named parts.line_is
falls_into_none ring line who (rooted height root) keys roots gives = let parts = name_and_word gives.line_is in roots who parts.word parts.named parts.line_is

pub gives_none : (ring : List KeyView) (line : List ℕ) → ((who word : List ℕ) → IsTrue (is_principal_name who) → line ≡ codes "key " ++ (who ++ 32 ∷ word) → ⊥)
    → ((who word : List ℕ) → IsTrue (is_principal_name who) → line ≡ codes "root " ++ (who ++ 32 ∷ word) → ⊥) → (k : KeyView) → GivesKey ring line k → ⊥
gives_none ring line keys roots k gives = falls_into_none ring line k.who k.holds keys roots gives
