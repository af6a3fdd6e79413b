-- The lines of an input that asks for signatures: what each gives, or what is wrong with it, is determined.
use Rattle.std.proofs.Common.{◌≡◌, ◌≢◌, ◌⊎◌, inl, inr, ℕ, Bool, true, false, List, [], ◌∷◌, ◌++◌, length, IsTrue, codes, refl, sym, ap, ap₂, subst, ◌∙◌, arith}
use Rattle.std.specs.Prelude.{◌==◌, not}
use Rattle.std.specs.List.{list_all}
use Rattle.std.proofs.lemmas.Bool.{and_parts, cases_eq, eqb-true, eqb-false}
use Rattle.std.proofs.lemmas.List.{append-nil, append_cancel_left}
use Rattle.bl_syntax.specs.Statement.{StatementView}
use Rattle.bl_tokens.specs.declared.faults.TextFault.{TextFault}
use Rattle.bl_tokens.specs.declared.faults.TextFault.TheVariants as texts
use Rattle.bl_text.specs.Texts.{AreOneFault, IsStatementText, StatementFault}
use Rattle.bl_text.proofs.TextLemmas.{saying_once, statement_fault_once, statement_or_fault}
use Rattle.bl_text.proofs.TotalLemmas.{statement_or_its_fault}
use Rattle.line_forms.specs.declared.fault.LineFault.{LineFault}
use Rattle.line_forms.specs.declared.fault.LineFault.TheVariants.{BadWord, BadCount, BadText}
use Rattle.line_text.specs.HexWord.{IsHex}
use Rattle.line_text.specs.Words.{HasNo, has_first}
use Rattle.line_text.proofs.HexLemmas.{IsHex-all, IsHex-same}
use Rattle.line_text.proofs.IsHexLemmas.{DecidesHex, decided_hex}
use Rattle.line_words.specs.Cutting.{Cut, beginning, first_cut}
use Rattle.line_words.proofs.CutLemmas.{cut_from-parts, first_cut-plain}
use Rattle.root_signing.specs.Reading.{IsUnreadSeed}
use Rattle.root_signing.specs.SigningLines.{IsHeadFault, IsSeedFault, IsSeedLine, IsSeedWord, IsStatementFault, SaysStatement, alone, of_seed_count, of_seed_head, of_seed_word, of_statement_head, of_statement_text, other_word}

-- ---- the word in front

-- after a word, and after a word and a space, there is one rest
pub same_rest : (line word a b : List ℕ) → line ≡ word ++ 32 ∷ a → line ≡ word ++ 32 ∷ b → a ≡ b
same_rest line word a b first second =
    let behind : 32 ∷ a ≡ 32 ∷ b = append_cancel_left word (32 ∷ a) (32 ∷ b) (sym first ∙ second) in
    cc

not_alone : (line word rest : List ℕ) → line ≡ word → line ≡ word ++ 32 ∷ rest → ⊥
not_alone line word rest first second =
    let none : [] ≡ 32 ∷ rest = append_cancel_left word [] (32 ∷ rest) (append-nil word ∙ sym first ∙ second) in
    cc

pub head_missing : (word line : List ℕ) → ((rest : List ℕ) → line ≡ word ++ rest → ⊥) → IsHeadFault word line (BadWord 0)
head_missing word line none = other_word (λ is. none [] (is ∙ sym (append-nil word))) (λ rest is. none (32 ∷ rest) is)

pub head_alone : (word line behind : List ℕ) → line ≡ word ++ behind → behind ≡ [] → IsHeadFault word line BadCount
head_alone word line behind is none = alone (is ∙ ap (λ (b : List ℕ). word ++ b) none ∙ append-nil word)

pub head_joined : (word line behind : List ℕ) → line ≡ word ++ behind → (behind ≡ [] → ⊥) → ((rest : List ℕ) → behind ≡ 32 ∷ rest → ⊥) → IsHeadFault word line (BadWord 0)
head_joined word line behind is some none =
    other_word (λ same. some (append_cancel_left word behind [] (sym is ∙ same ∙ sym (append-nil word)))) (λ rest same. none rest (append_cancel_left word behind (32 ∷ rest) (sym is ∙ same)))

head_or_rest : (word line rest : List ℕ) (fault : LineFault) → line ≡ word ++ 32 ∷ rest → IsHeadFault word line fault → ⊥
head_or_rest word line rest _ is (alone same) = not_alone line word rest same is
head_or_rest word line rest _ is (other_word _ none) = none rest is

head_once : (word line : List ℕ) (e f : LineFault) → IsHeadFault word line e → IsHeadFault word line f → e ≡ f
head_once word line _ _ (alone is) (alone same) = refl
head_once word line _ _ (alone is) (other_word some _) = absurd (some is)
head_once word line _ _ (other_word some _) (alone is) = absurd (some is)
head_once word line _ _ (other_word some none) (other_word other more) = refl

abbrev DecidesFront : List ℕ → List ℕ → Type 0
DecidesFront word line = ((behind : List ℕ) × (line ≡ word ++ behind)) ⊎ ((behind : List ℕ) → line ≡ word ++ behind → ⊥)

front_step : (byte : ℕ) (word : List ℕ) (first : ℕ) (line : List ℕ) (same : Bool) → (first == byte) ≡ same → DecidesFront word line → DecidesFront (byte ∷ word) (first ∷ line)
front_step byte word first line true is (inl h) = inl (h.0, ap (λ (b : ℕ). b ∷ line) (eqb-true first byte is) ∙ ap (λ (l : List ℕ). byte ∷ l) h.1)
front_step byte word first line true is (inr none) = inr (λ behind h. let tail : line ≡ word ++ behind = cc in none behind tail)
front_step byte word first line false is _ = inr (λ behind h. let head : first ≡ byte = cc in eqb-false first byte is head)

decided_front : (word line : List ℕ) → DecidesFront word line
decided_front [] line = inl (line, refl)
decided_front (byte ∷ word) [] = inr (λ behind h. cc)
decided_front (byte ∷ word) (first ∷ line) = front_step byte word first line (first == byte) refl (decided_front word line)

abbrev DecidesHead : List ℕ → List ℕ → Type 0
DecidesHead word line = ((rest : List ℕ) × (line ≡ word ++ 32 ∷ rest)) ⊎ ((fault : LineFault) × IsHeadFault word line fault)

head_space : (word line : List ℕ) (byte : ℕ) (rest : List ℕ) → line ≡ word ++ byte ∷ rest → (byte ≡ 32) ⊎ (byte ≡ 32 → ⊥) → DecidesHead word line
head_space word line byte rest is (inl space) = inl (rest, is ∙ ap (λ (b : ℕ). word ++ b ∷ rest) space)
head_space word line byte rest is (inr other) = inr (BadWord 0, head_joined word line (byte ∷ rest) is (λ none. cc) (λ more same. let first : byte ≡ 32 = cc in other first))

head_behind : (word line behind : List ℕ) → line ≡ word ++ behind → DecidesHead word line
head_behind word line [] is = inr (BadCount, head_alone word line [] is refl)
head_behind word line (byte ∷ rest) is = head_space word line byte rest is (cases_eq byte 32)

decided_head : (word line : List ℕ) → DecidesHead word line
decided_head word line = elim (decided_front word line) [
  | inl h ↦ head_behind word line h.0 h.1
  | inr none ↦ inr (BadWord 0, head_missing word line none)
]

-- ---- the seed

not_first : (stop : ℕ) (word : List ℕ) → HasNo stop word → IsTrue (not (has_first stop word))
not_first stop [] none = refl
not_first stop (byte ∷ word) none = (and_parts (not (byte == stop)) (list_all (λ b. not (b == stop)) word) none).0

-- after a word of hexadecimal, which has no quote and no space, nothing is left
hex_is_cut : (word bytes : List ℕ) → IsHex word bytes → (first_cut word).behind ≡ []
hex_is_cut word bytes is =
    let no_space : HasNo 32 word = IsHex-all (λ byte. not (byte == 32)) refl refl word bytes is in
    let no_quote : HasNo 34 word = IsHex-all (λ byte. not (byte == 34)) refl refl word bytes is in
    ap (λ (w : List ℕ). (first_cut w).behind) (sym (append-nil word)) ∙ ap (λ (cut : Cut). cut.behind) (first_cut-plain word [] no_space (not_first 34 word no_quote) refl)

pub seed_once : (line a b : List ℕ) → IsSeedLine line a → IsSeedLine line b → a ≡ b
seed_once line a b first second =
    let same = same_rest line (codes "seed") first.word second.word first.line_is second.line_is in
    IsHex-same second.word a b (subst (λ (w : List ℕ). IsHex w a) same first.word_is.hex) second.word_is.hex

pub seed_or_fault : (line seed : List ℕ) (fault : LineFault) → IsSeedLine line seed → IsSeedFault line fault → ⊥
seed_or_fault line seed _ is (of_seed_head fault h) = head_or_rest (codes "seed") line is.word fault is.line_is h
seed_or_fault line seed _ is (of_seed_count rest same many) =
    many (subst (λ (w : List ℕ). (first_cut w).behind ≡ []) (same_rest line (codes "seed") is.word rest is.line_is same) (hex_is_cut is.word seed is.word_is.hex))
seed_or_fault line seed _ is (of_seed_word word same one none) =
    none seed (subst (λ (w : List ℕ). IsSeedWord w seed) (same_rest line (codes "seed") is.word word is.line_is same) is.word_is)

many_or_one : (line rest word : List ℕ) → line ≡ codes "seed" ++ 32 ∷ rest → line ≡ codes "seed" ++ 32 ∷ word → (first_cut rest).behind ≢ [] → (first_cut word).behind ≡ [] → ⊥
many_or_one line rest word is same many one = many (subst (λ (w : List ℕ). (first_cut w).behind ≡ []) (same_rest line (codes "seed") word rest same is) one)

pub seed_fault_once : (line : List ℕ) (e f : LineFault) → IsSeedFault line e → IsSeedFault line f → e ≡ f
seed_fault_once line _ _ (of_seed_head e h) (of_seed_head f k) = head_once (codes "seed") line e f h k
seed_fault_once line _ _ (of_seed_head e h) (of_seed_count rest is many) = absurd (head_or_rest (codes "seed") line rest e is h)
seed_fault_once line _ _ (of_seed_head e h) (of_seed_word word is one none) = absurd (head_or_rest (codes "seed") line word e is h)
seed_fault_once line _ _ (of_seed_count rest is many) (of_seed_head f k) = absurd (head_or_rest (codes "seed") line rest f is k)
seed_fault_once line _ _ (of_seed_count rest is many) (of_seed_count other same more) = refl
seed_fault_once line _ _ (of_seed_count rest is many) (of_seed_word word same one none) = absurd (many_or_one line rest word is same many one)
seed_fault_once line _ _ (of_seed_word word is one none) (of_seed_head f k) = absurd (head_or_rest (codes "seed") line word f is k)
seed_fault_once line _ _ (of_seed_word word is one none) (of_seed_count rest same many) = absurd (many_or_one line rest word same is many one)
seed_fault_once line _ _ (of_seed_word word is one none) (of_seed_word other same more none') = refl

abbrev DecidesSeed : List ℕ → Type 0
DecidesSeed line = ((seed : List ℕ) × IsSeedLine line seed) ⊎ ((fault : LineFault) × IsSeedFault line fault)

seed_bytes : (line word seed : List ℕ) → line ≡ codes "seed" ++ 32 ∷ word → (first_cut word).behind ≡ [] → IsHex word seed → (length seed ≡ 32) ⊎ (length seed ≡ 32 → ⊥) → DecidesSeed line
seed_bytes line word seed is one hex (inl whole) = inl (seed, record { word = word; line_is = is; word_is = record { hex = hex; whole = whole } })
seed_bytes line word seed is one hex (inr other) = inr (BadWord 5, of_seed_word word is one (λ b h. other (ap length (IsHex-same word seed b hex h.hex) ∙ h.whole)))

seed_word : (line word : List ℕ) → line ≡ codes "seed" ++ 32 ∷ word → (more : List ℕ) → (first_cut word).behind ≡ more → DecidesHex word → DecidesSeed line
seed_word line word is (byte ∷ more) many _ = inr (BadCount, of_seed_count word is (λ one. let none : byte ∷ more ≡ [] = sym many ∙ one in cc))
seed_word line word is [] one (inl h) = seed_bytes line word h.0 is one h.1 (cases_eq (length h.0) 32)
seed_word line word is [] one (inr none) = inr (BadWord 5, of_seed_word word is one (λ b h. none b h.hex))

pub decided_seed : (line : List ℕ) → DecidesSeed line
decided_seed line = elim (decided_head (codes "seed") line) [
  | inl h ↦ seed_word line h.0 h.1 (first_cut h.0).behind refl (decided_hex h.0)
  | inr wrong ↦ inr (wrong.0, of_seed_head wrong.0 wrong.1)
]

-- ---- what reading a seed gives

-- nothing is left
pub empty_of : (bytes : List ℕ) → length bytes ≡ 0 → bytes ≡ []
empty_of [] is = refl
empty_of (byte ∷ bytes) is = absurd (omega (arith, is))

pub unread_head : (line : List ℕ) (fault : LineFault) → IsHeadFault (codes "seed") line fault → IsUnreadSeed line fault
unread_head line _ (alone is) = of_seed_head BadCount (alone is)
unread_head line _ (other_word other none) = of_seed_head (BadWord 0) (other_word other none)

pub many_words : (line rest more : List ℕ) → line ≡ codes "seed" ++ 32 ∷ rest → more ≡ (first_cut rest).behind → (length more ≡ 0 → ⊥) → IsSeedFault line BadCount
many_words line rest more is behind some = of_seed_count rest is (λ none. some (ap length (behind ∙ none)))

-- the word is all that stands after the first one
whole_word : (rest word more : List ℕ) → word ≡ (first_cut rest).word → more ≡ (first_cut rest).behind → length more ≡ 0 → rest ≡ word
whole_word rest word more is behind none =
    let parts : rest ≡ word ++ more = cut_from-parts beginning rest ∙ ap₂ (λ (a b : List ℕ). a ++ b) (sym is) (sym behind) in
    parts ∙ ap (λ (b : List ℕ). word ++ b) (empty_of more none) ∙ append-nil word

pub has_seed_word : (line rest word more seed : List ℕ) → line ≡ codes "seed" ++ 32 ∷ rest → word ≡ (first_cut rest).word → more ≡ (first_cut rest).behind → length more ≡ 0 → IsSeedWord word seed → IsSeedLine line seed
has_seed_word line rest word more seed is first behind none h =
    record { word = rest; line_is = is; word_is = subst (λ (w : List ℕ). IsSeedWord w seed) (sym (whole_word rest word more first behind none)) h }

pub no_seed_word : (line rest word more : List ℕ) → line ≡ codes "seed" ++ 32 ∷ rest → word ≡ (first_cut rest).word → more ≡ (first_cut rest).behind → length more ≡ 0
    → ((seed : List ℕ) → IsSeedWord word seed → ⊥) → IsSeedFault line (BadWord 5)
no_seed_word line rest word more is first behind none writes_none =
    of_seed_word rest is (sym behind ∙ empty_of more none) (λ seed h. writes_none seed (subst (λ (w : List ℕ). IsSeedWord w seed) (whole_word rest word more first behind none) h))

-- ---- a statement

pub says_once : (line text other : List ℕ) (s t : StatementView) → SaysStatement line text s → SaysStatement line other t → (text ≡ other) × (s ≡ t)
says_once line text other s t first second =
    let same = same_rest line (codes "statement") text other first.line_is second.line_is in
    let moved : IsStatementText other s = subst (λ (b : List ℕ). IsStatementText b s) same first.text_is in
    (same, saying_once moved.is_text second.text_is.is_text)

pub says_or_fault : (line text : List ℕ) (s : StatementView) (fault : LineFault) → SaysStatement line text s → IsStatementFault line fault → ⊥
says_or_fault line text s _ says (of_statement_head fault h) = head_or_rest (codes "statement") line text fault says.line_is h
says_or_fault line text s _ says (of_statement_text other fault is h told) =
    let moved : IsStatementText other s = subst (λ (b : List ℕ). IsStatementText b s) (same_rest line (codes "statement") text other says.line_is is) says.text_is in
    told (statement_or_fault moved h)

one_if_told : (e f : TextFault) → AreOneFault e f → e ≢ texts.NoMemory → f ≢ texts.NoMemory → e ≡ f
one_if_told e f (inl none) first second = absurd (first none)
one_if_told e f (inr (inl none)) first second = absurd (second none)
one_if_told e f (inr (inr same)) first second = same

pub statement_line_fault_once : (line : List ℕ) (e f : LineFault) → IsStatementFault line e → IsStatementFault line f → e ≡ f
statement_line_fault_once line _ _ (of_statement_head e h) (of_statement_head f k) = head_once (codes "statement") line e f h k
statement_line_fault_once line _ _ (of_statement_head e h) (of_statement_text text f is k told) = absurd (head_or_rest (codes "statement") line text e is h)
statement_line_fault_once line _ _ (of_statement_text text e is h told) (of_statement_head f k) = absurd (head_or_rest (codes "statement") line text f is k)
statement_line_fault_once line _ _ (of_statement_text text e is h told) (of_statement_text other f same k more) =
    let moved : StatementFault other e = subst (λ (b : List ℕ). StatementFault b e) (same_rest line (codes "statement") text other is same) h in
    ap BadText (one_if_told e f (statement_fault_once moved k) told more)

pub decided_statement : (line : List ℕ) → ((text : List ℕ) × (s : StatementView) × SaysStatement line text s) ⊎ ((fault : LineFault) × IsStatementFault line fault)
decided_statement line = elim (decided_head (codes "statement") line) [
  | inl h ↦ elim (statement_or_its_fault h.0) [
    | inl is ↦ inl (h.0, is.0, record { line_is = h.1; text_is = is.1 })
    | inr wrong ↦ inr (BadText wrong.0, of_statement_text h.0 wrong.0 h.1 wrong.1 wrong.2)
  ]
  | inr wrong ↦ inr (wrong.0, of_statement_head wrong.0 wrong.1)
]
