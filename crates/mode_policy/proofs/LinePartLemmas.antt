-- What the parts of a line say, or that they say nothing.
use Rattle.std.proofs.Common.{◌≡◌, ◌↔◌, ◌≤◌, ◌<◌, ◌+◌, ◌-◌, ℕ, List, Option, MatchOption, ◌∷◌, ◌++◌, codes, IsTrue, refl, sym, ◌∙◌, subst, nat_lt, arith}
use Rattle.std.proofs.lemmas.Bool.{lt-ltb, ltb-true}
use Rattle.bl_syntax.specs.Names.{is_principal_name}
use Rattle.bl_syntax.specs.declared.terms.NodeId.{NodeId}
use Rattle.line_text.specs.Words.{HasNo}
use Rattle.line_text.proofs.WordLemmas.{same_words, HasNo-principal}
use Rattle.line_words.specs.Numbers.{IsFile}
use Rattle.mode_policy.specs.declared.entry.FileModes.{FileModes}
use Rattle.mode_policy.specs.declared.entry.Entry.{Entry}
use Rattle.mode_policy.specs.declared.entry.Entry.TheVariants.{Who, Member, File}
use Rattle.mode_policy.specs.declared.modes.Modes.{Modes}
use Rattle.mode_policy.specs.Lines.{IsModesWord, IsEntryLine}
use Rattle.mode_policy.specs.LineParts.{AreNames, AreOwned, IsFileLine, IsNoneOwned, IsOwnedFile}
use Rattle.mode_policy.proofs.LineLemmas.{HasNo-file, who_line_is, mode_only, mode_line_is, of_file_split, owned_parts}

-- ---- a digit

pub octal_is : (byte : ℕ) → 48 ≤ byte → IsTrue (nat_lt byte 56) ↔ ((digit : ℕ) × (byte ≡ 48 + digit) × (digit < 8))
octal_is byte low = (λ h. (byte - 48, omega (arith, low), omega (arith, low, ltb-true byte 56 h)), λ h. lt-ltb byte 56 (omega (arith, h.1, h.2)))

-- ---- two names

pub no_first_name : (words first behind : List ℕ) → HasNo 32 first → words ≡ first ++ 32 ∷ behind → (IsTrue (is_principal_name first) → ⊥)
    → (a b : List ℕ) → AreNames words a b → ⊥
no_first_name words first behind unbroken words_are none a b h =
    let same = same_words (codes " ") a first b behind refl (HasNo-principal a h.first_named) unbroken (sym h.words_are ∙ words_are) in
    none (subst (λ (w : List ℕ). IsTrue (is_principal_name w)) same.word h.first_named)

pub no_second_name : (words first behind : List ℕ) → HasNo 32 first → words ≡ first ++ 32 ∷ behind → (IsTrue (is_principal_name behind) → ⊥)
    → (a b : List ℕ) → AreNames words a b → ⊥
no_second_name words first behind unbroken words_are none a b h =
    let same = same_words (codes " ") a first b behind refl (HasNo-principal a h.first_named) unbroken (sym h.words_are ∙ words_are) in
    none (subst (λ (w : List ℕ). IsTrue (is_principal_name w)) same.rest h.second_named)

-- names that were made of words are these words, and are principals' names
pub named_by : (name word : List ℕ) → IsTrue (is_principal_name word) → name ≡ word → IsTrue (is_principal_name name)
named_by name word named same = subst (λ (w : List ℕ). IsTrue (is_principal_name w)) (sym same) named

pub names_are : (words first behind a b : List ℕ) → words ≡ first ++ 32 ∷ behind → IsTrue (is_principal_name first) → a ≡ first → IsTrue (is_principal_name behind) → b ≡ behind
    → AreNames words a b
names_are words first behind a b words_are first_named a_is second_named b_is = record {
  words_are = subst (λ (x : List ℕ). words ≡ x ++ 32 ∷ b) (sym a_is) (subst (λ (y : List ℕ). words ≡ first ++ 32 ∷ y) (sym b_is) words_are);
  first_named = named_by a first first_named a_is;
  second_named = named_by b behind second_named b_is;
}

-- ---- an owner, a group and modes

pub no_second_cut : (words first behind : List ℕ) → HasNo 32 first → words ≡ first ++ 32 ∷ behind → ((g bits : List ℕ) → HasNo 32 g → behind ≡ g ++ 32 ∷ bits → ⊥)
    → IsNoneOwned words
no_second_cut words first behind unbroken words_are none o g m h =
    let same = same_words (codes " ") o first (g ++ 32 ∷ h.bits) behind refl (HasNo-principal o h.owner_named) unbroken (sym h.words_are ∙ words_are) in
    none g h.bits (HasNo-principal g h.group_named) (sym same.rest)

-- the words fall into three
pub record IsCut (words first second last : List ℕ) : Type 0 where
  pub first_word : HasNo 32 first
  pub second_word : HasNo 32 second
  pub words_are : words ≡ first ++ 32 ∷ (second ++ 32 ∷ last)

pub IsCut-twice : (words first behind second last : List ℕ) → HasNo 32 first → HasNo 32 second → words ≡ first ++ 32 ∷ behind → behind ≡ second ++ 32 ∷ last
    → IsCut words first second last
IsCut-twice words first behind second last no_first no_second words_are behind_is = record {
  first_word = no_first;
  second_word = no_second;
  words_are = subst (λ (b : List ℕ). words ≡ first ++ 32 ∷ b) behind_is words_are;
}

pub no_owner : (words first second last : List ℕ) → IsCut words first second last → (IsTrue (is_principal_name first) → ⊥) → IsNoneOwned words
no_owner words first second last cut none o g m h =
    let same = owned_parts first (second ++ 32 ∷ last) second last cut.first_word cut.second_word cut.words_are refl o g m h in
    none (subst (λ (w : List ℕ). IsTrue (is_principal_name w)) same.0 h.owner_named)

pub no_group : (words first second last : List ℕ) → IsCut words first second last → (IsTrue (is_principal_name second) → ⊥) → IsNoneOwned words
no_group words first second last cut none o g m h =
    let same = owned_parts first (second ++ 32 ∷ last) second last cut.first_word cut.second_word cut.words_are refl o g m h in
    none (subst (λ (w : List ℕ). IsTrue (is_principal_name w)) same.1 h.group_named)

pub no_modes : (words first second last : List ℕ) → IsCut words first second last → ((m : Modes) → IsModesWord last m → ⊥) → IsNoneOwned words
no_modes words first second last cut none o g m h =
    let same = owned_parts first (second ++ 32 ∷ last) second last cut.first_word cut.second_word cut.words_are refl o g m h in
    none m (subst (λ (w : List ℕ). IsModesWord w m) same.2 h.modes_are)

pub owned_is : (words first second last o g : List ℕ) (m : Modes) → IsCut words first second last → IsTrue (is_principal_name first) → o ≡ first → IsTrue (is_principal_name second) → g ≡ second
    → IsModesWord last m → AreOwned words o g m
owned_is words first second last o g m cut first_named o_is second_named g_is modes_are = record {
  bits = last;
  words_are = subst (λ (x : List ℕ). words ≡ x ++ 32 ∷ (g ++ 32 ∷ last)) (sym o_is) (subst (λ (y : List ℕ). words ≡ first ++ 32 ∷ (y ++ 32 ∷ last)) (sym g_is) cut.words_are);
  owner_named = named_by o first first_named o_is;
  group_named = named_by g second second_named g_is;
  modes_are = modes_are;
}

-- ---- a line of a file

pub no_file_line : (words word : List ℕ) (node : NodeId) → IsNoneOwned words → IsFile word node → (e : Entry) → IsFileLine word words e → ⊥
no_file_line words word node none is e h =
    let one = mode_only (word ++ 32 ∷ words) e h in
    let split = of_file_split (word ++ 32 ∷ words) word words node one.0 refl is one.1 in
    none one.0.owner one.0.group one.0.modes split.1

pub file_line_is : (words word : List ℕ) (node : NodeId) (f : FileModes) → IsOwnedFile words node f → IsFile word node → IsFileLine word words (File f)
file_line_is words word node f h is = mode_line_is (word ++ 32 ∷ words) word words f refl (subst (IsFile word) (sym h.1) is) h.0

pub no_cut_line : (words : List ℕ) → ((word behind : List ℕ) → HasNo 32 word → words ≡ word ++ 32 ∷ behind → ⊥) → (e : Entry) → IsEntryLine (codes "mode " ++ words) e → ⊥
no_cut_line words none e h = let one = mode_only words e h in none one.1.word one.1.behind (HasNo-file one.1.word one.0.node one.1.node_is) one.1.words_are

pub no_node_line : (words word behind : List ℕ) → HasNo 32 word → words ≡ word ++ 32 ∷ behind → ((n : NodeId) → IsFile word n → ⊥) → (e : Entry) → IsEntryLine (codes "mode " ++ words) e → ⊥
no_node_line words word behind unbroken words_are none e h =
    let one = mode_only words e h in
    let same = same_words (codes " ") one.1.word word one.1.behind behind refl (HasNo-file one.1.word one.0.node one.1.node_is) unbroken (sym one.1.words_are ∙ words_are) in
    none one.0.node (subst (λ (w : List ℕ). IsFile w one.0.node) same.word one.1.node_is)

-- what a line is read as, by its text
abbrev pub IsRead : List ℕ → Option Entry → Type 0
IsRead line r = MatchOption r ((e : Entry) → IsEntryLine line e → ⊥) (IsEntryLine line)

pub read_same : (line other : List ℕ) (r : Option Entry) → line ≡ other → IsRead other r → IsRead line r
read_same line other r same h = subst (λ (l : List ℕ). IsRead l r) (sym same) h

pub file_read : (words word behind : List ℕ) (r : Option Entry) → words ≡ word ++ 32 ∷ behind → IsRead (codes "mode " ++ (word ++ 32 ∷ behind)) r → IsRead (codes "mode " ++ words) r
file_read words word behind r words_are h = subst (λ (w : List ℕ). IsRead (codes "mode " ++ w) r) (sym words_are) h

-- ---- a line

pub who_is : (word who : List ℕ) → IsTrue (is_principal_name word) → who ≡ word → IsEntryLine (codes "who " ++ word) (Who who)
who_is word who named same = subst (λ (w : List ℕ). IsEntryLine (codes "who " ++ word) (Who w)) (sym same) (who_line_is word named)

pub no_line : (line : List ℕ) → ((r : List ℕ) → line ≡ codes "mode " ++ r → ⊥) → ((r : List ℕ) → line ≡ codes "member " ++ r → ⊥) → ((r : List ℕ) → line ≡ codes "who " ++ r → ⊥)
    → (e : Entry) → IsEntryLine line e → ⊥
no_line line mode member who (Who k) h = who k h.line_is
no_line line mode member who (Member m) h = member (m.who ++ 32 ∷ m.group) h.line_is
no_line line mode member who (File f) h = mode (h.word ++ 32 ∷ (f.owner ++ 32 ∷ (f.group ++ 32 ∷ h.bits))) h.line_is
