-- What a line of a table says, by its words.
use Rattle.std.proofs.Common.{◌≡◌, ◌+◌, ◌^◌, ℕ, List, [], ◌∷◌, ◌++◌, codes, IsTrue, refl, sym, ap, ◌∙◌, subst, arith}
use Rattle.std.proofs.lemmas.List.{append_cancel_left}
use Rattle.bl_syntax.specs.Names.{is_principal_name, is_digit}
use Rattle.bl_syntax.specs.declared.terms.NodeId.{NodeId}
use Rattle.line_text.specs.Words.{HasNo}
use Rattle.line_text.proofs.WordLemmas.{same_words, HasNo-principal, HasNo-all, differ, IsSame}
use Rattle.line_words.specs.Numbers.{IsFile}
use Rattle.line_words.proofs.NumeralLemmas.{IsWritten-below, IsFile-unique}
use Rattle.mode_policy.specs.declared.entry.Membership.{Membership}
use Rattle.mode_policy.specs.declared.entry.FileModes.{FileModes}
use Rattle.mode_policy.specs.declared.entry.Entry.{Entry}
use Rattle.mode_policy.specs.declared.entry.Entry.TheVariants.{Who, Member, File}
use Rattle.mode_policy.specs.declared.modes.Modes.{Modes}
use Rattle.mode_policy.specs.Lines.{IsModesWord, IsEntryLine}
use Rattle.mode_policy.specs.LineParts.{AreNames, AreOwned}

pub HasNo-file : (word : List ℕ) (node : NodeId) → IsFile word node → HasNo 32 word
HasNo-file word node h = subst (HasNo 32) (sym h.word_is) (HasNo-all is_digit 32 refl h.digits (IsWritten-below (2 ^ 64) (omega arith) h.digits node.0 h.number).plain.digits)

-- ---- a line of a principal

pub who_line_is : (word : List ℕ) → IsTrue (is_principal_name word) → IsEntryLine (codes "who " ++ word) (Who word)
who_line_is word named = record { named = named; line_is = refl }

pub who_only : (word : List ℕ) (e : Entry) → IsEntryLine (codes "who " ++ word) e → IsTrue (is_principal_name word) × (e ≡ Who word)
who_only word (Who who) h = let same = append_cancel_left (codes "who ") who word (sym h.line_is) in (subst (λ (w : List ℕ). IsTrue (is_principal_name w)) same h.named, ap Who same)
who_only word (Member m) h = absurd (differ 0 refl h.line_is)
who_only word (File f) h = absurd (differ 0 refl h.line_is)

-- ---- a line of a membership

pub AreNames-same : (words a b c d : List ℕ) → AreNames words a b → AreNames words c d → IsSame a c b d
AreNames-same words a b c d h k = same_words (codes " ") a c b d refl (HasNo-principal a h.first_named) (HasNo-principal c k.first_named) (sym h.words_are ∙ k.words_are)

pub member_line_is : (words a b : List ℕ) → AreNames words a b → IsEntryLine (codes "member " ++ words) (Member (record { who = a; group = b }))
member_line_is words a b h = record { who_named = h.first_named; group_named = h.second_named; line_is = ap (λ (w : List ℕ). codes "member " ++ w) h.words_are }

pub member_only : (words : List ℕ) (e : Entry) → IsEntryLine (codes "member " ++ words) e → (m : Membership) × AreNames words m.who m.group × (e ≡ Member m)
member_only words (Who who) h = absurd (differ 0 refl h.line_is)
member_only words (Member m) h =
    (m, record { words_are = append_cancel_left (codes "member ") words (m.who ++ 32 ∷ m.group) h.line_is; first_named = h.who_named; second_named = h.group_named }, refl)
member_only words (File f) h = absurd (differ 1 refl h.line_is)

-- ---- a line of a file

pub AreOwned-same : (words o g p q : List ℕ) (m n : Modes) → (h : AreOwned words o g m) → (k : AreOwned words p q n) → (o ≡ p) × (g ≡ q) × (h.bits ≡ k.bits)
AreOwned-same words o g p q m n h k =
    let first = same_words (codes " ") o p (g ++ 32 ∷ h.bits) (q ++ 32 ∷ k.bits) refl (HasNo-principal o h.owner_named) (HasNo-principal p k.owner_named) (sym h.words_are ∙ k.words_are) in
    let second = same_words (codes " ") g q h.bits k.bits refl (HasNo-principal g h.group_named) (HasNo-principal q k.group_named) first.rest in
    (first.word, second.word, second.rest)

pub owned_parts : {words : List ℕ} (first behind second last : List ℕ) → HasNo 32 first → HasNo 32 second → words ≡ first ++ 32 ∷ behind → behind ≡ second ++ 32 ∷ last
    → (o g : List ℕ) (m : Modes) (h : AreOwned words o g m) → (o ≡ first) × (g ≡ second) × (h.bits ≡ last)
owned_parts first behind second last no_first no_second words_are behind_is o g m h =
    let one = same_words (codes " ") o first (g ++ 32 ∷ h.bits) behind refl (HasNo-principal o h.owner_named) no_first (sym h.words_are ∙ words_are) in
    let two = same_words (codes " ") g second h.bits last refl (HasNo-principal g h.group_named) no_second (one.rest ∙ behind_is) in
    (one.word, two.word, two.rest)

-- the words after the first are the file's number and the rest
pub record IsOfFile (words : List ℕ) (f : FileModes) : Type 0 where
  pub word : List ℕ
  pub behind : List ℕ
  pub words_are : words ≡ word ++ 32 ∷ behind
  pub node_is : IsFile word f.node
  pub owned : AreOwned behind f.owner f.group f.modes

pub mode_only : (words : List ℕ) (e : Entry) → IsEntryLine (codes "mode " ++ words) e → (f : FileModes) × IsOfFile words f × (e ≡ File f)
mode_only words (Who who) h = absurd (differ 0 refl h.line_is)
mode_only words (Member m) h = absurd (differ 1 refl h.line_is)
mode_only words (File f) h = (
  f,
  record {
    word = h.word;
    behind = f.owner ++ 32 ∷ (f.group ++ 32 ∷ h.bits);
    words_are = append_cancel_left (codes "mode ") words (h.word ++ 32 ∷ (f.owner ++ 32 ∷ (f.group ++ 32 ∷ h.bits))) h.line_is;
    node_is = h.node_is;
    owned = record { bits = h.bits; words_are = refl; owner_named = h.owner_named; group_named = h.group_named; modes_are = h.modes_are };
  },
  refl,
)

pub mode_line_is : (words word behind : List ℕ) (f : FileModes) → words ≡ word ++ 32 ∷ behind → IsFile word f.node → AreOwned behind f.owner f.group f.modes → IsEntryLine (codes "mode " ++ words) (File f)
mode_line_is words word behind f words_are node_is owned = record {
  word = word;
  bits = owned.bits;
  node_is = node_is;
  owner_named = owned.owner_named;
  group_named = owned.group_named;
  modes_are = owned.modes_are;
  line_is = ap (λ (w : List ℕ). codes "mode " ++ w) (words_are ∙ ap (λ (b : List ℕ). word ++ 32 ∷ b) owned.words_are);
}

-- the words fall into the number's word and the rest in one way
pub of_file_split : (words word behind : List ℕ) (node : NodeId) (f : FileModes) → words ≡ word ++ 32 ∷ behind → IsFile word node → IsOfFile words f → (f.node ≡ node) × AreOwned behind f.owner f.group f.modes
of_file_split words word behind node f words_are node_is h =
    let same = same_words (codes " ") h.word word h.behind behind refl (HasNo-file h.word f.node h.node_is) (HasNo-file word node node_is) (sym h.words_are ∙ words_are) in
    (IsFile-unique (subst (λ (w : List ℕ). IsFile w f.node) same.word h.node_is) node_is, subst (λ (b : List ℕ). AreOwned b f.owner f.group f.modes) same.rest h.owned)

-- ---- a line says one thing

IsModesWord-same : (word : List ℕ) (m n : Modes) → IsModesWord word m → IsModesWord word n → m ≡ n
IsModesWord-same word m n h k =
    let both : (48 + m.owner) ∷ (48 + m.group) ∷ (48 + m.other) ∷ [] ≡ (48 + n.owner) ∷ (48 + n.group) ∷ (48 + n.other) ∷ [] = sym h.word_is ∙ k.word_is in
    let first : 48 + m.owner ≡ 48 + n.owner = cc in
    let second : 48 + m.group ≡ 48 + n.group = cc in
    let third : 48 + m.other ≡ 48 + n.other = cc in
    let owner : m.owner ≡ n.owner = omega (arith, first) in
    let group : m.group ≡ n.group = omega (arith, second) in
    let other : m.other ≡ n.other = omega (arith, third) in
    ap (λ (x : ℕ). let d : Modes = record { owner = x; group = m.group; other = m.other } in d) owner
    ∙ ap (λ (x : ℕ). let d : Modes = record { owner = n.owner; group = x; other = m.other } in d) group
    ∙ ap (λ (x : ℕ). let d : Modes = record { owner = n.owner; group = n.group; other = x } in d) other

file_same : (f g : FileModes) → f.node ≡ g.node → f.owner ≡ g.owner → f.group ≡ g.group → f.modes ≡ g.modes → f ≡ g
file_same f g node owner group modes =
    ap (λ (x : NodeId). let h : FileModes = record { node = x; owner = f.owner; group = f.group; modes = f.modes } in h) node
    ∙ ap (λ (x : List ℕ). let h : FileModes = record { node = g.node; owner = x; group = f.group; modes = f.modes } in h) owner
    ∙ ap (λ (x : List ℕ). let h : FileModes = record { node = g.node; owner = g.owner; group = x; modes = f.modes } in h) group
    ∙ ap (λ (x : Modes). let h : FileModes = record { node = g.node; owner = g.owner; group = g.group; modes = x } in h) modes

same_mode_line : (line words : List ℕ) (f g : FileModes) → line ≡ codes "mode " ++ words → IsOfFile words f → IsOfFile words g → f ≡ g
same_mode_line line words f g line_is h k =
    let split = of_file_split words k.word k.behind g.node f k.words_are k.node_is h in
    let owned = AreOwned-same k.behind f.owner f.group g.owner g.group f.modes g.modes split.1 k.owned in
    file_same f g split.0 owned.0 owned.1
    (IsModesWord-same k.owned.bits f.modes g.modes (subst (λ (b : List ℕ). IsModesWord b f.modes) owned.2 split.1.modes_are) k.owned.modes_are)

pub IsEntryLine-same : (line : List ℕ) (e f : Entry) → IsEntryLine line e → IsEntryLine line f → e ≡ f
IsEntryLine-same line (Who who) f h k =
    sym (who_only who f (subst (λ (l : List ℕ). IsEntryLine l f) h.line_is k)).1
IsEntryLine-same line (Member m) f h k =
    let words : List ℕ = m.who ++ 32 ∷ m.group in
    let other = member_only words f (subst (λ (l : List ℕ). IsEntryLine l f) h.line_is k) in
    let names : AreNames words m.who m.group = record { words_are = refl; first_named = h.who_named; second_named = h.group_named } in
    let same = AreNames-same words m.who m.group other.0.who other.0.group names other.1 in
    let members : m ≡ other.0 =
    ap (λ (x : List ℕ). let n : Membership = record { who = x; group = m.group } in n) same.word ∙ ap (λ (x : List ℕ). let n : Membership = record { who = other.0.who; group = x } in n) same.rest in
    ap Member members ∙ sym other.2
IsEntryLine-same line (File g) f h k =
    let words : List ℕ = h.word ++ 32 ∷ (g.owner ++ 32 ∷ (g.group ++ 32 ∷ h.bits)) in
    let mine : IsOfFile words g = record {
      word = h.word;
      behind = g.owner ++ 32 ∷ (g.group ++ 32 ∷ h.bits);
      words_are = refl;
      node_is = h.node_is;
      owned = record { bits = h.bits; words_are = refl; owner_named = h.owner_named; group_named = h.group_named; modes_are = h.modes_are };
    } in
    let other = mode_only words f (subst (λ (l : List ℕ). IsEntryLine l f) h.line_is k) in
    ap File (same_mode_line line words g other.0 h.line_is mine other.1) ∙ sym other.2
