-- Lines are those of a table or have one first line that is wrong.
use Rattle.std.proofs.Common.{◌≡◌, ◌⊎◌, inl, inr, ℕ, zero, suc, ◌+◌, ◌<◌, ◌-◌, List, [], ◌∷◌, ◌++◌, take, drop, codes, IsTrue, refl, sym, ap, ◌∙◌, subst, ⊎_elim, arith}
use Rattle.std.specs.Prelude.{Contains, ◌==◌}
use Rattle.std.specs.Str.{bytes_eq}
use Rattle.std.proofs.lemmas.Bool.{false≢true, eqb-true, eqb-false, cases_Bool, cases_lt}
use Rattle.std.proofs.lemmas.List.{take-append-drop}
use Rattle.std.proofs.lemmas.Slice.Eq.{bytes_eq-Decides}
use Rattle.bl_syntax.specs.Names.{is_principal_name}
use Rattle.bl_syntax.specs.declared.terms.NodeId.{NodeId}
use Rattle.bl_syntax.specs.Equality.{node_eq}
use Rattle.bl_syntax.proofs.EqualityLemmas.{Decides-node_eq}
use Rattle.line_text.proofs.WordLemmas.{stop_place, IsSplit-at_word, HasNo-front, HasNo-principal, same_words}
use Rattle.line_text.specs.Words.{HasNo}
use Rattle.line_words.specs.Numbers.{IsFile}
use Rattle.line_words.proofs.DecisionLemmas.{file_decided}
use Rattle.bl_rules.proofs.Membership.{Contains-nothing, Contains-head, Contains-tail, Contains-cons_cases}
use Rattle.mode_policy.specs.declared.entry.Membership.{Membership}
use Rattle.mode_policy.specs.declared.entry.FileModes.{FileModes}
use Rattle.mode_policy.specs.declared.entry.Entry.{Entry}
use Rattle.mode_policy.specs.declared.entry.Entry.TheVariants.{Who, Member, File}
use Rattle.mode_policy.specs.declared.modes.Modes.{Modes}
use Rattle.mode_policy.specs.Allowed.{is_member}
use Rattle.mode_policy.specs.Lines.{IsModesWord, IsEntryLine, Adds, IsBad, IsTwice, AddUpTo, IsFirstAt, IsFirst, AreOfTable}
use Rattle.mode_policy.specs.LineParts.{AreNames, AreOwned}
use Rattle.mode_policy.specs.Laws.{IsFaulty, HasOneFirstFault}
use Rattle.mode_policy.specs.Table.{TableView, IsOfKnown, IsRepeated, with_entry, no_table, nodes_of}
use Rattle.mode_policy.proofs.ClassLemmas.{is_member-Decides}
use Rattle.mode_policy.proofs.LineLemmas.{HasNo-file, who_line_is, who_only, member_line_is, member_only, IsOfFile, mode_only, mode_line_is, IsEntryLine-same, owned_parts}
use Rattle.mode_policy.proofs.ReadingLemmas.{one_table, one_first, not_both, no_table_has_a_first, AddsNothing, bad_adds_nothing, twice_adds_nothing}

-- ---- at most one

pub one_reading : (lines : List (List ℕ)) (a b : TableView) → AreOfTable lines a → AreOfTable lines b → a ≡ b
one_reading lines a b h k = one_table no_table lines a b h k

first_of_both : (IsSo IsToo : TableView → List ℕ → Type 0) → AddsNothing IsSo → AddsNothing IsToo → (lines : List (List ℕ)) (m n : ℕ) → IsFirst IsSo lines m → IsFirst IsToo lines n → m ≡ n
first_of_both IsSo IsToo nothing too lines m n h k = h.2 ∙ ap (λ (p : ℕ). p + 1) (one_first IsSo IsToo nothing too no_table lines h.0 k.0 h.1 k.1) ∙ sym k.2

one_line : (lines : List (List ℕ)) (m n : ℕ) → IsFaulty lines m → IsFaulty lines n → m ≡ n
one_line lines m n (inl h) (inl k) = first_of_both IsBad IsBad bad_adds_nothing bad_adds_nothing lines m n h k
one_line lines m n (inl h) (inr k) = first_of_both IsBad IsTwice bad_adds_nothing twice_adds_nothing lines m n h k
one_line lines m n (inr h) (inl k) = first_of_both IsTwice IsBad twice_adds_nothing bad_adds_nothing lines m n h k
one_line lines m n (inr h) (inr k) = first_of_both IsTwice IsTwice twice_adds_nothing twice_adds_nothing lines m n h k

one_way : (lines : List (List ℕ)) (n : ℕ) → IsFirst IsBad lines n → IsFirst IsTwice lines n → ⊥
one_way lines n h k =
    let same : k.0 ≡ h.0 = omega (arith, h.2, k.2) in
    not_both no_table lines h.0 h.1 (subst (IsFirstAt IsTwice no_table lines) same k.1)

pub one_first_fault : HasOneFirstFault
one_first_fault = record { one_line = one_line; one_way = one_way }

pub never_both : (lines : List (List ℕ)) (t : TableView) (number : ℕ) → AreOfTable lines t → IsFaulty lines number → ⊥
never_both lines t number is (inl h) = no_table_has_a_first IsBad bad_adds_nothing no_table lines t h.0 is h.1
never_both lines t number is (inr h) = no_table_has_a_first IsTwice twice_adds_nothing no_table lines t h.0 is h.1

-- ---- whether the table has a name, a membership or a file

name_there : (names : List (List ℕ)) (name : List ℕ) → Contains names name ⊎ (Contains names name → ⊥)
name_there [] name = inr (λ h. Contains-nothing name h)
name_there (k ∷ names) name = elim (cases_Bool (bytes_eq k name)) [
  | inl same ↦ inl (Contains-head name k names ((bytes_eq-Decides k name).0 same))
  | inr other ↦ elim (name_there names name) [
    | inl later ↦ inl (Contains-tail name k names later)
    | inr none ↦ inr (λ h. ⊎_elim (λ (same : k ≡ name). false≢true (sym other ∙ (bytes_eq-Decides k name).1 same)) none (Contains-cons_cases name k names h))
  ]
]

node_there : (nodes : List NodeId) (node : NodeId) → Contains nodes node ⊎ (Contains nodes node → ⊥)
node_there [] node = inr (λ h. Contains-nothing node h)
node_there (n ∷ nodes) node = elim (cases_Bool (node_eq n node)) [
  | inl same ↦ inl (Contains-head node n nodes ((Decides-node_eq n node).0 same))
  | inr other ↦ elim (node_there nodes node) [
    | inl later ↦ inl (Contains-tail node n nodes later)
    | inr none ↦ inr (λ h. ⊎_elim (λ (same : n ≡ node). false≢true (sym other ∙ (Decides-node_eq n node).1 same)) none (Contains-cons_cases node n nodes h))
  ]
]

member_or_not : (members : List Membership) (m : Membership) → Contains members m ⊎ (Contains members m → ⊥)
member_or_not members m = elim (cases_Bool (is_member members m.who m.group)) [
  | inl is ↦ inl ((is_member-Decides members m.who m.group).0 is)
  | inr not ↦ inr (λ h. false≢true (sym not ∙ (is_member-Decides members m.who m.group).1 h))
]

known_or_not : (t : TableView) (e : Entry) → IsOfKnown t e ⊎ (IsOfKnown t e → ⊥)
known_or_not t (Who who) = inl tt
known_or_not t (Member m) = name_there t.who m.who
known_or_not t (File f) = name_there t.who f.owner

repeated_or_not : (t : TableView) (e : Entry) → IsRepeated t e ⊎ (IsRepeated t e → ⊥)
repeated_or_not t (Who who) = name_there t.who who
repeated_or_not t (Member m) = member_or_not t.members m
repeated_or_not t (File f) = node_there (nodes_of t) f.node

-- ---- whether a line says something

abbrev Front : List ℕ → List ℕ → Type 0
Front literal line = ((rest : List ℕ) × (line ≡ literal ++ rest)) ⊎ ((rest : List ℕ) → line ≡ literal ++ rest → ⊥)

front : (literal line : List ℕ) → Front literal line
front [] line = inl (line, refl)
front (byte ∷ literal) [] = inr (λ rest h. cc)
front (byte ∷ literal) (first ∷ line) = elim (cases_Bool (first == byte)) [
  | inl same ↦ elim (front literal line) [
    | inl h ↦ inl (h.0, ap (λ (b : ℕ). b ∷ line) (eqb-true first byte same) ∙ ap (λ (l : List ℕ). byte ∷ l) h.1)
    | inr none ↦ inr (λ rest h. let tail : line ≡ literal ++ rest = cc in none rest tail)
  ]
  | inr other ↦ inr (λ rest h. let head : first ≡ byte = cc in eqb-false first byte other head)
]

-- a word and what stands after the space, if there is a space
abbrev Cut : List ℕ → Type 0
Cut words = ((word : List ℕ) × (behind : List ℕ) × HasNo 32 word × (words ≡ word ++ 32 ∷ behind)) ⊎ ((word behind : List ℕ) → HasNo 32 word → words ≡ word ++ 32 ∷ behind → ⊥)

cut : (words : List ℕ) → Cut words
cut words =
    let n : ℕ = stop_place 32 words in
    elim (front (32 ∷ []) (drop n words)) [
      | inl h ↦ inl (take n words, h.0, HasNo-front 32 words, sym (take-append-drop n words) ∙ ap (λ (b : List ℕ). take n words ++ b) h.1)
      | inr none ↦ inr (λ word behind no same. none behind (IsSplit-at_word 32 words word (32 ∷ behind) n refl same no refl).back)
    ]

named_or_not : (word : List ℕ) → IsTrue (is_principal_name word) ⊎ (IsTrue (is_principal_name word) → ⊥)
named_or_not word = elim (cases_Bool (is_principal_name word)) [
  | inl is ↦ inl is
  | inr not ↦ inr (λ h. false≢true (sym not ∙ h))
]

-- there are such names, or there are none
names_or_not : (words : List ℕ) → ((a : List ℕ) × (b : List ℕ) × AreNames words a b) ⊎ ((a b : List ℕ) → AreNames words a b → ⊥)
names_or_not words = elim (cut words) [
  | inl c ↦ elim (named_or_not c.0) [
    | inl first ↦ elim (named_or_not c.1) [
      | inl second ↦ inl (c.0, c.1, record { words_are = c.3; first_named = first; second_named = second })
      | inr not ↦ inr (λ a b h. let same = same_words (codes " ") a c.0 b c.1 refl (HasNo-principal a h.first_named) c.2 (sym h.words_are ∙ c.3) in not (subst (λ (w : List ℕ). IsTrue (is_principal_name w)) same.rest h.second_named))
    ]
    | inr not ↦ inr (λ a b h. let same = same_words (codes " ") a c.0 b c.1 refl (HasNo-principal a h.first_named) c.2 (sym h.words_are ∙ c.3) in not (subst (λ (w : List ℕ). IsTrue (is_principal_name w)) same.word h.first_named))
  ]
  | inr none ↦ inr (λ a b h. none a b (HasNo-principal a h.first_named) h.words_are)
]

digit_or_not : (byte : ℕ) → ((d : ℕ) × (byte ≡ 48 + d) × (d < 8)) ⊎ ((d : ℕ) → byte ≡ 48 + d → d < 8 → ⊥)
digit_or_not byte = elim (cases_lt byte 48) [
  | inl low ↦ inr (λ d same small. omega (arith, low, same))
  | inr high ↦ elim (cases_lt byte 56) [
    | inl small ↦ inl (byte - 48, omega (arith, high), omega (arith, high, small))
    | inr large ↦ inr (λ d same less. omega (arith, large, same, less))
  ]
]

modes_or_not : (word : List ℕ) → ((m : Modes) × IsModesWord word m) ⊎ ((m : Modes) → IsModesWord word m → ⊥)
modes_or_not [] = inr (λ m h. let same = h.word_is in cc)
modes_or_not (a ∷ []) = inr (λ m h. let same = h.word_is in cc)
modes_or_not (a ∷ b ∷ []) = inr (λ m h. let same = h.word_is in cc)
modes_or_not (a ∷ b ∷ c ∷ []) = elim (digit_or_not a) [
  | inl x ↦ elim (digit_or_not b) [
    | inl y ↦ elim (digit_or_not c) [
      | inl z ↦ inl (record { owner = x.0; group = y.0; other = z.0 }, record { word_is = rw (x.1, y.1, z.1); owner_digit = x.2; group_digit = y.2; other_digit = z.2 })
      | inr none ↦ inr (λ m h. let same = h.word_is in let third : c ≡ 48 + m.other = cc in none m.other third h.other_digit)
    ]
    | inr none ↦ inr (λ m h. let same = h.word_is in let second : b ≡ 48 + m.group = cc in none m.group second h.group_digit)
  ]
  | inr none ↦ inr (λ m h. let same = h.word_is in let first : a ≡ 48 + m.owner = cc in none m.owner first h.owner_digit)
]
modes_or_not (a ∷ b ∷ c ∷ d ∷ more) = inr (λ m h. let same = h.word_is in cc)

-- what stands after a file's number
pub record Owning (words : List ℕ) : Type 0 where
  pub owner : List ℕ
  pub group : List ℕ
  pub modes : Modes
  pub owned : AreOwned words owner group modes

owned_or_not : (words : List ℕ) → Owning words ⊎ ((o g : List ℕ) (m : Modes) → AreOwned words o g m → ⊥)
owned_or_not words = elim (cut words) [
  | inl c ↦ elim (cut c.1) [
    | inl d ↦ elim (named_or_not c.0) [
      | inl first ↦ elim (named_or_not d.0) [
        | inl second ↦ elim (modes_or_not d.1) [
          | inl bits ↦ inl (record { owner = c.0; group = d.0; modes = bits.0; owned = record { bits = d.1; words_are = c.3 ∙ ap (λ (b : List ℕ). c.0 ++ 32 ∷ b) d.3; owner_named = first; group_named = second; modes_are = bits.1 } })
          | inr none ↦ inr (λ o g m h. none m (subst (λ (w : List ℕ). IsModesWord w m) (owned_parts c.0 c.1 d.0 d.1 c.2 d.2 c.3 d.3 o g m h).2 h.modes_are))
        ]
        | inr not ↦ inr (λ o g m h. not (subst (λ (w : List ℕ). IsTrue (is_principal_name w)) (owned_parts c.0 c.1 d.0 d.1 c.2 d.2 c.3 d.3 o g m h).1 h.group_named))
      ]
      | inr not ↦ inr (λ o g m h. not (subst (λ (w : List ℕ). IsTrue (is_principal_name w)) (owned_parts c.0 c.1 d.0 d.1 c.2 d.2 c.3 d.3 o g m h).0 h.owner_named))
    ]
    | inr none ↦ inr (λ o g m h. let same = same_words (codes " ") o c.0 (g ++ 32 ∷ h.bits) c.1 refl (HasNo-principal o h.owner_named) c.2 (sym h.words_are ∙ c.3) in none g h.bits (HasNo-principal g h.group_named) (sym same.rest))
  ]
  | inr none ↦ inr (λ o g m h. none o (g ++ 32 ∷ h.bits) (HasNo-principal o h.owner_named) h.words_are)
]

-- what the words of a file say
abbrev Filed : List ℕ → Type 0
Filed words = ((f : FileModes) × IsEntryLine (codes "mode " ++ words) (File f)) ⊎ ((f : FileModes) → IsOfFile words f → ⊥)

filed : (words : List ℕ) → Filed words
filed words = elim (cut words) [
  | inl c ↦ elim (file_decided c.0) [
    | inl node ↦ elim (owned_or_not c.1) [
      | inl o ↦
          let f : FileModes = record { node = node.0; owner = o.owner; group = o.group; modes = o.modes } in
          inl (f, mode_line_is words c.0 c.1 f c.3 node.1 o.owned)
      | inr none ↦ inr (λ f h. let same = same_words (codes " ") h.word c.0 h.behind c.1 refl (HasNo-file h.word f.node h.node_is) c.2 (sym h.words_are ∙ c.3) in
          none f.owner f.group f.modes (subst (λ (b : List ℕ). AreOwned b f.owner f.group f.modes) same.rest h.owned))
    ]
    | inr none ↦ inr (λ f h. let same = same_words (codes " ") h.word c.0 h.behind c.1 refl (HasNo-file h.word f.node h.node_is) c.2 (sym h.words_are ∙ c.3) in
        none f.node (subst (λ (w : List ℕ). IsFile w f.node) same.word h.node_is))
  ]
  | inr none ↦ inr (λ f h. none h.word h.behind (HasNo-file h.word f.node h.node_is) h.words_are)
]

abbrev Said : List ℕ → Type 0
Said line = ((e : Entry) × IsEntryLine line e) ⊎ ((e : Entry) → IsEntryLine line e → ⊥)

at_line : (line whole : List ℕ) → line ≡ whole → Said whole → Said line
at_line line whole same h = subst Said (sym same) h

who_said : (word : List ℕ) → Said (codes "who " ++ word)
who_said word = elim (named_or_not word) [
  | inl named ↦ inl (Who word, who_line_is word named)
  | inr not ↦ inr (λ e h. not (who_only word e h).0)
]

member_said : (words : List ℕ) → Said (codes "member " ++ words)
member_said words = elim (names_or_not words) [
  | inl n ↦ inl (Member (record { who = n.0; group = n.1 }), member_line_is words n.0 n.1 n.2)
  | inr none ↦ inr (λ e h. let only = member_only words e h in none only.0.who only.0.group only.1)
]

mode_said : (words : List ℕ) → Said (codes "mode " ++ words)
mode_said words = elim (filed words) [
  | inl f ↦ inl (File f.0, f.1)
  | inr none ↦ inr (λ e h. let only = mode_only words e h in none only.0 only.1)
]

nothing_said : (line : List ℕ) → ((rest : List ℕ) → line ≡ codes "who " ++ rest → ⊥) → ((rest : List ℕ) → line ≡ codes "member " ++ rest → ⊥) → ((rest : List ℕ) → line ≡ codes "mode " ++ rest → ⊥) → (e : Entry) → IsEntryLine line e → ⊥
nothing_said line no_who no_member no_mode (Who who) h = no_who who h.line_is
nothing_said line no_who no_member no_mode (Member m) h = no_member (m.who ++ 32 ∷ m.group) h.line_is
nothing_said line no_who no_member no_mode (File f) h = no_mode (h.word ++ 32 ∷ (f.owner ++ 32 ∷ (f.group ++ 32 ∷ h.bits))) h.line_is

pub said : (line : List ℕ) → Said line
said line = elim (front (codes "who ") line) [
  | inl w ↦ at_line line (codes "who " ++ w.0) w.1 (who_said w.0)
  | inr no_who ↦ elim (front (codes "member ") line) [
    | inl m ↦ at_line line (codes "member " ++ m.0) m.1 (member_said m.0)
    | inr no_member ↦ elim (front (codes "mode ") line) [
      | inl f ↦ at_line line (codes "mode " ++ f.0) f.1 (mode_said f.0)
      | inr no_mode ↦ inr (nothing_said line no_who no_member no_mode)
    ]
  ]
]

-- ---- a line adds, or is wrong

abbrev Line : TableView → List ℕ → Type 0
Line t line = ((e : Entry) × Adds t line e) ⊎ (IsBad t line ⊎ IsTwice t line)

one_line_is : (t : TableView) (line : List ℕ) → Line t line
one_line_is t line = elim (said line) [
  | inl s ↦ elim (known_or_not t s.0) [
    | inl known ↦ elim (repeated_or_not t s.0) [
      | inl again ↦ inr (inr (record { entry = s.0; says = record { is_line = s.1; of_known = known }; repeated = again }))
      | inr new ↦ inl (s.0, record { says = record { is_line = s.1; of_known = known }; is_new = new })
    ]
    | inr unknown ↦ inr (inl (λ e says. unknown (subst (IsOfKnown t) (IsEntryLine-same line e s.0 says.is_line s.1) says.of_known)))
  ]
  | inr none ↦ inr (inl (λ e says. none e says.is_line))
]

abbrev Lines : TableView → List (List ℕ) → Type 0
Lines t lines = ((after : TableView) × AddUpTo t lines after) ⊎ (((place : ℕ) × IsFirstAt IsBad t lines place) ⊎ ((place : ℕ) × IsFirstAt IsTwice t lines place))

more : (t : TableView) (line : List ℕ) (lines : List (List ℕ)) (e : Entry) → Adds t line e → Lines (with_entry t e) lines → Lines t (line ∷ lines)
more t line lines e adds (inl h) = inl (h.0, (e, adds, h.1))
more t line lines e adds (inr (inl h)) = inr (inl (suc h.0, (e, adds, h.1)))
more t line lines e adds (inr (inr h)) = inr (inr (suc h.0, (e, adds, h.1)))

line_step : (t : TableView) (line : List ℕ) (lines : List (List ℕ)) → Line t line → ((e : Entry) → Lines (with_entry t e) lines) → Lines t (line ∷ lines)
line_step t line lines (inl one) rest = more t line lines one.0 one.1 (rest one.0)
line_step t line lines (inr (inl bad)) rest = inr (inl (zero, bad))
line_step t line lines (inr (inr twice)) rest = inr (inr (zero, twice))

all_lines : (t : TableView) (lines : List (List ℕ)) → Lines t lines
all_lines t [] = inl (t, refl)
all_lines t (line ∷ lines) = line_step t line lines (one_line_is t line) (λ e. all_lines (with_entry t e) lines)

pub one_or_the_other : (lines : List (List ℕ)) → ((t : TableView) × AreOfTable lines t) ⊎ ((number : ℕ) × IsFaulty lines number)
one_or_the_other lines = elim (all_lines no_table lines) [
  | inl h ↦ inl (h.0, h.1)
  | inr wrong ↦ elim wrong [
    | inl h ↦ inr (h.0 + 1, inl (h.0, h.1, refl))
    | inr h ↦ inr (h.0 + 1, inr (h.0, h.1, refl))
  ]
]
