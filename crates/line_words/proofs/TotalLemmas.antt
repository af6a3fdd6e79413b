-- A word is of a kind, or of no such kind; words of given kinds come next, or one of them is the first bad one.
use Rattle.std.proofs.Common.{◌^◌, ◌-◌, ℕ, List, [], ◌∷◌, ◌++◌, length, Some, ◌⊎◌, inl, inr, refl, arith}
use Rattle.line_words.specs.declared.kinds.WordKind.{WordKind}
use Rattle.line_words.specs.declared.kinds.WordKind.TheVariants.{Node, Target, Name, NewName, Offset, Len, Most, Data, Value, Who, Permission, Second, Issue, Number, Cited, Signature, Procap, SignatureHex, ProcapHex}
use Rattle.line_words.specs.declared.arguments.Arguments.{Arguments}
use Rattle.line_words.specs.declared.procap_word.ProcapWord.TheVariants.{Procap as BySpelling}
use Rattle.line_words.specs.Cutting.{first_cut}
use Rattle.line_words.specs.Kinds.{Sets, IsOutside}
use Rattle.line_words.specs.Reading.{AreWords, IsBadWord, missing, outside, later}
use Rattle.line_words.proofs.DecisionLemmas.{number_decided, file_decided, issue_decided, second_decided, name_decided, principal_decided, quoted_decided, permission_decided, data_decided, signature_hex_decided, signed_decided, cited_decided, procap_hex_decided, procap_decided}

-- the word sets the field, or it is of no such kind
abbrev IsSetOrOutside : WordKind → List ℕ → Arguments → Type 0
IsSetOrOutside kind word before = ((after : Arguments) × Sets kind word before after) ⊎ IsOutside kind word

pub set_or_outside : (kind : WordKind) (word : List ℕ) (before : Arguments) → IsSetOrOutside kind word before
set_or_outside Node word before = elim (file_decided word) [ inl one ↦ inl (record before { node = one.0 }, (one.1, refl)) | inr none ↦ inr (λ b a h. none a.node h.0) ]
set_or_outside Target word before = elim (file_decided word) [ inl one ↦ inl (record before { target = one.0 }, (one.1, refl)) | inr none ↦ inr (λ b a h. none a.target h.0) ]
set_or_outside Name word before = elim (name_decided word) [ inl one ↦ inl (record before { name = one.0 }, (one.1, refl)) | inr none ↦ inr (λ b a h. none a.name h.0) ]
set_or_outside NewName word before = elim (name_decided word) [ inl one ↦ inl (record before { new_name = one.0 }, (one.1, refl)) | inr none ↦ inr (λ b a h. none a.new_name h.0) ]
set_or_outside Offset word before = elim (number_decided (2 ^ 64) (omega arith) word) [ inl one ↦ inl (record before { offset = one.0 }, (one.1, refl)) | inr none ↦ inr (λ b a h. none a.offset h.0) ]
set_or_outside Len word before = elim (number_decided (2 ^ 64) (omega arith) word) [ inl one ↦ inl (record before { len = one.0 }, (one.1, refl)) | inr none ↦ inr (λ b a h. none a.len h.0) ]
set_or_outside Most word before = elim (number_decided 65537 (omega arith) word) [ inl one ↦ inl (record before { len = one.0 }, (one.1, refl)) | inr none ↦ inr (λ b a h. none a.len h.0) ]
set_or_outside Data word before = elim (data_decided word) [ inl one ↦ inl (record before { bytes = one.0 }, (one.1, refl)) | inr none ↦ inr (λ b a h. none a.bytes h.0) ]
set_or_outside Value word before = elim (quoted_decided word) [ inl one ↦ inl (record before { value = one.0 }, (one.1, refl)) | inr none ↦ inr (λ b a h. none a.value h.0) ]
set_or_outside Who word before = elim (principal_decided word) [ inl one ↦ inl (record before { who = one.0 }, (one.1, refl)) | inr none ↦ inr (λ b a h. none a.who h.0) ]
set_or_outside Permission word before = elim (permission_decided word) [ inl one ↦ inl (record before { perm = one.0 }, (one.1, refl)) | inr none ↦ inr (λ b a h. none a.perm h.0) ]
set_or_outside Second word before = elim (second_decided word) [ inl one ↦ inl (record before { second = one.0 }, (one.1, refl)) | inr none ↦ inr (λ b a h. none a.second h.0) ]
set_or_outside Issue word before = elim (issue_decided word) [ inl one ↦ inl (record before { issue = one.0 }, (one.1, refl)) | inr none ↦ inr (λ b a h. none a.issue h.0) ]
set_or_outside Number word before = elim (number_decided (2 ^ 32) (omega arith) word) [ inl one ↦ inl (record before { number = one.0 }, (one.1, refl)) | inr none ↦ inr (λ b a h. none a.number h.0) ]
set_or_outside Cited word before = elim (cited_decided word) [ inl one ↦ inl (record before { cited = one.0 }, (one.1, refl)) | inr none ↦ inr (λ b a h. none a.cited h.0) ]
set_or_outside Signature word before = elim (signed_decided word) [ inl one ↦ inl (record before { signature = one.0 }, (one.1, refl)) | inr none ↦ inr (λ b a h. none a.signature h.0) ]
set_or_outside Procap word before = elim (procap_decided word) [
  | inl one ↦ inl (record before { procaps = before.procaps ++ one.0 ∷ [] }, (one.0, one.1, refl))
  | inr none ↦ inr (λ b a h. none h.0 h.1)
]
set_or_outside SignatureHex word before = elim (signature_hex_decided word) [
  | inl one ↦ inl (record before { signature = Some one.0 }, (one.0, one.1, refl))
  | inr none ↦ inr (λ b a h. none h.0 h.1)
]
set_or_outside ProcapHex word before = elim (procap_hex_decided word) [
  | inl one ↦ inl (record before { procaps = before.procaps ++ BySpelling one.0 ∷ [] }, (one.0, one.1, refl))
  | inr none ↦ inr (λ b a h. none h.0 h.1)
]

-- the words set their fields, or one of them is the first bad one
abbrev AreTold : ℕ → List WordKind → List ℕ → Arguments → Type 0
AreTold whole kinds behind before = ((after : Arguments) × (rest : List ℕ) × AreWords kinds behind before after rest) ⊎ ((place : ℕ) × IsBadWord whole kinds behind place)

pub words_or_bad_word : (whole : ℕ) (kinds : List WordKind) (behind : List ℕ) (before : Arguments) → AreTold whole kinds behind before
words_or_bad_word whole [] behind before = inl (before, behind, (refl, refl))
words_or_bad_word whole (kind ∷ kinds) [] before = inr (whole, missing kind kinds)
words_or_bad_word whole (kind ∷ kinds) (space ∷ line) before = elim (set_or_outside kind (first_cut line).word before) [
  | inl set ↦ elim (words_or_bad_word whole kinds (first_cut line).behind set.0) [
    | inl more ↦ inl (more.0, more.1, (set.0, set.1, more.2))
    | inr bad ↦ inr (bad.0, later kind kinds space line bad.0 before set.0 set.1 bad.1)
  ]
  | inr out ↦ inr (whole - length line, outside kind kinds space line out)
]
