-- Words of given kinds write one thing, or one of them is the first bad one.
use Rattle.std.proofs.Common.{◌≡◌, ◌≤◌, ◌<◌, ◌-◌, ℕ, Bool, List, [], ◌∷◌, length, take, drop, get_or, Result, Ok, Err, refl, sym, ap, ◌∙◌, subst, arith}
use Rattle.std.specs.Prelude.{MatchResult}
use Rattle.std.proofs.lemmas.List.{take_all}
use Rattle.line_words.specs.declared.kinds.WordKind.TheVariants.{Node}
use Rattle.line_words.specs.declared.fault.WordFault.{WordFault}
use Rattle.line_words.specs.declared.fault.WordFault.TheVariants.{Bad, NoMemory}
use Rattle.line_words.specs.declared.kinds.WordKind.{WordKind}
use Rattle.line_words.specs.declared.arguments.Arguments.{Arguments}
use Rattle.line_words.specs.Cutting.{first_cut}
use Rattle.line_words.specs.Kinds.{Sets, IsOutside, kind_in, kinds_in}
use Rattle.line_words.specs.Reading.{AreWords, IsBadWord, missing, outside, later, AreUnread}
use Rattle.line_words.proofs.KindLemmas.{Sets-unique}

pub AreWords-unique : (kinds : List WordKind) (behind : List ℕ) (before first second : Arguments) (x y : List ℕ) → AreWords kinds behind before first x → AreWords kinds behind before second y
    → (first ≡ second) × (x ≡ y)
AreWords-unique [] behind before first second x y h k = (h.0 ∙ sym k.0, h.1 ∙ sym k.1)
AreWords-unique (kind ∷ kinds) [] before first second x y h k = absurd h
AreWords-unique (kind ∷ kinds) (space ∷ line) before first second x y h k =
    let one : h.0 ≡ k.0 = Sets-unique kind (first_cut line).word before h.0 k.0 h.1 k.1 in
    AreWords-unique kinds (first_cut line).behind k.0 first second x y (subst (λ b. AreWords kinds (first_cut line).behind b first x) one h.2) k.2

pub words_or_bad : {whole place : ℕ} {kinds : List WordKind} {behind : List ℕ} → IsBadWord whole kinds behind place → (before after : Arguments) (rest : List ℕ) → AreWords kinds behind before after rest → ⊥
words_or_bad (missing kind kinds) before after rest h = h
words_or_bad (outside kind kinds space line out) before after rest h = out before h.0 h.1
words_or_bad (later kind kinds space line place a b set bad) before after rest h = words_or_bad bad h.0 after rest h.2

pub bad_once : {whole first : ℕ} {kinds : List WordKind} {behind : List ℕ} → IsBadWord whole kinds behind first → (second : ℕ) → IsBadWord whole kinds behind second → first ≡ second
bad_once (missing kind kinds) second (missing k ks) = refl
bad_once (outside kind kinds space line out) second (outside k ks s l o) = refl
bad_once (outside kind kinds space line out) second (later k ks s l place a b set bad) = absurd (out a b set)
bad_once (later kind kinds space line place a b set bad) second (outside k ks s l out) = absurd (out a b set)
bad_once (later kind kinds space line place a b set bad) second (later k ks s l p c d other more) = bad_once bad p more

-- ---- the first of them, and those after it

-- what stands after the first
abbrev pub others_of : {A : Type 0} → List A → List A
others_of xs = take (length xs - 1) (drop 1 xs)

parts : {A : Type 0} (xs : List A) (x : A) → 1 ≤ length xs → xs ≡ get_or xs 0 x ∷ others_of xs
parts [] x some = absurd (omega (arith, some))
parts (y ∷ ys) x some = ap (λ rest. y ∷ rest) (sym (take_all (length (y ∷ ys) - 1) ys (omega arith)))

pub first_bad : (whole : ℕ) (out : Bool) (kinds : List WordKind) (behind word : List ℕ) (kind : WordKind) → 1 ≤ length kinds → 1 ≤ length behind → word ≡ (first_cut (others_of behind)).word → kind ≡ kind_in out (get_or kinds 0 Node) → IsOutside kind word
    → IsBadWord whole (kinds_in out kinds) behind (whole - length (others_of behind))
first_bad whole out kinds behind word kind some more word_is kind_is bad =
    let first = get_or kinds 0 Node in
    let here : IsBadWord whole (kinds_in out (first ∷ others_of kinds)) (get_or behind 0 0 ∷ others_of behind) (whole - length (others_of behind)) =
    outside (kind_in out first) (kinds_in out (others_of kinds)) (get_or behind 0 0) (others_of behind) (subst (IsOutside (kind_in out first)) word_is (subst (λ k. IsOutside k word) kind_is bad)) in
    subst (λ ks. IsBadWord whole (kinds_in out ks) behind (whole - length (others_of behind))) (sym (parts kinds Node some))
    (subst (λ b. IsBadWord whole (kinds_in out (first ∷ others_of kinds)) b (whole - length (others_of behind))) (sym (parts behind 0 more)) here)

pub words_missing : (whole : ℕ) (out : Bool) (kinds : List WordKind) (behind : List ℕ) → 1 ≤ length kinds → length behind < 1 → IsBadWord whole (kinds_in out kinds) behind whole
words_missing whole out [] behind some none = absurd (omega (arith, some))
words_missing whole out (kind ∷ kinds) [] some none = missing (kind_in out kind) (kinds_in out kinds)
words_missing whole out (kind ∷ kinds) (byte ∷ bytes) some none = absurd (omega (arith, none))

pub words_more : (out : Bool) (kinds : List WordKind) (behind word rest : List ℕ) (kind : WordKind) (before between after : Arguments) (last : List ℕ) → 1 ≤ length kinds → 1 ≤ length behind → word ≡ (first_cut (others_of behind)).word → rest ≡ (first_cut (others_of behind)).behind
    → kind ≡ kind_in out (get_or kinds 0 Node) → Sets kind word before between → AreWords (kinds_in out (others_of kinds)) rest between after last → AreWords (kinds_in out kinds) behind before after last
words_more out kinds behind word rest kind before between after last some more word_is rest_is kind_is set others =
    let first = get_or kinds 0 Node in
    let here : AreWords (kinds_in out (first ∷ others_of kinds)) (get_or behind 0 0 ∷ others_of behind) before after last =
    (between, subst (λ w. Sets (kind_in out first) w before between) word_is (subst (λ k. Sets k word before between) kind_is set), subst (λ r. AreWords (kinds_in out (others_of kinds)) r between after last) rest_is others) in
    subst (λ ks. AreWords (kinds_in out ks) behind before after last) (sym (parts kinds Node some))
    (subst (λ b. AreWords (kinds_in out (first ∷ others_of kinds)) b before after last) (sym (parts behind 0 more)) here)

pub fault_later : (whole : ℕ) (out : Bool) (kinds : List WordKind) (behind word rest : List ℕ) (kind : WordKind) (before between : Arguments) (fault : WordFault) → 1 ≤ length kinds → 1 ≤ length behind → word ≡ (first_cut (others_of behind)).word → rest ≡ (first_cut (others_of behind)).behind
    → kind ≡ kind_in out (get_or kinds 0 Node) → Sets kind word before between → AreUnread whole (kinds_in out (others_of kinds)) rest fault → AreUnread whole (kinds_in out kinds) behind fault
fault_later whole out kinds behind word rest kind before between NoMemory some more word_is rest_is kind_is set others = tt
fault_later whole out kinds behind word rest kind before between (Bad place) some more word_is rest_is kind_is set others =
    let first = get_or kinds 0 Node in
    let here : IsBadWord whole (kinds_in out (first ∷ others_of kinds)) (get_or behind 0 0 ∷ others_of behind) place =
    later (kind_in out first) (kinds_in out (others_of kinds)) (get_or behind 0 0) (others_of behind) place before between (subst (λ w. Sets (kind_in out first) w before between) word_is (subst (λ k. Sets k word before between) kind_is set))
    (subst (λ r. IsBadWord whole (kinds_in out (others_of kinds)) r place) rest_is others) in
    subst (λ ks. IsBadWord whole (kinds_in out ks) behind place) (sym (parts kinds Node some))
    (subst (λ b. IsBadWord whole (kinds_in out (first ∷ others_of kinds)) b place) (sym (parts behind 0 more)) here)

pub by_both : {A E : Type 0} (r : Result A E) (P Q : A → Type 0) (F G : E → Type 0) → ((x : A) → P x → Q x) → ((e : E) → F e → G e) → MatchResult r P F → MatchResult r Q G
by_both (Ok x) P Q F G ok err h = ok x h
by_both (Err e) P Q F G ok err h = err e h
