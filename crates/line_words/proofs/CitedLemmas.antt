-- The numbers of a word, one after another.
use Rattle.std.proofs.Common.{◌≡◌, ◌≢◌, ◌≤◌, ◌+◌, ℕ, true, false, List, [], ◌∷◌, ◌++◌, length, IsTrue, refl, sym, ap, ◌∙◌, subst, arith, append-nil, append_assoc, length-append}
use Rattle.std.specs.Prelude.{◌==◌}
use Rattle.std.proofs.lemmas.Bool.{false≢true, eqb-true}
use Rattle.std.proofs.lemmas.List.{nil_from_length}
use Rattle.line_text.specs.Words.{is_word_end, HasNo}
use Rattle.line_text.proofs.WordLemmas.{same_split}
use Rattle.line_words.specs.Numbers.{IsNumber}
use Rattle.line_words.specs.Cited.{AreJoined, one_number, more_numbers}
use Rattle.line_words.specs.Cited.{AreAdded}
use Rattle.line_words.proofs.NumeralLemmas.{HasNo-number, IsNumber-unique}

-- the first word of a list of numbers, and what stands after it
pub data IsFirst (front behind : List ℕ) : List ℕ → Type 0 where
  alone : (number : ℕ) → IsNumber front number → behind ≡ [] → IsFirst front behind (number ∷ [])
  followed : (number : ℕ) (rest numbers : List ℕ) → IsNumber front number → behind ≡ 44 ∷ rest → AreJoined rest numbers → IsFirst front behind (number ∷ numbers)

pub first_of : {word numbers : List ℕ} (front behind : List ℕ) → ((w b : List ℕ) → HasNo 44 w → IsTrue (is_word_end 44 b) → word ≡ w ++ b → (front ≡ w) × (behind ≡ b)) → AreJoined word numbers → IsFirst front behind numbers
first_of front behind split (one_number word number h) =
    let parts = split word [] (HasNo-number 44 refl word number h) refl (sym (append-nil word)) in
    alone number (subst (λ w. IsNumber w number) (sym parts.0) h) parts.1
first_of front behind split (more_numbers word others number numbers h more) =
    let parts = split word (44 ∷ others) (HasNo-number 44 refl word number h) refl refl in
    followed number others numbers (subst (λ w. IsNumber w number) (sym parts.0) h) parts.1 more

-- the first word is a number
pub no_first : {front behind numbers : List ℕ} → IsFirst front behind numbers → ((n : ℕ) → IsNumber front n → ⊥) → ⊥
no_first (alone number h none) not_number = not_number number h
no_first (followed number rest numbers h same more) not_number = not_number number h

-- with nothing after it, it is the only one
pub alone_added : (word front behind : List ℕ) (number : ℕ) (before after : List ℕ) → word ≡ front ++ behind → true ≡ (length behind == 0) → IsNumber front number → after ≡ before ++ number ∷ [] → AreAdded word before after
alone_added word front behind number before after parts none h added =
    let nothing : behind ≡ [] = nil_from_length behind (eqb-true (length behind) 0 (sym none)) in
    let whole : word ≡ front = parts ∙ ap (λ b. front ++ b) nothing ∙ append-nil front in
    record { numbers = number ∷ []; joined = subst (λ w. AreJoined w (number ∷ [])) (sym whole) (one_number front number h); after_is = added }

-- with others after it, they come next
pub more_added : (word front behind others : List ℕ) (number : ℕ) (before between after : List ℕ) → word ≡ front ++ behind → behind ≡ 44 ∷ others → IsNumber front number → between ≡ before ++ number ∷ [] → AreAdded others between after → AreAdded word before after
more_added word front behind others number before between after parts comma h pushed rest = record {
  numbers = number ∷ rest.numbers;
  joined = subst (λ w. AreJoined w (number ∷ rest.numbers)) (sym (parts ∙ ap (λ b. front ++ b) comma)) (more_numbers front others number rest.numbers h rest.joined);
  after_is = rest.after_is ∙ ap (λ l. l ++ rest.numbers) pushed ∙ append_assoc before (number ∷ []) rest.numbers;
}

pub more_refused : {front behind numbers : List ℕ} (others : List ℕ) (number : ℕ) (before between : List ℕ) → IsFirst front behind numbers → behind ≡ 44 ∷ others → between ≡ before ++ number ∷ [] → length before + length numbers ≤ 64
    → ((ns : List ℕ) → AreJoined others ns → length between + length ns ≤ 64 → ⊥) → ⊥
more_refused others number before between (alone n h none) comma pushed few refused = absurd (let no : [] ≡ 44 ∷ others = sym none ∙ comma in cc)
more_refused others number before between (followed n rest ns h same more) comma pushed few refused =
    let rests : rest ≡ others = let both : 44 ∷ rest ≡ 44 ∷ others = sym same ∙ comma in cc in
    let size : length between ≡ length (before ++ number ∷ []) = ap length pushed in
    refused ns (subst (λ r. AreJoined r ns) rests more) (omega (arith, few, size, length-append before (number ∷ [])))

-- where something else than a comma stands after the first word, the word is no list of numbers
pub none_joined : {front behind numbers : List ℕ} → IsFirst front behind numbers → false ≡ (length behind == 0) → ((rest : List ℕ) → behind ≢ 44 ∷ rest) → ⊥
none_joined (alone n h none) some no_comma = false≢true (some ∙ ap (λ b. length b == 0) none)
none_joined (followed n rest ns h same more) some no_comma = no_comma rest same

pub joined_some : {word numbers : List ℕ} → AreJoined word numbers → 1 ≤ length numbers
joined_some (one_number word number h) = omega arith
joined_some (more_numbers word others number numbers h more) = omega arith

-- ---- numbers between commas

pub AreJoined-same : {word : List ℕ} {numbers : List ℕ} → AreJoined word numbers → (other others : List ℕ) → word ≡ other → AreJoined other others → numbers ≡ others
AreJoined-same (one_number word number h) other others same (one_number w n k) =
    ap (λ m. m ∷ []) (IsNumber-unique (subst (λ v. IsNumber v number) same h) k)
AreJoined-same (one_number word number h) other others same (more_numbers w rest n ns k more) =
    let split = same_split 44 word w [] (44 ∷ rest) (HasNo-number 44 refl word number h) (HasNo-number 44 refl w n k) refl refl (append-nil word ∙ same) in
    absurd (let no = split.rest in cc)
AreJoined-same (more_numbers word rest number numbers h more) other others same (one_number w n k) =
    let split = same_split 44 word w (44 ∷ rest) [] (HasNo-number 44 refl word number h) (HasNo-number 44 refl w n k) refl refl (same ∙ sym (append-nil w)) in
    absurd (let no = split.rest in cc)
AreJoined-same (more_numbers word rest number numbers h more) other others same (more_numbers w rest_2 n ns k more_2) =
    let split = same_split 44 word w (44 ∷ rest) (44 ∷ rest_2) (HasNo-number 44 refl word number h) (HasNo-number 44 refl w n k) refl refl same in
    let rests : rest ≡ rest_2 = let both = split.rest in cc in
    let first : number ≡ n = IsNumber-unique (subst (λ v. IsNumber v number) split.word h) k in
    let behind : numbers ≡ ns = AreJoined-same more rest_2 ns rests more_2 in
    rw (first, behind) refl
