-- What stands before the first end of a line is taken, and what stands after that end is left.
use Rattle.std.proofs.Common.{◌≡◌, ℕ, ◌+◌, ◌-◌, ◌<◌, ◌≤◌, Bool, true, false, not, List, [], ◌∷◌, ◌++◌, length, take, drop, get_or, Some, IsTrue, refl, sym, ap, ◌∙◌, subst, append-nil, append_assoc, length-append, arith}
use Rattle.std.proofs.lemmas.List.{take_all, take_at, take-append-drop, length-take-le}
use Rattle.std.specs.Prelude.{◌==◌}
use Rattle.std.specs.List.{list_all}
use Rattle.std.proofs.lemmas.Bool.{eqb-true, and_parts, and_from}
use Rattle.line_text.specs.Words.{is_word_end, HasNo}
use Rattle.client_session.specs.Lines.{HasPassed, TakesLine}

-- a word without the stop byte, and what stands after it: nothing, or the stop byte and more
record IsCut (stop : ℕ) (line : List ℕ) : Type 0 where
  word : List ℕ
  behind : List ℕ
  no_stop : HasNo stop word
  ends : IsTrue (is_word_end stop behind)
  parts : line ≡ word ++ behind

cut_step : (is_stop : Bool) (stop byte : ℕ) (bytes : List ℕ) → (byte == stop) ≡ is_stop → IsCut stop bytes → IsCut stop (byte ∷ bytes)
cut_step true stop byte bytes is cut = record { word = []; behind = byte ∷ bytes; no_stop = refl; ends = is; parts = refl }
cut_step false stop byte bytes is cut = record {
  word = byte ∷ cut.word;
  behind = cut.behind;
  no_stop = and_from (not (byte == stop)) (list_all (λ b. not (b == stop)) cut.word) (rw is refl) cut.no_stop;
  ends = cut.ends;
  parts = ap (λ (line : List ℕ). byte ∷ line) cut.parts;
}

cut_of : (stop : ℕ) (line : List ℕ) → IsCut stop line
cut_of stop [] = record { word = []; behind = []; no_stop = refl; ends = refl; parts = refl }
cut_of stop (byte ∷ bytes) = cut_step (byte == stop) stop byte bytes refl (cut_of stop bytes)

-- a line falls into its first word and the rest in one way
abbrev IsOnlyCut : ℕ → List ℕ → List ℕ → List ℕ → Type 0
IsOnlyCut stop line word rest = (first behind : List ℕ) → HasNo stop first → IsTrue (is_word_end stop behind) → line ≡ first ++ behind → (word ≡ first) × (rest ≡ behind)

rest_ends : (stop : ℕ) (line word rest : List ℕ) → IsOnlyCut stop line word rest → IsTrue (is_word_end stop rest)
rest_ends stop line word rest only =
    let cut = cut_of stop line in
    subst (λ (r : List ℕ). IsTrue (is_word_end stop r)) (sym (only cut.word cut.behind cut.no_stop cut.ends cut.parts).1) cut.ends

-- the first word ends at the end of a line
takes : (old word rest after : List ℕ) (first : ℕ) → old ≡ word ++ rest → HasNo 10 word
    → ((first' behind : List ℕ) → HasNo 10 first' → IsTrue (is_word_end 10 behind) → old ≡ first' ++ behind → (word ≡ first') × (rest ≡ behind))
    → rest ≡ first ∷ after → TakesLine old after (Some word)
takes old word rest after first parts no_end only is =
    let ends : IsTrue (is_word_end 10 rest) = rest_ends 10 old word rest only in
    let here : IsTrue (is_word_end 10 (first ∷ after)) = subst (λ (r : List ℕ). IsTrue (is_word_end 10 r)) is ends in
    let first_is : first ≡ 10 = eqb-true first 10 here in
    (no_end, parts ∙ ap (λ (r : List ℕ). word ++ r) (is ∙ ap (λ (b : ℕ). b ∷ after) first_is))

-- there is no end of a line
leaves : (old word rest : List ℕ) → old ≡ word ++ rest → HasNo 10 word → rest ≡ [] → HasNo 10 old
leaves old word rest parts no_end is =
    subst (HasNo 10) (sym (parts ∙ ap (λ (r : List ℕ). word ++ r) is ∙ append-nil word)) no_end

-- a byte, and what stands after it
first_and_others : (rest after : List ℕ) → 1 ≤ length rest → after ≡ take (length rest - 1) (drop 1 rest) → rest ≡ get_or rest 0 0 ∷ after
first_and_others [] after some is = absurd (omega (arith, some))
first_and_others (byte ∷ bytes) after some is = ap (λ (t : List ℕ). byte ∷ t) (sym (is ∙ take_all (length (byte ∷ bytes) - 1) bytes (omega arith)))

-- no end of a line in one part, and none in the next
HasNo-append : (stop : ℕ) (front back : List ℕ) → HasNo stop front → HasNo stop back → HasNo stop (front ++ back)
HasNo-append stop [] back f b = b
HasNo-append stop (byte ∷ front) back f b =
    let parts = and_parts (not (byte == stop)) (list_all (λ x. not (x == stop)) front) f in
    and_from (not (byte == stop)) (list_all (λ x. not (x == stop)) (front ++ back)) parts.0 (HasNo-append stop front back parts.1 b)

-- what `first_line` promises of its parts
abbrev IsFirst : List ℕ → List ℕ → List ℕ → Type 0
IsFirst bytes line after = HasNo 10 line × (bytes ≡ line ++ 10 ∷ after)

-- the bytes that were passed, and the first line of the others
joined : (bytes front word after : List ℕ) → bytes ≡ front ++ (word ++ 10 ∷ after) → HasNo 10 front → HasNo 10 word → IsFirst bytes (front ++ word) after
joined bytes front word after is f w = (HasNo-append 10 front word f w, is ∙ sym (append_assoc front word (10 ∷ after)))

-- the first line of all bytes ends where the first line of those that were not passed does
pub first_after : (bytes new word rest line after : List ℕ) (passed : ℕ) → HasPassed passed bytes → new ≡ drop passed bytes → new ≡ word ++ rest → HasNo 10 word
    → ((first behind : List ℕ) → HasNo 10 first → IsTrue (is_word_end 10 behind) → new ≡ first ++ behind → (word ≡ first) × (rest ≡ behind))
    → 1 ≤ length rest → line ≡ take (passed + length word) bytes → after ≡ take (length rest - 1) (drop 1 rest) → IsFirst bytes line after
first_after bytes new word rest line after passed h new_is parts no_end only some line_is after_is =
    let found = takes new word rest after (get_or rest 0 0) parts no_end only (first_and_others rest after some after_is) in
    let all : bytes ≡ take passed bytes ++ (word ++ 10 ∷ after) = sym (take-append-drop passed bytes) ∙ ap (λ (b : List ℕ). take passed bytes ++ b) (sym new_is ∙ found.1) in
    let whole = joined bytes (take passed bytes) word after all h.no_end no_end in
    let size : length (take passed bytes ++ word) ≡ passed + length word = length-append (take passed bytes) word ∙ ap (λ (n : ℕ). n + length word) (length-take-le passed bytes h.within) in
    let cut : take (passed + length word) bytes ≡ take passed bytes ++ word = ap (λ (b : List ℕ). take (passed + length word) b) whole.1 ∙ take_at (take passed bytes ++ word) (10 ∷ after) (passed + length word) size in
    subst (λ (l : List ℕ). IsFirst bytes l after) (sym (line_is ∙ cut)) whole

no_rest : (rest : List ℕ) → length rest < 1 → rest ≡ []
no_rest [] few = refl
no_rest (byte ∷ bytes) few = absurd (omega (arith, few))

-- if the others have no end of a line, there is none
pub none_after : (bytes new word rest : List ℕ) (passed : ℕ) → HasPassed passed bytes → new ≡ drop passed bytes → new ≡ word ++ rest → HasNo 10 word → length rest < 1 → HasNo 10 bytes
none_after bytes new word rest passed h new_is parts no_end few =
    let others : HasNo 10 (drop passed bytes) = subst (HasNo 10) new_is (leaves new word rest parts no_end (no_rest rest few)) in
    subst (HasNo 10) (take-append-drop passed bytes) (HasNo-append 10 (take passed bytes) (drop passed bytes) h.no_end others)
