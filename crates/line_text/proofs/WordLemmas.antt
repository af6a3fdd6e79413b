-- A word ends before the first stop byte.
use Rattle.std.proofs.Common.{◌≡◌, ℕ, suc, ◌+◌, Bool, true, false, not, cond, List, [], ◌∷◌, ◌++◌, length, get_or, take, drop, eqb, Option, Some, None, IsTrue, refl, sym, ap, ◌∙◌, subst, arith, one-add}
use Rattle.std.specs.Prelude.{unwrap_or, position, nat_lt, ◌&&◌, ◌==◌}
use Rattle.std.specs.List.{list_all, position_or_len}
use Rattle.std.proofs.lemmas.Bool.{false≢true, ltb-false, eq-eqb, eqb-true, and_parts, and_from}
use Rattle.bl_syntax.specs.Names.{is_lower_case, is_name_byte, is_identifier, is_among, reserved_words, is_principal_name}
use Rattle.std.proofs.lemmas.List.Sums.{prefix_len-le-length}
use Rattle.std.proofs.lemmas.List.{append_cancel_left, take_at, drop_at}
use Rattle.line_text.specs.Words.{has_first, is_word_end, HasNo}

-- the length of the word at the front
abbrev pub stop_place : ℕ → List ℕ → ℕ
stop_place stop line = position_or_len (λ byte. byte == stop) line

stop_here : (is_end : Bool) (n : ℕ) → is_end ≡ true → cond (not is_end) (1 + n) 0 ≡ 0
stop_here true n e = refl
stop_here false n e = absurd (false≢true e)

place-stop : (stop : ℕ) (behind : List ℕ) → IsTrue (is_word_end stop behind) → stop_place stop behind ≡ 0
place-stop stop [] h = refl
place-stop stop (byte ∷ bytes) h = stop_here (byte == stop) (stop_place stop bytes) h

no_stop_here : (is_end : Bool) (n : ℕ) (others : Bool) → IsTrue (not is_end && others) → (IsTrue others) × (cond (not is_end) (1 + n) 0 ≡ suc n)
no_stop_here true n others h = absurd (false≢true h)
no_stop_here false n others h = (h, one-add n)

place-append : (stop : ℕ) (word behind : List ℕ) → HasNo stop word → IsTrue (is_word_end stop behind) → stop_place stop (word ++ behind) ≡ length word
place-append stop [] behind h ends = place-stop stop behind ends
place-append stop (byte ∷ word) behind h ends =
    let here = no_stop_here (byte == stop) (stop_place stop (word ++ behind)) (list_all (λ b. not (b == stop)) word) h in
    here.1 ∙ ap suc (place-append stop word behind here.0 ends)

-- what stands before the first stop byte has none
HasNo-step : (is_end : Bool) (stop byte n : ℕ) (bytes : List ℕ) → (byte == stop) ≡ is_end → HasNo stop (take n bytes) → HasNo stop (take (cond (not is_end) (1 + n) 0) (byte ∷ bytes))
HasNo-step true stop byte n bytes is h = refl
HasNo-step false stop byte n bytes is h = rw (one-add n, is) h

pub HasNo-front : (stop : ℕ) (line : List ℕ) → HasNo stop (take (stop_place stop line) line)
HasNo-front stop [] = refl
HasNo-front stop (byte ∷ bytes) = HasNo-step (byte == stop) stop byte (stop_place stop bytes) bytes refl (HasNo-front stop bytes)

pub ends_word-append : (stop : ℕ) (literal rest : List ℕ) → IsTrue (has_first stop literal) → IsTrue (is_word_end stop (literal ++ rest))
ends_word-append stop [] rest h = absurd (false≢true h)
ends_word-append stop (byte ∷ bytes) rest h = h

-- the line falls into its first word, which is so long, and the rest in one way
pub record IsSplit (line word behind : List ℕ) (len : ℕ) : Type 0 where
  pub front : take len line ≡ word
  pub back : drop len line ≡ behind

pub IsSplit-at_word : (stop : ℕ) (line word behind : List ℕ) (len : ℕ) → len ≡ stop_place stop line → line ≡ word ++ behind → HasNo stop word → IsTrue (is_word_end stop behind) → IsSplit line word behind len
IsSplit-at_word stop line word behind len len_is same h ends =
    let at : length word ≡ len = sym (len_is ∙ ap (stop_place stop) same ∙ place-append stop word behind h ends) in
    subst (λ l. IsSplit l word behind len) (sym same) (record { front = take_at word behind len at; back = drop_at word behind len at })

place_or_len : (inside : Bool) (place len : ℕ) → (inside ≡ false → len ≡ place) → unwrap_or (cond inside (Some place) None) len ≡ place
place_or_len true place len past = refl
place_or_len false place len past = past refl

pub stop_place-unwrap_or : (stop : ℕ) (line : List ℕ) (place : Option ℕ) (len : ℕ) → place ≡ position (λ byte. byte == stop) line → len ≡ unwrap_or place (length line) → len ≡ stop_place stop line
stop_place-unwrap_or stop line place len place_is len_is =
    let n : ℕ = stop_place stop line in
    len_is ∙ ap (λ o. unwrap_or o (length line)) place_is
    ∙ place_or_len (nat_lt n (length line)) n (length line) (λ past. omega (arith, ltb-false n (length line) past, prefix_len-le-length (λ b. not (b == stop)) line))

-- a word and what stands after it
pub record IsSame (a b x y : List ℕ) : Type 0 where
  pub word : a ≡ b
  pub rest : x ≡ y

pub same_split : (stop : ℕ) (a b x y : List ℕ) → HasNo stop a → HasNo stop b → IsTrue (is_word_end stop x) → IsTrue (is_word_end stop y) → a ++ x ≡ b ++ y → IsSame a b x y
same_split stop a b x y no_a no_b ends_x ends_y same =
    let left = IsSplit-at_word stop (a ++ x) a x _ refl refl no_a ends_x in
    let right = IsSplit-at_word stop (a ++ x) b y _ refl same no_b ends_y in
    record { word = sym left.front ∙ right.front; rest = sym left.back ∙ right.back }

-- a word and what stands after a literal
pub same_words : (literal a b x y : List ℕ) → IsTrue (has_first 32 literal) → HasNo 32 a → HasNo 32 b → a ++ (literal ++ x) ≡ b ++ (literal ++ y) → IsSame a b x y
same_words literal a b x y stop no_a no_b same =
    let split = same_split 32 a b (literal ++ x) (literal ++ y) no_a no_b (ends_word-append 32 literal x stop) (ends_word-append 32 literal y stop) same in
    record { word = split.word; rest = append_cancel_left literal x y split.rest }

-- two texts that differ at a place
pub differ : {a b : List ℕ} (place : ℕ) → eqb (get_or a place 0) (get_or b place 0) ≡ false → a ≡ b → ⊥
differ {a} {b} place unequal same = false≢true (sym unequal ∙ eq-eqb (get_or a place 0) (get_or b place 0) (ap (λ line. get_or line place 0) same))

-- ---- which words have no stop byte

not_stop : (p : ℕ → Bool) (stop byte : ℕ) (test : Bool) → p stop ≡ false → (byte == stop) ≡ test → IsTrue (p byte) → IsTrue (not test)
not_stop p stop byte true none is h = absurd (false≢true (sym none ∙ subst (λ b. p b ≡ true) (eqb-true byte stop is) h))
not_stop p stop byte false none is h = refl

pub HasNo-all : (p : ℕ → Bool) (stop : ℕ) → p stop ≡ false → (word : List ℕ) → IsTrue (list_all p word) → HasNo stop word
HasNo-all p stop none [] h = refl
HasNo-all p stop none (byte ∷ word) h =
    let parts = and_parts (p byte) (list_all p word) h in
    and_from (not (byte == stop)) (list_all (λ b. not (b == stop)) word) (not_stop p stop byte (byte == stop) none refl parts.0) (HasNo-all p stop none word parts.1)

-- a name is a lower-case letter and bytes of a name
name_bytes : (name : List ℕ) → IsTrue (is_identifier name) → HasNo 32 name
name_bytes [] h = absurd (false≢true h)
name_bytes (first ∷ others) h =
    let parts = and_parts (is_lower_case first) (list_all is_name_byte others) (and_parts (is_lower_case first && list_all is_name_byte others) _ h).0 in
    and_from (not (first == 32)) (list_all (λ b. not (b == 32)) others)
    (not_stop is_lower_case 32 first (first == 32) refl refl parts.0) (HasNo-all is_name_byte 32 refl others parts.1)

pub HasNo-principal : (who : List ℕ) → IsTrue (is_principal_name who) → HasNo 32 who
HasNo-principal who h = name_bytes who (and_parts (is_identifier who) (not (is_among reserved_words who)) h).0
