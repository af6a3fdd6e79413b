-- The first word ends where its length says, and the line is that word and what stands after it.
use Rattle.std.proofs.Common.{◌≡◌, ℕ, suc, ◌+◌, Bool, true, false, not, cond, List, [], ◌∷◌, ◌++◌, take, drop, IsTrue, refl, ap, ◌∙◌, arith, one-add, zero-add}
use Rattle.std.specs.Prelude.{◌==◌}
use Rattle.std.specs.List.{list_all}
use Rattle.std.proofs.lemmas.Bool.{eqb-true, and_parts, false≢true}
use Rattle.bl_syntax.specs.Names.{is_text_byte, is_text}
use Rattle.line_text.specs.Words.{has_first, is_word_end, HasNo}
use Rattle.line_text.proofs.WordLemmas.{HasNo-all}
use Rattle.line_words.specs.Cutting.{Position, beginning, quoted, plain, ends, next, Cut, with_byte, cut_from, first_cut}
use Rattle.line_words.specs.Lengths.{place_of_byte, first_len}

-- so many bytes, and what stands after them
abbrev pub cut_at : ℕ → List ℕ → Cut
cut_at n line = record { word = take n line; behind = drop n line }

-- a space ends a word, any other byte belongs to it
plain_step : (is_end : Bool) (byte : ℕ) (bytes : List ℕ) (n : ℕ) → cut_from plain bytes ≡ cut_at n bytes
    → cond is_end (record { word = []; behind = byte ∷ bytes }) (with_byte byte (cut_from plain bytes)) ≡ cut_at (cond (not is_end) (1 + n) 0) (byte ∷ bytes)
plain_step true byte bytes n h = refl
plain_step false byte bytes n h = rw (one-add, h) refl

cut_plain : (line : List ℕ) → cut_from plain line ≡ cut_at (place_of_byte 32 line) line
cut_plain [] = refl
cut_plain (byte ∷ bytes) = plain_step (byte == 32) byte bytes (place_of_byte 32 bytes) (cut_plain bytes)

-- one more byte between quotes
quoted_more : (byte : ℕ) (bytes : List ℕ) (m p : ℕ) → cut_from quoted bytes ≡ cut_at (m + p) bytes → with_byte byte (cut_from quoted bytes) ≡ cut_at ((1 + m) + p) (byte ∷ bytes)
quoted_more byte bytes m p h = let e : (1 + m) + p ≡ suc (m + p) = omega arith in rw (e, h) refl

drop_one : (byte : ℕ) (bytes : List ℕ) (m : ℕ) → drop (1 + m) (byte ∷ bytes) ≡ drop m bytes
drop_one byte bytes m = rw one-add refl

-- between quotes up to the closing one, and on to the next space
quoted_open : (byte : ℕ) (bytes : List ℕ) (m : ℕ) → cut_from quoted bytes ≡ cut_at (m + place_of_byte 32 (drop m bytes)) bytes
    → with_byte byte (cut_from quoted bytes) ≡ cut_at ((1 + m) + place_of_byte 32 (drop (1 + m) (byte ∷ bytes))) (byte ∷ bytes)
quoted_open byte bytes m h = rw drop_one (quoted_more byte bytes m (place_of_byte 32 (drop m bytes)) h)

quoted_close : (bytes : List ℕ) → with_byte 34 (cut_from plain bytes) ≡ cut_at (0 + place_of_byte 32 (34 ∷ bytes)) (34 ∷ bytes)
quoted_close bytes = rw zero-add (plain_step false 34 bytes (place_of_byte 32 bytes) (cut_plain bytes))

quoted_step : (is_close : Bool) (byte : ℕ) (bytes : List ℕ) (m : ℕ) → (byte == 34) ≡ is_close → cut_from quoted bytes ≡ cut_at (m + place_of_byte 32 (drop m bytes)) bytes
    → with_byte byte (cut_from (cond is_close plain quoted) bytes) ≡ cut_at (cond (not is_close) (1 + m) 0 + place_of_byte 32 (drop (cond (not is_close) (1 + m) 0) (byte ∷ bytes))) (byte ∷ bytes)
quoted_step true byte bytes m is h = let e : byte ≡ 34 = eqb-true byte 34 is in rw e (quoted_close bytes)
quoted_step false byte bytes m is h = quoted_open byte bytes m h

cut_quoted : (line : List ℕ) → cut_from quoted line ≡ cut_at (place_of_byte 34 line + place_of_byte 32 (drop (place_of_byte 34 line) line)) line
cut_quoted [] = refl
cut_quoted (byte ∷ bytes) = quoted_step (byte == 34) byte bytes (place_of_byte 34 bytes) refl (cut_quoted bytes)

begin_step : (is_quote : Bool) (byte : ℕ) (bytes : List ℕ) → (byte == 34) ≡ is_quote
    → cond (byte == 32) (record { word = []; behind = byte ∷ bytes }) (with_byte byte (cut_from (cond is_quote quoted plain) bytes))
    ≡ cut_at (cond is_quote (1 + place_of_byte 34 bytes) 0 + place_of_byte 32 (drop (cond is_quote (1 + place_of_byte 34 bytes) 0) (byte ∷ bytes))) (byte ∷ bytes)
begin_step true byte bytes is = let e : byte ≡ 34 = eqb-true byte 34 is in rw e (quoted_open 34 bytes (place_of_byte 34 bytes) (cut_quoted bytes))
begin_step false byte bytes is = rw zero-add (plain_step (byte == 32) byte bytes (place_of_byte 32 bytes) (cut_plain bytes))

pub first_cut-len : (line : List ℕ) → first_cut line ≡ cut_at (first_len line) line
first_cut-len [] = refl
first_cut-len (byte ∷ bytes) = begin_step (byte == 34) byte bytes refl

parts_step : (is_end : Bool) (position : Position) (byte : ℕ) (bytes : List ℕ) → bytes ≡ (cut_from position bytes).word ++ (cut_from position bytes).behind
    → byte ∷ bytes ≡ (cond is_end (record { word = []; behind = byte ∷ bytes }) (with_byte byte (cut_from position bytes))).word ++ (cond is_end (record { word = []; behind = byte ∷ bytes }) (with_byte byte (cut_from position bytes))).behind
parts_step true position byte bytes h = refl
parts_step false position byte bytes h = ap (λ l. byte ∷ l) h

pub cut_from-parts : (position : Position) (line : List ℕ) → line ≡ (cut_from position line).word ++ (cut_from position line).behind
cut_from-parts position [] = refl
cut_from-parts position (byte ∷ bytes) = parts_step (ends position byte) (next position byte) byte bytes (cut_from-parts (next position byte) bytes)

-- ---- words that are written are cut whole

abbrev cut_as : List ℕ → List ℕ → Cut
cut_as word behind = record { word = word; behind = behind }

-- one more byte, which is no space
byte_step : (is_end : Bool) (position : Position) (byte : ℕ) (word rest line : List ℕ) → IsTrue (not is_end) → cut_from position line ≡ cut_as word rest
    → cond is_end (cut_as [] (byte ∷ line)) (with_byte byte (cut_from position line)) ≡ cut_as (byte ∷ word) rest
byte_step true position byte word rest line not_end h = absurd (false≢true not_end)
byte_step false position byte word rest line not_end h = ap (with_byte byte) h

end_step : (is_end : Bool) (position : Position) (byte : ℕ) (line : List ℕ) → is_end ≡ true → cond is_end (cut_as [] (byte ∷ line)) (with_byte byte (cut_from position line)) ≡ cut_as [] (byte ∷ line)
end_step true position byte line is = refl
end_step false position byte line is = absurd (false≢true is)

plain_cut : (word rest : List ℕ) → HasNo 32 word → IsTrue (is_word_end 32 rest) → cut_from plain (word ++ rest) ≡ cut_as word rest
plain_cut [] [] no_space ends = refl
plain_cut [] (byte ∷ bytes) no_space ends = end_step (byte == 32) plain byte bytes ends
plain_cut (byte ∷ word) rest no_space ends =
    let parts = and_parts (not (byte == 32)) (list_all (λ b. not (b == 32)) word) no_space in
    byte_step (byte == 32) plain byte word rest (word ++ rest) parts.0 (plain_cut word rest parts.1 ends)

unquoted : (is_quote : Bool) (line : List ℕ) → IsTrue (not is_quote) → cut_from (cond is_quote quoted plain) line ≡ cut_from plain line
unquoted true line other = absurd (false≢true other)
unquoted false line other = refl

pub first_cut-plain : (word rest : List ℕ) → HasNo 32 word → IsTrue (not (has_first 34 word)) → IsTrue (is_word_end 32 rest) → first_cut (word ++ rest) ≡ cut_as word rest
first_cut-plain [] [] no_space no_quote ends = refl
first_cut-plain [] (byte ∷ bytes) no_space no_quote ends = end_step (byte == 32) (next beginning byte) byte bytes ends
first_cut-plain (byte ∷ word) rest no_space no_quote ends =
    let parts = and_parts (not (byte == 32)) (list_all (λ b. not (b == 32)) word) no_space in
    byte_step (byte == 32) (next beginning byte) byte word rest (word ++ rest) parts.0 (unquoted (byte == 34) (word ++ rest) no_quote ∙ plain_cut word rest parts.1 ends)

still_quoted : (is_quote : Bool) (line : List ℕ) → IsTrue (not is_quote) → cut_from (cond is_quote plain quoted) line ≡ cut_from quoted line
still_quoted true line other = absurd (false≢true other)
still_quoted false line other = refl

quoted_cut : (text rest : List ℕ) → HasNo 34 text → IsTrue (is_word_end 32 rest) → cut_from quoted ((text ++ 34 ∷ []) ++ rest) ≡ cut_as (text ++ 34 ∷ []) rest
quoted_cut [] rest no_quote ends = ap (with_byte 34) (plain_cut [] rest refl ends)
quoted_cut (byte ∷ text) rest no_quote ends =
    let parts = and_parts (not (byte == 34)) (list_all (λ b. not (b == 34)) text) no_quote in
    ap (with_byte byte) (still_quoted (byte == 34) ((text ++ 34 ∷ []) ++ rest) parts.0 ∙ quoted_cut text rest parts.1 ends)

pub first_cut-quoted : (text rest : List ℕ) → IsTrue (is_text text) → IsTrue (is_word_end 32 rest) → first_cut ((34 ∷ (text ++ 34 ∷ [])) ++ rest) ≡ cut_as (34 ∷ (text ++ 34 ∷ [])) rest
first_cut-quoted text rest fits ends =
    ap (with_byte 34) (quoted_cut text rest (HasNo-all is_text_byte 34 refl text (and_parts _ _ fits).0) ends)
