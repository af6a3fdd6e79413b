-- The tokens of a text: each name and each text in them is in its grammar, and each number fits its bytes.
use Rattle.std.proofs.Common.{◌≡◌, ℕ, ℤ, ◌+◌, ◌<◌, Bool, true, false, List, [], ◌∷◌, refl}
use Rattle.std.specs.Prelude.{pos, neg_ℤ, ◌+ℤ◌, ◌^◌, length, take, drop, codes, nat_le, nat_lt, nat_eq, ◌&&◌, ◌==◌, IsTrue, Option, Some, None, if◌then◌else◌}
use Rattle.std.specs.List.{prefix_len, take_while, starts_with}
use Rattle.std.specs.Str.{bytes_eq}
use Rattle.std.specs.Str.Parse.{digits_value}
use Rattle.std.proofs.lemmas.Bool.{and_parts, ltb-true}
use Rattle.bl_syntax.specs.declared.terms.Term.{Term}
use Rattle.bl_syntax.specs.declared.terms.Term.TheVariants.{Prin, File, Perm, Time, Text, Ctime, Param, Bound}
use Rattle.bl_syntax.specs.declared.terms.TimePoint.TheVariants as times
use Rattle.bl_syntax.specs.declared.terms.Sort.{Sort}
use Rattle.bl_syntax.specs.Names.{is_lower_case, is_upper_case, is_digit, is_principal_name, is_text}
use Rattle.bl_tokens.specs.declared.classes.Class.TheVariants as classes
use Rattle.bl_tokens.specs.declared.tokens.Sign.{Sign}
use Rattle.bl_tokens.specs.declared.tokens.Keyword.{Keyword as Word}
use Rattle.bl_tokens.specs.declared.tokens.Token.{Token}
use Rattle.bl_tokens.specs.declared.tokens.Token.TheVariants.{Name, LongWord, Constant, BadDate, SortName, Keyword, End, Bad}
use Rattle.bl_tokens.specs.declared.tokens.Token.TheVariants as tokens
use Rattle.bl_tokens.specs.declared.tokens.Lexeme.{Lexeme}
use Rattle.bl_tokens.specs.Classes.{is_in}
use Rattle.bl_tokens.specs.Numerals.{is_numeral, numeral_below}
use Rattle.bl_syntax.specs.Reading.{is_moment}
use Rattle.bl_tokens.specs.Dates.{has_date_front, has_time_of_day, date_second_at, day_second_at}
use Rattle.bl_tokens.specs.Words.{keyword, sort_named, constant_named, constant_or_name, sort_or_other, keyword_or_other, name_token}
use Rattle.bl_tokens.specs.Tokens.{sized_lexeme, bad_lexeme, second_token, short_value, token_at_both, digits_of, integer_lexeme, negative_lexeme, time_lexeme, minus_lexeme, plus_lexeme, file_lexeme, parameter_lexeme, text_lexeme, has_first_byte, short_sign, sign_lexeme, other_lexeme, first_lexeme, word_lexeme, variable_lexeme, token_from}

-- its name or text is in the grammar, and its number fits its bytes. Of times and variables nothing is asked
abbrev pub IsInGrammar : Term → Type 0
IsInGrammar (Prin name) = IsTrue (is_principal_name name)
IsInGrammar (File node) = node.0 < 2 ^ 64
IsInGrammar (Perm permission) = Unit {0}
IsInGrammar (Time point) = Unit {0}
IsInGrammar (Text text) = IsTrue (is_text text)
IsInGrammar Ctime = Unit {0}
IsInGrammar (Param n) = n < 2 ^ 32
IsInGrammar (Bound n) = Unit {0}

abbrev pub IsTokenInGrammar : Token → Type 0
IsTokenInGrammar (Name name) = IsTrue (is_principal_name name)
IsTokenInGrammar LongWord = Unit {0}
IsTokenInGrammar (tokens.Variable name) = Unit {0}
IsTokenInGrammar (Constant t) = IsInGrammar t
IsTokenInGrammar BadDate = Unit {0}
IsTokenInGrammar (SortName s) = Unit {0}
IsTokenInGrammar (Keyword word) = Unit {0}
IsTokenInGrammar (tokens.Sign sign) = Unit {0}
IsTokenInGrammar End = Unit {0}
IsTokenInGrammar Bad = Unit {0}

-- ---- numerals

-- the number, if there is one, is below the limit
abbrev pub IsBelow : ℕ → Option ℕ → Type 0
IsBelow limit None = Unit {0}
IsBelow limit (Some n) = n < limit

below_by : (limit n : ℕ) (b : Bool) → (b ≡ true → n < limit) → IsBelow limit (if b then Some n else None)
below_by limit n true h = h refl
below_by limit n false h = tt

pub numeral_fits : (limit : ℕ) (digits : List ℕ) → IsBelow limit (numeral_below limit digits)
numeral_fits limit digits =
    below_by limit (digits_value 10 digits) (is_numeral digits && nat_lt (digits_value 10 digits) limit)
    (λ h. ltb-true (digits_value 10 digits) limit (and_parts (is_numeral digits) (nat_lt (digits_value 10 digits) limit) h).1)

-- ---- tests

if_lexeme : (b : Bool) (l m : Lexeme) → IsTokenInGrammar l.token → IsTokenInGrammar m.token → IsTokenInGrammar (if b then l else m).token
if_lexeme true l m h k = h
if_lexeme false l m h k = k

if_token : (b : Bool) (l m : Token) → IsTokenInGrammar l → IsTokenInGrammar m → IsTokenInGrammar (if b then l else m)
if_token true l m h k = h
if_token false l m h k = k

abbrev on_option : {A : Type 0} → Lexeme → (A → Lexeme) → Option A → Lexeme
on_option l f None = l
on_option l f (Some a) = f a

abbrev sign_otherwise : Option Sign → ℕ → List ℕ → Lexeme
sign_otherwise None first others =
    if (first == 61) && has_first_byte 62 others then sized_lexeme (tokens.Sign Sign.Implies) 2 else if (first == 60) && has_first_byte 61 others then sized_lexeme (tokens.Sign Sign.UpTo) 2 else bad_lexeme
sign_otherwise (Some sign) first others = sized_lexeme (tokens.Sign sign) 1

-- ---- times

second_fits : (second : ℤ) → IsTokenInGrammar (second_token second)
second_fits second = if_token (is_moment second) (Constant (Time (times.At second))) BadDate tt tt

integer_fits : (digits : List ℕ) → IsTokenInGrammar (integer_lexeme digits).token
integer_fits digits = value (short_value digits)
  where
    value : (o : Option ℕ) → IsTokenInGrammar (on_option bad_lexeme (λ n. sized_lexeme (second_token (pos n)) (length digits)) o).token
    value None = tt
    value (Some n) = second_fits (pos n)

negative_fits : (digits : List ℕ) → IsTokenInGrammar (negative_lexeme digits).token
negative_fits digits = value (short_value digits)
  where
    value : (o : Option ℕ) → IsTokenInGrammar (on_option bad_lexeme (λ n. sized_lexeme (second_token (neg_ℤ (pos n))) (length digits + 1)) o).token
    value None = tt
    value (Some n) = second_fits (neg_ℤ (pos n))

date_fits : (o : Option ℤ) → IsTokenInGrammar (elim o [ None ↦ BadDate | Some second ↦ second_token second ])
date_fits None = tt
date_fits (Some second) = second_fits second

both_fit : (date : Option ℤ) (time : Option ℕ) → IsTokenInGrammar (token_at_both date time)
both_fit None time = tt
both_fit (Some date) None = tt
both_fit (Some date) (Some time) = second_fits (date +ℤ pos time)

time_fits : (bytes : List ℕ) → IsTokenInGrammar (time_lexeme bytes).token
time_fits bytes =
    if_lexeme (has_date_front bytes) _ _ (if_lexeme (has_time_of_day bytes) _ _ (both_fit (date_second_at bytes) (day_second_at bytes)) (date_fits (date_second_at bytes))) (integer_fits (digits_of bytes))

minus_fits : (others : List ℕ) → IsTokenInGrammar (minus_lexeme others).token
minus_fits others = if_lexeme (starts_with nat_eq others (codes "inf")) (sized_lexeme (Constant (Time times.NegInf)) 4) (negative_lexeme (digits_of others)) tt (negative_fits (digits_of others))

plus_fits : (others : List ℕ) → IsTokenInGrammar (plus_lexeme others).token
plus_fits others = if_lexeme (starts_with nat_eq others (codes "inf")) (sized_lexeme (Constant (Time times.PosInf)) 4) bad_lexeme tt tt

-- ---- numbers and texts

file_fits : (others : List ℕ) → IsTokenInGrammar (file_lexeme others).token
file_fits others = value (numeral_below (2 ^ 64) (digits_of others)) (numeral_fits (2 ^ 64) (digits_of others))
  where
    value : (o : Option ℕ) → IsBelow (2 ^ 64) o → IsTokenInGrammar (on_option bad_lexeme (λ n. sized_lexeme (Constant (File (record { 0 = n }))) (length (digits_of others) + 1)) o).token
    value None h = tt
    value (Some n) h = h

parameter_fits : (others : List ℕ) → IsTokenInGrammar (parameter_lexeme others).token
parameter_fits others = value (numeral_below (2 ^ 32) (digits_of others)) (numeral_fits (2 ^ 32) (digits_of others))
  where
    value : (o : Option ℕ) → IsBelow (2 ^ 32) o → IsTokenInGrammar (on_option bad_lexeme (λ n. sized_lexeme (Constant (Param n)) (length (digits_of others) + 1)) o).token
    value None h = tt
    value (Some n) h = h

text_by : (text : List ℕ) (size : ℕ) (b : Bool) → (b ≡ true → IsTrue (is_text text)) → IsTokenInGrammar (if b then sized_lexeme (Constant (Text text)) size else bad_lexeme).token
text_by text size true h = h refl
text_by text size false h = tt

text_fits : (others : List ℕ) → IsTokenInGrammar (text_lexeme others).token
text_fits others =
    let len = prefix_len (is_in classes.Text) others in
    text_by (take len others) (len + 2) (has_first_byte 34 (drop len others) && is_text (take len others)) (λ h. (and_parts (has_first_byte 34 (drop len others)) (is_text (take len others)) h).1)

sign_fits : (first : ℕ) (others : List ℕ) → IsTokenInGrammar (sign_lexeme first others).token
sign_fits first others = value (short_sign first)
  where
    value : (o : Option Sign) → IsTokenInGrammar (sign_otherwise o first others).token
    value None = if_lexeme ((first == 61) && has_first_byte 62 others) _ _ tt (if_lexeme ((first == 60) && has_first_byte 61 others) _ _ tt tt)
    value (Some sign) = tt

other_fits : (first : ℕ) (others : List ℕ) → IsTokenInGrammar (other_lexeme first others).token
other_fits first others =
    if_lexeme (first == 45) _ _ (minus_fits others) (if_lexeme (first == 43) _ _ (plus_fits others) (if_lexeme (first == 35) _ _ (file_fits others)
    (if_lexeme (first == 63) _ _ (parameter_fits others) (if_lexeme (first == 34) _ _ (text_fits others) (sign_fits first others)))))

-- ---- words

name_by : (word : List ℕ) (b : Bool) → (b ≡ true → IsTrue (is_principal_name word)) → IsTokenInGrammar (if b then Name word else LongWord)
name_by word true h = h refl
name_by word false h = tt

name_fits : (word : List ℕ) → IsTokenInGrammar (name_token word)
name_fits word = name_by word (is_principal_name word) (λ h. h)

IsInGrammarIfSome : Option Term → Type 0
IsInGrammarIfSome None = Unit {0}
IsInGrammarIfSome (Some t) = IsInGrammar t

if_some : (b : Bool) (t : Term) (o : Option Term) → IsInGrammar t → IsInGrammarIfSome o → IsInGrammarIfSome (if b then Some t else o)
unfolding IsInGrammarIfSome
if_some true t o h more = h
if_some false t o h more = more

constants_fit : (word : List ℕ) → IsInGrammarIfSome (constant_named word)
unfolding IsInGrammarIfSome
constants_fit word =
    if_some (bytes_eq word (codes "ctime")) _ _ tt (if_some (bytes_eq word (codes "read")) _ _ tt (if_some (bytes_eq word (codes "write")) _ _ tt
    (if_some (bytes_eq word (codes "execute")) _ _ tt (if_some (bytes_eq word (codes "identity")) _ _ tt (if_some (bytes_eq word (codes "govern")) _ _ tt tt)))))

constant_fits : (word : List ℕ) (o : Option Term) → IsInGrammarIfSome o → IsTokenInGrammar (constant_or_name word o)
unfolding IsInGrammarIfSome
constant_fits word None h = name_fits word
constant_fits word (Some t) h = h

sort_fits : (word : List ℕ) (o : Option Sort) → IsTokenInGrammar (sort_or_other word o)
sort_fits word None = constant_fits word (constant_named word) (constants_fit word)
sort_fits word (Some s) = tt

keyword_fits : (word : List ℕ) (o : Option Word) → IsTokenInGrammar (keyword_or_other word o)
keyword_fits word None = sort_fits word (sort_named word)
keyword_fits word (Some found) = tt

variable_fits : (name : List ℕ) → IsTokenInGrammar (if nat_le (length name) 32 then sized_lexeme (tokens.Variable name) (length name) else bad_lexeme).token
variable_fits name = if_lexeme (nat_le (length name) 32) _ _ tt tt

-- ---- the token at a place

first_fits : (bytes : List ℕ) → IsTokenInGrammar (first_lexeme bytes).token
first_fits [] = tt
first_fits (first ∷ others) =
    if_lexeme (is_lower_case first) (word_lexeme (first ∷ others)) _ (keyword_fits (take_while (is_in classes.Name) (first ∷ others)) (keyword (take_while (is_in classes.Name) (first ∷ others))))
    (if_lexeme (is_upper_case first) (variable_lexeme (first ∷ others)) _ (variable_fits (take_while (is_in classes.Word) (first ∷ others)))
    (if_lexeme (is_digit first) (time_lexeme (first ∷ others)) _ (time_fits (first ∷ others)) (other_fits first others)))

pub token_fits : (text : List ℕ) (from left : ℕ) → IsTokenInGrammar (token_from text from left).token
unfolding token_from
token_fits text from left = first_fits (drop (from + prefix_len (is_in classes.Space) (drop from text)) text)
