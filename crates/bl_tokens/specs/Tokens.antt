-- The tokens of a text (this project's own). A token takes as many bytes as it can, and what is no
-- token is a bad one at its first byte.
use Rattle.std.specs.Prelude.{ℕ, ℤ, pos, neg_ℤ, ◌+ℤ◌, ◌+◌, ◌-◌, ◌^◌, List, [], ◌∷◌, length, take, drop, codes, Bool, false, nat_le, nat_eq, ◌&&◌, ◌==◌, Option, Some, None, if◌then◌else◌}
use Rattle.std.specs.List.{prefix_len, take_while, starts_with}
use Rattle.std.specs.Str.Parse.{digits_value}
use Rattle.bl_syntax.specs.declared.limits.TheConstants.{LONGEST_WORD}
use Rattle.bl_syntax.specs.declared.terms.Term.TheVariants as terms
use Rattle.bl_syntax.specs.declared.terms.TimePoint.TheVariants as times
use Rattle.bl_syntax.specs.Names.{is_lower_case, is_upper_case, is_digit, is_text}
use Rattle.bl_tokens.specs.declared.tokens.Sign.{Sign}
use Rattle.bl_tokens.specs.declared.tokens.Sign.TheVariants as signs
use Rattle.bl_tokens.specs.declared.tokens.Keyword.{Keyword}
use Rattle.bl_tokens.specs.declared.tokens.Keyword.TheVariants as words
use Rattle.bl_tokens.specs.declared.tokens.Token.{Token}
use Rattle.bl_tokens.specs.declared.tokens.Token.TheVariants as tokens
use Rattle.bl_tokens.specs.declared.tokens.Lexeme.{Lexeme}
use Rattle.bl_tokens.specs.declared.tokens.Cursor.{Cursor}
use Rattle.bl_tokens.specs.declared.classes.Class.TheVariants as classes
use Rattle.bl_tokens.specs.Classes.{is_in}
use Rattle.bl_tokens.specs.Numerals.{numeral_below}
use Rattle.bl_syntax.specs.Reading.{is_moment}
use Rattle.bl_tokens.specs.Dates.{has_date_front, has_time_of_day, date_second_at, day_second_at}
use Rattle.bl_tokens.specs.Words.{word_token}

-- a token of so many bytes
abbrev pub sized_lexeme : Token → ℕ → Lexeme
sized_lexeme token size = record { token = token; size = size }

-- what begins no token
abbrev pub bad_lexeme : Lexeme
bad_lexeme = sized_lexeme tokens.Bad 0

-- the time constant of a second, if it is a moment
abbrev pub second_token : ℤ → Token
second_token second = if is_moment second then tokens.Constant (terms.Time (times.At second)) else tokens.BadDate

-- ---- integers

-- the number that 1 to 18 digits write
abbrev pub short_value : List ℕ → Option ℕ
short_value digits = if nat_le 1 (length digits) && nat_le (length digits) 18 then Some (digits_value 10 digits) else None

abbrev sized_integer : ℕ → Option ℕ → Lexeme
sized_integer size None = bad_lexeme
sized_integer size (Some value) = sized_lexeme (second_token (pos value)) size

abbrev pub integer_lexeme : List ℕ → Lexeme
integer_lexeme digits = sized_integer (length digits) (short_value digits)

abbrev sized_negative : ℕ → Option ℕ → Lexeme
sized_negative size None = bad_lexeme
sized_negative size (Some value) = sized_lexeme (second_token (neg_ℤ (pos value))) size

-- of the digits after a `-`
abbrev pub negative_lexeme : List ℕ → Lexeme
negative_lexeme digits = sized_negative (length digits + 1) (short_value digits)

-- ---- dates

abbrev token_at_second : Option ℤ → Token
token_at_second None = tokens.BadDate
token_at_second (Some second) = second_token second

abbrev pub date_token : List ℕ → Token
date_token bytes = token_at_second (date_second_at bytes)

abbrev pub token_at_both : Option ℤ → Option ℕ → Token
token_at_both None time = tokens.BadDate
token_at_both (Some date) None = tokens.BadDate
token_at_both (Some date) (Some time) = second_token (date +ℤ pos time)

abbrev pub date_time_token : List ℕ → Token
date_time_token bytes = token_at_both (date_second_at bytes) (day_second_at bytes)

-- the digits at the front
abbrev pub digits_of : List ℕ → List ℕ
digits_of bytes = take_while (is_in classes.Digit) bytes

-- a date with a time of day, a date, or an integer
abbrev pub time_lexeme : List ℕ → Lexeme
time_lexeme bytes =
    if has_date_front bytes then (if has_time_of_day bytes then sized_lexeme (date_time_token bytes) 20 else sized_lexeme (date_token bytes) 10)
    else integer_lexeme (digits_of bytes)

-- what stands after a `-`
abbrev pub minus_lexeme : List ℕ → Lexeme
minus_lexeme others = if starts_with nat_eq others (codes "inf")
    then sized_lexeme (tokens.Constant (terms.Time times.NegInf)) 4
    else negative_lexeme (digits_of others)

-- what stands after a `+`
abbrev pub plus_lexeme : List ℕ → Lexeme
plus_lexeme others = if starts_with nat_eq others (codes "inf") then sized_lexeme (tokens.Constant (terms.Time times.PosInf)) 4 else bad_lexeme

-- ---- words, numbers and texts

abbrev sized_word : List ℕ → Lexeme
sized_word word = sized_lexeme (word_token word) (length word)

abbrev pub word_lexeme : List ℕ → Lexeme
word_lexeme bytes = sized_word (take_while (is_in classes.Name) bytes)

abbrev sized_variable : List ℕ → Lexeme
sized_variable name = if nat_le (length name) LONGEST_WORD then sized_lexeme (tokens.Variable name) (length name) else bad_lexeme

abbrev pub variable_lexeme : List ℕ → Lexeme
variable_lexeme bytes = sized_variable (take_while (is_in classes.Word) bytes)

abbrev sized_file : ℕ → Option ℕ → Lexeme
sized_file size None = bad_lexeme
sized_file size (Some number) = sized_lexeme (tokens.Constant (terms.File (record { 0 = number }))) size

-- what stands after a `#`
abbrev pub file_lexeme : List ℕ → Lexeme
file_lexeme others = sized_file (length (digits_of others) + 1) (numeral_below (2 ^ 64) (digits_of others))

abbrev sized_parameter : ℕ → Option ℕ → Lexeme
sized_parameter size None = bad_lexeme
sized_parameter size (Some number) = sized_lexeme (tokens.Constant (terms.Param number)) size

-- what stands after a `?`
abbrev pub parameter_lexeme : List ℕ → Lexeme
parameter_lexeme others = sized_parameter (length (digits_of others) + 1) (numeral_below (2 ^ 32) (digits_of others))

-- whether the first byte is this one
abbrev pub has_first_byte : ℕ → List ℕ → Bool
has_first_byte byte [] = false
has_first_byte byte (first ∷ others) = first == byte

abbrev sized_text : ℕ → List ℕ → List ℕ → Lexeme
sized_text len text cursor_after = if has_first_byte 34 cursor_after && is_text text
    then sized_lexeme (tokens.Constant (terms.Text text)) (len + 2) else bad_lexeme

-- what stands after a `"`
abbrev pub text_lexeme : List ℕ → Lexeme
text_lexeme others = let len = prefix_len (is_in classes.Text) others in sized_text len (take len others) (drop len others)

-- ---- signs

abbrev pub short_sign : ℕ → Option Sign
short_sign first =
    if first == 40 then Some signs.Open else
    if first == 41 then Some signs.Close else
    if first == 91 then Some signs.OpenInterval else
    if first == 93 then Some signs.CloseInterval else
    if first == 44 then Some signs.Comma else
    if first == 58 then Some signs.Colon else
    if first == 46 then Some signs.Dot else
    if first == 38 then Some signs.And else
    if first == 124 then Some signs.Or else
    if first == 64 then Some signs.At else
    None

abbrev long_sign : ℕ → List ℕ → Lexeme
long_sign first others =
    if (first == 61) && has_first_byte 62 others then sized_lexeme (tokens.Sign signs.Implies) 2 else
    if (first == 60) && has_first_byte 61 others then sized_lexeme (tokens.Sign signs.UpTo) 2 else
    bad_lexeme

abbrev sign_or_long : Option Sign → ℕ → List ℕ → Lexeme
sign_or_long None first others = long_sign first others
sign_or_long (Some sign) first others = sized_lexeme (tokens.Sign sign) 1

abbrev pub sign_lexeme : ℕ → List ℕ → Lexeme
sign_lexeme first others = sign_or_long (short_sign first) first others

-- what begins with a byte that is neither a letter nor a digit
abbrev pub other_lexeme : ℕ → List ℕ → Lexeme
other_lexeme first others =
    if first == 45 then minus_lexeme others else
    if first == 43 then plus_lexeme others else
    if first == 35 then file_lexeme others else
    if first == 63 then parameter_lexeme others else
    if first == 34 then text_lexeme others else
    sign_lexeme first others

-- the token with which the bytes begin
abbrev pub first_lexeme : List ℕ → Lexeme
first_lexeme [] = sized_lexeme tokens.End 0
first_lexeme (first ∷ others) =
    if is_lower_case first then word_lexeme (first ∷ others) else
    if is_upper_case first then variable_lexeme (first ∷ others) else
    if is_digit first then time_lexeme (first ∷ others) else
    other_lexeme first others

abbrev lexeme_cursor : ℕ → ℕ → Lexeme → Cursor
lexeme_cursor at left found = record { at = at; token = found.token; end = at + found.size; left = left }

-- the place of the first token from that byte of the text on, after spaces, if so many nodes are
-- left
unfoldable pub token_from : List ℕ → ℕ → ℕ → Cursor
token_from text from left = let at = from + prefix_len (is_in classes.Space) (drop from text) in lexeme_cursor at left (first_lexeme (drop at text))

-- the place after a token that is no node of the formula
unfoldable pub cursor_after : List ℕ → Cursor → Cursor
cursor_after text here = token_from text here.end here.left

-- the place after a token that is a node of the formula
unfoldable pub cursor_after_node : List ℕ → Cursor → Cursor
cursor_after_node text here = token_from text here.end (here.left - 1)

-- ---- which sign or word a token is

abbrev pub sign_code : Sign → ℕ
sign_code signs.Open = 0
sign_code signs.Close = 1
sign_code signs.OpenInterval = 2
sign_code signs.CloseInterval = 3
sign_code signs.Comma = 4
sign_code signs.Colon = 5
sign_code signs.Dot = 6
sign_code signs.And = 7
sign_code signs.Or = 8
sign_code signs.Implies = 9
sign_code signs.UpTo = 10
sign_code signs.At = 11

abbrev pub word_code : Keyword → ℕ
word_code words.Forall = 0
word_code words.Exists = 1
word_code words.Says = 2
word_code words.From = 3
word_code words.To = 4
word_code words.True = 5
word_code words.False = 6
word_code words.Inf = 7

unfoldable pub is_sign : Sign → Token → Bool
is_sign sign (tokens.Sign found) = sign_code sign == sign_code found
is_sign sign _ = false

unfoldable pub is_word : Keyword → Token → Bool
is_word word (tokens.Keyword found) = word_code word == word_code found
is_word word _ = false
