-- The constants that tokens of a text are: none is a variable, and each time is in the range of moments.
use Rattle.std.proofs.Common.{◌≡◌, ℕ, ℤ, ◌+◌, Bool, true, false, List, [], ◌∷◌, refl}
use Rattle.std.specs.Prelude.{T, pos, negsuc, neg_ℤ, ◌+ℤ◌, ◌^◌, length, take, drop, codes, nat_le, nat_eq, ◌&&◌, ◌==◌, Option, Some, None, if◌then◌else◌}
use Rattle.std.specs.List.{prefix_len, take_while, starts_with}
use Rattle.std.specs.Str.{bytes_eq}
use Rattle.std.proofs.lemmas.Bool.{false≢true}
use Rattle.bl_syntax.specs.declared.terms.Term.{Term}
use Rattle.bl_syntax.specs.declared.terms.Term.TheVariants.{Prin, File, Perm, Time, Text, Ctime, Param, Bound}
use Rattle.bl_syntax.specs.declared.terms.TimePoint.TheVariants as times
use Rattle.bl_syntax.specs.declared.terms.Sort.{Sort}
use Rattle.bl_syntax.specs.TimeOrder.{IsMoment, IsInRange}
use Rattle.bl_syntax.specs.Names.{is_lower_case, is_upper_case, is_digit, is_principal_name}
use Rattle.bl_tokens.specs.declared.classes.Class.TheVariants as classes
use Rattle.bl_tokens.specs.declared.tokens.Sign.{Sign}
use Rattle.bl_tokens.specs.declared.tokens.Keyword.{Keyword as Word}
use Rattle.bl_tokens.specs.declared.tokens.Token.{Token}
use Rattle.bl_tokens.specs.declared.tokens.Token.TheVariants.{Name, LongWord, Constant, BadDate, SortName, Keyword, End, Bad}
use Rattle.bl_tokens.specs.declared.tokens.Token.TheVariants as tokens
use Rattle.bl_tokens.specs.declared.tokens.Lexeme.{Lexeme}
use Rattle.bl_tokens.specs.Classes.{is_in}
use Rattle.bl_tokens.specs.Numerals.{numeral_below}
use Rattle.bl_syntax.specs.Reading.{is_moment}
use Rattle.bl_tokens.specs.Dates.{has_date_front, has_time_of_day, date_second_at, day_second_at}
use Rattle.bl_tokens.specs.Words.{keyword, sort_named, constant_named, constant_or_name, sort_or_other, keyword_or_other, name_token}
use Rattle.bl_tokens.specs.Tokens.{sized_lexeme, bad_lexeme, second_token, short_value, token_at_both, digits_of, integer_lexeme, negative_lexeme, time_lexeme, minus_lexeme, plus_lexeme, file_lexeme, parameter_lexeme, text_lexeme, has_first_byte, short_sign, sign_lexeme, other_lexeme, first_lexeme, word_lexeme, variable_lexeme, token_from}

-- a constant of a text
abbrev pub IsWritten : Term → Type 0
IsWritten (Prin name) = ⊥
IsWritten (File number) = Unit {0}
IsWritten (Perm permission) = Unit {0}
IsWritten (Time point) = IsInRange point
IsWritten (Text constant) = Unit {0}
IsWritten Ctime = Unit {0}
IsWritten (Param n) = Unit {0}
IsWritten (Bound n) = ⊥

abbrev pub IsLexed : Token → Type 0
IsLexed (Name name) = Unit {0}
IsLexed LongWord = Unit {0}
IsLexed (tokens.Variable name) = Unit {0}
IsLexed (Constant t) = IsWritten t
IsLexed BadDate = Unit {0}
IsLexed (SortName s) = Unit {0}
IsLexed (Keyword word) = Unit {0}
IsLexed (tokens.Sign sign) = Unit {0}
IsLexed End = Unit {0}
IsLexed Bad = Unit {0}

T-from_true : (b : Bool) → b ≡ true → T b
T-from_true true e = tt
T-from_true false e = absurd (false≢true e)

T-first : (a b : Bool) → (a && b) ≡ true → T a
T-first true b e = tt
T-first false b e = absurd (false≢true e)

moment_is : (second : ℤ) → is_moment second ≡ true → IsMoment second
moment_is (pos n) h = record { not_before = record { le = tt }; not_after = record { le = T-from_true _ h } }
moment_is (negsuc n) h = record { not_before = record { le = T-first _ _ h }; not_after = record { le = tt } }

second_by : (second : ℤ) (b : Bool) → is_moment second ≡ b → IsLexed (if b then Constant (Time (times.At second)) else BadDate)
second_by second true h = moment_is second h
second_by second false h = tt

second_lexed : (second : ℤ) → IsLexed (second_token second)
second_lexed second = second_by second (is_moment second) refl

if_lexed : (b : Bool) (l m : Lexeme) → IsLexed l.token → IsLexed m.token → IsLexed (if b then l else m).token
if_lexed true l m hl hm = hl
if_lexed false l m hl hm = hm

if_token : (b : Bool) (l m : Token) → IsLexed l → IsLexed m → IsLexed (if b then l else m)
if_token true l m hl hm = hl
if_token false l m hl hm = hm

abbrev on_option : {A : Type 0} → Lexeme → (A → Lexeme) → Option A → Lexeme
on_option l f None = l
on_option l f (Some a) = f a

abbrev sign_otherwise : Option Sign → ℕ → List ℕ → Lexeme
sign_otherwise None first others =
    if (first == 61) && has_first_byte 62 others then sized_lexeme (tokens.Sign Sign.Implies) 2 else if (first == 60) && has_first_byte 61 others then sized_lexeme (tokens.Sign Sign.UpTo) 2 else bad_lexeme
sign_otherwise (Some sign) first others = sized_lexeme (tokens.Sign sign) 1

integer_lexed : (digits : List ℕ) → IsLexed (integer_lexeme digits).token
integer_lexed digits = value (short_value digits)
  where
    value : (o : Option ℕ) → IsLexed (on_option bad_lexeme (λ n. sized_lexeme (second_token (pos n)) (length digits)) o).token
    value None = tt
    value (Some n) = second_lexed (pos n)

negative_lexed : (digits : List ℕ) → IsLexed (negative_lexeme digits).token
negative_lexed digits = value (short_value digits)
  where
    value : (o : Option ℕ) → IsLexed (on_option bad_lexeme (λ n. sized_lexeme (second_token (neg_ℤ (pos n))) (length digits + 1)) o).token
    value None = tt
    value (Some n) = second_lexed (neg_ℤ (pos n))

date_lexed : (o : Option ℤ) → IsLexed (elim o [ None ↦ BadDate | Some second ↦ second_token second ])
date_lexed None = tt
date_lexed (Some second) = second_lexed second

both_lexed : (date : Option ℤ) (time : Option ℕ) → IsLexed (token_at_both date time)
both_lexed None time = tt
both_lexed (Some date) None = tt
both_lexed (Some date) (Some time) = second_lexed (date +ℤ pos time)

time_lexed : (bytes : List ℕ) → IsLexed (time_lexeme bytes).token
time_lexed bytes =
    if_lexed (has_date_front bytes) _ _ (if_lexed (has_time_of_day bytes) _ _ (both_lexed (date_second_at bytes) (day_second_at bytes)) (date_lexed (date_second_at bytes))) (integer_lexed (digits_of bytes))

minus_lexed : (others : List ℕ) → IsLexed (minus_lexeme others).token
minus_lexed others = if_lexed (starts_with nat_eq others (codes "inf")) (sized_lexeme (Constant (Time times.NegInf)) 4) (negative_lexeme (digits_of others)) tt (negative_lexed (digits_of others))

plus_lexed : (others : List ℕ) → IsLexed (plus_lexeme others).token
plus_lexed others = if_lexed (starts_with nat_eq others (codes "inf")) (sized_lexeme (Constant (Time times.PosInf)) 4) bad_lexeme tt tt

file_lexed : (others : List ℕ) → IsLexed (file_lexeme others).token
file_lexed others = value (numeral_below (2 ^ 64) (digits_of others))
  where
    value : (o : Option ℕ) → IsLexed (on_option bad_lexeme (λ n. sized_lexeme (Constant (File (record { 0 = n }))) (length (digits_of others) + 1)) o).token
    value None = tt
    value (Some n) = tt

parameter_lexed : (others : List ℕ) → IsLexed (parameter_lexeme others).token
parameter_lexed others = value (numeral_below (2 ^ 32) (digits_of others))
  where
    value : (o : Option ℕ) → IsLexed (on_option bad_lexeme (λ n. sized_lexeme (Constant (Param n)) (length (digits_of others) + 1)) o).token
    value None = tt
    value (Some n) = tt

text_lexed : (others : List ℕ) → IsLexed (text_lexeme others).token
text_lexed others = if_lexed _ (sized_lexeme (Constant (Text (take (prefix_len (is_in classes.Text) others) others))) (prefix_len (is_in classes.Text) others + 2)) bad_lexeme tt tt

sign_lexed : (first : ℕ) (others : List ℕ) → IsLexed (sign_lexeme first others).token
sign_lexed first others = value (short_sign first)
  where
    value : (o : Option Sign) → IsLexed (sign_otherwise o first others).token
    value None = if_lexed ((first == 61) && has_first_byte 62 others) _ _ tt (if_lexed ((first == 60) && has_first_byte 61 others) _ _ tt tt)
    value (Some sign) = tt

begun_lexed : (first : ℕ) (others : List ℕ) → IsLexed (other_lexeme first others).token
begun_lexed first others =
    if_lexed (first == 45) _ _ (minus_lexed others) (if_lexed (first == 43) _ _ (plus_lexed others) (if_lexed (first == 35) _ _ (file_lexed others)
    (if_lexed (first == 63) _ _ (parameter_lexed others) (if_lexed (first == 34) _ _ (text_lexed others) (sign_lexed first others)))))

name_lexed : (word : List ℕ) → IsLexed (name_token word)
name_lexed word = if_token (is_principal_name word) (Name word) LongWord tt tt

IsWrittenIfSome : Option Term → Type 0
IsWrittenIfSome None = Unit {0}
IsWrittenIfSome (Some t) = IsWritten t

if_written : (b : Bool) (t : Term) (o : Option Term) → IsWritten t → IsWrittenIfSome o → IsWrittenIfSome (if b then Some t else o)
unfolding IsWrittenIfSome
if_written true t o h more = h
if_written false t o h more = more

constants_written : (word : List ℕ) → IsWrittenIfSome (constant_named word)
unfolding IsWrittenIfSome
constants_written word =
    if_written (bytes_eq word (codes "ctime")) _ _ tt (if_written (bytes_eq word (codes "read")) _ _ tt (if_written (bytes_eq word (codes "write")) _ _ tt
    (if_written (bytes_eq word (codes "execute")) _ _ tt (if_written (bytes_eq word (codes "identity")) _ _ tt (if_written (bytes_eq word (codes "govern")) _ _ tt tt)))))

constant_lexed : (word : List ℕ) (o : Option Term) → IsWrittenIfSome o → IsLexed (constant_or_name word o)
unfolding IsWrittenIfSome
constant_lexed word None h = name_lexed word
constant_lexed word (Some t) h = h

sort_lexed : (word : List ℕ) (o : Option Sort) → IsLexed (sort_or_other word o)
sort_lexed word None = constant_lexed word (constant_named word) (constants_written word)
sort_lexed word (Some s) = tt

keyword_lexed : (word : List ℕ) (o : Option Word) → IsLexed (keyword_or_other word o)
keyword_lexed word None = sort_lexed word (sort_named word)
keyword_lexed word (Some found) = tt

variable_lexed : (name : List ℕ) → IsLexed (if nat_le (length name) 32 then sized_lexeme (tokens.Variable name) (length name) else bad_lexeme).token
variable_lexed name = if_lexed (nat_le (length name) 32) _ _ tt tt

first_lexed : (bytes : List ℕ) → IsLexed (first_lexeme bytes).token
first_lexed [] = tt
first_lexed (first ∷ others) =
    if_lexed (is_lower_case first) (word_lexeme (first ∷ others)) _ (keyword_lexed (take_while (is_in classes.Name) (first ∷ others)) (keyword (take_while (is_in classes.Name) (first ∷ others))))
    (if_lexed (is_upper_case first) (variable_lexeme (first ∷ others)) _ (variable_lexed (take_while (is_in classes.Word) (first ∷ others)))
    (if_lexed (is_digit first) (time_lexeme (first ∷ others)) _ (time_lexed (first ∷ others)) (begun_lexed first others)))

pub token_lexed : (text : List ℕ) (from left : ℕ) → IsLexed (token_from text from left).token
unfolding token_from
token_lexed text from left = first_lexed (drop (from + prefix_len (is_in classes.Space) (drop from text)) text)
