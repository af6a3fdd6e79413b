-- The text of a term is one token, and that token is the term.
use Rattle.std.proofs.Common.{◌≡◌, ℕ, ℤ, suc, ◌+◌, ◌-◌, Bool, true, false, List, [], ◌∷◌, ◌++◌, length, append_assoc, refl, ap, ◌∙◌, arith}
use Rattle.std.specs.Prelude.{T, ◌<◌, ◌^◌, pos, negsuc, codes, nat_le, ◌&&◌, if◌then◌else◌}
use Rattle.std.specs.Fmt.{decimal}
use Rattle.std.proofs.lemmas.Bool.{false≢true}
use Rattle.std.proofs.lemmas.Bool.Decides.{nat_tests}
use Rattle.bl_syntax.specs.declared.terms.Term.{Term}
use Rattle.bl_syntax.specs.declared.terms.Term.TheVariants.{Prin, File, Perm, Time, Text, Ctime, Param, Bound}
use Rattle.bl_syntax.specs.declared.terms.Perm.{Perm as Permission}
use Rattle.bl_syntax.specs.declared.terms.Perm.TheVariants as permissions
use Rattle.bl_syntax.specs.declared.terms.TimePoint.{TimePoint}
use Rattle.bl_syntax.specs.declared.terms.TimePoint.TheVariants as times
use Rattle.bl_syntax.specs.TimeOrder.{IsMoment, IsInRange}
use Rattle.bl_syntax.specs.Spelling.{IsSpellable}
use Rattle.bl_tokens.specs.declared.tokens.Token.{Token}
use Rattle.bl_tokens.specs.declared.tokens.Token.TheVariants as tokens
use Rattle.bl_syntax.specs.Reading.{is_moment}
use Rattle.bl_tokens.specs.Tokens.{sized_lexeme, second_token, first_lexeme}
use Rattle.bl_text.specs.Printed.{time_text, permission_text, term_text}
use Rattle.bl_text.specs.PrintedTokens.{EndsRun, term_token, IsInDepth}
use Rattle.bl_text.proofs.WordLemmas.{word_lexed, name_lexed, file_lexed, parameter_lexed, variable_lexed, second_lexed, negative_lexed, text_lexed}

same_size : (t : Token) (m n : ℕ) → m ≡ n → sized_lexeme t m ≡ sized_lexeme t n
same_size t m n h = ap (sized_lexeme t) h

true-from_T : (b : Bool) → T b → b ≡ true
true-from_T true t = refl
true-from_T false t = absurd t

and-true : (b : Bool) → T b → (b && true) ≡ true
and-true true t = refl
and-true false t = absurd t

moment_true : (second : ℤ) → IsMoment second → is_moment second ≡ true
moment_true (pos n) h = true-from_T _ h.not_after.le
moment_true (negsuc n) h = and-true _ h.not_before.le

moment_token : (second : ℤ) → IsMoment second → second_token second ≡ tokens.Constant (Time (times.At second))
moment_token second h = chosen (is_moment second) (moment_true second h)
  where
    chosen : (b : Bool) → b ≡ true → (if b then tokens.Constant (Time (times.At second)) else tokens.BadDate) ≡ tokens.Constant (Time (times.At second))
    chosen true is = refl
    chosen false is = absurd (false≢true is)

few_seconds : (n m : ℕ) → nat_le n m ≡ true → m < 10 ^ 18 → n < 10 ^ 18
few_seconds n m h small = grind (arith, nat_tests)

time_lexed : (point : TimePoint) (rest : List ℕ) → IsInRange point → EndsRun rest → first_lexeme (time_text point ++ rest) ≡ sized_lexeme (tokens.Constant (Time point)) (length (time_text point))
time_lexed times.NegInf rest h ends = refl
time_lexed times.PosInf rest h ends = refl
time_lexed (times.At (pos n)) rest h ends =
    second_lexed n rest (few_seconds n 253402300799 (true-from_T _ h.not_after.le) (omega arith)) ends ∙ ap (λ t. sized_lexeme t (length (decimal n))) (moment_token (pos n) h)
time_lexed (times.At (negsuc n)) rest h ends =
    let few : n < 62135596800 = (let le = true-from_T _ h.not_before.le in grind (arith, nat_tests)) in
    negative_lexed (suc n) rest (omega arith) ends ∙ ap (λ t. sized_lexeme t (length (decimal (suc n)) + 1)) (moment_token (negsuc n) h) ∙ same_size _ _ _ (omega arith)

permission_lexed : (permission : Permission) (rest : List ℕ) → EndsRun rest → first_lexeme (permission_text permission ++ rest) ≡ sized_lexeme (tokens.Constant (Perm permission)) (length (permission_text permission))
permission_lexed permissions.Read rest ends = word_lexed 114 (101 ∷ 97 ∷ 100 ∷ []) rest refl refl ends
permission_lexed permissions.Write rest ends = word_lexed 119 (114 ∷ 105 ∷ 116 ∷ 101 ∷ []) rest refl refl ends
permission_lexed permissions.Execute rest ends = word_lexed 101 (120 ∷ 101 ∷ 99 ∷ 117 ∷ 116 ∷ 101 ∷ []) rest refl refl ends
permission_lexed permissions.Identity rest ends = word_lexed 105 (100 ∷ 101 ∷ 110 ∷ 116 ∷ 105 ∷ 116 ∷ 121 ∷ []) rest refl refl ends
permission_lexed permissions.Govern rest ends = word_lexed 103 (111 ∷ 118 ∷ 101 ∷ 114 ∷ 110 ∷ []) rest refl refl ends

pub term_lexed : (depth : ℕ) (t : Term) (rest : List ℕ) → IsSpellable t → IsInDepth depth t → EndsRun rest → first_lexeme (term_text depth t ++ rest) ≡ sized_lexeme (term_token depth t) (length (term_text depth t))
term_lexed depth (Prin name) rest h inside ends = name_lexed name rest h ends
term_lexed depth (File number) rest h inside ends = file_lexed number.0 rest h ends ∙ same_size _ _ _ (omega arith)
term_lexed depth (Perm permission) rest h inside ends = permission_lexed permission rest ends
term_lexed depth (Time point) rest h inside ends = time_lexed point rest h ends
term_lexed depth (Text constant) rest h inside ends =
    ap first_lexeme (append_assoc (codes "\"") (constant ++ codes "\"") rest ∙ ap (λ bs. 34 ∷ bs) (append_assoc constant (codes "\"") rest)) ∙ text_lexed constant rest h ∙ same_size _ _ _ (text_length constant)
  where
    text_length : (bytes : List ℕ) → length bytes + 2 ≡ length (codes "\"" ++ (bytes ++ codes "\""))
    text_length [] = refl
    text_length (b ∷ bs) = let more = text_length bs in omega arith
term_lexed depth Ctime rest h inside ends = word_lexed 99 (116 ∷ 105 ∷ 109 ∷ 101 ∷ []) rest refl refl ends
term_lexed depth (Param n) rest h inside ends = parameter_lexed n rest h ends ∙ same_size _ _ _ (omega arith)
term_lexed depth (Bound n) rest h inside ends = variable_lexed (depth - n - 1) rest (let few = inside in omega arith) ends
