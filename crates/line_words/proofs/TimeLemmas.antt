-- The text of a point in time is read as that point, and a point that was read is in range.
use Rattle.std.proofs.Common.{◌≡◌, ℕ, ◌+◌, List, [], length, Result, Ok, Err, refl, sym, ap, subst, ◌∙◌, append-nil, arith}
use Rattle.std.specs.Prelude.{drop}
use Rattle.std.proofs.Math.Seq.{drop-append_seam}
use Rattle.bl_syntax.specs.declared.terms.Term.TheVariants.{Prin, File, Perm, Time, Text, Ctime, Param, Bound}
use Rattle.bl_syntax.specs.declared.terms.TimePoint.{TimePoint}
use Rattle.bl_syntax.specs.TimeOrder.{IsInRange}
use Rattle.bl_tokens.specs.declared.faults.TextFault.{TextFault}
use Rattle.bl_tokens.specs.declared.tokens.Token.{Token}
use Rattle.bl_tokens.specs.declared.tokens.Token.TheVariants.{Name, LongWord, Constant, BadDate, SortName, Keyword, End, Bad}
use Rattle.bl_tokens.specs.declared.tokens.Token.TheVariants as tokens
use Rattle.bl_tokens.specs.declared.tokens.Cursor.{Cursor}
use Rattle.bl_tokens.specs.Tokens.{sized_lexeme, first_lexeme, token_from}
use Rattle.bl_tokens.specs.Times.{time_at, at_end, up_to_end, from_first, time_reading}
use Rattle.bl_text.specs.Printed.{time_text}
use Rattle.bl_text.proofs.LexedLemmas.{IsLexed, token_lexed}
use Rattle.bl_text.proofs.PlaceLemmas.{here_at, token_stands}
use Rattle.bl_text.proofs.PrintedTerms.{term_lexed}

abbrev pub read : TimePoint → Result TimePoint TextFault
read point = Ok point

pub same_read : (a b : TimePoint) → read a ≡ read b → a ≡ b
same_read a b e = cc

-- ---- what was read is in range

in_range : (at : ℕ) (t : Token) (point : TimePoint) → IsLexed t → time_at at t ≡ read point → IsInRange point
in_range at (Constant (Time p)) point lexed e = subst IsInRange (same_read p point e) lexed
in_range at (Constant (Prin name)) point lexed e = absurd cc
in_range at (Constant (File number)) point lexed e = absurd cc
in_range at (Constant (Perm permission)) point lexed e = absurd cc
in_range at (Constant (Text constant)) point lexed e = absurd cc
in_range at (Constant Ctime) point lexed e = absurd cc
in_range at (Constant (Param n)) point lexed e = absurd cc
in_range at (Constant (Bound n)) point lexed e = absurd cc
in_range at (Name name) point lexed e = absurd cc
in_range at LongWord point lexed e = absurd cc
in_range at (tokens.Variable name) point lexed e = absurd cc
in_range at BadDate point lexed e = absurd cc
in_range at (SortName sort) point lexed e = absurd cc
in_range at (Keyword word) point lexed e = absurd cc
in_range at (tokens.Sign sign) point lexed e = absurd cc
in_range at End point lexed e = absurd cc
in_range at Bad point lexed e = absurd cc

same_at_end : (at : ℕ) (t : Token) (p point : TimePoint) → at_end at t p ≡ read point → p ≡ point
same_at_end at End p point e = same_read p point e
same_at_end at (Constant t) p point e = absurd cc
same_at_end at (Name name) p point e = absurd cc
same_at_end at LongWord p point e = absurd cc
same_at_end at (tokens.Variable name) p point e = absurd cc
same_at_end at BadDate p point e = absurd cc
same_at_end at (SortName sort) p point e = absurd cc
same_at_end at (Keyword word) p point e = absurd cc
same_at_end at (tokens.Sign sign) p point e = absurd cc
same_at_end at Bad p point e = absurd cc

read_there : (text : List ℕ) (end : ℕ) (r : Result TimePoint TextFault) (point : TimePoint) → up_to_end text end r ≡ read point → r ≡ read point
read_there text end (Ok p) point e = ap read (same_at_end (token_from text end 0).at (token_from text end 0).token p point e)
read_there text end (Err fault) point e = absurd cc

pub time_in_range : (text : List ℕ) (point : TimePoint) → time_reading text ≡ read point → IsInRange point
time_in_range text point e =
    let first : Cursor = token_from text 0 0 in
    in_range first.at first.token point (token_lexed text 0 0) (read_there text first.end (time_at first.at first.token) point e)

-- ---- what is printed is read

first_read : (text : List ℕ) (point : TimePoint) → IsInRange point → text ≡ time_text point → token_from text 0 0 ≡ here_at 0 (Constant (Time point)) (length text) 0
first_read text point h is =
    let lexed : first_lexeme text ≡ sized_lexeme (Constant (Time point)) (length text) =
    ap first_lexeme (is ∙ sym (append-nil (time_text point))) ∙ term_lexed 0 (Time point) [] h tt tt ∙ ap (λ (bytes : List ℕ). sized_lexeme (Constant (Time point)) (length bytes)) (sym is) in
    token_stands 0 (record { is = refl }) lexed refl

drop_whole : (text : List ℕ) → ◌≡◌ {A = List ℕ} (drop (length text) text) []
drop_whole text = ap (drop (length text)) (sym (append-nil text)) ∙ drop-append_seam text []

from_nothing : (n : ℕ) → 0 + n ≡ n
from_nothing n = omega arith

end_read : (text : List ℕ) → token_from text (0 + length text) 0 ≡ here_at (length text) End 0 0
end_read text = ap (λ (n : ℕ). token_from text n 0) (from_nothing (length text)) ∙ token_stands 0 (record { is = drop_whole text }) refl refl

pub time_is_read : (point : TimePoint) → IsInRange point → time_reading (time_text point) ≡ read point
time_is_read point h =
    let text : List ℕ = time_text point in
    ap (from_first text) (first_read text point h refl) ∙ ap (λ (end : Cursor). at_end end.at end.token point) (end_read text)
