-- The times that are read lie in the range of moments.
use Rattle.std.proofs.Common.{◌≡◌, ℕ, [], subst, Result, Ok, Err}
use Rattle.bl_syntax.specs.declared.terms.Term.{Term}
use Rattle.bl_syntax.specs.Terms.{HasTimeInRange}
use Rattle.bl_tokens.specs.declared.faults.TextFault.{TextFault}
use Rattle.bl_tokens.specs.declared.tokens.Token.{Token}
use Rattle.bl_tokens.specs.declared.tokens.Token.TheVariants.{Name, LongWord, Variable, Constant, BadDate, SortName, Keyword, Sign, End, Bad}
use Rattle.bl_tokens.specs.declared.tokens.Cursor.{Cursor}
use Rattle.bl_tokens.specs.Ranges.{IsTokenInRange}
use Rattle.bl_text.specs.Pieces.{term_of}

abbrev TermReading : Type 0
TermReading = Result Term TextFault

term_ok : (t u : Term) → ◌≡◌ {A = TermReading} (Ok t) (Ok u) → t ≡ u
term_ok t u h = cc

never_ok : {A : Type 0} (e : TextFault) (u : Term) → ◌≡◌ {A = TermReading} (Err e) (Ok u) → A
never_ok e u h = absurd (cc)

token_term_fits : (at : ℕ) (token : Token) (end left : ℕ) (t : Term) → IsTokenInRange token → term_of [] (record { at = at; token = token; end = end; left = left }) ≡ Ok t → HasTimeInRange t
unfolding term_of
token_term_fits at (Name name) end left t fits h = subst HasTimeInRange (term_ok _ t h) tt
token_term_fits at (Constant u) end left t fits h = subst HasTimeInRange (term_ok u t h) fits
token_term_fits at LongWord end left t fits h = never_ok _ t h
token_term_fits at (Variable name) end left t fits h = never_ok _ t h
token_term_fits at BadDate end left t fits h = never_ok _ t h
token_term_fits at (SortName s) end left t fits h = never_ok _ t h
token_term_fits at (Keyword word) end left t fits h = never_ok _ t h
token_term_fits at (Sign sign) end left t fits h = never_ok _ t h
token_term_fits at End end left t fits h = never_ok _ t h
token_term_fits at Bad end left t fits h = never_ok _ t h

-- a term that a token in the range is lies in the range
pub term_fits : (here : Cursor) (t : Term) → IsTokenInRange here.token → term_of [] here ≡ Ok t → HasTimeInRange t
term_fits here t fits h = token_term_fits here.at here.token here.end here.left t fits h
