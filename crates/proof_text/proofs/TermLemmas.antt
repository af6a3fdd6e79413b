-- The tokens of terms as they are written before a comma.
use Rattle.std.proofs.Common.{◌≡◌, ℕ, false, List, ◌∷◌, ◌++◌, length, refl, ap, ◌∙◌}
use Rattle.std.specs.List.{prefix_len}
use Rattle.bl_syntax.specs.declared.terms.Term.{Term}
use Rattle.bl_syntax.specs.declared.terms.Term.TheVariants as terms
use Rattle.bl_syntax.specs.Spelling.{IsSpellable}
use Rattle.bl_tokens.specs.declared.classes.Class.TheVariants as classes
use Rattle.bl_tokens.specs.declared.tokens.Token.{Token}
use Rattle.bl_tokens.specs.declared.tokens.Token.TheVariants as tokens
use Rattle.bl_tokens.specs.Classes.{is_in}
use Rattle.bl_tokens.specs.Tokens.{first_lexeme, sized_lexeme}
use Rattle.bl_text.specs.Printed.{term_text}
use Rattle.bl_text.specs.PrintedTokens.{term_token, IsInDepth}
use Rattle.bl_text.proofs.PlaceLemmas.{is_bad, no_space}
use Rattle.bl_text.proofs.PrintedTerms.{term_lexed}
use Rattle.proof_text.specs.RoundTrip.{IsClosedTerm}

abbrev pub token_of : Term → Token
token_of (terms.Prin name) = tokens.Name name
token_of t = tokens.Constant t

-- what is said of the token of a term that is no variable
record IsToken (t : Term) : Type 0 where
  pub inside : IsInDepth 0 t
  pub same : term_token 0 t ≡ token_of t
  pub good : is_bad (token_of t) ≡ false

token_is : (t : Term) → IsClosedTerm t → IsToken t
token_is (terms.Prin name) closed = record { inside = tt; same = refl; good = refl }
token_is (terms.File number) closed = record { inside = tt; same = refl; good = refl }
token_is (terms.Perm permission) closed = record { inside = tt; same = refl; good = refl }
token_is (terms.Time point) closed = record { inside = tt; same = refl; good = refl }
token_is (terms.Text constant) closed = record { inside = tt; same = refl; good = refl }
token_is terms.Ctime closed = record { inside = tt; same = refl; good = refl }
token_is (terms.Param n) closed = record { inside = tt; same = refl; good = refl }
token_is (terms.Bound n) closed = absurd closed

-- a term before a comma
pub term_lexeme : (t : Term) (ys : List ℕ) → IsSpellable t → IsClosedTerm t → first_lexeme (term_text 0 t ++ 44 ∷ ys) ≡ sized_lexeme (token_of t) (length (term_text 0 t))
term_lexeme t ys spelled closed =
    let token = token_is t closed in term_lexed 0 t (44 ∷ ys) spelled token.inside (refl, refl) ∙ ap (λ t'. sized_lexeme t' (length (term_text 0 t))) token.same

-- no space stands before it
pub term_unspaced : (t : Term) (ys : List ℕ) → IsSpellable t → IsClosedTerm t → prefix_len (is_in classes.Space) (term_text 0 t ++ 44 ∷ ys) ≡ 0
term_unspaced t ys spelled closed = no_space (term_text 0 t ++ 44 ∷ ys) (token_of t) (length (term_text 0 t)) (term_lexeme t ys spelled closed) (token_is t closed).good
