-- The grammar of formulas and statements over lists of tokens (this project's own). It asks for no
-- sorts and no number of arguments, and has no limits: of these a text's fault may speak
-- where the tokens before it can still be completed to a sentence.
use Rattle.std.specs.Prelude.{◌≡◌, ℕ, zero, suc, List, [], ◌∷◌, ◌++◌, true, IsSome}
use Rattle.bl_syntax.specs.declared.terms.Sort.{Sort}
use Rattle.bl_syntax.specs.declared.terms.Term.{Term}
use Rattle.bl_syntax.specs.declared.terms.Term.TheVariants.{Time}
use Rattle.bl_syntax.specs.declared.terms.TimePoint.{TimePoint}
use Rattle.bl_tokens.specs.declared.tokens.Sign.{Sign}
use Rattle.bl_tokens.specs.declared.tokens.Sign.TheVariants as signs
use Rattle.bl_tokens.specs.declared.tokens.Keyword.TheVariants as keywords
use Rattle.bl_tokens.specs.declared.tokens.Token.{Token}
use Rattle.bl_tokens.specs.declared.tokens.Token.TheVariants as tokens
use Rattle.bl_tokens.specs.Tokens.{token_from, is_sign, is_word}
use Rattle.bl_text.specs.Scope.{Variable, place_of}
use Rattle.bl_text.specs.Grammar.{Level, formula, disjunction, conjunction, unary, postfix, primary, is_quantifier}
use Rattle.bl_text.specs.FirstTokens.{token_number}
use Rattle.bl_text.specs.Texts.{is_end}

-- the token is this sign
abbrev pub IsSign : Sign → Token → Type 0
IsSign sign token = is_sign sign token ≡ true

-- a term: a principal, a constant or a variable of a binder
pub data IsTerm (scope : List Variable) : Token → Type 0 where
  principal : (name : List ℕ) → IsTerm scope (tokens.Name name)
  constant : (t : Term) → IsTerm scope (tokens.Constant t)
  variable : (name : List ℕ) → IsSome (place_of scope name) → IsTerm scope (tokens.Variable name)

-- who says something: a principal or a variable of a binder
pub data IsSpeaker (scope : List Variable) : Token → Type 0 where
  named : (name : List ℕ) → IsSpeaker scope (tokens.Name name)
  bound : (name : List ℕ) → IsSome (place_of scope name) → IsSpeaker scope (tokens.Variable name)

-- terms between commas
pub data AreTerms (scope : List Variable) : List Token → Type 0 where
  one_term : (t : Token) → IsTerm scope t → AreTerms scope (t ∷ [])
  further_term : (ts : List Token) (comma t : Token) → AreTerms scope ts → IsSign signs.Comma comma
      → IsTerm scope t → AreTerms scope (ts ++ comma ∷ t ∷ [])

-- a sentence of a level of the grammar, within these variables
pub data FormulaSentence : Level → List Variable → List Token → Type 0 where
  quantified : (scope : List Variable) (word colon dot : Token) (name : List ℕ) (s : Sort) (ts : List Token)
      → is_quantifier word ≡ true → IsSign signs.Colon colon → IsSign signs.Dot dot
      → FormulaSentence formula ((name, s) ∷ scope) ts → FormulaSentence formula scope (word ∷ tokens.Variable name ∷ colon ∷ tokens.SortName s ∷ dot ∷ ts)
  implication : (scope : List Variable) (ts us : List Token) (sign : Token)
      → FormulaSentence disjunction scope ts → IsSign signs.Implies sign
      → FormulaSentence formula scope us → FormulaSentence formula scope (ts ++ sign ∷ us)
  one_disjunction : (scope : List Variable) (ts : List Token) → FormulaSentence disjunction scope ts
      → FormulaSentence formula scope ts
  or_further : (scope : List Variable) (ts us : List Token) (sign : Token)
      → FormulaSentence disjunction scope ts → IsSign signs.Or sign
      → FormulaSentence conjunction scope us → FormulaSentence disjunction scope (ts ++ sign ∷ us)
  one_conjunction : (scope : List Variable) (ts : List Token) → FormulaSentence conjunction scope ts
      → FormulaSentence disjunction scope ts
  and_further : (scope : List Variable) (ts us : List Token) (sign : Token)
      → FormulaSentence conjunction scope ts → IsSign signs.And sign
      → FormulaSentence unary scope us → FormulaSentence conjunction scope (ts ++ sign ∷ us)
  one_unary : (scope : List Variable) (ts : List Token) → FormulaSentence unary scope ts
      → FormulaSentence conjunction scope ts
  saying : (scope : List Variable) (who word : Token) (ts : List Token) → IsSpeaker scope who
      → is_word keywords.Says word ≡ true → FormulaSentence unary scope ts
      → FormulaSentence unary scope (who ∷ word ∷ ts)
  one_postfix : (scope : List Variable) (ts : List Token) → FormulaSentence postfix scope ts
      → FormulaSentence unary scope ts
  on_interval : (scope : List Variable) (ts : List Token) (sign open_ from comma to close : Token)
      → FormulaSentence postfix scope ts → IsSign signs.At sign → IsSign signs.OpenInterval open_
      → IsTerm scope from
      → IsSign signs.Comma comma → IsTerm scope to → IsSign signs.CloseInterval close
      → FormulaSentence postfix scope (ts ++ sign ∷ open_ ∷ from ∷ comma ∷ to ∷ close ∷ [])
  one_primary : (scope : List Variable) (ts : List Token) → FormulaSentence primary scope ts
      → FormulaSentence postfix scope ts
  group : (scope : List Variable) (open_ close : Token) (ts : List Token) → IsSign signs.Open open_
      → FormulaSentence formula scope ts → IsSign signs.Close close
      → FormulaSentence primary scope (open_ ∷ (ts ++ close ∷ []))
  called : (scope : List Variable) (name : List ℕ) (open_ close : Token) (ts : List Token)
      → IsSign signs.Open open_ → AreTerms scope ts → IsSign signs.Close close
      → FormulaSentence primary scope (tokens.Name name ∷ open_ ∷ (ts ++ close ∷ []))
  alone : (scope : List Variable) (name : List ℕ)
      → FormulaSentence primary scope (tokens.Name name ∷ [])
  compared : (scope : List Variable) (low sign high : Token) → IsTerm scope low
      → IsSign signs.UpTo sign → IsTerm scope high
      → FormulaSentence primary scope (low ∷ sign ∷ high ∷ [])
  truth : (scope : List Variable)
      → FormulaSentence primary scope (tokens.Keyword keywords.True ∷ [])
  falsity : (scope : List Variable)
      → FormulaSentence primary scope (tokens.Keyword keywords.False ∷ [])

-- a sentence of the grammar of formulas
abbrev pub IsSentence : List Token → Type 0
IsSentence ts = FormulaSentence formula [] ts

-- a sentence of the grammar of statements
pub data IsStatementSentence : List Token → Type 0 where
  statement : (who : List ℕ) (says from_word to_word : Token) (ts : List Token) (from to : TimePoint)
      → is_word keywords.Says says ≡ true → FormulaSentence formula [] ts
      → is_word keywords.From from_word ≡ true
      → is_word keywords.To to_word ≡ true
      → IsStatementSentence (tokens.Name who ∷ says ∷ (ts ++ from_word ∷ tokens.Constant (Time from) ∷ to_word ∷ tokens.Constant (Time to) ∷ []))

-- the first tokens from that byte of the text on
abbrev pub first_tokens : List ℕ → ℕ → ℕ → List Token
first_tokens text zero from = []
first_tokens text (suc n) from = (token_from text from 0).token ∷ first_tokens text n (token_from text from 0).end

-- the whole text has the tokens of a sentence
pub record IsSentenceText (IsOne : List Token → Type 0) (text : List ℕ) : Type 0 where
  pub number : ℕ
  pub sentence : IsOne (first_tokens text number 0)
  pub end : is_end (token_number text number).token ≡ true
