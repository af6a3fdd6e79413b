-- The tokens that printed terms are (this project's own).
use Rattle.std.specs.Prelude.{◌≡◌, ◌<◌, ◌≤◌, ℕ, ◌-◌, List, [], ◌∷◌, ◌++◌, codes, false, ◌==◌}
use Rattle.std.specs.Fmt.{decimal}
use Rattle.bl_syntax.specs.declared.limits.TheConstants.{MOST_FORMULA_NODES}
use Rattle.bl_syntax.specs.declared.terms.Term.{Term}
use Rattle.bl_syntax.specs.declared.terms.Term.TheVariants.{Prin, File, Perm, Time, Text, Ctime, Param, Bound}
use Rattle.bl_tokens.specs.declared.tokens.Token.{Token}
use Rattle.bl_tokens.specs.declared.tokens.Token.TheVariants as tokens
use Rattle.bl_tokens.specs.Classes.{is_word_byte}

-- what follows a word or a number goes on with neither: the end of the text, or a byte that is no
-- letter, digit, `_` or `-`
abbrev pub EndsRun : List ℕ → Type 0
EndsRun [] = Unit {0}
EndsRun (byte ∷ more) = (is_word_byte byte ≡ false) × ((byte == 45) ≡ false)

-- the token that the term is written as, within so many binders
abbrev pub term_token : ℕ → Term → Token
term_token depth (Prin name) = tokens.Name name
term_token depth (File number) = tokens.Constant (File number)
term_token depth (Perm permission) = tokens.Constant (Perm permission)
term_token depth (Time point) = tokens.Constant (Time point)
term_token depth (Text constant) = tokens.Constant (Text constant)
term_token depth Ctime = tokens.Constant Ctime
term_token depth (Param n) = tokens.Constant (Param n)
term_token depth (Bound n) = tokens.Variable (codes "X" ++ decimal (depth - n - 1))

-- a variable names one of so many binders, of which a formula has at most 512
abbrev pub IsInDepth : ℕ → Term → Type 0
IsInDepth depth (Prin name) = Unit {0}
IsInDepth depth (File number) = Unit {0}
IsInDepth depth (Perm permission) = Unit {0}
IsInDepth depth (Time point) = Unit {0}
IsInDepth depth (Text constant) = Unit {0}
IsInDepth depth Ctime = Unit {0}
IsInDepth depth (Param n) = Unit {0}
IsInDepth depth (Bound n) = (n < depth) × (depth ≤ MOST_FORMULA_NODES)
