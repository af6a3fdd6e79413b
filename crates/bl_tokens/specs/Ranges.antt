-- The times that tokens are (this project's own).
use Rattle.bl_syntax.specs.Terms.{HasTimeInRange}
use Rattle.bl_tokens.specs.declared.tokens.Token.{Token}
use Rattle.bl_tokens.specs.declared.tokens.Token.TheVariants.{Constant}

-- a time that the token is lies in the range of moments
abbrev pub IsTokenInRange : Token → Type 0
IsTokenInRange (Constant t) = HasTimeInRange t
IsTokenInRange _ = Unit {0}
