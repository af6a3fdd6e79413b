-- The words of a text: those that are reserved, and names (this project's own).
use Rattle.std.specs.Prelude.{ℕ, List, codes, Option, Some, None, if◌then◌else◌}
use Rattle.std.specs.Str.{bytes_eq}
use Rattle.bl_syntax.specs.declared.terms.Sort.{Sort}
use Rattle.bl_syntax.specs.declared.terms.Sort.TheVariants as sorts
use Rattle.bl_syntax.specs.declared.terms.Term.{Term}
use Rattle.bl_syntax.specs.declared.terms.Term.TheVariants as terms
use Rattle.bl_syntax.specs.declared.terms.Perm.TheVariants.{Read, Write, Execute, Identity, Govern}
use Rattle.bl_syntax.specs.Names.{is_principal_name}
use Rattle.bl_tokens.specs.declared.tokens.Keyword.{Keyword}
use Rattle.bl_tokens.specs.declared.tokens.Keyword.TheVariants as keywords
use Rattle.bl_tokens.specs.declared.tokens.Token.{Token}
use Rattle.bl_tokens.specs.declared.tokens.Token.TheVariants as tokens

-- the words of the grammar
abbrev pub keyword : List ℕ → Option Keyword
keyword word =
    if bytes_eq word (codes "forall") then Some keywords.Forall else
    if bytes_eq word (codes "exists") then Some keywords.Exists else
    if bytes_eq word (codes "says") then Some keywords.Says else
    if bytes_eq word (codes "from") then Some keywords.From else
    if bytes_eq word (codes "to") then Some keywords.To else
    if bytes_eq word (codes "true") then Some keywords.True else
    if bytes_eq word (codes "false") then Some keywords.False else
    if bytes_eq word (codes "inf") then Some keywords.Inf else
    None

-- the sorts
abbrev pub sort_named : List ℕ → Option Sort
sort_named word =
    if bytes_eq word (codes "principal") then Some sorts.Principal else
    if bytes_eq word (codes "file") then Some sorts.File else
    if bytes_eq word (codes "perm") then Some sorts.Perm else
    if bytes_eq word (codes "time") then Some sorts.Time else
    if bytes_eq word (codes "text") then Some sorts.Text else
    None

-- the words that are terms
abbrev pub constant_named : List ℕ → Option Term
constant_named word =
    if bytes_eq word (codes "ctime") then Some terms.Ctime else
    if bytes_eq word (codes "read") then Some (terms.Perm Read) else
    if bytes_eq word (codes "write") then Some (terms.Perm Write) else
    if bytes_eq word (codes "execute") then Some (terms.Perm Execute) else
    if bytes_eq word (codes "identity") then Some (terms.Perm Identity) else
    if bytes_eq word (codes "govern") then Some (terms.Perm Govern) else
    None

-- what is left is a name, or too long for one
abbrev pub name_token : List ℕ → Token
name_token word = if is_principal_name word then tokens.Name word else tokens.LongWord

abbrev pub constant_or_name : List ℕ → Option Term → Token
constant_or_name word None = name_token word
constant_or_name word (Some constant) = tokens.Constant constant

abbrev pub sort_or_other : List ℕ → Option Sort → Token
sort_or_other word None = constant_or_name word (constant_named word)
sort_or_other word (Some sort) = tokens.SortName sort

abbrev pub keyword_or_other : List ℕ → Option Keyword → Token
keyword_or_other word None = sort_or_other word (sort_named word)
keyword_or_other word (Some found) = tokens.Keyword found

-- the token that a run of lower-case letters, digits and `_` is
abbrev pub word_token : List ℕ → Token
word_token word = keyword_or_other word (keyword word)
