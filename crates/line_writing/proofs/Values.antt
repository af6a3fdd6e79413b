-- The value that a word of each kind writes, the word that is written for it, and where it is put.
use Rattle.std.specs.Prelude.{◌≡◌, ℕ, ℤ, List, [], ◌∷◌, ◌++◌, codes, Option, Some, refl}
use Rattle.std.specs.Fmt.{decimal, signed_decimal}
use Rattle.bl_syntax.specs.declared.terms.NodeId.{NodeId}
use Rattle.bl_syntax.specs.declared.terms.Perm.{Perm}
use Rattle.bl_text.specs.Printed.{permission_text}
use Rattle.line_text.specs.HexWord.{hex_word}
use Rattle.procap.specs.declared.procap.Procap.{Procap as Sealed}
use Rattle.procap.specs.Procap.{procap_spelling}
use Rattle.line_words.specs.Cited.{IsCited}
use Rattle.line_words.specs.Grammar.{IsName, IsPrincipal, IsData, IsQuoted, IsPermission, IsSigned, IsSignatureHex}
use Rattle.line_words.specs.Kinds.{Sets}
use Rattle.line_words.specs.Numbers.{IsSecond, IsNumber, IsLongNumber, IsCount, IsFile, IsIssue}
use Rattle.line_words.specs.Procaps.{IsProcapHex, IsProcapWord}
use Rattle.line_words.specs.declared.arguments.Arguments.{Arguments}
use Rattle.line_words.specs.declared.kinds.WordKind.{WordKind}
use Rattle.line_words.specs.declared.kinds.WordKind.TheVariants as kinds
use Rattle.line_words.specs.declared.procap_word.ProcapWord.{ProcapWord}
use Rattle.line_words.specs.declared.procap_word.ProcapWord.TheVariants as words
use Rattle.line_writing.specs.WordTexts.{cited_text, signature_text, procap_text}

-- ---- one word

abbrev pub Value : WordKind → Type 0
Value kinds.Node = NodeId
Value kinds.Target = NodeId
Value kinds.Name = List ℕ
Value kinds.NewName = List ℕ
Value kinds.Offset = ℕ
Value kinds.Len = ℕ
Value kinds.Most = ℕ
Value kinds.Data = List ℕ
Value kinds.Value = List ℕ
Value kinds.Who = List ℕ
Value kinds.Permission = Perm
Value kinds.Second = ℤ
Value kinds.Issue = ℕ
Value kinds.Number = ℕ
Value kinds.Cited = List ℕ
Value kinds.Signature = Option (List ℕ)
Value kinds.Procap = ProcapWord
Value kinds.SignatureHex = List ℕ
Value kinds.ProcapHex = Sealed

abbrev pub put : (kind : WordKind) → Value kind → Arguments → Arguments
put kinds.Node v a = record a { node = v }
put kinds.Target v a = record a { target = v }
put kinds.Name v a = record a { name = v }
put kinds.NewName v a = record a { new_name = v }
put kinds.Offset v a = record a { offset = v }
put kinds.Len v a = record a { len = v }
put kinds.Most v a = record a { len = v }
put kinds.Data v a = record a { bytes = v }
put kinds.Value v a = record a { value = v }
put kinds.Who v a = record a { who = v }
put kinds.Permission v a = record a { perm = v }
put kinds.Second v a = record a { second = v }
put kinds.Issue v a = record a { issue = v }
put kinds.Number v a = record a { number = v }
put kinds.Cited v a = record a { cited = v }
put kinds.Signature v a = record a { signature = v }
put kinds.Procap v a = record a { procaps = a.procaps ++ v ∷ [] }
put kinds.SignatureHex v a = record a { signature = Some v }
put kinds.ProcapHex v a = record a { procaps = a.procaps ++ words.Procap v ∷ [] }

-- the word is of the kind, and writes the value
abbrev pub Writes : (kind : WordKind) → List ℕ → Value kind → Type 0
Writes kinds.Node word v = IsFile word v
Writes kinds.Target word v = IsFile word v
Writes kinds.Name word v = IsName word v
Writes kinds.NewName word v = IsName word v
Writes kinds.Offset word v = IsLongNumber word v
Writes kinds.Len word v = IsLongNumber word v
Writes kinds.Most word v = IsCount word v
Writes kinds.Data word v = IsData word v
Writes kinds.Value word v = IsQuoted word v
Writes kinds.Who word v = IsPrincipal word v
Writes kinds.Permission word v = IsPermission word v
Writes kinds.Second word v = IsSecond word v
Writes kinds.Issue word v = IsIssue word v
Writes kinds.Number word v = IsNumber word v
Writes kinds.Cited word v = IsCited word v
Writes kinds.Signature word v = IsSigned word v
Writes kinds.Procap word v = IsProcapWord word v
Writes kinds.SignatureHex word v = IsSignatureHex word v
Writes kinds.ProcapHex word v = IsProcapHex word v

-- the word that is written for the value
abbrev pub word_of : (kind : WordKind) → Value kind → List ℕ
word_of kinds.Node v = codes "#" ++ decimal v.0
word_of kinds.Target v = codes "#" ++ decimal v.0
word_of kinds.Name v = v
word_of kinds.NewName v = v
word_of kinds.Offset v = decimal v
word_of kinds.Len v = decimal v
word_of kinds.Most v = decimal v
word_of kinds.Data v = hex_word v
word_of kinds.Value v = 34 ∷ (v ++ 34 ∷ [])
word_of kinds.Who v = v
word_of kinds.Permission v = permission_text v
word_of kinds.Second v = signed_decimal v
word_of kinds.Issue v = decimal v
word_of kinds.Number v = decimal v
word_of kinds.Cited v = cited_text v
word_of kinds.Signature v = signature_text v
word_of kinds.Procap v = procap_text v
word_of kinds.SignatureHex v = hex_word v
word_of kinds.ProcapHex v = hex_word (procap_spelling v)

pub from_sets : (kind : WordKind) (word : List ℕ) (before after : Arguments) → Sets kind word before after → (v : Value kind) × Writes kind word v × (after ≡ put kind v before)
from_sets kinds.Node word before after h = (after.node, h.0, h.1)
from_sets kinds.Target word before after h = (after.target, h.0, h.1)
from_sets kinds.Name word before after h = (after.name, h.0, h.1)
from_sets kinds.NewName word before after h = (after.new_name, h.0, h.1)
from_sets kinds.Offset word before after h = (after.offset, h.0, h.1)
from_sets kinds.Len word before after h = (after.len, h.0, h.1)
from_sets kinds.Most word before after h = (after.len, h.0, h.1)
from_sets kinds.Data word before after h = (after.bytes, h.0, h.1)
from_sets kinds.Value word before after h = (after.value, h.0, h.1)
from_sets kinds.Who word before after h = (after.who, h.0, h.1)
from_sets kinds.Permission word before after h = (after.perm, h.0, h.1)
from_sets kinds.Second word before after h = (after.second, h.0, h.1)
from_sets kinds.Issue word before after h = (after.issue, h.0, h.1)
from_sets kinds.Number word before after h = (after.number, h.0, h.1)
from_sets kinds.Cited word before after h = (after.cited, h.0, h.1)
from_sets kinds.Signature word before after h = (after.signature, h.0, h.1)
from_sets kinds.Procap word before after h = h
from_sets kinds.SignatureHex word before after h = h
from_sets kinds.ProcapHex word before after h = h

pub to_sets : (kind : WordKind) (word : List ℕ) (v : Value kind) (before : Arguments) → Writes kind word v → Sets kind word before (put kind v before)
to_sets kinds.Node word v before h = (h, refl)
to_sets kinds.Target word v before h = (h, refl)
to_sets kinds.Name word v before h = (h, refl)
to_sets kinds.NewName word v before h = (h, refl)
to_sets kinds.Offset word v before h = (h, refl)
to_sets kinds.Len word v before h = (h, refl)
to_sets kinds.Most word v before h = (h, refl)
to_sets kinds.Data word v before h = (h, refl)
to_sets kinds.Value word v before h = (h, refl)
to_sets kinds.Who word v before h = (h, refl)
to_sets kinds.Permission word v before h = (h, refl)
to_sets kinds.Second word v before h = (h, refl)
to_sets kinds.Issue word v before h = (h, refl)
to_sets kinds.Number word v before h = (h, refl)
to_sets kinds.Cited word v before h = (h, refl)
to_sets kinds.Signature word v before h = (h, refl)
to_sets kinds.Procap word v before h = (v, h, refl)
to_sets kinds.SignatureHex word v before h = (v, h, refl)
to_sets kinds.ProcapHex word v before h = (v, h, refl)

-- ---- the words of a line

abbrev pub Values : List WordKind → Type 0
Values [] = Unit {0}
Values (kind ∷ kinds) = Value kind × Values kinds

abbrev pub puts : (kinds : List WordKind) → Values kinds → Arguments → Arguments
puts [] vs a = a
puts (kind ∷ kinds) vs a = puts kinds vs.1 (put kind vs.0 a)

-- each of them is written by some word
abbrev pub AllWrite : (kinds : List WordKind) → Values kinds → Type 0
AllWrite [] vs = Unit {0}
AllWrite (kind ∷ kinds) vs = ((word : List ℕ) × Writes kind word vs.0) × AllWrite kinds vs.1

-- their words, each after a space, before the rest of a line
abbrev pub words_text : (kinds : List WordKind) → Values kinds → List ℕ → List ℕ
words_text [] vs rest = rest
words_text (kind ∷ kinds) vs rest = codes " " ++ (word_of kind vs.0 ++ words_text kinds vs.1 rest)

-- the values of the words that were read
pub record AreValues (kinds : List WordKind) (before after : Arguments) : Type 0 where
  pub values : Values kinds
  pub written : AllWrite kinds values
  pub after_is : after ≡ puts kinds values before
