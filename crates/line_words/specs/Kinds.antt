-- What a word of each kind writes (this project's own).
use Rattle.std.specs.Prelude.{◌≡◌, Bool, if◌then◌else◌, pos, ℕ, List, [], ◌∷◌, ◌++◌, codes, None, Some}
use Rattle.bl_syntax.specs.declared.terms.Perm.TheVariants.{Read}
use Rattle.line_words.specs.Numbers.{IsSecond, IsNumber, IsLongNumber, IsCount, IsFile, IsIssue}
use Rattle.line_words.specs.Cited.{IsCited}
use Rattle.line_words.specs.Procaps.{IsProcapHex, IsProcapWord}
use Rattle.procap.specs.declared.procap.Procap.{Procap as Sealed}
use Rattle.line_words.specs.Grammar.{IsName, IsPrincipal, IsData, IsQuoted, IsPermission, IsSigned, IsSignatureHex}
use Rattle.line_words.specs.declared.procap_word.ProcapWord.{ProcapWord}
use Rattle.line_words.specs.declared.procap_word.ProcapWord.TheVariants.{Procap as BySpelling}
use Rattle.line_words.specs.declared.kinds.WordKind.{WordKind}
use Rattle.line_words.specs.declared.kinds.WordKind.TheVariants.{Node, Target, Name, NewName, Offset, Len, Most, Data, Value, Who, Permission, Second, Issue, Number, Cited, Signature, Procap, SignatureHex, ProcapHex}
use Rattle.line_words.specs.declared.arguments.Arguments.{Arguments}

-- where no word was read
abbrev pub blank : Arguments
blank = record {
  node = record { 0 = 0 };
  target = record { 0 = 0 };
  name = [];
  new_name = [];
  offset = 0;
  len = 0;
  bytes = [];
  value = [];
  who = codes "nobody";
  perm = Read;
  second = pos 0;
  issue = 0;
  number = 0;
  cited = [];
  signature = None;
  procaps = [];
}

-- the word is of the kind, and what it writes goes to the kind's own field
abbrev pub Sets : WordKind → List ℕ → Arguments → Arguments → Type 0
Sets Node word before after = IsFile word after.node × (after ≡ record before { node = after.node })
Sets Target word before after = IsFile word after.target ×
    (after ≡ record before { target = after.target })
Sets Name word before after = IsName word after.name × (after ≡ record before { name = after.name })
Sets NewName word before after = IsName word after.new_name ×
    (after ≡ record before { new_name = after.new_name })
Sets Offset word before after = IsLongNumber word after.offset ×
    (after ≡ record before { offset = after.offset })
Sets Len word before after = IsLongNumber word after.len ×
    (after ≡ record before { len = after.len })
Sets Most word before after = IsCount word after.len × (after ≡ record before { len = after.len })
Sets Data word before after = IsData word after.bytes ×
    (after ≡ record before { bytes = after.bytes })
Sets Value word before after = IsQuoted word after.value ×
    (after ≡ record before { value = after.value })
Sets Who word before after = IsPrincipal word after.who ×
    (after ≡ record before { who = after.who })
Sets Permission word before after = IsPermission word after.perm ×
    (after ≡ record before { perm = after.perm })
Sets Second word before after = IsSecond word after.second ×
    (after ≡ record before { second = after.second })
Sets Issue word before after = IsIssue word after.issue ×
    (after ≡ record before { issue = after.issue })
Sets Number word before after = IsNumber word after.number ×
    (after ≡ record before { number = after.number })
Sets Cited word before after = IsCited word after.cited ×
    (after ≡ record before { cited = after.cited })
Sets Signature word before after = IsSigned word after.signature ×
    (after ≡ record before { signature = after.signature })
Sets Procap word before after = (given : ProcapWord) × IsProcapWord word given ×
    (after ≡ record before { procaps = before.procaps ++ given ∷ [] })
Sets SignatureHex word before after = (bytes : List ℕ) × IsSignatureHex word bytes ×
    (after ≡ record before { signature = Some bytes })
Sets ProcapHex word before after = (p : Sealed) × IsProcapHex word p ×
    (after ≡ record before { procaps = before.procaps ++ BySpelling p ∷ [] })

-- the word is of no such kind
abbrev pub IsOutside : WordKind → List ℕ → Type 0
IsOutside kind word = (before after : Arguments) → Sets kind word before after → ⊥

-- the kind of a word in a line in which signatures and procaps have to be written out, or need not:
-- then a signature is not left to the ring, nor a procap named by its issue
abbrev pub kind_in : Bool → WordKind → WordKind
kind_in out Node = Node
kind_in out Target = Target
kind_in out Name = Name
kind_in out NewName = NewName
kind_in out Offset = Offset
kind_in out Len = Len
kind_in out Most = Most
kind_in out Data = Data
kind_in out Value = Value
kind_in out Who = Who
kind_in out Permission = Permission
kind_in out Second = Second
kind_in out Issue = Issue
kind_in out Number = Number
kind_in out Cited = Cited
kind_in out Signature = if out then SignatureHex else Signature
kind_in out Procap = if out then ProcapHex else Procap
kind_in out SignatureHex = SignatureHex
kind_in out ProcapHex = ProcapHex

-- the kinds of words in such a line
abbrev pub kinds_in : Bool → List WordKind → List WordKind
kinds_in out [] = []
kinds_in out (kind ∷ kinds) = kind_in out kind ∷ kinds_in out kinds
