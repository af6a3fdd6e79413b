-- A word of a kind writes one thing.
use Rattle.std.proofs.Common.{◌≡◌, ◌^◌, ℕ, List, [], ◌∷◌, ◌++◌, Some, refl, sym, ap, ◌∙◌, arith}
use Rattle.line_words.specs.declared.kinds.WordKind.{WordKind}
use Rattle.line_words.specs.declared.kinds.WordKind.TheVariants.{Node, Target, Name, NewName, Offset, Len, Most, Data, Value, Who, Permission, Second, Issue, Number, Cited, Signature, Procap, SignatureHex, ProcapHex}
use Rattle.line_words.specs.declared.arguments.Arguments.{Arguments}
use Rattle.line_words.specs.declared.procap_word.ProcapWord.TheVariants.{Procap as BySpelling}
use Rattle.line_text.proofs.HexLemmas.{IsHex-same}
use Rattle.line_words.specs.Kinds.{Sets}
use Rattle.line_words.proofs.NumeralLemmas.{IsFile-unique, IsNumberBelow-unique, IsSecond-unique}
use Rattle.line_words.proofs.GrammarLemmas.{IsName-unique, IsPrincipal-unique, IsData-unique, IsQuoted-unique, permission-unique}
use Rattle.line_words.proofs.CitedLemmas.{AreJoined-same}
use Rattle.line_words.proofs.ProcapLemmas.{IsProcapHex-same, IsProcapWord-same, IsSigned-same}

pub Sets-unique : (kind : WordKind) (word : List ℕ) (before first second : Arguments) → Sets kind word before first → Sets kind word before second → first ≡ second
Sets-unique Node word before first second h k = h.1 ∙ ap (λ x. record before { node = x }) (IsFile-unique h.0 k.0) ∙ sym k.1
Sets-unique Target word before first second h k = h.1 ∙ ap (λ x. record before { target = x }) (IsFile-unique h.0 k.0) ∙ sym k.1
Sets-unique Name word before first second h k = h.1 ∙ ap (λ x. record before { name = x }) (IsName-unique h.0 k.0) ∙ sym k.1
Sets-unique NewName word before first second h k = h.1 ∙ ap (λ x. record before { new_name = x }) (IsName-unique h.0 k.0) ∙ sym k.1
Sets-unique Offset word before first second h k = h.1 ∙ ap (λ x. record before { offset = x }) (IsNumberBelow-unique (2 ^ 64) (omega arith) h.0 k.0) ∙ sym k.1
Sets-unique Len word before first second h k = h.1 ∙ ap (λ x. record before { len = x }) (IsNumberBelow-unique (2 ^ 64) (omega arith) h.0 k.0) ∙ sym k.1
Sets-unique Most word before first second h k = h.1 ∙ ap (λ x. record before { len = x }) (IsNumberBelow-unique 65537 (omega arith) h.0 k.0) ∙ sym k.1
Sets-unique Data word before first second h k = h.1 ∙ ap (λ x. record before { bytes = x }) (IsData-unique h.0 k.0) ∙ sym k.1
Sets-unique Value word before first second h k = h.1 ∙ ap (λ x. record before { value = x }) (IsQuoted-unique h.0 k.0) ∙ sym k.1
Sets-unique Who word before first second h k = h.1 ∙ ap (λ x. record before { who = x }) (IsPrincipal-unique h.0 k.0) ∙ sym k.1
Sets-unique Permission word before first second h k = h.1 ∙ ap (λ x. record before { perm = x }) (permission-unique first.perm second.perm (sym h.0 ∙ k.0)) ∙ sym k.1
Sets-unique Second word before first second h k = h.1 ∙ ap (λ x. record before { second = x }) (IsSecond-unique word h.0 k.0) ∙ sym k.1
Sets-unique Issue word before first second h k = h.1 ∙ ap (λ x. record before { issue = x }) (IsNumberBelow-unique (2 ^ 64) (omega arith) h.0.number_is k.0.number_is) ∙ sym k.1
Sets-unique Number word before first second h k = h.1 ∙ ap (λ x. record before { number = x }) (IsNumberBelow-unique (2 ^ 32) (omega arith) h.0 k.0) ∙ sym k.1
Sets-unique Cited word before first second h k = h.1 ∙ ap (λ x. record before { cited = x }) (AreJoined-same h.0.joined word second.cited refl k.0.joined) ∙ sym k.1
Sets-unique Signature word before first second h k = h.1 ∙ ap (λ x. record before { signature = x }) (IsSigned-same h.0 word second.signature refl k.0) ∙ sym k.1
Sets-unique Procap word before first second h k = h.2 ∙ ap (λ x. record before { procaps = before.procaps ++ x ∷ [] }) (IsProcapWord-same h.1 word k.0 refl k.1) ∙ sym k.2
Sets-unique SignatureHex word before first second h k = h.2 ∙ ap (λ x. record before { signature = Some x }) (IsHex-same word h.0 k.0 h.1.hex k.1.hex) ∙ sym k.2
Sets-unique ProcapHex word before first second h k = h.2 ∙ ap (λ x. record before { procaps = before.procaps ++ BySpelling x ∷ [] }) (IsProcapHex-same word h.0 k.0 h.1 k.1) ∙ sym k.2
