-- The words of an operation give a procap for each place of its needs.
use Rattle.std.proofs.Common.{◌≡◌, ℕ, Bool, true, false, ◌+◌, List, [], ◌∷◌, length, refl, sym, ap, ◌∙◌, arith, length-append}
use Rattle.file_world.specs.Needs.{slots}
use Rattle.line_words.specs.Cutting.{first_cut}
use Rattle.line_words.specs.Kinds.{blank, Sets, kind_in, kinds_in}
use Rattle.line_words.specs.Reading.{AreWords}
use Rattle.line_words.specs.declared.kinds.WordKind.{WordKind}
use Rattle.line_words.specs.declared.kinds.WordKind.TheVariants as kinds
use Rattle.line_words.specs.declared.arguments.Arguments.{Arguments}
use Rattle.line_words.specs.declared.procap_word.ProcapWord.{ProcapWord}
use Rattle.line_words.specs.declared.procap_word.ProcapWord.TheVariants as words
use Rattle.line_forms.specs.declared.forms.Operation.{Operation}
use Rattle.line_forms.specs.declared.forms.Operation.TheVariants.{Read, Write, Truncate, List as ListOf, Lookup, Create, Mkdir, Unlink, Rename, Getattr, Setattr, Delattr, Chown}
use Rattle.line_forms.specs.Forms.{kinds_of_operation}
use Rattle.line_forms.specs.Making.{op_of}

-- how many procaps a word of the kind gives
abbrev procaps_of : WordKind → ℕ
procaps_of kinds.Node = 0
procaps_of kinds.Target = 0
procaps_of kinds.Name = 0
procaps_of kinds.NewName = 0
procaps_of kinds.Offset = 0
procaps_of kinds.Len = 0
procaps_of kinds.Most = 0
procaps_of kinds.Data = 0
procaps_of kinds.Value = 0
procaps_of kinds.Who = 0
procaps_of kinds.Permission = 0
procaps_of kinds.Second = 0
procaps_of kinds.Issue = 0
procaps_of kinds.Number = 0
procaps_of kinds.Cited = 0
procaps_of kinds.Signature = 0
procaps_of kinds.Procap = 1
procaps_of kinds.SignatureHex = 0
procaps_of kinds.ProcapHex = 1

abbrev procaps_in : List WordKind → ℕ
procaps_in [] = 0
procaps_in (kind ∷ kinds) = procaps_of kind + procaps_in kinds

none_more : (before after plain : Arguments) → after ≡ plain → length plain.procaps ≡ length before.procaps → length after.procaps ≡ length before.procaps + 0
none_more before after plain same h = omega (arith, ap (λ (a : Arguments). length a.procaps) same, h)

one_word : (kind : WordKind) (word : List ℕ) (before after : Arguments) → Sets kind word before after → length after.procaps ≡ length before.procaps + procaps_of kind
one_word kinds.Node word before after h = none_more before after _ h.1 refl
one_word kinds.Target word before after h = none_more before after _ h.1 refl
one_word kinds.Name word before after h = none_more before after _ h.1 refl
one_word kinds.NewName word before after h = none_more before after _ h.1 refl
one_word kinds.Offset word before after h = none_more before after _ h.1 refl
one_word kinds.Len word before after h = none_more before after _ h.1 refl
one_word kinds.Most word before after h = none_more before after _ h.1 refl
one_word kinds.Data word before after h = none_more before after _ h.1 refl
one_word kinds.Value word before after h = none_more before after _ h.1 refl
one_word kinds.Who word before after h = none_more before after _ h.1 refl
one_word kinds.Permission word before after h = none_more before after _ h.1 refl
one_word kinds.Second word before after h = none_more before after _ h.1 refl
one_word kinds.Issue word before after h = none_more before after _ h.1 refl
one_word kinds.Number word before after h = none_more before after _ h.1 refl
one_word kinds.Cited word before after h = none_more before after _ h.1 refl
one_word kinds.Signature word before after h = none_more before after _ h.1 refl
one_word kinds.Procap word before after h = omega (arith, ap (λ (a : Arguments). length a.procaps) h.2, length-append before.procaps (h.0 ∷ []))
one_word kinds.SignatureHex word before after h = none_more before after _ h.2 refl
one_word kinds.ProcapHex word before after h = omega (arith, ap (λ (a : Arguments). length a.procaps) h.2, length-append before.procaps (words.Procap h.0 ∷ []))

all_words : (kinds : List WordKind) (behind : List ℕ) (before after : Arguments) (rest : List ℕ) → AreWords kinds behind before after rest → length after.procaps ≡ length before.procaps + procaps_in kinds
all_words [] behind before after rest h = omega (arith, ap (λ (a : Arguments). length a.procaps) h.0)
all_words (kind ∷ kinds) [] before after rest h = absurd h
all_words (kind ∷ kinds) (space ∷ line) before after rest h =
    let first = one_word kind (first_cut line).word before h.0 h.1 in
    let others = all_words kinds (first_cut line).behind h.0 after rest h.2 in
    omega (arith, first, others)

slots_are_procaps : (operation : Operation) (a : Arguments) → slots (op_of operation a) ≡ procaps_in (kinds_of_operation operation)
slots_are_procaps Read a = refl
slots_are_procaps Write a = refl
slots_are_procaps Truncate a = refl
slots_are_procaps ListOf a = refl
slots_are_procaps Lookup a = refl
slots_are_procaps Create a = refl
slots_are_procaps Mkdir a = refl
slots_are_procaps Unlink a = refl
slots_are_procaps Rename a = refl
slots_are_procaps Getattr a = refl
slots_are_procaps Setattr a = refl
slots_are_procaps Delattr a = refl
slots_are_procaps Chown a = refl

none_before : (n : ℕ) → length {A = ProcapWord} [] + n ≡ n
none_before n = omega arith

-- as many, whether they have to be written out or not
same_kind : (out : Bool) (kind : WordKind) → procaps_of (kind_in out kind) ≡ procaps_of kind
same_kind out kinds.Node = refl
same_kind out kinds.Target = refl
same_kind out kinds.Name = refl
same_kind out kinds.NewName = refl
same_kind out kinds.Offset = refl
same_kind out kinds.Len = refl
same_kind out kinds.Most = refl
same_kind out kinds.Data = refl
same_kind out kinds.Value = refl
same_kind out kinds.Who = refl
same_kind out kinds.Permission = refl
same_kind out kinds.Second = refl
same_kind out kinds.Issue = refl
same_kind out kinds.Number = refl
same_kind out kinds.Cited = refl
same_kind true kinds.Signature = refl
same_kind false kinds.Signature = refl
same_kind true kinds.Procap = refl
same_kind false kinds.Procap = refl
same_kind out kinds.SignatureHex = refl
same_kind out kinds.ProcapHex = refl

same_kinds : (out : Bool) (kinds : List WordKind) → procaps_in (kinds_in out kinds) ≡ procaps_in kinds
same_kinds out [] = refl
same_kinds out (kind ∷ kinds) = omega (arith, same_kind out kind, same_kinds out kinds)

pub procap_slots : (out : Bool) (operation : Operation) (behind : List ℕ) (a : Arguments) (rest : List ℕ) → AreWords (kinds_in out (kinds_of_operation operation)) behind blank a rest → length a.procaps ≡ slots (op_of operation a)
procap_slots out operation behind a rest words =
    all_words (kinds_in out (kinds_of_operation operation)) behind blank a rest words ∙ none_before (procaps_in (kinds_in out (kinds_of_operation operation))) ∙ same_kinds out (kinds_of_operation operation) ∙ sym (slots_are_procaps operation a)
