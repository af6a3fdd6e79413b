-- What is written of what a line asks for is read again, and asks for the same.
use Rattle.std.proofs.Common.{◌≡◌, ℕ, Bool, List, [], ◌∷◌, ◌++◌, Some, Ok, IsTrue, refl, sym, ap, ◌∙◌, subst}
use Rattle.line_words.specs.Kinds.{blank, kinds_in}
use Rattle.line_words.specs.Reading.{AreWords}
use Rattle.line_words.specs.declared.arguments.Arguments.{Arguments}
use Rattle.line_forms.specs.declared.asked.Line.{Line}
use Rattle.line_forms.specs.declared.mode.Mode.{Mode}
use Rattle.line_forms.specs.declared.forms.Form.{Form}
use Rattle.line_forms.specs.declared.forms.Form.TheVariants.{At, As, Login, Register, Withdraw, Procap, Checkpoint, Verify, Check, Do, Statement, Goal}
use Rattle.line_forms.specs.declared.forms.Operation.{Operation}
use Rattle.line_forms.specs.declared.forms.Operation.TheVariants.{Read, Write, Truncate, List as ListOf, Lookup, Create, Mkdir, Unlink, Rename, Getattr, Setattr, Delattr, Chown}
use Rattle.line_forms.specs.Forms.{kinds_of, has_text}
use Rattle.line_forms.specs.Heads.{head_in, may_end, is_counted, text_of}
use Rattle.line_forms.specs.Lines.{IsAsked, kinds_said, IsLineIn}
use Rattle.line_forms.specs.Modes.{modes_of, is_in, is_session}
use Rattle.line_forms.proofs.SaidLemmas.{form_in_mode}
use Rattle.line_writing.specs.LineTexts.{asked_text}
use Rattle.line_writing.proofs.HeadLemmas.{name_of, head_said, head_ends}
use Rattle.line_writing.proofs.RowLemmas.{tail_of, tail_ends, retold, row}
use Rattle.line_writing.proofs.Values.{Values, puts, AllWrite, words_text}
use Rattle.line_writing.proofs.WordLemmas.{read_values, written_words, after_read}

abbrev after_first : List ℕ → List ℕ
after_first [] = []
after_first (byte ∷ bytes) = bytes

-- a space stands after the name of a form
abbrev IsSpaced : List ℕ → Type 0
IsSpaced behind = behind ≡ 32 ∷ after_first behind

spaced_operation : (out : Bool) (operation : Operation) (vs : Values (kinds_in out (kinds_of (Do operation)))) (rest : List ℕ) → IsSpaced (words_text (kinds_in out (kinds_of (Do operation))) vs rest)
spaced_operation out Read vs rest = refl
spaced_operation out Write vs rest = refl
spaced_operation out Truncate vs rest = refl
spaced_operation out ListOf vs rest = refl
spaced_operation out Lookup vs rest = refl
spaced_operation out Create vs rest = refl
spaced_operation out Mkdir vs rest = refl
spaced_operation out Unlink vs rest = refl
spaced_operation out Rename vs rest = refl
spaced_operation out Getattr vs rest = refl
spaced_operation out Setattr vs rest = refl
spaced_operation out Delattr vs rest = refl
spaced_operation out Chown vs rest = refl

-- after the name of a form stands a space; the line of a checkpoint ends there
abbrev IsBehindName : Form → List ℕ → Type 0
IsBehindName At behind = IsSpaced behind
IsBehindName As behind = IsSpaced behind
IsBehindName Login behind = IsSpaced behind
IsBehindName Register behind = IsSpaced behind
IsBehindName Withdraw behind = IsSpaced behind
IsBehindName Procap behind = IsSpaced behind
IsBehindName Checkpoint behind = behind ≡ []
IsBehindName Verify behind = IsSpaced behind
IsBehindName Check behind = IsSpaced behind
IsBehindName (Do operation) behind = IsSpaced behind
IsBehindName Statement behind = IsSpaced behind
IsBehindName Goal behind = IsSpaced behind

spaced : (out : Bool) (form : Form) (vs : Values (kinds_in out (kinds_of form))) (a : Arguments) (text : List ℕ) (asked : Line) → IsAsked form a text asked → IsBehindName form (words_text (kinds_in out (kinds_of form)) vs (tail_of asked))
spaced out At vs a text asked h = refl
spaced out As vs a text asked h = refl
spaced out Login vs a text asked h = refl
spaced out Register vs a text asked h = refl
spaced out Withdraw vs a text asked h = refl
spaced out Procap vs a text asked h = refl
spaced out Checkpoint vs a text asked h = ap tail_of h
spaced out Verify vs a text asked h = refl
spaced out Check vs a text asked h = refl
spaced out (Do operation) vs a text asked h = spaced_operation out operation vs (tail_of asked)
spaced out Statement vs a text asked h = subst (λ (l : Line). IsSpaced (tail_of l)) (sym h.2) refl
spaced out Goal vs a text asked h = refl

spaced_head : (mode : Mode) (form : Form) (behind : List ℕ) → IsSpaced behind → IsTrue (is_in mode (modes_of form)) → head_in mode (name_of form ++ behind) ≡ Ok (form, behind)
spaced_head mode form behind at is = subst (λ (b : List ℕ). head_in mode (name_of form ++ b) ≡ Ok (form, b)) (sym at) (head_said mode form (after_first behind) is)

head_is : (mode : Mode) (form : Form) (behind : List ℕ) → IsBehindName form behind → IsTrue (is_in mode (modes_of form)) → head_in mode (name_of form ++ behind) ≡ Ok (form, behind)
head_is mode At behind at is = spaced_head mode At behind at is
head_is mode As behind at is = spaced_head mode As behind at is
head_is mode Login behind at is = spaced_head mode Login behind at is
head_is mode Register behind at is = spaced_head mode Register behind at is
head_is mode Withdraw behind at is = spaced_head mode Withdraw behind at is
head_is mode Procap behind at is = spaced_head mode Procap behind at is
head_is mode Checkpoint behind at is = subst (λ (b : List ℕ). head_in mode (name_of Checkpoint ++ b) ≡ Ok (Checkpoint, b)) (sym at) (head_ends mode is)
head_is mode Verify behind at is = spaced_head mode Verify behind at is
head_is mode Check behind at is = spaced_head mode Check behind at is
head_is mode (Do operation) behind at is = spaced_head mode (Do operation) behind at is
head_is mode Statement behind at is = spaced_head mode Statement behind at is
head_is mode Goal behind at is = spaced_head mode Goal behind at is

-- with these values in its words
again : (mode : Mode) (form : Form) (vs : Values (kinds_said mode form)) (text : List ℕ) (asked : Line) → AllWrite (kinds_said mode form) vs → IsTrue (is_in mode (modes_of form)) → IsAsked form (puts (kinds_said mode form) vs blank) text asked
    → IsLineIn mode (asked_text asked) asked
again mode form vs text asked written is h =
    let a = puts (kinds_said mode form) vs blank in
    let tail = tail_of asked in
    let behind = words_text (kinds_said mode form) vs tail in
    let told = retold form a text asked h in
    let words : AreWords (kinds_said mode form) behind blank a tail = written_words (kinds_said mode form) vs blank tail written (tail_ends asked) in
    let counted : is_counted form behind ≡ may_end (has_text form) (Some tail) = ap (may_end (has_text form)) (after_read (is_session mode) (kinds_of form) behind blank a tail words) in
    subst (λ (line : List ℕ). IsLineIn mode line asked) (sym (row (is_session mode) form vs text asked h))
    (record {
      form = form;
      arguments = a;
      rest = tail;
      has_words = record { behind = behind; head_is = head_is mode form behind (spaced (is_session mode) form vs a text asked h) is; counted = counted ∙ told.counted; words = words };
      asked = told.asks;
    })

pub round_trip : {mode : Mode} {line : List ℕ} {asked : Line} → IsLineIn mode line asked → IsLineIn mode (asked_text asked) asked
round_trip {mode} {line} {asked} h =
    let read = read_values (kinds_said mode h.form) h.has_words.behind blank h.arguments h.rest h.has_words.words in
    again mode h.form read.values (text_of h.rest) asked read.written (form_in_mode h) (subst (λ (a : Arguments). IsAsked h.form a (text_of h.rest) asked) read.after_is h.asked)
