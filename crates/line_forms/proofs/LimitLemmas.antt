-- What is known of what a line brings: few bytes, a second within the range, numbers that can be cited.
use Rattle.std.proofs.Common.{◌≡◌, ◌≤◌, ℕ, ℤ, Bool, true, false, List, [], ◌∷◌, length, Option, Some, IsTrue, sym, ap, subst, arith}
use Rattle.std.specs.Prelude.{unwrap_or}
use Rattle.bl_syntax.specs.Citable.{AreCitable}
use Rattle.bl_syntax.specs.Names.{is_text, is_principal_name}
use Rattle.bl_syntax.specs.Statement.{StatementView, IsStatement}
use Rattle.bl_syntax.specs.TimeOrder.{IsMoment}
use Rattle.bl_syntax.specs.declared.grant.Goal.{Goal as GoalOf}
use Rattle.file_world.specs.declared.operation.Op.{Op}
use Rattle.file_world.specs.Effect.{IsOperation}
use Rattle.file_world.specs.Needs.{bytes_to_write}
use Rattle.proof_term.specs.Limits.{HasTimesInRange}
use Rattle.proof_term.specs.Proof.{ProofView}
use Rattle.line_words.specs.Cited.{IsCited}
use Rattle.line_words.specs.Cutting.{first_cut}
use Rattle.line_words.specs.Grammar.{IsPrincipal}
use Rattle.line_words.specs.Kinds.{blank, Sets, kind_in, kinds_in}
use Rattle.line_words.specs.Reading.{AreWords}
use Rattle.line_words.specs.declared.kinds.WordKind.{WordKind}
use Rattle.line_words.specs.declared.kinds.WordKind.TheVariants as kinds
use Rattle.line_words.specs.declared.arguments.Arguments.{Arguments}
use Rattle.line_words.specs.declared.procap_word.ProcapWord.{ProcapWord}
use Rattle.line_forms.specs.declared.command.Command.TheVariants as commands
use Rattle.line_forms.specs.declared.asked.Line.{Line}
use Rattle.line_forms.specs.declared.mode.Mode.{Mode}
use Rattle.line_forms.specs.declared.forms.Form.{Form}
use Rattle.line_forms.specs.declared.forms.Form.TheVariants.{At, As, Login, Register, Withdraw, Procap, Checkpoint, Verify, Check, Do, Statement, Goal}
use Rattle.line_forms.specs.declared.forms.Operation.{Operation}
use Rattle.line_forms.specs.declared.forms.Operation.TheVariants.{Read, Write, Truncate, List as ListOf, Lookup, Create, Mkdir, Unlink, Rename, Getattr, Setattr, Delattr, Chown}
use Rattle.line_forms.specs.Forms.{kinds_of_operation}
use Rattle.line_forms.specs.Lines.{IsAsked, kinds_said, IsLineIn, IsLine}
use Rattle.line_forms.specs.Making.{op_of}
use Rattle.line_forms.specs.Modes.{is_session}
use Rattle.line_forms.specs.Said.{IsLineWithin}
use Rattle.line_words.proofs.NumeralLemmas.{IsMoment-second}
use Rattle.line_forms.proofs.SlotLemmas.{procap_slots}
use Rattle.line_forms.proofs.ProofTimeLemmas.{IsProofText-times}

-- what is left of the words after the first of them
pub record AreOthers (kinds : List WordKind) (after : Arguments) (rest : List ℕ) : Type 0 where
  pub behind : List ℕ
  pub before : Arguments
  pub words : AreWords kinds behind before after rest

pub others : (kind : WordKind) (kinds : List WordKind) (behind : List ℕ) (before after : Arguments) (rest : List ℕ) → AreWords (kind ∷ kinds) behind before after rest → AreOthers kinds after rest
others kind kinds [] before after rest h = absurd h
others kind kinds (space ∷ line) before after rest h = record { behind = (first_cut line).behind; before = h.0; words = h.2 }

-- a last word of its kind
pub record IsLast (kind : WordKind) (before after : Arguments) : Type 0 where
  pub word : List ℕ
  pub set : Sets kind word before after

pub last : (kind : WordKind) (behind : List ℕ) (before after : Arguments) (rest : List ℕ) → AreWords (kind ∷ []) behind before after rest → IsLast kind before after
last kind [] before after rest h = absurd h
last kind (space ∷ line) before after rest h = record { word = (first_cut line).word; set = subst (λ a. Sets kind (first_cut line).word before a) (sym h.2.0) h.1 }

-- a word for a procap sets no other field
kept_bytes : (out : Bool) (word : List ℕ) (before after : Arguments) → Sets (kind_in out kinds.Procap) word before after → after.bytes ≡ before.bytes
kept_bytes true word before after h = ap (λ (a : Arguments). a.bytes) h.2
kept_bytes false word before after h = ap (λ (a : Arguments). a.bytes) h.2

kept_value : (out : Bool) (word : List ℕ) (before after : Arguments) → Sets (kind_in out kinds.Procap) word before after → after.value ≡ before.value
kept_value true word before after h = ap (λ (a : Arguments). a.value) h.2
kept_value false word before after h = ap (λ (a : Arguments). a.value) h.2

kept_who : (out : Bool) (word : List ℕ) (before after : Arguments) → Sets (kind_in out kinds.Procap) word before after → after.who ≡ before.who
kept_who true word before after h = ap (λ (a : Arguments). a.who) h.2
kept_who false word before after h = ap (λ (a : Arguments). a.who) h.2

-- ---- operations

named : {word who : List ℕ} → IsPrincipal word who → IsTrue (is_principal_name who)
named {word} {who} h = subst (λ name. IsTrue (is_principal_name name)) (sym h.same) h.named

module _ (out : Bool) where
  few_data : (behind : List ℕ) (before after : Arguments) (rest : List ℕ) → AreWords (kinds.Data ∷ kind_in out kinds.Procap ∷ []) behind before after rest → length after.bytes ≤ 65536
  few_data [] before after rest h = absurd h
  few_data (space ∷ line) before after rest h =
      let procap = last (kind_in out kinds.Procap) (first_cut line).behind h.0 after rest h.2 in
      subst (λ bytes. length bytes ≤ 65536) (sym (kept_bytes out procap.word h.0 after procap.set)) h.1.0.few

  few_written : (operation : Operation) (behind : List ℕ) (a : Arguments) (rest : List ℕ) → AreWords (kinds_in out (kinds_of_operation operation)) behind blank a rest → bytes_to_write (op_of operation a) ≤ 65536
  few_written Read behind a rest words = omega arith
  few_written Write behind a rest words =
      let second = others kinds.Node (kinds.Offset ∷ kinds.Data ∷ kind_in out kinds.Procap ∷ []) behind blank a rest words in
      let third = others kinds.Offset (kinds.Data ∷ kind_in out kinds.Procap ∷ []) second.behind second.before a rest second.words in
      few_data third.behind third.before a rest third.words
  few_written Truncate behind a rest words = omega arith
  few_written ListOf behind a rest words = omega arith
  few_written Lookup behind a rest words = omega arith
  few_written Create behind a rest words = omega arith
  few_written Mkdir behind a rest words = omega arith
  few_written Unlink behind a rest words = omega arith
  few_written Rename behind a rest words = omega arith
  few_written Getattr behind a rest words = omega arith
  few_written Setattr behind a rest words = omega arith
  few_written Delattr behind a rest words = omega arith
  few_written Chown behind a rest words = omega arith

  is_value : (behind : List ℕ) (before after : Arguments) (rest : List ℕ) → AreWords (kinds.Value ∷ kind_in out kinds.Procap ∷ []) behind before after rest → IsTrue (is_text after.value)
  is_value [] before after rest h = absurd h
  is_value (space ∷ line) before after rest h =
      let procap = last (kind_in out kinds.Procap) (first_cut line).behind h.0 after rest h.2 in
      subst (λ value. IsTrue (is_text value)) (sym (kept_value out procap.word h.0 after procap.set)) h.1.0.fits

  is_owner : (behind : List ℕ) (before after : Arguments) (rest : List ℕ) → AreWords (kinds.Who ∷ kind_in out kinds.Procap ∷ []) behind before after rest → IsTrue (is_principal_name after.who)
  is_owner [] before after rest h = absurd h
  is_owner (space ∷ line) before after rest h =
      let procap = last (kind_in out kinds.Procap) (first_cut line).behind h.0 after rest h.2 in
      subst (λ who. IsTrue (is_principal_name who)) (sym (kept_who out procap.word h.0 after procap.set)) (named h.1.0)

  operation_written : (operation : Operation) (behind : List ℕ) (a : Arguments) (rest : List ℕ) → AreWords (kinds_in out (kinds_of_operation operation)) behind blank a rest → IsOperation (op_of operation a)
  operation_written Read behind a rest words = tt
  operation_written Write behind a rest words = tt
  operation_written Truncate behind a rest words = tt
  operation_written ListOf behind a rest words = tt
  operation_written Lookup behind a rest words = tt
  operation_written Create behind a rest words = tt
  operation_written Mkdir behind a rest words = tt
  operation_written Unlink behind a rest words = tt
  operation_written Rename behind a rest words = tt
  operation_written Getattr behind a rest words = tt
  operation_written Setattr behind a rest words =
      let second = others kinds.Node (kinds.Name ∷ kinds.Value ∷ kind_in out kinds.Procap ∷ []) behind blank a rest words in
      let third = others kinds.Name (kinds.Value ∷ kind_in out kinds.Procap ∷ []) second.behind second.before a rest second.words in
      is_value third.behind third.before a rest third.words
  operation_written Delattr behind a rest words = tt
  operation_written Chown behind a rest words =
      let second = others kinds.Node (kinds.Who ∷ kind_in out kinds.Procap ∷ []) behind blank a rest words in
      is_owner second.behind second.before a rest second.words

-- ---- numbers of statements, a login

cited_of_word : (word numbers : List ℕ) → IsCited word numbers → AreCitable numbers
cited_of_word word numbers h = h.citable

cited_of_words : (behind : List ℕ) (a : Arguments) (rest : List ℕ) → AreWords (kinds.Who ∷ kinds.Node ∷ kinds.Permission ∷ kinds.Cited ∷ []) behind blank a rest → AreCitable a.cited
cited_of_words behind a rest words =
    let second = others kinds.Who (kinds.Node ∷ kinds.Permission ∷ kinds.Cited ∷ []) behind blank a rest words in
    let third = others kinds.Node (kinds.Permission ∷ kinds.Cited ∷ []) second.behind second.before a rest second.words in
    let fourth = others kinds.Permission (kinds.Cited ∷ []) third.behind third.before a rest third.words in
    let cited = last kinds.Cited fourth.behind fourth.before a rest fourth.words in
    cited_of_word cited.word a.cited cited.set.0

login_words : (behind : List ℕ) (a : Arguments) (rest : List ℕ) → AreWords (kinds.Who ∷ kinds.SignatureHex ∷ []) behind blank a rest → IsTrue (is_principal_name a.who) × (length (unwrap_or a.signature []) ≤ 32768)
login_words [] a rest h = absurd h
login_words (space ∷ line) a rest h =
    let signature = last kinds.SignatureHex (first_cut line).behind h.0 a rest h.2 in
    let who_is : a.who ≡ h.0.who = ap (λ (x : Arguments). x.who) signature.set.2 in
    let bytes_are : a.signature ≡ Some signature.set.0 = ap (λ (x : Arguments). x.signature) signature.set.2 in (
      subst (λ who. IsTrue (is_principal_name who)) (sym who_is) (named h.1.0),
      subst (λ (s : Option (List ℕ)). length (unwrap_or s []) ≤ 32768) (sym bytes_are) signature.set.1.few,
    )

-- ---- what a line brings

asked_within : (mode : Mode) (form : Form) (behind : List ℕ) (a : Arguments) (rest text : List ℕ) (asked : Line) → AreWords (kinds_said mode form) behind blank a rest → IsAsked form a text asked → IsLineWithin asked
asked_within mode At behind a rest text asked words h =
    let second : IsLast kinds.Second blank a = last kinds.Second behind blank a rest words in
    subst IsLineWithin (sym h) (IsMoment-second second.word second.set.0)
asked_within mode As behind a rest text asked words h = subst IsLineWithin (sym h) (named (last kinds.Who behind blank a rest words).set.0)
asked_within mode Login behind a rest text asked words h = subst IsLineWithin (sym h) (login_words behind a rest words)
asked_within mode Register behind a rest text asked words h = subst IsLineWithin (sym h.2) h.1.is_statement
asked_within mode Withdraw behind a rest text asked words h = subst IsLineWithin (sym h) tt
asked_within mode Procap behind a rest text asked words h = subst IsLineWithin (sym h) tt
asked_within mode Checkpoint behind a rest text asked words h = subst IsLineWithin (sym h) tt
asked_within mode Verify behind a rest text asked words h = subst IsLineWithin (sym h.2) (cited_of_words behind a rest words, IsProofText-times h.1)
asked_within mode Check behind a rest text asked words h = subst IsLineWithin (sym h.2) (cited_of_words behind a rest words, IsProofText-times h.1)
asked_within mode (Do operation) behind a rest text asked words h =
    subst IsLineWithin (sym h)
    (record { one_each = procap_slots (is_session mode) operation behind a rest words; few_bytes = few_written (is_session mode) operation behind a rest words; operation = operation_written (is_session mode) operation behind a rest words })
asked_within mode Statement behind a rest text asked words h = subst IsLineWithin (sym h.2) h.1.is_statement
asked_within mode Goal behind a rest text asked words h = subst IsLineWithin (sym h.2) (IsProofText-times h.1)

pub line_within : {mode : Mode} {line : List ℕ} {asked : Line} → IsLineIn mode line asked → IsLineWithin asked
line_within {mode} {line} {asked} h = asked_within mode h.form h.has_words.behind h.arguments h.rest _ asked h.has_words.words h.asked

-- ---- lines of scripts

pub few_bytes : (line : List ℕ) (op : Op) (procaps : List ProcapWord) → IsLine line (commands.Do op procaps) → bytes_to_write op ≤ 65536
few_bytes line op procaps h = (line_within h).few_bytes

pub operation_of_line : (line : List ℕ) (op : Op) (procaps : List ProcapWord) → IsLine line (commands.Do op procaps) → IsOperation op
operation_of_line line op procaps h = (line_within h).operation

pub caller_of_line : (line who : List ℕ) → IsLine line (commands.As who) → IsTrue (is_principal_name who)
caller_of_line line who h = line_within h

pub statement_of_line : (line : List ℕ) (signature : Option (List ℕ)) (statement : StatementView) → IsLine line (commands.Register signature statement) → IsStatement statement
statement_of_line line signature statement h = line_within h

pub second_of_line : (line : List ℕ) (second : ℤ) → IsLine line (commands.At second) → IsMoment second
second_of_line line second h = line_within h

pub cited_of_verify : (line : List ℕ) (goal : GoalOf) (numbers : List ℕ) (proof : ProofView) → IsLine line (commands.Verify goal numbers proof) → AreCitable numbers
cited_of_verify line goal numbers proof h = (line_within h).0

pub cited_of_check : (line : List ℕ) (goal : GoalOf) (numbers : List ℕ) (proof : ProofView) → IsLine line (commands.Check goal numbers proof) → AreCitable numbers
cited_of_check line goal numbers proof h = (line_within h).0

pub times_of_verify : (line : List ℕ) (goal : GoalOf) (numbers : List ℕ) (proof : ProofView) → IsLine line (commands.Verify goal numbers proof) → HasTimesInRange proof
times_of_verify line goal numbers proof h = (line_within h).1

pub times_of_check : (line : List ℕ) (goal : GoalOf) (numbers : List ℕ) (proof : ProofView) → IsLine line (commands.Check goal numbers proof) → HasTimesInRange proof
times_of_check line goal numbers proof h = (line_within h).1
