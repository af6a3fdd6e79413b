-- The line that is written for a form and the values of its words.
use Rattle.std.proofs.Common.{◌≡◌, ℕ, Bool, true, false, List, [], ◌∷◌, ◌++◌, codes, Some, IsTrue, refl, sym, ap, subst, append_assoc, append-nil}
use Rattle.std.specs.Fmt.{decimal, signed_decimal}
use Rattle.line_text.specs.HexWord.{hex_word}
use Rattle.procap.specs.Procap.{procap_spelling}
use Rattle.line_writing.specs.WordTexts.{signature_text, procap_text}
use Rattle.bl_syntax.specs.declared.terms.NodeId.{NodeId}
use Rattle.line_text.specs.Words.{is_word_end}
use Rattle.bl_syntax.specs.Statement.{StatementView}
use Rattle.bl_text.specs.Printed.{statement_text}
use Rattle.bl_text.proofs.RoundTripLemmas.{printed_statement}
use Rattle.proof_text.specs.Printed.{proof_text}
use Rattle.proof_text.proofs.RoundTripLemmas.{text_is_read}
use Rattle.text_laws.proofs.PrintableLemmas.{proof_printable}
use Rattle.text_laws.proofs.SpellableLemmas.{statement_spellable}
use Rattle.line_words.specs.Kinds.{blank, kinds_in}
use Rattle.line_words.specs.declared.arguments.Arguments.{Arguments}
use Rattle.line_forms.specs.declared.command.Command.{Command}
use Rattle.line_forms.specs.declared.command.Command.TheVariants as commands
use Rattle.line_forms.specs.declared.asked.Line.{Line}
use Rattle.line_forms.specs.declared.asked.Line.TheVariants as lines
use Rattle.line_forms.specs.declared.forms.Form.{Form}
use Rattle.line_forms.specs.declared.forms.Form.TheVariants.{At, As, Login, Register, Withdraw, Procap, Checkpoint, Verify, Check, Do, Statement, Goal}
use Rattle.line_forms.specs.declared.forms.Operation.{Operation}
use Rattle.line_forms.specs.declared.forms.Operation.TheVariants.{Read, Write, Truncate, List as ListOf, Lookup, Create, Mkdir, Unlink, Rename, Getattr, Setattr, Delattr, Chown}
use Rattle.line_forms.specs.Forms.{kinds_of, has_text}
use Rattle.line_forms.specs.Heads.{may_end, text_of}
use Rattle.line_forms.specs.Lines.{IsAsked}
use Rattle.line_forms.specs.Making.{op_of}
use Rattle.line_writing.specs.LineTexts.{named_text, value_text, asked_text}
use Rattle.line_writing.proofs.HeadLemmas.{name_of}
use Rattle.line_writing.proofs.Values.{Values, puts, words_text}

-- ---- what stands after the words

abbrev command_tail : Command → List ℕ
command_tail (commands.At second) = []
command_tail (commands.As who) = []
command_tail (commands.Register signature statement) = codes " " ++ statement_text statement
command_tail (commands.Withdraw number signature) = []
command_tail (commands.Procap number) = []
command_tail commands.Checkpoint = []
command_tail (commands.Verify goal numbers proof) = codes " " ++ proof_text proof
command_tail (commands.Check goal numbers proof) = codes " " ++ proof_text proof
command_tail (commands.Do op procaps) = []

abbrev pub tail_of : Line → List ℕ
tail_of (lines.Command command) = command_tail command
tail_of (lines.Login who signature) = []
tail_of (lines.Statement statement) = codes " " ++ statement_text statement
tail_of (lines.Goal goal proof) = codes " " ++ proof_text proof

command_ends : (command : Command) → IsTrue (is_word_end 32 (command_tail command))
command_ends (commands.At second) = refl
command_ends (commands.As who) = refl
command_ends (commands.Register signature statement) = refl
command_ends (commands.Withdraw number signature) = refl
command_ends (commands.Procap number) = refl
command_ends commands.Checkpoint = refl
command_ends (commands.Verify goal numbers proof) = refl
command_ends (commands.Check goal numbers proof) = refl
command_ends (commands.Do op procaps) = refl

pub tail_ends : (asked : Line) → IsTrue (is_word_end 32 (tail_of asked))
tail_ends (lines.Command command) = command_ends command
tail_ends (lines.Login who signature) = refl
tail_ends (lines.Statement statement) = refl
tail_ends (lines.Goal goal proof) = refl

-- the text that is written asks for the same, and a text stands there as the form has it
pub record IsRetold (form : Form) (a : Arguments) (asked : Line) : Type 0 where
  pub asks : IsAsked form a (text_of (tail_of asked)) asked
  pub counted : IsTrue (may_end (has_text form) (Some (tail_of asked)))

pub retold : (form : Form) (a : Arguments) (text : List ℕ) (asked : Line) → IsAsked form a text asked → IsRetold form a asked
retold At a text asked h = subst (IsRetold At a) (sym h) (record { asks = refl; counted = refl })
retold As a text asked h = subst (IsRetold As a) (sym h) (record { asks = refl; counted = refl })
retold Login a text asked h = subst (IsRetold Login a) (sym h) (record { asks = refl; counted = refl })
retold Register a text asked h =
    subst (IsRetold Register a) (sym h.2) (record { asks = (h.0, printed_statement h.0 (statement_spellable h.1), refl); counted = refl })
retold Withdraw a text asked h = subst (IsRetold Withdraw a) (sym h) (record { asks = refl; counted = refl })
retold Procap a text asked h = subst (IsRetold Procap a) (sym h) (record { asks = refl; counted = refl })
retold Checkpoint a text asked h = subst (IsRetold Checkpoint a) (sym h) (record { asks = refl; counted = refl })
retold Verify a text asked h =
    subst (IsRetold Verify a) (sym h.2) (record { asks = (h.0, text_is_read h.0 (proof_printable h.1), refl); counted = refl })
retold Check a text asked h =
    subst (IsRetold Check a) (sym h.2) (record { asks = (h.0, text_is_read h.0 (proof_printable h.1), refl); counted = refl })
retold (Do operation) a text asked h = subst (IsRetold (Do operation) a) (sym h) (record { asks = refl; counted = refl })
retold Statement a text asked h =
    subst (IsRetold Statement a) (sym h.2) (record { asks = (h.0, printed_statement h.0 (statement_spellable h.1), refl); counted = refl })
retold Goal a text asked h =
    subst (IsRetold Goal a) (sym h.2) (record { asks = (h.0, text_is_read h.0 (proof_printable h.1), refl); counted = refl })

-- ---- rows

module _ (out : Bool) where
  -- the values of the words of a form in the fields of the arguments
  abbrev with_values : (form : Form) → Values (kinds_in out (kinds_of form)) → Arguments
  with_values form vs = puts (kinds_in out (kinds_of form)) vs blank

  abbrev pub IsText : (form : Form) → Values (kinds_in out (kinds_of form)) → Line → Type 0
  IsText form vs asked = asked_text asked ≡ name_of form ++ words_text (kinds_in out (kinds_of form)) vs (tail_of asked)

-- a last word, with nothing after it
last_word : (front word : List ℕ) → front ++ word ≡ front ++ (word ++ [])
last_word front word = ap (λ (w : List ℕ). front ++ w) (sym (append-nil word))

register_row : (out : Bool) (vs : Values (kinds_in out (kinds_of Register))) (statement : StatementView) → IsText out Register vs (lines.Command (commands.Register (with_values out Register vs).signature statement))
register_row true vs statement = refl
register_row false vs statement = refl

withdraw_row : (out : Bool) (vs : Values (kinds_in out (kinds_of Withdraw))) → IsText out Withdraw vs (lines.Command (commands.Withdraw (with_values out Withdraw vs).number (with_values out Withdraw vs).signature))
withdraw_row true vs = ap (λ (w : List ℕ). codes "withdraw " ++ (decimal vs.0 ++ (codes " " ++ w))) (sym (append-nil (hex_word vs.1.0)))
withdraw_row false vs = ap (λ (w : List ℕ). codes "withdraw " ++ (decimal vs.0 ++ (codes " " ++ w))) (sym (append-nil (signature_text vs.1.0)))

-- a node, a name and a value between quotes
quoted_row : (node : NodeId) (name value rest : List ℕ) → named_text (codes " #") node name (value_text value rest) ≡ codes " #" ++ (decimal node.0 ++ (codes " " ++ (name ++ (codes " " ++ ((34 ∷ (value ++ 34 ∷ [])) ++ rest)))))
quoted_row node name value rest = ap (λ (l : List ℕ). codes " #" ++ (decimal node.0 ++ (codes " " ++ (name ++ (codes " \"" ++ l))))) (sym (append_assoc value (34 ∷ []) rest))

do_row : (out : Bool) (operation : Operation) (vs : Values (kinds_in out (kinds_of (Do operation)))) → IsText out (Do operation) vs (lines.Command (commands.Do (op_of operation (with_values out (Do operation) vs)) (with_values out (Do operation) vs).procaps))
do_row true Read vs = refl
do_row false Read vs = refl
do_row true Write vs = refl
do_row false Write vs = refl
do_row true Truncate vs = refl
do_row false Truncate vs = refl
do_row true ListOf vs = refl
do_row false ListOf vs = refl
do_row true Lookup vs = refl
do_row false Lookup vs = refl
do_row true Create vs = refl
do_row false Create vs = refl
do_row true Mkdir vs = refl
do_row false Mkdir vs = refl
do_row true Unlink vs = refl
do_row false Unlink vs = refl
do_row true Rename vs = refl
do_row false Rename vs = refl
do_row true Getattr vs = refl
do_row false Getattr vs = refl
do_row true Setattr vs = ap (λ (rest : List ℕ). codes "do setattr" ++ rest) (quoted_row vs.0 vs.1.0 vs.1.1.0 (codes " " ++ (hex_word (procap_spelling vs.1.1.1.0) ++ [])))
do_row false Setattr vs = ap (λ (rest : List ℕ). codes "do setattr" ++ rest) (quoted_row vs.0 vs.1.0 vs.1.1.0 (codes " " ++ (procap_text vs.1.1.1.0 ++ [])))
do_row true Delattr vs = refl
do_row false Delattr vs = refl
do_row true Chown vs = refl
do_row false Chown vs = refl

pub row : (out : Bool) (form : Form) (vs : Values (kinds_in out (kinds_of form))) (text : List ℕ) (asked : Line) → IsAsked form (with_values out form vs) text asked → IsText out form vs asked
row out At vs text asked h = subst (IsText out At vs) (sym h) (last_word (codes "at ") (signed_decimal vs.0))
row out As vs text asked h = subst (IsText out As vs) (sym h) (last_word (codes "as ") vs.0)
row out Login vs text asked h = subst (IsText out Login vs) (sym h) (ap (λ (w : List ℕ). codes "login " ++ (vs.0 ++ (codes " " ++ w))) (sym (append-nil (hex_word vs.1.0))))
row out Register vs text asked h = subst (IsText out Register vs) (sym h.2) (register_row out vs h.0)
row out Withdraw vs text asked h = subst (IsText out Withdraw vs) (sym h) (withdraw_row out vs)
row out Procap vs text asked h = subst (IsText out Procap vs) (sym h) (last_word (codes "procap ") (decimal vs.0))
row out Checkpoint vs text asked h = subst (IsText out Checkpoint vs) (sym h) refl
row out Verify vs text asked h = subst (IsText out Verify vs) (sym h.2) refl
row out Check vs text asked h = subst (IsText out Check vs) (sym h.2) refl
row out (Do operation) vs text asked h = subst (IsText out (Do operation) vs) (sym h) (do_row out operation vs)
row out Statement vs text asked h = subst (IsText out Statement vs) (sym h.2) refl
row out Goal vs text asked h = subst (IsText out Goal vs) (sym h.2) refl
