-- The lines that a client sends (this project's own).
use Rattle.std.specs.Prelude.{◌≡◌, ℕ, List, length, vec_len}
use Rattle.file_world.specs.declared.operation.Op.{Op}
use Rattle.line_forms.specs.declared.asked.Line.{Line}
use Rattle.line_forms.specs.declared.asked.Line.TheVariants as lines
use Rattle.line_forms.specs.declared.command.Command.TheVariants as commands
use Rattle.line_words.specs.declared.procap_word.ProcapWord.{ProcapWord}
use Rattle.line_writing.specs.LineTexts.{asked_text}
use Rattle.client_tree.specs.declared.asking.Prepared.{Prepared}
use Rattle.client_tree.specs.declared.asking.Work.{Work}

-- the text is the one of a line that asks for something
pub record IsAskedText (text : List ℕ) : Type 0 where
  pub asked : Line
  pub same : text ≡ asked_text asked

-- the text of the line that asks for the operation under these procaps
unfoldable pub operation_text : Op → List ProcapWord → List ℕ
operation_text op procaps = asked_text (lines.Command (commands.Do op procaps))

-- the line is that of the operation, with a procap for each of its needs; there is a word for each
-- of these
pub record IsPrepared (work : Work) (made : Prepared) : Type 0 where
  pub procaps : List ProcapWord
  pub line_is : made.line ≡ operation_text work.op procaps
  pub a_procap_each : length procaps ≡ vec_len work.needs
  pub a_word_each : vec_len made.words ≡ vec_len work.needs
