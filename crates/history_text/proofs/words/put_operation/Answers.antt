-- Another operation stands as it was asked for.
use Rattle.std.proofs.Common.{◌≡◌, ◌++◌, List, ℕ, ap, subst, ◌∙◌}
use Rattle.std.specs.Prelude.{OnOk}
use Rattle.file_world.specs.declared.operation.Op.{Op}
use Rattle.line_forms.specs.declared.command.Command.TheVariants.{Do}
use Rattle.line_words.specs.declared.procap_word.ProcapWord.{ProcapWord}
use Rattle.line_writing.specs.LineTexts.{command_text}
use Rattle.history_text.specs.Words.{operation_words}
use Rattle.history_text.proofs.WordsLemmas.{operation_other}
use Rattle.history_text.proofs.words.put_operation.Goals as goal

pub returns-in_ok-copy-in_default : goal.returns-in_ok-copy-in_default
returns-in_ok-copy-in_default c =
    let op = c.args.op.now in
    let words : command_text (Do c.in_ok-copy-in_default.field-0 c.new.result) ≡ operation_words op =
    ap (λ (same : Op). command_text (Do same c.new.result)) c.in_ok-copy-in_default.ensures
    ∙ ap (λ (procaps : List ProcapWord). command_text (Do op procaps)) c.new.ensures ∙ operation_other op c.in_default.not-Write in
    subst (λ (text : List ℕ). OnOk c.write_line.result (c.write_line.new.out ≡ c.args.out.now ++ text)) words c.write_line.ensures.ok
