-- A line that asks for an operation gives a procap for each place of its needs.
use Rattle.std.proofs.Common.{◌≡◌, ℕ, List, length}
use Rattle.file_world.specs.declared.operation.Op.{Op}
use Rattle.file_world.specs.Needs.{slots}
use Rattle.line_words.specs.declared.procap_word.ProcapWord.{ProcapWord}
use Rattle.line_forms.specs.declared.command.Command.TheVariants as commands
use Rattle.line_forms.specs.Lines.{IsLine}
use Rattle.line_forms.proofs.LimitLemmas.{line_within}

pub procap_for_each_need : (line : List ℕ) (op : Op) (procaps : List ProcapWord) → IsLine line (commands.Do op procaps) → length procaps ≡ slots op
procap_for_each_need line op procaps h = (line_within h).one_each
