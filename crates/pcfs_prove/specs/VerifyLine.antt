-- What the line that is written says (this project's own).
use Rattle.std.specs.Prelude.{List}
use Rattle.line_forms.specs.Lines.{IsLine}
use Rattle.line_forms.specs.declared.command.Command.TheVariants.{Verify}
use Rattle.proof_verifier.specs.declared.cites.Cite.{Cite}
use Rattle.proof_search.specs.declared.asked.Asked.{Asked}
use Rattle.proof_search.specs.Proved.{IsProved}
use Rattle.pcfs_prove.specs.declared.verify_line.VerifyLine.{VerifyLine}

-- the line is one `verify` with the goal that is asked for, the numbers of statements and a proof;
-- and this is a proof of the goal from the statements
-- of these numbers, with a verdict whose conditions hold when it is asked for
pub record IsVerifyLine (statements : List Cite) (asked : Asked) (told : VerifyLine) : Type 0 where
  pub reads : IsLine told.line (Verify asked.goal told.proved.numbers told.proved.checked.proof)
  pub proved : IsProved statements asked told.proved
