-- What a proof for a client is (this project's own).
use Rattle.std.specs.Prelude.{◌≡◌, List, [], true}
use Rattle.line_forms.specs.declared.asked.Line.TheVariants as lines
use Rattle.line_forms.specs.declared.command.Command.TheVariants.{Verify}
use Rattle.line_writing.specs.LineTexts.{asked_text}
use Rattle.proof_verifier.specs.declared.cites.Cite.{Cite}
use Rattle.proof_search.specs.declared.asked.Asked.{Asked}
use Rattle.proof_search.specs.declared.asked.Moments.TheVariants.{Each}
use Rattle.proof_search.specs.Proved.{IsProved}
use Rattle.client_prover.specs.declared.proving.Answer.{Answer}
use Rattle.client_prover.specs.declared.proving.Answer.TheVariants.{Found, NotFound}
use Rattle.client_prover.specs.declared.proving.Wanted.{Wanted}

-- what is asked for: the goal at each second from the first to the last; conditions on the state may be left over
abbrev pub asked_for : Wanted → Asked
asked_for wanted = record { goal = wanted.goal; moments = Each wanted.from wanted.to; facts = []; leaves = true }

-- a line is that of `verify` with the goal that is asked for and a proof of it, which has a verdict, and conditions that hold
-- when it is asked for
abbrev pub IsAnswer : List Cite → Asked → Answer → Type 0
IsAnswer statements asked (Found line proved) =
    (line ≡ asked_text (lines.Command (Verify asked.goal proved.numbers proved.checked.proof)))
    × IsProved statements asked proved
IsAnswer statements asked (NotFound remark) = Unit {0}
