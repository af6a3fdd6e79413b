-- A script has exactly one outcome.
use Rattle.std.proofs.Common.{ℕ, List, refl}
use Rattle.line_text.specs.Lines.{lines_of}
use Rattle.line_wire.specs.declared.reply.LineReply.{LineReply}
use Rattle.pcfs_secrets.specs.declared.secrets.Secrets.{Secrets}
use Rattle.pcfs_session.specs.Laws.{IsOutcome}
use Rattle.pcfs_session.specs.ScriptRun.{ScriptState, fresh_start}
use Rattle.pcfs_session.proofs.LawfulRunLemmas.{IsLawfulStanding-fresh}
use Rattle.pcfs_session.proofs.OneOutcomeLemmas.{one_outcome}
use Rattle.pcfs_session.proofs.TotalLemmas.{has_outcome}

pub exact_outcome : (secrets : Secrets) (input : List ℕ) → (replies : List LineReply) × (end : ScriptState) × IsOutcome (fresh_start secrets) (lines_of input) replies end
exact_outcome secrets input =
    let stands = IsLawfulStanding-fresh secrets in
    let some = has_outcome (fresh_start secrets) (lines_of input) stands refl in (
      some.0,
      some.1,
      record {
        run = some.2;
        undisturbed = some.3;
        only = λ others other run calm. one_outcome (fresh_start secrets) other some.1 (lines_of input) others some.0 stands run calm some.2 some.3;
      },
    )
