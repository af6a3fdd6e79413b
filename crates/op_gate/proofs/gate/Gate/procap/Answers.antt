-- The history is the gate's.
use Rattle.std.specs.Prelude.{IfOk, MatchOption}
use Rattle.std.proofs.Common.{subst}
use Rattle.access_history.specs.Replay.{replay}
use Rattle.op_gate.specs.Decision.{GateView}
use Rattle.access_history.specs.Numbered.{HasNone}
use Rattle.op_gate.specs.Issued.{IsProcapOf}
use Rattle.op_gate.proofs.gate.Gate.procap.Goals as goal

pub returns : goal.returns
returns c =
    subst (λ (g : GateView). IfOk c.issued_procap.result (λ found. MatchOption found (HasNone (replay g.base g.events).issues c.args.number) (IsProcapOf g.key (replay g.base g.events).issues c.args.number)))
    c.self.view_is c.issued_procap.ensures
