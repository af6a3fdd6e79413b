-- Each request has its turn.
use Rattle.std.proofs.lemmas.Int.{to_z-of_z}
use Rattle.std.specs.Int.{w64}
use Rattle.std.proofs.Common.{◌≡◌, subst}
use Rattle.session_history.specs.declared.request.TurnRequest.{TurnRequest}
use Rattle.shared_store.specs.Turning.{HasTurned}
use Rattle.access_history.proofs.HistoryLemmas.{SFits-moment}
use Rattle.shared_store.proofs.TurningLemmas.{turned_by_look, turned_by_request}
use Rattle.shared_store.proofs.opened.OpenedStore.answer.Goals as goal

pub returns-in-Step : goal.returns-in-Step
returns-in-Step g c = turned_by_request g.D.Disk.faults c.args.self.now c.step.new.self c.args.pass _ c.args.clock _ c.args.request c.step.result (to_z-of_z w64 c.args.clock (SFits-moment c.args.clock c.requires)) c.in-Step.ensures.same c.step.ensures

pub returns-in-Cite : goal.returns-in-Cite
returns-in-Cite g c = turned_by_look g.D.Disk.faults c.args.self.now c.args.pass c.args.clock _ c.args.request c.cite.result c.in-Cite.ensures.same c.cite.ensures

pub returns-in-Login : goal.returns-in-Login
returns-in-Login g c = turned_by_look g.D.Disk.faults c.args.self.now c.args.pass c.args.clock _ c.args.request c.log_in.result c.in-Login.ensures.same c.log_in.ensures

pub returns-in-Checkpoint : goal.returns-in-Checkpoint
returns-in-Checkpoint g c =
    subst (λ (r : TurnRequest). HasTurned g.D.Disk.faults (λ _ moment. moment ≡ c.args.clock) r c.args.self.now c.args.pass c.checkpoint.new.self c.checkpoint.result) c.in-Checkpoint.ensures.same (c.checkpoint.ensures c.args.clock)
