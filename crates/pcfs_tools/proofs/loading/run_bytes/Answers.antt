-- If the status is 0, the script was run to its end, and the output has its replies.
use Rattle.std.proofs.Common.{List, ap, ap₂, refl, ◌∙◌, Some}
use Rattle.access_history.specs.Base.{BaseView}
use Rattle.access_history.specs.Replay.{replay}
use Rattle.journal_records.specs.declared.event.Event.{Event}
use Rattle.op_gate.specs.Decision.{GateView}
use Rattle.pcfs_ports.specs.MemorySource.{MemorySourceView}
use Rattle.pcfs_tools.proofs.LoadLemmas.{IsRunThrough-done}
use Rattle.pcfs_tools.proofs.loading.run_bytes.Goals as goal

pub returns : goal.returns
returns g c told empty done told_is =
    let base = c.history.ensures.base ∙ ap (λ (v : GateView). v.base) c.gate.ensures in
    let events = c.history.ensures.events ∙ ap (λ (v : GateView). v.events) c.gate.ensures in
    let count = c.count.ensures ∙ ap₂ (λ (b : BaseView) (es : List Event). (replay b es).count) base events in
    IsRunThrough-done _ _ _ _ _ _ _ _ _ _ c.args.script _ told _ c.count.result c.run_over-status.ensures.1 done (ap (λ (s : MemorySourceView). Some s.left) c.new-input.ensures) (ap Some empty) refl count told_is
