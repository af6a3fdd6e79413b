-- The needs before this place are met.
use Rattle.std.proofs.Common.{◌≡◌, take}
use Rattle.std.specs.Prelude.{IsTrue}
use Rattle.std.specs.List.{AllByRecursion}
use Rattle.procap.specs.Genuine.{IsGenuine}
use Rattle.world_state.specs.Needed.{placed}
use Rattle.access_history.specs.Admission.{IsNeedMet}
use Rattle.access_history.specs.Base.{BaseView}
use Rattle.pcfs_audit.specs.Supports.{TellsGone}
use Rattle.pcfs_audit.proofs.admission.is_admitted.Given as goal

abbrev pub invariant-loop-place : goal.invariant-loop-place
invariant-loop-place l = (state : BaseView) → state.world ≡ l.world.world → TellsGone l.dossier l.supports state → (IsTrue l.are_sealed → AllByRecursion (IsGenuine l.dossier.key) l.procaps) → AllByRecursion (IsNeedMet l.dossier.key state l.caller l.procaps l.moment) (placed 1 (take l.place l.pairs))
