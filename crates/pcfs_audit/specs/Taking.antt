-- What an operation brings, and what becomes of it in a world (this project's own).
use Rattle.std.specs.Prelude.{◌≡◌, ◌≢◌, ◌↔◌, ℕ, ℤ, List, Bool, true, false, IsTrue, None}
use Rattle.std.specs.List.{AllByRecursion}
use Rattle.bl_syntax.specs.declared.grant.Goal.{Goal}
use Rattle.bl_syntax.specs.TimeOrder.{IsMoment}
use Rattle.procap.specs.Genuine.{IsGenuine}
use Rattle.procap.specs.declared.procap.Procap.{Procap}
use Rattle.file_world.specs.declared.operation.Op.{Op}
use Rattle.file_world.specs.Effect.{refusal, world_after}
use Rattle.file_world.specs.World.{World}
use Rattle.access_history.specs.Admission.{Admits, IsAdmitted}
use Rattle.access_history.specs.Base.{BaseView}
use Rattle.access_history.specs.WellFormed.{BringsEnough}
use Rattle.pcfs_audit.specs.declared.dossier.Dossier.{Dossier}
use Rattle.pcfs_audit.specs.declared.supports.Supports.{Supports}
use Rattle.pcfs_audit.specs.Supports.{TellsGone}

-- an operation has a moment of the range, and brings what it has to
pub record IsBrought (op : Op) (procaps : List Procap) (moment : ℤ) : Type 0 where
  pub in_range : IsMoment moment
  pub brought : BringsEnough op procaps

-- the operation is not refused, and its change was made; or it is, and the world is as it was
abbrev pub TakesPlace : List ℕ → Op → World → Bool → World → Type 0
TakesPlace caller op before true after = (refusal before op ≡ None)
    × (after ≡ world_after caller before op)
TakesPlace caller op before false after = (refusal before op ≢ None) × (after ≡ before)

-- ---- what tests tell, by the world of the state, what is gone in it, and whether seals are known
-- to be right

-- whether the procap passes all tests
abbrev pub TellsAdmits : World → Dossier → Supports → Bool → Procap → Goal → ℤ → Bool → Type 0
TellsAdmits world dossier supports is_sealed p wanted moment passes =
    (state : BaseView) → state.world ≡ world → TellsGone dossier supports state
    → (IsTrue is_sealed → IsGenuine dossier.key p)
    → IsTrue passes ↔ Admits dossier.key state moment wanted p

-- whether the operation is admitted
abbrev pub TellsAdmitted : World → Dossier → Supports → Bool → List ℕ → Op → List Procap → ℤ → Bool
    → Type 0
TellsAdmitted world dossier supports are_sealed caller op procaps moment admitted =
    (state : BaseView) → state.world ≡ world → TellsGone dossier supports state
    → (IsTrue are_sealed → AllByRecursion (IsGenuine dossier.key) procaps)
    → IsTrue admitted ↔ IsAdmitted dossier.key state caller op procaps moment
