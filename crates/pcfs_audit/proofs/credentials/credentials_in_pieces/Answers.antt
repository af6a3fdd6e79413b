-- The threads share the dossier and the ring.
use denote.Exit.{no}
use denote.RattleType.{RattleType}
use denote.Ref.{NamedLft}
use denote.Param.Send.{IsSync, arg_sync, param_sync, sendable}
use denote.Param.SendFields.{as_row_sync, declared_sync}
use Rattle.std.proofs.Crossing as heap
use Rattle.rayon.proofs.ListFacts.{IfOk-then}
use Rattle.pcfs_audit.proofs.CrossingLemmas.{dossier_sync}
use Rattle.pcfs_audit.specs.contracts.credentials.Examination as Examination
use Rattle.pcfs_audit.proofs.credentials.credentials_in_pieces.Goals as goal

examination_sync : (d h : NamedLft) (S : RattleType) → IsSync S → IsSync (Examination.the_row d h S)
examination_sync d h S sync = declared_sync (Examination.the_type d h S) (
  search (sendable, as_row_sync, heap.crosses, heap.sync) depth 40 fits 20000,
  (
    search (sendable, as_row_sync, heap.crosses, dossier_sync) depth 40 fits 20000,
    (search (sendable, as_row_sync, heap.crosses, sync) depth 40 fits 20000, tt),
  ),
)

pub examine_in_pieces-requires-sync-E : goal.examine_in_pieces-requires-sync-E
examine_in_pieces-requires-sync-E g c κs within = param_sync _ _ (arg_sync _ no _ (examination_sync _ _ _ c.type_bounds.sync-S))

pub returns : goal.returns
returns g c = IfOk-then c.examine_in_pieces.result _ _ c.examine_in_pieces.ensures (λ all found. record { counted = found.counted; each = found.each })
