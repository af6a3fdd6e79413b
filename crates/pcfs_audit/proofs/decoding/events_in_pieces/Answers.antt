-- The threads share the records.
use denote.Exit.{no}
use denote.Ref.{NamedLft}
use denote.Param.Send.{IsSync, arg_sync, param_sync, sendable}
use denote.Param.SendFields.{as_row_sync, declared_sync}
use Rattle.std.proofs.Crossing as heap
use Rattle.rayon.proofs.ListFacts.{IfOk-then}
use Rattle.pcfs_audit.specs.contracts.decoding.Decoding as Decoding
use Rattle.pcfs_audit.proofs.DecodingLemmas.{same_items}
use Rattle.pcfs_audit.proofs.decoding.events_in_pieces.Goals as goal

decoding_sync : (r : NamedLft) → IsSync (Decoding.the_row r)
decoding_sync r = declared_sync (Decoding.the_type r) (
  search (sendable, as_row_sync, heap.crosses, heap.sync) depth 40 fits 20000,
  (search (sendable, as_row_sync, heap.crosses, heap.sync) depth 40 fits 20000, tt),
)

pub examine_in_pieces-requires-sync-E : goal.examine_in_pieces-requires-sync-E
examine_in_pieces-requires-sync-E g c κs within = param_sync _ _ (arg_sync _ no _ (decoding_sync _))

pub returns : goal.returns
returns g c = IfOk-then c.examine_in_pieces.result _ _ c.examine_in_pieces.ensures (λ all found. same_items c.args.records.now all.items found.counted found.each)
