-- A store may go to another thread, and the sessions over it may be shared with others.
use denote.RattleType.{RattleType}
use denote.Ref.{NamedLft, ShrRef}
use denote.Struct.Field.{row_field, shr_ref_field}
use denote.Param.Send.{IsSend, IsSync, sendable, shr_sync, view_send}
use denote.Param.SendFields.{declared_send, declared_sync, as_row_send, as_row_sync}
use Rattle.pcfs_store.specs.contracts.store.Store.TheInside as inside
use Rattle.shared_store.specs.contracts.opened.OpenedStore.TheInside as opened
use Rattle.access_history.specs.contracts.history.History.TheInside as history
use Rattle.journal_core.proofs.area.Area.TheSendSync as area
use Rattle.std.proofs.Crossing.{crosses, Vec-send}
use Rattle.std.proofs.MapsCrossing as maps
use Rattle.bl_syntax.proofs.formula.Formula.TheLaws.TheKnot.{send-Formula}
use Rattle.proof_term.proofs.proof.Proof.TheLaws.TheKnot.{send-Proof, hole_send-Proof}
use Rattle.file_world.proofs.operation.Op.TheSendSync as op
use Rattle.bl_syntax.proofs.lists.Sequence.TheSendSync as sequence
use Rattle.bl_syntax.proofs.grant.Grant.TheSendSync as grant
use Rattle.procap.proofs.procap.Procap.TheSendSync as procap
use Rattle.access_history.proofs.issue_record.IssueRecord.TheSendSync as issue_record
use Rattle.bl_syntax.proofs.names.Principal.TheSendSync as principal
use Rattle.bl_syntax.specs.contracts.formula.Formula as Formula
use Rattle.bl_syntax.specs.contracts.statement.Statement as Statement
use Rattle.proof_term.specs.contracts.proof.Proof as Proof
use Rattle.proof_term.specs.contracts.tree.ProofTree as ProofTree
use Rattle.pcfs_hmac.specs.contracts.keyed.Mac as Mac
use Rattle.procap.specs.contracts.sealing.SealKey as SealKey
use Rattle.policy_statement.specs.contracts.ring.Keyring as Keyring
use Rattle.policy_statement.specs.contracts.registry.Registry as Registry
use Rattle.issue_standings.specs.contracts.standings.Standings as Standings
use Rattle.journal_records.specs.contracts.event.Event as Event
use Rattle.journal_records.specs.contracts.record.EventRecord as EventRecord
use Rattle.access_history.specs.contracts.event.Addition as Addition
use Rattle.access_history.specs.contracts.issue_record.IssueRecord as IssueRecord
use Rattle.access_history.specs.contracts.base.Base as Base
use Rattle.access_history.specs.contracts.history.History as History
use Rattle.world_state.specs.contracts.world.World as World
use Rattle.op_gate.specs.contracts.planned.Pending as Pending
use Rattle.op_gate.specs.contracts.planned.Recorded as RecordedEvent
use Rattle.op_gate.specs.contracts.gate.Gate as Gate
use Rattle.pcfs_ports.specs.declared.disk.Disk as Disk
use Rattle.pcfs_store.specs.contracts.checkpoints.Checkpoint as Checkpoint
use Rattle.pcfs_store.specs.contracts.store.Store as Store
use Rattle.shared_store.specs.contracts.opened.OpenedStore as Opened
use Rattle.tree_lock.specs.declared.recorded.Recorded as Recorded
use Rattle.tree_lock.specs.contracts.parts.TreeLock as TreeLock
use Rattle.tree_lock.proofs.parts.TreeLock.TheSendSync as lock
use Rattle.nine_service.specs.contracts.service.NineService as Nine
use Rattle.session_service.specs.contracts.service.SessionService as Service

formula_send : IsSend Formula.the_row
formula_send = search (sendable, crosses, send-Formula) depth 100 fits 20000

statement_send : IsSend Statement.the_row
statement_send = search (sendable, crosses, send-Formula) depth 100 fits 20000

proof_send : IsSend Proof.the_row
proof_send = search (sendable, crosses, send-Proof) depth 100 fits 20000

tree_send : IsSend ProofTree.the_row
tree_send = search (sendable, crosses, send-Proof, hole_send-Proof) depth 100 fits 20000

mac_send : IsSend Mac.the_row
mac_send = search (sendable, crosses) depth 100 fits 20000

key_send : IsSend SealKey.the_row
key_send = search (sendable, crosses, mac_send) depth 100 fits 20000

ring_send : IsSend Keyring.the_row
ring_send = search (sendable, crosses, mac_send) depth 100 fits 20000

registry_send : IsSend Registry.the_row
registry_send = search (sendable, crosses, statement_send) depth 100 fits 20000

standings_send : IsSend Standings.the_row
standings_send = search (sendable, crosses, maps.crosses) depth 100 fits 20000

world_send : IsSend World.the_row
world_send = search (sendable, crosses, maps.crosses) depth 100 fits 20000

record_send : IsSend EventRecord.the_row
record_send = search (sendable, crosses, sequence.the_send) depth 100 fits 20000

issue_send : IsSend IssueRecord.the_row
issue_send = issue_record.the_send

addition_send : IsSend Addition.the_row
addition_send = search (sendable, crosses, statement_send, issue_record.the_send) depth 100 fits 20000

base_send : IsSend Base.the_row
base_send = search (sendable, crosses, world_send, statement_send, issue_send) depth 100 fits 20000

-- each field in the order of the struct: the key, the ring, the base, the events, the world, the statements, the issues, the standings, the
-- moment, the count
history_inside : IsSend history.the_row
history_inside = declared_send history.the_type (
  search (sendable, as_row_send, crosses, key_send) depth 100 fits 20000,
  (
    search (sendable, as_row_send, crosses, ring_send) depth 100 fits 20000,
    (
      search (sendable, crosses, base_send) depth 100 fits 20000,
      (
        search (sendable, as_row_send, crosses, record_send) depth 100 fits 20000,
        (
          search (sendable, crosses, world_send) depth 100 fits 20000,
          (
            search (sendable, crosses, registry_send) depth 100 fits 20000,
            (
              search (sendable, as_row_send, crosses, issue_send) depth 100 fits 20000,
              (
                search (sendable, crosses, standings_send) depth 100 fits 20000,
                (
                  search (sendable, as_row_send, crosses) depth 100 fits 20000,
                  (search (sendable, as_row_send, crosses) depth 100 fits 20000, tt),
                ),
              ),
            ),
          ),
        ),
      ),
    ),
  ),
)

history_send : IsSend History.the_row
history_send = view_send history.the_row _ _ _ _ history_inside

event_field : IsSend Event.the_field.row
event_field = search (sendable, crosses, statement_send, tree_send, op.the_field_send, sequence.the_send, grant.the_send, procap.the_send, principal.the_send) depth 100 fits 20000

addition_field : IsSend Addition.the_field.row
addition_field = search (sendable, crosses, statement_send, issue_record.the_send) depth 100 fits 20000

pending_field : IsSend Pending.the_field.row
pending_field = search (sendable, crosses, event_field, addition_field) depth 100 fits 20000

recorded_send : IsSend RecordedEvent.the_row
recorded_send = search (sendable, crosses, pending_field, record_send) depth 100 fits 20000

pub gate_send : IsSend Gate.the_row
gate_send = search (sendable, crosses, history_send, recorded_send) depth 100 fits 20000

checkpoint_send : IsSend Checkpoint.the_row
checkpoint_send = search (sendable, crosses) depth 100 fits 20000

-- each field in the order of the struct: the area, the other disk, which is the second, the generation, the image that was read, the gate, the
-- checkpoints, the stop
store_inside : (D : RattleType) (g : Disk.Ghosts D.Denot) → IsSend D → IsSend (inside.the_row D g)
store_inside D g send = declared_send (inside.the_type D g) (
  search (sendable, as_row_send, crosses, area.the_send, send) depth 100 fits 20000,
  (
    search (sendable, crosses, send) depth 100 fits 20000,
    (
      search (sendable, as_row_send, crosses) depth 100 fits 20000,
      (
        search (sendable, as_row_send, crosses) depth 100 fits 20000,
        (
          search (sendable, as_row_send, crosses) depth 100 fits 20000,
          (
            search (sendable, crosses, gate_send) depth 100 fits 20000,
            (
              Vec-send Checkpoint.the_row checkpoint_send,
              (search (sendable, as_row_send, crosses) depth 100 fits 20000, tt),
            ),
          ),
        ),
      ),
    ),
  ),
)

pub store_send : (D : RattleType) (g : Disk.Ghosts D.Denot) → IsSend D → IsSend (Store.the_row D g)
store_send D g send = view_send (inside.the_row D g) _ _ _ _ (store_inside D g send)

opened_inside : (D : RattleType) (g : Disk.Ghosts D.Denot) → IsSend D → IsSend (opened.the_row D g)
opened_inside D g send = search (sendable, as_row_send, declared_send, crosses, store_send, send) depth 100 fits 20000

pub opened_send : (D : RattleType) (g : Disk.Ghosts D.Denot) → IsSend D → IsSend (Opened.the_row D g)
opened_send D g send = view_send (opened.the_row D g) _ _ _ _ (opened_inside D g send)

-- a service may be shared, whatever its nonces and its listener are: it has them for contracts alone
pub service_sync : (κ : NamedLft) (V C N L E : RattleType) (g : Recorded.Ghosts V.Denot E.Denot) → IsSend V → IsSync C → IsSync (Service.the_row κ V C N L E g)
service_sync κ V C N L E g send sync = declared_sync (Service.the_type κ V C N L E g) (
  as_row_sync (shr_ref_field κ (TreeLock.the_row V E g) tt) (shr_sync κ.mir κ.lft (TreeLock.the_row V E g) (lock.the_sync V E g send)),
  (
    as_row_sync (row_field (ShrRef κ.mir κ.lft C)) (shr_sync κ.mir κ.lft C sync),
    (search (sendable, crosses) depth 100 fits 20000, (search (sendable, crosses) depth 100 fits 20000, tt)),
  ),
)

-- and so may one of 9P2000
pub nine_sync : (κ : NamedLft) (V C N L E : RattleType) (g : Recorded.Ghosts V.Denot E.Denot) → IsSend V → IsSync C → IsSync (Nine.the_row κ V C N L E g)
nine_sync κ V C N L E g send sync = declared_sync (Nine.the_type κ V C N L E g) (
  as_row_sync (shr_ref_field κ (TreeLock.the_row V E g) tt) (shr_sync κ.mir κ.lft (TreeLock.the_row V E g) (lock.the_sync V E g send)),
  (
    as_row_sync (row_field (ShrRef κ.mir κ.lft C)) (shr_sync κ.mir κ.lft C sync),
    (search (sendable, crosses) depth 100 fits 20000, (search (sendable, crosses) depth 100 fits 20000, tt)),
  ),
)
