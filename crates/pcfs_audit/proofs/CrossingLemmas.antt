-- What threads may share of a history, and of a ring.
use denote.Param.Send.{IsSync, sendable}
use denote.Param.SendFields.{declared_sync, as_row_sync, variants_sync}
use denote.Ref.{NamedLft}
use Rattle.std.proofs.Crossing.{crosses}
use Rattle.pcfs_audit.specs.contracts.dossier.Dossier as Dossier
use Rattle.pcfs_audit.specs.contracts.papers.Papers as Papers
use Rattle.pcfs_audit.proofs.papers.Before.TheSendSync as before
use Rattle.std.proofs.MapsCrossing as maps
use Rattle.bl_syntax.proofs.formula.Formula.TheLaws.TheKnot as formula
use Rattle.bl_syntax.proofs.grant.Goal.TheSendSync as goal
use Rattle.bl_syntax.proofs.grant.Grant.TheSendSync as grant
use Rattle.bl_syntax.proofs.lists.Sequence.TheSendSync as sequence
use Rattle.bl_syntax.proofs.names.Principal.TheSendSync as principal
use Rattle.bl_syntax.proofs.names.Text.TheSendSync as text
use Rattle.bl_syntax.proofs.names.Word.TheSendSync as word
use Rattle.bl_syntax.proofs.short.Short.TheSendSync as short
use Rattle.bl_syntax.proofs.terms.Constraint.TheSendSync as constraint
use Rattle.bl_syntax.proofs.terms.NodeId.TheSendSync as node
use Rattle.bl_syntax.proofs.terms.Perm.TheSendSync as perm
use Rattle.bl_syntax.proofs.terms.Sort.TheSendSync as sort
use Rattle.bl_syntax.proofs.terms.StatePred.TheSendSync as state
use Rattle.bl_syntax.proofs.terms.Term.TheSendSync as term
use Rattle.bl_syntax.proofs.terms.TimePoint.TheSendSync as point
use Rattle.bl_syntax.specs.contracts.statement.Statement as Statement
use Rattle.policy_statement.specs.contracts.ring.Keyring as Keyring
use Rattle.proof_term.proofs.proof.Proof.TheLaws.TheKnot as proof
use Rattle.proof_term.specs.contracts.tree.ProofTree as ProofTree
use Rattle.procap.proofs.procap.Procap.TheSendSync as procap
use Rattle.procap.specs.contracts.sealing.SealKey as SealKey
use Rattle.access_history.proofs.issue_record.IssueRecord.TheSendSync as issue_record
use Rattle.pcfs_hmac.proofs.given.NoBytes.TheSendSync as no_bytes
use Rattle.sha2.proofs.Sha256.TheSendSync as sha256
use Rattle.sha2.proofs.block256.Core256.TheSendSync as core256
use Rattle.file_world.proofs.operation.Op.TheSendSync as op
use Rattle.world_state.proofs.world.World.TheSendSync as world
use Rattle.access_history.specs.contracts.base.Base as Base
use Rattle.journal_records.specs.contracts.event.Event as Event

ruleset marks = (sequence.the_sync, principal.the_sync, text.the_sync, word.the_sync, short.the_sync, constraint.the_sync, node.the_sync, perm.the_sync, sort.the_sync, state.the_sync, term.the_sync, point.the_sync, point.the_field_sync, goal.the_sync, grant.the_sync)

pub statement_sync : IsSync Statement.the_row
statement_sync = search (sendable, as_row_sync, declared_sync, crosses, formula.sync-Formula, marks) depth 40 fits 20000

pub tree_sync : IsSync ProofTree.the_row
tree_sync = search (sendable, as_row_sync, declared_sync, crosses, proof.sync-Proof, marks) depth 40 fits 20000

ruleset fields = (sequence.the_sync, principal.the_sync, statement_sync, tree_sync, grant.the_sync)

-- of each variant, field by field
pub event_sync : IsSync Event.the_row
event_sync = variants_sync Event.enum (
  search (sendable, as_row_sync, crosses, fields) depth 40 fits 20000,
  (
    search (sendable, as_row_sync, crosses, fields) depth 40 fits 20000,
    (
      search (sendable, as_row_sync, crosses, fields) depth 40 fits 20000,
      (search (sendable, as_row_sync, declared_sync, crosses, fields, procap.the_sync, op.the_sync, marks) depth 40 fits 20000, tt),
    ),
  ),
)

pub base_sync : IsSync Base.the_row
base_sync = search (sendable, as_row_sync, declared_sync, crosses, statement_sync, issue_record.the_sync, formula.sync-Formula, world.the_sync, marks) depth 60 fits 20000

pub key_sync : IsSync SealKey.the_row
key_sync = search (sendable, as_row_sync, declared_sync, crosses, sha256.the_sync, core256.the_sync, no_bytes.the_sync) depth 40 fits 20000

pub papers_sync : (l : NamedLft) → IsSync (Papers.the_row l)
papers_sync l = search (sendable, as_row_sync, declared_sync, crosses, statement_sync, grant.the_sync, before.the_sync) depth 40 fits 20000

pub dossier_sync : (l : NamedLft) → IsSync (Dossier.the_row l)
dossier_sync l = search (sendable, as_row_sync, declared_sync, crosses, maps.crosses, key_sync, base_sync, event_sync, papers_sync) depth 40 fits 20000

pub ring_sync : IsSync Keyring.the_row
ring_sync = search (sendable, as_row_sync, declared_sync, crosses, principal.the_sync, short.the_sync, sha256.the_sync, core256.the_sync, no_bytes.the_sync) depth 40 fits 20000
