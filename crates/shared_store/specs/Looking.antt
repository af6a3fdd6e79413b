-- A turn that learns with its reply whether the node that the reply names is a directory (this
-- project's own).
use Rattle.std.specs.Prelude.{◌≡◌, ℕ, ℤ, List, ◌++◌, Bool, false, Option, Some, None}
use Rattle.bl_syntax.specs.declared.terms.NodeId.{NodeId}
use Rattle.file_world.specs.declared.reply.TreeReply.{TreeReply}
use Rattle.file_world.specs.declared.reply.TreeReply.TheVariants as trees
use Rattle.file_world.specs.declared.reply.OpReply.{OpReply}
use Rattle.file_world.specs.declared.reply.OpReply.TheVariants as operations
use Rattle.file_world.specs.Tree.{node_at}
use Rattle.file_world.specs.TreeEffect.{is_directory}
use Rattle.file_world.specs.World.{tree_of}
use Rattle.access_history.specs.declared.reply.StepReply.{StepReply}
use Rattle.access_history.specs.declared.reply.StepReply.TheVariants as steps
use Rattle.access_history.specs.Base.{BaseView}
use Rattle.tree_lock.specs.Seen.{PassView}
use Rattle.pcfs_store.specs.Entries.{StoreEntry, root_of, entries_of, state_of_entries}
use Rattle.session_history.specs.declared.request.TurnRequest.{TurnRequest}
use Rattle.session_history.specs.declared.reply.TurnReply.{TurnReply}
use Rattle.session_history.specs.declared.reply.TurnReply.TheVariants as turn_replies
use Rattle.session_history.specs.Turn.{StorePass, TurnPlaced}
use Rattle.shared_store.specs.declared.entry.LockEntry.{LockEntry}
use Rattle.shared_store.specs.OpenedView.{OpenedView}
use Rattle.shared_store.specs.Turning.{pass_at, TakesTurn}
use Rattle.shared_store.specs.Asking.{entries_seen, InEachHistory, HasAsked}

-- ---- the node that a reply names

abbrev pub tree_node : TreeReply → Option NodeId
tree_node trees.Done = None
tree_node (trees.Bytes bytes) = None
tree_node (trees.Names names) = None
tree_node (trees.Node node) = Some node

abbrev pub operation_node : OpReply → Option NodeId
operation_node (operations.Tree reply) = tree_node reply
operation_node (operations.Meta reply) = None

abbrev pub step_node : StepReply → Option NodeId
step_node (steps.Statement number) = None
step_node steps.Withdrawn = None
step_node (steps.Issue number times states) = None
step_node (steps.Procap p) = None
step_node (steps.Operation reply) = operation_node reply
step_node (steps.Denied denial) = None
step_node (steps.Refused refusal at) = None
step_node (steps.Rejected rejection) = None
step_node (steps.Absent number) = None

abbrev pub node_named : TurnReply → Option NodeId
node_named (turn_replies.Step reply) = step_node reply
node_named (turn_replies.Cited cites) = None
node_named turn_replies.LoggedIn = None
node_named turn_replies.Checkpointed = None
node_named turn_replies.Full = None
node_named turn_replies.Stopped = None
node_named turn_replies.NoMemory = None

-- ---- and whether it is a directory

abbrev pub is_directory_in : BaseView → Option NodeId → Bool
is_directory_in state None = false
is_directory_in state (Some node) = is_directory (node_at (tree_of state.world).rows node.0)

abbrev pub names_directory : BaseView → TurnReply → Bool
names_directory state reply = is_directory_in state (node_named reply)

-- what a store does in such a turn: the kind is that which the node has after it
pub record Looks {D : Type 0} (faults : D → ℕ) (gives : List StoreEntry → ℤ → Type 0) (request : TurnRequest)
    (before : OpenedView D) (pass : ℕ) (after : OpenedView D) (reply : TurnReply) (kind : Bool) : Type 0 where
  pub turned : TakesTurn faults gives request before pass after reply
  pub told : kind ≡ names_directory (state_of_entries (root_of after.opening) (entries_of after.store)) reply

-- the turn has its place in a history, and so has the kind: it is that after the entries before the
-- turn and those that it added
pub record LookPlaced (gives : List StoreEntry → ℤ → Type 0) (p : StorePass) (history : List StoreEntry) (from : ℕ)
    (request : TurnRequest) (reply : TurnReply) (kind : Bool) (to : ℕ) (given : List StoreEntry) : Type 0 where
  pub placed : TurnPlaced gives p history from request reply to given
  pub told : kind ≡ names_directory (state_of_entries p.root (placed.before ++ given)) reply

module _ {D : Type 0} where
  -- the pass took such a turn, and so it is in each history that begins with what it has seen then
  pub record HasLooked (gives : List StoreEntry → ℤ → Type 0) (request : TurnRequest) (old new : PassView (LockEntry D))
      (reply : TurnReply) (kind : Bool) : Type 0 where
    pub asked : HasAsked gives request old new reply
    pub placed : InEachHistory new (λ opening entries. LookPlaced gives (pass_at opening old.number)
        entries (entries_seen old) request reply kind (entries_seen new) asked.given)
