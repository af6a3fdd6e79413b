-- Turns of a message, and what becomes of a walk, while others have their turns (this project's
-- own).
use Rattle.std.specs.Prelude.{◌≡◌, ◌≢◌, ◌≤◌, ◌⊎◌, ℕ, ℤ, List, length, Bool, Option, Some}
use Rattle.bl_syntax.specs.declared.terms.NodeId.{NodeId}
use Rattle.bl_syntax.specs.declared.terms.Perm.TheVariants as perms
use Rattle.procap.specs.declared.procap.Procap.{Procap}
use Rattle.tree_lock.specs.Seen.{PassView}
use Rattle.pcfs_store.specs.Entries.{StoreEntry}
use Rattle.session_history.specs.declared.request.TurnRequest.{TurnRequest}
use Rattle.session_history.specs.declared.reply.TurnReply.{TurnReply}
use Rattle.session_history.specs.declared.reply.TurnReply.TheVariants as turn_replies
use Rattle.shared_store.specs.declared.entry.LockEntry.{LockEntry}
use Rattle.shared_store.specs.Turning.{pass_at}
use Rattle.pcfs_store.specs.StoreView.{StoreView}
use Rattle.session_lines.specs.Turns.{CountsTurns}
use Rattle.shared_store.specs.Asking.{entries_seen, HasHistory, PassGoesOn, InEachHistory, HasAsked}
use Rattle.shared_store.specs.Looking.{node_named, HasLooked}
use Rattle.nine_messages.specs.Requests.{RequestView, tversion, tattach, tflush, twalk, topen, tread, twrite, tclunk, tother}
use Rattle.nine_fids.specs.declared.connection.Connection.{Connection}
use Rattle.nine_fids.specs.declared.control.Control.{Control}
use Rattle.nine_fids.specs.declared.fid.FidFile.{FidFile}
use Rattle.nine_fids.specs.declared.step.Step.{Step}
use Rattle.nine_fids.specs.declared.step.Step.TheVariants as steps
use Rattle.nine_fids.specs.Purse.{fitting}
use Rattle.nine_fids.specs.Steps.{decided}
use Rattle.nine_fids.specs.Tests.{IsAskedBy}
use Rattle.nine_front.specs.Asking.{look_of}
use Rattle.nine_front.specs.Placed.{WalksPlaced}
use Rattle.nine_front.specs.Turns.{walk_turns}

-- a walk came to the end of what the pass has seen then, or it took no turn
abbrev pub IsLatest : {D : Type 0} → PassView (LockEntry D) → PassView (LockEntry D) → ℕ → ℕ → ℕ →
    Type 0
IsLatest old new count from to = (to ≡ entries_seen new) ⊎
    ((count ≡ 0) × ((new ≡ old) × (to ≡ from)))

module _ {D : Type 0} (gives : List StoreEntry → ℤ → Type 0) where
  -- the pass took a turn, or there was no memory for what it was to ask
  abbrev pub MayHaveAsked : TurnRequest → PassView (LockEntry D) → PassView (LockEntry D) →
      TurnReply → Type 0
  MayHaveAsked request old new reply = HasAsked gives request old new reply ⊎
      ((new ≡ old) × (reply ≡ turn_replies.NoMemory))

  abbrev pub MayHaveLooked : TurnRequest → PassView (LockEntry D) → PassView (LockEntry D) →
      TurnReply → Bool → Type 0
  MayHaveLooked request old new reply kind = HasLooked gives request old new reply kind ⊎
      ((new ≡ old) × (reply ≡ turn_replies.NoMemory))

  -- the turn for a name of a walk named this node, and said whether it is a directory
  pub record HasFound (purse : List Procap) (who : List ℕ) (old new : PassView (LockEntry D))
      (node : NodeId) (name : List ℕ) (child : NodeId) (kind : Bool) : Type 0 where
    pub procap : Procap
    pub fits : fitting purse who node perms.Execute ≡ Some procap
    pub replied : TurnReply
    pub looked : HasLooked gives (look_of who node name procap) old new replied kind
    pub named : node_named replied ≡ Some child

  -- where a walk is placed in each history that begins with what the pass has seen, with so many
  -- turns
  pub record IsWalkedFrom (purse : List Procap) (who : List ℕ) (old new : PassView (LockEntry D))
      (node : NodeId) (names : List (List ℕ)) (found : List FidFile) (end : Option (List ℕ))
      (given : List StoreEntry) (count from : ℕ) : Type 0 where
    pub to : ℕ
    pub within : to ≤ entries_seen new
    pub latest : IsLatest old new count from to
    pub still : count ≡ 0 → to ≡ from
    pub placed : InEachHistory new (λ opening entries.
        (walk : WalksPlaced gives (pass_at opening old.number) entries purse who from node names found end to given)
        × (length (walk_turns walk) ≡ count))

  -- names were walked: the pass goes on, and the walk is placed, from any place up to which it had
  -- seen all before; the pass took as many turns as the walk has
  pub record HasWalked (purse : List Procap) (who : List ℕ) (old new : PassView (LockEntry D))
      (node : NodeId) (names : List (List ℕ)) (found : List FidFile) (end : Option (List ℕ)) : Type 0 where
    pub given : List StoreEntry
    pub goes_on : PassGoesOn old new given
    pub count : ℕ
    pub turns : CountsTurns count count old.turns new.turns
    pub known : count ≢ 0 → (opening : StoreView D) × HasHistory opening new
    pub still : count ≡ 0 → new ≡ old
    pub placed : (from : ℕ) → from ≤ entries_seen old →
        IsWalkedFrom purse who old new node names found end given count from

-- somebody is logged in
abbrev pub IsLoggedIn : Connection → Type 0
IsLoggedIn s = (who : List ℕ) × (s.caller ≡ Some who)

-- a request comes to this step, which leaves the state as it is
pub record ComesTo (s : Connection) (m : RequestView) (step : Step) : Type 0 where
  pub asked : Option Control
  pub asks : IsAskedBy s m asked
  pub is : decided s asked m ≡ (step, s)

-- the step is done in turns
abbrev pub NeedsTurns : Step → Type 0
NeedsTurns (steps.Refused error) = ⊥
NeedsTurns (steps.Answered answer) = ⊥
NeedsTurns (steps.Login who signature) = Unit {0}
NeedsTurns (steps.Read node p offset len) = Unit {0}
NeedsTurns (steps.Write node p offset) = Unit {0}
NeedsTurns (steps.Walk node) = Unit {0}

-- the request walks names
abbrev pub IsWalk : RequestView → Type 0
IsWalk (tversion msize version) = ⊥
IsWalk (tattach fid afid uname aname) = ⊥
IsWalk (tflush oldtag) = ⊥
IsWalk (twalk fid newfid names) = Unit {0}
IsWalk (topen fid mode) = ⊥
IsWalk (tread fid offset count) = ⊥
IsWalk (twrite fid offset bytes) = ⊥
IsWalk (tclunk fid) = ⊥
IsWalk (tother kind body) = ⊥
