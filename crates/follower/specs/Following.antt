-- A follower and its leader: the steps that both may make, in any order and number, and what joins
-- their histories (this project's own).
use Rattle.std.specs.Prelude.{◌≡◌, ◌+◌, ℕ, ℤ, List, ◌∷◌, ◌++◌, length, map}
use Rattle.bl_syntax.specs.TimeOrder.{IsMoment}
use Rattle.journal_records.specs.declared.event.Event.{Event}
use Rattle.access_history.specs.declared.request.StepRequest.{StepRequest}
use Rattle.access_history.specs.Base.{BaseView}
use Rattle.access_history.specs.Lawful.{IsLawful}
use Rattle.journal_records.specs.Passes.{erase}
use Rattle.access_history.specs.WellFormed.{IsWellFormed}
use Rattle.journal_records.specs.EventSpelling.{event_spelling}
use Rattle.pcfs_store.specs.declared.reply.StoreReply.{StoreReply}
use Rattle.pcfs_store.specs.Newest.{SurvivesWholeClosed}
use Rattle.pcfs_store.specs.StoredHistory.{Resumes}
use Rattle.pcfs_store.specs.StoreView.{StoreView, IsStore, authority_of_store}
use Rattle.pcfs_store.specs.Steps.{Steps}
use Rattle.recover.specs.Opening.{IsNewestHistory}
use Rattle.follower.specs.declared.taking.Taken.{Taken}
use Rattle.follower.specs.Taking.{Takes, LeavesTaking}

-- Two histories, each a base and events, are those of one history, but for passes: the first has it
-- whole from where it begins, and the second its first `kept` events. So the second is a prefix of
-- the first by the numbers of events.
pub record ArePrefix (leader_base : BaseView) (leader : List Event) (follower_base : BaseView) (follower : List Event) : Type 0 where
  pub base : BaseView
  pub events : List Event
  pub kept : ℕ
  pub leads : Resumes leader_base (map erase leader) base events (length events)
  pub follows : Resumes follower_base (map erase follower) base events kept

-- the leader has an event of that number since its base, and this is its payload
pub record IsExported {D : Type 0} (leader : StoreView D) (number : ℕ) (payload : List ℕ) : Type 0 where
  pub earlier : List Event
  pub event : Event
  pub later : List Event
  pub parts : leader.events ≡ earlier ++ event ∷ later
  pub number_is : number ≡ leader.base.count + length earlier + 1
  pub payload_is : payload ≡ event_spelling event

-- what a stop of the follower may leave on its disks: its history; or, within or after the delivery
-- of an event that the leader has, what that may leave
pub data Remains {D E : Type 0} (leader : StoreView D) (follower : StoreView E) (first second : List ℕ) : Type 0 where
  at_rest : SurvivesWholeClosed follower.base follower.events first second →
      Remains leader follower first second
  in_delivery : (number : ℕ) (payload : List ℕ) → IsExported leader number payload →
      LeavesTaking follower number payload first second → Remains leader follower first second

-- two stores with one key and one ring
pub record HaveOneAuthority {D E : Type 0} (leader : StoreView D) (follower : StoreView E) : Type 0 where
  pub key : follower.key ≡ leader.key
  pub ring : follower.ring ≡ leader.ring

-- both have lawful histories under one key and one ring, and the follower's is a prefix of the
-- leader's
pub record IsPrefixOf {D E : Type 0} (leader : StoreView D) (follower : StoreView E) : Type 0 where
  pub authority : HaveOneAuthority leader follower
  pub leader_lawful : IsLawful (authority_of_store leader) leader.base leader.events
  pub lawful : IsLawful (authority_of_store follower) follower.base follower.events
  pub prefix : ArePrefix leader.base leader.events follower.base follower.events

-- Leader and follower after any list of steps: of the leader; deliveries to the follower of any
-- event that the leader has, any number of times and in any order; and stops of the follower, whose
-- disks are opened again.
pub data Follows {D E : Type 0} (leader_faults : D → ℕ) (follower_faults : E → ℕ) : StoreView D → StoreView E → Type 0 where
  -- before the first step the follower's history is a prefix of the leader's
  began : (leader : StoreView D) (follower : StoreView E) → IsStore leader →
      IsPrefixOf leader follower → Follows leader_faults follower_faults leader follower
  -- the leader answers a request
  led : (leader next : StoreView D) (follower : StoreView E) (pass : ℕ) (clock : ℤ) (request : StepRequest) (reply : StoreReply) →
      Follows leader_faults follower_faults leader follower →
      IsMoment clock → IsWellFormed request →
      Steps leader_faults leader pass clock request reply next → IsStore next →
      Follows leader_faults follower_faults next follower
  -- an event of the leader is delivered
  delivered : (leader : StoreView D) (follower next : StoreView E) (number : ℕ) (payload : List ℕ) (taken : Taken) →
      Follows leader_faults follower_faults leader follower →
      IsExported leader number payload →
      Takes follower_faults follower number payload taken next →
      Follows leader_faults follower_faults leader next
  -- the follower stops, and what its disks have then is opened, under the same key and ring
  opened_again : (leader : StoreView D) (follower next : StoreView E) (first second : List ℕ) →
      Follows leader_faults follower_faults leader follower →
      Remains leader follower first second →
      HaveOneAuthority follower next →
      IsNewestHistory (authority_of_store follower) next.generation next.opened next.base next.events first second →
      Follows leader_faults follower_faults leader next
