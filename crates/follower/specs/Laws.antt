-- Laws of a follower and its leader.
use Rattle.std.specs.Prelude.{◌≡◌, ◌⊎◌, ℕ, ℤ, List}
use Rattle.access_history.specs.declared.request.StepRequest.{StepRequest}
use Rattle.pcfs_store.specs.declared.reply.StoreReply.{StoreReply}
use Rattle.pcfs_store.specs.StoreView.{StoreView}
use Rattle.pcfs_store.specs.Steps.{Steps}
use Rattle.follower.specs.declared.taking.Taken.{Taken}
use Rattle.follower.specs.declared.taking.Taken.TheVariants.{Kept, Full, Stopped, NoMemory}
use Rattle.follower.specs.Taking.{Takes, next_number}
use Rattle.follower.specs.Following.{Follows, IsExported, IsPrefixOf}

-- After any list of steps the follower's history is lawful, and a prefix of the leader's by the
-- numbers of events.
abbrev pub FollowersHavePrefixes : (D E : Type 0) → (D → ℕ) → (E → ℕ) → Type 0
FollowersHavePrefixes D E leader_faults follower_faults =
    (leader : StoreView D) (follower : StoreView E) →
    Follows leader_faults follower_faults leader follower → IsPrefixOf leader follower

-- The event of the leader that has the follower's next number is kept, or full, or a disk fails or
-- memory runs out: it is never damaged, and neither known nor missing.
abbrev pub NextEventsAreTaken : (D E : Type 0) → (D → ℕ) → (E → ℕ) → Type 0
NextEventsAreTaken D E leader_faults follower_faults =
    (leader : StoreView D) (follower next : StoreView E) (number : ℕ) (payload : List ℕ) (taken : Taken) →
    Follows leader_faults follower_faults leader follower →
    IsExported leader number payload → number ≡ next_number follower →
    Takes follower_faults follower number payload taken next →
    (taken ≡ Kept) ⊎ (taken ≡ Full) ⊎ (taken ≡ Stopped) ⊎ (taken ≡ NoMemory)

-- what the leader has it still has after a step, under the same number
abbrev pub ExportedEventsStay : (D : Type 0) → (D → ℕ) → Type 0
ExportedEventsStay D faults =
    (leader next : StoreView D) (pass : ℕ) (clock : ℤ) (request : StepRequest) (reply : StoreReply) (number : ℕ) (payload : List ℕ) →
    Steps faults leader pass clock request reply next →
    IsExported leader number payload → IsExported next number payload

-- a delivery has one answer, but for disks that fail and memory that runs out
abbrev pub AnswersAreDetermined : (E : Type 0) → (E → ℕ) → Type 0
AnswersAreDetermined E faults =
    (follower next other : StoreView E) (number : ℕ) (payload : List ℕ) (taken told : Taken) →
    Takes faults follower number payload taken next →
    Takes faults follower number payload told other →
    (taken ≡ told) ⊎ (taken ≡ Stopped) ⊎ (taken ≡ NoMemory) ⊎ (told ≡ Stopped) ⊎ (told ≡ NoMemory)
