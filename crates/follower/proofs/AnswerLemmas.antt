-- A delivery has one answer, but for faults of disks and lack of memory.
use Rattle.std.proofs.Common.{◌≡◌, ◌+◌, ◌<◌, ◌≤◌, ◌⊎◌, ℕ, List, [], ◌++◌, refl, sym, ap, subst, ◌∙◌, inl, inr, arith}
use Rattle.journal_records.specs.declared.event.Event.{Event}
use Rattle.access_history.specs.Authority.{Authority}
use Rattle.access_history.specs.Base.{BaseView}
use Rattle.journal_records.specs.EventSpelling.{event_spelling, IsReadEvent}
use Rattle.journal_records.proofs.EventLemmas.{apart}
use Rattle.op_gate.specs.declared.damage.Damage.{Damage}
use Rattle.op_gate.specs.Damage.{IsDamagedBy}
use Rattle.op_gate.proofs.AdmitLemmas.{damaged_not_next, first_damages}
use Rattle.pcfs_store.specs.StoreView.{StoreView, authority_of_store, state_of_store}
use Rattle.pcfs_store.specs.Steps.{IsFullFor}
use Rattle.pcfs_store.specs.Admitting.{MayEnter}
use Rattle.recover.specs.AreaDamage.{IsDamagedPayload, no_event, of_event}
use Rattle.follower.specs.declared.taking.Taken.{Taken}
use Rattle.follower.specs.declared.taking.Taken.TheVariants.{Kept, Known, Missing, Damaged, Full, Stopped, NoMemory}
use Rattle.follower.specs.Taking.{IsPayloadOf, IsNextEvent, Takes, stopped, known, missing, damaged, full, failed, kept, without_memory, last_number, next_number}

-- ---- payloads

one_event : (payload : List ℕ) (event other : Event) → IsReadEvent event → IsReadEvent other → payload ≡ event_spelling event → payload ≡ event_spelling other → event ≡ other
one_event payload event other read again spelled likewise =
    let same : event_spelling event ++ [] ≡ event_spelling other ++ [] = ap (λ (b : List ℕ). b ++ []) (sym spelled ∙ likewise) in
    sym read.erased ∙ (apart event other [] [] read.spelled again.spelled same).0 ∙ again.erased

one_damage : (authority : Authority) (state : BaseView) (payload : List ℕ) (c d : Damage) → IsDamagedPayload authority state payload c → IsDamagedPayload authority state payload d → c ≡ d
one_damage authority state payload _ _ (no_event none) (no_event neither) = refl
one_damage authority state payload _ _ (no_event none) (of_event event d read spelled is) = absurd (none event read.spelled spelled)
one_damage authority state payload _ _ (of_event event c read spelled is) (no_event none) = absurd (none event read.spelled spelled)
one_damage authority state payload _ _ (of_event event c read spelled is) (of_event other d again likewise also) =
    first_damages authority state other c d (subst (λ (e : Event). IsDamagedBy authority state e c) (one_event payload event other read again spelled likewise) is) also

-- a payload whose event may come next is not damaged
not_damaged : (authority : Authority) (state : BaseView) (payload : List ℕ) (damage : Damage) (event : Event) → IsPayloadOf event payload → ((other : Event) → event ≡ other → IsDamagedBy authority state other damage → ⊥) →
    IsDamagedPayload authority state payload damage → ⊥
not_damaged authority state payload _ event payload_is may (no_event none) = none event payload_is.read.spelled payload_is.spelled
not_damaged authority state payload damage event payload_is may (of_event other _ read spelled is) = may other (one_event payload event other payload_is.read read payload_is.spelled spelled) is

past : (n last : ℕ) → n ≤ last → n ≡ last + 1 → ⊥
past n last few is = omega (arith, few, is)

before : (n last : ℕ) → last + 1 < n → n ≡ last + 1 → ⊥
before n last more is = omega (arith, more, is)

apart_from : (n last : ℕ) → n ≤ last → last + 1 < n → ⊥
apart_from n last few more = omega (arith, few, more)

module _ {E : Type 0} (faults : E → ℕ) (follower : StoreView E) (number : ℕ) (payload : List ℕ) where
  -- it was that answer, or a disk failed or memory ran out
  abbrev IsAlso : Taken → Taken → Type 0
  IsAlso taken told = (taken ≡ told) ⊎ (told ≡ Stopped) ⊎ (told ≡ NoMemory)

  next_event : (event other : Event) → IsNextEvent follower number payload event → IsNextEvent follower number payload other → event ≡ other
  next_event event other n m = one_event payload event other n.payload_is.read m.payload_is.read n.payload_is.spelled m.payload_is.spelled

  undamaged : (event : Event) (damage : Damage) → IsNextEvent follower number payload event → IsDamagedPayload (authority_of_store follower) (state_of_store follower) payload damage → ⊥
  undamaged event damage n is =
      not_damaged (authority_of_store follower) (state_of_store follower) payload damage event n.payload_is
      (λ other same damaged. damaged_not_next (authority_of_store follower) (state_of_store follower) other damage damaged (subst (MayEnter follower) same n.enters)) is

  known_alone : number ≤ last_number follower → (told : Taken) (next : StoreView E) → Takes faults follower number payload told next → IsAlso Known told
  known_alone few _ _ (stopped earlier stop) = inr (inl refl)
  known_alone few _ _ (known goes also) = inl refl
  known_alone few _ _ (missing goes more) = absurd (apart_from number (last_number follower) few more)
  known_alone few _ _ (damaged damage goes at is) = absurd (past number (last_number follower) few at)
  known_alone few _ _ (full event goes n is_full) = absurd (past number (last_number follower) few n.numbered)
  known_alone few _ _ (failed event active goes n fits risen) = inr (inl refl)
  known_alone few _ _ (kept event active goes n fits stood) = absurd (past number (last_number follower) few n.numbered)
  known_alone few _ _ (without_memory goes at) = inr (inr refl)

  missing_alone : next_number follower < number → (told : Taken) (next : StoreView E) → Takes faults follower number payload told next → IsAlso (Missing (next_number follower)) told
  missing_alone more _ _ (stopped earlier stop) = inr (inl refl)
  missing_alone more _ _ (known goes few) = absurd (apart_from number (last_number follower) few more)
  missing_alone more _ _ (missing goes also) = inl refl
  missing_alone more _ _ (damaged damage goes at is) = absurd (before number (last_number follower) more at)
  missing_alone more _ _ (full event goes n is_full) = absurd (before number (last_number follower) more n.numbered)
  missing_alone more _ _ (failed event active goes n fits risen) = inr (inl refl)
  missing_alone more _ _ (kept event active goes n fits stood) = absurd (before number (last_number follower) more n.numbered)
  missing_alone more _ _ (without_memory goes at) = inr (inr refl)

  damaged_alone : (damage : Damage) → number ≡ next_number follower → IsDamagedPayload (authority_of_store follower) (state_of_store follower) payload damage → (told : Taken) (next : StoreView E) →
      Takes faults follower number payload told next → IsAlso (Damaged damage) told
  damaged_alone damage at is _ _ (stopped earlier stop) = inr (inl refl)
  damaged_alone damage at is _ _ (known goes few) = absurd (past number (last_number follower) few at)
  damaged_alone damage at is _ _ (missing goes more) = absurd (before number (last_number follower) more at)
  damaged_alone damage at is _ _ (damaged other goes there also) = inl (ap Damaged (one_damage (authority_of_store follower) (state_of_store follower) payload damage other is also))
  damaged_alone damage at is _ _ (full event goes n is_full) = absurd (undamaged event damage n is)
  damaged_alone damage at is _ _ (failed event active goes n fits risen) = inr (inl refl)
  damaged_alone damage at is _ _ (kept event active goes n fits stood) = absurd (undamaged event damage n is)
  damaged_alone damage at is _ _ (without_memory goes there) = inr (inr refl)

  full_alone : (event : Event) → IsNextEvent follower number payload event → IsFullFor follower event → (told : Taken) (next : StoreView E) → Takes faults follower number payload told next → IsAlso Full told
  full_alone event n is_full _ _ (stopped earlier stop) = inr (inl refl)
  full_alone event n is_full _ _ (known goes few) = absurd (past number (last_number follower) few n.numbered)
  full_alone event n is_full _ _ (missing goes more) = absurd (before number (last_number follower) more n.numbered)
  full_alone event n is_full _ _ (damaged damage goes at is) = absurd (undamaged event damage n is)
  full_alone event n is_full _ _ (full other goes m also) = inl refl
  full_alone event n is_full _ _ (failed other active goes m fits risen) = inr (inl refl)
  full_alone event n is_full _ _ (kept other active goes m fits stood) = absurd (fits (subst (IsFullFor follower) (next_event event other n m) is_full))
  full_alone event n is_full _ _ (without_memory goes at) = inr (inr refl)

  kept_alone : (event : Event) → IsNextEvent follower number payload event → (IsFullFor follower event → ⊥) → (told : Taken) (next : StoreView E) → Takes faults follower number payload told next → IsAlso Kept told
  kept_alone event n fits _ _ (stopped earlier stop) = inr (inl refl)
  kept_alone event n fits _ _ (known goes few) = absurd (past number (last_number follower) few n.numbered)
  kept_alone event n fits _ _ (missing goes more) = absurd (before number (last_number follower) more n.numbered)
  kept_alone event n fits _ _ (damaged damage goes at is) = absurd (undamaged event damage n is)
  kept_alone event n fits _ _ (full other goes m is_full) = absurd (fits (subst (IsFullFor follower) (next_event other event m n) is_full))
  kept_alone event n fits _ _ (failed other active goes m also risen) = inr (inl refl)
  kept_alone event n fits _ _ (kept other active goes m also stood) = inl refl
  kept_alone event n fits _ _ (without_memory goes at) = inr (inr refl)

  widen : (taken told : Taken) → IsAlso taken told → (taken ≡ told) ⊎ (taken ≡ Stopped) ⊎ (taken ≡ NoMemory) ⊎ (told ≡ Stopped) ⊎ (told ≡ NoMemory)
  widen taken told (inl same) = inl same
  widen taken told (inr (inl halted)) = inr (inr (inr (inl halted)))
  widen taken told (inr (inr memory)) = inr (inr (inr (inr memory)))

  pub one_answer : (taken told : Taken) (next other : StoreView E) → Takes faults follower number payload taken next → Takes faults follower number payload told other →
      (taken ≡ told) ⊎ (taken ≡ Stopped) ⊎ (taken ≡ NoMemory) ⊎ (told ≡ Stopped) ⊎ (told ≡ NoMemory)
  one_answer _ told _ other (stopped earlier stop) there = inr (inl refl)
  one_answer _ told _ other (known goes few) there = widen Known told (known_alone few told other there)
  one_answer _ told _ other (missing goes more) there = widen (Missing (next_number follower)) told (missing_alone more told other there)
  one_answer _ told _ other (damaged damage goes at is) there = widen (Damaged damage) told (damaged_alone damage at is told other there)
  one_answer _ told _ other (full event goes n is_full) there = widen Full told (full_alone event n is_full told other there)
  one_answer _ told _ other (failed event active goes n fits risen) there = inr (inl refl)
  one_answer _ told _ other (kept event active goes n fits stood) there = widen Kept told (kept_alone event n fits told other there)
  one_answer _ told _ other (without_memory goes at) there = inr (inr (inl refl))
