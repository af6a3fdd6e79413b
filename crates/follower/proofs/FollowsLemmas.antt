-- Leader and follower after any list of steps.
use Rattle.std.proofs.Common.{◌≡◌, ◌+◌, ◌-◌, ◌^◌, ◌<◌, ◌≤◌, ◌⊎◌, ℕ, List, [], ◌∷◌, ◌++◌, length, refl, sym, ap, subst, ◌∙◌, inl, inr, arith, append_assoc, length-append}
use Rattle.std.specs.Prelude.{ℤ}
use Rattle.std.specs.List.{AllByRecursion}
use Rattle.bl_syntax.specs.TimeOrder.{IsMoment}
use Rattle.policy_statement.specs.Ring.{KeyView}
use Rattle.journal_records.specs.declared.event.Event.{Event}
use Rattle.access_history.specs.declared.request.StepRequest.{StepRequest}
use Rattle.access_history.specs.Authority.{Authority}
use Rattle.access_history.specs.Base.{BaseView}
use Rattle.access_history.specs.History.{authority_with}
use Rattle.access_history.specs.Lawful.{IsLawful, IsLawfulBase, MayFollow, one_more}
use Rattle.journal_records.specs.Passes.{erase}
use Rattle.access_history.specs.Replay.{replay}
use Rattle.access_history.specs.WellFormed.{IsWellFormed}
use Rattle.access_history.proofs.LawfulLemmas.{IsLawfulBase-lawful}
use Rattle.access_history.proofs.MayFollowLemmas.{MayFollow-answered}
use Rattle.access_history.proofs.PassLemmas.{erase_twice, erased_follows}
use Rattle.access_history.proofs.ReplayLemmas.{count-replay}
use Rattle.journal_records.specs.EventSpelling.{event_spelling, IsSpellableEvent}
use Rattle.journal_records.proofs.EventLemmas.{apart}
use Rattle.op_gate.specs.declared.damage.Damage.{Damage}
use Rattle.op_gate.specs.Damage.{MayComeNext}
use Rattle.op_gate.proofs.AdmitLemmas.{damaged_not_next}
use Rattle.pcfs_store.specs.declared.reply.StoreReply.{StoreReply}
use Rattle.pcfs_store.specs.Newest.{SurvivesWholeClosed}
use Rattle.pcfs_store.specs.StoreView.{StoreView, IsStore, authority_of_store, state_of_store}
use Rattle.pcfs_store.specs.Steps.{IsFullFor, Steps, with_event}
use Rattle.pcfs_store.specs.Steps as steps
use Rattle.pcfs_store.specs.Admitting.{MayEnter}
use Rattle.recover.specs.AreaDamage.{IsDamagedPayload, no_event, of_event}
use Rattle.recover.specs.Opening.{IsNewestHistory}
use Rattle.recover.proofs.FollowingLemmas.{next_at}
use Rattle.recover.proofs.SurvivorLemmas.{survivor_opened}
use Rattle.follower.specs.declared.taking.Taken.{Taken}
use Rattle.follower.specs.declared.taking.Taken.TheVariants.{Kept, Full, Stopped, NoMemory}
use Rattle.follower.specs.Taking.{IsPayloadOf, IsNextEvent, Takes, stopped, known, missing, damaged, full, failed, kept, without_memory, last_number, next_number}
use Rattle.follower.specs.Following.{IsExported, Remains, at_rest, in_delivery, HaveOneAuthority, IsPrefixOf, Follows, began, led, delivered, opened_again}
use Rattle.follower.proofs.PrefixLemmas.{leader_more, IsNext, is_next, follower_more, follower_again}

-- ---- lawful histories

-- one event more
lawful_more : (authority : Authority) (base : BaseView) (events : List Event) (event : Event) → IsLawful authority base events → MayComeNext authority (replay base events) event → IsLawful authority base (events ++ event ∷ [])
lawful_more authority base events event lawful may = record {
  lawful_base = lawful.lawful_base;
  counted = omega (arith, may.counted, count-replay base events, length-append events (event ∷ []));
  each = one_more events event lawful.each may.follows;
}

All_at : (P : Event → Type 0) (earlier later : List Event) (event : Event) → AllByRecursion P (earlier ++ event ∷ later) → P event
All_at P [] later event all = all.0
All_at P (first ∷ earlier) later event all = All_at P earlier later event all.1

same_authority : (key other : List ℕ) (ring others : List KeyView) → key ≡ other → ring ≡ others → authority_with key ring ≡ authority_with other others
same_authority key other ring others keys rings = ap (λ (k : List ℕ). authority_with k ring) keys ∙ ap (λ (r : List KeyView). authority_with other r) rings

module _ {D E : Type 0} (leader_faults : D → ℕ) (follower_faults : E → ℕ) where
  -- ---- a step of the leader

  led_prefix : (leader : StoreView D) (follower : StoreView E) (pass : ℕ) (clock : ℤ) (request : StepRequest) (reply : StoreReply) (next : StoreView D) → IsPrefixOf leader follower → IsMoment clock → IsWellFormed request →
      Steps leader_faults leader pass clock request reply next → IsPrefixOf next follower
  led_prefix leader follower pass clock request _ _ is at formed (steps.answered reply goes answers) = is
  led_prefix leader follower pass clock request _ _ is at formed (steps.kept reply event active goes answers fits stood) =
      let authority : Authority = authority_of_store leader in
      let base : IsLawfulBase authority (state_of_store leader) = IsLawfulBase-lawful authority leader.base leader.events is.leader_lawful in
      let follows : MayFollow authority (state_of_store leader) event = MayFollow-answered authority (state_of_store leader) pass clock request reply event base at formed answers in
      let counted : (state_of_store leader).count < 2 ^ 48 - 1 = below (state_of_store leader).count (λ most. fits (inr most)) in
      record {
        authority = record { key = is.authority.key; ring = is.authority.ring };
        leader_lawful = lawful_more authority leader.base leader.events event is.leader_lawful (record { counted = counted; follows = follows });
        lawful = is.lawful;
        prefix = leader_more leader.base leader.events follower.base follower.events is.prefix event;
      }
    where
      below : (n : ℕ) → (2 ^ 48 - 1 ≤ n → ⊥) → n < 2 ^ 48 - 1
      below n not_most = omega (arith, not_most)
  led_prefix leader follower pass clock request _ _ is at formed (steps.full reply event goes answers is_full) = is
  led_prefix leader follower pass clock request _ _ is at formed (steps.failed reply event active goes answers fits risen) =
      record { authority = record { key = is.authority.key; ring = is.authority.ring }; leader_lawful = is.leader_lawful; lawful = is.lawful; prefix = is.prefix }
  led_prefix leader follower pass clock request _ _ is at formed (steps.stopped earlier stop) = is
  led_prefix leader follower pass clock request _ _ is at formed (steps.without_memory goes) = is

  -- ---- a delivery

  module _ (leader : StoreView D) (follower : StoreView E) (number : ℕ) (payload : List ℕ) (store : IsStore leader) (is : IsPrefixOf leader follower) (exported : IsExported leader number payload) where
    one_authority : authority_of_store leader ≡ authority_of_store follower
    one_authority = same_authority leader.key follower.key leader.ring follower.ring (sym is.authority.key) (sym is.authority.ring)

    spelled : IsSpellableEvent exported.event
    spelled = All_at IsSpellableEvent exported.earlier exported.later exported.event (subst (AllByRecursion IsSpellableEvent) exported.parts store.spelled)

    -- what is read of the payload is the leader's event
    same_event : (event : Event) → IsPayloadOf event payload → event ≡ erase exported.event
    same_event event payload_is =
        let spelled_so : event_spelling event ++ [] ≡ event_spelling exported.event ++ [] = ap (λ (b : List ℕ). b ++ []) (sym payload_is.spelled ∙ exported.payload_is) in
        sym payload_is.read.erased ∙ (apart event exported.event [] [] payload_is.read.spelled spelled spelled_so).0

    next_one : number ≡ next_number follower → IsNext leader.base leader.events follower.base follower.events is.prefix exported.earlier exported.event
    next_one numbered =
        is_next leader.base leader.events follower.base follower.events is.prefix exported.earlier exported.later exported.event exported.parts (same_number (leader.base.count + length exported.earlier) (state_of_store follower).count (sym exported.number_is ∙ numbered))
      where
        same_number : (m n : ℕ) → m + 1 ≡ n + 1 → m ≡ n
        same_number m n same = omega (arith, same)

    -- with the event, the follower's history is a prefix still
    with_next : (event : Event) → IsNextEvent follower number payload event → IsPrefixOf leader (record follower { events = follower.events ++ event ∷ [] })
    with_next event n = record {
      authority = record { key = is.authority.key; ring = is.authority.ring };
      leader_lawful = is.leader_lawful;
      lawful = lawful_more (authority_of_store follower) follower.base follower.events event is.lawful n.enters;
      prefix = follower_more leader.base leader.events follower.base follower.events is.prefix exported.earlier exported.event event (next_one n.numbered) (ap erase (same_event event n.payload_is) ∙ erase_twice exported.event);
    }

    -- the leader's event may come next
    may_enter : number ≡ next_number follower → MayEnter follower (erase exported.event)
    may_enter numbered =
        let may : MayComeNext (authority_of_store leader) (replay leader.base exported.earlier) exported.event = next_at (authority_of_store leader) leader.base leader.events exported.earlier exported.later exported.event is.leader_lawful exported.parts in
        let here : MayComeNext (authority_of_store leader) (state_of_store follower) exported.event =
        subst (λ (s : BaseView). MayComeNext (authority_of_store leader) s exported.event) (next_one numbered).state_is may in
        let there : MayComeNext (authority_of_store follower) (state_of_store follower) exported.event =
        subst (λ (a : Authority). MayComeNext a (state_of_store follower) exported.event) one_authority here in
        record { counted = there.counted; follows = erased_follows (authority_of_store follower) (state_of_store follower) exported.event there.follows }

    never_damaged : (damage : Damage) → number ≡ next_number follower → IsDamagedPayload (authority_of_store follower) (state_of_store follower) payload damage → ⊥
    never_damaged _ numbered (no_event none) = none exported.event spelled exported.payload_is
    never_damaged _ numbered (of_event event damage read spelled_so is_damaged) =
        damaged_not_next (authority_of_store follower) (state_of_store follower) event damage is_damaged
        (subst (MayEnter follower) (sym (same_event event (record { read = read; spelled = spelled_so }))) (may_enter numbered))

    pub taken_prefix : (taken : Taken) (next : StoreView E) → Takes follower_faults follower number payload taken next → IsPrefixOf leader next
    taken_prefix _ _ (stopped earlier stop) = is
    taken_prefix _ _ (known goes few) = is
    taken_prefix _ _ (missing goes more) = is
    taken_prefix _ _ (damaged damage goes numbered is_damaged) = is
    taken_prefix _ _ (full event goes n is_full) = is
    taken_prefix _ _ (failed event active goes n fits risen) =
        record { authority = record { key = is.authority.key; ring = is.authority.ring }; leader_lawful = is.leader_lawful; lawful = is.lawful; prefix = is.prefix }
    taken_prefix _ _ (kept event active goes n fits stood) =
        let more = with_next event n in
        record { authority = record { key = is.authority.key; ring = is.authority.ring }; leader_lawful = is.leader_lawful; lawful = more.lawful; prefix = more.prefix }
    taken_prefix _ _ (without_memory goes numbered) = is

    pub taken_next : (taken : Taken) (next : StoreView E) → number ≡ next_number follower → Takes follower_faults follower number payload taken next →
        (taken ≡ Kept) ⊎ (taken ≡ Full) ⊎ (taken ≡ Stopped) ⊎ (taken ≡ NoMemory)
    taken_next _ _ numbered (stopped earlier stop) = inr (inr (inl refl))
    taken_next _ _ numbered (known goes few) = absurd (past number (last_number follower) numbered few)
      where
        past : (n last : ℕ) → n ≡ last + 1 → n ≤ last → ⊥
        past n last is_next few = omega (arith, is_next, few)
    taken_next _ _ numbered (missing goes more) = absurd (past number (last_number follower) numbered more)
      where
        past : (n last : ℕ) → n ≡ last + 1 → last + 1 < n → ⊥
        past n last is_next more = omega (arith, is_next, more)
    taken_next _ _ numbered (damaged damage goes at is_damaged) = absurd (never_damaged damage numbered is_damaged)
    taken_next _ _ numbered (full event goes n is_full) = inr (inl refl)
    taken_next _ _ numbered (failed event active goes n fits risen) = inr (inr (inl refl))
    taken_next _ _ numbered (kept event active goes n fits stood) = inl refl
    taken_next _ _ numbered (without_memory goes at) = inr (inr (inr refl))

  -- ---- the follower is opened again

  -- after these events, which are a prefix
  again : (leader : StoreView D) (follower next : StoreView E) (first second : List ℕ) → IsPrefixOf leader follower → SurvivesWholeClosed follower.base follower.events first second → HaveOneAuthority follower next →
      IsNewestHistory (authority_of_store follower) next.generation next.opened next.base next.events first second → IsPrefixOf leader next
  again leader follower next first second is left one found =
      let resumes = (survivor_opened (authority_of_store follower) follower.base follower.events (length follower.events) first second is.lawful left next.generation next.opened next.base next.events found).0 in
      record {
        authority = record { key = one.key ∙ is.authority.key; ring = one.ring ∙ is.authority.ring };
        leader_lawful = is.leader_lawful;
        lawful = subst (λ (a : Authority). IsLawful a next.base next.events) (same_authority follower.key next.key follower.ring next.ring (sym one.key) (sym one.ring)) found.lawful;
        prefix = follower_again leader.base leader.events follower.base follower.events is.prefix next.base next.events resumes;
      }

  remains_prefix : (leader : StoreView D) (follower next : StoreView E) (first second : List ℕ) → IsStore leader → IsPrefixOf leader follower → Remains leader follower first second → HaveOneAuthority follower next →
      IsNewestHistory (authority_of_store follower) next.generation next.opened next.base next.events first second → IsPrefixOf leader next
  remains_prefix leader follower next first second store is (at_rest whole) one found = again leader follower next first second is whole one found
  remains_prefix leader follower next first second store is (in_delivery number payload exported (inl whole)) one found = again leader follower next first second is whole one found
  remains_prefix leader follower next first second store is (in_delivery number payload exported (inr it)) one found =
      again leader (record follower { events = follower.events ++ it.0 ∷ [] }) next first second (with_next leader follower number payload store is exported it.0 it.1) it.2 (record { key = one.key; ring = one.ring }) found

  -- ---- all steps

  both : (leader : StoreView D) (follower : StoreView E) → Follows leader_faults follower_faults leader follower → IsStore leader × IsPrefixOf leader follower
  both _ _ (began leader follower store is) = (store, is)
  both _ _ (led leader next follower pass clock request reply before at formed answers store) =
      (store, led_prefix leader follower pass clock request reply next (both leader follower before).1 at formed answers)
  both _ _ (delivered leader follower next number payload taken before exported takes) =
      let is = both leader follower before in
      (is.0, taken_prefix leader follower number payload is.0 is.1 exported taken next takes)
  both _ _ (opened_again leader follower next first second before remains one found) =
      let is = both leader follower before in
      (is.0, remains_prefix leader follower next first second is.0 is.1 remains one found)

  pub prefixes : (leader : StoreView D) (follower : StoreView E) → Follows leader_faults follower_faults leader follower → IsPrefixOf leader follower
  prefixes leader follower follows = (both leader follower follows).1

  pub nexts : (leader : StoreView D) (follower next : StoreView E) (number : ℕ) (payload : List ℕ) (taken : Taken) → Follows leader_faults follower_faults leader follower → IsExported leader number payload → number ≡ next_number follower →
      Takes follower_faults follower number payload taken next → (taken ≡ Kept) ⊎ (taken ≡ Full) ⊎ (taken ≡ Stopped) ⊎ (taken ≡ NoMemory)
  nexts leader follower next number payload taken follows exported numbered takes =
      let is = both leader follower follows in taken_next leader follower number payload is.0 is.1 exported taken next numbered takes

-- ---- what the leader has stays

pub exported_stays : {D : Type 0} (faults : D → ℕ) (leader : StoreView D) (pass : ℕ) (clock : ℤ) (request : StepRequest) (reply : StoreReply) (next : StoreView D) (number : ℕ) (payload : List ℕ) → Steps faults leader pass clock request reply next →
    IsExported leader number payload → IsExported next number payload
exported_stays faults leader pass clock request _ _ number payload (steps.answered reply goes answers) e = e
exported_stays faults leader pass clock request _ _ number payload (steps.kept reply event active goes answers fits stood) e = record {
  earlier = e.earlier;
  event = e.event;
  later = e.later ++ event ∷ [];
  parts = ap (λ (es : List Event). es ++ event ∷ []) e.parts ∙ append_assoc e.earlier (e.event ∷ e.later) (event ∷ []);
  number_is = e.number_is;
  payload_is = e.payload_is;
}
exported_stays faults leader pass clock request _ _ number payload (steps.full reply event goes answers is_full) e = e
exported_stays faults leader pass clock request _ _ number payload (steps.failed reply event active goes answers fits risen) e =
    record { earlier = e.earlier; event = e.event; later = e.later; parts = e.parts; number_is = e.number_is; payload_is = e.payload_is }
exported_stays faults leader pass clock request _ _ number payload (steps.stopped earlier stop) e = e
exported_stays faults leader pass clock request _ _ number payload (steps.without_memory goes) e = e
