-- Grants and procaps: what is read is spelled so, and what is spelled so is read.
use Rattle.std.proofs.Common.{◌≡◌, ℕ, ◌≤◌, ◌+◌, ◌-◌, eqb, List, [], ◌∷◌, ◌++◌, length, Ok, Err, refl, sym, ap, subst, ◌∙◌, append_assoc, arith}
use Rattle.std.specs.List.{AllByRecursion}
use Rattle.std.proofs.lemmas.Bool.{eqb-true}
use Rattle.bl_syntax.specs.declared.codec_fault.CodecFault.TheVariants as faults
use Rattle.bl_syntax.specs.declared.terms.Constraint.{Constraint}
use Rattle.bl_syntax.specs.declared.terms.StatePred.{StatePred}
use Rattle.bl_syntax.specs.declared.grant.Goal.{Goal}
use Rattle.bl_syntax.specs.Grant.{GrantView, IsGrant, IsTimeCondition, IsStateCondition, AreDistinct}
use Rattle.bl_syntax.specs.FormulaSpelling.{state_spelling}
use Rattle.bl_syntax.specs.Reading.{◌>>=◌}
use Rattle.bl_syntax.specs.Codec.{AreBytes, IsCodec}
use Rattle.bl_syntax.proofs.CodecLemmas.{bind_ok, by_test, ok_is, bind_memoryless, AreBytes-behind, codec}
use Rattle.bl_syntax.proofs.GrantLemmas.{granted}
use Rattle.procap.specs.GrantSpelling.{goal_spelling, time_condition_spelling, list_spelling, version_of, names_spelling, grant_spelling, IsSpellableGoal, IsSpellableTime, IsSpellableState, IsSpellableGrant}
use Rattle.procap.specs.GrantReading.{marker_at, version_at, goal_at, versioned_names_at, head_at, time_condition_at, state_condition_at, may_follow_times, may_follow_states, conditions_at, grant_at}
use Rattle.procap.proofs.ItemsLemmas.{AllFollow, FoundConditions, test_memoryless, conditions_found, conditions_again, conditions_memoryless}
use Rattle.procap.proofs.ConditionLemmas.{time_may_follow, may_follow_time, state_may_follow, may_follow_state, follow_means, means_follow}
use Rattle.procap.proofs.NamesLemmas.{IsVersion, FoundNames, version_found, version_again, version_memoryless, versioned_names_found, versioned_names_again, versioned_names_memoryless}
use Rattle.procap.proofs.PartLemmas.{time_codec, state_codec, goal_codec}

-- ---- the head

marker_found : (value input : ℕ) (bytes rest : List ℕ) → marker_at value input bytes ≡ Ok rest → bytes ≡ value ∷ rest
unfolding marker_at
marker_found value input [] rest e = absurd cc
marker_found value input (byte ∷ more) rest e =
    by_test (eqb byte value) _ _ _ e (λ is found. ap (λ (k : ℕ). k ∷ more) (eqb-true byte value is) ∙ ap (λ (b : List ℕ). value ∷ b) (ok_is more rest found)) (λ _ fault. absurd cc)

marker_memoryless : (value input : ℕ) (bytes : List ℕ) → marker_at value input bytes ≡ Err faults.NoMemory → ⊥
unfolding marker_at
marker_memoryless value input [] e = cc
marker_memoryless value input (byte ∷ more) e = test_memoryless (eqb byte value) _ _ (λ h. cc) (λ h. cc) e

abbrev head_spelling : ℕ → Goal → List ℕ
head_spelling version goal = 71 ∷ version ∷ goal_spelling goal

-- a head that was read
pub record FoundHead (bytes rest : List ℕ) (version : ℕ) (goal : Goal) : Type 0 where
  pub versioned : IsVersion version
  pub wanted : IsSpellableGoal goal
  pub bytes_are : bytes ≡ head_spelling version goal ++ rest

head_found : (input : ℕ) (bytes rest : List ℕ) (version : ℕ) (goal : Goal) → AreBytes bytes → head_at input bytes ≡ Ok ((version, goal), rest) → FoundHead bytes rest version goal
unfolding head_at
head_found input bytes rest version goal fits e =
    let a = bind_ok (marker_at 71 input bytes) (λ mark. version_at input mark >>= λ v. goal_at input v.1 >>= λ g. Ok ((v.0, g.0), g.1)) ((version, goal), rest) e in
    let b = bind_ok (version_at input a.0) (λ v. goal_at input v.1 >>= λ g. Ok ((v.0, g.0), g.1)) ((version, goal), rest) a.2 in
    let c = bind_ok (goal_at input b.0.1) (λ g. Ok ((b.0.0, g.0), g.1)) ((version, goal), rest) b.2 in
    let of_version = version_found input a.0 b.0.1 b.0.0 b.1 in
    let front : bytes ≡ 71 ∷ b.0.0 ∷ b.0.1 = marker_found 71 input bytes a.0 a.1 ∙ ap (λ (k : List ℕ). 71 ∷ k) of_version.1 in
    let it = goal_codec.found input b.0.1 c.0.1 c.0.0 (AreBytes-behind (71 ∷ b.0.0 ∷ []) b.0.1 (subst AreBytes front fits)) c.1 in
    subst (λ (q : (ℕ × Goal) × List ℕ). FoundHead bytes q.1 q.0.0 q.0.1) (ok_is ((b.0.0, c.0.0), c.0.1) ((version, goal), rest) c.2)
    (record { versioned = of_version.0; wanted = it.0; bytes_are = front ∙ ap (λ (k : List ℕ). 71 ∷ b.0.0 ∷ k) it.1 })

head_again : (input : ℕ) (numbers : List ℕ) (goal : Goal) (rest : List ℕ) → IsSpellableGoal goal → head_at input (head_spelling (version_of numbers) goal ++ rest) ≡ Ok ((version_of numbers, goal), rest)
unfolding head_at marker_at
head_again input numbers goal rest h = rw (version_again input numbers (goal_spelling goal ++ rest), goal_codec.again input goal rest h) refl

head_memoryless : (input : ℕ) (bytes : List ℕ) → head_at input bytes ≡ Err faults.NoMemory → ⊥
unfolding head_at
head_memoryless input bytes e =
    bind_memoryless (marker_at 71 input bytes) _ (marker_memoryless 71 input bytes)
    (λ mark h. bind_memoryless (version_at input mark) _ (version_memoryless input mark) (λ v k. bind_memoryless (goal_at input v.1) _ (λ m. goal_codec.memoryless input v.1 m) (λ g n. cc) k) h) e

-- ---- grants

times_are : (times : List Constraint) → AllByRecursion IsSpellableTime times → AllFollow may_follow_times [] times → AreDistinct times × AllByRecursion IsTimeCondition times
times_are times spelled follow = follow_means may_follow_times IsTimeCondition IsSpellableTime time_may_follow [] times spelled tt tt follow

states_are : (states : List StatePred) → AllByRecursion IsSpellableState states → AllFollow may_follow_states [] states → AreDistinct states × AllByRecursion IsStateCondition states
states_are states spelled follow = follow_means may_follow_states IsStateCondition IsSpellableState state_may_follow [] states spelled tt tt follow

grant_spelled : (bytes middle behind after rest : List ℕ) (version : ℕ) (goal : Goal) (times : List Constraint) (states : List StatePred) (cited : List ℕ) → FoundHead bytes middle version goal
    → FoundConditions IsSpellableTime time_condition_spelling may_follow_times 64 middle times behind
    → FoundConditions IsSpellableState state_spelling may_follow_states (64 - length times) behind states after
    → FoundNames version after cited rest
    → IsSpellableGrant (granted goal times states cited) × (bytes ≡ grant_spelling (granted goal times states cited) ++ rest)
unfolding grant_spelling
grant_spelled bytes middle behind after rest version goal times states cited head first second third =
    let of_times = times_are times first.spelled first.follow in
    let of_states = states_are states second.spelled second.follow in
    let few : length times + length states ≤ 64 = omega (arith, first.few, second.few) in
    let kept : IsGrant (granted goal times states cited) = record {
      time_conditions = of_times.1;
      state_conditions = of_states.1;
      distinct_times = of_times.0;
      distinct_states = of_states.0;
      count = few;
      names = third.names;
    } in
    let t : List ℕ = list_spelling time_condition_spelling times in
    let s : List ℕ = list_spelling state_spelling states in
    let n : List ℕ = names_spelling cited in
    let last : behind ≡ (s ++ n) ++ rest = second.bytes_are ∙ ap (λ (end : List ℕ). s ++ end) third.bytes_are ∙ sym (append_assoc s n rest) in
    let parts : middle ≡ (t ++ (s ++ n)) ++ rest = first.bytes_are ∙ ap (λ (end : List ℕ). t ++ end) last ∙ sym (append_assoc t (s ++ n) rest) in
    let whole : bytes ≡ 71 ∷ version ∷ ((goal_spelling goal ++ (t ++ (s ++ n))) ++ rest) =
    head.bytes_are ∙ ap (λ (end : List ℕ). 71 ∷ version ∷ (goal_spelling goal ++ end)) parts ∙ ap (λ (all : List ℕ). 71 ∷ version ∷ all) (sym (append_assoc (goal_spelling goal) (t ++ (s ++ n)) rest)) in
    let versioned : bytes ≡ 71 ∷ version_of cited ∷ ((goal_spelling goal ++ (t ++ (s ++ n))) ++ rest) =
    whole ∙ ap (λ (v : ℕ). 71 ∷ v ∷ ((goal_spelling goal ++ (t ++ (s ++ n))) ++ rest)) third.version_is in
    (record { goal = head.wanted; times = first.spelled; states = second.spelled; names = third.spelled; grant = kept }, versioned)

grant_found : (input : ℕ) (bytes rest : List ℕ) (g : GrantView) → AreBytes bytes → grant_at input bytes ≡ Ok (g, rest) → IsSpellableGrant g × (bytes ≡ grant_spelling g ++ rest)
unfolding grant_at
grant_found input bytes rest g fits e =
    let a = bind_ok (head_at input bytes) (λ head. conditions_at time_condition_at may_follow_times 64 input head.1 >>= λ times. conditions_at state_condition_at may_follow_states (64 - length times.0) input times.1 >>= λ states. versioned_names_at head.0.0 input states.1 >>= λ cited. Ok (granted head.0.1 times.0 states.0 cited.0, cited.1)) (g, rest) e in
    let b = bind_ok (conditions_at time_condition_at may_follow_times 64 input a.0.1) (λ times. conditions_at state_condition_at may_follow_states (64 - length times.0) input times.1 >>= λ states. versioned_names_at a.0.0.0 input states.1 >>= λ cited. Ok (granted a.0.0.1 times.0 states.0 cited.0, cited.1)) (g, rest) a.2 in
    let c = bind_ok (conditions_at state_condition_at may_follow_states (64 - length b.0.0) input b.0.1) (λ states. versioned_names_at a.0.0.0 input states.1 >>= λ cited. Ok (granted a.0.0.1 b.0.0 states.0 cited.0, cited.1)) (g, rest) b.2 in
    let d = bind_ok (versioned_names_at a.0.0.0 input c.0.1) (λ cited. Ok (granted a.0.0.1 b.0.0 c.0.0 cited.0, cited.1)) (g, rest) c.2 in
    let head = head_found input bytes a.0.1 a.0.0.0 a.0.0.1 fits a.1 in
    let fit_middle : AreBytes a.0.1 = AreBytes-behind (head_spelling a.0.0.0 a.0.0.1) a.0.1 (subst AreBytes head.bytes_are fits) in
    let first = conditions_found IsSpellableTime time_condition_spelling time_condition_at may_follow_times time_codec 64 input a.0.1 b.0.0 b.0.1 fit_middle b.1 in
    let fit_behind : AreBytes b.0.1 = AreBytes-behind (list_spelling time_condition_spelling b.0.0) b.0.1 (subst AreBytes first.bytes_are fit_middle) in
    let second = conditions_found IsSpellableState state_spelling state_condition_at may_follow_states state_codec (64 - length b.0.0) input b.0.1 c.0.0 c.0.1 fit_behind c.1 in
    let fit_after : AreBytes c.0.1 = AreBytes-behind (list_spelling state_spelling c.0.0) c.0.1 (subst AreBytes second.bytes_are fit_behind) in
    let third = versioned_names_found a.0.0.0 input c.0.1 d.0.0 d.0.1 head.versioned fit_after d.1 in
    subst (λ (q : GrantView × List ℕ). IsSpellableGrant q.0 × (bytes ≡ grant_spelling q.0 ++ q.1)) (ok_is (granted a.0.0.1 b.0.0 c.0.0 d.0.0, d.0.1) (g, rest) d.2)
    (grant_spelled bytes a.0.1 b.0.1 c.0.1 d.0.1 a.0.0.0 a.0.0.1 b.0.0 c.0.0 d.0.0 head first second third)

grant_again : (input : ℕ) (g : GrantView) (rest : List ℕ) → IsSpellableGrant g → grant_at input (grant_spelling g ++ rest) ≡ Ok (g, rest)
unfolding grant_at grant_spelling
grant_again input g rest h =
    let t : List ℕ = list_spelling time_condition_spelling g.times in
    let s : List ℕ = list_spelling state_spelling g.states in
    let n : List ℕ = names_spelling g.cited in
    let follow_times : AllFollow may_follow_times [] g.times = means_follow may_follow_times IsTimeCondition may_follow_time [] g.times h.grant.time_conditions h.grant.distinct_times in
    let follow_states : AllFollow may_follow_states [] g.states = means_follow may_follow_states IsStateCondition may_follow_state [] g.states h.grant.state_conditions h.grant.distinct_states in
    let few : length g.times ≤ 64 = omega (arith, h.grant.count) in
    let room : length g.states ≤ 64 - length g.times = omega (arith, h.grant.count) in
    let parts : (t ++ (s ++ n)) ++ rest ≡ t ++ (s ++ (n ++ rest)) = append_assoc t (s ++ n) rest ∙ ap (λ (end : List ℕ). t ++ end) (append_assoc s n rest) in
    let grouped : (goal_spelling g.goal ++ (t ++ (s ++ n))) ++ rest ≡ goal_spelling g.goal ++ (t ++ (s ++ (n ++ rest))) =
    append_assoc (goal_spelling g.goal) (t ++ (s ++ n)) rest ∙ ap (λ (end : List ℕ). goal_spelling g.goal ++ end) parts in
    rw (
      grouped,
      head_again input g.cited g.goal (t ++ (s ++ (n ++ rest))) h.goal,
      conditions_again IsSpellableTime time_condition_spelling time_condition_at may_follow_times time_codec 64 input g.times (s ++ (n ++ rest)) few h.times follow_times,
      conditions_again IsSpellableState state_spelling state_condition_at may_follow_states state_codec (64 - length g.times) input g.states (n ++ rest) room h.states follow_states,
      versioned_names_again input g.cited rest h.grant.names h.names,
    )
    refl

grant_memoryless : (input : ℕ) (bytes : List ℕ) → grant_at input bytes ≡ Err faults.NoMemory → ⊥
unfolding grant_at
grant_memoryless input bytes e =
    bind_memoryless (head_at input bytes) _ (head_memoryless input bytes)
    (λ head h. bind_memoryless (conditions_at time_condition_at may_follow_times 64 input head.1) _ (λ k. conditions_memoryless time_condition_at may_follow_times time_codec.memoryless 64 input head.1 k)
    (λ times k. bind_memoryless (conditions_at state_condition_at may_follow_states (64 - length times.0) input times.1) _
    (λ m. conditions_memoryless state_condition_at may_follow_states state_codec.memoryless (64 - length times.0) input times.1 m)
    (λ states m. bind_memoryless (versioned_names_at head.0.0 input states.1) _ (λ n. versioned_names_memoryless head.0.0 input states.1 n) (λ cited n. cc) m) k) h) e

pub grant_codec : IsCodec IsSpellableGrant grant_spelling grant_at
grant_codec = codec IsSpellableGrant grant_spelling grant_at grant_found grant_again grant_memoryless
