-- Reading conditions one after the other, and what is read of a grant.
use Rattle.std.proofs.Common.{◌≡◌, ℕ, zero, suc, ◌<◌, ◌-◌, List, [], ◌∷◌, ◌++◌, length, Bool, true, false, Ok, Err, refl, sym, ap, ◌∙◌, arith}
use Rattle.std.specs.Prelude.{Contains}
use Rattle.bl_syntax.specs.declared.codec_fault.CodecFault.{CodecFault}
use Rattle.bl_syntax.specs.declared.codec_fault.CodecFault.TheVariants as faults
use Rattle.bl_syntax.specs.declared.terms.Constraint.{Constraint}
use Rattle.bl_syntax.specs.declared.terms.StatePred.{StatePred}
use Rattle.bl_syntax.specs.declared.grant.Goal.{Goal}
use Rattle.bl_syntax.specs.Grant.{GrantView, IsTimeCondition, IsStateCondition}
use Rattle.bl_syntax.proofs.GrantLemmas.{granted}
use Rattle.bl_syntax.proofs.EqualityLemmas.{same_grant}
use Rattle.bl_syntax.proofs.ReportsFaultLemmas.{stops, hands_on}
use Rattle.bl_syntax.specs.Reading.{◌>>=◌, Reading, place}
use Rattle.bl_syntax.specs.Codec.{AreBytes, ReportsFault}
use Rattle.procap.specs.GrantReading.{time_condition_at, state_condition_at, may_follow_times, may_follow_states, items_at, count_at, conditions_at, versioned_names_at, head_at, grant_at}
use Rattle.procap.proofs.ConditionLemmas.{time_may_follow, state_may_follow}
use Rattle.procap.proofs.PartLemmas.{time_codec, state_codec}

-- ---- one condition of so many

pub items_none : {A : Type 0} (one_at : ℕ → List ℕ → Reading A) (may_follow : List A → A → Bool) (count input : ℕ) (before : List A) (bytes : List ℕ) → count ≡ 0
    → items_at one_at may_follow count input before bytes ≡ Ok (before, bytes)
unfolding items_at
items_none one_at may_follow count input before bytes none = rw none refl

pub items_fault : {A : Type 0} (one_at : ℕ → List ℕ → Reading A) (may_follow : List A → A → Bool) (count input : ℕ) (before : List A) (bytes : List ℕ) (fault : CodecFault) → 0 < count
    → one_at input bytes ≡ Err fault → items_at one_at may_follow count input before bytes ≡ Err fault
unfolding items_at
items_fault one_at may_follow zero input before bytes fault some e = absurd (omega arith)
items_fault one_at may_follow (suc count) input before bytes fault some e = rw e refl

pub items_refused : {A : Type 0} (one_at : ℕ → List ℕ → Reading A) (may_follow : List A → A → Bool) (count input : ℕ) (before : List A) (bytes : List ℕ) (x : A) (rest : List ℕ) → 0 < count
    → one_at input bytes ≡ Ok (x, rest) → may_follow before x ≡ false → items_at one_at may_follow count input before bytes ≡ Err (faults.NotCanonical (place input bytes))
unfolding items_at
items_refused one_at may_follow zero input before bytes x rest some e refused = absurd (omega arith)
items_refused one_at may_follow (suc count) input before bytes x rest some e refused = rw (e, refused) refl

pub items_more : {A : Type 0} (one_at : ℕ → List ℕ → Reading A) (may_follow : List A → A → Bool) (count input : ℕ) (before : List A) (bytes : List ℕ) (x : A) (rest : List ℕ) → 0 < count
    → one_at input bytes ≡ Ok (x, rest) → may_follow before x ≡ true → items_at one_at may_follow count input before bytes ≡ items_at one_at may_follow (count - 1) input (before ++ x ∷ []) rest
unfolding items_at
items_more one_at may_follow zero input before bytes x rest some e follows = absurd (omega arith)
items_more {A} one_at may_follow (suc count) input before bytes x rest some e follows =
    let less : count ≡ suc count - 1 = omega arith in
    rw (e, follows) (ap (λ (k : ℕ). items_at one_at may_follow k input (before ++ x ∷ []) rest) less)

-- ---- what was read and tested may be kept

pub time_is_kept : (input : ℕ) (bytes rest : List ℕ) (before : List Constraint) (c : Constraint) → AreBytes bytes → time_condition_at input bytes ≡ Ok (c, rest) → may_follow_times before c ≡ true
    → IsTimeCondition c × (Contains before c → ⊥)
time_is_kept input bytes rest before c fits e follows = time_may_follow before c (time_codec.found input bytes rest c fits e).0 follows

pub state_is_kept : (input : ℕ) (bytes rest : List ℕ) (before : List StatePred) (s : StatePred) → AreBytes bytes → state_condition_at input bytes ≡ Ok (s, rest) → may_follow_states before s ≡ true
    → IsStateCondition s × (Contains before s → ⊥)
state_is_kept input bytes rest before s fits e follows = state_may_follow before s (state_codec.found input bytes rest s fits e).0 follows

-- ---- conditions with their number

pub conditions_fault : {A : Type 0} (one_at : ℕ → List ℕ → Reading A) (may_follow : List A → A → Bool) (most input : ℕ) (bytes : List ℕ) (fault : CodecFault)
    → count_at most input bytes ≡ Err fault → conditions_at one_at may_follow most input bytes ≡ Err fault
unfolding conditions_at
conditions_fault one_at may_follow most input bytes fault e = rw e refl

pub conditions_more : {A : Type 0} (one_at : ℕ → List ℕ → Reading A) (may_follow : List A → A → Bool) (most input : ℕ) (bytes : List ℕ) (count : ℕ) (rest : List ℕ)
    → count_at most input bytes ≡ Ok (count, rest) → conditions_at one_at may_follow most input bytes ≡ items_at one_at may_follow count input [] rest
unfolding conditions_at
conditions_more one_at may_follow most input bytes count rest e = rw e refl

-- ---- grants

-- a grant is its parts
pub grant_of_parts : (g : GrantView) (goal : Goal) (times : List Constraint) (states : List StatePred) (cited : List ℕ)
    → g.goal ≡ goal → g.times ≡ times → g.states ≡ states → g.cited ≡ cited → granted goal times states cited ≡ g
grant_of_parts g goal times states cited goal_is times_are states_are cited_are =
    same_grant (granted goal times states cited) g (sym goal_is) (sym times_are) (sym states_are) (sym cited_are)

abbrev pub read_before : List ℕ → GrantView → Reading GrantView
read_before rest g = Ok (g, rest)

abbrev times_at : ℕ → List ℕ → Reading (List Constraint)
times_at input bytes = conditions_at time_condition_at may_follow_times 64 input bytes

abbrev states_at : List Constraint → ℕ → List ℕ → Reading (List StatePred)
states_at times input bytes = conditions_at state_condition_at may_follow_states (64 - length times) input bytes

-- the statements that are named after the conditions
abbrev with_names : ℕ → ℕ → Goal → List Constraint → List StatePred × List ℕ → Reading GrantView
with_names input version goal times states = versioned_names_at version input states.1 >>= λ cited. Ok (granted goal times states.0 cited.0, cited.1)

-- the conditions on the server's state, and the names, after the conditions on time
abbrev with_states : ℕ → ℕ → Goal → List Constraint × List ℕ → Reading GrantView
with_states input version goal times = states_at times.0 input times.1 >>= with_names input version goal times.0

-- all after the head
abbrev with_conditions : ℕ → (ℕ × Goal) × List ℕ → Reading GrantView
with_conditions input head = times_at input head.1 >>= with_states input head.0.0 head.0.1

grant_is : (input : ℕ) (bytes : List ℕ) → grant_at input bytes ≡ (head_at input bytes >>= with_conditions input)
unfolding grant_at
grant_is input bytes = refl

pub head_stops : (input : ℕ) (bytes : List ℕ) (fault : CodecFault) → head_at input bytes ≡ Err fault → ReportsFault fault (grant_at input bytes)
head_stops input bytes fault e = rw (grant_is input bytes) (hands_on fault (head_at input bytes) (with_conditions input) (stops fault (head_at input bytes) e))

behind_head : (input : ℕ) (bytes rest : List ℕ) (version : ℕ) (goal : Goal) → head_at input bytes ≡ Ok ((version, goal), rest) → grant_at input bytes ≡ (times_at input rest >>= with_states input version goal)
behind_head input bytes rest version goal e = grant_is input bytes ∙ ap (λ (r : Reading (ℕ × Goal)). r >>= with_conditions input) e

behind_times : (input : ℕ) (bytes rest behind : List ℕ) (version : ℕ) (goal : Goal) (times : List Constraint) → head_at input bytes ≡ Ok ((version, goal), rest) → times_at input rest ≡ Ok (times, behind)
    → grant_at input bytes ≡ with_states input version goal (times, behind)
behind_times input bytes rest behind version goal times e h = behind_head input bytes rest version goal e ∙ ap (λ (r : Reading (List Constraint)). r >>= with_states input version goal) h

behind_states : (input : ℕ) (bytes rest behind after : List ℕ) (version : ℕ) (goal : Goal) (times : List Constraint) (states : List StatePred) → head_at input bytes ≡ Ok ((version, goal), rest)
    → times_at input rest ≡ Ok (times, behind) → states_at times input behind ≡ Ok (states, after) → grant_at input bytes ≡ with_names input version goal times (states, after)
behind_states input bytes rest behind after version goal times states e h k =
    behind_times input bytes rest behind version goal times e h ∙ ap (λ (r : Reading (List StatePred)). r >>= with_names input version goal times) k

pub times_stop : (input : ℕ) (bytes rest : List ℕ) (version : ℕ) (goal : Goal) (fault : CodecFault) → head_at input bytes ≡ Ok ((version, goal), rest) → ReportsFault fault (times_at input rest)
    → ReportsFault fault (grant_at input bytes)
times_stop input bytes rest version goal fault e h = rw (behind_head input bytes rest version goal e) (hands_on fault (times_at input rest) (with_states input version goal) h)

pub states_stop : (input : ℕ) (bytes rest behind : List ℕ) (version : ℕ) (goal : Goal) (times : List Constraint) (fault : CodecFault) → head_at input bytes ≡ Ok ((version, goal), rest)
    → times_at input rest ≡ Ok (times, behind) → ReportsFault fault (states_at times input behind) → ReportsFault fault (grant_at input bytes)
states_stop input bytes rest behind version goal times fault e h k =
    rw (behind_times input bytes rest behind version goal times e h) (hands_on fault (states_at times input behind) (with_names input version goal times) k)

pub names_stop : (input : ℕ) (bytes rest behind after : List ℕ) (version : ℕ) (goal : Goal) (times : List Constraint) (states : List StatePred) (fault : CodecFault) → head_at input bytes ≡ Ok ((version, goal), rest)
    → times_at input rest ≡ Ok (times, behind) → states_at times input behind ≡ Ok (states, after) → ReportsFault fault (versioned_names_at version input after) → ReportsFault fault (grant_at input bytes)
names_stop input bytes rest behind after version goal times states fault e h k l =
    rw (behind_states input bytes rest behind after version goal times states e h k) (hands_on fault (versioned_names_at version input after) (λ cited. Ok (granted goal times states cited.0, cited.1)) l)

pub grant_is_read : (input : ℕ) (bytes rest behind after end : List ℕ) (version : ℕ) (goal : Goal) (times : List Constraint) (states : List StatePred) (cited : List ℕ) → head_at input bytes ≡ Ok ((version, goal), rest)
    → times_at input rest ≡ Ok (times, behind) → states_at times input behind ≡ Ok (states, after) → versioned_names_at version input after ≡ Ok (cited, end)
    → grant_at input bytes ≡ Ok (granted goal times states cited, end)
grant_is_read input bytes rest behind after end version goal times states cited e h k l =
    behind_states input bytes rest behind after version goal times states e h k ∙ ap (λ (r : Reading (List ℕ)). r >>= λ all. Ok (granted goal times states all.0, all.1)) l
