-- Grants and procaps are read steadily.
use Rattle.std.proofs.Common.{ℕ, zero, suc, ◌-◌, List, [], ◌∷◌, ◌++◌, length, Bool}
use Rattle.std.specs.Prelude.{◌==◌, ◌&&◌, ◌||◌, nat_le, nat_lt}
use Rattle.std.specs.Int.{w32, w64}
use Rattle.bl_syntax.specs.declared.codec_fault.CodecFault.TheVariants.{Short}
use Rattle.bl_syntax.specs.declared.terms.StatePred.TheVariants.{Owner, HasXattr, InDir}
use Rattle.bl_syntax.specs.Reading.{Reading, term_at}
use Rattle.bl_syntax.specs.FormulaReading.{is_formula_tag}
use Rattle.procap.specs.GrantReading.{marker_at, goal_at, both_at, time_condition_at, state_terms_at, state_condition_at, may_follow_times, may_follow_states, items_at, count_at, conditions_at, version_at, head_at, rising_at, names_at, versioned_names_at, grant_at}
use Rattle.procap.specs.Procap.{tag_at, procap_at}
use Rattle.reader_laws.proofs.ExtendedLemmas.{Extended, behind, ReadsOn, IsSteady, done, cut, faults, either_way, one_then, made, taken}
use Rattle.reader_laws.proofs.FieldLemmas.{numbers, names, permissions, terms}

markers : (value input onward : ℕ) (bytes more : List ℕ) → Extended Short (λ rest. rest ++ more) (marker_at value input bytes) (marker_at value onward (bytes ++ more))
unfolding marker_at
markers value input onward [] more = cut Short (λ rest. rest ++ more) _
markers value input onward (byte ∷ rest) more =
    either_way Short (λ left. left ++ more) (byte == value) _ _ _ _ (done Short (λ left. left ++ more) rest) (faults Short (λ left. left ++ more) _ _)

goals : IsSteady goal_at
unfolding goal_at
goals input onward bytes more =
    one_then (behind more) (behind more) _ _ _ _ (names input onward bytes more)
    (λ who. one_then (behind more) (behind more) _ _ _ _ (numbers w64 who.1 more)
    (λ file. one_then (behind more) (behind more) _ _ _ _ (permissions input onward file.1 more)
    (λ perm. done Short (behind more) (record { who = who.0; file = record { 0 = file.0 }; perm = perm.0 }, perm.1))))

both : {A B : Type 0} (first_at : ℕ → List ℕ → Reading A) (second_at : ℕ → List ℕ → Reading B) → IsSteady first_at → IsSteady second_at → IsSteady (both_at first_at second_at)
unfolding both_at
both first_at second_at first second input onward bytes more =
    one_then (behind more) (behind more) _ _ _ _ (first input onward bytes more)
    (λ a. one_then (behind more) (behind more) _ _ _ _ (second input onward a.1 more)
    (λ b. done Short (behind more) ((a.0, b.0), b.1)))

time_conditions : IsSteady time_condition_at
unfolding time_condition_at
time_conditions input onward bytes more = made (λ t. record { low = t.0; high = t.1 }) more _ _ (both term_at term_at terms terms input onward bytes more)

state_terms : (input onward start other tag : ℕ) → ReadsOn (state_terms_at input start tag) (state_terms_at onward other tag)
unfolding state_terms_at
state_terms input onward start other tag rest more =
    either_way Short (behind more) (tag == 18) _ _ _ _ (made (λ t. Owner t.0 t.1) more _ _ (both term_at term_at terms terms input onward rest more))
    (either_way Short (behind more) (tag == 19) _ _ _ _ (made (λ t. HasXattr t.0 t.1.0 t.1.1) more _ _ (both term_at (both_at term_at term_at) terms (both term_at term_at terms terms) input onward rest more))
    (either_way Short (behind more) (tag == 20) _ _ _ _ (made (λ t. InDir t.0 t.1) more _ _ (both term_at term_at terms terms input onward rest more))
    (either_way Short (behind more) (is_formula_tag tag) _ _ _ _ (faults Short (behind more) _ _) (faults Short (behind more) _ _))))

state_conditions : IsSteady state_condition_at
unfolding state_condition_at
state_conditions input onward [] more = cut Short (behind more) _
state_conditions input onward (tag ∷ rest) more = state_terms input onward _ _ tag rest more

items : {A : Type 0} (one_at : ℕ → List ℕ → Reading A) (may_follow : List A → A → Bool) → IsSteady one_at → (count input onward : ℕ) (before : List A) →
    ReadsOn (items_at one_at may_follow count input before) (items_at one_at may_follow count onward before)
unfolding items_at
items one_at may_follow steady zero input onward before bytes more = done Short (behind more) (before, bytes)
items one_at may_follow steady (suc count) input onward before bytes more =
    one_then (behind more) (behind more) _ _ _ _ (steady input onward bytes more)
    (λ one. either_way Short (behind more) (may_follow before one.0) _ _ _ _
    (items one_at may_follow steady count input onward (before ++ one.0 ∷ []) one.1 more) (faults Short (behind more) _ _))

counts : (most : ℕ) → IsSteady (count_at most)
unfolding count_at
counts most input onward [] more = cut Short (behind more) _
counts most input onward (count ∷ rest) more =
    either_way Short (behind more) (nat_lt most count) _ _ _ _ (faults Short (behind more) _ _) (done Short (behind more) (count, rest))

conditions : {A : Type 0} (one_at : ℕ → List ℕ → Reading A) (may_follow : List A → A → Bool) → IsSteady one_at → (most : ℕ) → IsSteady (conditions_at one_at may_follow most)
unfolding conditions_at
conditions one_at may_follow steady most input onward bytes more =
    one_then (behind more) (behind more) _ _ _ _ (counts most input onward bytes more)
    (λ count. items one_at may_follow steady count.0 input onward [] count.1 more)

versions : IsSteady version_at
unfolding version_at
versions input onward [] more = cut Short (behind more) _
versions input onward (version ∷ rest) more =
    either_way Short (behind more) (version == 1 || version == 2) _ _ _ _ (done Short (behind more) (version, rest)) (faults Short (behind more) _ _)

heads : IsSteady head_at
unfolding head_at
heads input onward bytes more =
    one_then (λ rest. rest ++ more) (behind more) _ _ _ _ (markers 71 input onward bytes more)
    (λ mark. one_then (behind more) (behind more) _ _ _ _ (versions input onward mark more)
    (λ version. one_then (behind more) (behind more) _ _ _ _ (goals input onward version.1 more)
    (λ goal. done Short (behind more) ((version.0, goal.0), goal.1))))

rising : (count previous input onward : ℕ) (before : List ℕ) → ReadsOn (rising_at count previous input before) (rising_at count previous onward before)
unfolding rising_at
rising zero previous input onward before bytes more = done Short (behind more) (before, bytes)
rising (suc count) previous input onward before bytes more =
    one_then (behind more) (behind more) _ _ _ _ (numbers w32 bytes more)
    (λ number. either_way Short (behind more) (nat_lt previous number.0) _ _ _ _
    (rising count number.0 input onward (before ++ number.0 ∷ []) number.1 more) (faults Short (behind more) _ _))

counted_names : IsSteady names_at
unfolding names_at
counted_names input onward [] more = cut Short (behind more) _
counted_names input onward (count ∷ rest) more =
    either_way Short (behind more) (nat_lt 0 count && nat_le count 64) _ _ _ _ (rising count 0 input onward [] rest more) (faults Short (behind more) _ _)

versioned_names : (version : ℕ) → IsSteady (versioned_names_at version)
unfolding versioned_names_at
versioned_names version input onward bytes more =
    either_way Short (behind more) (version == 1) _ _ _ _ (done Short (behind more) ([], bytes)) (counted_names input onward bytes more)

pub grants : IsSteady grant_at
unfolding grant_at
grants input onward bytes more =
    one_then (behind more) (behind more) _ _ _ _ (heads input onward bytes more)
    (λ head. one_then (behind more) (behind more) _ _ _ _ (conditions time_condition_at may_follow_times time_conditions 64 input onward head.1 more)
    (λ times. one_then (behind more) (behind more) _ _ _ _ (conditions state_condition_at may_follow_states state_conditions (64 - length times.0) input onward times.1 more)
    (λ states. one_then (behind more) (behind more) _ _ _ _ (versioned_names head.0.0 input onward states.1 more)
    (λ cited. done Short (behind more) (record { goal = head.0.1; times = times.0; states = states.0; cited = cited.0 }, cited.1)))))

tags : ReadsOn tag_at tag_at
unfolding tag_at
tags bytes more = taken 32 (λ tag. tag) bytes more

pub procaps : IsSteady procap_at
unfolding procap_at
procaps input onward bytes more =
    one_then (behind more) (behind more) _ _ _ _ (grants input onward bytes more)
    (λ grant. one_then (behind more) (behind more) _ _ _ _ (tags grant.1 more)
    (λ tag. done Short (behind more) (record { grant = grant.0; tag = tag.0 }, tag.1)))
