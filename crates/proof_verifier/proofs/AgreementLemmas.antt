-- On well formed sequents, what is left over by the rule is what a grant can keep, so a proof answers the same by either test.
use Rattle.std.proofs.Common.{◌≡◌, ◌∙◌, ℕ, ◌+◌, Bool, true, false, ◌&&◌, ◌||◌, List, [], ◌∷◌, Result, Ok, Err, refl, sym, ap, ap₂}
use Rattle.std.specs.Prelude.{not, if◌then◌else◌}
use Rattle.std.specs.Bool.{Decides}
use Rattle.std.specs.List.{list_any, list_all, AllByRecursion}
use Rattle.std.proofs.lemmas.Option.{none-some}
use Rattle.bl_syntax.specs.declared.terms.Sort.{Sort}
use Rattle.bl_syntax.specs.declared.terms.Sort.TheVariants as sorts
use Rattle.bl_syntax.specs.declared.terms.Term.{Term}
use Rattle.bl_syntax.specs.declared.terms.Term.TheVariants.{Prin, File, Perm, Time, Text, Ctime, Param, Bound}
use Rattle.bl_syntax.specs.declared.terms.Constraint.{Constraint}
use Rattle.bl_syntax.specs.declared.terms.StatePred.{StatePred}
use Rattle.bl_syntax.specs.declared.terms.StatePred.TheVariants.{Owner, HasXattr, InDir}
use Rattle.bl_syntax.specs.declared.grant.Goal.{Goal}
use Rattle.bl_syntax.specs.Formula.{state}
use Rattle.bl_syntax.specs.Terms.{HasTimeInRange}
use Rattle.bl_syntax.specs.WellSorted.{HasSort}
use Rattle.bl_syntax.specs.Statement.{StatementView, IsStatement}
use Rattle.bl_syntax.specs.Grant.{GrantView, IsTimeCondition, IsStateCondition}
use Rattle.bl_syntax.specs.Substitution.{instance_at}
use Rattle.bl_syntax.specs.ConditionTests.{is_constant_in_range, is_ctime, is_time_condition, is_state_condition}
use Rattle.bl_syntax.proofs.ConditionTestLemmas.{Decides-is_in_range, Decides-time_condition, Decides-state_condition}
use Rattle.bl_rules.specs.Sequent.{holds, claims}
use Rattle.condition_set.specs.Conditions.{without_conditions}
use Rattle.proof_term.specs.Proof.{ProofView, init, cons_r, inter_r, and_r, or_r1, or_r2, true_r, imp_r, forall_r, exists_r, says_r, at_r, cons_l, inter_l, and_l, or_l, false_l, imp_l, forall_l, exists_l, says_l, claim, at_l}
use Rattle.proof_term.specs.Limits.{size, HasTimesInRange}
use Rattle.proof_verifier.specs.declared.fault.CheckFault.{CheckFault}
use Rattle.proof_verifier.specs.declared.fault.CheckFault.TheVariants.{NotEntailed, NotInState}
use Rattle.proof_verifier.specs.Sequent.{Sequent, aim, aim_at, learn, bound, observe, declare, new_parameter, new_start, new_end, suppose, speak}
use Rattle.proof_verifier.specs.Shapes.{and_then}
use Rattle.proof_verifier.specs.Tests.{has_state, is_parameter, names_ctime_and_no_parameter, names_no_parameter}
use Rattle.proof_verifier.specs.LeftOver.{by_rule, by_grant}
use Rattle.proof_verifier.specs.Entailed.{is_entailed}
use Rattle.proof_verifier.specs.Conditions.{keep_time, keep_state, time_condition, state_condition}
use Rattle.proof_verifier.specs.Rules.{Answer, by_init, by_cons_r, by_inter_r, by_and_r, by_or_r1, by_or_r2, by_true_r, by_imp_r, by_forall_r, by_exists_r, by_says_r, by_at_r, by_cons_l, by_inter_l, by_and_l, by_or_l, by_false_l, by_imp_l, by_forall_l, by_exists_l, by_says_l, by_claim, by_at_l}
use Rattle.proof_verifier.specs.Verdict.{answer, root, verdict, computed_verdict}
use Rattle.proof_verifier.specs.WellFormed.{IsTermOf, IsClosed, IsInterval, IsWellFormedSequent}
use Rattle.proof_verifier.proofs.SoundnessShapes.{Gives, gives_constraint, gives_state, gives_both, gives_either, gives_implies, gives_forall, gives_exists, gives_says, gives_on, gives_truth_at, gives_claim_at, gives_term, gives_strength, gives_same_atom}
use Rattle.proof_verifier.proofs.WellFormedLemmas.{as_form, parts_of_both, parts_of_either, parts_of_implies, parts_of_says, parts_of_on, parts_of_compare, instance_of_forall, instance_of_exists, new_instance_of_forall, new_instance_of_exists, IsWellFormed-aim, IsWellFormed-learn, IsWellFormed-bound, IsWellFormed-observe, IsWellFormed-declare, IsWellFormed-speak, IsWellFormed-suppose, IsWellFormed-root}

-- ---- conditions

-- a term in scope is a parameter, the current time or a constant
one_of_three : (parameters : List Sort) (sort : Sort) (t : Term) → HasSort parameters [] sort t → HasTimeInRange t → not (is_parameter t) ≡ (is_ctime t || is_constant_in_range t)
one_of_three parameters sort (Prin name) sorted in_range = refl
one_of_three parameters sort (File number) sorted in_range = refl
one_of_three parameters sort (Perm permission) sorted in_range = refl
one_of_three parameters sort (Time point) sorted in_range = sym ((Decides-is_in_range point).1 in_range)
one_of_three parameters sort (Text constant) sorted in_range = refl
one_of_three parameters sort Ctime sorted in_range = refl
one_of_three parameters sort (Param n) sorted in_range = refl
one_of_three parameters sort (Bound n) sorted in_range = absurd (none-some sort sorted)

-- one of another sort than times is a parameter or a constant
one_of_two : (parameters : List Sort) (sort : Sort) (t : Term) → (sorts.Time ≡ sort → ⊥) → HasSort parameters [] sort t → HasTimeInRange t → not (is_parameter t) ≡ is_constant_in_range t
one_of_two parameters sort (Prin name) other sorted in_range = refl
one_of_two parameters sort (File number) other sorted in_range = refl
one_of_two parameters sort (Perm permission) other sorted in_range = refl
one_of_two parameters sort (Time point) other sorted in_range = absurd (other (cc))
one_of_two parameters sort (Text constant) other sorted in_range = refl
one_of_two parameters sort Ctime other sorted in_range = absurd (other (cc))
one_of_two parameters sort (Param n) other sorted in_range = refl
one_of_two parameters sort (Bound n) other sorted in_range = absurd (none-some sort sorted)

pub time_left_over : (parameters : List Sort) (c : Constraint) → IsInterval parameters c.low c.high → names_ctime_and_no_parameter c ≡ is_time_condition c
time_left_over parameters c h =
    ap₂ (λ (low high : Bool). (is_ctime c.low || is_ctime c.high) && (low && high))
    (one_of_three parameters sorts.Time c.low h.from_time.sorted h.from_time.in_range)
    (one_of_three parameters sorts.Time c.high h.to_time.sorted h.to_time.in_range)

not_either : (x y : Bool) → not (x || y) ≡ (not x && not y)
not_either true y = refl
not_either false y = refl

-- no term is a parameter where each is a constant
none_or_all : (terms : List Term) → AllByRecursion (λ (t : Term). not (is_parameter t) ≡ is_constant_in_range t) terms → not (list_any is_parameter terms) ≡ list_all is_constant_in_range terms
none_or_all [] h = refl
none_or_all (t ∷ terms) h =
    not_either (is_parameter t) (list_any is_parameter terms) ∙ ap₂ (λ (x y : Bool). x && y) h.0 (none_or_all terms h.1)

pub state_left_over : (parameters : List Sort) (s : StatePred) → IsClosed parameters (state s) → names_no_parameter s ≡ is_state_condition s
state_left_over parameters (Owner file owner) h =
    none_or_all (file ∷ owner ∷ []) (
      one_of_two parameters sorts.File file (λ e. cc) h.sorted.0 h.in_range.0,
      (one_of_two parameters sorts.Principal owner (λ e. cc) h.sorted.1 h.in_range.1.0, tt),
    )
state_left_over parameters (HasXattr file name value) h =
    none_or_all (file ∷ name ∷ value ∷ []) (
      one_of_two parameters sorts.File file (λ e. cc) h.sorted.0 h.in_range.0,
      (
        one_of_two parameters sorts.Text name (λ e. cc) h.sorted.1.0 h.in_range.1.0,
        (one_of_two parameters sorts.Text value (λ e. cc) h.sorted.1.1 h.in_range.1.1.0, tt),
      ),
    )
state_left_over parameters (InDir file directory) h =
    none_or_all (file ∷ directory ∷ []) (
      one_of_two parameters sorts.File file (λ e. cc) h.sorted.0 h.in_range.0,
      (one_of_two parameters sorts.File directory (λ e. cc) h.sorted.1 h.in_range.1.0, tt),
    )

pub Decides-time_left_over : (parameters : List Sort) (c : Constraint) → IsInterval parameters c.low c.high → Decides (names_ctime_and_no_parameter c) (IsTimeCondition c)
Decides-time_left_over parameters c h =
    let agree = time_left_over parameters c h in
    (λ e. (Decides-time_condition c).0 (sym agree ∙ e), λ condition. agree ∙ (Decides-time_condition c).1 condition)

pub Decides-state_left_over : (parameters : List Sort) (s : StatePred) → IsClosed parameters (state s) → Decides (names_no_parameter s) (IsStateCondition s)
Decides-state_left_over parameters s h =
    let agree = state_left_over parameters s h in
    (λ e. (Decides-state_condition s).0 (sym agree ∙ e), λ condition. agree ∙ (Decides-state_condition s).1 condition)

-- ---- steps

-- two steps give the same
record Same {A : Type 0} (one other : Result A CheckFault) : Type 0 where
  pub same : one ≡ other

itself : {A : Type 0} (step : Result A CheckFault) → Same step step
itself step = record { same = refl }

-- a step, and then two that are the same after what it gives
chain : {A B : Type 0} {step : Result A CheckFault} {later other : A → Result B CheckFault} {P : A → Type 0}
    → Gives step P → ((found : A) → P found → Same (later found) (other found)) → Same (and_then step later) (and_then step other)
chain {step = Ok found} first next = next found (first.gives found refl)
chain {step = Err fault} first next = record { same = refl }

afterwards : {A B : Type 0} (step : Result A CheckFault) (later other : A → Result B CheckFault)
    → ((found : A) → Same (later found) (other found)) → and_then step later ≡ and_then step other
afterwards (Ok found) later other next = (next found).same
afterwards (Err fault) later other next = refl

-- two steps that are the same, and then two more
chain_both : {A B : Type 0} {one two : Result A CheckFault} {later other : A → Result B CheckFault}
    → Same one two → ((found : A) → Same (later found) (other found)) → Same (and_then one later) (and_then two other)
chain_both {A} {B} {one} {two} {later} {other} first next = record {
  same = afterwards one later other next ∙ ap (λ (step : Result A CheckFault). and_then step other) first.same;
}

between : Term → Term → Constraint
between u v = record { low = u; high = v }

same_time : (node : ℕ) (s : Sequent) (u v : Term) (g : GrantView) → IsInterval s.sorts u v
    → Same (time_condition by_rule node s.constraints u v g) (time_condition by_grant node s.constraints u v g)
unfolding between
same_time node s u v g h = record {
  same = ap (λ (test : Bool). if is_entailed s.constraints u v then Ok g else if test then keep_time node (between u v) g else Err (NotEntailed node))
      (time_left_over s.sorts (between u v) h);
}

same_fact : (node : ℕ) (s : Sequent) (fact : StatePred) (g : GrantView) → IsClosed s.sorts (state fact)
    → Same (state_condition by_rule node s.facts fact g) (state_condition by_grant node s.facts fact g)
same_fact node s fact g h = record {
  same = ap (λ (test : Bool). if has_state s.facts fact then Ok g else if test then keep_state node fact g else Err (NotInState node)) (state_left_over s.sorts fact h);
}

interval : {parameters : List Sort} {u v : Term} → IsTermOf parameters sorts.Time u → IsTermOf parameters sorts.Time v → IsInterval parameters u v
interval from_time to_time = record { from_time = from_time; to_time = to_time }

term_of : {parameters : List Sort} {sort : Sort} {t : Term} → HasSort parameters [] sort t → HasTimeInRange t → IsTermOf parameters sort t
term_of sorted in_range = record { sorted = sorted; in_range = in_range }

-- ---- rules

-- at each well formed node the two answer the same
record Agrees (p p' : Answer) : Type 0 where
  pub step : (node : ℕ) (s : Sequent) (g : GrantView) → IsWellFormedSequent s → Same (p node s g) (p' node s g)

by_init-agrees : (h : ℕ) → Agrees (by_init by_rule h) (by_init by_grant h)
by_init-agrees h = record {
  step = λ node s g w.
      chain (gives_truth_at node s h) λ t among.
      chain (gives_same_atom node t.0 s.goal) λ _ _.
      let known = w.hypotheses (holds t.0 t.1 t.2) among in
      chain_both (same_time node s t.1 s.from g (interval known.1.from_time w.interval.from_time)) λ g1.
      same_time node s s.to t.2 g1 (interval w.interval.to_time known.1.to_time);
}

by_cons_r-agrees : Agrees (by_cons_r by_rule) (by_cons_r by_grant)
by_cons_r-agrees = record {
  step = λ node s g w.
      chain (gives_constraint node s.goal) λ c is.
      same_time node s c.low c.high g (parts_of_compare (as_form is w.goal));
}

by_inter_r-agrees : Agrees (by_inter_r by_rule) (by_inter_r by_grant)
by_inter_r-agrees = record {
  step = λ node s g w.
      chain (gives_state node s.goal) λ fact is.
      same_fact node s fact g (as_form is w.goal);
}

by_and_r-agrees : {p p' q q' : Answer} → (nodes : ℕ) → Agrees p p' → Agrees q q' → Agrees (by_and_r p nodes q) (by_and_r p' nodes q')
by_and_r-agrees nodes p q = record {
  step = λ node s g w.
      chain (gives_both node s.goal) λ x is.
      let parts = parts_of_both (as_form is w.goal) in
      chain_both (p.step (1 + node) (aim x.0 s) g (IsWellFormed-aim parts.0 w.interval w)) λ g1.
      q.step (1 + node + nodes) (aim x.1 s) g1 (IsWellFormed-aim parts.1 w.interval w);
}

by_or_r1-agrees : {p p' : Answer} → Agrees p p' → Agrees (by_or_r1 p) (by_or_r1 p')
by_or_r1-agrees p = record {
  step = λ node s g w.
      chain (gives_either node s.goal) λ x is.
      p.step (1 + node) (aim x.0 s) g (IsWellFormed-aim (parts_of_either (as_form is w.goal)).0 w.interval w);
}

by_or_r2-agrees : {p p' : Answer} → Agrees p p' → Agrees (by_or_r2 p) (by_or_r2 p')
by_or_r2-agrees p = record {
  step = λ node s g w.
      chain (gives_either node s.goal) λ x is.
      p.step (1 + node) (aim x.1 s) g (IsWellFormed-aim (parts_of_either (as_form is w.goal)).1 w.interval w);
}

itself_always : (p : Answer) → Agrees p p
itself_always p = record { step = λ node s g w. itself (p node s g) }

by_imp_r-agrees : {p p' : Answer} → Agrees p p' → Agrees (by_imp_r p) (by_imp_r p')
by_imp_r-agrees p = record {
  step = λ node s g w.
      chain (gives_implies node s.goal) λ x is.
      let parts = parts_of_implies (as_form is w.goal) in
      p.step (1 + node) (aim_at x.1 (new_start s) (new_end s) (suppose x.0 s)) g (IsWellFormed-suppose parts.0 parts.1 w);
}

by_forall_r-agrees : {p p' : Answer} → Agrees p p' → Agrees (by_forall_r p) (by_forall_r p')
by_forall_r-agrees p = record {
  step = λ node s g w.
      chain (gives_forall node s.goal) λ x is.
      let declared = IsWellFormed-declare x.0 w in
      p.step (1 + node) (aim (instance_at (new_parameter s) x.1) (declare x.0 s)) g
      (IsWellFormed-aim (new_instance_of_forall (as_form is w.goal)) declared.interval declared);
}

by_exists_r-agrees : {p p' : Answer} → (t : Term) → HasTimeInRange t → Agrees p p' → Agrees (by_exists_r t p) (by_exists_r t p')
by_exists_r-agrees t in_range p = record {
  step = λ node s g w.
      chain (gives_exists node s.goal) λ x is.
      chain (gives_term node s.sorts x.0 t) λ _ sorted.
      p.step (1 + node) (aim (instance_at t x.1) s) g (IsWellFormed-aim (instance_of_exists (term_of sorted in_range) (as_form is w.goal)) w.interval w);
}

by_says_r-agrees : {p p' : Answer} → Agrees p p' → Agrees (by_says_r p) (by_says_r p')
by_says_r-agrees p = record {
  step = λ node s g w.
      chain (gives_says node s.goal) λ x is.
      let parts = parts_of_says (as_form is w.goal) in
      p.step (1 + node) (aim x.1 (speak x.0 s)) g (IsWellFormed-aim parts.1 w.interval (IsWellFormed-speak x.0 parts.0 w));
}

by_at_r-agrees : {p p' : Answer} → Agrees p p' → Agrees (by_at_r p) (by_at_r p')
by_at_r-agrees p = record {
  step = λ node s g w.
      chain (gives_on node s.goal) λ x is.
      let parts = parts_of_on (as_form is w.goal) in
      p.step (1 + node) (aim_at x.0 x.1 x.2 s) g (IsWellFormed-aim parts.0 parts.1 w);
}

by_cons_l-agrees : {p p' : Answer} → (h : ℕ) → Agrees p p' → Agrees (by_cons_l h p) (by_cons_l h p')
by_cons_l-agrees h p = record {
  step = λ node s g w.
      chain (gives_truth_at node s h) λ t among.
      chain (gives_constraint node t.0) λ c is.
      let known = w.hypotheses (holds t.0 t.1 t.2) among in
      p.step (1 + node) (bound c.low c.high s) g (IsWellFormed-bound c.low c.high (parts_of_compare (as_form is known.0)) w);
}

by_inter_l-agrees : {p p' : Answer} → (h : ℕ) → Agrees p p' → Agrees (by_inter_l h p) (by_inter_l h p')
by_inter_l-agrees h p = record {
  step = λ node s g w.
      chain (gives_truth_at node s h) λ t among.
      chain (gives_state node t.0) λ fact is.
      let known = w.hypotheses (holds t.0 t.1 t.2) among in
      p.step (1 + node) (observe fact s) g (IsWellFormed-observe fact (as_form is known.0) w);
}

by_and_l-agrees : {p p' : Answer} → (h : ℕ) → Agrees p p' → Agrees (by_and_l h p) (by_and_l h p')
by_and_l-agrees h p = record {
  step = λ node s g w.
      chain (gives_truth_at node s h) λ t among.
      chain (gives_both node t.0) λ x is.
      let known = w.hypotheses (holds t.0 t.1 t.2) among in
      let parts = parts_of_both (as_form is known.0) in
      p.step (1 + node) (learn (holds x.1 t.1 t.2) (learn (holds x.0 t.1 t.2) s)) g
      (IsWellFormed-learn (holds x.1 t.1 t.2) (parts.1, known.1) (IsWellFormed-learn (holds x.0 t.1 t.2) (parts.0, known.1) w));
}

by_or_l-agrees : {p p' q q' : Answer} → (h nodes : ℕ) → Agrees p p' → Agrees q q' → Agrees (by_or_l h p nodes q) (by_or_l h p' nodes q')
by_or_l-agrees h nodes p q = record {
  step = λ node s g w.
      chain (gives_truth_at node s h) λ t among.
      chain (gives_either node t.0) λ x is.
      let known = w.hypotheses (holds t.0 t.1 t.2) among in
      let parts = parts_of_either (as_form is known.0) in
      chain_both (p.step (1 + node) (learn (holds x.0 t.1 t.2) s) g (IsWellFormed-learn (holds x.0 t.1 t.2) (parts.0, known.1) w)) λ g1.
      q.step (1 + node + nodes) (learn (holds x.1 t.1 t.2) s) g1 (IsWellFormed-learn (holds x.1 t.1 t.2) (parts.1, known.1) w);
}

by_imp_l-agrees : {p p' q q' : Answer} → (h : ℕ) (t1 t2 : Term) (nodes : ℕ) → HasTimeInRange t1 → HasTimeInRange t2 → Agrees p p' → Agrees q q'
    → Agrees (by_imp_l by_rule h t1 t2 p nodes q) (by_imp_l by_grant h t1 t2 p' nodes q')
by_imp_l-agrees h t1 t2 nodes first_in_range second_in_range p q = record {
  step = λ node s g w.
      chain (gives_truth_at node s h) λ t among.
      chain (gives_implies node t.0) λ x is.
      chain (gives_term node s.sorts sorts.Time t1) λ _ first_sorted.
      chain (gives_term node s.sorts sorts.Time t2) λ _ second_sorted.
      let known = w.hypotheses (holds t.0 t.1 t.2) among in
      let parts = parts_of_implies (as_form is known.0) in
      let within = interval (term_of first_sorted first_in_range) (term_of second_sorted second_in_range) in
      chain_both (same_time node s t.1 t1 g (interval known.1.from_time within.from_time)) λ g1.
      chain_both (same_time node s t2 t.2 g1 (interval within.to_time known.1.to_time)) λ g2.
      chain_both (p.step (1 + node) (aim_at x.0 t1 t2 s) g2 (IsWellFormed-aim parts.0 within w)) λ g3.
      q.step (1 + node + nodes) (learn (holds x.1 t1 t2) s) g3 (IsWellFormed-learn (holds x.1 t1 t2) (parts.1, within) w);
}

by_forall_l-agrees : {p p' : Answer} → (h : ℕ) (t : Term) → HasTimeInRange t → Agrees p p' → Agrees (by_forall_l h t p) (by_forall_l h t p')
by_forall_l-agrees h witness in_range p = record {
  step = λ node s g w.
      chain (gives_truth_at node s h) λ t among.
      chain (gives_forall node t.0) λ x is.
      chain (gives_term node s.sorts x.0 witness) λ _ sorted.
      let known = w.hypotheses (holds t.0 t.1 t.2) among in
      p.step (1 + node) (learn (holds (instance_at witness x.1) t.1 t.2) s) g
      (IsWellFormed-learn (holds (instance_at witness x.1) t.1 t.2) (instance_of_forall (term_of sorted in_range) (as_form is known.0), known.1) w);
}

by_exists_l-agrees : {p p' : Answer} → (h : ℕ) → Agrees p p' → Agrees (by_exists_l h p) (by_exists_l h p')
by_exists_l-agrees h p = record {
  step = λ node s g w.
      chain (gives_truth_at node s h) λ t among.
      chain (gives_exists node t.0) λ x is.
      let declared = IsWellFormed-declare x.0 w in
      let was = w.hypotheses (holds t.0 t.1 t.2) among in
      let known = declared.hypotheses (holds t.0 t.1 t.2) among in
      p.step (1 + node) (learn (holds (instance_at (new_parameter s) x.1) t.1 t.2) (declare x.0 s)) g
      (IsWellFormed-learn (holds (instance_at (new_parameter s) x.1) t.1 t.2) (new_instance_of_exists (as_form is was.0), known.1) declared);
}

by_says_l-agrees : {p p' : Answer} → (h : ℕ) → Agrees p p' → Agrees (by_says_l h p) (by_says_l h p')
by_says_l-agrees h p = record {
  step = λ node s g w.
      chain (gives_truth_at node s h) λ t among.
      chain (gives_says node t.0) λ x is.
      let known = w.hypotheses (holds t.0 t.1 t.2) among in
      let parts = parts_of_says (as_form is known.0) in
      p.step (1 + node) (learn (claims x.0 x.1 t.1 t.2) s) g (IsWellFormed-learn (claims x.0 x.1 t.1 t.2) (parts.0, (parts.1, known.1)) w);
}

by_claim-agrees : {p p' : Answer} → (h : ℕ) → Agrees p p' → Agrees (by_claim by_rule h p) (by_claim by_grant h p')
by_claim-agrees h p = record {
  step = λ node s g w.
      chain (gives_claim_at node s h) λ t among.
      chain (gives_strength node t.0 s.view.who) λ _ _.
      let known = w.hypotheses (claims t.0 t.1 t.2 t.3) among in
      chain_both (same_time node s t.2 s.view.from g (interval known.1.1.from_time w.view.from_time)) λ g1.
      chain_both (same_time node s s.view.to t.3 g1 (interval w.view.to_time known.1.1.to_time)) λ g2.
      p.step (1 + node) (learn (holds t.1 t.2 t.3) s) g2 (IsWellFormed-learn (holds t.1 t.2 t.3) known.1 w);
}

by_at_l-agrees : {p p' : Answer} → (h : ℕ) → Agrees p p' → Agrees (by_at_l h p) (by_at_l h p')
by_at_l-agrees h p = record {
  step = λ node s g w.
      chain (gives_truth_at node s h) λ t among.
      chain (gives_on node t.0) λ x is.
      let known = w.hypotheses (holds t.0 t.1 t.2) among in
      p.step (1 + node) (learn (holds x.0 x.1 x.2) s) g (IsWellFormed-learn (holds x.0 x.1 x.2) (parts_of_on (as_form is known.0)) w);
}

answer-agrees : (d : ProofView) → HasTimesInRange d → Agrees (answer by_rule d) (answer by_grant d)
unfolding answer
answer-agrees (init h) r = by_init-agrees h
answer-agrees cons_r r = by_cons_r-agrees
answer-agrees inter_r r = by_inter_r-agrees
answer-agrees (and_r p q) r = by_and_r-agrees (size p) (answer-agrees p r.0) (answer-agrees q r.1)
answer-agrees (or_r1 p) r = by_or_r1-agrees (answer-agrees p r)
answer-agrees (or_r2 p) r = by_or_r2-agrees (answer-agrees p r)
answer-agrees true_r r = itself_always by_true_r
answer-agrees (imp_r p) r = by_imp_r-agrees (answer-agrees p r)
answer-agrees (forall_r p) r = by_forall_r-agrees (answer-agrees p r)
answer-agrees (exists_r t p) r = by_exists_r-agrees t r.0 (answer-agrees p r.1)
answer-agrees (says_r p) r = by_says_r-agrees (answer-agrees p r)
answer-agrees (at_r p) r = by_at_r-agrees (answer-agrees p r)
answer-agrees (cons_l h p) r = by_cons_l-agrees h (answer-agrees p r)
answer-agrees (inter_l h p) r = by_inter_l-agrees h (answer-agrees p r)
answer-agrees (and_l h p) r = by_and_l-agrees h (answer-agrees p r)
answer-agrees (or_l h p q) r = by_or_l-agrees h (size p) (answer-agrees p r.0) (answer-agrees q r.1)
answer-agrees (false_l h) r = itself_always (by_false_l h)
answer-agrees (imp_l h t1 t2 p q) r = by_imp_l-agrees h t1 t2 (size p) r.0.0 r.0.1 (answer-agrees p r.1.0) (answer-agrees q r.1.1)
answer-agrees (forall_l h t p) r = by_forall_l-agrees h t r.0 (answer-agrees p r.1)
answer-agrees (exists_l h p) r = by_exists_l-agrees h (answer-agrees p r)
answer-agrees (says_l h p) r = by_says_l-agrees h (answer-agrees p r)
answer-agrees (claim h p) r = by_claim-agrees h (answer-agrees p r)
answer-agrees (at_l h p) r = by_at_l-agrees h (answer-agrees p r)

-- at each node whose sequent is well formed
pub answer-same : (d : ProofView) → HasTimesInRange d → (node : ℕ) (s : Sequent) (g : GrantView) → IsWellFormedSequent s → answer by_rule d node s g ≡ answer by_grant d node s g
answer-same d in_range node s g w = ((answer-agrees d in_range).step node s g w).same

pub verdict-computed : (statements : List StatementView) (goal : Goal) (d : ProofView) → AllByRecursion IsStatement statements → HasTimesInRange d
    → verdict statements goal d ≡ computed_verdict statements goal d
verdict-computed statements goal d are_statements in_range =
    answer-same d in_range 0 (root statements goal) (without_conditions goal) (IsWellFormed-root statements goal are_statements)
