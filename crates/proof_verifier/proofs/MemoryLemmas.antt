-- The verdict is never out of memory: its faults are those that the rules name.
use Rattle.std.proofs.Common.{◌≡◌, ℕ, ◌+◌, zero, suc, Bool, true, false, ◌&&◌, List, [], ◌∷◌, Result, Ok, Err, Option, Some, None, subst}
use Rattle.std.specs.Prelude.{if◌then◌else◌}
use Rattle.std.specs.Result.{IfErr}
use Rattle.std.specs.Str.{bytes_eq}
use Rattle.bl_syntax.specs.declared.terms.Sort.{Sort}
use Rattle.bl_syntax.specs.declared.terms.Sort.TheVariants.{Time}
use Rattle.bl_syntax.specs.declared.terms.Term.{Term}
use Rattle.bl_syntax.specs.declared.terms.StatePred.{StatePred}
use Rattle.bl_syntax.specs.declared.terms.Constraint.{Constraint}
use Rattle.bl_syntax.specs.declared.grant.Goal.{Goal}
use Rattle.bl_syntax.specs.Formula.{FormulaView, atom, compare, state, both, either, implies, truth, falsity, forall_, exists_, says, on}
use Rattle.bl_syntax.specs.Statement.{StatementView}
use Rattle.bl_syntax.specs.Terms.{sort_of}
use Rattle.bl_syntax.specs.Grant.{GrantView}
use Rattle.bl_syntax.specs.Substitution.{instance_at}
use Rattle.bl_rules.specs.Sequent.{Hypothesis, holds, claims}
use Rattle.condition_set.specs.Conditions.{without_conditions}
use Rattle.proof_term.specs.Proof.{ProofView, init, cons_r, inter_r, and_r, or_r1, or_r2, true_r, imp_r, forall_r, exists_r, says_r, at_r, cons_l, inter_l, and_l, or_l, false_l, imp_l, forall_l, exists_l, says_l, claim, at_l}
use Rattle.proof_term.specs.Limits.{size}
use Rattle.proof_verifier.specs.declared.fault.CheckFault.{CheckFault}
use Rattle.proof_verifier.specs.declared.fault.CheckFault.TheVariants.{NoHypothesis, WrongShape, NotEntailed, NotInState, ViewTooWeak, BadTerm, TooManyConditions, NoMemory}
use Rattle.proof_verifier.specs.Sequent.{Sequent, aim, aim_at, learn, bound, observe, declare, new_parameter, new_start, new_end, suppose, speak}
use Rattle.proof_verifier.specs.Shapes.{and_then, cited_hypothesis, as_truth, as_claim, truth_at, claim_at, as_atom, as_same_atom, as_constraint, as_state, as_both, as_either, as_implies, as_true, as_false, as_forall, as_exists, as_says, as_on}
use Rattle.proof_verifier.specs.Tests.{are_same, has_constraint, has_state, is_as_strong}
use Rattle.proof_verifier.specs.Entailed.{is_entailed}
use Rattle.proof_verifier.specs.Conditions.{is_full, keep_time, keep_state, time_condition, state_condition, of_sort, term_condition, strength_condition}
use Rattle.proof_verifier.specs.LeftOver.{LeftOver, by_rule}
use Rattle.proof_verifier.specs.Rules.{Answer, by_init, by_cons_r, by_inter_r, by_and_r, by_or_r1, by_or_r2, by_true_r, by_imp_r, by_forall_r, by_exists_r, by_says_r, by_at_r, by_cons_l, by_inter_l, by_and_l, by_or_l, by_false_l, by_imp_l, by_forall_l, by_exists_l, by_says_l, by_claim, by_at_l}
use Rattle.proof_verifier.specs.Verdict.{answer, root, verdict}

abbrev IsNamed : CheckFault → Type 0
IsNamed (NoHypothesis node) = Unit {0}
IsNamed (WrongShape node) = Unit {0}
IsNamed (NotEntailed node) = Unit {0}
IsNamed (NotInState node) = Unit {0}
IsNamed (ViewTooWeak node) = Unit {0}
IsNamed (BadTerm node) = Unit {0}
IsNamed (TooManyConditions node) = Unit {0}
IsNamed NoMemory = ⊥

-- the step's fault, if it has one, is not out of memory
record Reported {A : Type 0} (step : Result A CheckFault) : Type 0 where
  pub fault : IfErr step IsNamed

told : {A : Type 0} (step : Result A CheckFault) → IfErr step IsNamed → Reported step
told step named = record { fault = named }

abbrev passed : {A : Type 0} → A → Result A CheckFault
passed found = Ok found

given : {A : Type 0} (found : A) → Reported (passed found)
given found = record { fault = tt }

chain : {A B : Type 0} {step : Result A CheckFault} {later : A → Result B CheckFault} → Reported step → ((found : A) → Reported (later found)) → Reported (and_then step later)
chain {step = Ok found} {later = later} first next = next found
chain {step = Err fault} {later = later} first next = record { fault = first.fault }

either_way : {A : Type 0} (test : Bool) (step other : Result A CheckFault) → Reported step → Reported other → Reported (if test then step else other)
either_way true step other first second = first
either_way false step other first second = second

told_cited : (node : ℕ) (hypotheses : List (Option Hypothesis)) (h : ℕ) → IfErr (cited_hypothesis node hypotheses h) IsNamed
told_cited node [] h = tt
told_cited node (None ∷ rest) zero = tt
told_cited node (Some x ∷ rest) zero = tt
told_cited node (left ∷ rest) (suc h) = told_cited node rest h

told_truth : (node : ℕ) (x : Hypothesis) → IfErr (as_truth node x) IsNamed
told_truth node (holds a u v) = tt
told_truth node (claims k a u v) = tt

told_claim : (node : ℕ) (x : Hypothesis) → IfErr (as_claim node x) IsNamed
told_claim node (holds a u v) = tt
told_claim node (claims k a u v) = tt

truth_told : (node : ℕ) (s : Sequent) (h : ℕ) → Reported (truth_at node s.hypotheses h)
truth_told node s h = chain (told (cited_hypothesis node s.hypotheses h) (told_cited node s.hypotheses h)) (λ x. told (as_truth node x) (told_truth node x))

claim_told : (node : ℕ) (s : Sequent) (h : ℕ) → Reported (claim_at node s.hypotheses h)
claim_told node s h = chain (told (cited_hypothesis node s.hypotheses h) (told_cited node s.hypotheses h)) (λ x. told (as_claim node x) (told_claim node x))

is_atom : (node : ℕ) (f : FormulaView) → IfErr (as_atom node f) IsNamed
is_atom node (atom name terms) = tt
is_atom node _ = tt

told_atom : (node : ℕ) (f : FormulaView) → Reported (as_atom node f)
told_atom node f = told (as_atom node f) (is_atom node f)

is_constraint : (node : ℕ) (f : FormulaView) → IfErr (as_constraint node f) IsNamed
is_constraint node (compare c) = tt
is_constraint node _ = tt

told_constraint : (node : ℕ) (f : FormulaView) → Reported (as_constraint node f)
told_constraint node f = told (as_constraint node f) (is_constraint node f)

is_state : (node : ℕ) (f : FormulaView) → IfErr (as_state node f) IsNamed
is_state node (state s) = tt
is_state node _ = tt

told_state : (node : ℕ) (f : FormulaView) → Reported (as_state node f)
told_state node f = told (as_state node f) (is_state node f)

is_both : (node : ℕ) (f : FormulaView) → IfErr (as_both node f) IsNamed
is_both node (both a b) = tt
is_both node _ = tt

told_both : (node : ℕ) (f : FormulaView) → Reported (as_both node f)
told_both node f = told (as_both node f) (is_both node f)

is_either : (node : ℕ) (f : FormulaView) → IfErr (as_either node f) IsNamed
is_either node (either a b) = tt
is_either node _ = tt

told_either : (node : ℕ) (f : FormulaView) → Reported (as_either node f)
told_either node f = told (as_either node f) (is_either node f)

is_implies : (node : ℕ) (f : FormulaView) → IfErr (as_implies node f) IsNamed
is_implies node (implies a b) = tt
is_implies node _ = tt

told_implies : (node : ℕ) (f : FormulaView) → Reported (as_implies node f)
told_implies node f = told (as_implies node f) (is_implies node f)

is_true : (node : ℕ) (f : FormulaView) → IfErr (as_true node f) IsNamed
is_true node truth = tt
is_true node _ = tt

told_true : (node : ℕ) (f : FormulaView) → Reported (as_true node f)
told_true node f = told (as_true node f) (is_true node f)

is_false : (node : ℕ) (f : FormulaView) → IfErr (as_false node f) IsNamed
is_false node falsity = tt
is_false node _ = tt

told_false : (node : ℕ) (f : FormulaView) → Reported (as_false node f)
told_false node f = told (as_false node f) (is_false node f)

is_forall : (node : ℕ) (f : FormulaView) → IfErr (as_forall node f) IsNamed
is_forall node (forall_ s a) = tt
is_forall node _ = tt

told_forall : (node : ℕ) (f : FormulaView) → Reported (as_forall node f)
told_forall node f = told (as_forall node f) (is_forall node f)

is_exists : (node : ℕ) (f : FormulaView) → IfErr (as_exists node f) IsNamed
is_exists node (exists_ s a) = tt
is_exists node _ = tt

told_exists : (node : ℕ) (f : FormulaView) → Reported (as_exists node f)
told_exists node f = told (as_exists node f) (is_exists node f)

is_says : (node : ℕ) (f : FormulaView) → IfErr (as_says node f) IsNamed
is_says node (says k a) = tt
is_says node _ = tt

told_says : (node : ℕ) (f : FormulaView) → Reported (as_says node f)
told_says node f = told (as_says node f) (is_says node f)

is_on : (node : ℕ) (f : FormulaView) → IfErr (as_on node f) IsNamed
is_on node (on a u v) = tt
is_on node _ = tt

told_on : (node : ℕ) (f : FormulaView) → Reported (as_on node f)
told_on node f = told (as_on node f) (is_on node f)

told_same_atom : (node : ℕ) (a b : FormulaView) → Reported (as_same_atom node a b)
told_same_atom node a b =
    chain (told_atom node a) λ x.
    chain (told_atom node b) λ y.
    either_way (bytes_eq x.0 y.0 && are_same x.1 y.1) _ _ (given tt) (told (Err (WrongShape node)) tt)

told_term : (node : ℕ) (sorts : List Sort) (sort : Sort) (t : Term) → Reported (term_condition node sorts sort t)
told_term node sorts sort t = either_way (of_sort sort (sort_of sorts [] t)) _ _ (given tt) (told (Err (BadTerm node)) tt)

told_strength : (node : ℕ) (k other : Term) → Reported (strength_condition node k other)
told_strength node k other = either_way (is_as_strong k other) _ _ (given tt) (told (Err (ViewTooWeak node)) tt)

told_keep_time : (node : ℕ) (c : Constraint) (g : GrantView) → Reported (keep_time node c g)
told_keep_time node c g =
    either_way (has_constraint g.times c) _ _ (given g) (either_way (is_full g) _ _ (told (Err (TooManyConditions node)) tt) (told (Ok _) tt))

told_keep_state : (node : ℕ) (s : StatePred) (g : GrantView) → Reported (keep_state node s g)
told_keep_state node s g =
    either_way (has_state g.states s) _ _ (given g) (either_way (is_full g) _ _ (told (Err (TooManyConditions node)) tt) (told (Ok _) tt))

told_time : (left_over : LeftOver) (node : ℕ) (constraints : List Constraint) (u v : Term) (g : GrantView) → Reported (time_condition left_over node constraints u v g)
told_time left_over node constraints u v g =
    either_way (is_entailed constraints u v) _ _ (given g)
    (either_way (left_over.time (record { low = u; high = v })) _ _ (told_keep_time node (record { low = u; high = v }) g) (told (Err (NotEntailed node)) tt))

told_fact : (left_over : LeftOver) (node : ℕ) (facts : List StatePred) (s : StatePred) (g : GrantView) → Reported (state_condition left_over node facts s g)
told_fact left_over node facts s g =
    either_way (has_state facts s) _ _ (given g)
    (either_way (left_over.state s) _ _ (told_keep_state node s g) (told (Err (NotInState node)) tt))

-- whatever the proof answers at a node
record Tells (p : Answer) : Type 0 where
  pub step : (node : ℕ) (s : Sequent) (g : GrantView) → Reported (p node s g)

by_init-told : (left_over : LeftOver) (h : ℕ) → Tells (by_init left_over h)
by_init-told left_over h = record {
  step = λ node s g.
      chain (truth_told node s h) λ t.
      chain (told_same_atom node t.0 s.goal) λ _.
      chain (told_time left_over node s.constraints t.1 s.from g) λ g1.
      told_time left_over node s.constraints s.to t.2 g1;
}

by_cons_r-told : (left_over : LeftOver) → Tells (by_cons_r left_over)
by_cons_r-told left_over = record {
  step = λ node s g.
      chain (told_constraint node s.goal) λ d.
      told_time left_over node s.constraints d.low d.high g;
}

by_inter_r-told : (left_over : LeftOver) → Tells (by_inter_r left_over)
by_inter_r-told left_over = record {
  step = λ node s g.
      chain (told_state node s.goal) λ fact.
      told_fact left_over node s.facts fact g;
}

by_and_r-told : (p : Answer) (nodes : ℕ) (q : Answer) → Tells p → Tells q → Tells (by_and_r p nodes q)
by_and_r-told p nodes q p_told q_told = record {
  step = λ node s g.
      chain (told_both node s.goal) λ x.
      chain (p_told.step (1 + node) (aim x.0 s) g) λ g1.
      q_told.step (1 + node + nodes) (aim x.1 s) g1;
}

by_or_r1-told : (p : Answer) → Tells p → Tells (by_or_r1 p)
by_or_r1-told p p_told = record {
  step = λ node s g.
      chain (told_either node s.goal) λ x.
      p_told.step (1 + node) (aim x.0 s) g;
}

by_or_r2-told : (p : Answer) → Tells p → Tells (by_or_r2 p)
by_or_r2-told p p_told = record {
  step = λ node s g.
      chain (told_either node s.goal) λ x.
      p_told.step (1 + node) (aim x.1 s) g;
}

by_true_r-told : Tells by_true_r
by_true_r-told = record {
  step = λ node s g.
      chain (told_true node s.goal) λ _.
      given g;
}

by_imp_r-told : (p : Answer) → Tells p → Tells (by_imp_r p)
by_imp_r-told p p_told = record {
  step = λ node s g.
      chain (told_implies node s.goal) λ x.
      p_told.step (1 + node) (aim_at x.1 (new_start s) (new_end s) (suppose x.0 s)) g;
}

by_forall_r-told : (p : Answer) → Tells p → Tells (by_forall_r p)
by_forall_r-told p p_told = record {
  step = λ node s g.
      chain (told_forall node s.goal) λ x.
      p_told.step (1 + node) (aim (instance_at (new_parameter s) x.1) (declare x.0 s)) g;
}

by_exists_r-told : (t : Term) (p : Answer) → Tells p → Tells (by_exists_r t p)
by_exists_r-told t p p_told = record {
  step = λ node s g.
      chain (told_exists node s.goal) λ x.
      chain (told_term node s.sorts x.0 t) λ _.
      p_told.step (1 + node) (aim (instance_at t x.1) s) g;
}

by_says_r-told : (p : Answer) → Tells p → Tells (by_says_r p)
by_says_r-told p p_told = record {
  step = λ node s g.
      chain (told_says node s.goal) λ x.
      p_told.step (1 + node) (aim x.1 (speak x.0 s)) g;
}

by_at_r-told : (p : Answer) → Tells p → Tells (by_at_r p)
by_at_r-told p p_told = record {
  step = λ node s g.
      chain (told_on node s.goal) λ x.
      p_told.step (1 + node) (aim_at x.0 x.1 x.2 s) g;
}

by_cons_l-told : (h : ℕ) (p : Answer) → Tells p → Tells (by_cons_l h p)
by_cons_l-told h p p_told = record {
  step = λ node s g.
      chain (truth_told node s h) λ t.
      chain (told_constraint node t.0) λ d.
      p_told.step (1 + node) (bound d.low d.high s) g;
}

by_inter_l-told : (h : ℕ) (p : Answer) → Tells p → Tells (by_inter_l h p)
by_inter_l-told h p p_told = record {
  step = λ node s g.
      chain (truth_told node s h) λ t.
      chain (told_state node t.0) λ fact.
      p_told.step (1 + node) (observe fact s) g;
}

by_and_l-told : (h : ℕ) (p : Answer) → Tells p → Tells (by_and_l h p)
by_and_l-told h p p_told = record {
  step = λ node s g.
      chain (truth_told node s h) λ t.
      chain (told_both node t.0) λ x.
      p_told.step (1 + node) (learn (holds x.1 t.1 t.2) (learn (holds x.0 t.1 t.2) s)) g;
}

by_or_l-told : (h : ℕ) (p : Answer) (nodes : ℕ) (q : Answer) → Tells p → Tells q → Tells (by_or_l h p nodes q)
by_or_l-told h p nodes q p_told q_told = record {
  step = λ node s g.
      chain (truth_told node s h) λ t.
      chain (told_either node t.0) λ x.
      chain (p_told.step (1 + node) (learn (holds x.0 t.1 t.2) s) g) λ g1.
      q_told.step (1 + node + nodes) (learn (holds x.1 t.1 t.2) s) g1;
}

by_false_l-told : (h : ℕ) → Tells (by_false_l h)
by_false_l-told h = record {
  step = λ node s g.
      chain (truth_told node s h) λ t.
      chain (told_false node t.0) λ _.
      given g;
}

by_imp_l-told : (left_over : LeftOver) (h : ℕ) (t1 : Term) (t2 : Term) (p : Answer) (nodes : ℕ) (q : Answer) → Tells p → Tells q → Tells (by_imp_l left_over h t1 t2 p nodes q)
by_imp_l-told left_over h t1 t2 p nodes q p_told q_told = record {
  step = λ node s g.
      chain (truth_told node s h) λ t.
      chain (told_implies node t.0) λ x.
      chain (told_term node s.sorts Time t1) λ _.
      chain (told_term node s.sorts Time t2) λ _.
      chain (told_time left_over node s.constraints t.1 t1 g) λ g1.
      chain (told_time left_over node s.constraints t2 t.2 g1) λ g2.
      chain (p_told.step (1 + node) (aim_at x.0 t1 t2 s) g2) λ g3.
      q_told.step (1 + node + nodes) (learn (holds x.1 t1 t2) s) g3;
}

by_forall_l-told : (h : ℕ) (witness : Term) (p : Answer) → Tells p → Tells (by_forall_l h witness p)
by_forall_l-told h witness p p_told = record {
  step = λ node s g.
      chain (truth_told node s h) λ t.
      chain (told_forall node t.0) λ x.
      chain (told_term node s.sorts x.0 witness) λ _.
      p_told.step (1 + node) (learn (holds (instance_at witness x.1) t.1 t.2) s) g;
}

by_exists_l-told : (h : ℕ) (p : Answer) → Tells p → Tells (by_exists_l h p)
by_exists_l-told h p p_told = record {
  step = λ node s g.
      chain (truth_told node s h) λ t.
      chain (told_exists node t.0) λ x.
      p_told.step (1 + node) (learn (holds (instance_at (new_parameter s) x.1) t.1 t.2) (declare x.0 s)) g;
}

by_says_l-told : (h : ℕ) (p : Answer) → Tells p → Tells (by_says_l h p)
by_says_l-told h p p_told = record {
  step = λ node s g.
      chain (truth_told node s h) λ t.
      chain (told_says node t.0) λ x.
      p_told.step (1 + node) (learn (claims x.0 x.1 t.1 t.2) s) g;
}

by_claim-told : (left_over : LeftOver) (h : ℕ) (p : Answer) → Tells p → Tells (by_claim left_over h p)
by_claim-told left_over h p p_told = record {
  step = λ node s g.
      chain (claim_told node s h) λ t.
      chain (told_strength node t.0 s.view.who) λ _.
      chain (told_time left_over node s.constraints t.2 s.view.from g) λ g1.
      chain (told_time left_over node s.constraints s.view.to t.3 g1) λ g2.
      p_told.step (1 + node) (learn (holds t.1 t.2 t.3) s) g2;
}

by_at_l-told : (h : ℕ) (p : Answer) → Tells p → Tells (by_at_l h p)
by_at_l-told h p p_told = record {
  step = λ node s g.
      chain (truth_told node s h) λ t.
      chain (told_on node t.0) λ x.
      p_told.step (1 + node) (learn (holds x.0 x.1 x.2) s) g;
}

answer-told : (left_over : LeftOver) (d : ProofView) → Tells (answer left_over d)
unfolding answer
answer-told left_over (init h) = by_init-told left_over h
answer-told left_over cons_r = by_cons_r-told left_over
answer-told left_over inter_r = by_inter_r-told left_over
answer-told left_over (and_r p q) = by_and_r-told (answer left_over p) (size p) (answer left_over q) (answer-told left_over p) (answer-told left_over q)
answer-told left_over (or_r1 p) = by_or_r1-told (answer left_over p) (answer-told left_over p)
answer-told left_over (or_r2 p) = by_or_r2-told (answer left_over p) (answer-told left_over p)
answer-told left_over true_r = by_true_r-told
answer-told left_over (imp_r p) = by_imp_r-told (answer left_over p) (answer-told left_over p)
answer-told left_over (forall_r p) = by_forall_r-told (answer left_over p) (answer-told left_over p)
answer-told left_over (exists_r t p) = by_exists_r-told t (answer left_over p) (answer-told left_over p)
answer-told left_over (says_r p) = by_says_r-told (answer left_over p) (answer-told left_over p)
answer-told left_over (at_r p) = by_at_r-told (answer left_over p) (answer-told left_over p)
answer-told left_over (cons_l h p) = by_cons_l-told h (answer left_over p) (answer-told left_over p)
answer-told left_over (inter_l h p) = by_inter_l-told h (answer left_over p) (answer-told left_over p)
answer-told left_over (and_l h p) = by_and_l-told h (answer left_over p) (answer-told left_over p)
answer-told left_over (or_l h p q) = by_or_l-told h (answer left_over p) (size p) (answer left_over q) (answer-told left_over p) (answer-told left_over q)
answer-told left_over (false_l h) = by_false_l-told h
answer-told left_over (imp_l h t1 t2 p q) = by_imp_l-told left_over h t1 t2 (answer left_over p) (size p) (answer left_over q) (answer-told left_over p) (answer-told left_over q)
answer-told left_over (forall_l h t p) = by_forall_l-told h t (answer left_over p) (answer-told left_over p)
answer-told left_over (exists_l h p) = by_exists_l-told h (answer left_over p) (answer-told left_over p)
answer-told left_over (says_l h p) = by_says_l-told h (answer left_over p) (answer-told left_over p)
answer-told left_over (claim h p) = by_claim-told left_over h (answer left_over p) (answer-told left_over p)
answer-told left_over (at_l h p) = by_at_l-told h (answer left_over p) (answer-told left_over p)

not_of_memory : (step : Result GrantView CheckFault) → IfErr step IsNamed → step ≡ Err NoMemory → ⊥
not_of_memory step named e = subst (λ (r : Result GrantView CheckFault). IfErr r IsNamed) e named

pub verdict-memoryless : (statements : List StatementView) (goal : Goal) (d : ProofView) → verdict statements goal d ≡ Err NoMemory → ⊥
verdict-memoryless statements goal d = not_of_memory _ ((answer-told by_rule d).step 0 (root statements goal) (without_conditions goal)).fault
