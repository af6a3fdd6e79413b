-- What the verdict on a proof grants stands on one line: each term of its conditions is one of a statement, of the goal or
-- of the proof.
use Rattle.std.proofs.Common.{◌≡◌, ℕ, ◌+◌, List, [], ◌∷◌, ◌++◌, Option, Some, None, Ok, refl, subst, ⊎_elim}
use Rattle.std.specs.Prelude.{Contains}
use Rattle.std.specs.List.{AllByRecursion}
use Rattle.std.proofs.lemmas.Option.{same_Some, none-some}
use Rattle.std.proofs.lemmas.List.Elements.{Contains-push_cases}
use Rattle.bl_syntax.specs.declared.terms.Sort.{Sort}
use Rattle.bl_syntax.specs.declared.terms.Sort.TheVariants.{Time}
use Rattle.bl_syntax.specs.declared.terms.Term.{Term}
use Rattle.bl_syntax.specs.declared.terms.Constraint.{Constraint}
use Rattle.bl_syntax.specs.declared.terms.StatePred.{StatePred}
use Rattle.bl_syntax.specs.declared.grant.Goal.{Goal}
use Rattle.bl_syntax.specs.Formula.{FormulaView, compare, state, both, either, implies, forall_, exists_, says, on}
use Rattle.bl_syntax.specs.Grant.{GrantView}
use Rattle.bl_syntax.specs.Statement.{StatementView, AllTerms}
use Rattle.bl_syntax.specs.Substitution.{instance_at}
use Rattle.bl_syntax.proofs.GrantLemmas.{AllByRecursion-push}
use Rattle.access_history.proofs.ListLemmas.{AllByRecursion-contains}
use Rattle.bl_rules.specs.Sequent.{Hypothesis, holds, claims}
use Rattle.bl_rules.specs.Allowed.{claim_of}
use Rattle.bl_rules.proofs.Membership.{Contains-map_cases}
use Rattle.condition_set.specs.Conditions.{without_conditions}
use Rattle.proof_term.specs.Proof.{ProofView, init, cons_r, inter_r, and_r, or_r1, or_r2, true_r, imp_r, forall_r, exists_r, says_r, at_r, cons_l, inter_l, and_l, or_l, false_l, imp_l, forall_l, exists_l, says_l, claim, at_l}
use Rattle.proof_term.specs.Limits.{size}
use Rattle.proof_verifier.specs.declared.fault.CheckFault.TheVariants.{NotEntailed, NotInState, TooManyConditions}
use Rattle.proof_verifier.specs.Conditions.{is_full, keep_time, keep_state, time_condition, state_condition}
use Rattle.proof_verifier.specs.Entailed.{is_entailed}
use Rattle.proof_verifier.specs.LeftOver.{LeftOver, by_rule}
use Rattle.proof_verifier.specs.Rules.{Answer, by_init, by_cons_r, by_inter_r, by_and_r, by_or_r1, by_or_r2, by_true_r, by_imp_r, by_forall_r, by_exists_r, by_says_r, by_at_r, by_cons_l, by_inter_l, by_and_l, by_or_l, by_false_l, by_imp_l, by_forall_l, by_exists_l, by_says_l, by_claim, by_at_l}
use Rattle.proof_verifier.specs.Sequent.{Sequent, aim, aim_at, learn, bound, observe, declare, new_parameter, new_start, new_end, suppose, speak, unless_truth}
use Rattle.proof_verifier.specs.Tests.{has_constraint, has_state}
use Rattle.proof_verifier.specs.Verdict.{answer, root, verdict}
use Rattle.proof_verifier.proofs.SoundnessShapes.{Gives, gives_here, no_gift, chain, either_way, gives_constraint, gives_state, gives_both, gives_either, gives_implies, gives_truth, gives_falsity, gives_forall, gives_exists, gives_says, gives_on, IsTruth, IsClaim, gives_truth_at, gives_claim_at, gives_term, gives_strength, gives_same_atom}
use Rattle.line_wire.specs.Unbroken.{IsUnbroken, IsUnbrokenTerm, IsUnbrokenConstraint, IsUnbrokenState, IsUnbrokenGrant}
use Rattle.reply_laws.specs.Brought.{IsUnbrokenStatement, HasUnbrokenTerms}
use Rattle.reply_laws.proofs.GrammarLemmas.{state_unbroken}
use Rattle.reply_laws.proofs.InstanceLemmas.{formula_put}

-- ---- sequents

-- the terms of the formula stand on one line
abbrev IsUnbrokenFormula : FormulaView → Type 0
IsUnbrokenFormula f = AllTerms IsUnbrokenTerm f

-- a formula on an interval
record IsOnLine (a : FormulaView) (u v : Term) : Type 0 where
  pub body : IsUnbrokenFormula a
  pub from : IsUnbrokenTerm u
  pub to : IsUnbrokenTerm v

-- who claims it goes into no condition
abbrev IsUnbrokenHypothesis : Hypothesis → Type 0
IsUnbrokenHypothesis (holds a u v) = IsOnLine a u v
IsUnbrokenHypothesis (claims k a u v) = IsOnLine a u v

-- the hypotheses, the goal, and both intervals
record IsUnbrokenSequent (s : Sequent) : Type 0 where
  pub hypotheses : (h : Hypothesis) → Contains s.hypotheses (Some h) → IsUnbrokenHypothesis h
  pub view_from : IsUnbrokenTerm s.view.from
  pub view_to : IsUnbrokenTerm s.view.to
  pub goal : IsOnLine s.goal s.from s.to

on_line : (a : FormulaView) (u v : Term) → IsUnbrokenFormula a → IsUnbrokenTerm u → IsUnbrokenTerm v → IsOnLine a u v
on_line a u v body from to = record { body = body; from = from; to = to }

-- the form that was found
as_form : (f g : FormulaView) → f ≡ g → IsUnbrokenFormula f → IsUnbrokenFormula g
as_form f g same h = subst (λ (x : FormulaView). IsUnbrokenFormula x) same h

cited_truth : (s : Sequent) (x : FormulaView × Term × Term) → IsUnbrokenSequent s → IsTruth s x → IsOnLine x.0 x.1 x.2
cited_truth s x w among = w.hypotheses (holds x.0 x.1 x.2) among

cited_claim : (s : Sequent) (x : Term × FormulaView × Term × Term) → IsUnbrokenSequent s → IsClaim s x → IsOnLine x.1 x.2 x.3
cited_claim s x w among = w.hypotheses (claims x.0 x.1 x.2 x.3) among

aimed : (s : Sequent) (goal : FormulaView) (u v : Term) → IsUnbrokenSequent s → IsOnLine goal u v → IsUnbrokenSequent (aim_at goal u v s)
aimed s goal u v w new = record { hypotheses = w.hypotheses; view_from = w.view_from; view_to = w.view_to; goal = new }

-- another goal on the same interval
turned : (s : Sequent) (goal : FormulaView) → IsUnbrokenSequent s → IsUnbrokenFormula goal → IsUnbrokenSequent (aim goal s)
turned s goal w new = record { hypotheses = w.hypotheses; view_from = w.view_from; view_to = w.view_to; goal = on_line goal s.from s.to new w.goal.from w.goal.to }

learned : (s : Sequent) (h : Hypothesis) → IsUnbrokenSequent s → IsUnbrokenHypothesis h → IsUnbrokenSequent (learn h s)
learned s h w new = record {
  hypotheses = λ x among. ⊎_elim
      (λ (old : Contains s.hypotheses (Some x)). w.hypotheses x old)
      (λ same. subst (λ (y : Hypothesis). IsUnbrokenHypothesis y) (same_Some h x same) new)
      (Contains-push_cases s.hypotheses (Some h) (Some x) among);
  view_from = w.view_from;
  view_to = w.view_to;
  goal = w.goal;
}

bounded : (s : Sequent) (u v : Term) → IsUnbrokenSequent s → IsUnbrokenSequent (bound u v s)
bounded s u v w = record { hypotheses = w.hypotheses; view_from = w.view_from; view_to = w.view_to; goal = w.goal }

observed : (s : Sequent) (fact : StatePred) → IsUnbrokenSequent s → IsUnbrokenSequent (observe fact s)
observed s fact w = record { hypotheses = w.hypotheses; view_from = w.view_from; view_to = w.view_to; goal = w.goal }

declared : (s : Sequent) (sort : Sort) → IsUnbrokenSequent s → IsUnbrokenSequent (declare sort s)
declared s sort w = record { hypotheses = w.hypotheses; view_from = w.view_from; view_to = w.view_to; goal = w.goal }

-- on a new interval from a formula there
supposed : (s : Sequent) (a b : FormulaView) → IsUnbrokenSequent s → IsUnbrokenFormula a → IsUnbrokenFormula b → IsUnbrokenSequent (aim_at b (new_start s) (new_end s) (suppose a s))
supposed s a b w assumed wanted =
    let declared_both = declared (declare Time s) Time (declared s Time w) in
    let bounded_both = bounded (bound s.from (new_start s) (declare Time (declare Time s))) (new_end s) s.to (bounded (declare Time (declare Time s)) s.from (new_start s) declared_both) in
    aimed (suppose a s) b (new_start s) (new_end s)
    (learned (bound (new_end s) s.to (bound s.from (new_start s) (declare Time (declare Time s)))) (holds a (new_start s) (new_end s)) bounded_both (on_line a (new_start s) (new_end s) assumed tt tt))
    (on_line b (new_start s) (new_end s) wanted tt tt)

claim_left : (left : Option Hypothesis) (h : Hypothesis) → unless_truth left ≡ Some h → left ≡ Some h
claim_left None h e = absurd (none-some h e)
claim_left (Some (holds a u v)) h e = absurd (none-some h e)
claim_left (Some (claims k a u v)) h e = e

spoken : (s : Sequent) (k : Term) → IsUnbrokenSequent s → IsUnbrokenSequent (speak k s)
spoken s k w = record {
  hypotheses = λ h among.
      let was = Contains-map_cases unless_truth s.hypotheses (Some h) among in
      w.hypotheses h (subst (λ (x : Option Hypothesis). Contains s.hypotheses x) (claim_left was.0 h was.2) was.1);
  view_from = w.goal.from;
  view_to = w.goal.to;
  goal = w.goal;
}

-- ---- conditions

time_kept : (node : ℕ) (c : Constraint) (g : GrantView) → IsUnbrokenConstraint c → IsUnbrokenGrant g → Gives (keep_time node c g) IsUnbrokenGrant
time_kept node c g new h =
    either_way (has_constraint g.times c) _ _ IsUnbrokenGrant (λ _. gives_here g IsUnbrokenGrant h)
    (λ _. either_way (is_full g) _ _ IsUnbrokenGrant (λ _. no_gift (TooManyConditions node) IsUnbrokenGrant)
    (λ _. gives_here (record g { times = g.times ++ c ∷ [] }) IsUnbrokenGrant (AllByRecursion-push IsUnbrokenConstraint g.times c h.0 new, h.1)))

fact_kept : (node : ℕ) (s : StatePred) (g : GrantView) → IsUnbrokenState s → IsUnbrokenGrant g → Gives (keep_state node s g) IsUnbrokenGrant
fact_kept node s g new h =
    either_way (has_state g.states s) _ _ IsUnbrokenGrant (λ _. gives_here g IsUnbrokenGrant h)
    (λ _. either_way (is_full g) _ _ IsUnbrokenGrant (λ _. no_gift (TooManyConditions node) IsUnbrokenGrant)
    (λ _. gives_here (record g { states = g.states ++ s ∷ [] }) IsUnbrokenGrant (h.0, AllByRecursion-push IsUnbrokenState g.states s h.1 new)))

time_met : (left_over : LeftOver) (node : ℕ) (constraints : List Constraint) (u v : Term) (g : GrantView) → IsUnbrokenTerm u → IsUnbrokenTerm v → IsUnbrokenGrant g → Gives (time_condition left_over node constraints u v g) IsUnbrokenGrant
time_met left_over node constraints u v g low high h =
    either_way (is_entailed constraints u v) _ _ IsUnbrokenGrant (λ _. gives_here g IsUnbrokenGrant h)
    (λ _. either_way (left_over.time (record { low = u; high = v })) _ _ IsUnbrokenGrant (λ _. time_kept node (record { low = u; high = v }) g (low, high) h)
    (λ _. no_gift (NotEntailed node) IsUnbrokenGrant))

fact_met : (left_over : LeftOver) (node : ℕ) (facts : List StatePred) (s : StatePred) (g : GrantView) → IsUnbrokenState s → IsUnbrokenGrant g → Gives (state_condition left_over node facts s g) IsUnbrokenGrant
fact_met left_over node facts s g new h =
    either_way (has_state facts s) _ _ IsUnbrokenGrant (λ _. gives_here g IsUnbrokenGrant h)
    (λ _. either_way (left_over.state s) _ _ IsUnbrokenGrant (λ _. fact_kept node s g new h) (λ _. no_gift (NotInState node) IsUnbrokenGrant))

-- ---- rules

-- whatever the proof answers at a node, its conditions stand on one line
record KeepsOnLine (p : Answer) : Type 0 where
  pub step : (node : ℕ) (s : Sequent) (g : GrantView) → IsUnbrokenSequent s → IsUnbrokenGrant g → Gives (p node s g) IsUnbrokenGrant

init_on_line : (left_over : LeftOver) (h : ℕ) → KeepsOnLine (by_init left_over h)
init_on_line left_over number = record {
  step = λ node s g w h.
      chain (gives_truth_at node s number) λ t among.
      let known = cited_truth s t w among in
      chain (gives_same_atom node t.0 s.goal) λ _ same.
      chain (time_met left_over node s.constraints t.1 s.from g known.from w.goal.from h) λ g1 h1.
      time_met left_over node s.constraints s.to t.2 g1 w.goal.to known.to h1;
}

cons_r_on_line : (left_over : LeftOver) → KeepsOnLine (by_cons_r left_over)
cons_r_on_line left_over = record {
  step = λ node s g w h.
      chain (gives_constraint node s.goal) λ c is.
      let terms = as_form s.goal (compare c) is w.goal.body in
      time_met left_over node s.constraints c.low c.high g terms.0 terms.1 h;
}

inter_r_on_line : (left_over : LeftOver) → KeepsOnLine (by_inter_r left_over)
inter_r_on_line left_over = record {
  step = λ node s g w h.
      chain (gives_state node s.goal) λ fact is.
      fact_met left_over node s.facts fact g (state_unbroken fact (as_form s.goal (state fact) is w.goal.body)) h;
}

and_r_on_line : (p : Answer) (nodes : ℕ) (q : Answer) → KeepsOnLine p → KeepsOnLine q → KeepsOnLine (by_and_r p nodes q)
and_r_on_line p nodes q first second = record {
  step = λ node s g w h.
      chain (gives_both node s.goal) λ x is.
      let parts = as_form s.goal (both x.0 x.1) is w.goal.body in
      chain (first.step (1 + node) (aim x.0 s) g (turned s x.0 w parts.0) h) λ g1 h1.
      second.step (1 + node + nodes) (aim x.1 s) g1 (turned s x.1 w parts.1) h1;
}

or_r1_on_line : (p : Answer) → KeepsOnLine p → KeepsOnLine (by_or_r1 p)
or_r1_on_line p premise = record {
  step = λ node s g w h.
      chain (gives_either node s.goal) λ x is.
      premise.step (1 + node) (aim x.0 s) g (turned s x.0 w (as_form s.goal (either x.0 x.1) is w.goal.body).0) h;
}

or_r2_on_line : (p : Answer) → KeepsOnLine p → KeepsOnLine (by_or_r2 p)
or_r2_on_line p premise = record {
  step = λ node s g w h.
      chain (gives_either node s.goal) λ x is.
      premise.step (1 + node) (aim x.1 s) g (turned s x.1 w (as_form s.goal (either x.0 x.1) is w.goal.body).1) h;
}

true_r_on_line : KeepsOnLine by_true_r
true_r_on_line = record {
  step = λ node s g w h.
      chain (gives_truth node s.goal) λ _ is.
      gives_here g IsUnbrokenGrant h;
}

imp_r_on_line : (p : Answer) → KeepsOnLine p → KeepsOnLine (by_imp_r p)
imp_r_on_line p premise = record {
  step = λ node s g w h.
      chain (gives_implies node s.goal) λ x is.
      let parts = as_form s.goal (implies x.0 x.1) is w.goal.body in
      premise.step (1 + node) (aim_at x.1 (new_start s) (new_end s) (suppose x.0 s)) g (supposed s x.0 x.1 w parts.0 parts.1) h;
}

forall_r_on_line : (p : Answer) → KeepsOnLine p → KeepsOnLine (by_forall_r p)
forall_r_on_line p premise = record {
  step = λ node s g w h.
      chain (gives_forall node s.goal) λ x is.
      let body = formula_put 0 (new_parameter s) tt x.1 (as_form s.goal (forall_ x.0 x.1) is w.goal.body) in
      premise.step (1 + node) (aim (instance_at (new_parameter s) x.1) (declare x.0 s)) g (turned (declare x.0 s) (instance_at (new_parameter s) x.1) (declared s x.0 w) body) h;
}

exists_r_on_line : (t : Term) (p : Answer) → IsUnbrokenTerm t → KeepsOnLine p → KeepsOnLine (by_exists_r t p)
exists_r_on_line t p named premise = record {
  step = λ node s g w h.
      chain (gives_exists node s.goal) λ x is.
      let body = formula_put 0 t named x.1 (as_form s.goal (exists_ x.0 x.1) is w.goal.body) in
      chain (gives_term node s.sorts x.0 t) λ _ sorted.
      premise.step (1 + node) (aim (instance_at t x.1) s) g (turned s (instance_at t x.1) w body) h;
}

says_r_on_line : (p : Answer) → KeepsOnLine p → KeepsOnLine (by_says_r p)
says_r_on_line p premise = record {
  step = λ node s g w h.
      chain (gives_says node s.goal) λ x is.
      premise.step (1 + node) (aim x.1 (speak x.0 s)) g (turned (speak x.0 s) x.1 (spoken s x.0 w) (as_form s.goal (says x.0 x.1) is w.goal.body).1) h;
}

at_r_on_line : (p : Answer) → KeepsOnLine p → KeepsOnLine (by_at_r p)
at_r_on_line p premise = record {
  step = λ node s g w h.
      chain (gives_on node s.goal) λ x is.
      let parts = as_form s.goal (on x.0 x.1 x.2) is w.goal.body in
      premise.step (1 + node) (aim_at x.0 x.1 x.2 s) g (aimed s x.0 x.1 x.2 w (on_line x.0 x.1 x.2 parts.0 parts.1.0 parts.1.1)) h;
}

cons_l_on_line : (h : ℕ) (p : Answer) → KeepsOnLine p → KeepsOnLine (by_cons_l h p)
cons_l_on_line number p premise = record {
  step = λ node s g w h.
      chain (gives_truth_at node s number) λ t among.
      chain (gives_constraint node t.0) λ c is.
      premise.step (1 + node) (bound c.low c.high s) g (bounded s c.low c.high w) h;
}

inter_l_on_line : (h : ℕ) (p : Answer) → KeepsOnLine p → KeepsOnLine (by_inter_l h p)
inter_l_on_line number p premise = record {
  step = λ node s g w h.
      chain (gives_truth_at node s number) λ t among.
      chain (gives_state node t.0) λ fact is.
      premise.step (1 + node) (observe fact s) g (observed s fact w) h;
}

and_l_on_line : (h : ℕ) (p : Answer) → KeepsOnLine p → KeepsOnLine (by_and_l h p)
and_l_on_line number p premise = record {
  step = λ node s g w h.
      chain (gives_truth_at node s number) λ t among.
      let known = cited_truth s t w among in
      chain (gives_both node t.0) λ x is.
      let parts = as_form t.0 (both x.0 x.1) is known.body in
      let one = learned s (holds x.0 t.1 t.2) w (on_line x.0 t.1 t.2 parts.0 known.from known.to) in
      premise.step (1 + node) (learn (holds x.1 t.1 t.2) (learn (holds x.0 t.1 t.2) s)) g (learned (learn (holds x.0 t.1 t.2) s) (holds x.1 t.1 t.2) one (on_line x.1 t.1 t.2 parts.1 known.from known.to)) h;
}

or_l_on_line : (h : ℕ) (p : Answer) (nodes : ℕ) (q : Answer) → KeepsOnLine p → KeepsOnLine q → KeepsOnLine (by_or_l h p nodes q)
or_l_on_line number p nodes q first second = record {
  step = λ node s g w h.
      chain (gives_truth_at node s number) λ t among.
      let known = cited_truth s t w among in
      chain (gives_either node t.0) λ x is.
      let parts = as_form t.0 (either x.0 x.1) is known.body in
      chain (first.step (1 + node) (learn (holds x.0 t.1 t.2) s) g (learned s (holds x.0 t.1 t.2) w (on_line x.0 t.1 t.2 parts.0 known.from known.to)) h) λ g1 h1.
      second.step (1 + node + nodes) (learn (holds x.1 t.1 t.2) s) g1 (learned s (holds x.1 t.1 t.2) w (on_line x.1 t.1 t.2 parts.1 known.from known.to)) h1;
}

false_l_on_line : (h : ℕ) → KeepsOnLine (by_false_l h)
false_l_on_line number = record {
  step = λ node s g w h.
      chain (gives_truth_at node s number) λ t among.
      chain (gives_falsity node t.0) λ _ is.
      gives_here g IsUnbrokenGrant h;
}

imp_l_on_line : (left_over : LeftOver) (h : ℕ) (t1 t2 : Term) (p : Answer) (nodes : ℕ) (q : Answer) → IsUnbrokenTerm t1 → IsUnbrokenTerm t2 → KeepsOnLine p → KeepsOnLine q → KeepsOnLine (by_imp_l left_over h t1 t2 p nodes q)
imp_l_on_line left_over number t1 t2 p nodes q low high first second = record {
  step = λ node s g w h.
      chain (gives_truth_at node s number) λ t among.
      let known = cited_truth s t w among in
      chain (gives_implies node t.0) λ x is.
      let parts = as_form t.0 (implies x.0 x.1) is known.body in
      chain (gives_term node s.sorts Time t1) λ _ sorted.
      chain (gives_term node s.sorts Time t2) λ _ also.
      chain (time_met left_over node s.constraints t.1 t1 g known.from low h) λ g1 h1.
      chain (time_met left_over node s.constraints t2 t.2 g1 high known.to h1) λ g2 h2.
      chain (first.step (1 + node) (aim_at x.0 t1 t2 s) g2 (aimed s x.0 t1 t2 w (on_line x.0 t1 t2 parts.0 low high)) h2) λ g3 h3.
      second.step (1 + node + nodes) (learn (holds x.1 t1 t2) s) g3 (learned s (holds x.1 t1 t2) w (on_line x.1 t1 t2 parts.1 low high)) h3;
}

forall_l_on_line : (h : ℕ) (witness : Term) (p : Answer) → IsUnbrokenTerm witness → KeepsOnLine p → KeepsOnLine (by_forall_l h witness p)
forall_l_on_line number witness p named premise = record {
  step = λ node s g w h.
      chain (gives_truth_at node s number) λ t among.
      let known = cited_truth s t w among in
      chain (gives_forall node t.0) λ x is.
      let body = formula_put 0 witness named x.1 (as_form t.0 (forall_ x.0 x.1) is known.body) in
      chain (gives_term node s.sorts x.0 witness) λ _ sorted.
      premise.step (1 + node) (learn (holds (instance_at witness x.1) t.1 t.2) s) g (learned s (holds (instance_at witness x.1) t.1 t.2) w (on_line (instance_at witness x.1) t.1 t.2 body known.from known.to)) h;
}

exists_l_on_line : (h : ℕ) (p : Answer) → KeepsOnLine p → KeepsOnLine (by_exists_l h p)
exists_l_on_line number p premise = record {
  step = λ node s g w h.
      chain (gives_truth_at node s number) λ t among.
      let known = cited_truth s t w among in
      chain (gives_exists node t.0) λ x is.
      let body = formula_put 0 (new_parameter s) tt x.1 (as_form t.0 (exists_ x.0 x.1) is known.body) in
      let new = on_line (instance_at (new_parameter s) x.1) t.1 t.2 body known.from known.to in
      premise.step (1 + node) (learn (holds (instance_at (new_parameter s) x.1) t.1 t.2) (declare x.0 s)) g (learned (declare x.0 s) (holds (instance_at (new_parameter s) x.1) t.1 t.2) (declared s x.0 w) new) h;
}

says_l_on_line : (h : ℕ) (p : Answer) → KeepsOnLine p → KeepsOnLine (by_says_l h p)
says_l_on_line number p premise = record {
  step = λ node s g w h.
      chain (gives_truth_at node s number) λ t among.
      let known = cited_truth s t w among in
      chain (gives_says node t.0) λ x is.
      let parts = as_form t.0 (says x.0 x.1) is known.body in
      premise.step (1 + node) (learn (claims x.0 x.1 t.1 t.2) s) g (learned s (claims x.0 x.1 t.1 t.2) w (on_line x.1 t.1 t.2 parts.1 known.from known.to)) h;
}

claim_on_line : (left_over : LeftOver) (h : ℕ) (p : Answer) → KeepsOnLine p → KeepsOnLine (by_claim left_over h p)
claim_on_line left_over number p premise = record {
  step = λ node s g w h.
      chain (gives_claim_at node s number) λ t among.
      let known = cited_claim s t w among in
      chain (gives_strength node t.0 s.view.who) λ _ strong.
      chain (time_met left_over node s.constraints t.2 s.view.from g known.from w.view_from h) λ g1 h1.
      chain (time_met left_over node s.constraints s.view.to t.3 g1 w.view_to known.to h1) λ g2 h2.
      premise.step (1 + node) (learn (holds t.1 t.2 t.3) s) g2 (learned s (holds t.1 t.2 t.3) w known) h2;
}

at_l_on_line : (h : ℕ) (p : Answer) → KeepsOnLine p → KeepsOnLine (by_at_l h p)
at_l_on_line number p premise = record {
  step = λ node s g w h.
      chain (gives_truth_at node s number) λ t among.
      let known = cited_truth s t w among in
      chain (gives_on node t.0) λ x is.
      let parts = as_form t.0 (on x.0 x.1 x.2) is known.body in
      premise.step (1 + node) (learn (holds x.0 x.1 x.2) s) g (learned s (holds x.0 x.1 x.2) w (on_line x.0 x.1 x.2 parts.0 parts.1.0 parts.1.1)) h;
}

answer_on_line : (left_over : LeftOver) (d : ProofView) → HasUnbrokenTerms d → KeepsOnLine (answer left_over d)
unfolding answer
answer_on_line left_over (init h) is = init_on_line left_over h
answer_on_line left_over cons_r is = cons_r_on_line left_over
answer_on_line left_over inter_r is = inter_r_on_line left_over
answer_on_line left_over (and_r p q) is = and_r_on_line (answer left_over p) (size p) (answer left_over q) (answer_on_line left_over p is.0) (answer_on_line left_over q is.1)
answer_on_line left_over (or_r1 p) is = or_r1_on_line (answer left_over p) (answer_on_line left_over p is)
answer_on_line left_over (or_r2 p) is = or_r2_on_line (answer left_over p) (answer_on_line left_over p is)
answer_on_line left_over true_r is = true_r_on_line
answer_on_line left_over (imp_r p) is = imp_r_on_line (answer left_over p) (answer_on_line left_over p is)
answer_on_line left_over (forall_r p) is = forall_r_on_line (answer left_over p) (answer_on_line left_over p is)
answer_on_line left_over (exists_r t p) is = exists_r_on_line t (answer left_over p) is.0 (answer_on_line left_over p is.1)
answer_on_line left_over (says_r p) is = says_r_on_line (answer left_over p) (answer_on_line left_over p is)
answer_on_line left_over (at_r p) is = at_r_on_line (answer left_over p) (answer_on_line left_over p is)
answer_on_line left_over (cons_l h p) is = cons_l_on_line h (answer left_over p) (answer_on_line left_over p is)
answer_on_line left_over (inter_l h p) is = inter_l_on_line h (answer left_over p) (answer_on_line left_over p is)
answer_on_line left_over (and_l h p) is = and_l_on_line h (answer left_over p) (answer_on_line left_over p is)
answer_on_line left_over (or_l h p q) is = or_l_on_line h (answer left_over p) (size p) (answer left_over q) (answer_on_line left_over p is.0) (answer_on_line left_over q is.1)
answer_on_line left_over (false_l h) is = false_l_on_line h
answer_on_line left_over (imp_l h t1 t2 p q) is =
    imp_l_on_line left_over h t1 t2 (answer left_over p) (size p) (answer left_over q) is.0.0 is.0.1 (answer_on_line left_over p is.1.0) (answer_on_line left_over q is.1.1)
answer_on_line left_over (forall_l h t p) is = forall_l_on_line h t (answer left_over p) is.0 (answer_on_line left_over p is.1)
answer_on_line left_over (exists_l h p) is = exists_l_on_line h (answer left_over p) (answer_on_line left_over p is)
answer_on_line left_over (says_l h p) is = says_l_on_line h (answer left_over p) (answer_on_line left_over p is)
answer_on_line left_over (claim h p) is = claim_on_line left_over h (answer left_over p) (answer_on_line left_over p is)
answer_on_line left_over (at_l h p) is = at_l_on_line h (answer left_over p) (answer_on_line left_over p is)

-- ---- the root

claim_unbroken : (s : StatementView) → IsUnbrokenStatement s → IsUnbrokenHypothesis (claim_of s)
claim_unbroken s is = record { body = is.terms; from = tt; to = tt }

root_unbroken : (statements : List StatementView) (goal : Goal) → AllByRecursion IsUnbrokenStatement statements → IsUnbroken goal.who → IsUnbrokenSequent (root statements goal)
root_unbroken statements goal are named = record {
  hypotheses = λ h among.
      let was = Contains-map_cases (λ (s : StatementView). Some (claim_of s)) statements (Some h) among in
      subst (λ (x : Hypothesis). IsUnbrokenHypothesis x) (same_Some (claim_of was.0) h was.2)
      (claim_unbroken was.0 (AllByRecursion-contains IsUnbrokenStatement statements was.0 are was.1));
  view_from = tt;
  view_to = tt;
  goal = record { body = (refl, (named, (tt, (tt, tt)))); from = tt; to = tt };
}

pub verdict_unbroken : (statements : List StatementView) (goal : Goal) (proof : ProofView) (g : GrantView) → AllByRecursion IsUnbrokenStatement statements → IsUnbroken goal.who → HasUnbrokenTerms proof
    → verdict statements goal proof ≡ Ok g → IsUnbrokenGrant g
verdict_unbroken statements goal proof g are named terms is =
    ((answer_on_line by_rule proof terms).step 0 (root statements goal) (without_conditions goal) (root_unbroken statements goal are named) (tt, tt)).gives g is
