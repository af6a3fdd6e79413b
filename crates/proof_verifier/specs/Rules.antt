-- The rules of proofs: what each asks of its node, in order, and what its premises are checked on
-- (after the sequent calculus of BL: Garg, Proof theory for authorization logic and its
-- application to a practical file system; Garg and Pfenning, A proof-carrying file system, 2010).
-- The numbers, the order of tests and the conditions left over are this project's own.
--
-- A rule tests first what it cites, then forms, terms and the order of principals, then its
-- conditions from left to right; then come its premises from left to right.
use Rattle.std.specs.Prelude.{ℕ, ◌+◌, Result, Ok}
use Rattle.bl_syntax.specs.declared.terms.Sort.TheVariants.{Time}
use Rattle.bl_syntax.specs.declared.terms.Term.{Term}
use Rattle.bl_syntax.specs.Grant.{GrantView}
use Rattle.bl_syntax.specs.Substitution.{instance_at}
use Rattle.bl_rules.specs.Sequent.{holds, claims}
use Rattle.proof_verifier.specs.declared.fault.CheckFault.{CheckFault}
use Rattle.proof_verifier.specs.Sequent.{Sequent, aim, aim_at, learn, bound, observe, declare, new_parameter, new_start, new_end, suppose, speak}
use Rattle.proof_verifier.specs.Shapes.{and_then, truth_at, claim_at, as_same_atom, as_constraint, as_state, as_both, as_either, as_implies, as_true, as_false, as_forall, as_exists, as_says, as_on}
use Rattle.proof_verifier.specs.LeftOver.{LeftOver}
use Rattle.proof_verifier.specs.Conditions.{time_condition, state_condition, term_condition, strength_condition}

-- what a proof answers at a node of that number, on a sequent, with the grant so far: the grant
-- then, or the first fault
abbrev pub Answer : Type 0
Answer = ℕ → Sequent → GrantView → Result GrantView CheckFault

-- the goal is the atom of a truth whose interval holds the goal's
abbrev pub by_init : LeftOver → ℕ → Answer
by_init left_over h node s g =
    and_then (truth_at node s.hypotheses h) (λ (a, from, to).
    and_then (as_same_atom node a s.goal) (λ _.
    and_then (time_condition left_over node s.constraints from s.from g) (λ g.
    time_condition left_over node s.constraints s.to to g)))

-- the goal is a constraint
abbrev pub by_cons_r : LeftOver → Answer
by_cons_r left_over node s g = and_then (as_constraint node s.goal) (λ c. time_condition left_over node s.constraints c.low c.high g)

-- the goal is a predicate on the state
abbrev pub by_inter_r : LeftOver → Answer
by_inter_r left_over node s g = and_then (as_state node s.goal) (λ fact. state_condition left_over node s.facts fact g)

-- the goal is A & B: p proves A, q proves B; p has that many nodes
abbrev pub by_and_r : Answer → ℕ → Answer → Answer
by_and_r p nodes q node s g =
    and_then (as_both node s.goal) (λ (a, b).
    and_then (p (1 + node) (aim a s) g) (λ g.
    q (1 + node + nodes) (aim b s) g))

-- the goal is A | B: p proves A
abbrev pub by_or_r1 : Answer → Answer
by_or_r1 p node s g = and_then (as_either node s.goal) (λ (a, b). p (1 + node) (aim a s) g)

-- the goal is A | B: p proves B
abbrev pub by_or_r2 : Answer → Answer
by_or_r2 p node s g = and_then (as_either node s.goal) (λ (a, b). p (1 + node) (aim b s) g)

abbrev pub by_true_r : Answer
by_true_r node s g = and_then (as_true node s.goal) (λ _. Ok g)

-- the goal is A => B: p proves B on a new interval within the goal's, from A there
abbrev pub by_imp_r : Answer → Answer
by_imp_r p node s g = and_then (as_implies node s.goal) (λ (a, b). p (1 + node) (aim_at b (new_start s) (new_end s) (suppose a s)) g)

-- the goal is a forall: p proves the instance at a new parameter
abbrev pub by_forall_r : Answer → Answer
by_forall_r p node s g = and_then (as_forall node s.goal) (λ (sort, a). p (1 + node) (aim (instance_at (new_parameter s) a) (declare sort s)) g)

-- the goal is an exists: p proves the instance at t
abbrev pub by_exists_r : Term → Answer → Answer
by_exists_r t p node s g =
    and_then (as_exists node s.goal) (λ (sort, a).
    and_then (term_condition node s.sorts sort t) (λ _.
    p (1 + node) (aim (instance_at t a) s) g))

-- the goal is K says A: p proves A from the claims alone, in the view of K over the goal's interval
abbrev pub by_says_r : Answer → Answer
by_says_r p node s g = and_then (as_says node s.goal) (λ (k, a). p (1 + node) (aim a (speak k s)) g)

-- the goal is A @ [u,v]: p proves A there
abbrev pub by_at_r : Answer → Answer
by_at_r p node s g = and_then (as_on node s.goal) (λ (a, u, v). p (1 + node) (aim_at a u v s) g)

-- a truth is a constraint: it is one of the constraints in p
abbrev pub by_cons_l : ℕ → Answer → Answer
by_cons_l h p node s g =
    and_then (truth_at node s.hypotheses h) (λ (a, from, to).
    and_then (as_constraint node a) (λ c.
    p (1 + node) (bound c.low c.high s) g))

-- a truth is a predicate on the state: it is a fact in p
abbrev pub by_inter_l : ℕ → Answer → Answer
by_inter_l h p node s g =
    and_then (truth_at node s.hypotheses h) (λ (a, from, to).
    and_then (as_state node a) (λ fact.
    p (1 + node) (observe fact s) g))

-- a truth is A & B: p has A, and then B
abbrev pub by_and_l : ℕ → Answer → Answer
by_and_l h p node s g =
    and_then (truth_at node s.hypotheses h) (λ (ab, from, to).
    and_then (as_both node ab) (λ (a, b).
    p (1 + node) (learn (holds b from to) (learn (holds a from to) s)) g))

-- a truth is A | B: p has A, and q has B; p has that many nodes
abbrev pub by_or_l : ℕ → Answer → ℕ → Answer → Answer
by_or_l h p nodes q node s g =
    and_then (truth_at node s.hypotheses h) (λ (ab, from, to).
    and_then (as_either node ab) (λ (a, b).
    and_then (p (1 + node) (learn (holds a from to) s) g) (λ g.
    q (1 + node + nodes) (learn (holds b from to) s) g)))

-- a truth is false
abbrev pub by_false_l : ℕ → Answer
by_false_l h node s g =
    and_then (truth_at node s.hypotheses h) (λ (a, from, to).
    and_then (as_false node a) (λ _. Ok g))

-- a truth is A => B: on an interval within its own, p proves A, and q has B; p has that many nodes
abbrev pub by_imp_l : LeftOver → ℕ → Term → Term → Answer → ℕ → Answer → Answer
by_imp_l left_over h t1 t2 p nodes q node s g =
    and_then (truth_at node s.hypotheses h) (λ (ab, from, to).
    and_then (as_implies node ab) (λ (a, b).
    and_then (term_condition node s.sorts Time t1) (λ _.
    and_then (term_condition node s.sorts Time t2) (λ _.
    and_then (time_condition left_over node s.constraints from t1 g) (λ g.
    and_then (time_condition left_over node s.constraints t2 to g) (λ g.
    and_then (p (1 + node) (aim_at a t1 t2 s) g) (λ g.
    q (1 + node + nodes) (learn (holds b t1 t2) s) g)))))))

-- a truth is a forall: p has the instance at t
abbrev pub by_forall_l : ℕ → Term → Answer → Answer
by_forall_l h t p node s g =
    and_then (truth_at node s.hypotheses h) (λ (every, from, to).
    and_then (as_forall node every) (λ (sort, a).
    and_then (term_condition node s.sorts sort t) (λ _.
    p (1 + node) (learn (holds (instance_at t a) from to) s) g)))

-- a truth is an exists: p has the instance at a new parameter
abbrev pub by_exists_l : ℕ → Answer → Answer
by_exists_l h p node s g =
    and_then (truth_at node s.hypotheses h) (λ (some, from, to).
    and_then (as_exists node some) (λ (sort, a).
    p (1 + node) (learn (holds (instance_at (new_parameter s) a) from to) (declare sort s)) g))

-- a truth is K says A: p has the claim
abbrev pub by_says_l : ℕ → Answer → Answer
by_says_l h p node s g =
    and_then (truth_at node s.hypotheses h) (λ (said, from, to).
    and_then (as_says node said) (λ (k, a).
    p (1 + node) (learn (claims k a from to) s) g))

-- a claim, of a principal that is strong enough for the view, on an interval that holds the view's:
-- p has the truth
abbrev pub by_claim : LeftOver → ℕ → Answer → Answer
by_claim left_over h p node s g =
    and_then (claim_at node s.hypotheses h) (λ (k, a, from, to).
    and_then (strength_condition node k s.view.who) (λ _.
    and_then (time_condition left_over node s.constraints from s.view.from g) (λ g.
    and_then (time_condition left_over node s.constraints s.view.to to g) (λ g.
    p (1 + node) (learn (holds a from to) s) g))))

-- a truth is A @ [u,v]: p has A there
abbrev pub by_at_l : ℕ → Answer → Answer
by_at_l h p node s g =
    and_then (truth_at node s.hypotheses h) (λ (placed, from, to).
    and_then (as_on node placed) (λ (a, u, v).
    p (1 + node) (learn (holds a u v) s) g))
