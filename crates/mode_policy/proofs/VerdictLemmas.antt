-- The verifier accepts the proof of what a table of modes allows.
use Rattle.std.proofs.Common.{◌≡◌, ℤ, ℕ, ◌+◌, true, false, List, [], ◌∷◌, ◌++◌, refl, sym, ap, ◌∙◌, subst, arith}
use Rattle.std.specs.Prelude.{Result, Ok}
use Rattle.std.specs.Str.{bytes_eq}
use Rattle.std.proofs.lemmas.Slice.Eq.{bytes_eq-Decides}
use Rattle.std.specs.Prelude.{Contains}
use Rattle.bl_syntax.specs.declared.grant.Goal.{Goal}
use Rattle.bl_syntax.specs.declared.terms.Constraint.{Constraint}
use Rattle.bl_syntax.specs.declared.terms.NodeId.{NodeId}
use Rattle.bl_syntax.specs.declared.terms.Perm.{Perm as Permission}
use Rattle.bl_syntax.specs.declared.terms.Sort.{Sort}
use Rattle.bl_syntax.specs.declared.terms.Sort.TheVariants as sorts
use Rattle.bl_syntax.specs.declared.terms.StatePred.{StatePred}
use Rattle.bl_syntax.specs.declared.terms.Term.{Term}
use Rattle.bl_syntax.specs.declared.terms.Term.TheVariants.{Prin, File, Perm, Text, Time, Ctime}
use Rattle.bl_syntax.specs.declared.terms.TimePoint.TheVariants.{At}
use Rattle.bl_syntax.specs.Formula.{FormulaView, atom, state, both, implies, forall_}
use Rattle.bl_syntax.specs.Grant.{GrantView}
use Rattle.bl_syntax.specs.Substitution.{instance_at}
use Rattle.bl_syntax.specs.WellSorted.{may}
use Rattle.bl_rules.specs.Allowed.{admin, access}
use Rattle.bl_rules.specs.Sequent.{holds}
use Rattle.condition_set.specs.Conditions.{without_conditions}
use Rattle.proof_term.specs.Proof.{ProofView, init, inter_r, and_r, imp_l, forall_l, claim}
use Rattle.proof_verifier.specs.declared.fault.CheckFault.{CheckFault}
use Rattle.proof_verifier.specs.Conditions.{time_condition, state_condition, term_condition, strength_condition, is_full}
use Rattle.proof_verifier.specs.Entailed.{is_entailed}
use Rattle.proof_verifier.specs.LeftOver.{by_rule}
use Rattle.proof_verifier.specs.Rules.{Answer, by_init, by_inter_r, by_and_r, by_imp_l, by_forall_l, by_claim}
use Rattle.proof_verifier.specs.Sequent.{Sequent, aim, aim_at, learn, speak}
use Rattle.proof_verifier.specs.Shapes.{and_then, truth_at, claim_at, as_same_atom}
use Rattle.proof_verifier.specs.Tests.{are_same, has_constraint, names_ctime_and_no_parameter}
use Rattle.proof_verifier.specs.Verdict.{answer, root, verdict}
use Rattle.proof_verifier.proofs.TestLemmas.{Decides-has_constraint, Decides-are_same}
use Rattle.mode_policy.specs.declared.modes.Class.{Class}
use Rattle.mode_policy.specs.Modes.{class_name}
use Rattle.mode_policy.specs.Proofs.{goal_of, mode_proof, not_before, not_after, granted}
use Rattle.mode_policy.specs.Statements.{class_predicate, is_owned, class_said, rule_said, stated}

-- ---- one step after another

and_ok : {A B : Type 0} (x : Result A CheckFault) (v : A) (k : A → Result B CheckFault) (r : Result B CheckFault) → x ≡ Ok v → k v ≡ r → and_then x k ≡ r
and_ok x v k r h step = ap (λ (y : Result _ CheckFault). and_then y k) h ∙ step

module _ (node : ℕ) (s : Sequent) (g : GrantView) (r : Result GrantView CheckFault) where
  step_claim : (h : ℕ) (p : Answer) (k : Term) (a : FormulaView) (from to : Term) (g1 g2 : GrantView) → claim_at node s.hypotheses h ≡ Ok (k, a, from, to) → strength_condition node k s.view.who ≡ Ok tt
      → time_condition by_rule node s.constraints from s.view.from g ≡ Ok g1 → time_condition by_rule node s.constraints s.view.to to g1 ≡ Ok g2
      → p (1 + node) (learn (holds a from to) s) g2 ≡ r → by_claim by_rule h p node s g ≡ r
  step_claim h p k a from to g1 g2 found strong begins ends premise =
      and_ok (claim_at node s.hypotheses h) (k, a, from, to) _ r found
      (and_ok (strength_condition node k s.view.who) tt _ r strong
      (and_ok (time_condition by_rule node s.constraints from s.view.from g) g1 _ r begins
      (and_ok (time_condition by_rule node s.constraints s.view.to to g1) g2 _ r ends premise)))

  step_forall : (h : ℕ) (t : Term) (p : Answer) (sort : Sort) (a : FormulaView) (from to : Term) → truth_at node s.hypotheses h ≡ Ok (forall_ sort a, from, to) → term_condition node s.sorts sort t ≡ Ok tt
      → p (1 + node) (learn (holds (instance_at t a) from to) s) g ≡ r → by_forall_l h t p node s g ≡ r
  step_forall h t p sort a from to found sorted premise =
      and_ok (truth_at node s.hypotheses h) (forall_ sort a, from, to) _ r found (and_ok (term_condition node s.sorts sort t) tt _ r sorted premise)

  step_imp : (h : ℕ) (t1 t2 : Term) (p : Answer) (nodes : ℕ) (q : Answer) (a b : FormulaView) (from to : Term) (g1 g2 g3 : GrantView) → truth_at node s.hypotheses h ≡ Ok (implies a b, from, to)
      → term_condition node s.sorts sorts.Time t1 ≡ Ok tt → term_condition node s.sorts sorts.Time t2 ≡ Ok tt
      → time_condition by_rule node s.constraints from t1 g ≡ Ok g1 → time_condition by_rule node s.constraints t2 to g1 ≡ Ok g2
      → p (1 + node) (aim_at a t1 t2 s) g2 ≡ Ok g3 → q (1 + node + nodes) (learn (holds b t1 t2) s) g3 ≡ r → by_imp_l by_rule h t1 t2 p nodes q node s g ≡ r
  step_imp h t1 t2 p nodes q a b from to g1 g2 g3 found first last begins ends assumed premise =
      and_ok (truth_at node s.hypotheses h) (implies a b, from, to) _ r found
      (and_ok (term_condition node s.sorts sorts.Time t1) tt _ r first
      (and_ok (term_condition node s.sorts sorts.Time t2) tt _ r last
      (and_ok (time_condition by_rule node s.constraints from t1 g) g1 _ r begins
      (and_ok (time_condition by_rule node s.constraints t2 to g1) g2 _ r ends
      (and_ok (p (1 + node) (aim_at a t1 t2 s) g2) g3 _ r assumed premise)))))

  step_init : (h : ℕ) (a : FormulaView) (from to : Term) (g1 g2 : GrantView) → truth_at node s.hypotheses h ≡ Ok (a, from, to) → as_same_atom node a s.goal ≡ Ok tt
      → time_condition by_rule node s.constraints from s.from g ≡ Ok g1 → time_condition by_rule node s.constraints s.to to g1 ≡ r → by_init by_rule h node s g ≡ r
  step_init h a from to g1 g2 found same begins ends =
      and_ok (truth_at node s.hypotheses h) (a, from, to) _ r found
      (and_ok (as_same_atom node a s.goal) tt _ r same
      (and_ok (time_condition by_rule node s.constraints from s.from g) g1 _ r begins ends))

-- ---- conditions

-- a condition on time that the grant has already
time_known : (node : ℕ) (u v : Term) (g : GrantView) → is_entailed [] u v ≡ false → names_ctime_and_no_parameter (record { low = u; high = v }) ≡ true → Contains g.times (record { low = u; high = v })
    → time_condition by_rule node [] u v g ≡ Ok g
time_known node u v g unmet named known =
    let has : has_constraint g.times (record { low = u; high = v }) ≡ true = (Decides-has_constraint g.times (record { low = u; high = v })).1 known in
    rw (unmet, named, has)

-- one that it has not
time_new : (node : ℕ) (u v : Term) (g : GrantView) → is_entailed [] u v ≡ false → names_ctime_and_no_parameter (record { low = u; high = v }) ≡ true → has_constraint g.times (record { low = u; high = v }) ≡ false
    → is_full g ≡ false → time_condition by_rule node [] u v g ≡ Ok (record g { times = g.times ++ record { low = u; high = v } ∷ [] })
time_new node u v g unmet named has full = rw (unmet, named, has, full)

open_before : (moment : ℤ) → is_entailed [] (Time (At moment)) Ctime ≡ false
unfolding is_entailed
open_before moment = refl

open_after : (moment : ℤ) → is_entailed [] Ctime (Time (At moment)) ≡ false
unfolding is_entailed
open_after moment = refl

now_is_now : is_entailed [] Ctime Ctime ≡ true
unfolding is_entailed
now_is_now = refl

now_now : (node : ℕ) (g : GrantView) → time_condition by_rule node [] Ctime Ctime g ≡ Ok g
now_now node g = rw now_is_now

same_atom : (node : ℕ) (name : List ℕ) (terms : List Term) → as_same_atom node (atom name terms) (atom name terms) ≡ Ok tt
same_atom node name terms =
    let names : bytes_eq name name ≡ true = (bytes_eq-Decides name name).1 refl in
    let same : are_same terms terms ≡ true = (Decides-are_same terms terms).1 refl in
    rw (names, same)

-- ---- the proof

module _ (file : NodeId) (owner who : List ℕ) (class : Class) (permission : Permission) (from to : ℤ) where
  abbrev start : Term
  start = Time (At from)

  abbrev end : Term
  end = Time (At to)

  abbrev of_class : FormulaView
  of_class = class_said file who class

  abbrev rule : FormulaView
  rule = rule_said file owner class permission

  abbrev owned : StatePred
  owned = is_owned file owner

  abbrev condition : FormulaView
  condition = both of_class (state owned)

  abbrev may_have : FormulaView
  may_have = access who file permission

  abbrev goal : Goal
  goal = goal_of who file permission

  abbrev bare : GrantView
  bare = without_conditions goal

  abbrev begun : GrantView
  begun = record bare { times = not_before from ∷ [] }

  abbrev timed : GrantView
  timed = record bare { times = not_before from ∷ not_after to ∷ [] }

  abbrev full : GrantView
  full = granted who file permission owner from to

  abbrev at_root : Sequent
  at_root = root (stated (At from) (At to) of_class ∷ stated (At from) (At to) rule ∷ []) goal

  abbrev said : Sequent
  said = aim may_have (speak admin at_root)

  abbrev one : Sequent
  one = learn (holds of_class start end) said

  abbrev two : Sequent
  two = learn (holds rule start end) one

  abbrev three : Sequent
  three = learn (holds (implies condition may_have) start end) two

  abbrev assumed : Sequent
  assumed = aim_at condition Ctime Ctime three

  abbrev four : Sequent
  four = learn (holds may_have Ctime Ctime) three

  begins_again : (node : ℕ) (g : GrantView) → g.times ≡ timed.times → time_condition by_rule node [] start Ctime g ≡ Ok g
  begins_again node g same = time_known node start Ctime g (open_before from) refl (subst (λ (l : List Constraint). Contains l (not_before from)) (sym same) (0, omega arith, refl))

  ends_again : (node : ℕ) (g : GrantView) → g.times ≡ timed.times → time_condition by_rule node [] Ctime end g ≡ Ok g
  ends_again node g same = time_known node Ctime end g (open_after to) refl (subst (λ (l : List Constraint). Contains l (not_after to)) (sym same) (1, omega arith, refl))

  owner_kept : (node : ℕ) → state_condition by_rule node [] owned timed ≡ Ok full
  owner_kept node = refl

  by_and : (node : ℕ) → by_and_r (by_init by_rule 2) 1 (by_inter_r by_rule) node assumed timed ≡ Ok full
  by_and node =
      and_ok (by_init by_rule 2 (1 + node) (aim of_class assumed) timed) timed _ (Ok full)
      (step_init (1 + node) (aim of_class assumed) timed (Ok timed) 2 of_class start end timed timed refl (same_atom (1 + node) class_predicate (File file ∷ Prin who ∷ Text (class_name class) ∷ []))
      (begins_again (1 + node) timed refl) (ends_again (1 + node) timed refl))
      (owner_kept (1 + node + 1))

  by_last : (node : ℕ) → by_init by_rule 5 node four full ≡ Ok full
  by_last node =
      step_init node four full (Ok full) 5 may_have Ctime Ctime full full refl (same_atom node may (Prin who ∷ File file ∷ Perm permission ∷ [])) (now_now node full) (now_now node full)

  abbrev of_both : ProofView
  of_both = and_r (init 2) inter_r

  abbrev by_implication : ProofView
  by_implication = imp_l 4 Ctime Ctime of_both (init 5)

  abbrev by_instance : ProofView
  by_instance = forall_l 3 (Prin who) by_implication

  abbrev by_both_claims : ProofView
  by_both_claims = claim 1 by_instance

  pub accepted : verdict (stated (At from) (At to) of_class ∷ stated (At from) (At to) rule ∷ []) goal (mode_proof who) ≡ Ok full
  unfolding answer
  accepted =
      step_claim 1 said bare (Ok full) 0 (answer by_rule by_both_claims) admin of_class start end begun timed refl refl
      (time_new 1 start Ctime bare (open_before from) refl refl refl) (time_new 1 Ctime end begun (open_after to) refl refl refl)
      (step_claim 2 one timed (Ok full) 1 (answer by_rule by_instance) admin rule start end timed timed refl refl (begins_again 2 timed refl) (ends_again 2 timed refl)
      (step_forall 3 two timed (Ok full) 3 (Prin who) (answer by_rule by_implication) sorts.Principal _ start end refl refl
      (step_imp 4 three timed (Ok full) 4 Ctime Ctime (answer by_rule of_both) 3 (answer by_rule (init 5)) condition may_have start end timed timed full refl refl refl (begins_again 4 timed refl) (ends_again 4 timed refl)
      (by_and 5) (by_last 8))))
