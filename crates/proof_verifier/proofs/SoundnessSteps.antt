-- What a step of the verdict keeps of the grant, and what its conditions tell.
use Rattle.std.proofs.Common.{◌≡◌, ◌∙◌, ℕ, ◌+◌, ◌<◌, ◌≤◌, true, false, List, [], ◌∷◌, ◌++◌, length, Option, Some, None, refl, sym, subst, ⊎_elim, arith}
use Rattle.std.specs.Prelude.{Contains}
use Rattle.std.proofs.lemmas.Bool.{false≢true}
use Rattle.std.proofs.lemmas.Bool.Decides.{Decides-eqb}
use Rattle.std.proofs.lemmas.Option.{same_Some, none-some}
use Rattle.std.proofs.lemmas.List.Elements.{Contains-append_left, Contains-push, Contains-push_cases}
use Rattle.bl_syntax.specs.declared.terms.Sort.{Sort}
use Rattle.bl_syntax.specs.declared.terms.Term.{Term}
use Rattle.bl_syntax.specs.declared.terms.Constraint.{Constraint}
use Rattle.bl_syntax.specs.declared.terms.StatePred.{StatePred}
use Rattle.bl_syntax.specs.Formula.{FormulaView}
use Rattle.bl_syntax.specs.Entailment.{Entails, EntailsAll}
use Rattle.bl_syntax.specs.Grant.{GrantView, IsGrant, IsTimeCondition, IsStateCondition}
use Rattle.bl_syntax.proofs.EntailmentLemmas.{Entails-constrained, Entails-entailed, Entails-more}
use Rattle.bl_syntax.proofs.GrantLemmas.{IsGrant-push_time, IsGrant-push_state}
use Rattle.bl_rules.specs.Sequent.{Hypothesis, holds, claims, Known, claims_among}
use Rattle.bl_rules.specs.Derivable.{Derivable}
use Rattle.bl_rules.specs.Richer.{Includes}
use Rattle.bl_rules.proofs.Membership.{Includes-push, IsClaim, Contains-claims_among, Contains-map_cases}
use Rattle.proof_verifier.specs.declared.fault.CheckFault.TheVariants.{NotEntailed, NotInState, TooManyConditions}
use Rattle.proof_verifier.specs.Sequent.{Sequent, aim_at, learn, bound, observe, declare, speak, unless_truth}
use Rattle.proof_verifier.specs.Tests.{has_constraint, has_state}
use Rattle.proof_verifier.specs.LeftOver.{LeftOver}
use Rattle.proof_verifier.specs.Entailed.{is_entailed}
use Rattle.proof_verifier.specs.Conditions.{is_full, keep_time, keep_state, time_condition, state_condition}
use Rattle.proof_verifier.proofs.TestLemmas.{Decides-has_constraint, Decides-has_state}
use Rattle.proof_verifier.proofs.EntailedLemmas.{Decides-is_entailed}
use Rattle.proof_verifier.proofs.SoundnessShapes.{Gives, gives_here, gives_more, no_gift, either_way}

-- what is left over, a grant can keep
pub record AreKept (left_over : LeftOver) : Type 0 where
  pub time : (c : Constraint) → left_over.time c ≡ true → IsTimeCondition c
  pub state : (s : StatePred) → left_over.state s ≡ true → IsStateCondition s

-- the grant keeps its goal and its conditions, and may have more of these
pub record Grows (left_over : LeftOver) (old new : GrantView) : Type 0 where
  pub same_goal : new.goal ≡ old.goal
  pub same_cited : new.cited ≡ old.cited
  pub times : Includes new.times old.times
  pub states : Includes new.states old.states
  pub keeps : AreKept left_over → IsGrant old → IsGrant new

pub Grows-not : {left_over : LeftOver} → (g : GrantView) → Grows left_over g g
Grows-not g = record { same_goal = refl; same_cited = refl; times = λ c among. among; states = λ s among. among; keeps = λ are_kept h. h }

pub Grows-twice : {left_over : LeftOver} {old middle new : GrantView} → Grows left_over old middle → Grows left_over middle new → Grows left_over old new
Grows-twice first second = record {
  same_goal = second.same_goal ∙ first.same_goal;
  same_cited = second.same_cited ∙ first.same_cited;
  times = λ c among. second.times c (first.times c among);
  states = λ s among. second.states s (first.states s among);
  keeps = λ are_kept h. second.keeps are_kept (first.keeps are_kept h);
}

has_room : (g : GrantView) → is_full g ≡ false → length g.times + length g.states ≤ 64 → length g.times + length g.states < 64
has_room g e h =
    let not_full : length g.times + length g.states ≡ 64 → ⊥ = λ full. false≢true (sym e ∙ (Decides-eqb (length g.times + length g.states) 64).1 full) in
    omega (arith, not_full)

-- one more condition on time
record KeepsTime (left_over : LeftOver) (c : Constraint) (old new : GrantView) : Type 0 where
  grows : Grows left_over old new
  kept : Contains new.times c

with_time : Constraint → GrantView → GrantView
with_time c g = record g { times = g.times ++ c ∷ [] }

gives_with_time : (left_over : LeftOver) (c : Constraint) (g : GrantView) → left_over.time c ≡ true → has_constraint g.times c ≡ false → is_full g ≡ false → KeepsTime left_over c g (with_time c g)
unfolding with_time
gives_with_time left_over c g open_ new room = record {
  grows = record {
    same_goal = refl;
    same_cited = refl;
    times = λ d among. Contains-append_left g.times (c ∷ []) d among;
    states = λ s among. among;
    keeps = λ are_kept h. IsGrant-push_time g c h (are_kept.time c open_)
        (λ among. false≢true (sym new ∙ (Decides-has_constraint g.times c).1 among)) (has_room g room h.count);
  };
  kept = Contains-push g.times c;
}

gives_keep_time : (left_over : LeftOver) (node : ℕ) (c : Constraint) (g : GrantView) → left_over.time c ≡ true → Gives (keep_time node c g) (KeepsTime left_over c g)
unfolding with_time
gives_keep_time left_over node c g open_ =
    either_way (has_constraint g.times c) _ _ (KeepsTime left_over c g)
    (λ there. gives_here g (KeepsTime left_over c g) (record { grows = Grows-not g; kept = (Decides-has_constraint g.times c).0 there }))
    (λ new. either_way (is_full g) _ _ (KeepsTime left_over c g)
    (λ full. no_gift (TooManyConditions node) (KeepsTime left_over c g))
    (λ room. gives_here (with_time c g) (KeepsTime left_over c g) (gives_with_time left_over c g open_ new room)))

-- one more condition on the state
record KeepsState (left_over : LeftOver) (s : StatePred) (old new : GrantView) : Type 0 where
  grows : Grows left_over old new
  kept : Contains new.states s

with_state : StatePred → GrantView → GrantView
with_state s g = record g { states = g.states ++ s ∷ [] }

gives_with_state : (left_over : LeftOver) (s : StatePred) (g : GrantView) → left_over.state s ≡ true → has_state g.states s ≡ false → is_full g ≡ false → KeepsState left_over s g (with_state s g)
unfolding with_state
gives_with_state left_over s g open_ new room = record {
  grows = record {
    same_goal = refl;
    same_cited = refl;
    times = λ c among. among;
    states = λ t among. Contains-append_left g.states (s ∷ []) t among;
    keeps = λ are_kept h. IsGrant-push_state g s h (are_kept.state s open_)
        (λ among. false≢true (sym new ∙ (Decides-has_state g.states s).1 among)) (has_room g room h.count);
  };
  kept = Contains-push g.states s;
}

gives_keep_state : (left_over : LeftOver) (node : ℕ) (s : StatePred) (g : GrantView) → left_over.state s ≡ true → Gives (keep_state node s g) (KeepsState left_over s g)
unfolding with_state
gives_keep_state left_over node s g open_ =
    either_way (has_state g.states s) _ _ (KeepsState left_over s g)
    (λ there. gives_here g (KeepsState left_over s g) (record { grows = Grows-not g; kept = (Decides-has_state g.states s).0 there }))
    (λ new. either_way (is_full g) _ _ (KeepsState left_over s g)
    (λ full. no_gift (TooManyConditions node) (KeepsState left_over s g))
    (λ room. gives_here (with_state s g) (KeepsState left_over s g) (gives_with_state left_over s g open_ new room)))

-- what is known of a sequent, with these constraints, facts and hypotheses instead of its own
abbrev pub known_of : Sequent → List Constraint → List StatePred → List Hypothesis → Known
known_of s psi facts hs = record { sorts = s.sorts; constraints = psi; facts = facts; hypotheses = hs; view = s.view }

-- the constraints, facts and hypotheses cover a sequent's, and the conditions of a grant
pub record Covers (psi : List Constraint) (facts : List StatePred) (hs : List Hypothesis) (s : Sequent) (g : GrantView) : Type 0 where
  pub constraints : EntailsAll psi s.constraints
  pub times : EntailsAll psi g.times
  pub observed : Includes facts s.facts
  pub states : Includes facts g.states
  pub hypotheses : (h : Hypothesis) → Contains s.hypotheses (Some h) → Contains hs h

-- from old to new the grant keeps what it has, and whatever covers the sequent and the new grant derives the sequent's goal
pub record IsStep (left_over : LeftOver) (s : Sequent) (old new : GrantView) : Type 0 where
  pub grows : Grows left_over old new
  pub derives : (psi : List Constraint) (facts : List StatePred) (hs : List Hypothesis) → Covers psi facts hs s new → Derivable (known_of s psi facts hs) s.goal s.from s.to

-- the condition on time is entailed wherever the constraints and the new grant's conditions are
pub record MeetsTime (left_over : LeftOver) (constraints : List Constraint) (u v : Term) (old new : GrantView) : Type 0 where
  pub grows : Grows left_over old new
  pub entailed : (psi : List Constraint) → EntailsAll psi constraints → EntailsAll psi new.times → Entails psi u v

-- the condition on the state is among the facts or the new grant's conditions
pub record MeetsState (left_over : LeftOver) (facts : List StatePred) (s : StatePred) (old new : GrantView) : Type 0 where
  pub grows : Grows left_over old new
  pub known : (more : List StatePred) → Includes more facts → Includes more new.states → Contains more s

EntailsAll-push : (psi old : List Constraint) (c : Constraint) → EntailsAll psi old → EntailsAll (psi ++ c ∷ []) (old ++ c ∷ [])
EntailsAll-push psi old c all = record {
  each = λ d among. ⊎_elim
      (λ (before : Contains old d). Entails-more psi (psi ++ c ∷ []) d.low d.high (λ e. Contains-append_left psi (c ∷ []) e) (all.each d before))
      (λ (here : c ≡ d). Entails-constrained (psi ++ c ∷ []) d (subst (λ (e : Constraint). Contains (psi ++ c ∷ []) e) here (Contains-push psi c)))
      (Contains-push_cases old c d among);
}

between : Term → Term → Constraint
between u v = record { low = u; high = v }

pub gives_time : (left_over : LeftOver) (node : ℕ) (constraints : List Constraint) (u v : Term) (g : GrantView) → Gives (time_condition left_over node constraints u v g) (MeetsTime left_over constraints u v g)
unfolding between
gives_time left_over node constraints u v g =
    either_way (is_entailed constraints u v) _ _ (MeetsTime left_over constraints u v g)
    (λ entailed. gives_here g (MeetsTime left_over constraints u v g)
    (record { grows = Grows-not g; entailed = λ psi all times. Entails-entailed constraints psi u v all ((Decides-is_entailed constraints u v).0 entailed) }))
    (λ _. either_way (left_over.time (between u v)) _ _ (MeetsTime left_over constraints u v g)
    (λ open_. gives_more (gives_keep_time left_over node (between u v) g open_) (λ new found.
    record { grows = found.grows; entailed = λ psi all times. times.each (between u v) found.kept }))
    (λ _. no_gift (NotEntailed node) (MeetsTime left_over constraints u v g)))

pub gives_state_fact : (left_over : LeftOver) (node : ℕ) (facts : List StatePred) (s : StatePred) (g : GrantView) → Gives (state_condition left_over node facts s g) (MeetsState left_over facts s g)
gives_state_fact left_over node facts s g =
    either_way (has_state facts s) _ _ (MeetsState left_over facts s g)
    (λ there. gives_here g (MeetsState left_over facts s g)
    (record { grows = Grows-not g; known = λ more all states. all s ((Decides-has_state facts s).0 there) }))
    (λ _. either_way (left_over.state s) _ _ (MeetsState left_over facts s g)
    (λ open_. gives_more (gives_keep_state left_over node s g open_) (λ new found.
    record { grows = found.grows; known = λ more all states. states s found.kept }))
    (λ _. no_gift (NotInState node) (MeetsState left_over facts s g)))

module _ {psi : List Constraint} {facts : List StatePred} {hs : List Hypothesis} {s : Sequent} {g : GrantView} where
  -- what covers a grant covers the earlier one
  pub Covers-before : {left_over : LeftOver} {old : GrantView} → Grows left_over old g → Covers psi facts hs s g → Covers psi facts hs s old
  Covers-before grows c = record {
    constraints = c.constraints;
    times = record { each = λ d among. c.times.each d (grows.times d among) };
    observed = c.observed;
    states = λ t among. c.states t (grows.states t among);
    hypotheses = c.hypotheses;
  }

  -- another goal
  pub Covers-aim : (goal : FormulaView) (u v : Term) → Covers psi facts hs s g → Covers psi facts hs (aim_at goal u v s) g
  Covers-aim goal u v c = record { constraints = c.constraints; times = c.times; observed = c.observed; states = c.states; hypotheses = c.hypotheses }

  pub Covers-declare : (sort : Sort) → Covers psi facts hs s g → Covers psi facts hs (declare sort s) g
  Covers-declare sort c = record { constraints = c.constraints; times = c.times; observed = c.observed; states = c.states; hypotheses = c.hypotheses }

  pub Covers-learn : (h : Hypothesis) → Covers psi facts hs s g → Covers psi facts (hs ++ h ∷ []) (learn h s) g
  Covers-learn h c = record {
    constraints = c.constraints;
    times = c.times;
    observed = c.observed;
    states = c.states;
    hypotheses = λ x among. ⊎_elim
        (λ (old : Contains s.hypotheses (Some x)). Contains-append_left hs (h ∷ []) x (c.hypotheses x old))
        (λ same. subst (λ (y : Hypothesis). Contains (hs ++ h ∷ []) y) (same_Some h x same) (Contains-push hs h))
        (Contains-push_cases s.hypotheses (Some h) (Some x) among);
  }

  pub Covers-bound : (u v : Term) → Covers psi facts hs s g → Covers (psi ++ record { low = u; high = v } ∷ []) facts hs (bound u v s) g
  unfolding between
  Covers-bound u v c = record {
    constraints = EntailsAll-push psi s.constraints (between u v) c.constraints;
    times = record { each = λ d among. Entails-more psi (psi ++ between u v ∷ []) d.low d.high (λ e. Contains-append_left psi (between u v ∷ []) e) (c.times.each d among) };
    observed = c.observed;
    states = c.states;
    hypotheses = c.hypotheses;
  }

  pub Covers-observe : (fact : StatePred) → Covers psi facts hs s g → Covers psi (facts ++ fact ∷ []) hs (observe fact s) g
  Covers-observe fact c = record {
    constraints = c.constraints;
    times = c.times;
    observed = Includes-push facts s.facts fact c.observed;
    states = λ t among. Contains-append_left facts (fact ∷ []) t (c.states t among);
    hypotheses = c.hypotheses;
  }

claim_left : (left : Option Hypothesis) (h : Hypothesis) → unless_truth left ≡ Some h → (left ≡ Some h) × IsClaim h
claim_left None h e = absurd (none-some h e)
claim_left (Some (holds a u v)) h e = absurd (none-some h e)
claim_left (Some (claims k a u v)) h e = (e, subst IsClaim (same_Some (claims k a u v) h e) tt)

-- the claims alone
pub Covers-speak : {psi : List Constraint} {facts : List StatePred} {hs : List Hypothesis} {s : Sequent} {g : GrantView}
    → (k : Term) → Covers psi facts hs s g → Covers psi facts (claims_among hs) (speak k s) g
Covers-speak {hs = hs} {s = s} k c = record {
  constraints = c.constraints;
  times = c.times;
  observed = c.observed;
  states = c.states;
  hypotheses = λ h among.
      let was = Contains-map_cases unless_truth s.hypotheses (Some h) among in
      let left = claim_left was.0 h was.2 in
      Contains-claims_among hs h left.1 (c.hypotheses h (subst (λ (x : Option Hypothesis). Contains s.hypotheses x) left.0 was.1));
}
