-- Each rule of the verdict is sound where the proofs of its premises are.
use Rattle.std.proofs.Common.{◌≡◌, ℕ, ◌+◌, List, subst}
use Rattle.std.specs.Prelude.{Contains}
use Rattle.bl_syntax.specs.declared.terms.Sort.TheVariants.{Time}
use Rattle.bl_syntax.specs.declared.terms.Term.{Term}
use Rattle.bl_syntax.specs.declared.terms.StatePred.{StatePred}
use Rattle.bl_syntax.specs.declared.terms.Constraint.{Constraint}
use Rattle.bl_syntax.specs.Formula.{FormulaView}
use Rattle.bl_syntax.specs.Grant.{GrantView}
use Rattle.bl_syntax.specs.Substitution.{instance_at}
use Rattle.bl_rules.specs.Sequent.{Hypothesis, holds, claims}
use Rattle.bl_rules.specs.Derivable.{init, cons_r, inter_r, and_r, or_r1, or_r2, true_r, imp_r, forall_r, exists_r, says_r, at_r, cons_l, inter_l, and_l, or_l, false_l, imp_l, forall_l, exists_l, says_l, claim, at_l}
use Rattle.proof_verifier.specs.Sequent.{Sequent, aim, aim_at, learn, bound, observe, declare, new_parameter, new_start, new_end, suppose, speak}
use Rattle.proof_verifier.specs.LeftOver.{LeftOver}
use Rattle.proof_verifier.specs.Rules.{Answer, by_init, by_cons_r, by_inter_r, by_and_r, by_or_r1, by_or_r2, by_true_r, by_imp_r, by_forall_r, by_exists_r, by_says_r, by_at_r, by_cons_l, by_inter_l, by_and_l, by_or_l, by_false_l, by_imp_l, by_forall_l, by_exists_l, by_says_l, by_claim, by_at_l}
use Rattle.proof_verifier.proofs.SoundnessShapes.{Gives, gives_here, gives_more, chain, gives_constraint, gives_state, gives_both, gives_either, gives_implies, gives_truth, gives_falsity, gives_forall, gives_exists, gives_says, gives_on, IsTruth, gives_truth_at, gives_claim_at, gives_term, gives_strength, gives_same_atom}
use Rattle.proof_verifier.proofs.SoundnessSteps.{Grows-not, Grows-twice, Covers, IsStep, gives_time, gives_state_fact, Covers-before, Covers-aim, Covers-declare, Covers-learn, Covers-bound, Covers-observe, Covers-speak}

-- whatever the proof answers at a node, it grants no more than is derivable there
pub record IsSound (left_over : LeftOver) (p : Answer) : Type 0 where
  pub step : (node : ℕ) (s : Sequent) (g : GrantView) → Gives (p node s g) (IsStep left_over s g)

-- what is cited as a truth is known, in the form that the rule asks for
cited_as : {psi : List Constraint} {facts : List StatePred} {hs : List Hypothesis} {s : Sequent} {g : GrantView} {f : FormulaView}
    → (x : FormulaView × Term × Term) → Covers psi facts hs s g → IsTruth s x → x.0 ≡ f → Contains hs (holds f x.1 x.2)
cited_as {hs = hs} x c among is = subst (λ (form : FormulaView). Contains hs (holds form x.1 x.2)) is (c.hypotheses (holds x.0 x.1 x.2) among)

pub by_init-sound : (left_over : LeftOver) (h : ℕ) → IsSound left_over (by_init left_over h)
by_init-sound left_over h = record {
  step = λ node s g.
      chain (gives_truth_at node s h) λ t among.
      chain (gives_same_atom node t.0 s.goal) λ _ same.
      chain (gives_time left_over node s.constraints t.1 s.from g) λ g1 low.
      gives_more (gives_time left_over node s.constraints s.to t.2 g1) λ new high.
      record {
        grows = Grows-twice low.grows high.grows;
        derives = λ psi facts hs c.
            let c1 = Covers-before high.grows c in
            rw same.second
            (init t.1 t.2 (cited_as t c among same.first)
            (low.entailed psi c1.constraints c1.times) (high.entailed psi c.constraints c.times));
      };
}

pub by_cons_r-sound : (left_over : LeftOver) → IsSound left_over (by_cons_r left_over)
by_cons_r-sound left_over = record {
  step = λ node s g.
      chain (gives_constraint node s.goal) λ d is.
      gives_more (gives_time left_over node s.constraints d.low d.high g) λ new meets.
      record { grows = meets.grows; derives = λ psi facts hs c. rw is (cons_r (meets.entailed psi c.constraints c.times)) };
}

pub by_inter_r-sound : (left_over : LeftOver) → IsSound left_over (by_inter_r left_over)
by_inter_r-sound left_over = record {
  step = λ node s g.
      chain (gives_state node s.goal) λ fact is.
      gives_more (gives_state_fact left_over node s.facts fact g) λ new meets.
      record { grows = meets.grows; derives = λ psi facts hs c. rw is (inter_r (meets.known facts c.observed c.states)) };
}

pub by_and_r-sound : (left_over : LeftOver) (p : Answer) (nodes : ℕ) (q : Answer) → IsSound left_over p → IsSound left_over q → IsSound left_over (by_and_r p nodes q)
by_and_r-sound left_over p nodes q p_sound q_sound = record {
  step = λ node s g.
      chain (gives_both node s.goal) λ x is.
      chain (p_sound.step (1 + node) (aim x.0 s) g) λ g1 left.
      gives_more (q_sound.step (1 + node + nodes) (aim x.1 s) g1) λ new right.
      record {
        grows = Grows-twice left.grows right.grows;
        derives = λ psi facts hs c.
            rw is
            (and_r (left.derives psi facts hs (Covers-aim x.0 s.from s.to (Covers-before right.grows c)))
            (right.derives psi facts hs (Covers-aim x.1 s.from s.to c)));
      };
}

pub by_or_r1-sound : (left_over : LeftOver) (p : Answer) → IsSound left_over p → IsSound left_over (by_or_r1 p)
by_or_r1-sound left_over p p_sound = record {
  step = λ node s g.
      chain (gives_either node s.goal) λ x is.
      gives_more (p_sound.step (1 + node) (aim x.0 s) g) λ new left.
      record { grows = left.grows; derives = λ psi facts hs c. rw is (or_r1 (left.derives psi facts hs (Covers-aim x.0 s.from s.to c))) };
}

pub by_or_r2-sound : (left_over : LeftOver) (p : Answer) → IsSound left_over p → IsSound left_over (by_or_r2 p)
by_or_r2-sound left_over p p_sound = record {
  step = λ node s g.
      chain (gives_either node s.goal) λ x is.
      gives_more (p_sound.step (1 + node) (aim x.1 s) g) λ new right.
      record { grows = right.grows; derives = λ psi facts hs c. rw is (or_r2 (right.derives psi facts hs (Covers-aim x.1 s.from s.to c))) };
}

pub by_true_r-sound : (left_over : LeftOver) → IsSound left_over by_true_r
by_true_r-sound left_over = record {
  step = λ node s g.
      chain (gives_truth node s.goal) λ _ is.
      gives_here g (IsStep left_over s g) (record { grows = Grows-not g; derives = λ psi facts hs c. rw is true_r });
}

pub by_imp_r-sound : (left_over : LeftOver) (p : Answer) → IsSound left_over p → IsSound left_over (by_imp_r p)
by_imp_r-sound left_over p p_sound = record {
  step = λ node s g.
      chain (gives_implies node s.goal) λ x is.
      gives_more (p_sound.step (1 + node) (aim_at x.1 (new_start s) (new_end s) (suppose x.0 s)) g) λ new premise.
      record {
        grows = premise.grows;
        derives = λ psi facts hs c.
            rw is
            (imp_r (premise.derives _ facts _
            (Covers-aim x.1 (new_start s) (new_end s)
            (Covers-learn (holds x.0 (new_start s) (new_end s))
            (Covers-bound (new_end s) s.to (Covers-bound s.from (new_start s) (Covers-declare Time (Covers-declare Time c))))))));
      };
}

pub by_forall_r-sound : (left_over : LeftOver) (p : Answer) → IsSound left_over p → IsSound left_over (by_forall_r p)
by_forall_r-sound left_over p p_sound = record {
  step = λ node s g.
      chain (gives_forall node s.goal) λ x is.
      gives_more (p_sound.step (1 + node) (aim (instance_at (new_parameter s) x.1) (declare x.0 s)) g) λ new premise.
      record {
        grows = premise.grows;
        derives = λ psi facts hs c.
            rw is (forall_r (premise.derives psi facts hs (Covers-aim (instance_at (new_parameter s) x.1) s.from s.to (Covers-declare x.0 c))));
      };
}

pub by_exists_r-sound : (left_over : LeftOver) (t : Term) (p : Answer) → IsSound left_over p → IsSound left_over (by_exists_r t p)
by_exists_r-sound left_over t p p_sound = record {
  step = λ node s g.
      chain (gives_exists node s.goal) λ x is.
      chain (gives_term node s.sorts x.0 t) λ _ sorted.
      gives_more (p_sound.step (1 + node) (aim (instance_at t x.1) s) g) λ new premise.
      record {
        grows = premise.grows;
        derives = λ psi facts hs c. rw is (exists_r t sorted (premise.derives psi facts hs (Covers-aim (instance_at t x.1) s.from s.to c)));
      };
}

pub by_says_r-sound : (left_over : LeftOver) (p : Answer) → IsSound left_over p → IsSound left_over (by_says_r p)
by_says_r-sound left_over p p_sound = record {
  step = λ node s g.
      chain (gives_says node s.goal) λ x is.
      gives_more (p_sound.step (1 + node) (aim x.1 (speak x.0 s)) g) λ new premise.
      record {
        grows = premise.grows;
        derives = λ psi facts hs c. rw is (says_r (premise.derives psi facts _ (Covers-aim x.1 s.from s.to (Covers-speak x.0 c))));
      };
}

pub by_at_r-sound : (left_over : LeftOver) (p : Answer) → IsSound left_over p → IsSound left_over (by_at_r p)
by_at_r-sound left_over p p_sound = record {
  step = λ node s g.
      chain (gives_on node s.goal) λ x is.
      gives_more (p_sound.step (1 + node) (aim_at x.0 x.1 x.2 s) g) λ new premise.
      record { grows = premise.grows; derives = λ psi facts hs c. rw is (at_r (premise.derives psi facts hs (Covers-aim x.0 x.1 x.2 c))) };
}

pub by_cons_l-sound : (left_over : LeftOver) (h : ℕ) (p : Answer) → IsSound left_over p → IsSound left_over (by_cons_l h p)
by_cons_l-sound left_over h p p_sound = record {
  step = λ node s g.
      chain (gives_truth_at node s h) λ t among.
      chain (gives_constraint node t.0) λ d is.
      gives_more (p_sound.step (1 + node) (bound d.low d.high s) g) λ new premise.
      record {
        grows = premise.grows;
        derives = λ psi facts hs c. cons_l d t.1 t.2 (cited_as t c among is) (premise.derives _ facts hs (Covers-bound d.low d.high c));
      };
}

pub by_inter_l-sound : (left_over : LeftOver) (h : ℕ) (p : Answer) → IsSound left_over p → IsSound left_over (by_inter_l h p)
by_inter_l-sound left_over h p p_sound = record {
  step = λ node s g.
      chain (gives_truth_at node s h) λ t among.
      chain (gives_state node t.0) λ fact is.
      gives_more (p_sound.step (1 + node) (observe fact s) g) λ new premise.
      record {
        grows = premise.grows;
        derives = λ psi facts hs c. inter_l fact t.1 t.2 (cited_as t c among is) (premise.derives psi _ hs (Covers-observe fact c));
      };
}

pub by_and_l-sound : (left_over : LeftOver) (h : ℕ) (p : Answer) → IsSound left_over p → IsSound left_over (by_and_l h p)
by_and_l-sound left_over h p p_sound = record {
  step = λ node s g.
      chain (gives_truth_at node s h) λ t among.
      chain (gives_both node t.0) λ x is.
      gives_more (p_sound.step (1 + node) (learn (holds x.1 t.1 t.2) (learn (holds x.0 t.1 t.2) s)) g) λ new premise.
      record {
        grows = premise.grows;
        derives = λ psi facts hs c.
            and_l x.0 x.1 t.1 t.2 (cited_as t c among is)
            (premise.derives psi facts _ (Covers-learn (holds x.1 t.1 t.2) (Covers-learn (holds x.0 t.1 t.2) c)));
      };
}

pub by_or_l-sound : (left_over : LeftOver) (h : ℕ) (p : Answer) (nodes : ℕ) (q : Answer) → IsSound left_over p → IsSound left_over q → IsSound left_over (by_or_l h p nodes q)
by_or_l-sound left_over h p nodes q p_sound q_sound = record {
  step = λ node s g.
      chain (gives_truth_at node s h) λ t among.
      chain (gives_either node t.0) λ x is.
      chain (p_sound.step (1 + node) (learn (holds x.0 t.1 t.2) s) g) λ g1 left.
      gives_more (q_sound.step (1 + node + nodes) (learn (holds x.1 t.1 t.2) s) g1) λ new right.
      record {
        grows = Grows-twice left.grows right.grows;
        derives = λ psi facts hs c.
            or_l x.0 x.1 t.1 t.2 (cited_as t c among is)
            (left.derives psi facts _ (Covers-learn (holds x.0 t.1 t.2) (Covers-before right.grows c)))
            (right.derives psi facts _ (Covers-learn (holds x.1 t.1 t.2) c));
      };
}

pub by_false_l-sound : (left_over : LeftOver) (h : ℕ) → IsSound left_over (by_false_l h)
by_false_l-sound left_over h = record {
  step = λ node s g.
      chain (gives_truth_at node s h) λ t among.
      chain (gives_falsity node t.0) λ _ is.
      gives_here g (IsStep left_over s g) (record { grows = Grows-not g; derives = λ psi facts hs c. false_l t.1 t.2 (cited_as t c among is) });
}

pub by_imp_l-sound : (left_over : LeftOver) (h : ℕ) (t1 t2 : Term) (p : Answer) (nodes : ℕ) (q : Answer) → IsSound left_over p → IsSound left_over q → IsSound left_over (by_imp_l left_over h t1 t2 p nodes q)
by_imp_l-sound left_over h t1 t2 p nodes q p_sound q_sound = record {
  step = λ node s g.
      chain (gives_truth_at node s h) λ t among.
      chain (gives_implies node t.0) λ x is.
      chain (gives_term node s.sorts Time t1) λ _ first_sorted.
      chain (gives_term node s.sorts Time t2) λ _ second_sorted.
      chain (gives_time left_over node s.constraints t.1 t1 g) λ g1 low.
      chain (gives_time left_over node s.constraints t2 t.2 g1) λ g2 high.
      chain (p_sound.step (1 + node) (aim_at x.0 t1 t2 s) g2) λ g3 left.
      gives_more (q_sound.step (1 + node + nodes) (learn (holds x.1 t1 t2) s) g3) λ new right.
      record {
        grows = Grows-twice low.grows (Grows-twice high.grows (Grows-twice left.grows right.grows));
        derives = λ psi facts hs c.
            let c3 = Covers-before right.grows c in
            let c2 = Covers-before left.grows c3 in
            let c1 = Covers-before high.grows c2 in
            imp_l x.0 x.1 t.1 t.2 t1 t2 (cited_as t c among is) first_sorted second_sorted
            (low.entailed psi c1.constraints c1.times) (high.entailed psi c2.constraints c2.times)
            (left.derives psi facts hs (Covers-aim x.0 t1 t2 c3))
            (right.derives psi facts _ (Covers-learn (holds x.1 t1 t2) c));
      };
}

pub by_forall_l-sound : (left_over : LeftOver) (h : ℕ) (t : Term) (p : Answer) → IsSound left_over p → IsSound left_over (by_forall_l h t p)
by_forall_l-sound left_over h witness p p_sound = record {
  step = λ node s g.
      chain (gives_truth_at node s h) λ t among.
      chain (gives_forall node t.0) λ x is.
      chain (gives_term node s.sorts x.0 witness) λ _ sorted.
      gives_more (p_sound.step (1 + node) (learn (holds (instance_at witness x.1) t.1 t.2) s) g) λ new premise.
      record {
        grows = premise.grows;
        derives = λ psi facts hs c.
            forall_l x.0 x.1 t.1 t.2 witness (cited_as t c among is) sorted
            (premise.derives psi facts _ (Covers-learn (holds (instance_at witness x.1) t.1 t.2) c));
      };
}

pub by_exists_l-sound : (left_over : LeftOver) (h : ℕ) (p : Answer) → IsSound left_over p → IsSound left_over (by_exists_l h p)
by_exists_l-sound left_over h p p_sound = record {
  step = λ node s g.
      chain (gives_truth_at node s h) λ t among.
      chain (gives_exists node t.0) λ x is.
      gives_more (p_sound.step (1 + node) (learn (holds (instance_at (new_parameter s) x.1) t.1 t.2) (declare x.0 s)) g) λ new premise.
      record {
        grows = premise.grows;
        derives = λ psi facts hs c.
            exists_l x.0 x.1 t.1 t.2 (cited_as t c among is)
            (premise.derives psi facts _ (Covers-learn (holds (instance_at (new_parameter s) x.1) t.1 t.2) (Covers-declare x.0 c)));
      };
}

pub by_says_l-sound : (left_over : LeftOver) (h : ℕ) (p : Answer) → IsSound left_over p → IsSound left_over (by_says_l h p)
by_says_l-sound left_over h p p_sound = record {
  step = λ node s g.
      chain (gives_truth_at node s h) λ t among.
      chain (gives_says node t.0) λ x is.
      gives_more (p_sound.step (1 + node) (learn (claims x.0 x.1 t.1 t.2) s) g) λ new premise.
      record {
        grows = premise.grows;
        derives = λ psi facts hs c.
            says_l x.0 x.1 t.1 t.2 (cited_as t c among is) (premise.derives psi facts _ (Covers-learn (claims x.0 x.1 t.1 t.2) c));
      };
}

pub by_claim-sound : (left_over : LeftOver) (h : ℕ) (p : Answer) → IsSound left_over p → IsSound left_over (by_claim left_over h p)
by_claim-sound left_over h p p_sound = record {
  step = λ node s g.
      chain (gives_claim_at node s h) λ t among.
      chain (gives_strength node t.0 s.view.who) λ _ strong.
      chain (gives_time left_over node s.constraints t.2 s.view.from g) λ g1 low.
      chain (gives_time left_over node s.constraints s.view.to t.3 g1) λ g2 high.
      gives_more (p_sound.step (1 + node) (learn (holds t.1 t.2 t.3) s) g2) λ new premise.
      record {
        grows = Grows-twice low.grows (Grows-twice high.grows premise.grows);
        derives = λ psi facts hs c.
            let c2 = Covers-before premise.grows c in
            let c1 = Covers-before high.grows c2 in
            claim t.0 t.1 t.2 t.3 (c.hypotheses (claims t.0 t.1 t.2 t.3) among) strong
            (low.entailed psi c1.constraints c1.times) (high.entailed psi c2.constraints c2.times)
            (premise.derives psi facts _ (Covers-learn (holds t.1 t.2 t.3) c));
      };
}

pub by_at_l-sound : (left_over : LeftOver) (h : ℕ) (p : Answer) → IsSound left_over p → IsSound left_over (by_at_l h p)
by_at_l-sound left_over h p p_sound = record {
  step = λ node s g.
      chain (gives_truth_at node s h) λ t among.
      chain (gives_on node t.0) λ x is.
      gives_more (p_sound.step (1 + node) (learn (holds x.0 x.1 x.2) s) g) λ new premise.
      record {
        grows = premise.grows;
        derives = λ psi facts hs c.
            at_l x.0 x.1 x.2 t.1 t.2 (cited_as t c among is) (premise.derives psi facts _ (Covers-learn (holds x.0 x.1 x.2) c));
      };
}
