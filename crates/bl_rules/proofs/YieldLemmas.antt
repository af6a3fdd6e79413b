-- What statements of clauses allow.
use Rattle.std.proofs.Common.{◌↔◌, ℤ, List, [], refl, ap, sym, subst}
use Rattle.std.specs.Prelude.{Contains}
use Rattle.bl_syntax.specs.declared.terms.TimePoint.{TimePoint}
use Rattle.bl_syntax.specs.declared.terms.TimePoint.TheVariants.{NegInf, At}
use Rattle.bl_syntax.specs.declared.terms.Term.{Term}
use Rattle.bl_syntax.specs.declared.terms.Term.TheVariants.{Prin, File, Perm, Time, Text, Ctime, Param, Bound}
use Rattle.bl_syntax.specs.declared.terms.StatePred.{StatePred}
use Rattle.bl_syntax.specs.declared.grant.Goal.{Goal}
use Rattle.bl_syntax.specs.Formula.{FormulaView, atom, compare, state, both, either, implies, truth, falsity, forall_, exists_, says, on}
use Rattle.bl_syntax.specs.TimeOrder.{IsUpTo}
use Rattle.bl_syntax.specs.Terms.{IsAtLeastAsStrong}
use Rattle.bl_syntax.specs.Statement.{StatementView}
use Rattle.bl_syntax.specs.Entailment.{Entails}
use Rattle.bl_syntax.proofs.EntailmentLemmas.{Entails-true, Entails-in_order, Entails-itself}
use Rattle.bl_rules.specs.Sequent.{Hypothesis, holds, claims, Known, speak}
use Rattle.bl_rules.specs.Derivable.{Derivable, says_r}
use Rattle.bl_rules.specs.Allowed.{admin, admin_says, claim_of, claims_of, root, Allows}
use Rattle.bl_rules.specs.DirectGrant.{goal_formula, SpeaksForAdmin}
use Rattle.bl_rules.specs.FromClauses.{IsClause, IsOfClause, IsTrueOn, assumed, claimed, conditional, FollowsFromClauses, Yields, IsYielded}
use Rattle.bl_rules.proofs.Membership.{Contains-nothing, Contains-map, Contains-map_cases, Contains-claims_among, claims_among-Contains}
use Rattle.bl_rules.proofs.FromClausesLemmas.{Derivable-from_clauses, Derivable-follows}

-- each constant at itself, all other terms before all times
abbrev early : Term → TimePoint
early (Prin name) = NegInf
early (File number) = NegInf
early (Perm permission) = NegInf
early (Time point) = point
early (Text constant) = NegInf
early Ctime = NegInf
early (Param n) = NegInf
early (Bound n) = NegInf

-- without constraints, constants are in their own order
pub IsUpTo-entailed : (u v : TimePoint) → Entails [] (Time u) (Time v) → IsUpTo u v
IsUpTo-entailed u v entailed =
    Entails-true early (record { constants = λ point. refl }) [] (record { each = λ c among. absurd (Contains-nothing c among) }) (Time u) (Time v) entailed

abbrev pub who_claims : Hypothesis → Term
who_claims (holds a u v) = u
who_claims (claims k a u v) = k

abbrev what_of : Hypothesis → FormulaView
what_of (holds a u v) = a
what_of (claims k a u v) = a

abbrev pub from_of : Hypothesis → Term
from_of (holds a u v) = u
from_of (claims k a u v) = u

abbrev pub to_of : Hypothesis → Term
to_of (holds a u v) = v
to_of (claims k a u v) = v

claims_of_clauses : (statements : List StatementView) → ((s : StatementView) → Contains statements s → IsClause s.body) → (h : Hypothesis) → Contains (claims_of statements) h → IsOfClause h
claims_of_clauses statements clauses h among =
    let was = Contains-map_cases claim_of statements h among in
    subst IsOfClause was.2 (clauses was.0 was.1)

module _ (statements : List StatementView) (facts : List StatePred) (moment : ℤ) where
  abbrev now : Term
  now = Time (At moment)

  -- what is known in the view of `admin`
  abbrev in_view : Known
  in_view = speak admin now now (root statements [] facts now)

  -- a statement that counts says the formula, after conditions that are met
  record IsFromStatement (a : FormulaView) : Type 0 where
    statement : StatementView
    among : Contains statements statement
    strong : SpeaksForAdmin statement.who
    yields : (goal : FormulaView) → Yields facts a goal → Yields facts statement.body goal
    begun : IsUpTo statement.from (At moment)
    not_ended : IsUpTo (At moment) statement.to

  from_statement : (a : FormulaView) (from to : Term) → IsTrueOn in_view a from to → IsFromStatement a
  from_statement _ _ _ (assumed a from to among) = absurd (claims_among-Contains (claims_of statements) (holds a from to) among).1
  from_statement _ _ _ (claimed a from to k among strong begins ends) =
      let was = Contains-map_cases claim_of statements (claims k a from to) (claims_among-Contains (claims_of statements) (claims k a from to) among).0 in
      record {
        statement = was.0;
        among = was.1;
        strong = subst (λ (who : Term). IsAtLeastAsStrong who admin) (sym (ap who_claims was.2)) strong;
        yields = λ goal yielded. subst (λ (body : FormulaView). Yields facts body goal) (sym (ap what_of was.2)) yielded;
        begun = IsUpTo-entailed (was.0).from (At moment) (subst (λ (t : Term). Entails [] t now) (sym (ap from_of was.2)) begins);
        not_ended = IsUpTo-entailed (At moment) (was.0).to (subst (λ (t : Term). Entails [] now t) (sym (ap to_of was.2)) ends);
      }
  from_statement _ _ _ (conditional a from to guard first last is_true met from_time to_time begins ends) =
      let rule = from_statement (implies guard a) first last is_true in
      record {
        statement = rule.statement;
        among = rule.among;
        strong = rule.strong;
        yields = λ goal yielded. rule.yields goal (met, yielded);
        begun = rule.begun;
        not_ended = rule.not_ended;
      }

  yielded_now : (a goal : FormulaView) (from to : Term) → IsTrueOn in_view a from to → Entails [] from now → Entails [] now to → Yields facts a goal → Derivable in_view goal now now
  yielded_now (atom name terms) goal from to is_true begins ends yields =
      subst (λ (g : FormulaView). Derivable in_view g now now) yields
      (Derivable-follows in_view (atom name terms) now now (record { from = from; to = to; true_on = is_true; begins = begins; ends = ends }))
  yielded_now (compare c) goal from to is_true begins ends yields = absurd yields
  yielded_now (state s) goal from to is_true begins ends yields = absurd yields
  yielded_now (both a b) goal from to is_true begins ends yields = absurd yields
  yielded_now (either a b) goal from to is_true begins ends yields = absurd yields
  yielded_now (implies a b) goal from to is_true begins ends yields =
      yielded_now b goal now now (conditional b now now a from to is_true yields.0 refl refl begins ends) (Entails-itself [] now) (Entails-itself [] now) yields.1
  yielded_now truth goal from to is_true begins ends yields = absurd yields
  yielded_now falsity goal from to is_true begins ends yields = absurd yields
  yielded_now (forall_ s a) goal from to is_true begins ends yields = absurd yields
  yielded_now (exists_ s a) goal from to is_true begins ends yields = absurd yields
  yielded_now (says k a) goal from to is_true begins ends yields = absurd yields
  yielded_now (on a u v) goal from to is_true begins ends yields = absurd yields

  allowed_yielded : (goal : Goal) → ((s : StatementView) → Contains statements s → IsClause s.body)
      → Allows statements facts moment goal.who goal.file goal.perm → IsYielded statements facts moment (goal_formula goal)
  allowed_yielded goal clauses allowed =
      let follows : FollowsFromClauses (root statements [] facts now) (admin_says goal.who goal.file goal.perm) now now =
      (Derivable-from_clauses (root statements [] facts now) (admin_says goal.who goal.file goal.perm) now now (claims_of_clauses statements clauses) tt).0 allowed in
      let said = from_statement (goal_formula goal) follows.from follows.to follows.true_on in
      record {
        statement = said.statement;
        among = said.among;
        strong = said.strong;
        yields = said.yields (goal_formula goal) refl;
        begun = said.begun;
        not_ended = said.not_ended;
      }

  yielded_allowed : (goal : Goal) → IsYielded statements facts moment (goal_formula goal) → Allows statements facts moment goal.who goal.file goal.perm
  yielded_allowed goal yielded =
      let s = yielded.statement in
      let begins = Entails-in_order [] s.from (At moment) yielded.begun in
      let ends = Entails-in_order [] (At moment) s.to yielded.not_ended in
      says_r (yielded_now s.body (goal_formula goal) (Time s.from) (Time s.to)
      (claimed s.body (Time s.from) (Time s.to) (Prin s.who)
      (Contains-claims_among (claims_of statements) (claim_of s) tt (Contains-map claim_of statements s yielded.among)) yielded.strong begins ends)
      begins ends yielded.yields)

-- statements of clauses allow just what one of them yields
pub Allows-clauses : (statements : List StatementView) (facts : List StatePred) (moment : ℤ) (goal : Goal)
    → ((s : StatementView) → Contains statements s → IsClause s.body)
    → Allows statements facts moment goal.who goal.file goal.perm ↔ IsYielded statements facts moment (goal_formula goal)
Allows-clauses statements facts moment goal clauses =
    (allowed_yielded statements facts moment goal clauses, yielded_allowed statements facts moment goal)
