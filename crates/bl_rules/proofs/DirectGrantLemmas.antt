-- What one statement grants outright is sound.
use Rattle.std.proofs.Common.{◌≡◌, ℤ, List, [], ◌++◌, subst}
use Rattle.std.specs.Prelude.{Contains}
use Rattle.std.specs.List.{AllByRecursion}
use Rattle.std.proofs.lemmas.List.Elements.{Contains-push}
use Rattle.bl_syntax.specs.declared.terms.TimePoint.{TimePoint}
use Rattle.bl_syntax.specs.declared.terms.TimePoint.TheVariants.{NegInf, At, PosInf}
use Rattle.bl_syntax.specs.declared.terms.Term.{Term}
use Rattle.bl_syntax.specs.declared.terms.Term.TheVariants.{Prin, Time}
use Rattle.bl_syntax.specs.declared.terms.StatePred.{StatePred}
use Rattle.bl_syntax.specs.declared.grant.Goal.{Goal}
use Rattle.bl_syntax.specs.Formula.{FormulaView}
use Rattle.bl_syntax.specs.TimeOrder.{IsUpTo}
use Rattle.bl_syntax.specs.Terms.{AreInOrder, in_order}
use Rattle.bl_syntax.proofs.EntailmentLemmas.{Entails-in_order}
use Rattle.bl_syntax.specs.Statement.{StatementView}
use Rattle.bl_syntax.specs.Grant.{HoldsAt}
use Rattle.bl_rules.specs.Sequent.{Known, holds, claims, speak}
use Rattle.bl_rules.specs.Derivable.{init, says_r, claim}
use Rattle.bl_rules.specs.Allowed.{admin, claim_of, claims_of, root, Allows, SoundGrant}
use Rattle.bl_rules.specs.DirectGrant.{goal_formula, SpeaksForAdmin, has_begun, has_not_ended, granted_by}
use Rattle.bl_rules.proofs.Membership.{Contains-map, Contains-claims_among}

-- a statement whose body is the goal allows it within its interval
pub Allows-by_statement : (statements : List StatementView) (facts : List StatePred) (moment : ℤ) (statement : StatementView) (goal : Goal)
    → Contains statements statement → SpeaksForAdmin statement.who → statement.body ≡ goal_formula goal
    → IsUpTo statement.from (At moment) → IsUpTo (At moment) statement.to
    → Allows statements facts moment goal.who goal.file goal.perm
Allows-by_statement statements facts moment statement goal among strong same begun_by ends_after =
    let now : Term = Time (At moment) in
    let known : Known = speak admin now now (root statements [] facts now) in
    let cited : Contains known.hypotheses (claim_of statement) =
    Contains-claims_among (claims_of statements) (claim_of statement) tt (Contains-map claim_of statements statement among) in
    let cited_goal : Contains known.hypotheses (claims (Prin statement.who) (goal_formula goal) (Time statement.from) (Time statement.to)) =
    subst (λ (body : FormulaView). Contains known.hypotheses (claims (Prin statement.who) body (Time statement.from) (Time statement.to))) same cited in
    let from_now = Entails-in_order [] statement.from (At moment) begun_by in
    let to_now = Entails-in_order [] (At moment) statement.to ends_after in
    says_r (claim (Prin statement.who) (goal_formula goal) (Time statement.from) (Time statement.to) cited_goal strong from_now to_now
    (init (Time statement.from) (Time statement.to)
    (Contains-push known.hypotheses (holds (goal_formula goal) (Time statement.from) (Time statement.to))) from_now to_now))

times_in_order : (u v : TimePoint) → AreInOrder (Time u) (Time v) → IsUpTo u v
times_in_order u v (in_order h) = h

begun_at : (from to : TimePoint) (moment : ℤ) → AllByRecursion (HoldsAt moment) (has_begun from ++ has_not_ended to) → IsUpTo from (At moment)
begun_at NegInf to moment h = tt
begun_at (At second) to moment h = times_in_order (At second) (At moment) h.0
begun_at PosInf to moment h = times_in_order PosInf (At moment) h.0

ends_at : (to : TimePoint) (moment : ℤ) → AllByRecursion (HoldsAt moment) (has_not_ended to) → IsUpTo (At moment) to
ends_at NegInf moment h = times_in_order (At moment) NegInf h.0
ends_at (At second) moment h = times_in_order (At moment) (At second) h.0
ends_at PosInf moment h = tt

not_ended_at : (from to : TimePoint) (moment : ℤ) → AllByRecursion (HoldsAt moment) (has_begun from ++ has_not_ended to) → IsUpTo (At moment) to
not_ended_at NegInf to moment h = ends_at to moment h
not_ended_at (At second) to moment h = ends_at to moment h.1
not_ended_at PosInf to moment h = ends_at to moment h.1

-- the grant of a statement whose body is the goal is sound for all statements among which it is
pub SoundGrant-granted_by : (statements : List StatementView) (statement : StatementView) (goal : Goal)
    → Contains statements statement → SpeaksForAdmin statement.who → statement.body ≡ goal_formula goal
    → SoundGrant statements (granted_by statement goal)
SoundGrant-granted_by statements statement goal among strong same = record {
  allows = λ moment facts conditions.
      Allows-by_statement statements facts moment statement goal among strong same
      (begun_at statement.from statement.to moment conditions.times) (not_ended_at statement.from statement.to moment conditions.times);
}
