-- What the statements allow at a moment, and what a sound grant is: one whose conditions, wherever
-- they hold, make the statements allow what it grants. It is this project's own
-- reading of procaps (Garg and Pfenning, A proof-carrying file system, 2010).
use Rattle.std.specs.Prelude.{ℕ, ℤ, List, [], ◌∷◌, map, codes}
use Rattle.bl_syntax.specs.declared.terms.TimePoint.TheVariants.{At}
use Rattle.bl_syntax.specs.declared.terms.Term.TheVariants.{Prin, File, Perm, Time, Ctime}
use Rattle.bl_syntax.specs.declared.terms.NodeId.{NodeId}
use Rattle.bl_syntax.specs.declared.terms.Perm.{Perm as Permission}
use Rattle.bl_syntax.specs.declared.terms.Term.{Term}
use Rattle.bl_syntax.specs.declared.terms.Constraint.{Constraint}
use Rattle.bl_syntax.specs.declared.terms.StatePred.{StatePred}
use Rattle.bl_syntax.specs.Formula.{FormulaView, atom, says}
use Rattle.bl_syntax.specs.WellSorted.{may}
use Rattle.bl_syntax.specs.Statement.{StatementView}
use Rattle.bl_syntax.specs.Grant.{GrantView, Holds}
use Rattle.bl_rules.specs.Sequent.{Hypothesis, claims, Known}
use Rattle.bl_rules.specs.Derivable.{Derivable}

-- the principal whose word decides
abbrev pub admin : Term
admin = Prin (codes "admin")

-- the principal as whom the server reasons: its own claims alone would count for it
abbrev pub loc : Term
loc = Prin (codes "loc")

-- that the principal may have the permission on the file
abbrev pub access : List ℕ → NodeId → Permission → FormulaView
access who file permission = atom may (Prin who ∷ File file ∷ Perm permission ∷ [])

-- that `admin` says so: the goal at the root of a derivation
abbrev pub admin_says : List ℕ → NodeId → Permission → FormulaView
admin_says who file permission = says admin (access who file permission)

-- a statement, as a claim of who says it
abbrev pub claim_of : StatementView → Hypothesis
claim_of statement = claims (Prin statement.who) statement.body (Time statement.from) (Time statement.to)

abbrev pub claims_of : List StatementView → List Hypothesis
claims_of statements = map claim_of statements

-- what is known at the root of a derivation: the statements as claims, in the server's own view at
-- the present time, and no parameters
abbrev pub root : List StatementView → List Constraint → List StatePred → Term → Known
root statements constraints facts now = record {
  sorts = [];
  constraints = constraints;
  facts = facts;
  hypotheses = claims_of statements;
  view = record { who = loc; from = now; to = now };
}

-- the statements allow it at this moment, over these facts of the state: it is derivable from these
-- alone
abbrev pub Allows : List StatementView → List StatePred → ℤ → List ℕ → NodeId → Permission → Type 0
Allows statements facts moment who file permission =
    let now = Time (At moment) in
    Derivable (root statements [] facts now) (admin_says who file permission) now now

-- at each moment and over all facts at which the grant's conditions hold, the statements allow what
-- it grants
pub record SoundGrant (statements : List StatementView) (granted : GrantView) : Type 0 where
  pub allows : (moment : ℤ) (facts : List StatePred) → Holds granted moment facts
      → Allows statements facts moment granted.goal.who granted.goal.file granted.goal.perm

-- what the grant grants is derivable from the statements where its own conditions may be used:
-- those on time as constraints, those on the state as facts, the current time left open
abbrev pub IsDerivableUnderConditions : List StatementView → GrantView → Type 0
IsDerivableUnderConditions statements granted =
    Derivable (root statements granted.times granted.states Ctime) (admin_says granted.goal.who granted.goal.file granted.goal.perm) Ctime Ctime
