-- The proof of what a table of modes allows, from two of its statements (this project's own).
use Rattle.std.specs.Prelude.{◌≡◌, ◌<◌, ◌≤◌, ◌-◌, ℤ, ℕ, List, [], ◌∷◌, length, true, Ok, Some, Option, None}
use Rattle.std.specs.List.{slice_get}
use Rattle.bl_syntax.specs.declared.limits.TheConstants.{MOST_STATEMENTS}
use Rattle.bl_syntax.specs.declared.grant.Goal.{Goal}
use Rattle.bl_syntax.specs.declared.terms.Constraint.{Constraint}
use Rattle.bl_syntax.specs.declared.terms.NodeId.{NodeId}
use Rattle.bl_syntax.specs.declared.terms.Perm.{Perm as Permission}
use Rattle.bl_syntax.specs.declared.terms.Term.TheVariants.{Prin, Time, Ctime}
use Rattle.bl_syntax.specs.declared.terms.TimePoint.TheVariants.{At}
use Rattle.bl_syntax.specs.Grant.{GrantView}
use Rattle.bl_syntax.specs.Statement.{StatementView}
use Rattle.condition_set.specs.Conditions.{without_conditions}
use Rattle.proof_term.specs.Proof.{ProofView, init, inter_r, and_r, says_r, imp_l, forall_l, claim}
use Rattle.proof_verifier.specs.Verdict.{verdict}
use Rattle.mode_policy.specs.declared.entry.FileModes.{FileModes}
use Rattle.mode_policy.specs.declared.modes.Class.{Class}
use Rattle.mode_policy.specs.Allowed.{ModeAllows}
use Rattle.mode_policy.specs.Modes.{digit_of, permits}
use Rattle.mode_policy.specs.Statements.{is_owned, rule_said, rules_of, said_of_all, statements_of}
use Rattle.mode_policy.specs.Table.{TableView}
use Rattle.mode_policy.specs.declared.proving.ModeProof.{ModeProof}

abbrev pub goal_of : List ℕ → NodeId → Permission → Goal
goal_of who node permission = record { who = who; file = node; perm = permission }

-- `admin` says it, since it claims the class of the principal and the rule for that class: the
-- rule's instance at the
-- principal asks for the class and for the owner
abbrev pub mode_proof : List ℕ → ProofView
mode_proof who = says_r (claim 0 (claim 1 (forall_l 3 (Prin who) (imp_l 4 Ctime Ctime (and_r (init 2) inter_r) (init 5)))))

-- it is not before a moment, and not after one
abbrev pub not_before : ℤ → Constraint
not_before moment = record { low = Time (At moment); high = Ctime }

abbrev pub not_after : ℤ → Constraint
not_after moment = record { low = Ctime; high = Time (At moment) }

-- the goal between two moments, while the file is the owner's
abbrev pub granted : List ℕ → NodeId → Permission → List ℕ → ℤ → ℤ → GrantView
granted who node permission owner from to =
    record (without_conditions (goal_of who node permission)) { times = not_before from ∷ not_after to ∷ []; states = is_owned node owner ∷ [] }

-- the table allows it; and the two statements of these numbers, whenever they begin and end, are
-- there, and prove it by
-- this proof while the file is its owner's
pub record IsModeProof (t : TableView) (who : List ℕ) (node : NodeId) (permission : Permission) (p : ModeProof) : Type 0 where
  pub allows : ModeAllows t who node permission
  pub first_number : 0 < p.class_number
  pub rising : p.class_number < p.rule_number
  pub within : p.rule_number ≤ length (said_of_all t t.files)
  pub few : length (said_of_all t t.files) ≤ MOST_STATEMENTS
  pub proves : (from to : ℤ) (class_said rule_said : StatementView)
      → slice_get (statements_of t (At from) (At to)) (p.class_number - 1) ≡ Some class_said
      → slice_get (statements_of t (At from) (At to)) (p.rule_number - 1) ≡ Some rule_said
      → verdict (class_said ∷ rule_said ∷ []) (goal_of who node permission) p.proof ≡ Ok (granted who node permission allows.file.owner from to)

-- the rule of the class for the permission, if the digit has it, stands at that place among those
-- for the file
abbrev pub StandsAt : FileModes → Class → Permission → ℕ → Type 0
StandsAt f class permission place =
    permits (digit_of f.modes class) permission ≡ true
    → slice_get (rules_of f) place ≡ Some (rule_said f.node f.owner class permission)

-- there are more statements than are given
abbrev pub IsOver : TableView → Type 0
IsOver t = MOST_STATEMENTS < length (said_of_all t t.files)

-- a proof is given; or the table does not allow it, or has more statements than are given
abbrev pub GivesProof : TableView → List ℕ → NodeId → Permission → Option ModeProof → Type 0
GivesProof t who node permission None = ModeAllows t who node permission → IsOver t
GivesProof t who node permission (Some p) = IsModeProof t who node permission p
