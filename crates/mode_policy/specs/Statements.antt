-- A table of modes as statements of `admin`: for each file the class of each principal, and then
-- for each class and each
-- permission of its digit that who is of the class may have it while the file is its owner's (this
-- project's own).
use Rattle.std.specs.Prelude.{ℕ, List, [], ◌∷◌, ◌++◌, map, codes, Contains, if◌then◌else◌}
use Rattle.bl_syntax.specs.declared.terms.NodeId.{NodeId}
use Rattle.bl_syntax.specs.declared.terms.Perm.{Perm as Permission}
use Rattle.bl_syntax.specs.declared.terms.Sort.TheVariants as sorts
use Rattle.bl_syntax.specs.declared.terms.StatePred.{StatePred}
use Rattle.bl_syntax.specs.declared.terms.StatePred.TheVariants as states
use Rattle.bl_syntax.specs.declared.terms.Term.TheVariants.{Prin, File, Perm, Text, Bound}
use Rattle.bl_syntax.specs.declared.terms.TimePoint.{TimePoint}
use Rattle.bl_syntax.specs.Formula.{FormulaView, atom, state, both, implies, forall_}
use Rattle.bl_syntax.specs.Statement.{StatementView, statement_view}
use Rattle.bl_syntax.specs.WellSorted.{may}
use Rattle.mode_policy.specs.declared.modes.Class.{Class}
use Rattle.mode_policy.specs.declared.modes.Class.TheVariants.{Owner, Group, Other}
use Rattle.mode_policy.specs.Modes.{class_name, digit_of, permits, permitted}
use Rattle.mode_policy.specs.declared.entry.FileModes.{FileModes}
use Rattle.mode_policy.specs.Table.{TableView}
use Rattle.mode_policy.specs.Allowed.{class_of}

-- the principal who says all of it
abbrev pub admin_name : List ℕ
admin_name = codes "admin"

-- the predicate by which principals have classes
abbrev pub class_predicate : List ℕ
class_predicate = codes "class"

-- that the file is its owner's
abbrev pub is_owned : NodeId → List ℕ → StatePred
is_owned node owner = states.Owner (File node) (Prin owner)

-- that the principal is of that class for the file
abbrev pub class_said : NodeId → List ℕ → Class → FormulaView
class_said node who class = atom class_predicate (File node ∷ Prin who ∷ Text (class_name class) ∷ [])

-- that each principal of the class may have the permission on the file while the file is its
-- owner's
abbrev pub rule_said : NodeId → List ℕ → Class → Permission → FormulaView
rule_said node owner class permission = forall_ sorts.Principal (implies
    (both (atom class_predicate (File node ∷ Bound 0 ∷ Text (class_name class) ∷ [])) (state (is_owned node owner)))
    (atom may (Bound 0 ∷ File node ∷ Perm permission ∷ [])))

-- the class of each principal
abbrev pub classes_of : TableView → FileModes → List FormulaView
classes_of t f = map (λ who. class_said f.node who (class_of t f who)) t.who

-- the rules for a class
abbrev pub rules_for : FileModes → Class → List FormulaView
rules_for f class = map (rule_said f.node f.owner class) (permitted (digit_of f.modes class))

-- the rule for a class, if its digit has the permission
abbrev pub rule_if : FileModes → Class → Permission → List FormulaView
rule_if f class permission = if permits (digit_of f.modes class) permission then rule_said f.node f.owner class permission ∷ [] else []

-- the rules for all three
abbrev pub rules_of : FileModes → List FormulaView
rules_of f = rules_for f Owner ++ (rules_for f Group ++ rules_for f Other)

-- what is said of a file, and of files
abbrev pub said_of : TableView → FileModes → List FormulaView
said_of t f = classes_of t f ++ rules_of f

abbrev pub said_of_all : TableView → List FileModes → List FormulaView
said_of_all t [] = []
said_of_all t (f ∷ files) = said_of t f ++ said_of_all t files

abbrev pub stated : TimePoint → TimePoint → FormulaView → StatementView
stated from to body = statement_view admin_name body from to

-- the statements of the table
abbrev pub statements_of : TableView → TimePoint → TimePoint → List StatementView
statements_of t from to = map (stated from to) (said_of_all t t.files)

-- the files are their owners'
abbrev pub AreOwned : TableView → List StatePred → Type 0
AreOwned t facts = (f : FileModes) → Contains t.files f → Contains facts (is_owned f.node f.owner)
