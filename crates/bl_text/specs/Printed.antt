-- The text that a formula is written as (this project's own): one space round `says`, `&`, `|`,
-- `=>`, `<=` and `@`, none after a comma, and parentheses exactly round an operand
-- whose form is not allowed in its place without them.
use Rattle.std.specs.Prelude.{ℕ, ◌-◌, ◌+◌, min, List, [], ◌∷◌, ◌++◌, codes, nat_le, if◌then◌else◌}
use Rattle.std.specs.Fmt.{decimal, signed_decimal}
use Rattle.std.specs.List.{flat_map}
use Rattle.bl_syntax.specs.declared.terms.TimePoint.{TimePoint}
use Rattle.bl_syntax.specs.declared.terms.TimePoint.TheVariants as times
use Rattle.bl_syntax.specs.declared.terms.Perm.{Perm}
use Rattle.bl_syntax.specs.declared.terms.Perm.TheVariants as permissions
use Rattle.bl_syntax.specs.declared.terms.Sort.{Sort}
use Rattle.bl_syntax.specs.declared.terms.Sort.TheVariants as sorts
use Rattle.bl_syntax.specs.declared.terms.Term.{Term}
use Rattle.bl_syntax.specs.declared.terms.Term.TheVariants as terms
use Rattle.bl_syntax.specs.declared.terms.StatePred.{StatePred}
use Rattle.bl_syntax.specs.declared.terms.StatePred.TheVariants.{Owner, HasXattr, InDir}
use Rattle.bl_syntax.specs.declared.terms.Constraint.{Constraint}
use Rattle.bl_syntax.specs.Formula.{FormulaView, atom, compare, state, both, either, implies, truth, falsity, forall_, exists_, says, on}
use Rattle.bl_syntax.specs.Statement.{StatementView}

abbrev pub time_text : TimePoint → List ℕ
time_text times.NegInf = codes "-inf"
time_text (times.At second) = signed_decimal second
time_text times.PosInf = codes "+inf"

abbrev pub permission_text : Perm → List ℕ
permission_text permissions.Read = codes "read"
permission_text permissions.Write = codes "write"
permission_text permissions.Execute = codes "execute"
permission_text permissions.Identity = codes "identity"
permission_text permissions.Govern = codes "govern"

abbrev pub sort_text : Sort → List ℕ
sort_text sorts.Principal = codes "principal"
sort_text sorts.File = codes "file"
sort_text sorts.Perm = codes "perm"
sort_text sorts.Time = codes "time"
sort_text sorts.Text = codes "text"

-- a term within so many binders. A variable is `X` and the number of binders outside its own
abbrev pub term_text : ℕ → Term → List ℕ
term_text depth (terms.Prin name) = name
term_text depth (terms.File number) = codes "#" ++ decimal number.0
term_text depth (terms.Perm permission) = permission_text permission
term_text depth (terms.Time point) = time_text point
term_text depth (terms.Text constant) = codes "\"" ++ (constant ++ codes "\"")
term_text depth terms.Ctime = codes "ctime"
term_text depth (terms.Param n) = codes "?" ++ decimal n
term_text depth (terms.Bound n) = codes "X" ++ decimal (depth - n - 1)

-- terms after a first one
abbrev pub terms_text : ℕ → List Term → List ℕ
terms_text depth others = flat_map (λ t. codes "," ++ term_text depth t) others

-- the arguments of a predicate
abbrev pub arguments_text : ℕ → List Term → List ℕ
arguments_text depth [] = []
arguments_text depth (first ∷ others) = codes "(" ++ (term_text depth first ++ (terms_text depth others ++ codes ")"))

abbrev pub constraint_text : ℕ → Constraint → List ℕ
constraint_text depth c = term_text depth c.low ++ (codes " <= " ++ term_text depth c.high)

abbrev pub state_text : ℕ → StatePred → List ℕ
state_text depth (Owner file owner) = codes "owner(" ++ (term_text depth file ++ (codes "," ++ (term_text depth owner ++ codes ")")))
state_text depth (HasXattr file name value) = codes "has_xattr("
    ++ (term_text depth file ++ (codes ","
    ++ (term_text depth name ++ (codes "," ++ (term_text depth value ++ codes ")")))))
state_text depth (InDir file directory) = codes "in_dir(" ++ (term_text depth file ++ (codes "," ++ (term_text depth directory ++ codes ")")))

-- one binder more. The count stands still at the end of 64 bits, which no formula within the limits
-- comes near
abbrev pub inner_depth : ℕ → ℕ
inner_depth depth = min (depth + 1) 18_446_744_073_709_551_615

-- a binder, by its word with the `X`
abbrev pub binder_text : List ℕ → ℕ → Sort → List ℕ
binder_text word depth s = word ++ (decimal depth ++ (codes ":" ++ (sort_text s ++ codes ". ")))

abbrev pub interval_text : ℕ → Term → Term → List ℕ
interval_text depth from to = codes " @ [" ++ (term_text depth from ++ (codes "," ++ (term_text depth to ++ codes "]")))

-- how tightly the outermost sign binds
abbrev pub rank : FormulaView → ℕ
rank (atom name terms) = 5
rank (compare c) = 5
rank (state s) = 5
rank (both a b) = 2
rank (either a b) = 1
rank (implies a b) = 0
rank truth = 5
rank falsity = 5
rank (forall_ s a) = 0
rank (exists_ s a) = 0
rank (says k a) = 3
rank (on a u v) = 4

-- a text of that rank in a place that the lowest rank and higher ones may take without parentheses
abbrev pub operand : ℕ → ℕ → List ℕ → List ℕ
operand lowest ranked text = if nat_le lowest ranked then text else codes "(" ++ (text ++ codes ")")

-- a formula within so many binders
abbrev pub formula_text : ℕ → FormulaView → List ℕ
formula_text depth (atom name terms) = name ++ arguments_text depth terms
formula_text depth (compare c) = constraint_text depth c
formula_text depth (state s) = state_text depth s
formula_text depth (both a b) = operand 2 (rank a) (formula_text depth a) ++ (codes " & " ++ operand 3 (rank b) (formula_text depth b))
formula_text depth (either a b) = operand 1 (rank a) (formula_text depth a) ++ (codes " | " ++ operand 2 (rank b) (formula_text depth b))
formula_text depth (implies a b) = operand 1 (rank a) (formula_text depth a) ++ (codes " => " ++ operand 0 (rank b) (formula_text depth b))
formula_text depth truth = codes "true"
formula_text depth falsity = codes "false"
formula_text depth (forall_ s a) = binder_text (codes "forall X") depth s ++ operand 0 (rank a) (formula_text (inner_depth depth) a)
formula_text depth (exists_ s a) = binder_text (codes "exists X") depth s ++ operand 0 (rank a) (formula_text (inner_depth depth) a)
formula_text depth (says k a) = term_text depth k ++ (codes " says " ++ operand 3 (rank a) (formula_text depth a))
formula_text depth (on a u v) = operand 4 (rank a) (formula_text depth a) ++ interval_text depth u v

abbrev pub said_text : FormulaView → List ℕ
said_text body = codes " says " ++ formula_text 0 body

abbrev pub span_text : TimePoint → TimePoint → List ℕ
span_text from to = codes " from " ++ (time_text from ++ (codes " to " ++ time_text to))

abbrev pub statement_text : StatementView → List ℕ
statement_text s = s.who ++ (said_text s.body ++ span_text s.from s.to)
