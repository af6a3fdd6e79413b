-- The first words of a line that is written name its form.
use Rattle.std.proofs.Common.{◌≡◌, ℕ, Bool, true, false, cond, List, [], ◌∷◌, ◌++◌, length, codes, Some, None, Ok, IsTrue, refl}
use Rattle.std.proofs.lemmas.Bool.{false≢true}
use Rattle.line_forms.specs.declared.mode.Mode.{Mode}
use Rattle.line_forms.specs.declared.mode.Mode.TheVariants.{Operator, Guest, User, Inquiry}
use Rattle.line_forms.specs.declared.forms.Form.{Form}
use Rattle.line_forms.specs.declared.forms.Form.TheVariants.{At, As, Login, Register, Withdraw, Procap, Checkpoint, Verify, Check, Do, Statement, Goal}
use Rattle.line_forms.specs.declared.forms.Operation.{Operation}
use Rattle.line_forms.specs.declared.forms.Operation.TheVariants.{Read, Write, Truncate, List as ListOf, Lookup, Create, Mkdir, Unlink, Rename, Getattr, Setattr, Delattr, Chown}
use Rattle.line_forms.specs.Heads.{by_form, operation_head, do_head, head_in}
use Rattle.line_forms.specs.Modes.{modes_of, is_in}

abbrev pub name_of_operation : Operation → List ℕ
name_of_operation Read = codes "read"
name_of_operation Write = codes "write"
name_of_operation Truncate = codes "truncate"
name_of_operation ListOf = codes "list"
name_of_operation Lookup = codes "lookup"
name_of_operation Create = codes "create"
name_of_operation Mkdir = codes "mkdir"
name_of_operation Unlink = codes "unlink"
name_of_operation Rename = codes "rename"
name_of_operation Getattr = codes "getattr"
name_of_operation Setattr = codes "setattr"
name_of_operation Delattr = codes "delattr"
name_of_operation Chown = codes "chown"

abbrev pub name_of : Form → List ℕ
name_of At = codes "at"
name_of As = codes "as"
name_of Login = codes "login"
name_of Register = codes "register"
name_of Withdraw = codes "withdraw"
name_of Procap = codes "procap"
name_of Checkpoint = codes "checkpoint"
name_of Verify = codes "verify"
name_of Check = codes "check"
name_of (Do operation) = codes "do " ++ name_of_operation operation
name_of Statement = codes "statement"
name_of Goal = codes "goal"

-- the form is known
form_is : (form : Form) (behind : List ℕ) (test : Bool) → IsTrue test → by_form behind (cond test (Some form) None) ≡ Ok (form, behind)
form_is form behind true is = refl
form_is form behind false is = absurd (false≢true is)

named_operation : (operation : Operation) (whole : ℕ) (x : List ℕ) → operation_head whole (32 ∷ (name_of_operation operation ++ 32 ∷ x)) ≡ Ok (Do operation, 32 ∷ x)
named_operation Read whole x = refl
named_operation Write whole x = refl
named_operation Truncate whole x = refl
named_operation ListOf whole x = refl
named_operation Lookup whole x = refl
named_operation Create whole x = refl
named_operation Mkdir whole x = refl
named_operation Unlink whole x = refl
named_operation Rename whole x = refl
named_operation Getattr whole x = refl
named_operation Setattr whole x = refl
named_operation Delattr whole x = refl
named_operation Chown whole x = refl

operation_is : (mode : Mode) (operation : Operation) (whole : ℕ) (x : List ℕ) → IsTrue (is_in mode (modes_of (Do operation))) → do_head mode whole (32 ∷ (name_of_operation operation ++ 32 ∷ x)) ≡ Ok (Do operation, 32 ∷ x)
operation_is Operator operation whole x is = named_operation operation whole x
operation_is Guest operation whole x is = named_operation operation whole x
operation_is (User who) operation whole x is = named_operation operation whole x
operation_is Inquiry operation whole x is = absurd (false≢true is)

pub head_said : (mode : Mode) (form : Form) (x : List ℕ) → IsTrue (is_in mode (modes_of form)) → head_in mode (name_of form ++ 32 ∷ x) ≡ Ok (form, 32 ∷ x)
head_said mode At x is = form_is At (32 ∷ x) (is_in mode (modes_of At)) is
head_said mode As x is = form_is As (32 ∷ x) (is_in mode (modes_of As)) is
head_said mode Login x is = form_is Login (32 ∷ x) (is_in mode (modes_of Login)) is
head_said mode Register x is = form_is Register (32 ∷ x) (is_in mode (modes_of Register)) is
head_said mode Withdraw x is = form_is Withdraw (32 ∷ x) (is_in mode (modes_of Withdraw)) is
head_said mode Procap x is = form_is Procap (32 ∷ x) (is_in mode (modes_of Procap)) is
head_said mode Checkpoint x is = form_is Checkpoint (32 ∷ x) (is_in mode (modes_of Checkpoint)) is
head_said mode Verify x is = form_is Verify (32 ∷ x) (is_in mode (modes_of Verify)) is
head_said mode Check x is = form_is Check (32 ∷ x) (is_in mode (modes_of Check)) is
head_said mode (Do operation) x is = operation_is mode operation (length (name_of (Do operation) ++ 32 ∷ x)) x is
head_said mode Statement x is = form_is Statement (32 ∷ x) (is_in mode (modes_of Statement)) is
head_said mode Goal x is = form_is Goal (32 ∷ x) (is_in mode (modes_of Goal)) is

-- the line of a checkpoint has nothing after the name
pub head_ends : (mode : Mode) → IsTrue (is_in mode (modes_of Checkpoint)) → head_in mode (name_of Checkpoint ++ []) ≡ Ok (Checkpoint, [])
head_ends mode is = form_is Checkpoint [] (is_in mode (modes_of Checkpoint)) is
