-- In which modes the forms of lines are known (this project's own).
use Rattle.std.specs.Prelude.{ℕ, List, codes, Bool, true, false, not, ◌&&◌, ◌||◌, Option, Some, None, if◌then◌else◌}
use Rattle.std.specs.Str.{bytes_eq}
use Rattle.line_forms.specs.declared.forms.Form.{Form}
use Rattle.line_forms.specs.declared.forms.Form.TheVariants.{At, As, Login, Register, Withdraw, Procap, Checkpoint, Verify, Check, Do, Statement, Goal}
use Rattle.line_forms.specs.declared.mode.Mode.{Mode}
use Rattle.line_forms.specs.declared.mode.Mode.TheVariants.{Operator, Guest, User, Inquiry}
use Rattle.line_forms.specs.declared.mode.Modes.{Modes}

-- in which modes lines of that form are known
abbrev pub modes_of : Form → Modes
modes_of At = record { operator = true; session = false; of_admin_alone = false; inquiry = false }
modes_of As = record { operator = true; session = false; of_admin_alone = false; inquiry = false }
modes_of Login = record { operator = false; session = true; of_admin_alone = false; inquiry = false }
modes_of Register = record { operator = true; session = true; of_admin_alone = false; inquiry = false }
modes_of Withdraw = record { operator = true; session = true; of_admin_alone = false; inquiry = false }
modes_of Procap = record { operator = true; session = true; of_admin_alone = false; inquiry = false }
modes_of Checkpoint = record { operator = true; session = true; of_admin_alone = true; inquiry = false }
modes_of Verify = record { operator = true; session = true; of_admin_alone = false; inquiry = false }
modes_of Check = record { operator = true; session = false; of_admin_alone = false; inquiry = false }
modes_of (Do operation) = record { operator = true; session = true; of_admin_alone = false; inquiry = false }
modes_of Statement = record { operator = false; session = false; of_admin_alone = false; inquiry = true }
modes_of Goal = record { operator = false; session = false; of_admin_alone = false; inquiry = true }

-- whether the principal is `admin`, of whom the operator's own lines are said too
abbrev pub is_admin : List ℕ → Bool
is_admin who = bytes_eq who (codes "admin")

-- whether the mode is one of these: to somebody who is logged in, a form of `admin` alone is known
-- only as `admin`
abbrev pub is_in : Mode → Modes → Bool
is_in Operator modes = modes.operator
is_in Guest modes = modes.session
is_in (User who) modes = modes.session && (not modes.of_admin_alone || is_admin who)
is_in Inquiry modes = modes.inquiry

-- the form, if it is known in this mode
abbrev pub known : Mode → Option Form → Option Form
known mode None = None
known mode (Some form) = if is_in mode (modes_of form) then Some form else None

-- whether signatures and procaps have to be written out
abbrev pub is_session : Mode → Bool
is_session Operator = false
is_session Guest = true
is_session (User who) = true
is_session Inquiry = false
