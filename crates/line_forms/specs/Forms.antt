-- The forms of lines: their names and the kinds of their words (this project's own).
use Rattle.std.specs.Prelude.{ℕ, List, [], ◌∷◌, codes, Bool, true, false, Option, Some, None, if◌then◌else◌}
use Rattle.std.specs.Str.{bytes_eq}
use Rattle.line_words.specs.declared.kinds.WordKind.{WordKind}
use Rattle.line_words.specs.declared.kinds.WordKind.TheVariants as kinds
use Rattle.line_forms.specs.declared.forms.Operation.{Operation}
use Rattle.line_forms.specs.declared.forms.Operation.TheVariants.{Read, Write, Truncate, List as ListOf, Lookup, Create, Mkdir, Unlink, Rename, Getattr, Setattr, Delattr, Chown}
use Rattle.line_forms.specs.declared.forms.Form.{Form}
use Rattle.line_forms.specs.declared.forms.Form.TheVariants.{At, As, Login, Register, Withdraw, Procap, Checkpoint, Verify, Check, Do, Statement, Goal}

-- the form of that name, but for `do`
abbrev pub form_named : List ℕ → Option Form
form_named word =
    if bytes_eq word (codes "at") then Some At else
    if bytes_eq word (codes "as") then Some As else
    if bytes_eq word (codes "login") then Some Login else
    if bytes_eq word (codes "register") then Some Register else
    if bytes_eq word (codes "withdraw") then Some Withdraw else
    if bytes_eq word (codes "procap") then Some Procap else
    if bytes_eq word (codes "checkpoint") then Some Checkpoint else
    if bytes_eq word (codes "verify") then Some Verify else
    if bytes_eq word (codes "check") then Some Check else
    if bytes_eq word (codes "statement") then Some Statement else
    if bytes_eq word (codes "goal") then Some Goal else
    None

-- the operation on the tree of that name
abbrev pub tree_operation_named : List ℕ → Option Operation
tree_operation_named word =
    if bytes_eq word (codes "read") then Some Read else
    if bytes_eq word (codes "write") then Some Write else
    if bytes_eq word (codes "truncate") then Some Truncate else
    if bytes_eq word (codes "list") then Some ListOf else
    if bytes_eq word (codes "lookup") then Some Lookup else
    if bytes_eq word (codes "create") then Some Create else
    if bytes_eq word (codes "mkdir") then Some Mkdir else
    if bytes_eq word (codes "unlink") then Some Unlink else
    if bytes_eq word (codes "rename") then Some Rename else
    None

-- the operation on attributes and owners of that name
abbrev pub attribute_operation_named : List ℕ → Option Operation
attribute_operation_named word =
    if bytes_eq word (codes "getattr") then Some Getattr else
    if bytes_eq word (codes "setattr") then Some Setattr else
    if bytes_eq word (codes "delattr") then Some Delattr else
    if bytes_eq word (codes "chown") then Some Chown else
    None

abbrev pub first_found : Option Operation → Option Operation → Option Operation
first_found (Some operation) other = Some operation
first_found None other = other

-- the operation of that name
abbrev pub operation_named : List ℕ → Option Operation
operation_named word = first_found (tree_operation_named word) (attribute_operation_named word)

-- the kinds of the words after an operation's name: those of its arguments, and a procap for each
-- place of its needs
abbrev pub kinds_of_operation : Operation → List WordKind
kinds_of_operation Read = kinds.Node ∷ kinds.Offset ∷ kinds.Most ∷ kinds.Procap ∷ []
kinds_of_operation Write = kinds.Node ∷ kinds.Offset ∷ kinds.Data ∷ kinds.Procap ∷ []
kinds_of_operation Truncate = kinds.Node ∷ kinds.Len ∷ kinds.Procap ∷ []
kinds_of_operation ListOf = kinds.Node ∷ kinds.Procap ∷ []
kinds_of_operation Lookup = kinds.Node ∷ kinds.Name ∷ kinds.Procap ∷ []
kinds_of_operation Create = kinds.Node ∷ kinds.Name ∷ kinds.Procap ∷ []
kinds_of_operation Mkdir = kinds.Node ∷ kinds.Name ∷ kinds.Procap ∷ []
kinds_of_operation Unlink = kinds.Node ∷ kinds.Name ∷ kinds.Procap ∷ kinds.Procap ∷ []
kinds_of_operation Rename = kinds.Node ∷ kinds.Name ∷ kinds.Target ∷ kinds.NewName ∷ kinds.Procap ∷ kinds.Procap ∷ kinds.Procap ∷ []
kinds_of_operation Getattr = kinds.Node ∷ kinds.Name ∷ kinds.Procap ∷ []
kinds_of_operation Setattr = kinds.Node ∷ kinds.Name ∷ kinds.Value ∷ kinds.Procap ∷ []
kinds_of_operation Delattr = kinds.Node ∷ kinds.Name ∷ kinds.Procap ∷ []
kinds_of_operation Chown = kinds.Node ∷ kinds.Who ∷ kinds.Procap ∷ []

-- the kinds of the words after the name of a form
abbrev pub kinds_of : Form → List WordKind
kinds_of At = kinds.Second ∷ []
kinds_of As = kinds.Who ∷ []
kinds_of Login = kinds.Who ∷ kinds.SignatureHex ∷ []
kinds_of Register = kinds.Signature ∷ []
kinds_of Withdraw = kinds.Number ∷ kinds.Signature ∷ []
kinds_of Procap = kinds.Issue ∷ []
kinds_of Checkpoint = []
kinds_of Verify = kinds.Who ∷ kinds.Node ∷ kinds.Permission ∷ kinds.Cited ∷ []
kinds_of Check = kinds.Who ∷ kinds.Node ∷ kinds.Permission ∷ kinds.Cited ∷ []
kinds_of (Do operation) = kinds_of_operation operation
kinds_of Statement = []
kinds_of Goal = kinds.Who ∷ kinds.Node ∷ kinds.Permission ∷ []

-- whether a text stands at the end of a line of that form
abbrev pub has_text : Form → Bool
has_text At = false
has_text As = false
has_text Login = false
has_text Register = true
has_text Withdraw = false
has_text Procap = false
has_text Checkpoint = false
has_text Verify = true
has_text Check = true
has_text (Do operation) = false
has_text Statement = true
has_text Goal = true
