-- The pieces of a formula's text that hold no formula themselves, each with its first fault (this
-- project's own). A piece takes a token at a time, from the left; at one token the lower of the
-- faults
-- Unexpected, UnknownName, BadDate, Sort and TooLarge counts.
use Rattle.std.specs.Prelude.{◌≡◌, ℕ, List, [], ◌∷◌, codes, Bool, false, not, nat_le, ◌&&◌, Option, Some, None, Result, Ok, Err, if◌then◌else◌}
use Rattle.std.specs.Global.{Box}
use Rattle.std.specs.Str.{bytes_eq}
use Rattle.bl_syntax.specs.declared.limits.TheConstants.{MOST_ARGUMENTS}
use Rattle.bl_syntax.specs.declared.terms.Sort.{Sort}
use Rattle.bl_syntax.specs.declared.terms.Sort.TheVariants as sorts
use Rattle.bl_syntax.specs.declared.terms.Term.{Term}
use Rattle.bl_syntax.specs.declared.terms.Term.TheVariants.{Prin, Perm, Ctime, Param, Bound}
use Rattle.bl_syntax.specs.declared.terms.StatePred.TheVariants.{Owner, HasXattr, InDir}
use Rattle.bl_syntax.specs.declared.formula.Formula.{Formula}
use Rattle.bl_syntax.specs.Formula.{FormulaView, atom, compare, state, truth, falsity, formula_view}
use Rattle.bl_syntax.specs.Names.{is_predicate_name}
use Rattle.bl_syntax.specs.WellSorted.{may}
use Rattle.bl_tokens.specs.declared.faults.TextFault.{TextFault}
use Rattle.bl_tokens.specs.declared.faults.TextFault.TheVariants.{Unexpected, UnknownName, TooLarge}
use Rattle.bl_tokens.specs.declared.faults.TextFault.TheVariants as faults
use Rattle.bl_tokens.specs.declared.tokens.Sign.{Sign}
use Rattle.bl_tokens.specs.declared.tokens.Sign.TheVariants as signs
use Rattle.bl_tokens.specs.declared.tokens.Keyword.TheVariants as keywords
use Rattle.bl_tokens.specs.declared.tokens.Token.{Token}
use Rattle.bl_tokens.specs.declared.tokens.Token.TheVariants.{Name, LongWord, Constant, BadDate, SortName}
use Rattle.bl_tokens.specs.declared.tokens.Token.TheVariants as tokens
use Rattle.bl_tokens.specs.declared.tokens.Cursor.{Cursor}
use Rattle.bl_tokens.specs.Tokens.{cursor_after, cursor_after_node, is_sign}
use Rattle.bl_text.specs.Scope.{Variable, place_of, is_of_wanted_sort}

infixl 10 ◌>>=◌
abbrev pub ◌>>=◌ : {A B : Type 0} → Result A TextFault → (A → Result B TextFault) →
    Result B TextFault
(Ok a) >>= f = f a
(Err e) >>= f = Err e

-- takes a node for the token, where one is left
unfoldable pub count : Cursor → Result (Unit {0}) TextFault
count here = if nat_le 1 here.left then Ok tt else Err (TooLarge here.at)

-- what stands after the sign, where it is there
unfoldable pub expect_sign : List ℕ → Sign → Cursor → Result Cursor TextFault
expect_sign text sign here = if is_sign sign here.token then Ok (cursor_after text here) else Err (Unexpected here.at)

-- ---- terms

abbrev variable_term : ℕ → Option ℕ → Result Term TextFault
variable_term at None = Err (UnknownName at)
variable_term at (Some inner) = Ok (Bound inner)

abbrev token_term : List Variable → ℕ → Token → Result Term TextFault
token_term scope at (Name name) = Ok (Prin name)
token_term scope at (Constant t) = Ok t
token_term scope at (tokens.Variable name) = variable_term at (place_of scope name)
token_term scope at BadDate = Err (faults.BadDate at)
token_term scope at _ = Err (Unexpected at)

-- the term that the token is
unfoldable pub term_of : List Variable → Cursor → Result Term TextFault
term_of scope here = token_term scope here.at here.token

abbrev unless_in_statement : Bool → ℕ → Result (Unit {0}) TextFault
unless_in_statement in_statement at = if in_statement then Err (faults.Sort at) else Ok tt

-- a statement may not speak of the current time, nor of a parameter
unfoldable pub require_sayable : Bool → ℕ → Term → Result (Unit {0}) TextFault
require_sayable in_statement at Ctime = unless_in_statement in_statement at
require_sayable in_statement at (Param n) = unless_in_statement in_statement at
require_sayable in_statement at _ = Ok tt

-- the term may stand where that sort is wanted
unfoldable pub require_sort : List Variable → Sort → ℕ → Term → Result (Unit {0}) TextFault
require_sort scope wanted at t = if is_of_wanted_sort scope wanted t then Ok tt else Err (faults.Sort at)

-- a term as an argument of a predicate
unfoldable pub argument : Bool → List Variable → Cursor → Result Term TextFault
argument in_statement scope here = do
  t ← term_of scope here
  _ ← require_sayable in_statement here.at t
  _ ← count here
  Ok t

-- a further argument after so many others. An atom takes no ninth one
unfoldable pub next_argument : Bool → List Variable → Bool → ℕ → Cursor → Result Term TextFault
next_argument in_statement scope is_atom others here = do
  t ← argument in_statement scope here
  if is_atom && nat_le MOST_ARGUMENTS others then Err (TooLarge here.at) else Ok t

-- a term as a time
unfoldable pub time_argument : Bool → List Variable → Cursor → Result Term TextFault
time_argument in_statement scope here = do
  t ← term_of scope here
  _ ← require_sayable in_statement here.at t
  _ ← require_sort scope sorts.Time here.at t
  _ ← count here
  Ok t

-- ---- intervals, binders and speakers

-- the interval after the sign `@` at that place, and what follows it
unfoldable pub interval : List ℕ → Bool → List Variable → Cursor →
    Result (Term × Term × Cursor) TextFault
interval text in_statement scope here = do
  _ ← count here
  first ← expect_sign text signs.OpenInterval (cursor_after_node text here)
  from ← time_argument in_statement scope first
  second ← expect_sign text signs.Comma (cursor_after_node text first)
  to ← time_argument in_statement scope second
  there ← expect_sign text signs.CloseInterval (cursor_after_node text second)
  Ok (from, to, there)

abbrev token_variable : ℕ → Token → Result (List ℕ) TextFault
token_variable at (tokens.Variable name) = Ok name
token_variable at _ = Err (Unexpected at)

unfoldable pub variable_name : Cursor → Result (List ℕ) TextFault
variable_name here = token_variable here.at here.token

-- any word is the name of a sort, known or not
abbrev token_sort : ℕ → Token → Result Sort TextFault
token_sort at (SortName s) = Ok s
token_sort at (Name name) = Err (UnknownName at)
token_sort at LongWord = Err (UnknownName at)
token_sort at (tokens.Keyword word) = Err (UnknownName at)
token_sort at (Constant Ctime) = Err (UnknownName at)
token_sort at (Constant (Perm permission)) = Err (UnknownName at)
token_sort at _ = Err (Unexpected at)

unfoldable pub sort_at : Cursor → Result Sort TextFault
sort_at here = token_sort here.at here.token

-- the variable and the sort of a binder whose word stands at that place, and what follows its dot
unfoldable pub binder : List ℕ → Cursor → Result (List ℕ × Sort × Cursor) TextFault
binder text here = do
  _ ← count here
  name ← variable_name (cursor_after_node text here)
  place ← expect_sign text signs.Colon (cursor_after text (cursor_after_node text here))
  s ← sort_at place
  there ← expect_sign text signs.Dot (cursor_after text place)
  Ok (name, s, there)

-- the principal at that place, before `says`, and what follows that word
unfoldable pub speaker : List ℕ → List Variable → Cursor → Result (Term × Cursor) TextFault
speaker text scope here = do
  who ← term_of scope here
  _ ← count here
  _ ← require_sort scope sorts.Principal here.at who
  _ ← count (cursor_after_node text here)
  Ok (who, cursor_after_node text (cursor_after_node text here))

-- ---- comparisons and predicates

-- the sign `<=`
unfoldable pub less_sign : Cursor → Result (Unit {0}) TextFault
less_sign here = if is_sign signs.UpTo here.token then Ok tt else Err (Unexpected here.at)

-- a comparison of times whose first term stands at that place, and what follows it
unfoldable pub comparison : List ℕ → Bool → List Variable → Cursor →
    Result (FormulaView × Cursor) TextFault
comparison text in_statement scope here = do
  low ← term_of scope here
  _ ← count here
  _ ← less_sign (cursor_after_node text here)
  _ ← require_sayable in_statement here.at low
  _ ← require_sort scope sorts.Time here.at low
  _ ← count (cursor_after_node text here)
  high ← time_argument in_statement scope (cursor_after_node text (cursor_after_node text here))
  Ok (compare (record { low = low; high = high }), cursor_after_node text (cursor_after_node text (cursor_after_node text here)))

-- the arguments that `may` takes
unfoldable pub are_may_arguments : List Variable → List Term → Bool
are_may_arguments scope (who ∷ file ∷ permission ∷ []) = is_of_wanted_sort scope sorts.Principal who
    && is_of_wanted_sort scope sorts.File file && is_of_wanted_sort scope sorts.Perm permission
are_may_arguments scope _ = false

unfoldable pub apply_atom : List Variable → ℕ → List ℕ → List Term → Result FormulaView TextFault
apply_atom scope at name terms = if bytes_eq name may && not (are_may_arguments scope terms) then Err (faults.Sort at) else Ok (atom name terms)

unfoldable pub apply_owner : List Variable → ℕ → List Term → Result FormulaView TextFault
apply_owner scope at (file ∷ owner ∷ []) = if is_of_wanted_sort scope sorts.File file
    && is_of_wanted_sort scope sorts.Principal owner then Ok (state (Owner file owner))
    else Err (faults.Sort at)
apply_owner scope at _ = Err (faults.Sort at)

unfoldable pub apply_attribute : List Variable → ℕ → List Term → Result FormulaView TextFault
apply_attribute scope at (file ∷ name ∷ value ∷ []) =
    if is_of_wanted_sort scope sorts.File file && is_of_wanted_sort scope sorts.Text name
    && is_of_wanted_sort scope sorts.Text value then Ok (state (HasXattr file name value))
    else Err (faults.Sort at)
apply_attribute scope at _ = Err (faults.Sort at)

unfoldable pub apply_directory : List Variable → ℕ → List Term → Result FormulaView TextFault
apply_directory scope at (file ∷ directory ∷ []) = if is_of_wanted_sort scope sorts.File file
    && is_of_wanted_sort scope sorts.File directory then Ok (state (InDir file directory))
    else Err (faults.Sort at)
apply_directory scope at _ = Err (faults.Sort at)

-- a predicate on the server's state
unfoldable pub apply_state : List Variable → ℕ → List ℕ → List Term → Result FormulaView TextFault
apply_state scope at name terms =
    if bytes_eq name (codes "owner") then apply_owner scope at terms else
    if bytes_eq name (codes "has_xattr") then apply_attribute scope at terms else
    apply_directory scope at terms

-- the predicate of that name, at that place, with these arguments
unfoldable pub apply_predicate : List Variable → ℕ → List ℕ → List Term →
    Result FormulaView TextFault
apply_predicate scope at name terms = if is_predicate_name name then apply_atom scope at name terms else apply_state scope at name terms

unfoldable pub bare_predicate : List ℕ → List Variable → List ℕ → Cursor →
    Result (FormulaView × Cursor) TextFault
bare_predicate text scope name here = do
  f ← apply_predicate scope here.at name []
  _ ← count here
  Ok (f, cursor_after_node text here)

unfoldable pub named_time : Cursor → Result (FormulaView × Cursor) TextFault
named_time here = do
  _ ← count here
  Err (faults.Sort here.at)

-- a predicate's name at that place, without arguments; before `<=` it is a principal, which is no
-- time
unfoldable pub name_alone : List ℕ → List Variable → List ℕ → Cursor →
    Result (FormulaView × Cursor) TextFault
name_alone text scope name here = if is_sign signs.UpTo (cursor_after_node text here).token then named_time here else bare_predicate text scope name here

unfoldable pub constant_formula : List ℕ → FormulaView → Cursor →
    Result (FormulaView × Cursor) TextFault
constant_formula text f here = do
  _ ← count here
  Ok (f, cursor_after_node text here)

abbrev pub simple_by : List ℕ → Bool → List Variable → Cursor → Token →
    Result (FormulaView × Cursor) TextFault
simple_by text in_statement scope here (tokens.Keyword keywords.True) = constant_formula text truth here
simple_by text in_statement scope here (tokens.Keyword keywords.False) = constant_formula text falsity here
simple_by text in_statement scope here (Name name) = name_alone text scope name here
simple_by text in_statement scope here _ = comparison text in_statement scope here

-- a formula without parentheses at that place, and what follows it
unfoldable pub simple_formula : List ℕ → Bool → List Variable → Cursor →
    Result (FormulaView × Cursor) TextFault
simple_formula text in_statement scope here = simple_by text in_statement scope here here.token

-- ---- the values of the program

-- a fault of the program is what is read, unless there was no memory
abbrev pub ReportsFault : {A : Type 0} → TextFault → Result A TextFault → Type 0
ReportsFault (Unexpected at) r = r ≡ Err (Unexpected at)
ReportsFault (UnknownName at) r = r ≡ Err (UnknownName at)
ReportsFault (faults.BadDate at) r = r ≡ Err (faults.BadDate at)
ReportsFault (faults.Sort at) r = r ≡ Err (faults.Sort at)
ReportsFault (TooLarge at) r = r ≡ Err (TooLarge at)
ReportsFault faults.NoMemory r = Unit {0}

-- the program gives what is read, unless there was no memory
abbrev pub GivesPiece : Result (Box Formula) TextFault → Result FormulaView TextFault → Type 0
GivesPiece (Ok f) r = r ≡ Ok (formula_view f.value)
GivesPiece (Err e) r = ReportsFault e r

abbrev pub GivesPieceWith : Result (Box Formula × Cursor) TextFault →
    Result (FormulaView × Cursor) TextFault → Type 0
GivesPieceWith (Ok p) r = r ≡ Ok (formula_view p.0.value, p.1)
GivesPieceWith (Err e) r = ReportsFault e r
