-- Canonical bytes of formulas and statements: the one spelling of each. The format is this
-- project's own.
use Rattle.std.specs.Prelude.{ℕ, List, [], ◌∷◌, ◌++◌, length, IsTrue}
use Rattle.std.specs.List.{flat_map}
use Rattle.bl_syntax.specs.declared.terms.StatePred.{StatePred}
use Rattle.bl_syntax.specs.declared.terms.StatePred.TheVariants.{Owner, HasXattr, InDir}
use Rattle.bl_syntax.specs.Names.{is_principal_name, is_predicate_name}
use Rattle.bl_syntax.specs.Formula.{FormulaView, atom, compare, state, both, either, implies, truth, falsity, forall_, exists_, says, on}
use Rattle.bl_syntax.specs.WellSorted.{IsWithinLimits}
use Rattle.bl_syntax.specs.Statement.{StatementView, AllTerms, IsStatement}
use Rattle.bl_syntax.specs.Spelling.{with_length, sort_code, time_spelling, term_spelling, IsSpellable}

-- a predicate on the server's state: the tag of its kind, and its terms
unfoldable pub state_spelling : StatePred → List ℕ
state_spelling (Owner file owner) = 18 ∷ (term_spelling file ++ term_spelling owner)
state_spelling (HasXattr file name value) = 19 ∷ (term_spelling file ++ (term_spelling name ++ term_spelling value))
state_spelling (InDir file directory) = 20 ∷ (term_spelling file ++ term_spelling directory)

-- the tag of the formula's kind, and its parts in order. An atom has its name, the number of its
-- terms in one byte, and its terms
unfoldable pub formula_spelling : FormulaView → List ℕ
formula_spelling (atom name terms) = 16 ∷ (with_length name ++ length terms ∷ flat_map term_spelling terms)
formula_spelling (compare c) = 17 ∷ (term_spelling c.low ++ term_spelling c.high)
formula_spelling (state s) = state_spelling s
formula_spelling (both a b) = 21 ∷ (formula_spelling a ++ formula_spelling b)
formula_spelling (either a b) = 22 ∷ (formula_spelling a ++ formula_spelling b)
formula_spelling (implies a b) = 23 ∷ (formula_spelling a ++ formula_spelling b)
formula_spelling truth = 24 ∷ []
formula_spelling falsity = 25 ∷ []
formula_spelling (forall_ s a) = 26 ∷ sort_code s ∷ formula_spelling a
formula_spelling (exists_ s a) = 27 ∷ sort_code s ∷ formula_spelling a
formula_spelling (says k a) = 28 ∷ (term_spelling k ++ formula_spelling a)
formula_spelling (on a u v) = 29 ∷ (formula_spelling a ++ (term_spelling u ++ term_spelling v))

-- the names of its predicates are in the grammar
abbrev pub AreNamed : FormulaView → Type 0
AreNamed (atom name terms) = IsTrue (is_predicate_name name)
AreNamed (compare c) = Unit {0}
AreNamed (state s) = Unit {0}
AreNamed (both a b) = AreNamed a × AreNamed b
AreNamed (either a b) = AreNamed a × AreNamed b
AreNamed (implies a b) = AreNamed a × AreNamed b
AreNamed truth = Unit {0}
AreNamed falsity = Unit {0}
AreNamed (forall_ s a) = AreNamed a
AreNamed (exists_ s a) = AreNamed a
AreNamed (says k a) = AreNamed a
AreNamed (on a u v) = AreNamed a

-- the formula has a spelling: its names and terms have one, and it is within the limits
pub record IsSpellableFormula (f : FormulaView) : Type 0 where
  pub names : AreNamed f
  pub terms : AllTerms IsSpellable f
  pub within_limits : IsWithinLimits f

-- a statement: who says it, the formula, and the interval
unfoldable pub statement_spelling : StatementView → List ℕ
statement_spelling s = with_length s.who ++ (formula_spelling s.body ++ (time_spelling s.from ++ time_spelling s.to))

-- the statement has a spelling: it may be made, and its parts have one
pub record IsSpellableStatement (s : StatementView) : Type 0 where
  pub who : IsTrue (is_principal_name s.who)
  pub body : IsSpellableFormula s.body
  pub statement : IsStatement s
