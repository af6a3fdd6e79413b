-- The values of which what is written is a text (this project's own): closed and well sorted
-- formulas that have a spelling, without a parameter before a `says`.
use Rattle.std.specs.Prelude.{List}
use Rattle.bl_syntax.specs.declared.terms.Sort.{Sort}
use Rattle.bl_syntax.specs.declared.terms.Term.{Term}
use Rattle.bl_syntax.specs.declared.terms.Term.TheVariants.{Prin, File, Perm, Time, Text, Ctime, Param, Bound}
use Rattle.bl_syntax.specs.Formula.{FormulaView, atom, compare, state, both, either, implies, truth, falsity, forall_, exists_, says, on}
use Rattle.bl_syntax.specs.FormulaSpelling.{IsSpellableFormula}
use Rattle.bl_syntax.specs.WellSorted.{IsFormula}

abbrev pub IsNoParameter : Term → Type 0
IsNoParameter (Prin name) = Unit {0}
IsNoParameter (File number) = Unit {0}
IsNoParameter (Perm permission) = Unit {0}
IsNoParameter (Time point) = Unit {0}
IsNoParameter (Text constant) = Unit {0}
IsNoParameter Ctime = Unit {0}
IsNoParameter (Param n) = ⊥
IsNoParameter (Bound n) = Unit {0}

-- no parameter stands before a `says`
abbrev pub NamesSpeakers : FormulaView → Type 0
NamesSpeakers (atom name terms) = Unit {0}
NamesSpeakers (compare c) = Unit {0}
NamesSpeakers (state s) = Unit {0}
NamesSpeakers (both a b) = NamesSpeakers a × NamesSpeakers b
NamesSpeakers (either a b) = NamesSpeakers a × NamesSpeakers b
NamesSpeakers (implies a b) = NamesSpeakers a × NamesSpeakers b
NamesSpeakers truth = Unit {0}
NamesSpeakers falsity = Unit {0}
NamesSpeakers (forall_ s a) = NamesSpeakers a
NamesSpeakers (exists_ s a) = NamesSpeakers a
NamesSpeakers (says k a) = IsNoParameter k × NamesSpeakers a
NamesSpeakers (on a u v) = NamesSpeakers a

-- where the parameters have these sorts
pub record IsPrintable (parameters : List Sort) (f : FormulaView) : Type 0 where
  pub formula : IsFormula parameters f
  pub spellable : IsSpellableFormula f
  pub speakers : NamesSpeakers f
