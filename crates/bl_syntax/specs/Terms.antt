-- Terms: their sorts, the current time in them, and their order (after the terms of BL; the sorts
-- are this project's own).
use Rattle.std.specs.Prelude.{◌≡◌, ◌⊎◌, ℤ, List, Option, Some, codes}
use Rattle.std.specs.List.{slice_get}
use Rattle.bl_syntax.specs.declared.terms.Sort.{Sort}
use Rattle.bl_syntax.specs.declared.terms.Sort.TheVariants as sorts
use Rattle.bl_syntax.specs.declared.terms.TimePoint.{TimePoint}
use Rattle.bl_syntax.specs.declared.terms.TimePoint.TheVariants as times
use Rattle.bl_syntax.specs.declared.terms.Term.{Term}
use Rattle.bl_syntax.specs.declared.terms.Term.TheVariants.{Prin, File, Perm, Time, Text, Ctime, Param, Bound}
use Rattle.bl_syntax.specs.declared.terms.Constraint.{Constraint}
use Rattle.bl_syntax.specs.declared.terms.StatePred.{StatePred}
use Rattle.bl_syntax.specs.declared.terms.StatePred.TheVariants.{Owner, HasXattr, InDir}
use Rattle.bl_syntax.specs.TimeOrder.{IsUpTo, IsInRange}

-- the sort of a term, where parameters and binders (the innermost first) have these; none if it has
-- a variable out of scope
abbrev pub sort_of : List Sort → List Sort → Term → Option Sort
sort_of parameters binders (Prin name) = Some sorts.Principal
sort_of parameters binders (File number) = Some sorts.File
sort_of parameters binders (Perm permission) = Some sorts.Perm
sort_of parameters binders (Time point) = Some sorts.Time
sort_of parameters binders (Text constant) = Some sorts.Text
sort_of parameters binders Ctime = Some sorts.Time
sort_of parameters binders (Param n) = slice_get parameters n
sort_of parameters binders (Bound n) = slice_get binders n

-- it names one thing, whatever the current time and the parameters are
abbrev pub IsConstant : Term → Type 0
IsConstant (Prin name) = Unit {0}
IsConstant (File number) = Unit {0}
IsConstant (Perm permission) = Unit {0}
IsConstant (Time point) = Unit {0}
IsConstant (Text constant) = Unit {0}
IsConstant Ctime = ⊥
IsConstant (Param n) = ⊥
IsConstant (Bound n) = ⊥

-- a time in it lies in the range of moments
abbrev pub HasTimeInRange : Term → Type 0
HasTimeInRange (Prin name) = Unit {0}
HasTimeInRange (File number) = Unit {0}
HasTimeInRange (Perm permission) = Unit {0}
HasTimeInRange (Time point) = IsInRange point
HasTimeInRange (Text constant) = Unit {0}
HasTimeInRange Ctime = Unit {0}
HasTimeInRange (Param n) = Unit {0}
HasTimeInRange (Bound n) = Unit {0}

-- the term at a moment: the moment instead of the current time
abbrev pub term_at : ℤ → Term → Term
term_at moment (Prin name) = Prin name
term_at moment (File number) = File number
term_at moment (Perm permission) = Perm permission
term_at moment (Time point) = Time point
term_at moment (Text constant) = Text constant
term_at moment Ctime = Time (times.At moment)
term_at moment (Param n) = Param n
term_at moment (Bound n) = Bound n

abbrev pub constraint_at : ℤ → Constraint → Constraint
constraint_at moment c = record { low = term_at moment c.low; high = term_at moment c.high }

abbrev pub state_at : ℤ → StatePred → StatePred
state_at moment (Owner file owner) = Owner (term_at moment file) (term_at moment owner)
state_at moment (HasXattr file name value) = HasXattr (term_at moment file) (term_at moment name) (term_at moment value)
state_at moment (InDir file directory) = InDir (term_at moment file) (term_at moment directory)

-- two constant times, the first not after the second
pub data AreInOrder : Term → Term → Type 0 where
  in_order : {u v : TimePoint} → IsUpTo u v → AreInOrder (Time u) (Time v)

-- one principal is at least as strong as another: they are equal, or the first is `loc`
abbrev pub IsAtLeastAsStrong : Term → Term → Type 0
IsAtLeastAsStrong k other = (k ≡ other) ⊎ (k ≡ Prin (codes "loc"))
