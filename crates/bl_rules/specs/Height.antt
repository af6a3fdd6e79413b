-- The same calculus once more, read from a goal: what is derivable by a derivation of at most a
-- given height (after the same sources). A law says that it derives the same.
use Rattle.std.specs.Prelude.{◌⊎◌, ℕ, zero, suc, Contains}
use Rattle.bl_syntax.specs.declared.terms.Sort.TheVariants.{Time}
use Rattle.bl_syntax.specs.declared.terms.Term.{Term}
use Rattle.bl_syntax.specs.Formula.{FormulaView, atom, compare, state, both, either, implies, truth, falsity, forall_, exists_, says, on}
use Rattle.bl_syntax.specs.Terms.{IsAtLeastAsStrong}
use Rattle.bl_syntax.specs.Substitution.{instance_at}
use Rattle.bl_rules.specs.Sequent.{holds, claims, Known, learn, bound, observe, declare, new_parameter, new_start, new_end, suppose, speak}
use Rattle.bl_rules.specs.Derivable.{Assumes, IsNotAfter, IsOfSort}

-- which sequents are shown
abbrev pub Shown : Type 1
Shown = Known → FormulaView → Term → Term → Type 0

-- by the goal
abbrev pub ByGoal : Shown → Shown
ByGoal Show known (atom name terms) u v = (from : Term) × (to : Term) ×
    Assumes known (holds (atom name terms) from to) × IsNotAfter known from u ×
    IsNotAfter known v to
ByGoal Show known (compare c) u v = IsNotAfter known c.low c.high
ByGoal Show known (state s) u v = Contains known.facts s
ByGoal Show known (both a b) u v = Show known a u v × Show known b u v
ByGoal Show known (either a b) u v = Show known a u v ⊎ Show known b u v
ByGoal Show known (implies a b) u v = Show (suppose a u v known) b (new_start known) (new_end known)
ByGoal Show known truth u v = Unit {0}
ByGoal Show known falsity u v = ⊥
ByGoal Show known (forall_ s a) u v = Show (declare s known) (instance_at (new_parameter known) a) u v
ByGoal Show known (exists_ s a) u v = (t : Term) × IsOfSort known s t ×
    Show known (instance_at t a) u v
ByGoal Show known (says k a) u v = Show (speak k u v known) a u v
ByGoal Show known (on a from to) u v = Show known a from to

-- by a truth of this formula on this interval, the goal staying
abbrev pub FromTruth : Shown → Known → FormulaView → Term → Term → FormulaView → Term → Term →
    Type 0
FromTruth Show known (atom name terms) from to goal u v = ⊥
FromTruth Show known (compare c) from to goal u v = Show (bound c.low c.high known) goal u v
FromTruth Show known (state s) from to goal u v = Show (observe s known) goal u v
FromTruth Show known (both a b) from to goal u v = Show (learn (holds b from to) (learn (holds a from to) known)) goal u v
FromTruth Show known (either a b) from to goal u v = Show (learn (holds a from to) known) goal u v ×
    Show (learn (holds b from to) known) goal u v
FromTruth Show known (implies a b) from to goal u v =
    (x : Term) × (y : Term) × IsOfSort known Time x × IsOfSort known Time y ×
    IsNotAfter known from x × IsNotAfter known y to
    × Show known a x y × Show (learn (holds b x y) known) goal u v
FromTruth Show known truth from to goal u v = ⊥
FromTruth Show known falsity from to goal u v = Unit {0}
FromTruth Show known (forall_ s a) from to goal u v = (t : Term) × IsOfSort known s t ×
    Show (learn (holds (instance_at t a) from to) known) goal u v
FromTruth Show known (exists_ s a) from to goal u v = Show (learn (holds (instance_at (new_parameter known) a) from to) (declare s known)) goal u v
FromTruth Show known (says k a) from to goal u v = Show (learn (claims k a from to) known) goal u v
FromTruth Show known (on a x y) from to goal u v = Show (learn (holds a x y) known) goal u v

-- by some truth that is known
abbrev pub ByTruth : Shown → Shown
ByTruth Show known goal u v = (a : FormulaView) × (from : Term) × (to : Term) ×
    Assumes known (holds a from to) × FromTruth Show known a from to goal u v

-- by some claim that counts
abbrev pub ByClaim : Shown → Shown
ByClaim Show known goal u v =
    (k : Term) × (a : FormulaView) × (from : Term) × (to : Term) ×
    Assumes known (claims k a from to)
    × IsAtLeastAsStrong k known.view.who × IsNotAfter known from known.view.from ×
    IsNotAfter known known.view.to to
    × Show (learn (holds a from to) known) goal u v

-- by a derivation of at most this height
abbrev pub Derives : ℕ → Shown
Derives zero known goal u v = ⊥
Derives (suc n) known goal u v = ByGoal (Derives n) known goal u v ⊎
    (ByTruth (Derives n) known goal u v ⊎ ByClaim (Derives n) known goal u v)
