-- A proof for each rule that the verdict accepts, and for each rule one with each fault that its
-- tests can give. Each is a proof that alice may write file 1, from one statement of
-- `admin` from 0 to 200.
use Rattle.std.specs.Prelude.{◌≡◌, ℕ, List, [], ◌∷◌, Result, Ok, Err, codes}
use Rattle.bl_syntax.specs.declared.terms.NodeId.{NodeId}
use Rattle.bl_syntax.specs.declared.terms.Perm.TheVariants.{Write}
use Rattle.bl_syntax.specs.declared.terms.Sort.TheVariants as sorts
use Rattle.bl_syntax.specs.declared.terms.TimePoint.TheVariants.{NegInf, PosInf}
use Rattle.bl_syntax.specs.declared.terms.Term.{Term}
use Rattle.bl_syntax.specs.declared.terms.Term.TheVariants.{Prin, File, Perm, Time, Text, Ctime, Param, Bound}
use Rattle.bl_syntax.specs.declared.terms.StatePred.{StatePred}
use Rattle.bl_syntax.specs.declared.terms.StatePred.TheVariants.{Owner, HasXattr, InDir}
use Rattle.bl_syntax.specs.declared.terms.Constraint.{Constraint}
use Rattle.bl_syntax.specs.Formula.{FormulaView, atom, compare, state, both, either, implies, truth, falsity, forall_, exists_, says, on}
use Rattle.bl_syntax.specs.WellSorted.{may}
use Rattle.bl_syntax.specs.Grant.{GrantView}
use Rattle.bl_rules.specs.Allowed.{admin}
use Rattle.proof_term.specs.Proof.{ProofView, init, cons_r, inter_r, and_r, or_r1, or_r2, true_r, imp_r, forall_r, exists_r, says_r, at_r, cons_l, inter_l, and_l, or_l, false_l, imp_l, forall_l, exists_l, says_l, claim, at_l}
use Rattle.proof_verifier.specs.declared.fault.CheckFault.{CheckFault}
use Rattle.proof_verifier.specs.declared.fault.CheckFault.TheVariants.{NoHypothesis, WrongShape, NotEntailed, NotInState, ViewTooWeak, BadTerm}
use Rattle.proof_verifier.specs.Verdict.{verdict}
use Rattle.proof_verifier.specs.Examples.{number, second, stated, may_write, writing, between, within_both}

-- what `admin` says, a proof, and the verdict
pub record Example : Type 0 where
  pub body : FormulaView
  pub proof : ProofView
  pub expected : Result GrantView CheckFault

abbrev example : FormulaView → ProofView → Result GrantView CheckFault → Example
example body proof expected = record { body = body; proof = proof; expected = expected }

abbrev pub Computes : Example → Type 0
Computes e = verdict (stated (codes "admin") e.body 0 200 ∷ []) writing e.proof ≡ e.expected

abbrev alice : Term
alice = Prin (codes "alice")

abbrev file : NodeId
file = number 1

abbrev access_to : Term → FormulaView
access_to f = atom may (alice ∷ f ∷ Perm Write ∷ [])

-- some atom
abbrev known : FormulaView
known = atom (codes "known") []

abbrev owned : FormulaView
owned = state (Owner (File file) alice)

abbrev marked : StatePred
marked = HasXattr (File file) (Text (codes "status")) (Text (codes "draft"))

abbrev placed : StatePred
placed = InDir (File file) (File (number 2))

abbrev order : ℕ → ℕ → Constraint
order u v = record { low = second u; high = second v }

-- from what `admin` says, which is truth 1
abbrev granted : ProofView → ProofView
granted p = says_r (claim 0 p)

-- where it says that something grants the goal: p proves that
abbrev behind : ProofView → ProofView
behind p = granted (imp_l 1 Ctime Ctime p (init 2))

-- the grant as long as the predicate on the state is true
abbrev only_where : StatePred → Result GrantView CheckFault
only_where s = Ok (record (between writing 0 200) { states = s ∷ [] })

abbrev plainly : Result GrantView CheckFault
plainly = Ok (between writing 0 200)

-- one for each rule but those of the simplest proof
abbrev pub accepted : List Example
accepted =
    example (implies truth may_write) (behind true_r) plainly
    ∷ example (implies (either truth falsity) may_write) (behind (or_r1 true_r)) plainly
    ∷ example (implies (either falsity truth) may_write) (behind (or_r2 true_r)) plainly
    ∷ example (implies (implies known known) may_write) (behind (imp_r (init 2))) plainly
    ∷ example (implies (forall_ sorts.Text (implies known known)) may_write) (behind (forall_r (imp_r (init 2)))) plainly
    ∷ example (implies (exists_ sorts.Principal (state (Owner (File file) (Bound 0)))) may_write)
    (behind (exists_r alice inter_r))
    (Ok (record (between writing 0 200) { states = Owner (File file) alice ∷ [] }))
    ∷ example (implies (on truth (second 0) (second 1)) may_write) (behind (at_r true_r)) plainly
    ∷ example (implies (compare (order 0 1)) may_write) (behind cons_r) plainly
    ∷ example (implies (both truth truth) may_write) (behind (and_r true_r true_r)) plainly
    ∷ example (both (compare (order 1 0)) may_write) (granted (and_l 1 (cons_l 2 (init 3)))) plainly
    ∷ example (both owned (implies owned may_write)) (granted (and_l 1 (inter_l 2 (imp_l 3 Ctime Ctime inter_r (init 4))))) plainly
    ∷ example (either may_write may_write) (granted (or_l 1 (init 2) (init 2))) plainly
    ∷ example falsity (granted (false_l 1)) plainly
    ∷ example (exists_ sorts.Principal may_write) (granted (exists_l 1 (init 2))) plainly
    ∷ example (says admin may_write) (granted (says_l 1 (claim 2 (init 3)))) plainly
    ∷ example (on may_write (second 50) (second 60)) (granted (at_l 1 (init 2))) (Ok (within_both writing 0 200 50 60))
    ∷ example (forall_ sorts.File (access_to (Bound 0))) (granted (forall_l 1 (File file) (init 2))) plainly
    ∷ example (implies (state marked) may_write) (behind inter_r) (only_where marked)
    ∷ example (implies (state placed) may_write) (behind inter_r) (only_where placed) ∷ []

-- the faults of each rule, but for too many conditions
abbrev pub refused : List Example
refused =
    example may_write (granted (init 2)) (Err (NoHypothesis 2))
    ∷ example may_write (granted (cons_l 2 true_r)) (Err (NoHypothesis 2))
    ∷ example may_write (granted (inter_l 2 true_r)) (Err (NoHypothesis 2))
    ∷ example may_write (granted (and_l 2 true_r)) (Err (NoHypothesis 2))
    ∷ example may_write (granted (or_l 2 true_r true_r)) (Err (NoHypothesis 2))
    ∷ example may_write (granted (false_l 2)) (Err (NoHypothesis 2))
    ∷ example may_write (granted (imp_l 2 Ctime Ctime true_r true_r)) (Err (NoHypothesis 2))
    ∷ example may_write (granted (forall_l 2 alice true_r)) (Err (NoHypothesis 2))
    ∷ example may_write (granted (exists_l 2 true_r)) (Err (NoHypothesis 2))
    ∷ example may_write (granted (says_l 2 true_r)) (Err (NoHypothesis 2))
    ∷ example may_write (granted (claim 2 true_r)) (Err (NoHypothesis 2))
    ∷ example may_write (granted (at_l 2 true_r)) (Err (NoHypothesis 2))
    ∷ example (implies (says admin may_write) may_write) (behind (says_r (init 1))) (Err (NoHypothesis 4))
    ∷ example truth (granted (init 1)) (Err (WrongShape 2))
    ∷ example may_write (granted (cons_l 1 true_r)) (Err (WrongShape 2))
    ∷ example may_write (granted (inter_l 1 true_r)) (Err (WrongShape 2))
    ∷ example may_write (granted (and_l 1 true_r)) (Err (WrongShape 2))
    ∷ example may_write (granted (or_l 1 true_r true_r)) (Err (WrongShape 2))
    ∷ example may_write (granted (false_l 1)) (Err (WrongShape 2))
    ∷ example may_write (granted (imp_l 1 Ctime Ctime true_r true_r)) (Err (WrongShape 2))
    ∷ example may_write (granted (forall_l 1 alice true_r)) (Err (WrongShape 2))
    ∷ example may_write (granted (exists_l 1 true_r)) (Err (WrongShape 2))
    ∷ example may_write (granted (says_l 1 true_r)) (Err (WrongShape 2))
    ∷ example may_write (granted (claim 1 true_r)) (Err (WrongShape 2))
    ∷ example may_write (granted (at_l 1 true_r)) (Err (WrongShape 2))
    ∷ example may_write (says_r (init 0)) (Err (WrongShape 1))
    ∷ example may_write (granted cons_r) (Err (WrongShape 2))
    ∷ example may_write (granted inter_r) (Err (WrongShape 2))
    ∷ example may_write (granted (and_r true_r true_r)) (Err (WrongShape 2))
    ∷ example may_write (granted (or_r1 true_r)) (Err (WrongShape 2))
    ∷ example may_write (granted (or_r2 true_r)) (Err (WrongShape 2))
    ∷ example may_write (granted true_r) (Err (WrongShape 2))
    ∷ example may_write (granted (imp_r true_r)) (Err (WrongShape 2))
    ∷ example may_write (granted (forall_r true_r)) (Err (WrongShape 2))
    ∷ example may_write (granted (exists_r alice true_r)) (Err (WrongShape 2))
    ∷ example may_write (granted (says_r true_r)) (Err (WrongShape 2))
    ∷ example may_write (granted (at_r true_r)) (Err (WrongShape 2))
    ∷ example (implies (exists_ sorts.Principal truth) may_write) (behind (exists_r (File file) true_r)) (Err (BadTerm 3))
    ∷ example (implies (exists_ sorts.Principal truth) may_write) (behind (exists_r (Bound 0) true_r)) (Err (BadTerm 3))
    ∷ example (implies (exists_ sorts.Principal truth) may_write) (behind (exists_r (Param 0) true_r)) (Err (BadTerm 3))
    ∷ example (implies truth may_write) (granted (imp_l 1 alice Ctime true_r (init 2))) (Err (BadTerm 2))
    ∷ example (implies truth may_write) (granted (imp_l 1 Ctime alice true_r (init 2))) (Err (BadTerm 2))
    ∷ example (forall_ sorts.File (access_to (Bound 0))) (granted (forall_l 1 alice (init 2))) (Err (BadTerm 2))
    ∷ example (says (Prin (codes "hr")) may_write) (granted (says_l 1 (claim 2 (init 3)))) (Err (ViewTooWeak 3))
    ∷ example (implies (compare (order 1 0)) may_write) (behind cons_r) (Err (NotEntailed 3))
    ∷ example (implies truth (on may_write (second 0) (second 200))) (granted (imp_l 1 (Time NegInf) Ctime true_r (at_l 2 (init 3)))) (Err (NotEntailed 2))
    ∷ example (implies truth (on may_write (second 0) (second 200))) (granted (imp_l 1 Ctime (Time PosInf) true_r (at_l 2 (init 3)))) (Err (NotEntailed 2))
    ∷ example (implies (forall_ sorts.Principal (state (Owner (File file) (Bound 0)))) may_write) (behind (forall_r inter_r)) (Err (NotInState 4))
    ∷ example (implies (implies known (says admin may_write)) may_write) (behind (imp_r (says_r (claim 0 (init 3))))) (Err (NotEntailed 5))
    ∷ example (both known (implies (implies truth known) may_write)) (granted (and_l 1 (imp_l 3 Ctime Ctime (imp_r (init 2)) (init 4)))) (Err (NotEntailed 5))
    ∷ example (implies truth may_write) (granted (imp_l 1 Ctime Ctime true_r (init 9))) (Err (NoHypothesis 4))
    ∷ example (implies (both truth truth) may_write) (behind (and_r true_r cons_r)) (Err (WrongShape 5))
    ∷ example (either may_write may_write) (granted (or_l 1 (init 2) (init 9))) (Err (NoHypothesis 4))
    ∷ example may_write (granted (imp_l 1 alice Ctime true_r true_r)) (Err (WrongShape 2))
    ∷ example (implies (implies known (says alice may_write)) may_write) (behind (imp_r (says_r (claim 0 (init 3))))) (Err (ViewTooWeak 5))
    ∷ example (implies truth may_write) (granted (imp_l 1 (Time NegInf) (Time PosInf) true_r (init 2))) (Err (NotEntailed 2))
    ∷ example (implies truth may_write) (granted (imp_l 1 (Time NegInf) Ctime cons_r (init 2))) (Err (NotEntailed 2)) ∷ []
