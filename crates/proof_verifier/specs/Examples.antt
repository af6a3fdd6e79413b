-- Statements and proofs for small examples of verdicts.
use Rattle.std.specs.Prelude.{ℕ, zero, suc, ◌+◌, pos, List, [], ◌∷◌, ◌++◌, codes}
use Rattle.bl_syntax.specs.declared.terms.NodeId.{NodeId}
use Rattle.bl_syntax.specs.declared.terms.Perm.TheVariants.{Read, Write}
use Rattle.bl_syntax.specs.declared.terms.Sort.TheVariants as sorts
use Rattle.bl_syntax.specs.declared.terms.TimePoint.TheVariants.{At}
use Rattle.bl_syntax.specs.declared.terms.Term.{Term}
use Rattle.bl_syntax.specs.declared.terms.Term.TheVariants.{Prin, File, Perm, Time, Ctime, Bound}
use Rattle.bl_syntax.specs.declared.terms.Constraint.{Constraint}
use Rattle.bl_syntax.specs.declared.terms.StatePred.{StatePred}
use Rattle.bl_syntax.specs.declared.terms.StatePred.TheVariants.{InDir}
use Rattle.bl_syntax.specs.declared.grant.Goal.{Goal}
use Rattle.bl_syntax.specs.Formula.{FormulaView, atom, state, both, implies, says, forall_}
use Rattle.bl_syntax.specs.Statement.{StatementView, statement_view}
use Rattle.bl_syntax.specs.Grant.{GrantView}
use Rattle.bl_rules.specs.Allowed.{access}
use Rattle.proof_term.specs.Proof.{ProofView, init, inter_r, and_r, imp_r, says_r, claim, imp_l, forall_l}

abbrev pub number : ℕ → NodeId
number n = record { 0 = n }

-- a constant time
abbrev pub second : ℕ → Term
second n = Time (At (pos n))

-- who says it from one second to another
abbrev pub stated : List ℕ → FormulaView → ℕ → ℕ → StatementView
stated who body from to = statement_view who body (At (pos from)) (At (pos to))

abbrev pub may_write : FormulaView
may_write = access (codes "alice") (number 1) Write

abbrev pub writing : Goal
writing = record { who = codes "alice"; file = number 1; perm = Write }

-- the claim is the goal
abbrev pub by_its_claim : ProofView
by_its_claim = says_r (claim 0 (init 1))

abbrev after : ℕ → Constraint
after n = record { low = second n; high = Ctime }

abbrev until : ℕ → Constraint
until n = record { low = Ctime; high = second n }

-- the goal between two seconds
abbrev pub between : Goal → ℕ → ℕ → GrantView
between goal from to = record { goal = goal; times = after from ∷ until to ∷ []; states = []; cited = [] }

-- as between, but within two pairs of seconds
abbrev pub within_both : Goal → ℕ → ℕ → ℕ → ℕ → GrantView
within_both goal from to begun over = record { goal = goal; times = after from ∷ until to ∷ after begun ∷ until over ∷ []; states = []; cited = [] }

-- whoever is an employee by the word of `hr` may read the file
abbrev pub employees_may_read : FormulaView
employees_may_read =
    forall_ sorts.Principal
    (implies (says (Prin (codes "hr")) (atom (codes "employee") (Bound 0 ∷ []))) (atom (codes "may") (Bound 0 ∷ File (number 2) ∷ Perm Read ∷ [])))

abbrev pub bob_is_employed : FormulaView
bob_is_employed = atom (codes "employee") (Prin (codes "bob") ∷ [])

abbrev pub reading : Goal
reading = record { who = codes "bob"; file = number 2; perm = Read }

abbrev pub by_employment : ProofView
by_employment = says_r (claim 0 (forall_l 2 (Prin (codes "bob")) (imp_l 3 Ctime Ctime (says_r (claim 1 (init 4))) (init 4))))

-- bob may read if `hr` says that he is an employee
abbrev pub bob_may_read_if_employed : FormulaView
bob_may_read_if_employed = implies (says (Prin (codes "hr")) bob_is_employed) (access (codes "bob") (number 2) Read)

-- the employee by the word of the second statement
abbrev pub by_word : ProofView
by_word = says_r (claim 0 (imp_l 2 Ctime Ctime (says_r (claim 1 (init 3))) (init 3)))

abbrev p_of_bob : FormulaView
p_of_bob = atom (codes "p") (Prin (codes "bob") ∷ [])

abbrev pub q_of_bob : FormulaView
q_of_bob = atom (codes "q") (Prin (codes "bob") ∷ [])

-- bob may read if q follows from p
abbrev pub bob_may_read_if_it_follows : FormulaView
bob_may_read_if_it_follows = implies (implies p_of_bob q_of_bob) (access (codes "bob") (number 2) Read)

-- on this interval q follows from p, since the second statement says q on a new interval within
abbrev pub by_new_interval : Term → Term → ProofView
by_new_interval u v = says_r (claim 0 (imp_l 2 u v (imp_r (claim 1 (init 4))) (init 3)))

-- file n stands in file 1
abbrev placed : ℕ → StatePred
placed n = InDir (File (number n)) (File (number 1))

-- that files 1 to n + 1 do
abbrev all_placed : ℕ → FormulaView
all_placed zero = state (placed 1)
all_placed (suc n) = both (all_placed n) (state (placed (n + 2)))

-- alice may write where so many files are placed
abbrev pub may_write_if_placed : ℕ → FormulaView
may_write_if_placed n = implies (all_placed n) may_write

abbrev each_placed : ℕ → ProofView
each_placed zero = inter_r
each_placed (suc n) = and_r (each_placed n) inter_r

abbrev pub by_places : ℕ → ProofView
by_places n = says_r (claim 0 (imp_l 1 Ctime Ctime (each_placed n) (init 2)))

abbrev places : ℕ → List StatePred
places zero = placed 1 ∷ []
places (suc n) = places n ++ placed (n + 2) ∷ []

abbrev pub within_places : ℕ → GrantView
within_places n = record (between writing 0 200) { states = places n }
