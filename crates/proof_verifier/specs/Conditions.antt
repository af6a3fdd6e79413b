-- What becomes of a rule's condition: it is met, it is left over as a condition of the grant, or it
-- is a fault at the node. `LeftOver` says which are left over.
use Rattle.std.specs.Prelude.{ℕ, ◌+◌, Bool, false, List, [], ◌∷◌, ◌++◌, length, Result, Ok, Err, ◌==◌, if◌then◌else◌, Option, Some, None}
use Rattle.bl_syntax.specs.declared.limits.TheConstants.{MOST_CONDITIONS}
use Rattle.bl_syntax.specs.declared.terms.Sort.{Sort}
use Rattle.bl_syntax.specs.declared.terms.Term.{Term}
use Rattle.bl_syntax.specs.declared.terms.StatePred.{StatePred}
use Rattle.bl_syntax.specs.declared.terms.Constraint.{Constraint}
use Rattle.bl_syntax.specs.Terms.{sort_of}
use Rattle.bl_syntax.specs.Grant.{GrantView}
use Rattle.bl_syntax.specs.Equality.{sort_eq}
use Rattle.proof_verifier.specs.declared.fault.CheckFault.{CheckFault}
use Rattle.proof_verifier.specs.declared.fault.CheckFault.TheVariants.{NotEntailed, NotInState, BadTerm, ViewTooWeak, TooManyConditions}
use Rattle.proof_verifier.specs.Tests.{has_constraint, has_state, is_as_strong}
use Rattle.proof_verifier.specs.LeftOver.{LeftOver}
use Rattle.proof_verifier.specs.Entailed.{is_entailed}

-- the grant has as many conditions as it may
abbrev pub is_full : GrantView → Bool
is_full g = length g.times + length g.states == MOST_CONDITIONS

-- with one more condition on time, once
abbrev pub keep_time : ℕ → Constraint → GrantView → Result GrantView CheckFault
keep_time node c g =
    if has_constraint g.times c then Ok g else
    if is_full g then Err (TooManyConditions node) else
    Ok (record g { times = g.times ++ c ∷ [] })

-- with one more condition on the state, once
abbrev pub keep_state : ℕ → StatePred → GrantView → Result GrantView CheckFault
keep_state node s g =
    if has_state g.states s then Ok g else
    if is_full g then Err (TooManyConditions node) else
    Ok (record g { states = g.states ++ s ∷ [] })

-- that u is not after v: passed over if the constraints entail it, kept if it is left over, else a
-- fault
abbrev pub time_condition : LeftOver → ℕ → List Constraint → Term → Term → GrantView →
    Result GrantView CheckFault
time_condition left_over node constraints u v g =
    if is_entailed constraints u v then Ok g else
    if left_over.time (record { low = u; high = v }) then keep_time node (record { low = u; high = v }) g else
    Err (NotEntailed node)

-- that the predicate is true of the state: passed over if it is a fact, kept if it is left over,
-- else a fault
abbrev pub state_condition : LeftOver → ℕ → List StatePred → StatePred → GrantView →
    Result GrantView CheckFault
state_condition left_over node facts s g =
    if has_state facts s then Ok g else
    if left_over.state s then keep_state node s g else
    Err (NotInState node)

-- the term is in scope and has the sort; it holds no bound variable
abbrev pub of_sort : Sort → Option Sort → Bool
of_sort sort None = false
of_sort sort (Some found) = sort_eq found sort

abbrev pub term_condition : ℕ → List Sort → Sort → Term → Result (Unit {0}) CheckFault
term_condition node sorts sort t = if of_sort sort (sort_of sorts [] t) then Ok tt else Err (BadTerm node)

-- the first principal is at least as strong as the second
abbrev pub strength_condition : ℕ → Term → Term → Result (Unit {0}) CheckFault
strength_condition node k other = if is_as_strong k other then Ok tt else Err (ViewTooWeak node)
