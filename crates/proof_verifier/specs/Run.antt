-- How a run of the program over a proof follows the rules.
use Rattle.std.specs.Prelude.{◌≡◌, ◌≤◌, ◌+◌, ◌*◌, ◌⊎◌, ℕ, List, [], ◌∷◌, ◌++◌, length, map, Some, Result, Ok, Err, MatchResult}
use Rattle.bl_syntax.specs.declared.limits.TheConstants.{MOST_PROOF_NODES, MOST_PROOF_LEVELS, MOST_CITED}
use Rattle.bl_syntax.specs.declared.terms.Sort.{Sort}
use Rattle.bl_syntax.specs.declared.terms.Term.{Term}
use Rattle.bl_syntax.specs.declared.terms.Term.TheVariants.{Param}
use Rattle.bl_syntax.specs.Statement.{StatementView}
use Rattle.bl_syntax.specs.Grant.{GrantView}
use Rattle.bl_rules.specs.Allowed.{claim_of}
use Rattle.proof_term.specs.Proof.{ProofView}
use Rattle.proof_term.specs.Limits.{size, depth}
use Rattle.proof_verifier.specs.declared.fault.CheckFault.{CheckFault}
use Rattle.proof_verifier.specs.declared.fault.CheckFault.TheVariants.{NoMemory}
use Rattle.proof_verifier.specs.declared.checker.Checker.{Checker}
use Rattle.proof_verifier.specs.declared.position.Position.{Position}
use Rattle.proof_verifier.specs.Sequent.{Sequent}
use Rattle.proof_verifier.specs.Hypotheses.{hypotheses_by_number}
use Rattle.proof_verifier.specs.Instances.{instance_view}
use Rattle.proof_verifier.specs.Known.{fact_list}

-- the sequent of a node
abbrev pub sequent : Checker → Position → Sequent
sequent checker place = record {
  sorts = checker.sorts;
  constraints = checker.constraints;
  facts = fact_list place.facts.now;
  hypotheses = hypotheses_by_number place.hypotheses.now;
  view = record { who = place.who.now; from = place.begins.now; to = place.ends.now };
  goal = instance_view place.goal;
  from = place.from.now;
  to = place.to.now;
}

-- the numbers at a node leave room for a proof of that size and depth, and the hypotheses are
-- counted
pub record HasProofRoom (checker : Checker) (place : Position) (proof_size proof_depth : ℕ) : Type 0 where
  pub counted : place.count ≡ length (hypotheses_by_number place.hypotheses.now)
  pub hypotheses : place.count + 2 * proof_depth ≤ 464
  pub constraints : length checker.constraints + 2 * proof_depth ≤ 400
  pub sorts : length checker.sorts + 2 * proof_depth ≤ 400
  pub nodes : place.node + proof_size ≤ MOST_PROOF_NODES

-- the sequent with statements as further claims
abbrev pub with_claims : List StatementView → Sequent → Sequent
with_claims statements s = record s { hypotheses = s.hypotheses ++ map (λ (said : StatementView). Some (claim_of said)) statements }

-- room for a proof that is kept, after so many further claims at its root
pub record HasRoomForClaims (checker : Checker) (place : Position) (claims : ℕ) (proof : ProofView) : Type 0 where
  pub counted : place.count ≡ length (hypotheses_by_number place.hypotheses.now)
  pub hypotheses : place.count + claims ≤ MOST_CITED
  pub constraints : checker.constraints ≡ []
  pub sorts : checker.sorts ≡ []
  pub node : place.node ≡ 0
  pub proof_size : size proof ≤ MOST_PROOF_NODES
  pub proof_depth : depth proof ≤ MOST_PROOF_LEVELS

-- the proof was followed to its end: this is the grant, the next node has that number, and what had
-- grown is cut back
pub record IsPassed (before after : Checker) (next reached : ℕ) (expected : Result GrantView CheckFault) : Type 0 where
  pub granted : expected ≡ Ok after.grant
  pub counted : reached ≡ next
  pub sorts : after.sorts ≡ before.sorts
  pub constraints : after.constraints ≡ before.constraints

-- the parameter is the next one, and now has its sort
pub record DeclaresParameter (before after : Checker) (sort : Sort) (parameter : Term) : Type 0 where
  pub next : parameter ≡ Param (length before.sorts)
  pub sorts : after.sorts ≡ before.sorts ++ sort ∷ []
  pub constraints : after.constraints ≡ before.constraints
  pub grant : after.grant ≡ before.grant

-- the condition is met or kept: this is the grant, and all else is as before
pub record IsConditionMet (before after : Checker) (expected : Result GrantView CheckFault) : Type 0 where
  pub granted : expected ≡ Ok after.grant
  pub sorts : after.sorts ≡ before.sorts
  pub constraints : after.constraints ≡ before.constraints

-- the fault is the first one, or a growth was refused
abbrev pub IsFault : CheckFault → Result GrantView CheckFault → Type 0
IsFault fault expected = (fault ≡ NoMemory) ⊎ (expected ≡ Err fault)

abbrev pub GivesFollowed : Checker → Checker → ℕ → Result ℕ CheckFault →
    Result GrantView CheckFault → Type 0
GivesFollowed before after next result expected = MatchResult result (λ reached. IsPassed before after next reached expected) (λ fault. IsFault fault expected)

abbrev pub GivesMet : Checker → Checker → Result (Unit {0}) CheckFault →
    Result GrantView CheckFault → Type 0
GivesMet before after result expected = MatchResult result (λ _. IsConditionMet before after expected) (λ fault. IsFault fault expected)
