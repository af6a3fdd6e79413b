-- Lemmas on the room that the numbers at a node leave.
use Rattle.std.proofs.Common.{◌≡◌, ℕ, ◌+◌, ◌≤◌, max, List, [], ◌∷◌, ◌++◌, length, ap, arith}
use Rattle.std.proofs.lemmas.List.{length-append}
use Rattle.std.specs.Prelude.{Option, Some}
use Rattle.bl_rules.specs.Sequent.{Hypothesis}
use Rattle.bl_syntax.specs.declared.terms.Sort.{Sort}
use Rattle.bl_syntax.specs.declared.terms.Constraint.{Constraint}
use Rattle.proof_verifier.specs.declared.checker.Checker.{Checker}
use Rattle.proof_verifier.specs.declared.position.Position.{Position}
use Rattle.proof_verifier.specs.Run.{HasProofRoom}
use Rattle.proof_verifier.specs.Hypotheses.{hypotheses_by_number}

-- room for the second premise of a rule, on as many hypotheses
pub room_for_second : (before after : Checker) (place second : Position) (a b d e : ℕ)
    → HasProofRoom before place (1 + a + b) (1 + max d e)
    → after.sorts ≡ before.sorts → after.constraints ≡ before.constraints
    → second.node ≡ place.node + 1 + a
    → second.count ≡ length (hypotheses_by_number second.hypotheses.now)
    → second.count ≤ place.count + 1
    → HasProofRoom after second b e
room_for_second before after place second a b d e room same_sorts same_constraints number counted more =
    let sorts : length after.sorts ≡ length before.sorts = ap (λ (l : List Sort). length l) same_sorts in
    let constraints : length after.constraints ≡ length before.constraints = ap (λ (l : List Constraint). length l) same_constraints in
    record {
      counted = counted;
      hypotheses = omega (arith, room.hypotheses, more);
      constraints = omega (arith, room.constraints, constraints);
      sorts = omega (arith, room.sorts, sorts);
      nodes = omega (arith, room.nodes, number);
    }

-- one more hypothesis is counted
pub counted_more : (count : ℕ) (hypotheses : List (Option Hypothesis)) (h : Hypothesis)
    → count ≡ length hypotheses → count + 1 ≡ length (hypotheses ++ Some h ∷ [])
counted_more count hypotheses h counted = omega (arith, counted, length-append hypotheses (Some h ∷ []))
