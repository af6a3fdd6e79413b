-- What the hypotheses of the program stand for.
use Rattle.std.specs.Prelude.{ℕ, Bool, true, false, List, [], ◌∷◌, ◌++◌, Option, Some, map, option_and_then}
use Rattle.std.specs.List.{slice_get}
use Rattle.bl_rules.specs.Sequent.{Hypothesis, holds, claims}
use Rattle.proof_verifier.specs.declared.hypotheses.HypothesisRef.{HypothesisRef}
use Rattle.proof_verifier.specs.declared.hypotheses.HypothesisRef.TheVariants.{Truth, Claim}
use Rattle.proof_verifier.specs.declared.hypotheses.Hypotheses.{Hypotheses}
use Rattle.proof_verifier.specs.declared.hypotheses.Hypotheses.TheVariants as code
use Rattle.proof_verifier.specs.Instances.{instance_view}
use Rattle.proof_verifier.specs.Sequent.{unless_truth}

abbrev pub hypothesis : HypothesisRef → Hypothesis
hypothesis (Truth a u v) = holds (instance_view a) u.now v.now
hypothesis (Claim k a u v) = claims k.now (instance_view a) u.now v.now

-- the hypotheses by their numbers, without those that were struck out
abbrev pub hypotheses_by_number : Hypotheses → List (Option Hypothesis)
hypotheses_by_number code.None = []
hypotheses_by_number (code.More' p older held) = hypotheses_by_number older ++ Some (hypothesis held) ∷ []
hypotheses_by_number (code.Struck' p older) = map unless_truth (hypotheses_by_number older)

-- the hypothesis with that number, unless it was struck out
abbrev pub left_at : List (Option Hypothesis) → ℕ → Option Hypothesis
left_at hypotheses h = option_and_then (λ (left : Option Hypothesis). left) (slice_get hypotheses h)

-- what is left of it, if truths may be struck out
abbrev pub struck_if : Bool → Option Hypothesis → Option Hypothesis
struck_if true left = unless_truth left
struck_if false left = left
