-- Statements that are added at the end.
use Rattle.std.proofs.Common.{◌≡◌, List, [], ◌∷◌, ◌++◌, ap, ◌∙◌, append_assoc, subst}
use Rattle.proof_verifier.specs.declared.cites.Cite.{Cite}
use Rattle.proof_search.specs.Answers.{HasAdded}

pub HasAdded-one : (old new : List Cite) (cite : Cite) → new ≡ old ++ cite ∷ [] → HasAdded old new
HasAdded-one old new cite is = record { added = cite ∷ []; parts = is }

pub HasAdded-more : (old middle new : List Cite) → HasAdded old middle → HasAdded middle new → HasAdded old new
HasAdded-more old middle new first second = record {
  added = first.added ++ second.added;
  parts = second.parts ∙ ap (λ (cs : List Cite). cs ++ second.added) first.parts ∙ append_assoc old first.added second.added;
}

pub HasAdded-same : (old middle new : List Cite) → middle ≡ old → HasAdded middle new → HasAdded old new
HasAdded-same old middle new same more = subst (λ (cs : List Cite). HasAdded cs new) same more

pub ruleset adding = (HasAdded-one, HasAdded-more, HasAdded-same)
