-- What is answered (this project's own).
use Rattle.std.specs.Prelude.{◌≡◌, List, ◌++◌}
use Rattle.proof_verifier.specs.declared.cites.Cite.{Cite}
use Rattle.proof_search.specs.declared.asked.Asked.{Asked}
use Rattle.proof_search.specs.declared.answers.Answer.{Answer}
use Rattle.proof_search.specs.declared.answers.Answer.TheVariants.{Found, NotFound}
use Rattle.proof_search.specs.declared.answers.Suggestion.{Suggestion}
use Rattle.proof_search.specs.Proved.{IsProved}

-- what is found is proved
abbrev pub IsAnswer : List Cite → Asked → Answer → Type 0
IsAnswer statements asked (Found proved) = IsProved statements asked proved
IsAnswer statements asked (NotFound cause) = Unit {0}

-- statements were added at the end
pub record HasAdded (old new : List Cite) : Type 0 where
  pub added : List Cite
  pub parts : new ≡ old ++ added

-- with what is missing added to the statements, what is asked for is proved
pub record IsEnough (statements : List Cite) (asked : Asked) (suggestion : Suggestion) : Type 0 where
  pub missing : HasAdded statements suggestion.all.items
  pub proved : IsProved suggestion.all.items asked suggestion.proved
