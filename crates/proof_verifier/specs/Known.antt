-- What the facts of the program stand for.
use Rattle.std.specs.Prelude.{List, [], ◌∷◌, ◌++◌}
use Rattle.bl_syntax.specs.declared.terms.StatePred.{StatePred}
use Rattle.proof_verifier.specs.declared.facts.FactRef.{FactRef}
use Rattle.proof_verifier.specs.declared.facts.FactList.{FactList}
use Rattle.proof_verifier.specs.declared.facts.FactList.TheVariants as code
use Rattle.proof_verifier.specs.Instances.{state_with}

abbrev pub fact_view : FactRef → StatePred
fact_view fact = state_with 0 fact.terms.now fact.predicate.now

-- the facts, the newest last
abbrev pub fact_list : FactList → List StatePred
fact_list code.None = []
fact_list (code.More' p older fact) = fact_list older ++ fact_view fact ∷ []
