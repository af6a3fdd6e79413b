use Rattle.std.proofs.Common.{List, [], ◌∷◌, length, ◌<◌, refl, arith}
use Rattle.proof_verifier.specs.declared.cites.Cite.{Cite}
use Rattle.proof_verifier.specs.Cited.{DoCitesRise}
use Rattle.proof_verifier.proofs.cites.+do_rise.Goals as goal

short_rises : (cites : List Cite) → length cites < 2 → DoCitesRise cites
short_rises [] h = tt
short_rises (first ∷ []) h = tt
short_rises (first ∷ second ∷ others) h = absurd (omega (arith, h))

pub returns-in_default : goal.returns-in_default
returns-in_default t c = (λ _. short_rises c.args.cites.now (omega (arith, c.in_default.len_below)), λ _. refl)
