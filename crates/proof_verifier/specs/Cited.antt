-- The statements that a proof cites, by their numbers. The limits are this project's own.
use Rattle.std.specs.Prelude.{◌<◌, ◌≤◌, List, [], ◌∷◌, map, length}
use Rattle.bl_syntax.specs.declared.limits.TheConstants.{MOST_CITED}
use Rattle.bl_syntax.specs.Statement.{StatementView}
use Rattle.proof_verifier.specs.declared.cites.Cite.{Cite}

-- each number is below the next
abbrev pub DoCitesRise : List Cite → Type 0
DoCitesRise [] = Unit {0}
DoCitesRise (first ∷ []) = Unit {0}
DoCitesRise (first ∷ second ∷ others) = (first.number < second.number) ×
    DoCitesRise (second ∷ others)

-- 1 to 64 statements, by strictly rising numbers
pub record AreCited (cites : List Cite) : Type 0 where
  pub some : 0 < length cites
  pub few : length cites ≤ MOST_CITED
  pub rising : DoCitesRise cites

-- the statements alone, in order
abbrev pub statements_of : List Cite → List StatementView
statements_of cites = map (λ (c : Cite). c.statement) cites
