-- Cited statements and checked proofs can be told apart: each is given back by the tuple of its
-- fields.
use Rattle.std.specs.Prelude.{ℕ, List, refl}
use Rattle.std.specs.Coded.{Coded, code_by, coded×, coded_ℕ, coded_list}
use Rattle.bl_syntax.specs.declared.terms.Constraint.{Constraint}
use Rattle.bl_syntax.specs.declared.terms.StatePred.{StatePred}
use Rattle.bl_syntax.specs.declared.grant.Goal.{Goal}
use Rattle.bl_syntax.specs.contracts.terms.Constraint as constraint
use Rattle.bl_syntax.specs.contracts.terms.StatePred as state_predicate
use Rattle.bl_syntax.specs.contracts.grant.Goal as goals
use Rattle.bl_syntax.specs.Statement.{StatementView}
use Rattle.bl_syntax.specs.StatementCode.{statement_code}
use Rattle.bl_syntax.specs.Grant.{GrantView}
use Rattle.proof_term.specs.Proof.{ProofView}
use Rattle.proof_term.specs.ProofCode.{proof_code}
use Rattle.proof_verifier.specs.declared.cites.Cite.{Cite}
use Rattle.proof_verifier.specs.CheckedView.{CheckedView}

abbrev cite_code : Coded Cite
cite_code = code_by (ℕ × StatementView) (coded× coded_ℕ statement_code) (λ c.
    (c.number, c.statement)) (λ p. record { number = p.0; statement = p.1 }) (λ _. refl)

abbrev pub cites_code : Coded (List Cite)
cites_code = coded_list cite_code

abbrev grant_code : Coded GrantView
grant_code =
    code_by (Goal × (List Constraint × (List StatePred × List ℕ)))
    (coded× goals.the_row.coded (coded× (coded_list constraint.the_row.coded) (coded× (coded_list state_predicate.the_row.coded) (coded_list coded_ℕ))))
    (λ g. (g.goal, (g.times, (g.states, g.cited))))
    (λ p. record { goal = p.0; times = p.1.0; states = p.1.1.0; cited = p.1.1.1 })
    (λ _. refl)

-- a checked proof is told apart by its parts
abbrev pub checked_code : Coded CheckedView
checked_code =
    code_by (List Cite × (Goal × (ProofView × GrantView))) (coded× cites_code (coded× goals.the_row.coded (coded× proof_code grant_code)))
    (λ c. (c.cited, (c.goal, (c.proof, c.grant))))
    (λ p. record { cited = p.0; goal = p.1.0; proof = p.1.1.0; grant = p.1.1.1 })
    (λ _. refl)
