-- The time that the token is lies in the range.
use Rattle.std.proofs.Common.{sym}
use Rattle.proof_text.proofs.HeadLemmas.{term_fits}
use Rattle.proof_text.proofs.cursor.time_at.Goals as goal

pub returns-clause-ranged : goal.returns-clause-ranged
returns-clause-ranged c = term_fits c.token_at-token.result c.in_ok-term.term c.token_at-token.ensures.ranged (sym c.in_ok-term.ensures)
