use Rattle.reply_laws.proofs.GrammarLemmas.{statement_unbroken, proof_unbroken, grant_unbroken}
use Rattle.reply_laws.proofs.laws.what_is_spelled_is_unbroken.Goals as goal

pub returns : goal.returns
returns c = record { statements = statement_unbroken; proofs = proof_unbroken; grants = grant_unbroken }
