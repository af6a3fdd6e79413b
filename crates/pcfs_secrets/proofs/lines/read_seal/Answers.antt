-- The word after the literal writes the key.
use Rattle.std.proofs.lemmas.Result.{IfOk-weaker}
use Rattle.pcfs_secrets.proofs.LineLemmas.{reads_seal}
use Rattle.pcfs_secrets.proofs.lines.read_seal.Goals as goal

pub returns-in-Some : goal.returns-in-Some
returns-in-Some c = IfOk-weaker c.read_key.result _ _ (λ read h. reads_seal c.args.line.now c.in-Some.word.now read c.in-Some.ensures h) c.read_key.ensures
