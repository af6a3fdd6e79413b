-- Where there is no line, the first is bad.
use Rattle.pcfs_secrets.proofs.FileLemmas.{nothing_is_bad}
use Rattle.pcfs_secrets.proofs.secrets.Secrets.parse.Goals as goal

pub returns-in-None : goal.returns-in-None
returns-in-None c = nothing_is_bad c.args.text.now c.in-None.ensures.lines
