-- A file's line says what its words say.
use Rattle.mode_policy.proofs.LinePartLemmas.{no_file_line}
use Rattle.mode_policy.proofs.lines.file_entry.Goals as goal

pub returns-in-None : goal.returns-in-None
returns-in-None c = λ word is e h. no_file_line c.args.words.now word c.args.node c.in-None.ensures is e h
