-- The script ends, and its last line is written.
use Rattle.pcfs_tools.proofs.StatusLemmas.{AnswersInput-told}
use Rattle.pcfs_tools.proofs.answering.run_over.Goals as goal

pub returns : goal.returns
returns g c = (
  c.script_session-end.ensures.ends.0,
  AnswersInput-told g.D.Disk.clock g.D.Disk.left_since g.D.Disk.image g.D.Disk.faults _ _ _ _ _ _ _ _ _ _ _ _ _ _ _ c.script_session-end.ensures.ends.1 c.script_session-end.ensures.never_falls
      c.script_session-end.ensures.steady c.script_session-end.ensures.read_failed c.script_session-end.ensures.write_failed c.write_end.ensures.untouched c.write_end.ensures.tells,
)
