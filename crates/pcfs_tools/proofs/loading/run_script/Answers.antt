-- If the status is 0, the script was run to its end, and the output has its replies.
use Rattle.std.proofs.Common.{List, ℕ, ap}
use Rattle.std.proofs.lemmas.Result.{IfOk-weaker}
use Rattle.line_text.specs.Lines.{lines_of}
use Rattle.pcfs_ports.specs.MemorySink.{MemorySinkView}
use Rattle.pcfs_tools.specs.Load.{summary_text}
use Rattle.pcfs_tools.proofs.loading.run_script.Goals as goal

pub returns-then-status-eq-DONE : goal.returns-then-status-eq-DONE
returns-then-status-eq-DONE g c =
    IfOk-weaker c.summary.result _ _ (λ line is. (
      _,
      is,
      c.run_bytes-status.ensures _ (ap (λ (s : MemorySinkView). s.held) c.new-output.ensures) c.if-status-eq-DONE.true (ap (λ (b : List ℕ). summary_text (lines_of b) c.run_bytes-status.result.1) c.held.ensures),
    )) c.summary.ensures
