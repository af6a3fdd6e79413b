-- The pieces of the line follow one another.
use Rattle.std.proofs.Common.{◌++◌, ◌∙◌, codes, decimal, append_assoc}
use Rattle.std.proofs.lemmas.Result.{on_ok_weaker}
use Rattle.generated_script.specs.Lines.{create_line, procap_end}
use Rattle.generated_script.proofs.lines.put_create.Goals as goal

pub returns : goal.returns
unfolding create_line
returns c =
    on_ok_weaker c.put_procap_end.result (λ e. e ∙ rw c.in_ok-put_counted.ensures.ok (append_assoc c.args.out.now (codes "do create #1 f" ++ decimal c.args.number) (procap_end c.args.issue))) c.put_procap_end.ensures
