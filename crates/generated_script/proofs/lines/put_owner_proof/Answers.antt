-- The pieces of the line follow one another.
use Rattle.std.proofs.Common.{◌∙◌, append_assoc}
use Rattle.std.proofs.lemmas.Result.{on_ok_weaker}
use Rattle.generated_script.specs.Lines.{owner_proof_line}
use Rattle.generated_script.proofs.lines.put_owner_proof.Goals as goal

pub returns : goal.returns
unfolding owner_proof_line
returns c =
    on_ok_weaker c.put_text.result (λ e. e ∙ rw (c.in_ok-put_counted-2.ensures.ok, c.in_ok-put_counted.ensures.ok, c.in_ok-put_user_goal.ensures) (simp append_assoc)) c.put_text.ensures.ok
