use Rattle.std.proofs.lemmas.Bool.{false≢true}
use Rattle.bl_syntax.proofs.WordLemmas.{word_refused}
use Rattle.checkpoint_image.specs.NodeReading.{is_name_after}
use Rattle.checkpoint_image.proofs.fields.attribute_name_at.Goals as goal

pub returns-in-None : goal.returns-in-None
returns-in-None c =
    rw c.place.ensures (word_refused 1 64 c.args.input (is_name_after c.args.previous.now) c.args.bytes.now c.in_ok-name.name.now c.in_ok-name.rest.now c.in_ok-name.ensures (λ e. absurd (false≢true (c.in-None.ensures.named.1 e))))
