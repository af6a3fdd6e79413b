use Rattle.std.proofs.lemmas.Bool.{false≢true}
use Rattle.bl_syntax.proofs.WordLemmas.{word_refused}
use Rattle.node_rows.specs.Names.{is_name_or_none}
use Rattle.checkpoint_image.proofs.fields.node_name_at.Goals as goal

pub returns-in-None : goal.returns-in-None
returns-in-None c =
    rw c.place.ensures (word_refused 0 64 c.args.input is_name_or_none c.args.bytes.now c.in_ok-name.name.now c.in_ok-name.rest.now c.in_ok-name.ensures (λ e. absurd (false≢true (c.in-None.ensures.named.1 e))))
