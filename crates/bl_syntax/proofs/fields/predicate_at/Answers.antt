use Rattle.std.proofs.lemmas.Bool.{false≢true}
use Rattle.bl_syntax.specs.Names.{is_predicate_name}
use Rattle.bl_syntax.proofs.WordLemmas.{word_refused}
use Rattle.bl_syntax.proofs.fields.predicate_at.Goals as goal

pub returns-in-None : goal.returns-in-None
returns-in-None c =
    rw c.place.ensures (word_refused 1 32 c.args.input is_predicate_name c.args.bytes.now c.in_ok-name.name.now c.in_ok-name.rest.now c.in_ok-name.ensures (λ e. absurd (false≢true (c.in-None.ensures.named.1 e))))
