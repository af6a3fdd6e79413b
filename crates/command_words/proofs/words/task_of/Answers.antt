-- The words are taken, or they are not.
use Rattle.std.proofs.Common.{ap, ap₂, map, sym, ◌∙◌}
use Rattle.std.specs.String.{string_bytes}
use Rattle.clap.specs.Words.{fault_of, is_simple, is_simple_and_free, subcommand_of, subcommand_rows_of}
use Rattle.command_words.proofs.TaskLemmas.{asks_found, asks_nothing}
use Rattle.command_words.proofs.words.task_of.Goals as goal

pub returns-in-Ok-try_get_matches_from : goal.returns-in-Ok-try_get_matches_from
returns-in-Ok-try_get_matches_from c =
    let texts_are = ap (map string_bytes) c.as_slice.ensures.value in
    asks_found c.args.words.now.items (subcommand_rows_of c.in-Ok-try_get_matches_from.matches) c.task_in.result
    (sym (ap₂ fault_of c.in-Ok.ensures texts_are) ∙ c.in-Ok-try_get_matches_from.ensures.kinds (ap is_simple_and_free c.in-Ok.ensures))
    ((c.in-Ok-try_get_matches_from.ensures.matches (ap is_simple c.in-Ok.ensures)).1 ∙ ap₂ subcommand_of c.in-Ok.ensures texts_are) c.task_in.ensures

pub returns : goal.returns
returns c =
    asks_nothing c.args.words.now.items c.in-Err-try_get_matches_from.error _ (ap₂ fault_of c.in-Ok.ensures (ap (map string_bytes) c.as_slice.ensures.value)) (c.in-Err-try_get_matches_from.ensures.kinds (ap is_simple_and_free c.in-Ok.ensures))
    (λ is. c.in_default.not-OutOfMemory (c.kind.ensures ∙ is))
