-- The line falls into the literal, a name and a word in one way.
use Rattle.std.proofs.Common.{◌++◌, ◌∷◌, sym, ◌∙◌}
use Rattle.std.proofs.lemmas.List.{append_cancel_left}
use Rattle.line_text.proofs.WordLemmas.{HasNo-principal}
use Rattle.pcfs_secrets.proofs.lines.name_and_word.Goals as goal

pub returns-clause-only : goal.returns-clause-only
returns-clause-only c who word named same =
    c.word_before.ensures.only who word (HasNo-principal who named) (append_cancel_left c.args.literal.now c.in_ok-rest.rest.now (who ++ 32 ∷ word) (sym c.in_ok-rest.ensures ∙ same))
