-- Its first word is wrong, the number of its words, or the seed; or it gives one.
use Rattle.std.proofs.Common.{sym, ◌∙◌}
use Rattle.std.proofs.lemmas.Bool.{eqb-false, eqb-true}
use Rattle.root_signing.proofs.LineLemmas.{has_seed_word, many_words, no_seed_word, unread_head}
use Rattle.root_signing.proofs.reading.read_seed.Goals as goal

pub returns-in-Err : goal.returns-in-Err
returns-in-Err c = unread_head c.args.line.now c.in-Err.fault c.in-Err.ensures

pub returns-then-not-is_empty : goal.returns-then-not-is_empty
returns-then-not-is_empty c =
    many_words c.args.line.now c.in-Ok.rest.now _ c.in-Ok.ensures c.first_word.ensures.behind (eqb-false _ _ (sym c.is_empty.ensures ∙ c.if-not-is_empty.true))

pub returns-in-Ok-Some : goal.returns-in-Ok-Some
returns-in-Ok-Some c =
    has_seed_word c.args.line.now c.in-Ok.rest.now _ _ c.in-Ok-Some.seed c.in-Ok.ensures c.first_word.ensures.word c.first_word.ensures.behind (eqb-true _ _ (sym c.is_empty.ensures ∙ c.if-not-is_empty.false))
    (rw c.in-Ok-Some.field-0-is at c.in-Ok-Some.ensures)

pub returns-in-Ok-None : goal.returns-in-Ok-None
returns-in-Ok-None c =
    no_seed_word c.args.line.now c.in-Ok.rest.now _ _ c.in-Ok.ensures c.first_word.ensures.word c.first_word.ensures.behind (eqb-true _ _ (sym c.is_empty.ensures ∙ c.if-not-is_empty.false))
    (rw c.in-Ok-None.field-0-is at c.in-Ok-None.ensures)
