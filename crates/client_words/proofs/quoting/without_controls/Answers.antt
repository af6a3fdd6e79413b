-- The letters of the text, each as a plain one.
use Rattle.std.proofs.Common.{rules}
use Rattle.std.proofs.lemmas.Iterator.{text_from_collect, YieldsList-from_map, YieldsList-from_chars}
use Rattle.std.proofs.lemmas.Str.{scalars-chars}
use Rattle.std.specs.Str.{chars}
use Rattle.client_words.specs.PlainLetters.{plain_letter}
use Rattle.client_words.proofs.PlainLemmas.{letters_of, one_line_of}
use Rattle.client_words.proofs.quoting.without_controls.Goals as goal

pub returns-clause-letters : goal.returns-clause-letters
returns-clause-letters c =
    letters_of c.collect.result (chars c.args.text.now) (scalars-chars c.args.text.now c.utf8.text)
    (text_from_collect _ c.collect.ensures.ran (YieldsList-from_map _ plain_letter (YieldsList-from_chars c.args.text.now c.utf8.text (cc)) (cc) (λ x r q k. search rules)))

pub returns-clause-one_line : goal.returns-clause-one_line
returns-clause-one_line c =
    one_line_of c.collect.result (chars c.args.text.now) (scalars-chars c.args.text.now c.utf8.text)
    (text_from_collect _ c.collect.ensures.ran (YieldsList-from_map _ plain_letter (YieldsList-from_chars c.args.text.now c.utf8.text (cc)) (cc) (λ x r q k. search rules)))
