-- A text has no quote, so the first quote after it closes it.
use Rattle.std.proofs.Common.{◌++◌, [], ◌∷◌, refl}
use Rattle.std.proofs.lemmas.Bool.{false≢true}
use Rattle.line_words.proofs.GrammarLemmas.{only_text, reads_text}
use Rattle.line_words.proofs.named.quoted_text.Goals as goal

pub returns-in-None : goal.returns-in-None
returns-in-None c text h = c.in-None.ensures (text ++ 34 ∷ []) h.word_is

pub returns-then-not-is_quote : goal.returns-then-not-is_quote
returns-then-not-is_quote c text h =
    let one = only_text c.args.word.now c.in-Some.behind.now _ _ c.in-Some.ensures c.split_word.ensures.only text h in
    false≢true (c.if-not-is_quote.ensures.1 one.1)

pub returns-else-not-is_quote : goal.returns-else-not-is_quote
returns-else-not-is_quote c =
    reads_text c.args.word.now c.in-Some.behind.now _ _ c.new.result c.in-Some.ensures c.split_word.ensures.parts (c.if-not-is_quote.ensures.0 refl) c.split_word.ensures.only c.new.ensures.fits c.new.ensures.same
