-- The first word is read, or is the first bad one; then come the others.
use Rattle.line_words.proofs.ReadingLemmas.{first_bad, words_missing, words_more, fault_later, by_both}
use Rattle.line_words.proofs.reading.+read_words.Goals as goal

pub returns-then-not-branch : goal.returns-then-not-branch
returns-then-not-branch t c =
    first_bad c.args.whole c.args.is_written_out c.args.kinds.now c.args.behind.now c.first_word.result.0.now c.kind_in.result c.in-len1-up.len_at_least c.in-len1-up-behind.len_at_least c.first_word.ensures.word c.kind_in.ensures (c.in_ok-read-in-len1-up-behind.ensures.outside c.if-not-branch.true)

pub returns-in-empty-behind : goal.returns-in-empty-behind
returns-in-empty-behind t c = words_missing c.args.whole c.args.is_written_out c.args.kinds.now c.args.behind.now c.in-len1-up.len_at_least c.in-empty-behind.len_below

pub returns-else-not-branch : goal.returns-else-not-branch
returns-else-not-branch t c =
    by_both c.read_words.result _ _ _ _
    (λ rest h. words_more c.args.is_written_out c.args.kinds.now c.args.behind.now c.first_word.result.0.now c.first_word.result.1.now c.kind_in.result c.args.arguments.now c.read.new.self c.read_words.new.arguments rest.now c.in-len1-up.len_at_least c.in-len1-up-behind.len_at_least c.first_word.ensures.word c.first_word.ensures.behind c.kind_in.ensures (c.in_ok-read-in-len1-up-behind.ensures.set c.if-not-branch.false) h)
    (λ fault h. fault_later c.args.whole c.args.is_written_out c.args.kinds.now c.args.behind.now c.first_word.result.0.now c.first_word.result.1.now c.kind_in.result c.args.arguments.now c.read.new.self fault c.in-len1-up.len_at_least c.in-len1-up-behind.len_at_least c.first_word.ensures.word c.first_word.ensures.behind c.kind_in.ensures (c.in_ok-read-in-len1-up-behind.ensures.set c.if-not-branch.false) h)
    c.read_words.ensures
