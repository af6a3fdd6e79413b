-- The line falls into its first word and the rest in one way.
use Rattle.std.proofs.Common.{sym, ◌∙◌, not, ap, subst, take, arith}
use Rattle.std.specs.Prelude.{◌==◌}
use Rattle.std.proofs.lemmas.List.Sums.{prefix_len-le-length}
use Rattle.line_text.specs.Words.{HasNo}
use Rattle.line_text.proofs.WordLemmas.{IsSplit-at_word, HasNo-front}
use Rattle.line_text.proofs.words.split_word.Goals as goal

pub split_at-requires : goal.split_at-requires
split_at-requires c = omega (arith, c.word_len.ensures, prefix_len-le-length (λ byte. not (byte == c.args.stop)) c.args.line.now)

pub returns-clause-one_word : goal.returns-clause-one_word
returns-clause-one_word c =
    subst (HasNo c.args.stop) (sym (c.split_at.ensures.front ∙ ap (λ n. take n c.args.line.now) c.word_len.ensures)) (HasNo-front c.args.stop c.args.line.now)

pub returns-clause-only : goal.returns-clause-only
returns-clause-only c word behind h ends same =
    let split = IsSplit-at_word c.args.stop c.args.line.now word behind c.word_len.result c.word_len.ensures same h ends in
    (c.split_at.ensures.front ∙ split.front, c.split_at.ensures.back ∙ split.back)
