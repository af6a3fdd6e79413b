-- The first word ends where its length says.
use Rattle.std.proofs.Common.{sym, ap, ◌∙◌, take, drop}
use Rattle.line_words.specs.Cutting.{Cut}
use Rattle.line_words.proofs.CutLemmas.{first_cut-len}
use Rattle.line_words.proofs.cutting.first_word.Goals as goal

pub returns-clause-word : goal.returns-clause-word
returns-clause-word c =
    c.split_at.ensures.front ∙ ap (λ n. take n c.args.line.now) c.first_len.ensures.same ∙ sym (ap (λ (cut : Cut). cut.word) (first_cut-len c.args.line.now))

pub returns-clause-behind : goal.returns-clause-behind
returns-clause-behind c =
    c.split_at.ensures.back ∙ ap (λ n. drop n c.args.line.now) c.first_len.ensures.same ∙ sym (ap (λ (cut : Cut). cut.behind) (first_cut-len c.args.line.now))
