-- The line does not begin with the word, is the word alone, or goes on with another byte than a space.
use Rattle.std.proofs.Common.{ap, length, sym, ◌∙◌}
use Rattle.std.proofs.lemmas.Bool.{eqb-false, eqb-true}
use Rattle.root_signing.proofs.LineLemmas.{empty_of, head_alone, head_joined, head_missing}
use Rattle.root_signing.proofs.reading.after_word.Goals as goal

pub returns-in_default : goal.returns-in_default
returns-in_default c = head_missing c.args.word.now c.args.line.now c.in_default.ensures

pub returns-then-is_empty : goal.returns-then-is_empty
returns-then-is_empty c = head_alone c.args.word.now c.args.line.now c.in-Some.behind.now c.in-Some.ensures (empty_of c.in-Some.behind.now (eqb-true _ _ (sym c.is_empty.ensures ∙ c.if-is_empty.true)))

pub returns-in-None : goal.returns-in-None
returns-in-None c =
    head_joined c.args.word.now c.args.line.now c.in-Some.behind.now c.in-Some.ensures (λ none. eqb-false (length c.in-Some.behind.now) 0 (sym c.is_empty.ensures ∙ c.if-is_empty.false) (ap length none)) c.in-None.ensures
