-- The words are not two names if a part is none.
use Rattle.std.proofs.lemmas.Bool.{false≢true}
use Rattle.line_text.proofs.WordLemmas.{HasNo-principal}
use Rattle.mode_policy.proofs.LinePartLemmas.{no_first_name, no_second_name}
use Rattle.mode_policy.proofs.lines.two_names.Goals as goal

pub returns-in_default : goal.returns-in_default
returns-in_default c = λ a b h. c.in_default.ensures.only a b (HasNo-principal a h.first_named) h.words_are

pub returns-in_default-new : goal.returns-in_default-new
returns-in_default-new c =
    no_first_name c.args.words.now c.in-Some.first.now c.in-Some.second.now c.in-Some.ensures.one_word c.in-Some.ensures.found (λ h. false≢true (c.in_default-new.ensures.named.1 h))

pub returns-in_default-new-2 : goal.returns-in_default-new-2
returns-in_default-new-2 c =
    no_second_name c.args.words.now c.in-Some.first.now c.in-Some.second.now c.in-Some.ensures.one_word c.in-Some.ensures.found (λ h. false≢true (c.in_default-new-2.ensures.named.1 h))
