-- The words are of no file if a part is of none.
use Rattle.std.proofs.Common.{◌∷◌, ◌++◌}
use Rattle.std.proofs.lemmas.Bool.{false≢true}
use Rattle.line_text.proofs.WordLemmas.{HasNo-principal}
use Rattle.mode_policy.proofs.LinePartLemmas.{IsCut-twice, no_second_cut, no_owner, no_group, no_modes}
use Rattle.mode_policy.proofs.lines.owned.Goals as goal

pub returns-in_default : goal.returns-in_default
returns-in_default c = λ o g m h. c.in_default.ensures.only o (g ++ 32 ∷ h.bits) (HasNo-principal o h.owner_named) h.words_are

pub returns-in_default-word_before : goal.returns-in_default-word_before
returns-in_default-word_before c =
    no_second_cut c.args.words.now c.in-Some.first.now c.in-Some.behind.now c.in-Some.ensures.one_word c.in-Some.ensures.found
    (λ g bits unbroken is. c.in_default-word_before.ensures.only g bits unbroken is)

pub returns-in_default-new : goal.returns-in_default-new
returns-in_default-new c =
    let cut = IsCut-twice c.args.words.now c.in-Some.first.now c.in-Some.behind.now c.in-Some-word_before.second.now c.in-Some-word_before.bits.now c.in-Some.ensures.one_word
    c.in-Some-word_before.ensures.one_word c.in-Some.ensures.found c.in-Some-word_before.ensures.found in
    no_owner c.args.words.now c.in-Some.first.now c.in-Some-word_before.second.now c.in-Some-word_before.bits.now cut (λ h. false≢true (c.in_default-new.ensures.named.1 h))

pub returns-in_default-new-2 : goal.returns-in_default-new-2
returns-in_default-new-2 c =
    let cut = IsCut-twice c.args.words.now c.in-Some.first.now c.in-Some.behind.now c.in-Some-word_before.second.now c.in-Some-word_before.bits.now c.in-Some.ensures.one_word
    c.in-Some-word_before.ensures.one_word c.in-Some.ensures.found c.in-Some-word_before.ensures.found in
    no_group c.args.words.now c.in-Some.first.now c.in-Some-word_before.second.now c.in-Some-word_before.bits.now cut (λ h. false≢true (c.in_default-new-2.ensures.named.1 h))

pub returns-in_default-modes_of : goal.returns-in_default-modes_of
returns-in_default-modes_of c =
    let cut = IsCut-twice c.args.words.now c.in-Some.first.now c.in-Some.behind.now c.in-Some-word_before.second.now c.in-Some-word_before.bits.now c.in-Some.ensures.one_word
    c.in-Some-word_before.ensures.one_word c.in-Some.ensures.found c.in-Some-word_before.ensures.found in
    no_modes c.args.words.now c.in-Some.first.now c.in-Some-word_before.second.now c.in-Some-word_before.bits.now cut c.in_default-modes_of.ensures
