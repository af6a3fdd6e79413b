-- The word has one list of numbers.
use Rattle.std.proofs.Common.{◌≡◌, ◌++◌, true, refl, sym, ap, subst, ◌∙◌, rules}
use Rattle.std.proofs.lemmas.Bool.{false≢true}
use Rattle.bl_syntax.specs.Citable.{AreCitable}
use Rattle.line_words.proofs.CitedLemmas.{AreJoined-same}
use Rattle.line_words.proofs.cited.cited_numbers.Goals as goal

pub returns-then-not-are_citable : goal.returns-then-not-are_citable
returns-then-not-are_citable c numbers cited =
    let all : c.in_ok-read_numbers.field-0 ≡ true = search rules in
    let added = c.in_ok-read_numbers.ensures.added all in
    let one : numbers ≡ added.numbers = AreJoined-same cited.joined c.args.word.now added.numbers refl added.joined in
    let kept : c.as_slice.result.now ≡ numbers = c.as_slice.ensures ∙ added.after_is ∙ ap (λ l. l ++ added.numbers) c.new-numbers.ensures ∙ sym one in
    false≢true (c.if-not-are_citable.ensures.1 (subst AreCitable (sym kept) cited.citable))
