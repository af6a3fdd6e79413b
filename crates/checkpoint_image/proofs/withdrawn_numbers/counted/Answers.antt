use Rattle.std.proofs.Common.{List, ap, arith, length, sym, ◌+◌, ◌≡◌, ◌∙◌, ℕ}
use Rattle.checkpoint_image.proofs.WithdrawnLemmas.{no_number, number_of}
use Rattle.checkpoint_image.proofs.withdrawn_numbers.counted.Goals as goal

pub returns-then-is_withdrawn : goal.returns-then-is_withdrawn
returns-then-is_withdrawn c = ap (λ (ns : List ℕ). c.args.count + length ns) (sym (number_of 0 c.args.entry.now (sym c.is_withdrawn.ensures ∙ c.if-is_withdrawn.true)))

pub returns-else-is_withdrawn : goal.returns-else-is_withdrawn
returns-else-is_withdrawn c =
    let same : c.args.count ≡ c.args.count + 0 = omega arith in
    same ∙ ap (λ (ns : List ℕ). c.args.count + length ns) (sym (no_number 0 c.args.entry.now (sym c.is_withdrawn.ensures ∙ c.if-is_withdrawn.false)))
