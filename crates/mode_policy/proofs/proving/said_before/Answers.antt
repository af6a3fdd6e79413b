-- Each file says the classes of all principals and its rules.
use Rattle.std.proofs.Common.{◌≡◌, ◌<◌, ◌+◌, ℕ, suc, List, length, take, refl, ap, ◌∙◌, arith}
use Rattle.mode_policy.specs.Statements.{said_of_all}
use Rattle.mode_policy.proofs.NumberLemmas.{who_within, length-said_of}
use Rattle.mode_policy.proofs.StatingLemmas.{length_after, length_within}
use Rattle.mode_policy.proofs.proving.said_before.Goals as goal

pub loop-before-init : goal.loop-before-init
loop-before-init c = (refl, omega arith)

pub returns-then-principals-gt-MOST_STATEMENTS : goal.returns-then-principals-gt-MOST_STATEMENTS
returns-then-principals-gt-MOST_STATEMENTS c =
    let t = c.args.table.now in
    let some : 0 < length c.args.table.now.files = omega (arith, c.loop-before-test.true, c.requires) in
    let sizes : length c.principals-principals.result.now ≡ length c.args.table.now.who = ap (λ (l : List (List ℕ)). length l) c.principals-principals.ensures in
    omega (arith, c.if-principals-gt-MOST_STATEMENTS.true, who_within t t.files some, sizes)

pub overflow_add-count-in-loop-before : goal.overflow_add-count-in-loop-before
overflow_add-count-in-loop-before c = omega (arith, c.loop-before.invariant.1, c.if-principals-gt-MOST_STATEMENTS.false, c.rule_count.ensures.small)

pub returns-then-count-gt-MOST_STATEMENTS : goal.returns-then-count-gt-MOST_STATEMENTS
returns-then-count-gt-MOST_STATEMENTS c =
    let t = c.args.table.now in
    let f = c.file.result in
    let sizes : length c.principals-principals.result.now ≡ length c.args.table.now.who = ap (λ (l : List (List ℕ)). length l) c.principals-principals.ensures in
    omega (
      arith,
      c.if-count-gt-MOST_STATEMENTS.true,
      c.loop-before.invariant.0,
      length_after t t.files c.loop-before.before f c.file.ensures,
      length_within t (suc c.loop-before.before) t.files,
      length-said_of t f,
      c.rule_count.ensures.count,
      sizes,
    )

pub loop-before-preserved : goal.loop-before-preserved
loop-before-preserved c =
    let t = c.args.table.now in
    let f = c.file.result in
    let sizes : length c.principals-principals.result.now ≡ length c.args.table.now.who = ap (λ (l : List (List ℕ)). length l) c.principals-principals.ensures in
    let next : suc c.loop-before.before ≡ c.loop-before.before + 1 = omega arith in
    let same : length (said_of_all c.args.table.now (take (suc c.loop-before.before) c.args.table.now.files)) ≡ length (said_of_all c.args.table.now (take (c.loop-before.before + 1) c.args.table.now.files)) =
    ap (λ (n : ℕ). length (said_of_all c.args.table.now (take n c.args.table.now.files))) next in (
      omega (arith, same, c.loop-before.invariant.0, length_after t t.files c.loop-before.before f c.file.ensures, length-said_of t f, c.rule_count.ensures.count, sizes),
      omega (arith, c.if-count-gt-MOST_STATEMENTS.false),
    )

pub returns : goal.returns
returns c =
    let at_end : c.loop-before.before ≡ c.args.place = omega (arith, c.loop-before-test.false, c.loop-before.auto.before-end) in
    (c.loop-before.invariant.0 ∙ ap (λ (n : ℕ). length (said_of_all c.args.table.now (take n c.args.table.now.files))) at_end, c.loop-before.invariant.1)
