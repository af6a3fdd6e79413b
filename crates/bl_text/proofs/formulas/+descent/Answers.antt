-- Each level of the grammar reads its parts, and stops where the next of them stops.
use Rattle.std.proofs.Common.{◌≡◌, true, false, sym, refl, arith, rules}
use Rattle.std.proofs.lemmas.Result.{IfOk-weaker, IfErr-weaker}
use Rattle.bl_syntax.specs.Formula.{formula_view}
use Rattle.bl_tokens.specs.declared.faults.TextFault.TheVariants.{NoMemory}
use Rattle.bl_tokens.specs.declared.tokens.Sign.TheVariants as signs
use Rattle.bl_tokens.specs.Tokens.{is_sign}
use Rattle.bl_text.specs.Grammar.{is_saying}
use Rattle.bl_text.specs.Grammar as g
use Rattle.bl_text.specs.FirstFaults as s
use Rattle.bl_text.proofs.ReadLemmas.{passed, stops_at, is_at, is_form, every_quantifies, some_quantifies, formula_ended, lt_true, lt_false, stops_at_interval}
use Rattle.bl_text.proofs.formulas.+descent.Goals as goal

pub for_every-returns-in_err-name-clause-fault : goal.for_every-returns-in_err-name-clause-fault
for_every-returns-in_err-name-clause-fault t c = passed c.from_residual.result c.in_err-name.field-0.0 _ (search rules) (s.in_binder _ _ _ _ (every_quantifies _ c.requires.word) c.in_err-name.ensures.value)

pub for_every-returns-in_err-a-clause-fault : goal.for_every-returns-in_err-a-clause-fault
for_every-returns-in_err-a-clause-fault t c = passed c.from_residual-in_err-a.result c.in_err-a.field-0.0 _ (search rules) (s.in_body _ _ _ _ c.in_ok-name.name c.in_ok-name.sort _ (every_quantifies _ c.requires.word) c.in_ok-name.ensures.value c.in_err-a.ensures.fault)

pub for_every-returns-in_err-every_of-clause-fault : goal.for_every-returns-in_err-every_of-clause-fault
for_every-returns-in_err-every_of-clause-fault t c = passed c.from_residual-in_err-every_of.result NoMemory _ (search rules) (s.no_memory _ _ _ _)

pub for_every-returns-clause-read : goal.for_every-returns-clause-read
for_every-returns-clause-read t c =
    let read = c.in_ok-a.ensures.read in
    record {
      is_text = is_form c.in_ok-every_of.ensures (g.for_every _ _ _ _ _ c.in_ok-name.name c.in_ok-name.sort (formula_view c.in_ok-a.a.value) c.requires.word c.in_ok-name.ensures.value read.is_text);
      ended = read.ended;
      left = omega (arith, read.left, c.in_ok-name.ensures.left);
      within = read.within;
    }

pub for_some-returns-in_err-name-clause-fault : goal.for_some-returns-in_err-name-clause-fault
for_some-returns-in_err-name-clause-fault t c = passed c.from_residual.result c.in_err-name.field-0.0 _ (search rules) (s.in_binder _ _ _ _ (some_quantifies _ c.requires.word) c.in_err-name.ensures.value)

pub for_some-returns-in_err-a-clause-fault : goal.for_some-returns-in_err-a-clause-fault
for_some-returns-in_err-a-clause-fault t c = passed c.from_residual-in_err-a.result c.in_err-a.field-0.0 _ (search rules) (s.in_body _ _ _ _ c.in_ok-name.name c.in_ok-name.sort _ (some_quantifies _ c.requires.word) c.in_ok-name.ensures.value c.in_err-a.ensures.fault)

pub for_some-returns-in_err-some_of-clause-fault : goal.for_some-returns-in_err-some_of-clause-fault
for_some-returns-in_err-some_of-clause-fault t c = passed c.from_residual-in_err-some_of.result NoMemory _ (search rules) (s.no_memory _ _ _ _)

pub for_some-returns-clause-read : goal.for_some-returns-clause-read
for_some-returns-clause-read t c =
    let read = c.in_ok-a.ensures.read in
    record {
      is_text = is_form c.in_ok-some_of.ensures (g.for_some _ _ _ _ _ c.in_ok-name.name c.in_ok-name.sort (formula_view c.in_ok-a.a.value) c.requires.word c.in_ok-name.ensures.value read.is_text);
      ended = read.ended;
      left = omega (arith, read.left, c.in_ok-name.ensures.left);
      within = read.within;
    }

pub implication-returns-in_err-a-clause-fault : goal.implication-returns-in_err-a-clause-fault
implication-returns-in_err-a-clause-fault t c = passed c.from_residual.result c.in_err-a.field-0.0 _ (search rules) (s.in_premise _ _ _ _ c.requires.no_quantifier c.in_err-a.ensures.fault)

pub implication-returns-then-not-is_sign-clause-read : goal.implication-returns-then-not-is_sign-clause-read
implication-returns-then-not-is_sign-clause-read t c =
    let read = c.in_ok-a.ensures.read in
    let none : is_sign signs.Implies c.disjunction.new.here.token ≡ false = search rules in
    record { is_text = g.one_disjunction _ _ _ _ _ c.requires.no_quantifier read.is_text; ended = formula_ended c.disjunction.new.here.token none read.ended; left = read.left; within = read.within }

pub implication-returns-in-Err-clause-fault : goal.implication-returns-in-Err-clause-fault
implication-returns-in-Err-clause-fault t c = s.at_implies _ _ _ c.disjunction.new.here (formula_view c.in_ok-a.a.value) _ c.requires.no_quantifier c.in_ok-a.ensures.read.is_text (let sign : is_sign signs.Implies c.disjunction.new.here.token ≡ true = search rules in sign) (sym c.in-Err.ensures.value)

pub implication-returns-in-Err-formula_at-clause-fault : goal.implication-returns-in-Err-formula_at-clause-fault
implication-returns-in-Err-formula_at-clause-fault t c = s.in_conclusion _ _ _ c.disjunction.new.here (formula_view c.in_ok-a.a.value) _ c.requires.no_quantifier c.in_ok-a.ensures.read.is_text (let sign : is_sign signs.Implies c.disjunction.new.here.token ≡ true = search rules in sign) (sym c.in-Ok.ensures.value) (stops_at c.step_node.ensures.same c.in-Err-formula_at.ensures.fault)

pub implication-returns-in_err-implies_of-in-Ok-formula_at-clause-fault : goal.implication-returns-in_err-implies_of-in-Ok-formula_at-clause-fault
implication-returns-in_err-implies_of-in-Ok-formula_at-clause-fault t c = passed c.from_residual-in_err-implies_of-in-Ok-formula_at.result NoMemory _ (search rules) (s.no_memory _ _ _ _)

pub implication-returns-in_ok-implies_of-in-Ok-formula_at-clause-read : goal.implication-returns-in_ok-implies_of-in-Ok-formula_at-clause-read
implication-returns-in_ok-implies_of-in-Ok-formula_at-clause-read t c =
    let first = c.in_ok-a.ensures.read in
    let read = c.in-Ok-formula_at.ensures.read in
    let sign : is_sign signs.Implies c.disjunction.new.here.token ≡ true = search rules in
    record {
      is_text = is_form c.in_ok-implies_of-in-Ok-formula_at.ensures (g.implication _ _ _ c.disjunction.new.here _ (formula_view c.in_ok-a.a.value) (formula_view c.in-Ok-formula_at.b.value) c.requires.no_quantifier first.is_text sign (sym c.in-Ok.ensures.value) (is_at c.step_node.ensures.same read.is_text));
      ended = read.ended;
      left = omega (arith, first.left, read.left, c.step_node.ensures.left);
      within = read.within;
    }

pub disjunction-returns-in_err-first-clause-fault : goal.disjunction-returns-in_err-first-clause-fault
disjunction-returns-in_err-first-clause-fault t c = passed c.from_residual.result c.in_err-first.field-0.0 _ (search rules) (s.in_first_disjunct _ _ _ _ c.in_err-first.ensures.fault)

pub disjunction-or-init : goal.disjunction-or-init
disjunction-or-init t c =
    let read = c.in_ok-first.ensures.read in
    record { is_text = g.one_conjunction _ _ _ _ _ read.is_text; ended = read.ended; left = read.left; within = read.within }

pub disjunction-returns-in-Err-clause-fault : goal.disjunction-returns-in-Err-clause-fault
disjunction-returns-in-Err-clause-fault t c = s.at_or _ _ _ c.or.here (formula_view c.or.a.value) _ c.or.invariant.is_text (let sign : is_sign signs.Or c.or.here.token ≡ true = search rules in sign) (sym c.in-Err.ensures.value)

pub disjunction-returns-in-Err-conjunction-clause-fault : goal.disjunction-returns-in-Err-conjunction-clause-fault
disjunction-returns-in-Err-conjunction-clause-fault t c = s.in_disjunct _ _ _ c.or.here (formula_view c.or.a.value) _ c.or.invariant.is_text (let sign : is_sign signs.Or c.or.here.token ≡ true = search rules in sign) (sym c.in-Ok.ensures.value) (stops_at c.step_node.ensures.same c.in-Err-conjunction.ensures.fault)

pub disjunction-returns-in_err-a-in-Ok-conjunction-clause-fault : goal.disjunction-returns-in_err-a-in-Ok-conjunction-clause-fault
disjunction-returns-in_err-a-in-Ok-conjunction-clause-fault t c = passed c.from_residual-in_err-a-in-Ok-conjunction.result NoMemory _ (search rules) (s.no_memory _ _ _ _)

pub disjunction-or-preserved : goal.disjunction-or-preserved
disjunction-or-preserved t c =
    let l = c.or in
    let read = c.in-Ok-conjunction.ensures.read in
    let sign : is_sign signs.Or l.here.token ≡ true = search rules in
    record {
      is_text = is_form c.in_ok-a-in-Ok-conjunction.ensures (g.or_further _ _ _ l.here _ (formula_view l.a.value) (formula_view c.in-Ok-conjunction.b.value) l.invariant.is_text sign (sym c.in-Ok.ensures.value) (is_at c.step_node.ensures.same read.is_text));
      ended = read.ended;
      left = omega (arith, l.invariant.left, read.left, c.step_node.ensures.left);
      within = read.within;
    }

pub conjunction-returns-in_err-first-clause-fault : goal.conjunction-returns-in_err-first-clause-fault
conjunction-returns-in_err-first-clause-fault t c = passed c.from_residual.result c.in_err-first.field-0.0 _ (search rules) (s.in_first_conjunct _ _ _ _ c.in_err-first.ensures.fault)

pub conjunction-and-init : goal.conjunction-and-init
conjunction-and-init t c =
    let read = c.in_ok-first.ensures.read in
    record { is_text = g.one_unary _ _ _ _ _ read.is_text; ended = read.ended; left = read.left; within = read.within }

pub conjunction-returns-in-Err-clause-fault : goal.conjunction-returns-in-Err-clause-fault
conjunction-returns-in-Err-clause-fault t c = s.at_and _ _ _ c.and.here (formula_view c.and.a.value) _ c.and.invariant.is_text (let sign : is_sign signs.And c.and.here.token ≡ true = search rules in sign) (sym c.in-Err.ensures.value)

pub conjunction-returns-in-Err-unary-clause-fault : goal.conjunction-returns-in-Err-unary-clause-fault
conjunction-returns-in-Err-unary-clause-fault t c = s.in_conjunct _ _ _ c.and.here (formula_view c.and.a.value) _ c.and.invariant.is_text (let sign : is_sign signs.And c.and.here.token ≡ true = search rules in sign) (sym c.in-Ok.ensures.value) (stops_at c.step_node.ensures.same c.in-Err-unary.ensures.fault)

pub conjunction-returns-in_err-a-in-Ok-unary-clause-fault : goal.conjunction-returns-in_err-a-in-Ok-unary-clause-fault
conjunction-returns-in_err-a-in-Ok-unary-clause-fault t c = passed c.from_residual-in_err-a-in-Ok-unary.result NoMemory _ (search rules) (s.no_memory _ _ _ _)

pub conjunction-and-preserved : goal.conjunction-and-preserved
conjunction-and-preserved t c =
    let l = c.and in
    let read = c.in-Ok-unary.ensures.read in
    let sign : is_sign signs.And l.here.token ≡ true = search rules in
    record {
      is_text = is_form c.in_ok-a-in-Ok-unary.ensures (g.and_further _ _ _ l.here _ (formula_view l.a.value) (formula_view c.in-Ok-unary.b.value) l.invariant.is_text sign (sym c.in-Ok.ensures.value) (is_at c.step_node.ensures.same read.is_text));
      ended = read.ended;
      left = omega (arith, l.invariant.left, read.left, c.step_node.ensures.left);
      within = read.within;
    }

pub unary-returns-then-is_sign-clause-read : goal.unary-returns-then-is_sign-clause-read
unary-returns-then-is_sign-clause-read t c =
    let none : is_saying c.args.text.now c.args.here.now ≡ false = search rules in
    IfOk-weaker c.grouped.result _ _ (λ f h. record { is_text = g.one_postfix _ _ _ _ _ none h.is_text; ended = h.ended; left = h.left; within = h.within }) c.grouped.ensures.read

pub unary-returns-then-is_sign-clause-fault : goal.unary-returns-then-is_sign-clause-fault
unary-returns-then-is_sign-clause-fault t c =
    let none : is_saying c.args.text.now c.args.here.now ≡ false = search rules in
    IfErr-weaker c.grouped.result _ _ (λ e h. s.in_postfix _ _ _ _ none h) c.grouped.ensures.fault

pub unary-returns-else-is_sign-clause-read : goal.unary-returns-else-is_sign-clause-read
unary-returns-else-is_sign-clause-read t c =
    let none : is_saying c.args.text.now c.args.here.now ≡ false = search rules in
    IfOk-weaker c.postfix.result _ _ (λ f h. let read = h c.args.depth in record { is_text = g.one_postfix _ _ _ _ _ none read.is_text; ended = read.ended; left = read.left; within = read.within }) c.postfix.ensures.read

pub unary-returns-else-is_sign-clause-fault : goal.unary-returns-else-is_sign-clause-fault
unary-returns-else-is_sign-clause-fault t c =
    let none : is_saying c.args.text.now c.args.here.now ≡ false = search rules in
    IfErr-weaker c.postfix.result _ _ (λ e h. s.in_postfix _ _ _ _ none (h c.args.depth)) c.postfix.ensures.fault

pub says_formula-returns-in_err-who-clause-fault : goal.says_formula-returns-in_err-who-clause-fault
says_formula-returns-in_err-who-clause-fault t c = passed c.from_residual.result c.in_err-who.field-0.0 _ (search rules) (s.in_speaker _ _ _ _ c.requires.saying c.in_err-who.ensures.value)

pub says_formula-returns-in_err-a-clause-fault : goal.says_formula-returns-in_err-a-clause-fault
says_formula-returns-in_err-a-clause-fault t c = passed c.from_residual-in_err-a.result c.in_err-a.field-0.0 _ (search rules) (s.in_said _ _ _ _ c.in_ok-who.who _ c.requires.saying c.in_ok-who.ensures.value c.in_err-a.ensures.fault)

pub says_formula-returns-in_err-says_of-clause-fault : goal.says_formula-returns-in_err-says_of-clause-fault
says_formula-returns-in_err-says_of-clause-fault t c = passed c.from_residual-in_err-says_of.result NoMemory _ (search rules) (s.no_memory _ _ _ _)

pub says_formula-returns-clause-read : goal.says_formula-returns-clause-read
says_formula-returns-clause-read t c =
    let read = c.in_ok-a.ensures.read in
    record {
      is_text = is_form c.in_ok-says_of.ensures (g.saying _ _ _ _ _ c.in_ok-who.who (formula_view c.in_ok-a.a.value) c.requires.saying c.in_ok-who.ensures.value read.is_text);
      ended = read.ended;
      left = omega (arith, read.left, c.in_ok-who.ensures.left);
      within = read.within;
    }

pub grouped-returns-in_err-first-clause-fault : goal.grouped-returns-in_err-first-clause-fault
grouped-returns-in_err-first-clause-fault t c = passed c.from_residual.result c.in_err-first.field-0.0 _ (search rules) (s.in_primary _ _ _ _ c.in_err-first.ensures.fault)

pub grouped-at-init : goal.grouped-at-init
grouped-at-init t c =
    let read = c.in_ok-first.ensures.read in
    record { is_text = g.one_primary _ _ _ _ _ read.is_text; ended = refl; left = read.left; within = read.within }

pub grouped-returns-in_err-a-clause-fault : goal.grouped-returns-in_err-a-clause-fault
grouped-returns-in_err-a-clause-fault t c = passed c.from_residual-in_err-a.result c.in_err-a.field-0.0 _ (search rules) (stops_at_interval c.at.invariant.is_text (let sign : is_sign signs.At c.at.here.token ≡ true = search rules in sign) c.in_err-a.ensures.fault)

pub grouped-at-preserved : goal.grouped-at-preserved
grouped-at-preserved t c =
    let l = c.at in
    let read = c.in_ok-a.ensures.read in
    let sign : is_sign signs.At l.here.token ≡ true = search rules in
    record {
      is_text = is_form read.value (g.on_interval _ _ _ l.here c.on_interval.new.here (formula_view l.a.value) read.from read.to l.invariant.is_text sign read.interval_is);
      ended = refl;
      left = omega (arith, l.invariant.left, read.left);
      within = read.within;
    }

pub group-returns-then-depth-ge-MOST_FORMULA_NODES-clause-fault : goal.group-returns-then-depth-ge-MOST_FORMULA_NODES-clause-fault
group-returns-then-depth-ge-MOST_FORMULA_NODES-clause-fault t c = s.too_deep _ _ _ c.requires.open (lt_false c.args.depth 512 (omega arith))

pub group-returns-in_err-a-clause-fault : goal.group-returns-in_err-a-clause-fault
group-returns-in_err-a-clause-fault t c = passed c.from_residual.result c.in_err-a.field-0.0 _ (search rules) (s.in_group _ _ _ _ c.requires.open (lt_true c.args.depth 512 (omega arith)) (stops_at c.step_into.ensures.same c.in_err-a.ensures.fault))

pub group-returns-in-Err-clause-fault : goal.group-returns-in-Err-clause-fault
group-returns-in-Err-clause-fault t c = s.not_closed _ _ _ _ (formula_view c.in_ok-a.a.value) _ c.requires.open (lt_true c.args.depth 512 (omega arith)) (is_at c.step_into.ensures.same c.in_ok-a.ensures.read.is_text) c.in_ok-a.ensures.read.ended c.in-Err.ensures.value

pub group-returns-in-Ok-clause-read : goal.group-returns-in-Ok-clause-read
group-returns-in-Ok-clause-read t c =
    let read = c.in_ok-a.ensures.read in
    record {
      is_text = g.group _ _ _ _ _ (formula_view c.in_ok-a.a.value) c.requires.open (lt_true c.args.depth 512 (omega arith)) (is_at c.step_into.ensures.same read.is_text) c.in-Ok.ensures.value;
      ended = refl;
      left = omega (arith, read.left, c.step_into.ensures.left, c.in-Ok.ensures.left);
      within = c.in-Ok.ensures.within;
    }
