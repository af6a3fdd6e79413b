-- The two statements that are cited, by their numbers, and the proof from them.
use Rattle.std.proofs.Common.{◌≡◌, ◌≤◌, ◌+◌, ℕ, true, Some, List, length, sym, ap, ◌∙◌, subst, arith}
use Rattle.std.specs.List.{slice_get}
use Rattle.std.proofs.lemmas.Bool.{false≢true}
use Rattle.std.proofs.lemmas.Option.{slice_get_within}
use Rattle.mode_policy.specs.declared.modes.Class.{Class}
use Rattle.mode_policy.specs.declared.proving.ModeProof.{ModeProof}
use Rattle.mode_policy.specs.Allowed.{class_of}
use Rattle.mode_policy.specs.Modes.{digit_of, permits}
use Rattle.mode_policy.specs.Statements.{rule_said, rules_of, said_of_all}
use Rattle.mode_policy.proofs.AllowsLemmas.{by_digit}
use Rattle.mode_policy.proofs.NumberLemmas.{all_few, is_proof}
use Rattle.mode_policy.proofs.proving.proof_of.Goals as goal

pub returns-then-not-permits : goal.returns-then-not-permits
returns-then-not-permits c = λ a.
    let digit : c.digit.result ≡ digit_of c.file-f.result.modes (class_of c.args.table.now c.file-f.result c.args.who.now) =
    c.digit.ensures ∙ ap (λ (k : Class). digit_of c.file-f.result.modes k) c.class_of-class.ensures in
    let permitted : permits (digit_of c.file-f.result.modes (class_of c.args.table.now c.file-f.result c.args.who.now)) c.args.perm ≡ true =
    by_digit c.args.table.now c.args.who.now c.args.file c.args.perm c.in-Some-find_file.file_place c.in-Some-find_file.ensures c.file-f.result c.file-f.ensures a in
    absurd (false≢true (sym c.if-not-permits.true ∙ c.permits.ensures ∙ ap (λ (d : ℕ). permits d c.args.perm) digit ∙ permitted))

pub said_before-requires-2 : goal.said_before-requires-2
said_before-requires-2 c =
    omega (arith, slice_get_within c.args.table.now.files c.in-Some-find_file.file_place c.file-f.result c.file-f.ensures)

pub returns : goal.returns
returns c =
    let t = c.args.table.now in
    let f = c.file-f.result in
    let digit : c.digit.result ≡ digit_of c.file-f.result.modes (class_of c.args.table.now c.file-f.result c.args.who.now) =
    c.digit.ensures ∙ ap (λ (k : Class). digit_of c.file-f.result.modes k) c.class_of-class.ensures in
    let permitted : permits (digit_of c.file-f.result.modes (class_of c.args.table.now c.file-f.result c.args.who.now)) c.args.perm ≡ true =
    sym (ap (λ (d : ℕ). permits d c.args.perm) digit) ∙ sym c.permits.ensures ∙ c.if-not-permits.false in
    let by_class : permits (digit_of c.file-f.result.modes c.class_of-class.result) c.args.perm ≡ true =
    subst (λ (k : Class). permits (digit_of c.file-f.result.modes k) c.args.perm ≡ true) (sym c.class_of-class.ensures) permitted in
    let rule : slice_get (rules_of c.file-f.result) c.rule_place.result ≡ Some (rule_said c.file-f.result.node c.file-f.result.owner (class_of c.args.table.now c.file-f.result c.args.who.now) c.args.perm) =
    subst (λ (k : Class). slice_get (rules_of c.file-f.result) c.rule_place.result ≡ Some (rule_said c.file-f.result.node c.file-f.result.owner k c.args.perm)) c.class_of-class.ensures (c.rule_place.ensures.place by_class) in
    let few : length (said_of_all c.args.table.now c.args.table.now.files) ≤ 4096 =
    all_few t c.file_count.result c.in-Some-said_before._all c.in-Some-said_before.ensures.0 c.in-Some-said_before.ensures.1 (omega (arith, c.file_count.ensures)) in
    let sizes : length c.principals-principals.result.now ≡ length c.args.table.now.who = ap (λ (l : List (List ℕ)). length l) c.principals-principals.ensures in
    let p : ModeProof = record {
      class_number = c.in-Some-said_before-2.before + c.in-Some.place + 1;
      rule_number = c.in-Some-said_before-2.before + (length c.principals-principals.result.now + c.rule_place.result) + 1;
      proof = c.in_ok-proof_for.field-0;
    } in
    is_proof t c.args.who.now c.args.file c.args.perm c.in-Some.place c.in-Some-find_file.file_place c.rule_place.result f c.in-Some.ensures c.in-Some-find_file.ensures c.file-f.ensures permitted rule p few
    (omega (arith, c.in-Some-said_before-2.ensures.0)) (omega (arith, c.in-Some-said_before-2.ensures.0, sizes)) c.in_ok-proof_for.ensures
