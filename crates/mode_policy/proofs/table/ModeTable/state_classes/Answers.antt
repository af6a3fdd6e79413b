-- The class of each principal, one after the other.
use Rattle.std.proofs.Common.{◌≡◌, ◌<◌, ◌≤◌, ℕ, List, length, get_or, ap, ◌∙◌, arith}
use Rattle.mode_policy.specs.Allowed.{class_of}
use Rattle.mode_policy.specs.Statements.{class_said, classes_of}
use Rattle.mode_policy.proofs.StatingLemmas.{Appends-nothing, stops_at, one_more, one_stops, all_said}
use Rattle.mode_policy.proofs.table.ModeTable.state_classes.Goals as goal

pub loop-who-init : goal.loop-who-init
loop-who-init c = Appends-nothing c.args.on.from c.args.on.to c.args.out.now

pub returns-in_err-state_class : goal.returns-in_err-state_class
returns-in_err-state_class c =
    let t = c.args.self.now in
    let f = c.args.f.now in
    let within : c.loop-who.who-index < length c.args.self.now.who = omega (arith, c.loop-who-test.true, ap (λ (l : List (List ℕ)). length l) c.principals-who-items.ensures) in
    stops_at c.args.on.from c.args.on.to (classes_of t f) c.args.out.now c.state_class.new.out c.from_residual.result c.in_err-state_class.field-0.0 c.from_residual.ensures.1
    (one_stops c.args.on.from c.args.on.to (λ (k : List ℕ). class_said f.node k (class_of t f k)) t.who c.loop-who.who-index c.args.out.now c.loop-who.out c.loop-who.invariant within
    (class_said f.node c.who-item.result (class_of t f c.who-item.result)) c.state_class.new.out c.state_class.new.out c.in_err-state_class.field-0.0 c.in_err-state_class.ensures)

pub loop-who-preserved : goal.loop-who-preserved
loop-who-preserved c =
    let t = c.args.self.now in
    let f = c.args.f.now in
    let within : c.loop-who.who-index < length c.args.self.now.who = omega (arith, c.loop-who-test.true, ap (λ (l : List (List ℕ)). length l) c.principals-who-items.ensures) in
    let item : c.who-item.result ≡ get_or c.args.self.now.who c.loop-who.who-index c.who-item.result = c.who-item.is ∙ ap (λ (l : List (List ℕ)). get_or l c.loop-who.who-index c.who-item.result) c.principals-who-items.ensures in
    one_more c.args.on.from c.args.on.to (λ (k : List ℕ). class_said f.node k (class_of t f k)) t.who c.loop-who.who-index c.args.out.now c.loop-who.out c.loop-who.invariant within c.who-item.result c.state_class.new.out
    item c.in_ok-state_class.ensures

pub returns : goal.returns
returns c =
    let t = c.args.self.now in
    let f = c.args.f.now in
    let past : length c.args.self.now.who ≤ c.loop-who.who-index = omega (arith, c.loop-who-test.false, ap (λ (l : List (List ℕ)). length l) c.principals-who-items.ensures) in
    all_said c.args.on.from c.args.on.to (λ (k : List ℕ). class_said f.node k (class_of t f k)) t.who c.loop-who.who-index c.args.out.now c.loop-who.out c.loop-who.invariant past
