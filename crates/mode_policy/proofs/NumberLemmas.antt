-- The numbers of the two statements that a proof cites.
use Rattle.std.proofs.Common.{◌≡◌, ◌<◌, ◌≤◌, ◌+◌, ◌-◌, ℕ, ℤ, zero, suc, true, Option, Some, None, List, [], ◌∷◌, ◌++◌, length, take, sym, ap, ◌∙◌, subst, arith}
use Rattle.std.specs.Prelude.{Ok, option_map}
use Rattle.std.specs.List.{slice_get}
use Rattle.std.proofs.lemmas.List.{length-append, length-map, take_all}
use Rattle.std.proofs.lemmas.Option.{slice_get-map, slice_get_within}
use Rattle.bl_syntax.specs.declared.terms.NodeId.{NodeId}
use Rattle.bl_syntax.specs.declared.terms.Perm.{Perm as Permission}
use Rattle.bl_syntax.specs.declared.terms.TimePoint.TheVariants.{At}
use Rattle.bl_syntax.specs.Formula.{FormulaView}
use Rattle.bl_syntax.specs.Statement.{StatementView}
use Rattle.proof_term.specs.Proof.{ProofView}
use Rattle.proof_verifier.specs.Verdict.{verdict}
use Rattle.mode_policy.specs.declared.entry.FileModes.{FileModes}
use Rattle.mode_policy.specs.declared.modes.Class.{Class}
use Rattle.mode_policy.specs.declared.proving.ModeProof.{ModeProof}
use Rattle.mode_policy.specs.Allowed.{class_of}
use Rattle.mode_policy.specs.Modes.{digit_of, permits}
use Rattle.mode_policy.specs.Places.{IsPlaceOf}
use Rattle.mode_policy.specs.Proofs.{goal_of, mode_proof, granted, IsModeProof}
use Rattle.mode_policy.specs.Statements.{class_said, rule_said, classes_of, rules_of, said_of, said_of_all, stated, statements_of}
use Rattle.mode_policy.specs.Table.{TableView, nodes_of}
use Rattle.mode_policy.proofs.AllowsLemmas.{its_node}
use Rattle.mode_policy.proofs.ClassLemmas.{class_of-is}
use Rattle.mode_policy.proofs.PlacesLemmas.{Contains-get}
use Rattle.mode_policy.proofs.ProvingLemmas.{get-left, get-right}
use Rattle.mode_policy.proofs.VerdictLemmas.{accepted}

some_same : {A : Type 0} (x y : A) → Some x ≡ Some y → x ≡ y
some_same x y h = cc

-- what is said of a file stands after what is said of those before it
pub said_at : (t : TableView) (files : List FileModes) (place : ℕ) (f : FileModes) (i : ℕ) (x : FormulaView) → slice_get files place ≡ Some f → slice_get (said_of t f) i ≡ Some x
    → slice_get (said_of_all t files) (length (said_of_all t (take place files)) + i) ≡ Some x
said_at t [] place f i x h said = absurd (let none : None ≡ Some f = h in cc)
said_at t (g ∷ files) zero f i x h said =
    let same : g ≡ f = some_same g f h in
    let start : 0 + i ≡ i = omega arith in
    ap (slice_get (said_of t g ++ said_of_all t files)) start
    ∙ get-left (said_of t g) (said_of_all t files) i x (subst (λ (e : FileModes). slice_get (said_of t e) i ≡ Some x) (sym same) said)
said_at t (g ∷ files) (suc place) f i x h said =
    let before : ℕ = length (said_of_all t (take place files)) in
    let there : length (said_of t g ++ said_of_all t (take place files)) + i ≡ length (said_of t g) + (before + i) = omega (arith, length-append (said_of t g) (said_of_all t (take place files))) in
    ap (slice_get (said_of t g ++ said_of_all t files)) there
    ∙ get-right (said_of t g) (said_of_all t files) (before + i)
    ∙ said_at t files place f i x h said

pub length-said_of : (t : TableView) (f : FileModes) → length (said_of t f) ≡ length t.who + length (rules_of f)
length-said_of t f = omega (arith, length-append (classes_of t f) (rules_of f), length-map t.who (λ (who : List ℕ). class_said f.node who (class_of t f who)))

module _ (t : TableView) (who : List ℕ) (node : NodeId) (permission : Permission) (i place r : ℕ) (f : FileModes) (who_at : IsPlaceOf t.who who i) (file_at : IsPlaceOf (nodes_of t) node place)
    (is : slice_get t.files place ≡ Some f) (permits_it : permits (digit_of f.modes (class_of t f who)) permission ≡ true) (rule_is : slice_get (rules_of f) r ≡ Some (rule_said f.node f.owner (class_of t f who) permission)) where
  abbrev before : ℕ
  before = length (said_of_all t (take place t.files))

  abbrev class : Class
  class = class_of t f who

  class_there : slice_get (said_of_all t t.files) (before + i) ≡ Some (class_said f.node who class)
  class_there = said_at t t.files place f i (class_said f.node who class) is
      (get-left (classes_of t f) (rules_of f) i (class_said f.node who class)
      (slice_get-map (λ (k : List ℕ). class_said f.node k (class_of t f k)) t.who i ∙ ap (λ (o : Option (List ℕ)). option_map (λ (k : List ℕ). class_said f.node k (class_of t f k)) o) who_at.here))

  rule_there : slice_get (said_of_all t t.files) (before + (length t.who + r)) ≡ Some (rule_said f.node f.owner class permission)
  rule_there = said_at t t.files place f (length t.who + r) (rule_said f.node f.owner class permission) is
      (ap (λ (n : ℕ). slice_get (said_of t f) (n + r)) (sym (length-map t.who (λ (k : List ℕ). class_said f.node k (class_of t f k))))
      ∙ get-right (classes_of t f) (rules_of f) r ∙ rule_is)

  stated_there : (from to : ℤ) (n : ℕ) (x : FormulaView) → slice_get (said_of_all t t.files) n ≡ Some x → slice_get (statements_of t (At from) (At to)) n ≡ Some (stated (At from) (At to) x)
  stated_there from to n x h = slice_get-map (stated (At from) (At to)) (said_of_all t t.files) n ∙ ap (λ (o : Option FormulaView). option_map (stated (At from) (At to)) o) h

  is_cited : (from to : ℤ) (number n : ℕ) (x : FormulaView) (s : StatementView) → number ≡ n + 1 → slice_get (said_of_all t t.files) n ≡ Some x → slice_get (statements_of t (At from) (At to)) (number - 1) ≡ Some s
      → stated (At from) (At to) x ≡ s
  is_cited from to number n x s number_is there cited =
      let same : n ≡ number - 1 = omega (arith, number_is) in
      some_same (stated (At from) (At to) x) s (sym (stated_there from to n x there) ∙ ap (slice_get (statements_of t (At from) (At to))) same ∙ cited)

  pub is_proof : (p : ModeProof) → length (said_of_all t t.files) ≤ 4096 → p.class_number ≡ before + i + 1 → p.rule_number ≡ before + (length t.who + r) + 1 → p.proof ≡ mode_proof who → IsModeProof t who node permission p
  is_proof p few first second proof_is =
      let earlier : i < length t.who = slice_get_within t.who i who who_at.here in
      let last : before + (length t.who + r) < length (said_of_all t t.files) = slice_get_within (said_of_all t t.files) (before + (length t.who + r)) (rule_said f.node f.owner class permission) rule_there in
      record {
        allows = record {
          known = Contains-get t.who i who who_at.here;
          file = f;
          among = Contains-get t.files place f is;
          node_is = its_node t who node permission place file_at f is;
          class = class;
          is_of_class = class_of-is t f who;
          permitted = permits_it;
        };
        first_number = omega (arith, first);
        rising = omega (arith, first, second, earlier);
        within = omega (arith, second, last);
        few = few;
        proves = λ from to c s cited_class cited_rule.
            let one : stated (At from) (At to) (class_said f.node who class) ≡ c = is_cited from to p.class_number (before + i) (class_said f.node who class) c first class_there cited_class in
            let two : stated (At from) (At to) (rule_said f.node f.owner class permission) ≡ s =
            is_cited from to p.rule_number (before + (length t.who + r)) (rule_said f.node f.owner class permission) s second rule_there cited_rule in
            let at_node : verdict (stated (At from) (At to) (class_said f.node who class) ∷ stated (At from) (At to) (rule_said f.node f.owner class permission) ∷ []) (goal_of who node permission) (mode_proof who)
            ≡ Ok (granted who node permission f.owner from to) =
            subst (λ (n : NodeId). verdict (stated (At from) (At to) (class_said f.node who class) ∷ stated (At from) (At to) (rule_said f.node f.owner class permission) ∷ []) (goal_of who n permission) (mode_proof who)
            ≡ Ok (granted who n permission f.owner from to)) (its_node t who node permission place file_at f is) (accepted f.node f.owner who class permission from to) in
            let with_class : verdict (c ∷ stated (At from) (At to) (rule_said f.node f.owner class permission) ∷ []) (goal_of who node permission) (mode_proof who) ≡ Ok (granted who node permission f.owner from to) =
            subst (λ (x : StatementView). verdict (x ∷ stated (At from) (At to) (rule_said f.node f.owner class permission) ∷ []) (goal_of who node permission) (mode_proof who) ≡ Ok (granted who node permission f.owner from to)) one at_node in
            let with_both : verdict (c ∷ s ∷ []) (goal_of who node permission) (mode_proof who) ≡ Ok (granted who node permission f.owner from to) =
            subst (λ (x : StatementView). verdict (c ∷ x ∷ []) (goal_of who node permission) (mode_proof who) ≡ Ok (granted who node permission f.owner from to)) two with_class in
            subst (λ (d : ProofView). verdict (c ∷ s ∷ []) (goal_of who node permission) d ≡ Ok (granted who node permission f.owner from to)) (sym proof_is) with_both;
      }

-- where there is a file, its classes are among what is said
pub who_within : (t : TableView) (files : List FileModes) → 0 < length files → length t.who ≤ length (said_of_all t files)
who_within t [] h = absurd (omega arith)
who_within t (f ∷ files) h = omega (arith, length-append (said_of t f) (said_of_all t files), length-said_of t f)

pub all_few : (t : TableView) (n m : ℕ) → m ≡ length (said_of_all t (take n t.files)) → m ≤ 4096 → length t.files ≤ n → length (said_of_all t t.files) ≤ 4096
all_few t n m m_is few past =
    let all : length (said_of_all t (take n t.files)) ≡ length (said_of_all t t.files) = ap (λ (l : List FileModes). length (said_of_all t l)) (take_all n t.files past) in
    omega (arith, m_is, few, all)
