-- What is allowed is what the digit of the principal's class has, at the one file of that number.
use Rattle.std.proofs.Common.{◌≡◌, ◌↔◌, ℕ, Bool, true, false, Option, Some, List, IsTrue, sym, ap, ◌∙◌, subst}
use Rattle.std.specs.Prelude.{Contains, option_map}
use Rattle.std.specs.List.{slice_get}
use Rattle.std.proofs.lemmas.Bool.{false≢true}
use Rattle.std.proofs.lemmas.Option.{slice_get-map}
use Rattle.bl_syntax.specs.declared.terms.NodeId.{NodeId}
use Rattle.bl_syntax.specs.declared.terms.Perm.{Perm as Permission}
use Rattle.bl_rules.proofs.Membership.{Contains-map}
use Rattle.mode_policy.specs.declared.entry.FileModes.{FileModes}
use Rattle.mode_policy.specs.declared.modes.Class.{Class}
use Rattle.mode_policy.specs.Allowed.{ModeAllows, class_of}
use Rattle.mode_policy.specs.Modes.{digit_of, permits}
use Rattle.mode_policy.specs.Places.{IsPlaceOf}
use Rattle.mode_policy.specs.Table.{TableView, node_of, nodes_of}
use Rattle.mode_policy.proofs.ClassLemmas.{class_of-is, class_of-same}
use Rattle.mode_policy.proofs.PlacesLemmas.{Contains-get, get-Contains}

some_same : {A : Type 0} (x y : A) → Some x ≡ Some y → x ≡ y
some_same x y h = cc

module _ (t : TableView) (who : List ℕ) (node : NodeId) (permission : Permission) where
  pub not_known : (r : Bool) → r ≡ false → (Contains t.who who → ⊥) → IsTrue r ↔ ModeAllows t who node permission
  not_known r is none = (λ h. absurd (false≢true (sym is ∙ h)), λ a. absurd (none a.known))

  node_among : (f : FileModes) → Contains t.files f → f.node ≡ node → Contains (nodes_of t) node
  node_among f among same = subst (Contains (nodes_of t)) same (Contains-map node_of t.files f among)

  pub no_such_file : (r : Bool) → r ≡ false → (Contains (nodes_of t) node → ⊥) → IsTrue r ↔ ModeAllows t who node permission
  no_such_file r is none = (λ h. absurd (false≢true (sym is ∙ h)), λ a. absurd (none (node_among a.file a.among a.node_is)))

  module _ (place : ℕ) (at : IsPlaceOf (nodes_of t) node place) (f : FileModes) (is : slice_get t.files place ≡ Some f) where
    pub its_node : f.node ≡ node
    its_node = some_same f.node node (ap (λ (o : Option FileModes). option_map node_of o) (sym is) ∙ sym (slice_get-map node_of t.files place) ∙ at.here)

    pub same_file : (g : FileModes) → Contains t.files g → g.node ≡ node → g ≡ f
    same_file g among same =
        let there = get-Contains t.files g among in
        let number : slice_get (nodes_of t) among.0 ≡ Some node = slice_get-map node_of t.files among.0 ∙ ap (λ (o : Option FileModes). option_map node_of o) there ∙ ap Some same in
        some_same g f (sym there ∙ ap (slice_get t.files) (at.only among.0 number) ∙ is)

    pub by_digit : ModeAllows t who node permission → permits (digit_of f.modes (class_of t f who)) permission ≡ true
    by_digit a =
        let same = same_file a.file a.among a.node_is in
        let by_class : permits (digit_of a.file.modes (class_of t a.file who)) permission ≡ true =
        subst (λ (c : Class). permits (digit_of a.file.modes c) permission ≡ true) (class_of-same t a.file who a.class a.is_of_class) a.permitted in
        subst (λ (g : FileModes). permits (digit_of g.modes (class_of t g who)) permission ≡ true) same by_class

    pub allowed_by_digit : Contains t.who who → permits (digit_of f.modes (class_of t f who)) permission ≡ true → ModeAllows t who node permission
    allowed_by_digit known h = record {
      known = known;
      file = f;
      among = Contains-get t.files place f is;
      node_is = its_node;
      class = class_of t f who;
      is_of_class = class_of-is t f who;
      permitted = h;
    }

    pub allowed_iff : (r : Bool) → Contains t.who who → r ≡ permits (digit_of f.modes (class_of t f who)) permission → IsTrue r ↔ ModeAllows t who node permission
    allowed_iff r known r_is = (λ h. allowed_by_digit known (sym r_is ∙ h), λ a. r_is ∙ by_digit a)
