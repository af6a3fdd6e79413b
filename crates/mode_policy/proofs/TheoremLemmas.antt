-- What a table of modes allows is derivable from its statements.
use Rattle.std.proofs.Common.{◌≡◌, inl, ℤ, ℕ, Bool, true, false, cond, List, [], ◌∷◌, ◌++◌, refl, sym, ap, ◌∙◌, subst, ⊎_elim, arith}
use Rattle.std.specs.Prelude.{Contains}
use Rattle.std.specs.List.{filter}
use Rattle.std.proofs.lemmas.Bool.{false≢true}
use Rattle.std.proofs.lemmas.List.Elements.{Contains-append_left, Contains-append_right}
use Rattle.bl_syntax.specs.declared.terms.NodeId.{NodeId}
use Rattle.bl_syntax.specs.declared.terms.Perm.{Perm as Permission}
use Rattle.bl_syntax.specs.declared.terms.Perm.TheVariants.{Read, Write, Execute, Identity, Govern}
use Rattle.bl_syntax.specs.declared.terms.Sort.TheVariants as sorts
use Rattle.bl_syntax.specs.declared.terms.StatePred.{StatePred}
use Rattle.bl_syntax.specs.declared.terms.Term.{Term}
use Rattle.bl_syntax.specs.declared.terms.Term.TheVariants.{Prin, File, Perm, Time}
use Rattle.bl_syntax.specs.declared.terms.TimePoint.{TimePoint}
use Rattle.bl_syntax.specs.declared.terms.TimePoint.TheVariants.{At}
use Rattle.bl_syntax.specs.Formula.{FormulaView, atom, state, both}
use Rattle.bl_syntax.specs.Statement.{StatementView}
use Rattle.bl_syntax.specs.TimeOrder.{IsUpTo}
use Rattle.bl_syntax.specs.WellSorted.{may}
use Rattle.bl_syntax.proofs.EntailmentLemmas.{Entails-in_order, Entails-itself}
use Rattle.bl_rules.specs.Allowed.{admin, Allows}
use Rattle.bl_rules.specs.Derivable.{init, inter_r, and_r, says_r, imp_l, forall_l, claim}
use Rattle.bl_rules.specs.Richer.{Includes}
use Rattle.bl_rules.proofs.Membership.{Contains-nothing, Contains-head, Contains-tail, Contains-cons_cases, Contains-map}
use Rattle.bl_rules.proofs.SoundGrantLemmas.{Allows-more}
use Rattle.mode_policy.specs.declared.entry.FileModes.{FileModes}
use Rattle.mode_policy.specs.declared.modes.Class.{Class}
use Rattle.mode_policy.specs.declared.modes.Class.TheVariants.{Owner, Group, Other}
use Rattle.mode_policy.specs.Allowed.{ModeAllows, class_of}
use Rattle.mode_policy.specs.Modes.{digit_of, permits, permitted}
use Rattle.mode_policy.specs.Statements.{is_owned, class_said, rule_said, classes_of, rules_for, rules_of, said_of, said_of_all, stated, statements_of, AreOwned}
use Rattle.mode_policy.specs.Table.{TableView}
use Rattle.mode_policy.proofs.ClassLemmas.{class_of-same}

-- the class of a principal and the rule for it allow it what the rule does
abbrev pub the_two : NodeId → List ℕ → List ℕ → Class → Permission → TimePoint → TimePoint → List StatementView
the_two node owner who class permission from to = stated from to (class_said node who class) ∷ stated from to (rule_said node owner class permission) ∷ []

pub allowed_by_two : (node : NodeId) (owner who : List ℕ) (class : Class) (permission : Permission) (from to : TimePoint) (moment : ℤ) (facts : List StatePred)
    → IsUpTo from (At moment) → IsUpTo (At moment) to → Contains facts (is_owned node owner) → Allows (the_two node owner who class permission from to) facts moment who node permission
allowed_by_two node owner who class permission from to moment facts begun not_ended owned =
    let now : Term = Time (At moment) in
    let begins = Entails-in_order [] from (At moment) begun in
    let ends = Entails-in_order [] (At moment) to not_ended in
    let of_class : FormulaView = class_said node who class in
    let condition : FormulaView = both of_class (state (is_owned node owner)) in
    let may_have : FormulaView = atom may (Prin who ∷ File node ∷ Perm permission ∷ []) in
    says_r (claim admin of_class (Time from) (Time to) (0, omega arith, refl) (inl refl) begins ends
    (claim admin (rule_said node owner class permission) (Time from) (Time to) (1, omega arith, refl) (inl refl) begins ends
    (forall_l sorts.Principal _ (Time from) (Time to) (Prin who) (3, omega arith, refl) refl
    (imp_l condition may_have (Time from) (Time to) now now (4, omega arith, refl) refl refl begins ends
    (and_r (init (Time from) (Time to) (2, omega arith, refl) begins ends) (inter_r owned))
    (init now now (5, omega arith, refl) (Entails-itself [] now) (Entails-itself [] now))))))

-- ---- the two are among the statements

filter_step : {X : Type 0} (y : X) (others : List X) (x : X) (kept : Bool) → Contains others x → Contains (cond kept (y ∷ others) others) x
filter_step y others x true h = Contains-tail x y others h
filter_step y others x false h = h

filter_here : {X : Type 0} (y : X) (others : List X) (x : X) (kept : Bool) → kept ≡ true → y ≡ x → Contains (cond kept (y ∷ others) others) x
filter_here y others x true is same = Contains-head x y others same
filter_here y others x false is same = absurd (false≢true is)

Contains-filter : {X : Type 0} (test : X → Bool) (xs : List X) (x : X) → Contains xs x → test x ≡ true → Contains (filter test xs) x
Contains-filter test [] x h passes = absurd (Contains-nothing x h)
Contains-filter test (y ∷ ys) x h passes = ⊎_elim
    (λ (here : y ≡ x). filter_here y (filter test ys) x (test y) (ap test here ∙ passes) here)
    (λ (later : Contains ys x). filter_step y (filter test ys) x (test y) (Contains-filter test ys x later passes))
    (Contains-cons_cases x y ys h)

pub is_permitted : (digit : ℕ) (permission : Permission) → permits digit permission ≡ true → Contains (permitted digit) permission
is_permitted digit Read h = Contains-filter (permits digit) (Read ∷ Write ∷ Execute ∷ []) Read (0, omega arith, refl) h
is_permitted digit Write h = Contains-filter (permits digit) (Read ∷ Write ∷ Execute ∷ []) Write (1, omega arith, refl) h
is_permitted digit Execute h = Contains-filter (permits digit) (Read ∷ Write ∷ Execute ∷ []) Execute (2, omega arith, refl) h
is_permitted digit Identity h = absurd (false≢true h)
is_permitted digit Govern h = absurd (false≢true h)

rule_of_class : (f : FileModes) (class : Class) (said : FormulaView) → Contains (rules_for f class) said → Contains (rules_of f) said
rule_of_class f Owner said h = Contains-append_left (rules_for f Owner) (rules_for f Group ++ rules_for f Other) said h
rule_of_class f Group said h = Contains-append_right (rules_for f Owner) (rules_for f Group ++ rules_for f Other) said (Contains-append_left (rules_for f Group) (rules_for f Other) said h)
rule_of_class f Other said h = Contains-append_right (rules_for f Owner) (rules_for f Group ++ rules_for f Other) said (Contains-append_right (rules_for f Group) (rules_for f Other) said h)

said_of_file : (t : TableView) (files : List FileModes) (f : FileModes) (said : FormulaView) → Contains files f → Contains (said_of t f) said → Contains (said_of_all t files) said
said_of_file t [] f said among h = absurd (Contains-nothing f among)
said_of_file t (g ∷ files) f said among h = ⊎_elim
    (λ (here : g ≡ f). Contains-append_left (said_of t g) (said_of_all t files) said (subst (λ (x : FileModes). Contains (said_of t x) said) (sym here) h))
    (λ (later : Contains files f). Contains-append_right (said_of t g) (said_of_all t files) said (said_of_file t files f said later h))
    (Contains-cons_cases f g files among)

pub class_is_said : (t : TableView) (f : FileModes) (who : List ℕ) → Contains t.files f → Contains t.who who → Contains (said_of_all t t.files) (class_said f.node who (class_of t f who))
class_is_said t f who among known =
    said_of_file t t.files f (class_said f.node who (class_of t f who)) among
    (Contains-append_left (classes_of t f) (rules_of f) (class_said f.node who (class_of t f who)) (Contains-map (λ (k : List ℕ). class_said f.node k (class_of t f k)) t.who who known))

pub rule_is_said : (t : TableView) (f : FileModes) (class : Class) (permission : Permission) → Contains t.files f → permits (digit_of f.modes class) permission ≡ true
    → Contains (said_of_all t t.files) (rule_said f.node f.owner class permission)
rule_is_said t f class permission among permits_it =
    let said : FormulaView = rule_said f.node f.owner class permission in
    said_of_file t t.files f said among (Contains-append_right (classes_of t f) (rules_of f) said
    (rule_of_class f class said (Contains-map (rule_said f.node f.owner class) (permitted (digit_of f.modes class)) permission (is_permitted (digit_of f.modes class) permission permits_it))))

two_among : (all : List StatementView) (first second : StatementView) → Contains all first → Contains all second → Includes all (first ∷ second ∷ [])
two_among all first second has_first has_second x h = ⊎_elim
    (λ (here : first ≡ x). subst (Contains all) here has_first)
    (λ (later : Contains (second ∷ []) x). ⊎_elim
    (λ (here : second ≡ x). subst (Contains all) here has_second)
    (λ (none : Contains [] x). absurd (Contains-nothing x none))
    (Contains-cons_cases x second [] later))
    (Contains-cons_cases x first (second ∷ []) h)

pub allowed_is_derivable : (t : TableView) (from to : TimePoint) (moment : ℤ) (facts : List StatePred) (who : List ℕ) (node : NodeId) (permission : Permission)
    → IsUpTo from (At moment) → IsUpTo (At moment) to → AreOwned t facts → ModeAllows t who node permission → Allows (statements_of t from to) facts moment who node permission
allowed_is_derivable t from to moment facts who node permission begun not_ended owned allows =
    let f : FileModes = allows.file in
    let class : Class = class_of t f who in
    let permits_it : permits (digit_of f.modes class) permission ≡ true =
    subst (λ (c : Class). permits (digit_of f.modes c) permission ≡ true) (class_of-same t f who allows.class allows.is_of_class) allows.permitted in
    let first = Contains-map (stated from to) (said_of_all t t.files) (class_said f.node who class) (class_is_said t f who allows.among allows.known) in
    let second = Contains-map (stated from to) (said_of_all t t.files) (rule_said f.node f.owner class permission) (rule_is_said t f class permission allows.among permits_it) in
    let by_two = allowed_by_two f.node f.owner who class permission from to moment facts begun not_ended (owned f allows.among) in
    let by_all = Allows-more (the_two f.node f.owner who class permission from to) (statements_of t from to) facts facts moment who f.node permission
    (two_among (statements_of t from to) (stated from to (class_said f.node who class)) (stated from to (rule_said f.node f.owner class permission)) first second) (λ x h. h) by_two in
    subst (λ (n : NodeId). Allows (statements_of t from to) facts moment who n permission) allows.node_is by_all
