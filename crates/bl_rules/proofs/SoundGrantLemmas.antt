-- What is derivable under a grant's conditions makes the grant sound, and more statements keep it sound.
use Rattle.std.proofs.Common.{◌≡◌, ◌∙◌, ℕ, ℤ, List, [], ◌∷◌, map, refl, ap, ap₂, sym, subst}
use Rattle.std.specs.Prelude.{Contains}
use Rattle.std.specs.List.{AllByRecursion}
use Rattle.std.proofs.lemmas.List.Elements.{All-from_recursion, All-contains}
use Rattle.bl_syntax.specs.declared.terms.NodeId.{NodeId}
use Rattle.bl_syntax.specs.declared.terms.Perm.{Perm as Permission}
use Rattle.bl_syntax.specs.declared.terms.Term.{Term}
use Rattle.bl_syntax.specs.declared.terms.Term.TheVariants.{Prin, File, Perm, Time, Text, Ctime, Param, Bound}
use Rattle.bl_syntax.specs.declared.terms.StatePred.{StatePred}
use Rattle.bl_syntax.specs.declared.terms.StatePred.TheVariants.{Owner, HasXattr, InDir}
use Rattle.bl_syntax.specs.Formula.{FormulaView, atom, compare, state, both, either, implies, truth, falsity, forall_, exists_, says, on}
use Rattle.bl_syntax.specs.Terms.{IsConstant, term_at, state_at}
use Rattle.bl_syntax.specs.WellSorted.{terms_of_state}
use Rattle.bl_syntax.specs.Statement.{StatementView, AllTerms, IsNotCtime, IsStatement}
use Rattle.bl_syntax.specs.Substitution.{formula_at}
use Rattle.bl_syntax.specs.Entailment.{constants}
use Rattle.bl_syntax.specs.Grant.{GrantView, IsStateCondition, HoldsAt}
use Rattle.bl_syntax.proofs.EntailmentLemmas.{Entails-link, Entails-constrained}
use Rattle.bl_rules.specs.Sequent.{Hypothesis, claims}
use Rattle.bl_rules.specs.Allowed.{claim_of, claims_of, Allows, SoundGrant, IsDerivableUnderConditions}
use Rattle.bl_rules.specs.AtMoment.{hypothesis_at}
use Rattle.bl_rules.specs.Richer.{Includes}
use Rattle.bl_rules.proofs.Membership.{Contains-map, Contains-map_cases}
use Rattle.bl_rules.proofs.RicherLemmas.{Derivable-richer}
use Rattle.bl_rules.proofs.AtMomentLemmas.{Derivable-at}

pub All-item : {X : Type 0} (P : X → Type 0) (xs : List X) (x : X) → AllByRecursion P xs → Contains xs x → P x
All-item P xs x all among = All-contains P xs x (All-from_recursion P xs all) among

module _ (moment : ℤ) where
  -- a term without the current time is the same at each moment
  term_at-not_ctime : (t : Term) → IsNotCtime t → term_at moment t ≡ t
  term_at-not_ctime (Prin name) h = refl
  term_at-not_ctime (File number) h = refl
  term_at-not_ctime (Perm permission) h = refl
  term_at-not_ctime (Time point) h = refl
  term_at-not_ctime (Text constant) h = refl
  term_at-not_ctime Ctime h = absurd h
  term_at-not_ctime (Param n) h = refl
  term_at-not_ctime (Bound n) h = refl

  terms_at-not_ctime : (terms : List Term) → AllByRecursion IsNotCtime terms → map (term_at moment) terms ≡ terms
  terms_at-not_ctime [] h = refl
  terms_at-not_ctime (t ∷ terms) h = ap₂ ◌∷◌ (term_at-not_ctime t h.0) (terms_at-not_ctime terms h.1)

  pub state_at-not_ctime : (s : StatePred) → AllByRecursion IsNotCtime (terms_of_state s) → state_at moment s ≡ s
  state_at-not_ctime (Owner file owner) h = ap₂ Owner (term_at-not_ctime file h.0) (term_at-not_ctime owner h.1.0)
  state_at-not_ctime (HasXattr file name value) h = rw (term_at-not_ctime file h.0, term_at-not_ctime name h.1.0, term_at-not_ctime value h.1.1.0)
  state_at-not_ctime (InDir file directory) h = ap₂ InDir (term_at-not_ctime file h.0) (term_at-not_ctime directory h.1.0)

  -- so is a formula
  pub formula_at-not_ctime : (f : FormulaView) → AllTerms IsNotCtime f → formula_at moment f ≡ f
  formula_at-not_ctime (atom name terms) h = ap (atom name) (terms_at-not_ctime terms h)
  formula_at-not_ctime (compare c) h = rw (term_at-not_ctime c.low h.0, term_at-not_ctime c.high h.1)
  formula_at-not_ctime (state s) h = ap state (state_at-not_ctime s h)
  formula_at-not_ctime (both a b) h = ap₂ both (formula_at-not_ctime a h.0) (formula_at-not_ctime b h.1)
  formula_at-not_ctime (either a b) h = ap₂ either (formula_at-not_ctime a h.0) (formula_at-not_ctime b h.1)
  formula_at-not_ctime (implies a b) h = ap₂ implies (formula_at-not_ctime a h.0) (formula_at-not_ctime b h.1)
  formula_at-not_ctime truth h = refl
  formula_at-not_ctime falsity h = refl
  formula_at-not_ctime (forall_ s a) h = ap (forall_ s) (formula_at-not_ctime a h)
  formula_at-not_ctime (exists_ s a) h = ap (exists_ s) (formula_at-not_ctime a h)
  formula_at-not_ctime (says k a) h = ap₂ says (term_at-not_ctime k h.0) (formula_at-not_ctime a h.1)
  formula_at-not_ctime (on a u v) h = rw (formula_at-not_ctime a h.0, term_at-not_ctime u h.1.0, term_at-not_ctime v h.1.1)

-- a constant is not the current time
IsNotCtime-constant : (t : Term) → IsConstant t → IsNotCtime t
IsNotCtime-constant (Prin name) h = tt
IsNotCtime-constant (File number) h = tt
IsNotCtime-constant (Perm permission) h = tt
IsNotCtime-constant (Time point) h = tt
IsNotCtime-constant (Text constant) h = tt
IsNotCtime-constant Ctime h = absurd h
IsNotCtime-constant (Param n) h = tt
IsNotCtime-constant (Bound n) h = tt

all_not_ctime : (terms : List Term) → AllByRecursion IsConstant terms → AllByRecursion IsNotCtime terms
all_not_ctime [] h = tt
all_not_ctime (t ∷ terms) h = (IsNotCtime-constant t h.0, all_not_ctime terms h.1)

-- a claim of a statement is the same at each moment
claim_at : (moment : ℤ) (statement : StatementView) → IsStatement statement → hypothesis_at moment (claim_of statement) ≡ claim_of statement
claim_at moment statement is_statement =
    ap (λ (body : FormulaView). claims (Prin statement.who) body (Time statement.from) (Time statement.to)) (formula_at-not_ctime moment statement.body is_statement.no_ctime)

claims_at : (moment : ℤ) (statements : List StatementView) → AllByRecursion IsStatement statements
    → (h : Hypothesis) → Contains (claims_of statements) h → Contains (claims_of statements) (hypothesis_at moment h)
claims_at moment statements are_statements h among =
    let was = Contains-map_cases claim_of statements h among in
    let same = claim_at moment was.0 (All-item IsStatement statements was.0 are_statements was.1) in
    subst (λ (g : Hypothesis). Contains (claims_of statements) g) (sym same ∙ ap (hypothesis_at moment) was.2) (Contains-map claim_of statements was.0 was.1)

-- the bridge from a derivation that leaves the current time open, with the grant's conditions to build on, to a sound grant
pub SoundGrant-from_conditions : (statements : List StatementView) (granted : GrantView)
    → AllByRecursion IsStatement statements → AllByRecursion IsStateCondition granted.states
    → IsDerivableUnderConditions statements granted
    → SoundGrant statements granted
SoundGrant-from_conditions statements granted are_statements are_conditions derivable = record {
  allows = λ moment facts conditions. Derivable-at moment derivable [] facts (claims_of statements)
      (record {
        each = λ c among. Entails-link [] (constants _ _ (All-item (HoldsAt moment) granted.times c conditions.times among));
      })
      (λ s among.
      let constants_alone = All-item IsStateCondition granted.states s are_conditions among in
      rw (state_at-not_ctime moment s (all_not_ctime (terms_of_state s) constants_alone.constants))
      (All-item (Contains facts) granted.states s conditions.states among))
      (claims_at moment statements are_statements);
}

-- more statements and more facts allow no less
pub Allows-more : (statements more : List StatementView) (facts more_facts : List StatePred) (moment : ℤ) (who : List ℕ) (file : NodeId) (permission : Permission)
    → Includes more statements → Includes more_facts facts
    → Allows statements facts moment who file permission → Allows more more_facts moment who file permission
Allows-more statements more facts more_facts moment who file permission includes includes_facts allowed =
    Derivable-richer allowed [] more_facts (claims_of more) (record { each = λ c among. Entails-constrained [] c among }) includes_facts
    (λ h among.
    let was = Contains-map_cases claim_of statements h among in
    subst (λ (g : Hypothesis). Contains (claims_of more) g) was.2 (Contains-map claim_of more was.0 (includes was.0 was.1)))

-- a sound grant stays sound among more statements
pub SoundGrant-more : (statements more : List StatementView) (granted : GrantView) → Includes more statements → SoundGrant statements granted → SoundGrant more granted
SoundGrant-more statements more granted includes sound = record {
  allows = λ moment facts conditions.
      Allows-more statements more facts facts moment granted.goal.who granted.goal.file granted.goal.perm includes (λ s among. among) (sound.allows moment facts conditions);
}
