-- Small policies and sequents, and what is derivable in them.
use Rattle.std.proofs.Common.{◌≡◌, ◌↔◌, ℤ, ℕ, pos, List, [], ◌∷◌, length, inl, inr, refl, ap, sym, subst, ⊎_elim, arith}
use Rattle.std.specs.Prelude.{Contains}
use Rattle.std.proofs.lemmas.Int.{ints}
use Rattle.bl_syntax.specs.declared.terms.TimePoint.{TimePoint}
use Rattle.bl_syntax.specs.declared.terms.TimePoint.TheVariants.{NegInf, At, PosInf}
use Rattle.bl_syntax.specs.declared.terms.Term.{Term}
use Rattle.bl_syntax.specs.declared.terms.Term.TheVariants.{Prin, File, Perm, Time, Text, Ctime, Param, Bound}
use Rattle.bl_syntax.specs.declared.terms.NodeId.{NodeId}
use Rattle.bl_syntax.specs.declared.terms.Perm.{Perm as Permission}
use Rattle.bl_syntax.specs.declared.terms.StatePred.{StatePred}
use Rattle.bl_syntax.specs.declared.grant.Goal.{Goal}
use Rattle.bl_syntax.specs.Formula.{state, implies}
use Rattle.bl_syntax.specs.TimeOrder.{IsUpTo}
use Rattle.bl_syntax.specs.Statement.{StatementView, statement_view}
use Rattle.bl_rules.specs.Allowed.{access, Allows}
use Rattle.bl_rules.specs.DirectGrant.{goal_formula, SpeaksForAdmin}
use Rattle.bl_rules.specs.FromClauses.{IsClause, Yields}
use Rattle.bl_rules.specs.Examples.{admin_name, loc_name, hr}
use Rattle.bl_rules.proofs.Membership.{Contains-nothing, Contains-head, Contains-cons_cases}
use Rattle.bl_rules.proofs.YieldLemmas.{Allows-clauses}

-- what is in a list of one item is that item
pub Contains-one : {X : Type 0} (x y : X) → Contains (x ∷ []) y → x ≡ y
Contains-one x y h = ⊎_elim (λ same. same) (λ none. absurd (Contains-nothing y none)) (Contains-cons_cases y x [] h)

-- one statement of a clause allows what it yields, in its interval, if who says it speaks for `admin`
pub Allows-one : (s : StatementView) (facts : List StatePred) (moment : ℤ) (goal : Goal) → IsClause s.body
    → Allows (s ∷ []) facts moment goal.who goal.file goal.perm
    ↔ (SpeaksForAdmin s.who × Yields facts s.body (goal_formula goal) × IsUpTo s.from (At moment) × IsUpTo (At moment) s.to)
Allows-one s facts moment goal clause =
    let both = Allows-clauses (s ∷ []) facts moment goal (λ r among. subst (λ (q : StatementView). IsClause q.body) (Contains-one s r among) clause) in (
      λ allowed.
          let yielded = both.0 allowed in
          let same = sym (Contains-one s yielded.statement yielded.among) in (
            subst (λ (q : StatementView). SpeaksForAdmin q.who) same yielded.strong,
            subst (λ (q : StatementView). Yields facts q.body (goal_formula goal)) same yielded.yields,
            subst (λ (q : StatementView). IsUpTo q.from (At moment)) same yielded.begun,
            subst (λ (q : StatementView). IsUpTo (At moment) q.to) same yielded.not_ended,
          ),
      λ h. both.1 (record {
        statement = s;
        among = Contains-head s s [] refl;
        strong = h.0;
        yields = h.1;
        begun = h.2;
        not_ended = h.3;
      }),
    )

abbrev goal_of : List ℕ → NodeId → Permission → Goal
goal_of who file permission = record { who = who; file = file; perm = permission }

-- `admin` says it outright
pub Allows-simplest : (from to : TimePoint) (facts : List StatePred) (moment : ℤ) (who : List ℕ) (file : NodeId) (permission : Permission)
    → Allows (statement_view admin_name (access who file permission) from to ∷ []) facts moment who file permission ↔ (IsUpTo from (At moment) × IsUpTo (At moment) to)
Allows-simplest from to facts moment who file permission =
    let one = Allows-one (statement_view admin_name (access who file permission) from to) facts moment (goal_of who file permission) tt in
    (λ allowed. let h = one.0 allowed in (h.2, h.3), λ h. one.1 (inl refl, refl, h.0, h.1))

-- `admin` says it of a state
pub Allows-on_state : (s : StatePred) (from to : TimePoint) (facts : List StatePred) (moment : ℤ) (who : List ℕ) (file : NodeId) (permission : Permission)
    → Allows (statement_view admin_name (implies (state s) (access who file permission)) from to ∷ []) facts moment who file permission
    ↔ (Contains facts s × IsUpTo from (At moment) × IsUpTo (At moment) to)
Allows-on_state s from to facts moment who file permission =
    let one = Allows-one (statement_view admin_name (implies (state s) (access who file permission)) from to) facts moment (goal_of who file permission) (tt, tt) in
    (λ allowed. let h = one.0 allowed in (h.1.0, h.2, h.3), λ h. one.1 (inl refl, (h.0, refl), h.1, h.2))

-- somebody else says it
pub Allows-of_others : (speaker : List ℕ) (from to : TimePoint) (facts : List StatePred) (moment : ℤ) (who : List ℕ) (file : NodeId) (permission : Permission)
    → Allows (statement_view speaker (access who file permission) from to ∷ []) facts moment who file permission → SpeaksForAdmin speaker
Allows-of_others speaker from to facts moment who file permission allowed =
    let h = (Allows-one (statement_view speaker (access who file permission) from to) facts moment (goal_of who file permission) tt).0 allowed in h.0

-- the name of a principal
abbrev pub name_of : Term → List ℕ
name_of (Prin name) = name
name_of (File number) = []
name_of (Perm permission) = []
name_of (Time point) = []
name_of (Text constant) = []
name_of Ctime = []
name_of (Param n) = []
name_of (Bound n) = []

names_differ : (a b : List ℕ) → (length a ≡ length b → ⊥) → Prin a ≡ Prin b → ⊥
names_differ a b differ same = differ (ap (λ (t : Term). length (name_of t)) same)

hr_is_weak : SpeaksForAdmin hr → ⊥
hr_is_weak = ⊎_elim (names_differ hr admin_name (λ same. omega (arith, same))) (names_differ hr loc_name (λ same. omega (arith, same)))

module _ (facts : List StatePred) (who : List ℕ) (file : NodeId) (permission : Permission) where
  -- `admin` says it from 100 to 200
  abbrev AllowsAt : ℤ → Type 0
  AllowsAt moment = Allows (statement_view admin_name (access who file permission) (At (pos 100)) (At (pos 200)) ∷ []) facts moment who file permission

  between : (moment : ℤ) → AllowsAt moment ↔ (IsUpTo (At (pos 100)) (At moment) × IsUpTo (At moment) (At (pos 200)))
  between moment = Allows-simplest (At (pos 100)) (At (pos 200)) facts moment who file permission

  pub from_100 : AllowsAt (pos 100)
  from_100 = (between (pos 100)).1 (omega (arith, ints), omega (arith, ints))

  pub to_200 : AllowsAt (pos 200)
  to_200 = (between (pos 200)).1 (omega (arith, ints), omega (arith, ints))

  pub not_before_100 : AllowsAt (pos 99) → ⊥
  not_before_100 allowed = let h = (between (pos 99)).0 allowed in omega (arith, ints, h.0)

  pub not_after_200 : AllowsAt (pos 201) → ⊥
  not_after_200 allowed = let h = (between (pos 201)).0 allowed in omega (arith, ints, h.1)

  -- somebody says it without limit
  abbrev AllowsBy : List ℕ → ℤ → Type 0
  AllowsBy speaker moment = Allows (statement_view speaker (access who file permission) NegInf PosInf ∷ []) facts moment who file permission

  pub by_loc : (moment : ℤ) → AllowsBy loc_name moment
  by_loc moment = (Allows-one (statement_view loc_name (access who file permission) NegInf PosInf) facts moment (goal_of who file permission) tt).1 (inr refl, refl, tt, tt)

  pub not_by_hr : (moment : ℤ) → AllowsBy hr moment → ⊥
  not_by_hr moment allowed = hr_is_weak (Allows-of_others hr NegInf PosInf facts moment who file permission allowed)
