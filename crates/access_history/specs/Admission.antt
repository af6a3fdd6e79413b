-- Which procap gives what is needed, and what denies it first (after procaps: Garg and Pfenning, A
-- proof-carrying file system, 2010; the causes and their order are this project's own).
use Rattle.std.specs.Prelude.{◌≡◌, ◌+◌, ℕ, ℤ, List, [], ◌∷◌, ◌++◌, Option, Some, None, Contains}
use Rattle.std.specs.List.{AllByRecursion}
use Rattle.bl_syntax.specs.declared.grant.Goal.{Goal}
use Rattle.bl_syntax.specs.FirstFailing.{IsFirstFailing}
use Rattle.bl_syntax.specs.Grant.{GrantView, HoldsAt}
use Rattle.procap.specs.Genuine.{IsGenuine}
use Rattle.procap.specs.declared.procap.Procap.{Procap}
use Rattle.file_world.specs.declared.operation.Op.{Op}
use Rattle.file_world.specs.Facts.{facts}
use Rattle.file_world.specs.Needs.{Need, needs}
use Rattle.access_history.specs.declared.reply.DenialCause.{DenialCause}
use Rattle.access_history.specs.declared.reply.DenialCause.TheVariants as causes
use Rattle.access_history.specs.Base.{BaseView}
use Rattle.access_history.specs.Gone.{gone}
use Rattle.access_history.specs.Numbered.{IsNumbered}

-- what a procap has to grant the caller for a need
abbrev pub wanted_goal : List ℕ → Need → Goal
wanted_goal caller need = record { who = caller; file = need.file; perm = need.permission }

-- causes by their conditions, numbered from that place
abbrev pub causes_from : {A : Type 0} → (ℕ → A → DenialCause) → ℕ → List A → List DenialCause
causes_from cause place [] = []
causes_from cause place (condition ∷ conditions) = cause place condition ∷ causes_from cause (place + 1) conditions

-- the tests of a grant's conditions. They count from 1
abbrev pub condition_causes : GrantView → List DenialCause
condition_causes g = causes_from causes.Time 1 g.times ++ causes_from causes.State 1 g.states

-- the test of a grant that is gone by a withdrawn statement
abbrev pub withdrawal_causes : Option ℕ → List DenialCause
withdrawal_causes None = []
withdrawal_causes (Some number) = causes.Withdrawn number ∷ []

-- the tests of a procap with this grant in their order, each under the cause for which it denies
abbrev pub denial_causes : BaseView → GrantView → List DenialCause
denial_causes state g = causes.Seal ∷ causes.Principal ∷ causes.File ∷ causes.Permission ∷ (condition_causes g ++ withdrawal_causes (gone state g))

-- the procap passes the test of that name: it is sealed under the key, names what the goal names,
-- its conditions hold at the moment in the state, and its grant is not gone
abbrev pub Passes : List ℕ → BaseView → ℤ → Goal → Procap → DenialCause → Type 0
Passes key state moment goal p causes.Seal = IsGenuine key p
Passes key state moment goal p causes.Principal = p.grant.goal.who ≡ goal.who
Passes key state moment goal p causes.File = p.grant.goal.file ≡ goal.file
Passes key state moment goal p causes.Permission = p.grant.goal.perm ≡ goal.perm
Passes key state moment goal p (causes.Time place c) = HoldsAt moment c
Passes key state moment goal p (causes.State place s) = Contains (facts state.world) s
Passes key state moment goal p (causes.Withdrawn number) = gone state p.grant ≡ None

-- the procap passes each test
abbrev pub Admits : List ℕ → BaseView → ℤ → Goal → Procap → Type 0
Admits key state moment goal p = AllByRecursion (Passes key state moment goal p) (denial_causes state p.grant)

-- the first test that the procap does not pass
pub record Denies (key : List ℕ) (state : BaseView) (moment : ℤ) (goal : Goal) (p : Procap) (cause : DenialCause) : Type 0 where
  pub place : ℕ
  pub first : IsFirstFailing (Passes key state moment goal p) (denial_causes state p.grant) place cause

-- the procap in the place of the need gives the caller what is needed
pub record IsNeedMet (key : List ℕ) (state : BaseView) (caller : List ℕ) (procaps : List Procap) (moment : ℤ) (need : Need) : Type 0 where
  pub procap : Procap
  pub brought : IsNumbered procaps need.place procap
  pub admits : Admits key state moment (wanted_goal caller need) procap

-- each need of the operation is met
abbrev pub IsAdmitted : List ℕ → BaseView → List ℕ → Op → List Procap → ℤ → Type 0
IsAdmitted key state caller op procaps moment = AllByRecursion (IsNeedMet key state caller procaps moment) (needs state.world op)

-- the first of these needs that is not met, by its place, and the cause for which the procap there
-- denies it
pub record IsDenied (key : List ℕ) (state : BaseView) (caller : List ℕ) (procaps : List Procap)
    (moment : ℤ) (wants : List Need) (place : ℕ) (cause : DenialCause) : Type 0 where
  pub index : ℕ
  pub need : Need
  pub first : IsFirstFailing (IsNeedMet key state caller procaps moment) wants index need
  pub place_is : place ≡ need.place
  pub procap : Procap
  pub brought : IsNumbered procaps need.place procap
  pub denies : Denies key state moment (wanted_goal caller need) procap cause
