-- Whether an operation was admitted, as the audit tests it.
use Rattle.std.proofs.Common.{◌≡◌, ◌<◌, ◌+◌, ℕ, zero, suc, List, [], ◌∷◌, length, get_or, None, refl, sym, ap, subst, ◌∙◌, arith}
use Rattle.std.specs.Prelude.{Contains, ℤ}
use Rattle.std.specs.List.{AllByRecursion}
use Rattle.std.proofs.lemmas.Option.{slice_get_read}
use Rattle.bl_syntax.specs.declared.terms.NodeId.{NodeId}
use Rattle.bl_syntax.specs.declared.terms.Perm.{Perm}
use Rattle.bl_syntax.specs.declared.grant.Goal.{Goal}
use Rattle.bl_syntax.specs.Grant.{HoldsAt}
use Rattle.procap.specs.Genuine.{IsGenuine}
use Rattle.procap.specs.declared.procap.Procap.{Procap}
use Rattle.file_world.specs.declared.operation.Op.{Op}
use Rattle.file_world.specs.Facts.{facts}
use Rattle.file_world.specs.Needs.{Need, need as need_at, needs}
use Rattle.world_state.specs.Needed.{placed}
use Rattle.access_history.specs.Admission.{Admits, IsAdmitted, IsNeedMet}
use Rattle.access_history.specs.Base.{BaseView}
use Rattle.access_history.specs.Gone.{gone}
use Rattle.access_history.specs.Numbered.{IsNumbered}
use Rattle.access_history.proofs.AdmissionLemmas.{Holds-admits, not_gone-admits}
use Rattle.access_history.proofs.NumberedLemmas.{numbered_item}
use Rattle.op_gate.proofs.CheckLemmas.{admitted_all, conditions_hold, names_all}

abbrev goal_with : List ℕ → NodeId → Perm → Goal
goal_with who file perm = record { who = who; file = file; perm = perm }

-- the same goal, by its parts
same_goal : (first second : Goal) → first.who ≡ second.who → first.file ≡ second.file → first.perm ≡ second.perm → first ≡ second
same_goal first second who file perm =
    ap (λ (w : List ℕ). goal_with w first.file first.perm) who ∙ ap (λ (f : NodeId). goal_with second.who f first.perm) file ∙ ap (λ (p : Perm). goal_with second.who second.file p) perm

module _ (key : List ℕ) (state : BaseView) (moment : ℤ) (wanted : Goal) (p : Procap) where
  -- what a procap that passes all tests has
  pub admitted_goal : Admits key state moment wanted p → p.grant.goal ≡ wanted
  admitted_goal admits = same_goal p.grant.goal wanted admits.1.0 admits.1.1.0 admits.1.1.1.0

  pub admitted_times : Admits key state moment wanted p → AllByRecursion (HoldsAt moment) p.grant.times
  admitted_times admits = (Holds-admits key state moment wanted p admits).times

  pub admitted_states : Admits key state moment wanted p → AllByRecursion (Contains (facts state.world)) p.grant.states
  admitted_states admits = (Holds-admits key state moment wanted p admits).states

  pub admitted_standing : Admits key state moment wanted p → gone state p.grant ≡ None
  admitted_standing admits = not_gone-admits key state moment wanted p admits

  -- one that has all of it passes
  pub admitted_by : IsGenuine key p → p.grant.goal ≡ wanted → AllByRecursion (HoldsAt moment) p.grant.times → AllByRecursion (Contains (facts state.world)) p.grant.states → gone state p.grant ≡ None → Admits key state moment wanted p
  admitted_by sealed goal times states standing =
      admitted_all key state moment wanted p sealed
      (names_all key state moment wanted p.grant.goal p refl (ap (λ (g : Goal). g.who) goal) (ap (λ (g : Goal). g.file) goal) (ap (λ (g : Goal). g.perm) goal))
      (conditions_hold key state moment wanted p times states) standing

-- ---- needs, one after the other

abbrev Pair : Type 0
Pair = NodeId × Perm

need_read : (P : Need → Type 0) (from : ℕ) (pairs : List Pair) (place : ℕ) (default : Pair) → place < length pairs → AllByRecursion P (placed from pairs) → P (need_at (from + place) (get_or pairs place default).0 (get_or pairs place default).1)
need_read P from [] place default within all = absurd (omega (arith, within))
need_read P from (pair ∷ pairs) zero default within all =
    let at : from ≡ from + 0 = omega arith in
    subst (λ (n : ℕ). P (need_at n pair.0 pair.1)) at all.0
need_read P from (pair ∷ pairs) (suc place) default within all =
    let at : from + 1 + place ≡ from + suc place = omega arith in
    subst (λ (n : ℕ). P (need_at n (get_or pairs place default).0 (get_or pairs place default).1)) at (need_read P (from + 1) pairs place default (omega (arith, within)) all.1)

-- an operation is not admitted if the procap in the place of a need does not pass
pub not_admitted : (key : List ℕ) (state : BaseView) (caller : List ℕ) (op : Op) (procaps : List Procap) (moment : ℤ) (pairs : List Pair) (place : ℕ) (default : Pair) (p : Procap) → placed 1 pairs ≡ needs state.world op → place < length pairs →
    place < length procaps → p ≡ get_or procaps place p → (Admits key state moment (record { who = caller; file = (get_or pairs place default).0; perm = (get_or pairs place default).1 }) p → ⊥) → IsAdmitted key state caller op procaps moment → ⊥
not_admitted key state caller op procaps moment pairs place default p same within there read fails admitted =
    let P = IsNeedMet key state caller procaps moment in
    let pair = get_or pairs place default in
    let met : P (need_at (1 + place) pair.0 pair.1) = need_read P 1 pairs place default within (subst (AllByRecursion P) (sym same) admitted) in
    let brought : IsNumbered procaps (1 + place) p = record { place = place; from_one = omega arith; found = slice_get_read procaps (length procaps) place p refl there read } in
    let is : met.procap ≡ p = numbered_item procaps (1 + place) met.procap p met.brought brought in
    fails (subst (λ (q : Procap). Admits key state moment (record { who = caller; file = pair.0; perm = pair.1 }) q) is met.admits)
