-- Plain issues, whose grants name no statements: what one issue more does, and what they say of a grant that names none.
use Rattle.std.proofs.Common.{◌≡◌, ◌==◌, ◌≤◌, ℕ, zero, suc, List, [], ◌∷◌, ◌++◌, length, take, Bool, true, false, cond, Some, refl, sym, ap, ◌∙◌, arith, append-nil}
use Rattle.std.specs.Prelude.{fold}
use Rattle.std.specs.List.{slice_get}
use Rattle.std.proofs.lemmas.Bool.{false≢true, eqb-true}
use Rattle.std.proofs.lemmas.List.Elements.{filter-append}
use Rattle.std.proofs.lemmas.Option.{same_Some}
use Rattle.bl_syntax.specs.Grant.{GrantView}
use Rattle.issue_standings.specs.declared.standing.GrantStanding.{GrantStanding}
use Rattle.issue_standings.specs.declared.standing.GrantStanding.TheVariants.{Unissued}
use Rattle.issue_standings.specs.Bearing.{BearingView, IsUnissued, is_plain, plain}
use Rattle.issue_standings.specs.Gone.{HasOther}
use Rattle.issue_standings.specs.GrantStanding.{after_issue, standing_of}
use Rattle.issue_standings.proofs.StandingLemmas.{after_other}

-- ---- one issue more

plain_last : (bearings : List BearingView) (b : BearingView) (test : Bool) → is_plain b ≡ test → plain (bearings ++ b ∷ []) ≡ plain bearings ++ cond test (b ∷ []) []
plain_last bearings b test is = filter-append is_plain bearings (b ∷ []) ∙ ap (λ (t : Bool). plain bearings ++ cond t (b ∷ []) []) is

pub plain-push : (bearings : List BearingView) (b : BearingView) → is_plain b ≡ true → plain (bearings ++ b ∷ []) ≡ plain bearings ++ b ∷ []
plain-push bearings b is_so = plain_last bearings b true is_so

pub plain-named : (bearings : List BearingView) (b : BearingView) → is_plain b ≡ false → plain (bearings ++ b ∷ []) ≡ plain bearings
plain-named bearings b is_not = plain_last bearings b false is_not ∙ append-nil (plain bearings)

-- a list without items
pub no_items : (numbers : List ℕ) → length numbers ≡ 0 → numbers ≡ []
no_items [] none = refl
no_items (number ∷ numbers) none = absurd (omega (arith, none))

-- the grant of a plain issue names no statements
pub plain_unnamed : (b : BearingView) → is_plain b ≡ true → b.grant.cited ≡ []
plain_unnamed b is_so = no_items b.grant.cited (eqb-true (length b.grant.cited) 0 is_so)

-- the first issues have at most as many plain ones as all
length_both : (test : Bool) (b : BearingView) (some all : List BearingView) → length some ≤ length all → length (cond test (b ∷ some) some) ≤ length (cond test (b ∷ all) all)
length_both true b some all fewer = omega (arith, fewer)
length_both false b some all fewer = fewer

pub plain_fewer : (place : ℕ) (bearings : List BearingView) → length (plain (take place bearings)) ≤ length (plain bearings)
plain_fewer zero bearings = omega arith
plain_fewer (suc place) [] = omega arith
plain_fewer (suc place) (b ∷ bearings) = length_both (is_plain b) b (plain (take place bearings)) (plain bearings) (plain_fewer place bearings)

-- ---- a grant that names no statements

-- is not that of an issue that is not plain
named_other : (b : BearingView) (g : GrantView) → is_plain b ≡ false → g.cited ≡ [] → HasOther g b
named_other b g is_not unnamed same = false≢true (sym is_not ∙ ap (λ (ns : List ℕ). length ns == 0) (ap (λ (w : GrantView). w.cited) same ∙ unnamed))

-- so if no plain issue has it, none has
module _ (g : GrantView) (unnamed : g.cited ≡ []) where
  unissued_parts : (test : Bool) (b : BearingView) (bearings : List BearingView) → is_plain b ≡ test → IsUnissued (cond test (b ∷ plain bearings) (plain bearings)) g → HasOther g b × IsUnissued (plain bearings) g
  unissued_parts true b bearings is none = (
    λ same. none 0 (record { bearing = b; at = refl; grant_is = same }),
    λ place has. none (suc place) (record { bearing = has.bearing; at = has.at; grant_is = has.grant_is }),
  )
  unissued_parts false b bearings is none = (named_other b g is unnamed, none)

  unissued_more : (b : BearingView) (bearings : List BearingView) → HasOther g b → IsUnissued bearings g → IsUnissued (b ∷ bearings) g
  unissued_more b bearings other none zero has = other (ap (λ (c : BearingView). c.grant) (same_Some b has.bearing has.at) ∙ has.grant_is)
  unissued_more b bearings other none (suc place) has = none place (record { bearing = has.bearing; at = has.at; grant_is = has.grant_is })

  unissued_empty : IsUnissued [] g
  unissued_empty place has = let found : slice_get [] place ≡ Some has.bearing = has.at in absurd cc

  pub unissued-plain : (bearings : List BearingView) → IsUnissued (plain bearings) g → IsUnissued bearings g
  unissued-plain [] none = unissued_empty
  unissued-plain (b ∷ bearings) none =
      let parts = unissued_parts (is_plain b) b bearings refl none in unissued_more b bearings parts.0 (unissued-plain bearings parts.1)

  -- and it stands as the plain issues say
  module _ (withdrawn : ℕ → Bool) where
    abbrev standing_from : GrantStanding → List BearingView → GrantStanding
    standing_from before bearings = fold (after_issue withdrawn g) before bearings

    standing_step : (test : Bool) (before : GrantStanding) (b : BearingView) (bearings : List BearingView) → is_plain b ≡ test → ((start : GrantStanding) → standing_from start (plain bearings) ≡ standing_from start bearings) →
        standing_from before (cond test (b ∷ plain bearings) (plain bearings)) ≡ standing_from before (b ∷ bearings)
    standing_step true before b bearings is rest = rest (after_issue withdrawn g before b)
    standing_step false before b bearings is rest =
        rest before ∙ ap (λ (s : GrantStanding). standing_from s bearings) (sym (after_other withdrawn g before b (named_other b g is unnamed)))

    standing_plain : (before : GrantStanding) (bearings : List BearingView) → standing_from before (plain bearings) ≡ standing_from before bearings
    standing_plain before [] = refl
    standing_plain before (b ∷ bearings) = standing_step (is_plain b) before b bearings refl (λ start. standing_plain start bearings)

    pub standing_of-plain : (bearings : List BearingView) → standing_of withdrawn g (plain bearings) ≡ standing_of withdrawn g bearings
    standing_of-plain bearings = standing_plain Unissued bearings
