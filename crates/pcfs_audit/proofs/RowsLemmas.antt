-- The rows of a history, event by event.
use Rattle.std.proofs.Common.{◌≡◌, ◌<◌, ℕ, List, [], ◌∷◌, ◌++◌, length, refl, sym, ap, subst, ◌∙◌, inl, inr, ⊎_elim, append_assoc, true, false, arith}
use Rattle.std.specs.Prelude.{Contains}
use Rattle.std.specs.List.{AllByRecursion}
use Rattle.std.proofs.lemmas.List.{length-append}
use Rattle.std.proofs.lemmas.List.Elements.{Contains-append_left, Contains-append_right, Contains-push, Contains-push_cases}
use Rattle.bl_syntax.proofs.GrantLemmas.{Contains-head}
use Rattle.journal_records.specs.declared.event.Event.{Event}
use Rattle.access_history.specs.Authority.{Authority}
use Rattle.access_history.specs.Base.{BaseView}
use Rattle.access_history.specs.Replay.{replay}
use Rattle.pcfs_audit.specs.declared.report.Finding.{Finding}
use Rattle.pcfs_audit.specs.declared.report.Finding.TheVariants.{Unsigned, Unproved, NotAdmitted, MomentFalls, Unissued}
use Rattle.pcfs_audit.specs.declared.report.ReportRow.{ReportRow}
use Rattle.pcfs_audit.specs.Finding.{IsClearOf, IsSound, IsClean, IsFound, all_findings, wrong_findings, is_wrong}
use Rattle.pcfs_audit.specs.Report.{AreRows, AreSound, DoRowsRise, HasRowOf, IsRow, number_after}
use Rattle.pcfs_audit.proofs.SplitLemmas.{parted, past_one, nothing_parted}

-- ---- what findings say

-- what is sound is clear of what is wrong
clear_sound : (authority : Authority) (state : BaseView) (event : Event) (finding : Finding) → is_wrong finding ≡ true → IsSound authority state event → IsClearOf authority state event finding
clear_sound authority state event Unsigned wrong sound = sound.0
clear_sound authority state event Unproved wrong sound = sound.1.0
clear_sound authority state event NotAdmitted wrong sound = sound.1.1.1.0
clear_sound authority state event MomentFalls wrong sound = sound.1.1.0
clear_sound authority state event Unissued wrong sound = absurd cc

-- an event with which something is wrong is not sound
pub not_sound : (authority : Authority) (state : BaseView) (event : Event) (finding : Finding) → IsFound authority state event finding → is_wrong finding ≡ true → IsSound authority state event → ⊥
not_sound authority state event finding found wrong sound = found.first.fails (clear_sound authority state event finding wrong sound)

four_before : (P : Finding → Type 0) (before behind : List Finding) → all_findings ≡ before ++ Unissued ∷ behind → AllByRecursion P before → AllByRecursion P wrong_findings
four_before P [] behind same all = absurd cc
four_before P (a ∷ []) behind same all = absurd cc
four_before P (a ∷ b ∷ []) behind same all = absurd cc
four_before P (a ∷ b ∷ c ∷ []) behind same all = absurd cc
four_before P (a ∷ b ∷ c ∷ d ∷ others) behind same all =
    let first : a ≡ Unsigned = cc in
    let second : b ≡ Unproved = cc in
    let third : c ≡ MomentFalls = cc in
    let fourth : d ≡ NotAdmitted = cc in
    (subst P first all.0, (subst P second all.1.0, (subst P third all.1.1.0, (subst P fourth all.1.1.1.0, tt))))

-- an event of which only a grant was not issued before is sound
pub sound_unissued : (authority : Authority) (state : BaseView) (event : Event) → IsFound authority state event Unissued → IsSound authority state event
sound_unissued authority state event found = four_before (IsClearOf authority state event) found.first.before found.first.behind found.first.parts found.first.holds_before

-- what is clean is sound
pub sound_clean : (authority : Authority) (state : BaseView) (event : Event) → IsClean authority state event → IsSound authority state event
sound_clean authority state event clean = (clean.0, (clean.1.0, (clean.1.1.0, (clean.1.1.1.0, tt))))

-- ---- soundness of several events

module _ (authority : Authority) (base : BaseView) where
  pub AreSound-none : AreSound authority base []
  AreSound-none = λ earlier later event parts. absurd (nothing_parted earlier event later parts)

  pub AreSound-more : (events : List Event) (event : Event) → AreSound authority base events → IsSound authority (replay base events) event → AreSound authority base (events ++ event ∷ [])
  AreSound-more events event sound here = λ earlier later item parts.
      ⊎_elim
      (λ within. sound earlier within.more item within.first_is)
      (λ past.
      let at = past_one earlier item later events event past in
      subst (λ (xs : List Event). IsSound authority (replay base xs) item) (sym at.0) (subst (IsSound authority (replay base events)) (sym at.1) here))
      (parted earlier item later events (event ∷ []) (sym parts))

  pub AreSound-front : (events later : List Event) → AreSound authority base (events ++ later) → AreSound authority base events
  AreSound-front events later sound = λ earlier rest item parts.
      sound earlier (rest ++ later) item (ap (λ (xs : List Event). xs ++ later) parts ∙ append_assoc earlier (item ∷ rest) later)

  pub AreSound-at : (events : List Event) (event : Event) → AreSound authority base (events ++ event ∷ []) → IsSound authority (replay base events) event
  AreSound-at events event sound = sound events [] event refl

  -- ---- rows

  IsRow-more : (events later : List Event) (row : ReportRow) → IsRow authority base events row → IsRow authority base (events ++ later) row
  IsRow-more events later row is = record {
    earlier = is.earlier;
    later = is.later ++ later;
    event = is.event;
    parts = ap (λ (xs : List Event). xs ++ later) is.parts ∙ append_assoc is.earlier (is.event ∷ is.later) later;
    number_is = is.number_is;
    sound_before = is.sound_before;
    found = is.found;
  }

  row_below : (events : List Event) (row : ReportRow) → IsRow authority base events row → row.event < number_after base events
  row_below events row is = omega (arith, is.number_is, ap length is.parts, length-append is.earlier (is.event ∷ is.later))

  DoRowsRise-push : (rows : List ReportRow) (new : ReportRow) → DoRowsRise rows → ((row : ReportRow) → Contains rows row → row.event < new.event) → DoRowsRise (rows ++ new ∷ [])
  DoRowsRise-push [] new rise below = tt
  DoRowsRise-push (first ∷ []) new rise below = (below first (Contains-head first first [] refl), tt)
  DoRowsRise-push (first ∷ second ∷ others) new rise below =
      (rise.0, DoRowsRise-push (second ∷ others) new rise.1 (λ row here. below row (Contains-append_right (first ∷ []) (second ∷ others) row here)))

  pub AreRows-none : AreRows authority base [] []
  AreRows-none = record {
    rising = tt;
    right = λ row here. absurd (omega (arith, here.1));
    none_missing = λ earlier later event parts sound. absurd (nothing_parted earlier event later parts);
  }

  -- nothing is found with one more event
  pub AreRows-clean : (events : List Event) (event : Event) (rows : List ReportRow) → AreRows authority base events rows → IsClean authority (replay base events) event → AreRows authority base (events ++ event ∷ []) rows
  AreRows-clean events event rows are clean = record {
    rising = are.rising;
    right = λ row here. IsRow-more events (event ∷ []) row (are.right row here);
    none_missing = λ earlier later item parts sound.
        ⊎_elim
        (λ within. are.none_missing earlier within.more item within.first_is sound)
        (λ past.
        let at = past_one earlier item later events event past in
        inl (subst (λ (xs : List Event). IsClean authority (replay base xs) item) (sym at.0) (subst (IsClean authority (replay base events)) (sym at.1) clean)))
        (parted earlier item later events (event ∷ []) (sym parts));
  }

  HasRowOf-more : (rows : List ReportRow) (new : ReportRow) (number : ℕ) → HasRowOf rows number → HasRowOf (rows ++ new ∷ []) number
  HasRowOf-more rows new number has = record { finding = has.finding; among = Contains-append_left rows (new ∷ []) (record { event = number; finding = has.finding }) has.among }

  -- something is found with one more event
  pub AreRows-found : (events : List Event) (event : Event) (rows : List ReportRow) (finding : Finding) → AreRows authority base events rows → AreSound authority base events → IsFound authority (replay base events) event finding →
      AreRows authority base (events ++ event ∷ []) (rows ++ record { event = number_after base events; finding = finding } ∷ [])
  AreRows-found events event rows finding are sound found =
      let new : ReportRow = record { event = number_after base events; finding = finding } in
      let is : IsRow authority base (events ++ event ∷ []) new =
      record { earlier = events; later = []; event = event; parts = refl; number_is = refl; sound_before = sound; found = found } in
      record {
        rising = DoRowsRise-push rows new are.rising (λ row here. row_below events row (are.right row here));
        right = λ row here.
            ⊎_elim
            (λ among. IsRow-more events (event ∷ []) row (are.right row among))
            (λ same. subst (IsRow authority base (events ++ event ∷ [])) same is)
            (Contains-push_cases rows new row here);
        none_missing = λ earlier later item parts sound_before.
            ⊎_elim
            (λ within.
            ⊎_elim (λ clean. inl clean) (λ has. inr (HasRowOf-more rows new (number_after base earlier) has)) (are.none_missing earlier within.more item within.first_is sound_before))
            (λ past.
            let at = past_one earlier item later events event past in
            inr (subst (λ (xs : List Event). HasRowOf (rows ++ new ∷ []) (number_after base xs)) (sym at.0) (record { finding = finding; among = Contains-push rows new })))
            (parted earlier item later events (event ∷ []) (sym parts));
      }

  -- nothing counts after events with which something is wrong
  pub AreRows-ended : (events later : List Event) (rows : List ReportRow) → AreRows authority base events rows → (AreSound authority base events → ⊥) → AreRows authority base (events ++ later) rows
  AreRows-ended events later rows are wrong = record {
    rising = are.rising;
    right = λ row here. IsRow-more events later row (are.right row here);
    none_missing = λ earlier rest item parts sound.
        ⊎_elim
        (λ within. are.none_missing earlier within.more item within.first_is sound)
        (λ past. absurd (wrong (AreSound-front events past.more (subst (AreSound authority base) past.earlier_is sound))))
        (parted earlier item rest events later (sym parts));
  }

-- an event with which nothing wrong is found is sound
pub sound_right : (authority : Authority) (state : BaseView) (event : Event) (finding : Finding) → is_wrong finding ≡ false → IsFound authority state event finding → IsSound authority state event
sound_right authority state event Unsigned right found = absurd cc
sound_right authority state event Unproved right found = absurd cc
sound_right authority state event NotAdmitted right found = absurd cc
sound_right authority state event MomentFalls right found = absurd cc
sound_right authority state event Unissued right found = sound_unissued authority state event found
