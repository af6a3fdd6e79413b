-- What the making of a store leaves.
use Rattle.std.proofs.Common.{◌≡◌, ℕ, ◌+◌, List, [], ◌∷◌, ◌++◌, length, get_or, Some, None, Bool, true, false, refl, sym, ◌∙◌, ap, subst, inl, inr, ⊎_elim, arith, ◌≤◌}
use Rattle.std.specs.Prelude.{Option, is_some, nat_lt, ◌==◌, ◌||◌, if◌then◌else◌}
use Rattle.std.specs.Option.{option_map}
use Rattle.std.specs.Int.{w64, from_be_bytes}
use Rattle.std.specs.Prelude.{take, drop, Result, Ok, Err, IfOk, IfErr, MatchResult}
use Rattle.std.proofs.lemmas.Bool.{ne_eqb}
use Rattle.pcfs_ports.specs.Disk.{written, IsPinned, Idles, LeavesOnly}
use Rattle.journal_core.specs.Area.{area_bytes, IsShut, generation_of}
use Rattle.journal_core.specs.AreaView.{AreaView}
use Rattle.journal_core.specs.Rest.{Rests, IsOldOrShutOrNew}
use Rattle.journal_core.proofs.AreaLemmas.{closed_written}
use Rattle.journal_core.proofs.RestsLemmas.{some_same}
use Rattle.policy_statement.specs.Ring.{KeyView}
use Rattle.op_gate.specs.Decision.{GateView}
use Rattle.journal_records.specs.declared.event.Event.{Event}
use Rattle.access_history.specs.Base.{BaseView}
use Rattle.access_history.specs.Replay.{fresh}
use Rattle.pcfs_store.specs.Image.{fresh_image, IsImageOf}
use Rattle.pcfs_store.specs.Newest.{newest, one_of, newer}
use Rattle.pcfs_store.specs.StoredHistory.{payloads_of}
use Rattle.pcfs_store.specs.StoreView.{StoreView, body_of}
use Rattle.pcfs_store.specs.Inside.{store_of}
use Rattle.pcfs_store.specs.Ready.{IsBehind, IsReady}
use Rattle.pcfs_store.specs.Formats.{IsNewStore, IsNoneOrFresh, PairsLeft}
use Rattle.pcfs_store.proofs.SurvivalLemmas.{IsTellable, survives_closed}
use Rattle.pcfs_store.proofs.ImageLemmas.{fresh_has_image}

-- an area that is shut has no generation, and one that has none is shut
pub none_shut : (bytes : List ℕ) → IsShut bytes → generation_of bytes ≡ None
none_shut bytes shut =
    ap (λ (b : Bool). if b then (if nat_lt (length bytes) 16 then Some 0 else Some (from_be_bytes w64 (take 8 (drop 8 bytes)))) else None) (ne_eqb (get_or bytes 0 0) 1 shut)

shut_none : (bytes : List ℕ) → is_some (generation_of bytes) ≡ false → IsShut bytes
shut_none bytes none is_open =
    absurd (opened (nat_lt (length bytes) 16) (from_be_bytes w64 (take 8 (drop 8 bytes)))
    (ap (λ (n : ℕ). is_some (if n == 1 then (if nat_lt (length bytes) 16 then Some 0 else Some (from_be_bytes w64 (take 8 (drop 8 bytes)))) else None)) (sym is_open) ∙ none))
  where
    opened : (short : Bool) (number : ℕ) → is_some (if short then Some 0 else Some number) ≡ false → ⊥
    opened true number e = cc
    opened false number e = cc

or_false : (x y : Bool) → (x || y) ≡ false → (x ≡ false) × (y ≡ false)
or_false false y e = (refl, e)
or_false true y e = absurd cc

-- neither of two areas is open
pub both_shut : (first second : List ℕ) → false ≡ (is_some (generation_of first) || is_some (generation_of second)) → IsShut first × IsShut second
both_shut first second e = let parts = or_false (is_some (generation_of first)) (is_some (generation_of second)) (sym e) in (shut_none first parts.0, shut_none second parts.1)

-- one of two areas is open
pub one_open : (first second : List ℕ) → true ≡ (is_some (generation_of first) || is_some (generation_of second)) → IsShut first × IsShut second → ⊥
one_open first second e shut = clash (e ∙ ap (λ (o : Option ℕ). is_some o || is_some (generation_of second)) (none_shut first shut.0) ∙ ap (λ (o : Option ℕ). is_some o) (none_shut second shut.1))
  where
    clash : true ≡ false → ⊥
    clash e = cc

fresh_tellable : IsTellable 1 fresh_image fresh [] 0
fresh_tellable = record {
  generated = record { low = omega arith; high = omega arith };
  within = omega arith;
  is_image = fresh_has_image;
  spelled = tt;
  fits = omega arith;
}

-- what a crash leaves on the first disk beside a second one that is shut
pub none_or_fresh : (old first second : List ℕ) → IsShut old → IsShut second → IsOldOrShutOrNew old (area_bytes 1 fresh_image []) first → IsNoneOrFresh first second
none_or_fresh old first second shut behind left =
    ⊎_elim
    (λ is_old. inl (none (subst IsShut (sym is_old) shut)))
    (λ other. ⊎_elim
    (λ is_shut. inl (none is_shut))
    (λ is_new. inr (survives_closed false first second 1 fresh_image fresh [] 0 fresh_tellable is_new (subst (IsBehind false 1) (sym (none_shut second behind)) tt)))
    other)
    left
  where
    none : IsShut first → newest first second ≡ None
    none is_shut =
        ap (λ (o : Option ℕ). option_map (one_of first second) (newer o (generation_of second))) (none_shut first is_shut)
        ∙ ap (λ (o : Option ℕ). option_map (one_of first second) (newer None o)) (none_shut second behind)

module _ {D : Type 0} (clock : D → ℕ) (left_since : D → ℕ → List ℕ → Type 0) (image : D → Option (List ℕ)) where
  -- bytes that a crash leaves of a disk that idles after nothing was pending
  idle_left : (old new : D) (bytes left : List ℕ) → image old ≡ Some bytes → IsPinned clock left_since image old → Idles clock left_since old new → left_since new (clock old) left → left ≡ bytes
  idle_left old new bytes left told pinned idles here = some_same left bytes (sym (pinned left (idles.no_more (clock old) left (omega arith) here)) ∙ told)

  -- a crash while both disks idle leaves neither area open
  pub idle_pairs : (a b new_a new_b : D) (first second : List ℕ) → image a ≡ Some first → image b ≡ Some second → IsPinned clock left_since image a → IsPinned clock left_since image b →
      IsShut first → IsShut second → Idles clock left_since a new_a → Idles clock left_since b new_b → PairsLeft clock left_since IsNoneOrFresh a b new_a new_b
  idle_pairs a b new_a new_b first second told_a told_b pinned_a pinned_b shut_a shut_b idles_a idles_b x y left_x left_y =
      none_or_fresh first x y shut_a (subst IsShut (sym (idle_left b new_b second y told_b pinned_b idles_b left_y)) shut_b)
      (inl (idle_left a new_a first x told_a pinned_a idles_a left_x))

  -- the same while an area is made on the first
  pub format_pairs : (a b mid_a new_a new_b : D) (first second : List ℕ) → image a ≡ Some first → image b ≡ Some second → IsPinned clock left_since image a → IsPinned clock left_since image b →
      IsShut first → IsShut second → Idles clock left_since a mid_a → Idles clock left_since b new_b → LeavesOnly clock left_since mid_a new_a (IsOldOrShutOrNew first (area_bytes 1 fresh_image [])) →
      PairsLeft clock left_since IsNoneOrFresh a b new_a new_b
  format_pairs a b mid_a new_a new_b first second told_a told_b pinned_a pinned_b shut_a shut_b idles_a idles_b leaves x y left_x left_y =
      none_or_fresh first x y shut_a (subst IsShut (sym (idle_left b new_b second y told_b pinned_b idles_b left_y)) shut_b)
      (⊎_elim
      (λ before. inl (idle_left a mid_a first x told_a pinned_a idles_a before))
      (λ now. now)
      (leaves.since (clock a) x idles_a.later left_x))

  -- the disk of a new store is at rest
  pub new_rests : (a : D) (active : AreaView D) (other : D) (gate : GateView) (s : StoreView D) (first : List ℕ) → s ≡ record (store_of active other false 1 fresh_image gate [] None) { met = None } → gate.events ≡ [] →
      image active.disk ≡ option_map (written 0 (area_bytes 1 fresh_image [] ++ 0 ∷ [])) (image a) → IsPinned clock left_since image active.disk → image a ≡ Some first → Rests clock left_since image s.active (body_of s)
  new_rests a active other gate s first is none made pinned told =
      subst (λ (new : StoreView D). Rests clock left_since image new.active (body_of new)) (sym is)
      (subst (λ (events : List Event). Rests clock left_since image active.disk (area_bytes 1 fresh_image (payloads_of events))) (sym none)
      (record {
        bytes = written 0 (area_bytes 1 fresh_image [] ++ 0 ∷ []) first;
        told = made ∙ ap (option_map (written 0 (area_bytes 1 fresh_image [] ++ 0 ∷ []))) told;
        closed = closed_written [] (area_bytes 1 fresh_image []) first refl;
        pinned = pinned;
      }))

  -- ---- what was made

  module _ {F : Type 0} (a b mid_a mid_b : D) where
    pub format_ready : (key : List ℕ) (ring : List KeyView) (made : Result (StoreView D) (F × D × D)) → image mid_a ≡ image a → image mid_b ≡ image b → IsPinned clock left_since image mid_b →
        ((first second : List ℕ) → image a ≡ Some first → image b ≡ Some second → IsShut first × IsShut second) →
        IfOk made (IsNewStore key ring) → IfOk made (λ s. (first : List ℕ) → image mid_a ≡ Some first → Rests clock left_since image s.active (body_of s)) →
        MatchResult made (λ s. s.other ≡ mid_b) (λ e. e.2 ≡ mid_b) →
        IfOk made (λ s. (first second : List ℕ) → image a ≡ Some first → image b ≡ Some second → IsReady clock left_since image s)
    format_ready key ring (Ok s) same_a same_b pinned_b shut new rests is_b = λ first second told_a told_b. record {
      running = new.running;
      rests = rests first (same_a ∙ told_a);
      other_bytes = second;
      other_told = ap image is_b ∙ same_b ∙ told_b;
      other_pinned = subst (IsPinned clock left_since image) (sym is_b) pinned_b;
      behind = subst (IsBehind s.second_active s.generation) (sym (none_shut second (shut first second told_a told_b).1)) tt;
    }
    format_ready key ring (Err e) same_a same_b pinned_b shut new rests is_b = tt

    pub format_any_moment : (made : Result (StoreView D) (F × D × D)) (first second : List ℕ) → image a ≡ Some first → image b ≡ Some second → IsPinned clock left_since image a → IsPinned clock left_since image b →
        IsShut first → IsShut second → Idles clock left_since a mid_a → Idles clock left_since b mid_b →
        MatchResult made (λ s. LeavesOnly clock left_since mid_a s.active (IsOldOrShutOrNew first (area_bytes 1 fresh_image []))) (λ e. LeavesOnly clock left_since mid_a e.1 (IsOldOrShutOrNew first (area_bytes 1 fresh_image []))) →
        MatchResult made (λ s. s.other ≡ mid_b) (λ e. e.2 ≡ mid_b) →
        MatchResult made (λ s. PairsLeft clock left_since IsNoneOrFresh a b s.active s.other) (λ e. PairsLeft clock left_since IsNoneOrFresh a b e.1 e.2)
    format_any_moment (Ok s) first second told_a told_b pinned_a pinned_b shut_a shut_b idles_a idles_b leaves is_b =
        format_pairs a b mid_a s.active s.other first second told_a told_b pinned_a pinned_b shut_a shut_b idles_a (subst (λ (d : D). Idles clock left_since b d) (sym is_b) idles_b) leaves
    format_any_moment (Err e) first second told_a told_b pinned_a pinned_b shut_a shut_b idles_a idles_b leaves is_b =
        format_pairs a b mid_a e.1 e.2 first second told_a told_b pinned_a pinned_b shut_a shut_b idles_a (subst (λ (d : D). Idles clock left_since b d) (sym is_b) idles_b) leaves

  pub format_shut : {F : Type 0} (a b : D) (made : Result (StoreView D) (F × D × D)) → ((first second : List ℕ) → image a ≡ Some first → image b ≡ Some second → IsShut first × IsShut second) →
      IfOk made (λ s. (first second : List ℕ) → image a ≡ Some first → image b ≡ Some second → IsShut first × IsShut second)
  format_shut a b (Ok s) shut = shut
  format_shut a b (Err e) shut = tt

  -- ---- what is only read

  none_from : (told : Option (List ℕ)) → is_some told ≡ false → told ≡ None
  none_from None e = refl
  none_from (Some bytes) e = absurd cc

  -- a disk that idles after nothing was pending has its bytes
  pub idle_kept : ((disk : D) (t u : ℕ) (bytes : List ℕ) → t ≤ u → left_since disk u bytes → left_since disk t bytes) → ((disk : D) (bytes : List ℕ) → image disk ≡ Some bytes → left_since disk (clock disk) bytes) →
      (old new : D) → is_some (image new) ≡ is_some (image old) → IsPinned clock left_since image old → Idles clock left_since old new → image new ≡ image old
  idle_kept earlier may_stay old new told pinned idles = by (image new) refl
    where
      by : (now : Option (List ℕ)) → image new ≡ now → image new ≡ image old
      by None is = is ∙ sym (none_from (image old) (sym told ∙ ap is_some is))
      by (Some bytes) is = is ∙ sym (pinned bytes (idles.no_more (clock old) bytes (omega arith) (earlier new (clock old) (clock new) bytes idles.later (may_stay new bytes is))))

  module _ {F : Type 0} (b mid_b : D) (idles_b : Idles clock left_since b mid_b) where
    pub format_b_time : (made : Result (StoreView D) (F × D × D)) → MatchResult made (λ s. s.other ≡ mid_b) (λ e. e.2 ≡ mid_b) → MatchResult made (λ s. Idles clock left_since b s.other) (λ e. Idles clock left_since b e.2)
    format_b_time (Ok s) is_b = subst (λ (d : D). Idles clock left_since b d) (sym is_b) idles_b
    format_b_time (Err e) is_b = subst (λ (d : D). Idles clock left_since b d) (sym is_b) idles_b

    pub format_b_later : (made : Result (StoreView D) (F × D × D)) → MatchResult made (λ s. s.other ≡ mid_b) (λ e. e.2 ≡ mid_b) → MatchResult made (λ s. clock b ≤ clock s.other) (λ e. clock b ≤ clock e.2)
    format_b_later (Ok s) is_b = subst (λ (d : D). clock b ≤ clock d) (sym is_b) idles_b.later
    format_b_later (Err e) is_b = subst (λ (d : D). clock b ≤ clock d) (sym is_b) idles_b.later

    pub format_b_kept : (made : Result (StoreView D) (F × D × D)) → (IsPinned clock left_since image b → image mid_b ≡ image b) → MatchResult made (λ s. s.other ≡ mid_b) (λ e. e.2 ≡ mid_b) →
        IfErr made (λ e. IsPinned clock left_since image b → image e.2 ≡ image b)
    format_b_kept (Ok s) kept is_b = tt
    format_b_kept (Err e) kept is_b = λ pinned. ap image is_b ∙ kept pinned

  module _ {F : Type 0} (a b mid_a : D) (shut : (first second : List ℕ) → image a ≡ Some first → image b ≡ Some second → IsShut first × IsShut second) where
    pub format_a_time : (made : Result (StoreView D) (F × D × D)) →
        IfErr made (λ e. (first second : List ℕ) → image a ≡ Some first → image b ≡ Some second → (IsShut first × IsShut second → ⊥) → Idles clock left_since a e.1)
    format_a_time (Ok s) = tt
    format_a_time (Err e) = λ first second told_a told_b is_open. absurd (is_open (shut first second told_a told_b))

    pub format_kept : (made : Result (StoreView D) (F × D × D)) →
        IfErr made (λ e. (first second : List ℕ) → image a ≡ Some first → image b ≡ Some second → (IsShut first × IsShut second → ⊥) → IsPinned clock left_since image a → IsPinned clock left_since image b →
        (image e.1 ≡ image a) × (image e.2 ≡ image b))
    format_kept (Ok s) = tt
    format_kept (Err e) = λ first second told_a told_b is_open _ _. absurd (is_open (shut first second told_a told_b))

  pub format_a_later : {F : Type 0} (a mid_a : D) (made : Result (StoreView D) (F × D × D)) (first : List ℕ) → clock a ≤ clock mid_a →
      MatchResult made (λ s. LeavesOnly clock left_since mid_a s.active (IsOldOrShutOrNew first (area_bytes 1 fresh_image []))) (λ e. LeavesOnly clock left_since mid_a e.1 (IsOldOrShutOrNew first (area_bytes 1 fresh_image []))) →
      MatchResult made (λ s. clock a ≤ clock s.active) (λ e. clock a ≤ clock e.1)
  format_a_later a mid_a (Ok s) first later leaves = omega (arith, later, leaves.later)
  format_a_later a mid_a (Err e) first later leaves = omega (arith, later, leaves.later)

-- ---- the gate of a new store

pub new_has_image : (gate : GateView) → gate.base ≡ fresh → IsImageOf gate.base fresh_image
new_has_image gate is = subst (λ (b : BaseView). IsImageOf b fresh_image) (sym is) fresh_has_image

pub new_used : (gate : GateView) (end : ℕ) → gate.events ≡ [] → end ≡ length fresh_image + 24 → end ≡ length (area_bytes 1 fresh_image (payloads_of gate.events))
new_used gate end none is =
    subst (λ (events : List Event). end ≡ length (area_bytes 1 fresh_image (payloads_of events))) (sym none) (let same : length fresh_image + 24 ≡ length (area_bytes 1 fresh_image []) = refl in is ∙ same)
