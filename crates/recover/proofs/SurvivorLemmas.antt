-- What a crash leaves of a lawful history is opened, over plain values.
use Rattle.std.proofs.Common.{◌≡◌, ◌<◌, ℕ, List, [], ◌∷◌, length, take, drop, map, refl, sym, ap, subst, ◌∙◌, take-append-drop, Some, None}
use Rattle.std.specs.List.{AllByRecursion}
use Rattle.std.proofs.lemmas.List.{take-take}
use Rattle.journal_core.specs.Area.{area_bytes, IsArea}
use Rattle.journal_core.proofs.ReadingLemmas.{one_area}
use Rattle.journal_records.specs.declared.event.Event.{Event}
use Rattle.access_history.specs.Authority.{Authority}
use Rattle.access_history.specs.Base.{BaseView}
use Rattle.access_history.specs.Lawful.{IsLawful}
use Rattle.access_history.specs.Replay.{replay}
use Rattle.journal_records.specs.EventSpelling.{IsReadEvent}
use Rattle.op_gate.specs.declared.damage.Damage.{Damage}
use Rattle.pcfs_store.specs.Newest.{newest, Survives, SurvivesClosed}
use Rattle.pcfs_store.specs.StoredHistory.{payloads_of, Resumes, StandsFor}
use Rattle.recover.specs.AreaDamage.{IsDamagedArea}
use Rattle.recover.specs.Opening.{IsNewestClosed, IsNewestDamaged, IsNewestHistory}
use Rattle.journal_records.specs.Passes.{erase}
use Rattle.recover.proofs.FollowingLemmas.{back_lawful, erased_again, erased_history, front_lawful}
use Rattle.recover.proofs.LawLemmas.{lawful_area, one_history}

-- what resumes a lawful history is lawful
resumed_lawful : (authority : Authority) (base found_base : BaseView) (events found : List Event) (kept : ℕ) → IsLawful authority base events → Resumes found_base found base events kept → IsLawful authority found_base found
resumed_lawful authority base found_base events found kept lawful r =
    let here : IsLawful authority base (take kept events) = front_lawful authority base (take kept events) (drop kept events) (subst (IsLawful authority base) (sym (take-append-drop kept events)) lawful) in
    let later : IsLawful authority (replay base (take r.skipped (take kept events))) (drop r.skipped (take kept events)) =
    back_lawful authority base (take r.skipped (take kept events)) (drop r.skipped (take kept events)) (subst (IsLawful authority base) (sym (take-append-drop r.skipped (take kept events))) here) in
    let there : IsLawful authority found_base (drop r.skipped (take kept events)) =
    subst (λ (b : BaseView). IsLawful authority b (drop r.skipped (take kept events))) (ap (replay base) (take-take r.skipped kept events r.skipped_few) ∙ sym r.base_is) later in
    subst (IsLawful authority found_base) (sym r.events_are) (erased_history authority found_base (drop r.skipped (take kept events)) there)

-- what was read has no passes
erased_as_read : (events : List Event) → AllByRecursion IsReadEvent events → map erase events ≡ events
erased_as_read [] each = refl
erased_as_read (event ∷ events) each = ap (λ (e : Event). e ∷ map erase events) each.0.erased ∙ ap (λ (es : List Event). event ∷ es) (erased_as_read events each.1)

some_bytes : (first second : List ℕ) → Some first ≡ Some second → first ≡ second
some_bytes first second same = cc

module _ (authority : Authority) (base : BaseView) (events : List Event) (kept : ℕ) (x y : List ℕ) (lawful : IsLawful authority base events) (left : SurvivesClosed base events kept x y) where
  abbrev survivor : Survives base events kept x y
  survivor = left.survives

  pub survivor_counts : newest x y ≡ None → ⊥
  survivor_counts none = let other : Some survivor.bytes ≡ None = sym survivor.counts ∙ none in absurd cc

  pub survivor_lawful : (number : ℕ) (damage : Damage) → IsNewestDamaged authority number damage x y → ⊥
  survivor_lawful number damage is =
      lawful_area authority survivor.bytes survivor.generation survivor.found_base survivor.found number damage survivor.stands
      (resumed_lawful authority base survivor.found_base events survivor.found kept lawful survivor.resumes)
      (subst (λ (b : List ℕ). IsDamagedArea authority b number damage) (some_bytes is.bytes survivor.bytes (sym is.counts ∙ survivor.counts)) is.damaged)

  found_erased : map erase survivor.found ≡ survivor.found
  found_erased = ap (map erase) survivor.resumes.events_are ∙ erased_again (drop survivor.resumes.skipped (take kept events)) ∙ sym survivor.resumes.events_are

  pub survivor_opened : (generation : ℕ) (image : List ℕ) (found_base : BaseView) (found : List Event) → IsNewestHistory authority generation image found_base found x y →
      Resumes found_base found base events kept × IsNewestClosed generation image found x y
  survivor_opened generation image found_base found is =
      let bytes : is.bytes ≡ survivor.bytes = some_bytes is.bytes survivor.bytes (sym is.counts ∙ survivor.counts) in
      let same = one_history survivor.bytes survivor.generation generation survivor.found_base found_base survivor.found found survivor.stands
      (subst (λ (b : List ℕ). StandsFor b generation found_base found) bytes is.stands) in
      let areas = one_area survivor.bytes survivor.generation generation survivor.stands.image is.stands.image (payloads_of survivor.found) (payloads_of found) survivor.stands.is_area
      (subst (λ (b : List ℕ). IsArea b generation is.stands.image (payloads_of found)) bytes is.stands.is_area) in
      let events_are : survivor.found ≡ found = sym found_erased ∙ same.2 ∙ erased_as_read found is.each in (
        record {
          skipped = survivor.resumes.skipped;
          skipped_few = survivor.resumes.skipped_few;
          kept_few = survivor.resumes.kept_few;
          base_is = sym same.1 ∙ survivor.resumes.base_is;
          events_are = sym events_are ∙ survivor.resumes.events_are;
        },
        record {
          bytes = survivor.bytes;
          counts = survivor.counts;
          gate = subst (λ (g : ℕ). length (area_bytes g image (payloads_of found)) < length survivor.bytes) areas.0
              (subst (λ (i : List ℕ). length (area_bytes survivor.generation i (payloads_of found)) < length survivor.bytes) (areas.1 ∙ is.image_is)
              (subst (λ (payloads : List (List ℕ)). length (area_bytes survivor.generation survivor.stands.image payloads) < length survivor.bytes) areas.2 left.gate));
        },
      )
