-- What the taking of a payload promises, by what the store does.
use Rattle.std.proofs.Common.{◌≡◌, ◌≢◌, ◌<◌, ◌≤◌, ℕ, List, Some, None, refl, sym, ap, subst, inl, inr, ⊎_elim}
use Rattle.std.specs.Prelude.{Option, Err, Bool, true, false, IsTrue, IsSome, ◌↔◌}
use Rattle.bl_syntax.specs.declared.codec_fault.CodecFault.{CodecFault}
use Rattle.bl_syntax.specs.declared.codec_fault.CodecFault.TheVariants as codec
use Rattle.journal_records.specs.declared.event.Event.{Event}
use Rattle.access_history.proofs.PassLemmas.{pass_none}
use Rattle.journal_records.specs.EventReading.{ReadsWholeEvent}
use Rattle.op_gate.specs.declared.damage.Damage.TheVariants.{Shape}
use Rattle.pcfs_store.specs.declared.reply.Admitted.{Admitted}
use Rattle.pcfs_store.specs.declared.reply.Admitted.TheVariants as admissions
use Rattle.pcfs_store.specs.StoreView.{StoreView, IsStore}
use Rattle.pcfs_store.specs.Admitting.{Admits, MayEnter, LeavesAdmitting, Admitting}
use Rattle.pcfs_store.specs.Admitting as admits
use Rattle.pcfs_store.proofs.StepLemmas.{unchanged}
use Rattle.recover.specs.AreaDamage.{no_event, of_event}
use Rattle.follower.specs.declared.taking.Taken.{Taken}
use Rattle.follower.specs.declared.taking.Taken.TheVariants.{Known, Missing, Damaged, Stopped, NoMemory}
use Rattle.follower.specs.Taking.{IsPayloadOf, IsNextEvent, Takes, stopped, known, missing, damaged, full, failed, kept, without_memory, LeavesTaking, Taking, last_number, next_number, taken_of}

stopped_of : (admitted : Admitted) → taken_of admitted ≡ Stopped → admitted ≡ admissions.Stopped
stopped_of admissions.Kept e = absurd cc
stopped_of (admissions.Damaged damage) e = absurd cc
stopped_of admissions.Full e = absurd cc
stopped_of admissions.Stopped e = refl
stopped_of admissions.NoMemory e = absurd cc

-- ---- whether a disk failed before

pub runs_from : (o : Option ℕ) (is_stopped : Bool) → is_stopped ≡ false → IsTrue is_stopped ↔ IsSome o → o ≡ None
runs_from None is_stopped no_stop tie = refl
runs_from (Some pass) is_stopped no_stop tie = absurd (clash is_stopped no_stop (tie.1 refl))
  where
    clash : (b : Bool) → b ≡ false → b ≡ true → ⊥
    clash b is_false is_true = cc

module _ {D : Type 0} (clock : D → ℕ) (left_since : D → ℕ → List ℕ → Type 0) (image : D → Option (List ℕ)) (faults : D → ℕ) (old : StoreView D) (number : ℕ) (payload : List ℕ) where
  -- ---- nothing is kept

  pub untaken : (result : Taken) → IsStore old → Takes faults old number payload result old → (old.stop ≡ None → result ≡ Stopped → ⊥) → Taking clock left_since image faults old number payload result old
  untaken result store takes runs = unchanged clock left_since image faults (Takes faults old number payload) (LeavesTaking old number payload) Stopped old result store takes (λ x y whole. inl whole) runs

  pub stopped_before : (earlier : ℕ) → IsStore old → old.stop ≡ Some earlier → Taking clock left_since image faults old number payload Stopped old
  stopped_before earlier store is = untaken Stopped store (stopped earlier is) (λ runs _. clash old.stop runs is)
    where
      clash : (o : Option ℕ) → o ≡ None → o ≡ Some earlier → ⊥
      clash o none some = cc

  pub was_known : IsStore old → old.stop ≡ None → number ≤ last_number old → Taking clock left_since image faults old number payload Known old
  was_known store runs few = untaken Known store (known runs few) (λ _ e. unlike e)
    where
      unlike : Known ≡ Stopped → ⊥
      unlike e = cc

  pub is_missing : IsStore old → old.stop ≡ None → next_number old < number → Taking clock left_since image faults old number payload (Missing (next_number old)) old
  is_missing store runs more = untaken (Missing (next_number old)) store (missing runs more) (λ _ e. unlike e)
    where
      unlike : Missing (next_number old) ≡ Stopped → ⊥
      unlike e = cc

  -- the payload was not read
  pub unread_taken : (fault : CodecFault) (result : Taken) → IsStore old → old.stop ≡ None → number ≡ next_number old → (fault ≡ codec.NoMemory → result ≡ NoMemory) → (fault ≢ codec.NoMemory → result ≡ Damaged Shape) →
      ReadsWholeEvent payload (Err fault) → Taking clock left_since image faults old number payload result old
  unread_taken fault result store runs numbered memory other reads = by fault memory other reads
    where
      unlike : Damaged Shape ≡ Stopped → ⊥
      unlike e = cc

      unlike_memory : NoMemory ≡ Stopped → ⊥
      unlike_memory e = cc

      is_damaged : (f : CodecFault) → (f ≡ codec.NoMemory → ⊥) → (f ≢ codec.NoMemory → result ≡ Damaged Shape) → ReadsWholeEvent payload (Err f) → Taking clock left_since image faults old number payload result old
      is_damaged f not_memory told read =
          subst (λ (r : Taken). Taking clock left_since image faults old number payload r old) (sym (told not_memory))
          (untaken (Damaged Shape) store (damaged Shape runs numbered (no_event (read.refused not_memory))) (λ _ e. unlike e))

      by : (f : CodecFault) → (f ≡ codec.NoMemory → result ≡ NoMemory) → (f ≢ codec.NoMemory → result ≡ Damaged Shape) → ReadsWholeEvent payload (Err f) → Taking clock left_since image faults old number payload result old
      by codec.Short m o r = is_damaged codec.Short (λ e. cc) o r
      by (codec.BadTag at) m o r = is_damaged (codec.BadTag at) (λ e. cc) o r
      by (codec.NotCanonical at) m o r = is_damaged (codec.NotCanonical at) (λ e. cc) o r
      by (codec.TooLarge at) m o r = is_damaged (codec.TooLarge at) (λ e. cc) o r
      by codec.NoMemory m o r =
          subst (λ (t : Taken). Taking clock left_since image faults old number payload t old) (sym (m refl)) (untaken NoMemory store (without_memory runs numbered) (λ _ e. unlike_memory e))

  -- ---- the event was admitted, or not

  module _ (event : Event) (payload_is : IsPayloadOf event payload) (numbered : number ≡ next_number old) (runs : old.stop ≡ None) where
    next : MayEnter old event → IsNextEvent old number payload event
    next may = record { numbered = numbered; payload_is = payload_is; enters = may }

    takes : (admitted : Admitted) (new : StoreView D) → Admits faults old event admitted new → Takes faults old number payload (taken_of admitted) new
    takes _ _ (admits.kept active running may fits stood) = kept event active running (next may) fits stood
    takes _ _ (admits.damaged damage running is) = damaged damage running numbered (of_event event damage payload_is.read payload_is.spelled is)
    takes _ _ (admits.full running may is_full) = full event running (next may) is_full
    takes _ _ (admits.failed active running may fits risen) =
        subst (λ (p : ℕ). Takes faults old number payload Stopped (record old { active = active; stop = Some p; met = Some event })) (sym (pass_none event payload_is.read.erased))
        (failed event active running (next may) fits risen)
    takes _ _ (admits.stopped earlier is) = stopped earlier is
    takes _ _ (admits.without_memory running) = without_memory running numbered

    leave : (x y : List ℕ) → LeavesAdmitting old event x y → LeavesTaking old number payload x y
    leave x y left = ⊎_elim (λ without. inl without) (λ with_it. inr (event, next with_it.0, with_it.1)) left

    pub taken_by : (admitted : Admitted) (new : StoreView D) → Admitting clock left_since image faults old event admitted new → Taking clock left_since image faults old number payload (taken_of admitted) new
    taken_by admitted new a = record {
      answer = takes admitted new a.answer;
      stays_ready = λ is_ready goes. a.stays_ready is_ready (λ is. goes (ap taken_of is));
      stays_kept = a.stays_kept;
      stays_current = λ current goes. a.stays_current current (λ is. goes (ap taken_of is));
      makes_ready = a.makes_ready;
      any_moment = λ is_ready x y left_x left_y. leave x y (a.any_moment is_ready x y left_x left_y);
      met = λ is_ready is. a.met is_ready (stopped_of admitted is);
      met_at_rest = λ rest is. a.met_at_rest rest (stopped_of admitted is);
      first_told = a.first_told;
      second_told = a.second_told;
      first_never_falls = a.first_never_falls;
      second_never_falls = a.second_never_falls;
    }
