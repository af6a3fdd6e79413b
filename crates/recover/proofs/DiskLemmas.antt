-- Disks that are read and synced, over plain values.
use Rattle.std.proofs.Common.{◌≡◌, ◌≤◌, ℕ, List, refl, sym, ap, ◌∙◌, arith, Some, None}
use Rattle.std.specs.Prelude.{Option, is_some, false, Result, Ok, Err, OnOk}
use Rattle.pcfs_ports.specs.Disk.{IsPinned, Idles}
use Rattle.pcfs_ports.specs.Faults.{HasRisen}
use Rattle.journal_core.proofs.RestsLemmas.{idle_then_idle}
use Rattle.recover.specs.Opening.{IsHandled, IsRead}

none_told : (told : Option (List ℕ)) → is_some told ≡ false → told ≡ None
none_told None e = refl
none_told (Some bytes) e = absurd cc

pub on_ok_weaker : {A E : Type 0} (P Q : Type 0) (r : Result A E) → (P → Q) → OnOk r P → OnOk r Q
on_ok_weaker P Q (Ok x) weaker holds = weaker holds
on_ok_weaker P Q (Err x) weaker holds = tt

-- a count that rose and then did not fall has risen, and so has one that did not fall before it rose
pub risen_then : (a b c : ℕ) → HasRisen a b → b ≤ c → HasRisen a c
risen_then a b c rose later below = let first = rose (omega (arith, later, below)) in omega (arith, first, later)

pub then_risen : (a b c : ℕ) → a ≤ b → HasRisen b c → HasRisen a c
then_risen a b c earlier rose below = let second = rose below in omega (arith, earlier, second)

module _ {D : Type 0} (clock : D → ℕ) (left_since : D → ℕ → List ℕ → Type 0) (image : D → Option (List ℕ)) (faults : D → ℕ)
    (earlier : (disk : D) (t u : ℕ) (b : List ℕ) → t ≤ u → left_since disk u b → left_since disk t b)
    (may_stay : (disk : D) (b : List ℕ) → image disk ≡ Some b → left_since disk (clock disk) b) where
  -- where nothing was pending, and no call wrote, the bytes are as they were
  image_stays : (old new : D) (told : Option (List ℕ)) → image new ≡ told → is_some (image new) ≡ is_some (image old) → Idles clock left_since old new → IsPinned clock left_since image old → image new ≡ image old
  image_stays old new None is same time pinned = is ∙ sym (none_told (image old) (sym same ∙ ap is_some is))
  image_stays old new (Some b) is same time pinned =
      is ∙ sym (pinned b (time.no_more (clock old) b (omega arith) (earlier new (clock old) (clock new) b time.later (may_stay new b is))))

  pub handled : (old new : D) → is_some (image new) ≡ is_some (image old) → Idles clock left_since old new → faults old ≤ faults new → IsHandled clock left_since image faults old new
  handled old new same time falls = record { told = same; time = time; stays = image_stays old new (image new) refl same time; never_falls = falls }

  pub handled_then : (old mid new : D) → IsHandled clock left_since image faults old mid → IsHandled clock left_since image faults mid new → IsHandled clock left_since image faults old new
  handled_then old mid new first second =
      handled old new (second.told ∙ first.told) (idle_then_idle clock left_since old mid new first.time second.time) (omega (arith, first.never_falls, second.never_falls))

  pub was_read : (old new : D) → is_some (image new) ≡ is_some (image old) → Idles clock left_since old new → faults old ≤ faults new → image new ≡ image old → IsPinned clock left_since image new → faults new ≡ faults old → IsRead clock left_since image faults old new
  was_read old new told time falls same pinned no_fault = record { handled = handled old new told time falls; same = same; pinned = pinned; no_fault = no_fault }

  pub read_then : (old mid new : D) → IsRead clock left_since image faults old mid → IsRead clock left_since image faults mid new → IsRead clock left_since image faults old new
  read_then old mid new first second = record { handled = handled_then old mid new first.handled second.handled; same = second.same ∙ first.same; pinned = second.pinned; no_fault = second.no_fault ∙ first.no_fault }
