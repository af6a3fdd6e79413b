-- What a crash that a test asks for leaves is among what a crash may leave.
use Rattle.std.proofs.Common.{◌≡◌, ℕ, ◌+◌, ◌-◌, ◌≤◌, ◌<◌, ◌==◌, ◌⊎◌, min, Bool, true, false, cond, List, [], ◌∷◌, ◌++◌, length, take, drop, replicate, get_or, refl, sym, ◌∙◌, ap, inl, inr, arith, eq-eqb, append_assoc, length-append, length-take, length-drop}
use Rattle.std.proofs.lemmas.List.{take_at, drop_at, drop-drop, at_drop_more, take_all, length-replicate}
use Rattle.pcfs_ports.specs.Disk.{written, written_after_gap, Torn, TornFrom}
use Rattle.pcfs_ports.specs.MemoryDisk.{MemoryDiskView, image_by, left_after, disk_clock, disk_left_since}
use Rattle.pcfs_ports.specs.Stopped.{stopped_piece, stopped_by, stopped_after, stopped_image}
use Rattle.pcfs_ports.specs.declared.disk_call.DiskCall.{DiskCall}
use Rattle.pcfs_ports.specs.declared.disk_call.DiskCall.TheVariants.{Wrote, Synced}

-- the parts of an image after a piece was put there, with this byte in the gap
module _ (gap at : ℕ) (here image : List ℕ) where
  abbrev front : List ℕ
  front = take at image ++ replicate (at - length image) gap

  length-front : length (take at image ++ replicate (at - length image) gap) ≡ at
  length-front = omega (arith, length-append (take at image) (replicate (at - length image) gap), length-take at image, length-replicate {A = ℕ} (at - length image) gap)

  drop_put : drop at (written_after_gap gap at here image) ≡ here ++ drop (at + length here) image
  drop_put =
      ap (drop at) (append_assoc front here (drop (at + length here) image))
      ∙ drop_at front (here ++ drop (at + length here) image) at length-front

  below_put : take (min at (length image)) (written_after_gap gap at here image) ≡ take at image
  below_put =
      let gaps = replicate (at - length image) gap in
      let rest = drop (at + length here) image in
      ap (take (min at (length image)))
      (append_assoc (take at image ++ gaps) here rest ∙ append_assoc (take at image) gaps (here ++ rest))
      ∙ take_at (take at image) (gaps ++ (here ++ rest)) (min at (length image)) (length-take at image)

  above_put : drop (at + length here) (written_after_gap gap at here image) ≡ drop (at + length here) image
  above_put =
      drop_at (front ++ here) (drop (at + length here) image) (at + length here)
      (omega (arith, length-append front here, length-front))

  length-put : length (written_after_gap gap at here image) ≡ at + length here + (length image - (at + length here))
  length-put =
      omega (
        arith,
        length-append (front ++ here) (drop (at + length here) image),
        length-append front here,
        length-front,
        length-drop (at + length here) image,
      )

  -- no longer than the piece that was written
  torn_put : (piece : List ℕ) → length here ≤ length piece →
      (length piece ≡ 1 → (take 1 (drop at (written_after_gap gap at here image)) ≡ take 1 (drop at image)) ⊎ (take 1 (drop at (written_after_gap gap at here image)) ≡ piece)) →
      Torn at piece image (written_after_gap gap at here image)
  torn_put piece within single =
      let more = length piece - length here in
      let is : at + length piece ≡ at + length here + more = omega (arith, within) in
      record {
        below = below_put;
        above =
            ap (λ (n : ℕ). drop n (written_after_gap gap at here image)) is
            ∙ sym (drop-drop more (at + length here) (written_after_gap gap at here image))
            ∙ ap (drop more) above_put
            ∙ drop-drop more (at + length here) image
            ∙ sym (ap (λ (n : ℕ). drop n image) is);
        no_shorter = omega (arith, length-put);
        single = single;
      }

module _ (fill at : ℕ) (piece image : List ℕ) where
  -- what is put in place of the piece, for both answers to whether it is one byte
  abbrev put_if : Bool → Bool → List ℕ
  put_if is_one kept = written_after_gap fill at (cond is_one (cond kept piece []) (replicate (length piece) fill)) image

  torn_kept : Torn at piece image (put_if true true)
  torn_kept =
      torn_put fill at piece image piece (omega arith)
      (λ one. inr (ap (take 1) (drop_put fill at piece image) ∙ take_at piece (drop (at + length piece) image) 1 one))

  torn_lost : Torn at piece image (put_if true false)
  torn_lost =
      let same : at + 0 ≡ at = omega arith in
      torn_put fill at [] image piece (omega arith)
      (λ one. inl (ap (take 1) (drop_put fill at [] image ∙ ap (λ (n : ℕ). drop n image) same)))

  torn_filled : (length piece == 1) ≡ false → (kept : Bool) → Torn at piece image (put_if false kept)
  torn_filled not_one kept =
      torn_put fill at (replicate (length piece) fill) image piece (omega (arith, length-replicate {A = ℕ} (length piece) fill))
      (λ one. let is = eq-eqb (length piece) 1 one in cc)

  torn_one : (kept : Bool) → Torn at piece image (put_if true kept)
  torn_one true = torn_kept
  torn_one false = torn_lost

  torn_stopped : (kept : Bool) → Torn at piece image (written_after_gap fill at (stopped_piece fill kept piece) image)
  torn_stopped kept =
      elim (length piece == 1) as (λ b. (length piece == 1) ≡ b → Torn at piece image (put_if b kept)) [
        | true ↦ λ _. torn_one kept
        | false ↦ λ not_one. torn_filled not_one kept
      ] refl

-- the crash is one that may come
module _ (fill : ℕ) (kept : Bool) where
  stopped_left : (calls : List DiskCall) (image left : List ℕ) (outcomes : List ℕ → Type 0) → outcomes left →
      left_after image outcomes calls (stopped_after fill kept image left calls)
  stopped_left [] image left outcomes here = here
  stopped_left (Wrote at piece ∷ calls) image left outcomes here =
      stopped_left calls (written at piece image) (written_after_gap fill at (stopped_piece fill kept piece) left) (TornFrom at piece outcomes)
      (left, here, torn_stopped fill at piece left kept)
  stopped_left (Synced ∷ calls) image left outcomes here = stopped_left calls image image (λ bytes. bytes ≡ image) refl

  pub stopped_may_be_left : (disk : MemoryDiskView) → disk_left_since disk (disk_clock disk) (stopped_image fill kept disk)
  stopped_may_be_left disk =
      let all : take (length disk.made) disk.made ≡ disk.made = take_all (length disk.made) disk.made (omega arith) in
      (length disk.made, omega arith, omega arith, rw all (stopped_left disk.made disk.start disk.start (λ begun. begun ≡ disk.start) refl))

-- one more call of a list that is gone through
pub stopped_more : (fill : ℕ) (kept : Bool) (image left new_image new_left : List ℕ) (made : List DiskCall) (i : ℕ) (call : DiskCall) (whole : List ℕ) →
    i < length made → call ≡ get_or made i call → new_image ≡ image_by call image → new_left ≡ stopped_by fill kept call image left →
    stopped_after fill kept image left (drop i made) ≡ whole → stopped_after fill kept new_image new_left (drop (i + 1) made) ≡ whole
stopped_more fill kept image left new_image new_left made i call whole within is image_is left_is so_far =
    let more : stopped_after fill kept image left (drop i made) ≡ stopped_after fill kept image left (get_or made i call ∷ drop (i + 1) made) = at_drop_more (stopped_after fill kept image left) made i call within in
    let rest = drop (i + 1) made in
    ap (λ (l : List ℕ). stopped_after fill kept l new_left rest) image_is
    ∙ ap (λ (l : List ℕ). stopped_after fill kept (image_by call image) l rest) left_is
    ∙ ap (λ (one : DiskCall). stopped_after fill kept image left (one ∷ rest)) is
    ∙ sym more
    ∙ so_far
