-- What one more call does to the clock of a disk in memory, and to what a crash may leave.
use Rattle.std.proofs.Common.{◌≡◌, ◌⊎◌, ℕ, ◌+◌, ◌-◌, ◌≤◌, List, [], ◌∷◌, ◌++◌, Some, length, take, drop, replicate, refl, sym, ◌∙◌, ap, subst, inl, inr, ⊎_elim, arith, append_assoc, length-append}
use Rattle.std.proofs.lemmas.Bool.{cases_lt}
use Rattle.std.proofs.lemmas.List.{append-nil, take_all, take_min, drop_all, take-append-le, take-replicate, length-replicate}
use Rattle.std.proofs.Math.Seq.{take-append-add}
use Rattle.pcfs_ports.specs.Disk.{written_after_gap, Torn, TornFrom, LeftNow, Elapses, Idles, IsPinned}
use Rattle.pcfs_ports.specs.MemoryDisk.{MemoryDiskView, image_by, image_after, left_by, left_after, disk_image, disk_clock, disk_left_since}
use Rattle.pcfs_ports.specs.DiskLaws.{image_stays, left_since_earlier}
use Rattle.pcfs_ports.specs.declared.disk_call.DiskCall.{DiskCall}
use Rattle.pcfs_ports.specs.declared.disk_call.DiskCall.TheVariants.{Wrote, Synced}

-- a crash before the write was begun
pub torn_not : (at : ℕ) (piece image : List ℕ) → Torn at piece image image
torn_not at piece image = record {
  below = take_min at image;
  above = refl;
  no_shorter = omega arith;
  single = λ _. inl refl;
}

-- an image that was filled up with one byte to the end of a range, and overwritten there
module _ (gap at len : ℕ) (image : List ℕ) where
  abbrev grown : List ℕ
  grown = image ++ replicate (at + len - length image) gap

  grown_front : take at grown ≡ take at image ++ replicate (at - length image) gap
  grown_front =
      elim (cases_lt at (length image)) [
        | inl lt ↦ take-append-le at image (replicate (at + len - length image) gap) (omega (arith, lt))
            ∙ sym (ap (λ (n : ℕ). take at image ++ replicate n gap) (let none : at - length image ≡ 0 = omega (arith, lt) in none) ∙ append-nil (take at image))
        | inr le ↦ ap (λ (n : ℕ). take n grown) (let is : at ≡ length image + (at - length image) = omega (arith, le) in is)
            ∙ take-append-add image (replicate (at + len - length image) gap) (at - length image)
            ∙ ap (λ (l : List ℕ). image ++ l) (take-replicate (at - length image) (at + len - length image) gap (omega arith))
            ∙ ap (λ (l : List ℕ). l ++ replicate (at - length image) gap) (sym (take_all at image le))
      ]

  grown_back : drop (at + len) grown ≡ drop (at + len) image
  grown_back =
      elim (cases_lt (at + len) (length image)) [
        | inl lt ↦ ap (λ (n : ℕ). drop (at + len) (image ++ replicate n gap)) (let none : at + len - length image ≡ 0 = omega (arith, lt) in none)
            ∙ ap (drop (at + len)) (append-nil image)
        | inr le ↦ drop_all (at + len) grown (omega (arith, le, length-append image (replicate (at + len - length image) gap), length-replicate {A = ℕ} (at + len - length image) gap))
            ∙ sym (drop_all (at + len) image le)
      ]

pub grown_written : (gap at len : ℕ) (here image : List ℕ) → length here ≡ len →
    take at (image ++ replicate (at + len - length image) gap) ++ (here ++ drop (at + len) (image ++ replicate (at + len - length image) gap)) ≡ written_after_gap gap at here image
grown_written gap at len here image is =
    ap (λ (l : List ℕ). l ++ (here ++ drop (at + len) (grown gap at len image))) (grown_front gap at len image)
    ∙ ap (λ (l : List ℕ). take at image ++ replicate (at - length image) gap ++ (here ++ l)) (grown_back gap at len image)
    ∙ sym (append_assoc (take at image ++ replicate (at - length image) gap) here (drop (at + len) image))
    ∙ ap (λ (n : ℕ). take at image ++ replicate (at - length image) gap ++ here ++ drop (at + n) image) (sym is)

-- one more call at the end
pub image_push : (calls : List DiskCall) (call : DiskCall) (image : List ℕ) → image_after image (calls ++ call ∷ []) ≡ image_by call (image_after image calls)
image_push [] call image = refl
image_push (first ∷ calls) call image = image_push calls call (image_by first image)

left_push : (calls : List DiskCall) (call : DiskCall) (image : List ℕ) (outcomes : List ℕ → Type 0) (bytes : List ℕ) →
    left_after image outcomes (calls ++ call ∷ []) bytes → left_by call (image_after image calls) (left_after image outcomes calls) bytes
left_push [] call image outcomes bytes left = left
left_push (first ∷ calls) call image outcomes bytes left = left_push calls call (image_by first image) (left_by first image outcomes) bytes left

-- what a crash may leave of a disk that began with these bytes, after these calls
abbrev Left : List ℕ → List DiskCall → List ℕ → Type 0
Left start calls bytes = left_after start (λ begun. begun ≡ start) calls bytes

moved : (start other : List ℕ) (calls more : List DiskCall) (bytes : List ℕ) → start ≡ other → calls ≡ more → Left start calls bytes → Left other more bytes
moved start other calls more bytes same_start same_calls left =
    subst (λ (s : List ℕ). Left s more bytes) same_start (subst (λ (cs : List DiskCall). Left start cs bytes) same_calls left)

-- a call that changed neither start nor record
module _ (old new : MemoryDiskView) (same_start : new.start ≡ old.start) (same_made : new.made ≡ old.made) where
  forth : (t : ℕ) (bytes : List ℕ) → disk_left_since old t bytes → disk_left_since new t bytes
  forth t bytes left =
      (left.0, left.1, omega (arith, left.2, ap length same_made), moved old.start new.start (take left.0 old.made) (take left.0 new.made) bytes (sym same_start) (ap (take left.0) (sym same_made)) left.3)

  back : (t : ℕ) (bytes : List ℕ) → disk_left_since new t bytes → disk_left_since old t bytes
  back t bytes left =
      (left.0, left.1, omega (arith, left.2, ap length same_made), moved new.start old.start (take left.0 new.made) (take left.0 old.made) bytes same_start (ap (take left.0) same_made) left.3)

  pub same_idles : Idles disk_clock disk_left_since old new
  same_idles = record {
    later = omega (arith, ap length same_made);
    kept = λ t bytes le left. forth t bytes left;
    no_more = λ t bytes le left. back t bytes left;
  }

  pub same_elapses : Elapses disk_clock disk_left_since old new
  same_elapses = record {
    later = omega (arith, ap length same_made);
    kept = λ t bytes le left. forth t bytes left;
    since = λ t bytes le left. inl (back t bytes left);
  }

  pub same_torn : (at : ℕ) (piece bytes : List ℕ) → LeftNow disk_clock disk_left_since new bytes → TornFrom at piece (LeftNow disk_clock disk_left_since old) bytes
  same_torn at piece bytes left =
      (bytes, back (disk_clock old) bytes (left_since_earlier new (disk_clock old) (disk_clock new) bytes (omega (arith, ap length same_made)) left), torn_not at piece bytes)

-- one more call
module _ (old new : MemoryDiskView) (call : DiskCall) (same_start : new.start ≡ old.start) (more : new.made ≡ old.made ++ call ∷ []) where
  length-more : length new.made ≡ length old.made + 1
  length-more = ap length more ∙ length-append old.made (call ∷ [])

  front : (done : ℕ) → done ≤ length old.made → take done new.made ≡ take done old.made
  front done within = ap (take done) more ∙ take-append-le done old.made (call ∷ []) within

  keeps : (t : ℕ) (bytes : List ℕ) → disk_left_since old t bytes → disk_left_since new t bytes
  keeps t bytes left =
      (left.0, left.1, omega (arith, left.2, length-more), moved old.start new.start (take left.0 old.made) (take left.0 new.made) bytes (sym same_start) (sym (front left.0 left.2)) left.3)

  -- what a crash may leave now
  pub last : (done : ℕ) (bytes : List ℕ) → length new.made ≤ done → Left new.start (take done new.made) bytes →
      left_by call (image_after old.start old.made) (Left old.start old.made) bytes
  last done bytes all left =
      left_push old.made call old.start (λ begun. begun ≡ old.start) bytes
      (moved new.start old.start (take done new.made) (old.made ++ call ∷ []) bytes same_start (take_all done new.made all ∙ more) left)

  either : (t : ℕ) (bytes : List ℕ) → (left : disk_left_since new t bytes) → disk_left_since old t bytes ⊎ (length new.made ≤ left.0)
  either t bytes left =
      elim (cases_lt left.0 (length new.made)) [
        | inl lt ↦ let within : left.0 ≤ length old.made = omega (arith, lt, length-more) in
            inl (left.0, left.1, within, moved new.start old.start (take left.0 new.made) (take left.0 old.made) bytes same_start (front left.0 within) left.3)
        | inr le ↦ inr le
      ]

  pub more_elapses : Elapses disk_clock disk_left_since old new
  more_elapses = record {
    later = omega (arith, length-more);
    kept = λ t bytes le left. keeps t bytes left;
    since = λ t bytes le left. ⊎_elim (λ before. inl before) (λ now. inr (left.0, now, left.2, left.3)) (either t bytes left);
  }

  pub image_more : image_after new.start new.made ≡ image_by call (image_after old.start old.made)
  image_more = ap (λ (s : List ℕ). image_after s new.made) same_start ∙ ap (image_after old.start) more ∙ image_push old.made call old.start

pub wrote_torn : (old new : MemoryDiskView) (at : ℕ) (piece : List ℕ) → new.start ≡ old.start → new.made ≡ old.made ++ Wrote at piece ∷ [] →
    (bytes : List ℕ) → LeftNow disk_clock disk_left_since new bytes → TornFrom at piece (LeftNow disk_clock disk_left_since old) bytes
wrote_torn old new at piece same_start more bytes left =
    let torn = last old new (Wrote at piece) same_start more left.0 bytes left.1 left.3 in
    (torn.0, (length old.made, omega arith, omega arith, moved old.start old.start old.made (take (length old.made) old.made) torn.0 refl (sym (take_all (length old.made) old.made (omega arith))) torn.1), torn.2)

module _ (old new : MemoryDiskView) (same_start : new.start ≡ old.start) (more : new.made ≡ old.made ++ Synced ∷ []) where
  pub synced_image : disk_image new ≡ disk_image old
  synced_image = ap Some (image_more old new Synced same_start more)

  pub synced_pinned : IsPinned disk_clock disk_left_since disk_image new
  synced_pinned bytes left =
      let is = last old new Synced same_start more left.0 bytes left.1 left.3 in
      synced_image ∙ ap Some (sym is)

  pub synced_idles : Idles disk_clock disk_left_since old new
  synced_idles = record {
    later = omega (arith, length-more old new Synced same_start more);
    kept = λ t bytes le left. keeps old new Synced same_start more t bytes left;
    no_more = λ t bytes le left. ⊎_elim (λ before. before)
        (λ now. left_since_earlier old t (disk_clock old) bytes le (image_stays old bytes (ap Some (sym (last old new Synced same_start more left.0 bytes now left.3)))))
        (either old new Synced same_start more t bytes left);
  }
