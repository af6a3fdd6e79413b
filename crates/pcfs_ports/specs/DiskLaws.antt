-- The laws of a disk in memory, for its place among the disks.
use Rattle.std.proofs.Common.{◌≡◌, ℕ, ◌+◌, ◌-◌, ◌≤◌, min, List, [], ◌∷◌, ◌++◌, Some, None, length, take, drop, replicate, refl, ◌∙◌, ap, subst, inr, arith, append_assoc, length-append, length-take, length-drop}
use Rattle.std.proofs.lemmas.List.{take_at, drop_at, take_all, length-replicate}
use Rattle.pcfs_ports.specs.Disk.{written, Torn, TornFrom}
use Rattle.pcfs_ports.specs.MemoryDisk.{MemoryDiskView, image_after, left_after, disk_image, disk_clock, disk_left_since}
use Rattle.pcfs_ports.specs.declared.disk_call.DiskCall.{DiskCall}
use Rattle.pcfs_ports.specs.declared.disk_call.DiskCall.TheVariants.{Wrote, Synced}

-- the parts of an image after a write
module _ (at : ℕ) (piece image : List ℕ) where
  front : List ℕ
  front = take at image ++ replicate (at - length image) 0

  pub length-front : length (take at image ++ replicate (at - length image) 0) ≡ at
  length-front = omega (
    arith,
    length-append (take at image) (replicate (at - length image) 0),
    length-take at image,
    length-replicate {A = ℕ} (at - length image) 0,
  )

  pub drop_written : drop at (written at piece image) ≡ piece ++ drop (at + length piece) image
  drop_written =
      ap (drop at) (append_assoc (take at image ++ replicate (at - length image) 0) piece (drop (at + length piece) image))
      ∙ drop_at (take at image ++ replicate (at - length image) 0) (piece ++ drop (at + length piece) image) at length-front

  pub below_written : take (min at (length image)) (written at piece image) ≡ take at image
  below_written =
      let zeros = replicate (at - length image) 0 in
      let rest = drop (at + length piece) image in
      ap (take (min at (length image)))
      (append_assoc (take at image ++ zeros) piece rest ∙ append_assoc (take at image) zeros (piece ++ rest))
      ∙ take_at (take at image) (zeros ++ (piece ++ rest)) (min at (length image)) (length-take at image)

  pub above_written : drop (at + length piece) (written at piece image) ≡ drop (at + length piece) image
  above_written =
      drop_at (take at image ++ replicate (at - length image) 0 ++ piece) (drop (at + length piece) image) (at + length piece)
      (omega (arith, length-append (take at image ++ replicate (at - length image) 0) piece, length-front))

  pub length-written : length (written at piece image) ≡ at + length piece + (length image - (at + length piece))
  length-written =
      omega (
        arith,
        length-append (take at image ++ replicate (at - length image) 0 ++ piece) (drop (at + length piece) image),
        length-append (take at image ++ replicate (at - length image) 0) piece,
        length-front,
        length-drop (at + length piece) image,
      )

  pub torn_written : Torn at piece image (written at piece image)
  torn_written = record {
    below = below_written;
    above = above_written;
    no_shorter = omega (arith, length-written);
    single = λ one. inr (ap (take 1) drop_written ∙ take_at piece (drop (at + length piece) image) 1 one);
  }

-- the image is among what a crash may leave
image_left : (calls : List DiskCall) (image : List ℕ) (outcomes : List ℕ → Type 0) →
    outcomes image → left_after image outcomes calls (image_after image calls)
image_left [] image outcomes here = here
image_left (Wrote at piece ∷ calls) image outcomes here =
    image_left calls (written at piece image) (TornFrom at piece outcomes) (image, here, torn_written at piece image)
image_left (Synced ∷ calls) image outcomes here = image_left calls image (λ bytes. bytes ≡ image) refl

pub image_stays : (disk : MemoryDiskView) (bytes : List ℕ) → disk_image disk ≡ Some bytes →
    disk_left_since disk (disk_clock disk) bytes
image_stays disk bytes is =
    let all : take (length disk.made) disk.made ≡ disk.made = take_all (length disk.made) disk.made (omega arith) in
    let same : image_after disk.start disk.made ≡ bytes = cc in
    let left : left_after disk.start (λ begun. begun ≡ disk.start) (take (length disk.made) disk.made) (image_after disk.start disk.made) =
    rw all (image_left disk.made disk.start (λ begun. begun ≡ disk.start) refl) in
    (length disk.made, omega arith, omega arith, subst (left_after disk.start (λ begun. begun ≡ disk.start) (take (length disk.made) disk.made)) same left)

pub left_since_earlier : (disk : MemoryDiskView) (t u : ℕ) (bytes : List ℕ) → t ≤ u →
    disk_left_since disk u bytes → disk_left_since disk t bytes
left_since_earlier disk t u bytes le left = (left.0, omega (arith, le, left.1), left.2, left.3)

-- a disk that tells nothing has no image
pub untold : {P : Type 0} (bytes : List ℕ) → None ≡ Some bytes → P
untold bytes is = cc
