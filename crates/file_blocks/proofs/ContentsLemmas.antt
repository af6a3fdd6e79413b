-- Contents that begin a list of which the rest is zero: what a write, a new length and a read make of them.
use Rattle.std.proofs.Common.{◌≡◌, ℕ, ◌+◌, ◌-◌, ◌<◌, ◌≤◌, min, max, inl, inr, List, [], ◌∷◌, ◌++◌, length, take, drop, replicate, sym, ap, ◌∙◌, arith, append_assoc, append-nil, length-append, length-take}
use Rattle.std.proofs.lemmas.Bool.{cases_lt}
use Rattle.std.proofs.lemmas.List.{take_at, drop_at, take_all, drop_all, take-take, drop-drop, drop-take, take-append-drop, take-append-le, drop-append-le, length-take-le}
use Rattle.std.proofs.Math.Seq.{take-add}
use Rattle.file_world.specs.TreeEffect.{write_at, resize_to, bytes_in}
use Rattle.file_world.proofs.EffectLemmas.{length-written}
use Rattle.file_blocks.specs.Blocks.{over, zeros}
use Rattle.file_blocks.proofs.OverLemmas.{take-parts, drop-parts, zeros-is, length-zeros, zeros-append, take-zeros, drop-zeros, over-is}

-- the list begins with so many bytes, and the rest of it is zero
pub record BeginsZero (all : List ℕ) (len room : ℕ) : Type 0 where
  pub long : length all ≡ room
  pub within : len ≤ room
  pub zero_after : drop len all ≡ zeros (room - len)

-- the two parts of it
parts_of : (all : List ℕ) (len room : ℕ) → BeginsZero all len room → all ≡ take len all ++ zeros (room - len)
parts_of all len room b = sym (take-append-drop len all) ∙ ap (λ (s : List ℕ). take len all ++ s) b.zero_after

pub length-front : (all : List ℕ) (len room : ℕ) → BeginsZero all len room → length (take len all) ≡ len
length-front all len room b = length-take-le len all (let a = b.long in let c = b.within in omega (arith, a, c))

-- ---- writing

pub write_fits : (old : List ℕ) (offset : ℕ) (bytes : List ℕ) (room : ℕ) → 0 < length bytes → length (write_at old offset bytes) ≤ room → offset + length bytes ≤ room
write_fits old offset [] room some fits = absurd (omega (arith, some))
write_fits old offset (byte ∷ bytes) room some fits = let l = length-written old offset byte bytes in omega (arith, fits, l)

-- bytes over the two parts are a write to the first
over_parts : (old : List ℕ) (rest offset : ℕ) (bytes : List ℕ) → 0 < length bytes → offset + length bytes ≤ length old + rest → over (old ++ zeros rest) offset bytes ≡ write_at old offset bytes ++ zeros (rest - (offset + length bytes - length old))
over_parts old rest offset [] some fits = absurd (omega (arith, some))
over_parts old rest offset (byte ∷ more) some fits =
    let bytes : List ℕ = byte ∷ more in
    let end : ℕ = offset + length bytes in
    let front : List ℕ = take offset old in
    let gap : ℕ = offset - length old in
    let back : List ℕ = drop end old in
    let left : List ℕ = zeros (rest - (end - length old)) in
    let t : take offset (old ++ zeros rest) ≡ front ++ zeros gap = take-parts offset old (zeros rest) ∙ ap (λ (s : List ℕ). front ++ s) (take-zeros gap rest (omega (arith, fits, some))) in
    let d : drop end (old ++ zeros rest) ≡ back ++ left = drop-parts end old (zeros rest) ∙ ap (λ (s : List ℕ). back ++ s) (drop-zeros (end - length old) rest) in
    over-is (old ++ zeros rest) offset bytes
    ∙ (ap (λ (s : List ℕ). s ++ (bytes ++ drop end (old ++ zeros rest))) t
    ∙ (ap (λ (s : List ℕ). (front ++ zeros gap) ++ (bytes ++ s)) d
    ∙ (sym (append_assoc ((front ++ zeros gap) ++ bytes) back left ∙ append_assoc (front ++ zeros gap) bytes (back ++ left))
    ∙ ap (λ (s : List ℕ). front ++ s ++ bytes ++ back ++ left) (zeros-is gap))))

length_written : (old : List ℕ) (offset : ℕ) (bytes : List ℕ) → 0 < length bytes → length (write_at old offset bytes) ≡ max (length old) (offset + length bytes)
length_written old offset [] some = absurd (omega (arith, some))
length_written old offset (byte ∷ bytes) some = length-written old offset byte bytes

pub record Writes (all new : List ℕ) (len room offset : ℕ) (bytes : List ℕ) : Type 0 where
  pub front : take (max len (offset + length bytes)) new ≡ write_at (take len all) offset bytes
  pub begins : BeginsZero new (max len (offset + length bytes)) room

pub written : (all new : List ℕ) (len room offset : ℕ) (bytes : List ℕ) → BeginsZero all len room → 0 < length bytes → offset + length bytes ≤ room → new ≡ over all offset bytes → length new ≡ room → Writes all new len room offset bytes
written all new len room offset bytes b some fits e long =
    let old : List ℕ = take len all in
    let rest : ℕ = room - len in
    let lo : length old ≡ len = length-front all len room b in
    let top : ℕ = max len (offset + length bytes) in
    let within = b.within in
    let n : rest - (offset + length bytes - length old) ≡ room - top = omega (arith, lo, within, fits) in
    let made : List ℕ = write_at old offset bytes in
    let lm : length made ≡ top = (let l = length_written old offset bytes some in omega (arith, l, lo)) in
    let is : new ≡ made ++ zeros (room - top) =
    e ∙ (ap (λ (s : List ℕ). over s offset bytes) (parts_of all len room b)
    ∙ (over_parts old rest offset bytes some (omega (arith, lo, within, fits))
    ∙ ap (λ (k : ℕ). made ++ zeros k) n)) in
    record {
      front = ap (take top) is ∙ take_at made (zeros (room - top)) top lm;
      begins = record {
        long = long;
        within = omega (arith, within, fits);
        zero_after = ap (drop top) is ∙ drop_at made (zeros (room - top)) top lm;
      };
    }

-- ---- a new length

pub record Resizes (all new : List ℕ) (len room n : ℕ) : Type 0 where
  pub front : take n new ≡ resize_to (take len all) n
  pub begins : BeginsZero new n room

pub filled_up : (all : List ℕ) (len room n : ℕ) → BeginsZero all len room → len ≤ n → n ≤ room → Resizes all all len room n
filled_up all len room n b longer fits =
    let old : List ℕ = take len all in
    let rest : ℕ = room - len in
    let lo : length old ≡ len = length-front all len room b in
    let within = b.within in
    let is : all ≡ old ++ zeros rest = parts_of all len room b in
    let k : rest - (n - length old) ≡ room - n = omega (arith, lo, within, longer, fits) in
    record {
      front = ap (take n) is ∙ (take-parts n old (zeros rest)
          ∙ (ap (λ (s : List ℕ). take n old ++ s) (take-zeros (n - length old) rest (omega (arith, lo, within, fits)))
          ∙ ap (λ (s : List ℕ). take n old ++ s) (zeros-is (n - length old))));
      begins = record {
        long = b.long;
        within = fits;
        zero_after = ap (drop n) is ∙ (drop-parts n old (zeros rest)
            ∙ (ap (λ (s : List ℕ). s ++ drop (n - length old) (zeros rest)) (drop_all n old (omega (arith, lo, longer)))
            ∙ (drop-zeros (n - length old) rest ∙ ap zeros k)));
      };
    }

pub cut_short : (all new : List ℕ) (len room more n : ℕ) → BeginsZero all len room → n ≤ len → new ≡ take n all ++ zeros (more - n) → n ≤ more → Resizes all new len more n
cut_short all new len room more n b shorter e fits =
    let old : List ℕ = take len all in
    let lo : length old ≡ len = length-front all len room b in
    let within = b.within in
    let long = b.long in
    let ln : length (take n all) ≡ n = length-take-le n all (omega (arith, within, long, shorter)) in
    let none : n - length old ≡ 0 = omega (arith, lo, shorter) in
    let la = length-append (take n all) (zeros (more - n)) in
    let lz = length-zeros (more - n) in
    record {
      front = ap (take n) e ∙ (take_at (take n all) (zeros (more - n)) n ln
          ∙ (sym (take-take n len all shorter)
          ∙ sym (ap (λ (k : ℕ). take n old ++ replicate k 0) none ∙ append-nil (take n old))));
      begins = record {
        long = ap length e ∙ (let l : length (take n all ++ zeros (more - n)) ≡ more = omega (arith, la, lz, ln, fits) in l);
        within = fits;
        zero_after = ap (drop n) e ∙ drop_at (take n all) (zeros (more - n)) n ln;
      };
    }

-- the bytes that are kept, and zero bytes up to the end of the last block
pub wiped : (all : List ℕ) (len whole : ℕ) → len ≤ whole → whole ≤ length all → over (take whole all) len (zeros (whole - len)) ≡ take len all ++ zeros (whole - len)
wiped all len whole le within =
    let fill : List ℕ = zeros (whole - len) in
    let lz = length-zeros (whole - len) in
    let lw : length (take whole all) ≡ whole = length-take-le whole all within in
    over-is (take whole all) len fill
    ∙ (ap (λ (s : List ℕ). s ++ (fill ++ drop (len + length fill) (take whole all))) (take-take len whole all le)
    ∙ (ap (λ (s : List ℕ). take len all ++ (fill ++ s)) (drop_all (len + length fill) (take whole all) (omega (arith, lz, lw, le)))
    ∙ ap (λ (s : List ℕ). take len all ++ s) (append-nil fill)))

-- more zero bytes at the end
pub more_zeros : (all new : List ℕ) (len room more : ℕ) → BeginsZero all len room → new ≡ all ++ zeros more → (take len new ≡ take len all) × BeginsZero new len (room + more)
more_zeros all new len room more b e =
    let within = b.within in
    let long = b.long in
    let la = length-append all (zeros more) in
    let lz = length-zeros more in
    let k : room - len + more ≡ room + more - len = omega (arith, within) in
    let le : len ≤ length all = omega (arith, within, long) in (
      ap (take len) e ∙ take-append-le len all (zeros more) le,
      record {
        long = ap length e ∙ (let l : length (all ++ zeros more) ≡ room + more = omega (arith, la, lz, long) in l);
        within = omega (arith, within);
        zero_after = ap (drop len) e ∙ (drop-append-le len all (zeros more) le
            ∙ (ap (λ (s : List ℕ). s ++ zeros more) b.zero_after
            ∙ (zeros-append (room - len) more ∙ ap zeros k)));
      },
    )

-- ---- reading

-- a part is read, and the rest after it is still to be read
pub read_more : (all out was part : List ℕ) (at end n : ℕ) → part ≡ take n (drop at all) → at + n ≤ end → out ++ take (end - at) (drop at all) ≡ was → (out ++ part) ++ take (end - (at + n)) (drop (at + n) all) ≡ was
read_more all out was part at end n is fits h =
    let rest : List ℕ = drop at all in
    let m : ℕ = end - (at + n) in
    let k : n + m ≡ end - at = omega (arith, fits) in
    append_assoc out part (take m (drop (at + n) all))
    ∙ (ap (λ (s : List ℕ). out ++ (s ++ take m (drop (at + n) all))) is
    ∙ (ap (λ (s : List ℕ). out ++ (take n rest ++ take m s)) (sym (drop-drop n at all))
    ∙ (ap (λ (s : List ℕ). out ++ s) (sym (take-add n m rest) ∙ ap (λ (j : ℕ). take j rest) k)
    ∙ h)))

pub read_all : (all out was : List ℕ) (at end : ℕ) → end ≤ at → out ++ take (end - at) (drop at all) ≡ was → out ≡ was
read_all all out was at end over h =
    let none : end - at ≡ 0 = omega (arith, over) in
    sym (ap (λ (k : ℕ). out ++ take k (drop at all)) none ∙ append-nil out) ∙ h

length-take_le : (n : ℕ) (xs : List ℕ) → length (take n xs) ≤ n
length-take_le n xs = let l = length-take n xs in omega (arith, l)

-- what is read of the list is the part of the contents
pub part_of : (all : List ℕ) (len offset n start end : ℕ) → len ≤ length all → start ≡ min offset len → end ≡ start + min n (len - start) → take (end - start) (drop start all) ≡ bytes_in (take len all) offset n
part_of all len offset n start end within s e =
    elim (cases_lt len offset) [
      | inl past ↦
          let none : end - start ≡ 0 = omega (arith, s, e, past) in
          let ll : length (take len all) ≡ len = length-take-le len all within in
          let nothing : List ℕ = [] in
          ap (λ (k : ℕ). take k (drop start all)) none
          ∙ sym (ap (take n) (drop_all offset (take len all) (omega (arith, ll, past))) ∙ take_all n nothing (omega arith))
      | inr le ↦
          let at : start ≡ offset = omega (arith, s, le) in
          let k : offset + (len - offset) ≡ len = omega (arith, le) in
          let rest : List ℕ = drop offset all in
          let there : drop offset (take len all) ≡ take (len - offset) rest = sym (ap (λ (j : ℕ). drop offset (take j all)) k) ∙ drop-take offset (len - offset) all in
          ap (λ (j : ℕ). take (end - start) (drop j all)) at
          ∙ (elim (cases_lt n (len - offset)) [
            | inl short ↦
                let c : end - start ≡ n = omega (arith, s, e, le, short) in
                ap (λ (j : ℕ). take j rest) c ∙ sym (take-take n (len - offset) rest (omega (arith, short)))
            | inr long ↦
                let c : end - start ≡ len - offset = omega (arith, s, e, le, long) in
                let lr : length (take (len - offset) rest) ≤ n = (let a = length-take_le (len - offset) rest in omega (arith, a, long)) in
                ap (λ (j : ℕ). take j rest) c ∙ sym (take_all n (take (len - offset) rest) lr)
          ]
          ∙ ap (take n) (sym there))
    ]
