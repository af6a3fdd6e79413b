-- Whole blocks and a tail after them: what a step on one of the two makes of both.
use Rattle.std.proofs.Common.{◌≡◌, ℕ, ◌+◌, ◌-◌, ◌*◌, ◌^◌, ◌<◌, ◌≤◌, min, inl, inr, List, [], ◌∷◌, ◌++◌, length, take, drop, sym, ap, ◌∙◌, subst, arith, append_assoc, append-nil, length-append, length-drop}
use Rattle.std.specs.List.{concat}
use Rattle.std.proofs.lemmas.Bool.{cases_lt}
use Rattle.std.proofs.lemmas.List.{take_all, take-append-le, drop-append-le, length-take-le, nil_from_length}
use Rattle.std.proofs.lemmas.List.Elements.{All-nil, All-same, All-push}
use Rattle.std.proofs.Math.Seq.{drop-append-add}
use Rattle.file_blocks.specs.Blocks.{over, zeros, blocks_for, joined, AreWhole, AreBlocks, IsFilledUp}
use Rattle.file_blocks.proofs.OverLemmas.{zeros-is, length-zeros, zeros-append, drop-zeros, over-is, over-nothing, over-parts, over-append_left, over-append_right, length-over}
use Rattle.file_blocks.proofs.BlockLemmas.{length-concat, concat-push}
use Rattle.file_blocks.proofs.ContentsLemmas.{wiped}

pub length-joined : (blocks : List (List ℕ)) (tail : List ℕ) → AreWhole blocks → length (joined blocks tail) ≡ 4096 * length blocks + length tail
length-joined blocks tail whole =
    let a = length-append (concat blocks) tail in
    let b = length-concat 4096 blocks whole in
    omega (arith, a, b)

pub no_blocks : (blocks : List (List ℕ)) (tail : List ℕ) → blocks ≡ [] → tail ≡ [] → AreBlocks blocks tail
no_blocks blocks tail none empty =
    let nothing : List (List ℕ) = [] in
    let l = ap length none in
    let t = ap length empty in
    let e : length nothing ≡ 0 = omega arith in
    record {
      whole = subst AreWhole (sym none) (All-nil (λ (b : List ℕ). length b ≡ 4096));
      short = omega (arith, t);
      few = omega (arith, l, e);
    }

pub nothing_joined : (blocks : List (List ℕ)) (tail : List ℕ) → blocks ≡ [] → tail ≡ [] → joined blocks tail ≡ []
nothing_joined blocks tail none empty = ap (λ (s : List (List ℕ)). concat s ++ tail) none ∙ empty

-- ---- zero bytes at the end

pub length-longer : (old new : List ℕ) (size : ℕ) → length old ≤ size → new ≡ old ++ zeros (size - length old) → length new ≡ size
length-longer old new size fits e =
    let a = length-append old (zeros (size - length old)) in
    let z = length-zeros (size - length old) in
    let s : length (old ++ zeros (size - length old)) ≡ size = omega (arith, a, z, fits) in
    ap length e ∙ s

pub filled_by : (old new : List ℕ) (n : ℕ) → new ≡ old ++ zeros n → IsFilledUp old new
filled_by old new n e =
    let a = length-append old (zeros n) in
    let z = length-zeros n in
    let s : length (old ++ zeros n) ≡ length old + n = omega (arith, a, z) in
    let l : length new ≡ length old + n = ap length e ∙ s in
    let k : n ≡ length new - length old = omega (arith, l) in
    record { grows = omega (arith, l); bytes = e ∙ ap (λ (m : ℕ). old ++ zeros m) k }

pub not_filled : (all : List ℕ) → IsFilledUp all all
not_filled all = filled_by all all 0 (sym (ap (λ (s : List ℕ). all ++ s) (zeros-is 0) ∙ append-nil all))

pub filled_twice : (old mid new : List ℕ) → IsFilledUp old mid → IsFilledUp mid new → IsFilledUp old new
filled_twice old mid new a b =
    let n : ℕ = length mid - length old in
    let m : ℕ = length new - length mid in
    filled_by old new (n + m) (b.bytes ∙ (ap (λ (s : List ℕ). s ++ zeros m) a.bytes ∙ (append_assoc old (zeros n) (zeros m) ∙ ap (λ (s : List ℕ). old ++ s) (zeros-append n m))))

pub filled_after : (front old new : List ℕ) → IsFilledUp old new → IsFilledUp (front ++ old) (front ++ new)
filled_after front old new f =
    let n : ℕ = length new - length old in
    filled_by (front ++ old) (front ++ new) n (ap (λ (s : List ℕ). front ++ s) f.bytes ∙ sym (append_assoc front old (zeros n)))

-- ---- more blocks

pub closed_fills : (old new : List (List ℕ)) (tail block empty : List ℕ) → block ≡ tail ++ zeros (4096 - length tail) → new ≡ old ++ block ∷ [] → empty ≡ [] → IsFilledUp (joined old tail) (joined new empty)
closed_fills old new tail block empty b e none =
    let n : ℕ = 4096 - length tail in
    filled_by (joined old tail) (joined new empty) n
    (ap (λ (s : List ℕ). concat new ++ s) none
    ∙ (append-nil (concat new)
    ∙ (ap concat e
    ∙ (concat-push old block
    ∙ (ap (λ (s : List ℕ). concat old ++ s) b
    ∙ sym (append_assoc (concat old) tail (zeros n)))))))

pub closed_kept : (old new : List (List ℕ)) (tail block empty : List ℕ) → AreBlocks old tail → length old < 2 ^ 51 → block ≡ tail ++ zeros (4096 - length tail) → new ≡ old ++ block ∷ [] → empty ≡ [] → AreBlocks new empty
closed_kept old new tail block empty kept room b e none =
    let P : List ℕ → Type 0 = λ s. length s ≡ 4096 in
    let short = kept.short in
    let z = length-zeros (4096 - length tail) in
    let la = length-append tail (zeros (4096 - length tail)) in
    let s : length (tail ++ zeros (4096 - length tail)) ≡ 4096 = omega (arith, la, z, short) in
    let ln = ap length e in
    let lp = length-append old (block ∷ []) in
    let le = ap length none in
    record {
      whole = All-same P new (old ++ block ∷ []) e (All-push P old block kept.whole (ap length b ∙ s));
      short = omega (arith, le);
      few = omega (arith, ln, lp, room);
    }

pub filled_blocks : (old new : List (List ℕ)) (tail : List ℕ) (n : ℕ) → tail ≡ [] → concat new ≡ concat old ++ zeros n → IsFilledUp (joined old tail) (joined new tail)
filled_blocks old new tail n none e =
    subst (λ (t : List ℕ). IsFilledUp (joined old t) (joined new t)) (sym none)
    (filled_by (concat old ++ []) (concat new ++ []) n (append-nil (concat new) ∙ (e ∙ ap (λ (s : List ℕ). s ++ zeros n) (sym (append-nil (concat old))))))

-- the bytes of a block in longer memory
pub put_first : (old made : List ℕ) (len : ℕ) → length old ≤ len → made ≡ over (zeros len) 0 old → made ≡ old ++ zeros (len - length old)
put_first old made len fits e =
    let n : 0 + length old ≡ length old = omega arith in
    e ∙ (over-is (zeros len) 0 old
    ∙ ap (λ (s : List ℕ). old ++ s) (drop_of len (length old)))
  where
    drop_of : (len n : ℕ) → drop (0 + n) (zeros len) ≡ zeros (len - n)
    drop_of len n = let k : 0 + n ≡ n = omega arith in ap (λ (m : ℕ). drop m (zeros len)) k ∙ drop-zeros n len

-- ---- writing

pub put_tail : (blocks : List (List ℕ)) (tail new bytes : List ℕ) (at offset : ℕ) → AreWhole blocks → 4096 * length blocks + at ≡ offset → new ≡ over tail at bytes → joined blocks new ≡ over (joined blocks tail) offset bytes
put_tail blocks tail new bytes at offset whole place e =
    let l = length-concat 4096 blocks whole in
    let k : length (concat blocks) + at ≡ offset = omega (arith, l, place) in
    ap (λ (s : List ℕ). concat blocks ++ s) e
    ∙ (sym (over-append_right (concat blocks) tail at bytes)
    ∙ ap (λ (n : ℕ). over (joined blocks tail) n bytes) k)

-- a part in whole blocks, and the rest at the beginning of the tail
rest_put : (front tail rest : List ℕ) (at : ℕ) → (0 < length rest → at ≡ length front) → front ++ over tail 0 rest ≡ over (front ++ tail) at rest
rest_put front tail rest at there =
    elim (cases_lt 0 (length rest)) [
      | inl some ↦
          let k : length front + 0 ≡ at = (let e = there some in omega (arith, e)) in
          sym (over-append_right front tail 0 rest) ∙ ap (λ (n : ℕ). over (front ++ tail) n rest) k
      | inr none ↦
          let nil : rest ≡ [] = nil_from_length rest (omega (arith, none)) in
          ap (λ (r : List ℕ). front ++ over tail 0 r) nil
          ∙ (ap (λ (s : List ℕ). front ++ s) (over-nothing tail 0)
          ∙ sym (ap (over (front ++ tail) at) nil ∙ over-nothing (front ++ tail) at))
    ]

pub put_both : (blocks new : List (List ℕ)) (tail made bytes part rest : List ℕ) (n offset : ℕ) → AreWhole blocks → AreWhole new → length new ≡ length blocks → offset < 4096 * length blocks → n ≡ min (length bytes) (4096 * length blocks - offset) → offset + length bytes ≤ 4096 * length blocks + length tail → part ≡ take n bytes → rest ≡ drop n bytes → concat new ≡ over (concat blocks) offset part → made ≡ over tail 0 rest → joined new made ≡ over (joined blocks tail) offset bytes
put_both blocks new tail made bytes part rest n offset whole whole_new same before least fits part_is rest_is e made_is =
    let l = length-concat 4096 blocks whole in
    let lj = length-joined blocks tail whole in
    let ln = length-concat 4096 new whole_new in
    let lp : length part ≡ n = ap length part_is ∙ length-take-le n bytes (omega (arith, least)) in
    let lr : length rest ≡ length bytes - n = ap length rest_is ∙ length-drop n bytes in
    let first : concat new ++ tail ≡ over (joined blocks tail) offset part =
    ap (λ (s : List ℕ). s ++ tail) e ∙ sym (over-append_left (concat blocks) tail offset part (omega (arith, l, lp, least, before))) in
    let second : joined new made ≡ over (concat new ++ tail) (offset + n) rest =
    ap (λ (s : List ℕ). concat new ++ s) made_is ∙ rest_put (concat new) tail rest (offset + n) (λ some. omega (arith, some, lr, ln, same, least, before)) in
    second
    ∙ (ap (λ (s : List ℕ). over s (offset + n) rest) first
    ∙ (ap (λ (p : List ℕ). over (over (joined blocks tail) offset p) (offset + n) rest) part_is
    ∙ (ap (λ (r : List ℕ). over (over (joined blocks tail) offset (take n bytes)) (offset + n) r) rest_is
    ∙ over-parts (joined blocks tail) offset n bytes (omega (arith, least)) (omega (arith, lj, fits)))))

pub put_kept : (blocks new : List (List ℕ)) (tail made bytes : List ℕ) (at : ℕ) → AreBlocks blocks tail → AreWhole new → length new ≡ length blocks → at + length bytes ≤ length tail → made ≡ over tail at bytes → AreBlocks new made
put_kept blocks new tail made bytes at kept whole same fits e =
    let l : length made ≡ length tail = ap length e ∙ length-over tail at bytes fits in
    let short = kept.short in
    let few = kept.few in
    record { whole = whole; short = omega (arith, l, short); few = omega (arith, same, few) }

-- ---- reading

pub part_joined : (front tail : List ℕ) (at n : ℕ) → at + n ≤ length front → take n (drop at front) ≡ take n (drop at (front ++ tail))
part_joined front tail at n fits =
    let l = length-drop at front in
    sym (ap (take n) (drop-append-le at front tail (omega (arith, fits))) ∙ take-append-le n (drop at front) tail (omega (arith, l, fits)))

pub piece_of_tail : (blocks : List (List ℕ)) (tail bytes : List ℕ) (start more at end : ℕ) → AreWhole blocks → 4096 * length blocks + start ≡ at → more ≡ end - at → at < end → end ≤ 4096 * length blocks + length tail → bytes ≡ tail → take more (drop start bytes) ≡ take (length (take more (drop start bytes))) (drop at (joined blocks tail))
piece_of_tail blocks tail bytes start more at end whole place m some within same =
    let l = length-concat 4096 blocks whole in
    let lb : length bytes ≡ length tail = ap length same in
    let ld = length-drop start bytes in
    let lt : length (take more (drop start bytes)) ≡ more = length-take-le more (drop start bytes) (omega (arith, ld, lb, place, m, within)) in
    let k : length (concat blocks) + start ≡ at = omega (arith, l, place) in
    ap (λ (s : List ℕ). take more (drop start s)) same
    ∙ sym (ap (λ (n : ℕ). take n (drop at (joined blocks tail))) lt
    ∙ (sym (ap (λ (n : ℕ). take more (drop n (joined blocks tail))) k)
    ∙ ap (take more) (drop-append-add (concat blocks) tail start)))

-- ---- cutting

pub cut_tail : (blocks : List (List ℕ)) (tail made : List ℕ) (at len : ℕ) → AreWhole blocks → 4096 * length blocks + at ≡ len → len ≤ 4096 * length blocks + length tail → made ≡ over tail at (zeros (length tail - at)) → joined blocks made ≡ take len (joined blocks tail) ++ zeros (4096 * length blocks + length made - len)
cut_tail blocks tail made at len whole place within e =
    let all : List ℕ = joined blocks tail in
    let lj = length-joined blocks tail whole in
    let z = length-zeros (length tail - at) in
    let lm : length made ≡ length tail = ap length e ∙ length-over tail at (zeros (length tail - at)) (omega (arith, z, place, within)) in
    let k : length tail - at ≡ length all - len = omega (arith, lj, place) in
    let j : length all - len ≡ 4096 * length blocks + length made - len = omega (arith, lj, lm) in
    put_tail blocks tail made (zeros (length tail - at)) at len whole place e
    ∙ (ap (λ (n : ℕ). over all len (zeros n)) k
    ∙ (ap (λ (s : List ℕ). over s len (zeros (length all - len))) (sym (take_all (length all) all (omega arith)))
    ∙ (wiped all len (length all) (omega (arith, lj, within)) (omega arith)
    ∙ ap (λ (n : ℕ). take len all ++ zeros n) j)))

pub length-cut_tail : (tail made : List ℕ) (at : ℕ) → at ≤ length tail → made ≡ over tail at (zeros (length tail - at)) → length made ≡ length tail
length-cut_tail tail made at within e =
    let z = length-zeros (length tail - at) in
    ap length e ∙ length-over tail at (zeros (length tail - at)) (omega (arith, z, within))

pub cut_blocks : (blocks new : List (List ℕ)) (tail empty : List ℕ) (len : ℕ) → AreWhole blocks → len ≤ 4096 * length blocks → length new ≡ blocks_for len → empty ≡ [] → concat new ≡ take len (concat blocks) ++ zeros (4096 * blocks_for len - len) → joined new empty ≡ take len (joined blocks tail) ++ zeros (4096 * length new + length empty - len)
cut_blocks blocks new tail empty len whole within count none e =
    let l = length-concat 4096 blocks whole in
    let le = ap length none in
    let k : 4096 * blocks_for len - len ≡ 4096 * length new + length empty - len = omega (arith, le, count) in
    ap (λ (s : List ℕ). concat new ++ s) none
    ∙ (append-nil (concat new)
    ∙ (e
    ∙ (ap (λ (s : List ℕ). s ++ zeros (4096 * blocks_for len - len)) (sym (take-append-le len (concat blocks) tail (omega (arith, l, within))))
    ∙ ap (λ (n : ℕ). take len (joined blocks tail) ++ zeros n) k)))
