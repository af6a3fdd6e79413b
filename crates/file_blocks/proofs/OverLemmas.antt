-- What bytes in the place of others leave, and what zero bytes are in parts.
use Rattle.std.proofs.Common.{◌≡◌, ℕ, zero, suc, ◌+◌, ◌-◌, ◌≤◌, List, [], ◌∷◌, ◌++◌, length, take, drop, replicate, refl, sym, ap, ◌∙◌, arith, append_assoc, length-append, length-drop}
use Rattle.std.proofs.lemmas.List.{take_at, drop_at, drop-drop, take-append-drop, take-append-le, drop-append-le, length-take-le, length-replicate, take-replicate, drop-replicate, replicate-append-replicate}
use Rattle.std.proofs.Math.Seq.{take-append-add, drop-append-add}
use Rattle.file_blocks.specs.Blocks.{over, zeros}

-- ---- parts of two lists

pub take-parts : (n : ℕ) (xs ys : List ℕ) → take n (xs ++ ys) ≡ take n xs ++ take (n - length xs) ys
take-parts zero xs ys = let e : 0 ≡ 0 - length xs = omega arith in ap (λ (k : ℕ). take k ys) e
take-parts (suc n) [] ys = let e : suc n ≡ suc n - 0 = omega arith in ap (λ (k : ℕ). take k ys) e
take-parts (suc n) (x ∷ xs) ys =
    let e : n - length xs ≡ suc n - suc (length xs) = omega arith in
    ap (λ (s : List ℕ). x ∷ s) (take-parts n xs ys ∙ ap (λ (k : ℕ). take n xs ++ take k ys) e)

pub drop-parts : (n : ℕ) (xs ys : List ℕ) → drop n (xs ++ ys) ≡ drop n xs ++ drop (n - length xs) ys
drop-parts zero xs ys = let e : 0 ≡ 0 - length xs = omega arith in ap (λ (k : ℕ). xs ++ drop k ys) e
drop-parts (suc n) [] ys = let e : suc n ≡ suc n - 0 = omega arith in ap (λ (k : ℕ). drop k ys) e
drop-parts (suc n) (x ∷ xs) ys =
    let e : n - length xs ≡ suc n - suc (length xs) = omega arith in
    drop-parts n xs ys ∙ ap (λ (k : ℕ). drop n xs ++ drop k ys) e

-- ---- zero bytes

pub zeros-is : (count : ℕ) → zeros count ≡ replicate count 0
unfolding zeros
zeros-is count = refl

pub length-zeros : (count : ℕ) → length (zeros count) ≡ count
length-zeros count = ap length (zeros-is count) ∙ length-replicate count 0

pub zeros-append : (a b : ℕ) → zeros a ++ zeros b ≡ zeros (a + b)
unfolding zeros
zeros-append a b = replicate-append-replicate a b 0

pub take-zeros : (m n : ℕ) → m ≤ n → take m (zeros n) ≡ zeros m
unfolding zeros
take-zeros m n le = take-replicate m n 0 le

pub drop-zeros : (m n : ℕ) → drop m (zeros n) ≡ zeros (n - m)
unfolding zeros
drop-zeros m n = drop-replicate m n 0

-- ---- bytes in the place of others

pub over-is : (all : List ℕ) (at : ℕ) (bytes : List ℕ) → over all at bytes ≡ take at all ++ (bytes ++ drop (at + length bytes) all)
unfolding over
over-is all at bytes = refl

pub over-nothing : (all : List ℕ) (at : ℕ) → over all at [] ≡ all
over-nothing all at =
    let e : at + 0 ≡ at = omega arith in
    over-is all at [] ∙ (ap (λ (k : ℕ). take at all ++ drop k all) e ∙ take-append-drop at all)

pub length-over : (all : List ℕ) (at : ℕ) (bytes : List ℕ) → at + length bytes ≤ length all → length (over all at bytes) ≡ length all
length-over all at bytes fits =
    let a = length-append (take at all) (bytes ++ drop (at + length bytes) all) in
    let b = length-append bytes (drop (at + length bytes) all) in
    let c : length (take at all) ≡ at = length-take-le at all (omega (arith, fits)) in
    let d = length-drop (at + length bytes) all in
    let e : length (take at all ++ (bytes ++ drop (at + length bytes) all)) ≡ length all = omega (arith, a, b, c, d, fits) in
    ap length (over-is all at bytes) ∙ e

pub over-append_right : (front behind : List ℕ) (at : ℕ) (bytes : List ℕ) → over (front ++ behind) (length front + at) bytes ≡ front ++ over behind at bytes
over-append_right front behind at bytes =
    let t : take (length front + at) (front ++ behind) ≡ front ++ take at behind = take-append-add front behind at in
    let n : length front + at + length bytes ≡ length front + (at + length bytes) = omega arith in
    let d : drop (length front + at + length bytes) (front ++ behind) ≡ drop (at + length bytes) behind =
    ap (λ (k : ℕ). drop k (front ++ behind)) n ∙ drop-append-add front behind (at + length bytes) in
    over-is (front ++ behind) (length front + at) bytes
    ∙ (ap (λ (s : List ℕ). s ++ (bytes ++ drop (length front + at + length bytes) (front ++ behind))) t
    ∙ (ap (λ (s : List ℕ). (front ++ take at behind) ++ (bytes ++ s)) d
    ∙ (append_assoc front (take at behind) (bytes ++ drop (at + length bytes) behind)
    ∙ ap (λ (s : List ℕ). front ++ s) (sym (over-is behind at bytes)))))

pub over-append_left : (front behind : List ℕ) (at : ℕ) (bytes : List ℕ) → at + length bytes ≤ length front → over (front ++ behind) at bytes ≡ over front at bytes ++ behind
over-append_left front behind at bytes fits =
    let rest : List ℕ = drop (at + length bytes) front in
    let t : take at (front ++ behind) ≡ take at front = take-append-le at front behind (omega (arith, fits)) in
    let d : drop (at + length bytes) (front ++ behind) ≡ rest ++ behind = drop-append-le (at + length bytes) front behind fits in
    over-is (front ++ behind) at bytes
    ∙ (ap (λ (s : List ℕ). s ++ (bytes ++ drop (at + length bytes) (front ++ behind))) t
    ∙ (ap (λ (s : List ℕ). take at front ++ (bytes ++ s)) d
    ∙ (sym (append_assoc (take at front) (bytes ++ rest) behind ∙ ap (λ (s : List ℕ). take at front ++ s) (append_assoc bytes rest behind))
    ∙ ap (λ (s : List ℕ). s ++ behind) (sym (over-is front at bytes)))))

-- a part of the bytes first, and then the rest of them after it
pub over-parts : (all : List ℕ) (at n : ℕ) (bytes : List ℕ) → n ≤ length bytes → at + length bytes ≤ length all → over (over all at (take n bytes)) (at + n) (drop n bytes) ≡ over all at bytes
over-parts all at n bytes some fits =
    let p : List ℕ = take n bytes in
    let q : List ℕ = drop n bytes in
    let behind : List ℕ = drop (at + length p) all in
    let front : List ℕ = take at all ++ p in
    let mid : List ℕ = over all at p in
    let lp : length p ≡ n = length-take-le n bytes some in
    let lq : length q ≡ length bytes - n = length-drop n bytes in
    let lt : length (take at all) ≡ at = length-take-le at all (omega (arith, fits)) in
    let lf : length front ≡ at + n = (let a = length-append (take at all) p in omega (arith, a, lp, lt)) in
    let m : mid ≡ front ++ behind = over-is all at p ∙ sym (append_assoc (take at all) p behind) in
    let t : take (at + n) mid ≡ front = ap (take (at + n)) m ∙ take_at front behind (at + n) lf in
    let b : drop (at + n) mid ≡ behind = ap (drop (at + n)) m ∙ drop_at front behind (at + n) lf in
    let k : at + length p + length q ≡ at + length bytes = omega (arith, lp, lq, some) in
    let d : drop (at + n + length q) mid ≡ drop (at + length bytes) all =
    sym (drop-drop (length q) (at + n) mid)
    ∙ (ap (drop (length q)) b
    ∙ (drop-drop (length q) (at + length p) all
    ∙ ap (λ (k : ℕ). drop k all) k)) in
    over-is mid (at + n) q
    ∙ (ap (λ (s : List ℕ). s ++ (q ++ drop (at + n + length q) mid)) t
    ∙ (ap (λ (s : List ℕ). front ++ (q ++ s)) d
    ∙ (append_assoc (take at all) p (q ++ drop (at + length bytes) all)
    ∙ (ap (λ (s : List ℕ). take at all ++ s) (sym (append_assoc p q (drop (at + length bytes) all)) ∙ ap (λ (s : List ℕ). s ++ drop (at + length bytes) all) (take-append-drop n bytes))
    ∙ sym (over-is all at bytes)))))
