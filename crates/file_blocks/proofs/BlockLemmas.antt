-- Blocks of one size end to end: what a change of one of them changes, and where a part of one of them lies.
use Rattle.std.proofs.Common.{◌≡◌, ℕ, zero, suc, ◌+◌, ◌-◌, ◌*◌, ◌<◌, ◌≤◌, List, [], ◌∷◌, ◌++◌, length, take, drop, set, get_or, sym, ap, ◌∙◌, arith, append_assoc, append-nil, length-append, length-drop}
use Rattle.std.specs.List.{All, concat}
use Rattle.std.proofs.lemmas.List.{take_all, take-append-le, drop-append-le}
use Rattle.std.proofs.lemmas.List.Elements.{All-head, All-tail}
use Rattle.std.proofs.Math.Seq.{take-append-add, drop-append-add}
use Rattle.file_blocks.specs.Blocks.{over, zeros}
use Rattle.file_blocks.proofs.OverLemmas.{over-append_left, over-append_right, zeros-append}

abbrev pub AreOfSize : ℕ → List (List ℕ) → Type 0
AreOfSize size blocks = All (λ block. length block ≡ size) blocks

first_size : (size : ℕ) (block : List ℕ) (blocks : List (List ℕ)) → AreOfSize size (block ∷ blocks) → length block ≡ size
first_size size block blocks whole = All-head (λ (b : List ℕ). length b ≡ size) block blocks whole

other_sizes : (size : ℕ) (block : List ℕ) (blocks : List (List ℕ)) → AreOfSize size (block ∷ blocks) → AreOfSize size blocks
other_sizes size block blocks whole = All-tail (λ (b : List ℕ). length b ≡ size) block blocks whole

-- a place in a later block, counted from the end of the first one
later : (size len i at : ℕ) → len ≡ size → size * suc i + at ≡ len + (size * i + at)
later size len i at e = (let a : size * suc i + at ≡ size + (size * i + at) = omega arith in a) ∙ ap (λ (n : ℕ). n + (size * i + at)) (sym e)

pub length-concat : (size : ℕ) (blocks : List (List ℕ)) → AreOfSize size blocks → length (concat blocks) ≡ size * length blocks
length-concat size [] whole = omega arith
length-concat size (block ∷ blocks) whole =
    let a = length-append block (concat blocks) in
    let b = length-concat size blocks (other_sizes size block blocks whole) in
    let c = first_size size block blocks whole in
    let d : size * suc (length blocks) ≡ size + size * length blocks = omega arith in
    omega (arith, a, b, c, d)

pub concat-push : (blocks : List (List ℕ)) (block : List ℕ) → concat (blocks ++ block ∷ []) ≡ concat blocks ++ block
concat-push [] block = append-nil block
concat-push (first ∷ blocks) block =
    ap (λ (s : List ℕ). first ++ s) (concat-push blocks block) ∙ sym (append_assoc first (concat blocks) block)

pub concat-take : (size n : ℕ) (blocks : List (List ℕ)) → AreOfSize size blocks → concat (take n blocks) ≡ take (size * n) (concat blocks)
concat-take size zero blocks whole = let e : 0 ≡ size * 0 = omega arith in ap (λ (k : ℕ). take k (concat blocks)) e
concat-take size (suc n) [] whole = let none : List ℕ = [] in sym (take_all (size * suc n) none (omega arith))
concat-take size (suc n) (block ∷ blocks) whole =
    let e : size * suc n ≡ length block + size * n = (let c = first_size size block blocks whole in let d : size * suc n ≡ size + size * n = omega arith in omega (arith, c, d)) in
    ap (λ (s : List ℕ). block ++ s) (concat-take size n blocks (other_sizes size block blocks whole))
    ∙ sym (ap (λ (k : ℕ). take k (block ++ concat blocks)) e ∙ take-append-add block (concat blocks) (size * n))

-- bytes in the place of others in one block are so in all of them
pub concat-over : (size : ℕ) (blocks : List (List ℕ)) (i at : ℕ) (bytes d : List ℕ) → AreOfSize size blocks → i < length blocks → at + length bytes ≤ size → concat (set blocks i (over (get_or blocks i d) at bytes)) ≡ over (concat blocks) (size * i + at) bytes
concat-over size [] i at bytes d whole inside fits = absurd (omega (arith, inside))
concat-over size (block ∷ blocks) zero at bytes d whole inside fits =
    let e : size * 0 + at ≡ at = omega arith in
    let c = first_size size block blocks whole in
    sym (ap (λ (k : ℕ). over (block ++ concat blocks) k bytes) e ∙ over-append_left block (concat blocks) at bytes (omega (arith, fits, c)))
concat-over size (block ∷ blocks) (suc i) at bytes d whole inside fits =
    ap (λ (s : List ℕ). block ++ s) (concat-over size blocks i at bytes d (other_sizes size block blocks whole) (omega (arith, inside)) fits)
    ∙ sym (ap (λ (k : ℕ). over (block ++ concat blocks) k bytes) (later size (length block) i at (first_size size block blocks whole)) ∙ over-append_right block (concat blocks) (size * i + at) bytes)

-- a part of one block is a part of all of them
pub part-concat : (size : ℕ) (blocks : List (List ℕ)) (i at count : ℕ) (d : List ℕ) → AreOfSize size blocks → i < length blocks → at + count ≤ size → take count (drop at (get_or blocks i d)) ≡ take count (drop (size * i + at) (concat blocks))
part-concat size [] i at count d whole inside fits = absurd (omega (arith, inside))
part-concat size (block ∷ blocks) zero at count d whole inside fits =
    let e : size * 0 + at ≡ at = omega arith in
    let c = first_size size block blocks whole in
    let l = length-drop at block in
    sym (ap (λ (k : ℕ). take count (drop k (block ++ concat blocks))) e
    ∙ (ap (take count) (drop-append-le at block (concat blocks) (omega (arith, fits, c)))
    ∙ take-append-le count (drop at block) (concat blocks) (omega (arith, fits, c, l))))
part-concat size (block ∷ blocks) (suc i) at count d whole inside fits =
    part-concat size blocks i at count d (other_sizes size block blocks whole) (omega (arith, inside)) fits
    ∙ sym (ap (λ (k : ℕ). take count (drop k (block ++ concat blocks))) (later size (length block) i at (first_size size block blocks whole)) ∙ ap (take count) (drop-append-add block (concat blocks) (size * i + at)))

one_more : (size m k : ℕ) → k ≡ suc m → size * m + size ≡ size * k
one_more size m k e = (let a : size * m + size ≡ size * suc m = omega arith in a) ∙ ap (λ (n : ℕ). size * n) (sym e)

-- one more block of zero bytes
pub filled-more : (size : ℕ) (old now : List (List ℕ)) → length old ≤ length now → concat now ≡ concat old ++ zeros (size * (length now - length old)) → concat (now ++ zeros size ∷ []) ≡ concat old ++ zeros (size * (length (now ++ zeros size ∷ []) - length old))
filled-more size old now grows e =
    let m : ℕ = length now - length old in
    let l = length-append now (zeros size ∷ []) in
    let k : length (now ++ zeros size ∷ []) - length old ≡ suc m = omega (arith, l, grows) in
    concat-push now (zeros size)
    ∙ (ap (λ (s : List ℕ). s ++ zeros size) e
    ∙ (append_assoc (concat old) (zeros (size * m)) (zeros size)
    ∙ ap (λ (s : List ℕ). concat old ++ s) (zeros-append (size * m) size ∙ ap zeros (one_more size m (length (now ++ zeros size ∷ []) - length old) k))))
