-- What ports tell: bytes that are taken and written, one after the other, and counts that rise.
use Rattle.std.proofs.Common.{◌≡◌, ◌≤◌, ◌+◌, ℕ, List, [], ◌++◌, length, take, drop, Option, Some, None, refl, sym, ap, ◌∙◌, subst, append_assoc, append-nil, length-append, arith}
use Rattle.std.proofs.lemmas.List.{take-take, take-append-le, length-take-le}
use Rattle.std.proofs.Math.Seq.{take-append-add}
use Rattle.pcfs_ports.specs.Faults.{HasRisen}
use Rattle.pcfs_ports.specs.Observable.{with_front, with_back, IsAtEnd, ReadsToEnd, HoldsSome}
use Rattle.pcfs_ports.proofs.TakesLemmas.{with_back-with_back}

-- bytes and then more bytes before what is left
pub with_front-with_front : (a b : List ℕ) (told : Option (List ℕ)) → with_front a (with_front b told) ≡ with_front (a ++ b) told
with_front-with_front a b None = refl
with_front-with_front a b (Some left) = ap Some (sym (append_assoc a b left))

pub with_front-nil : (told : Option (List ℕ)) → told ≡ with_front [] told
with_front-nil None = refl
with_front-nil (Some left) = refl

pub with_back-nil : (told : Option (List ℕ)) → told ≡ with_back told []
with_back-nil None = refl
with_back-nil (Some first) = ap Some (sym (append-nil first))

-- an input that was taken up to its end was read to it
pub ReadsToEnd-taken : (bytes : List ℕ) (old new : Option (List ℕ)) → old ≡ with_front bytes new → IsAtEnd new → ReadsToEnd old new bytes
ReadsToEnd-taken bytes old None taken at_end = subst (λ (o : Option (List ℕ)). ReadsToEnd o None bytes) (sym taken) (record { all = tt; end = refl })
ReadsToEnd-taken bytes old (Some left) taken at_end =
    subst (λ (o : Option (List ℕ)). ReadsToEnd o (Some left) bytes) (sym taken)
    (record { all = ap (λ (l : List ℕ). bytes ++ l) at_end ∙ append-nil bytes; end = ap Some at_end })

-- no byte was taken
pub nothing_taken : (count : ℕ) (piece : List ℕ) (left left_after : Option (List ℕ)) → count ≡ 0 → left ≡ with_front (take count piece) left_after → left ≡ left_after
nothing_taken count piece left left_after none taken = subst (λ (k : ℕ). left ≡ with_front (take k piece) left_after) none taken ∙ sym (with_front-nil left_after)

-- the bytes of a piece are taken too
pub also_taken : (told left left_after : Option (List ℕ)) (bytes piece : List ℕ) → told ≡ with_front bytes left → left ≡ with_front piece left_after → told ≡ with_front (bytes ++ piece) left_after
also_taken told left left_after bytes piece taken more = taken ∙ ap (with_front bytes) more ∙ with_front-with_front bytes piece left_after

-- ---- a piece

-- what is shown of room that begins with the bytes that were given
pub record IsShown (count : ℕ) (given shown : List ℕ) : Type 0 where
  pub same : take count shown ≡ take count given
  pub len : length (take count shown) ≡ count

pub IsShown-front : (count len : ℕ) (given old shown : List ℕ) → shown ≡ take len (given ++ drop (length given) old) → count ≤ length given → length given ≤ len → IsShown count given shown
IsShown-front count len given old shown is within fits =
    let same : take count shown ≡ take count given =
    ap (take count) is ∙ take-take count len (given ++ drop (length given) old) (omega arith) ∙ take-append-le count given (drop (length given) old) within in
    record { same = same; len = ap length same ∙ length-take-le count given within }

pub taken_shown : (count : ℕ) (given shown : List ℕ) (left left_after : Option (List ℕ)) → IsShown count given shown → left ≡ with_front (take count given) left_after → left ≡ with_front (take count shown) left_after
taken_shown count given shown left left_after is taken = subst (λ (b : List ℕ). left ≡ with_front b left_after) (sym is.same) taken

-- the room stays as long as it was
pub room_stays : (len : ℕ) (given old : List ℕ) → length given ≡ length old → len ≡ length old → length (take len (given ++ drop (length given) old)) ≡ length old
room_stays len given old same is =
    let whole : length (given ++ drop (length given) old) ≡ length given + length (drop (length given) old) = length-append given (drop (length given) old) in
    length-take-le len (given ++ drop (length given) old) (omega (arith, whole)) ∙ is

-- ---- an output

-- nothing was written
pub nothing_out : (held held_after : Option (List ℕ)) (bytes : List ℕ) → held_after ≡ held → HoldsSome held held_after bytes
nothing_out held held_after bytes same = record { count = 0; within = omega arith; held = same ∙ with_back-nil held }

-- all of some bytes was written, and then some first part of more
pub also_some : (held between held_after : Option (List ℕ)) (bytes more : List ℕ) → between ≡ with_back held bytes → (some : HoldsSome between held_after more) → held_after ≡ with_back held (take (length bytes + some.count) (bytes ++ more))
also_some held between held_after bytes more first some =
    some.held ∙ ap (λ (o : Option (List ℕ)). with_back o (take some.count more)) first ∙ with_back-with_back held bytes (take some.count more) ∙ ap (with_back held) (sym (take-append-add bytes more some.count))

-- a count that rose later
pub risen_later : (before mid after : ℕ) → before ≤ mid → HasRisen mid after → HasRisen before after
risen_later before mid after later risen below = let r = risen below in omega (arith, r, later)
