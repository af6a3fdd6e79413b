-- Laws of what a port tells.
use Rattle.std.proofs.Common.{◌≡◌, ℕ, ◌+◌, ◌≤◌, List, ◌++◌, length, take, drop, None, Some, Result, Ok, Err, OnErr, refl, ap, arith, append_assoc, length-append, sym, ◌∙◌}
use Rattle.std.specs.Prelude.{Option}
use Rattle.std.proofs.Math.Seq.{take-add, drop-append_seam, drop-append-add}
use Rattle.pcfs_ports.specs.Observable.{with_front, with_back, TakesFirst, TakesSome}

-- bytes and then more bytes after what is held
pub with_back-with_back : (told : Option (List ℕ)) (a b : List ℕ) →
    with_back (with_back told a) b ≡ with_back told (a ++ b)
with_back-with_back None a b = refl
with_back-with_back (Some first) a b = ap Some (append_assoc first a b)

-- the first bytes, and then the first of the others, are the first bytes
pub with_back-take : (old mid new : Option (List ℕ)) (bytes : List ℕ) (at count : ℕ) (others : List ℕ) →
    others ≡ drop at bytes → mid ≡ with_back old (take at bytes) → new ≡ with_back mid (take count others) →
    new ≡ with_back old (take (at + count) bytes)
with_back-take old mid new bytes at count others rest first next =
    next ∙ ap (λ told. with_back told (take count others)) first
    ∙ with_back-with_back old (take at bytes) (take count others)
    ∙ ap (λ xs. with_back old (take at bytes ++ take count xs)) rest
    ∙ ap (with_back old) (sym (take-add at count bytes))

-- what was taken is the first part
first_of : (bytes : List ℕ) (new : Option (List ℕ)) → TakesFirst (length bytes) (with_front bytes new) new
first_of bytes None = record { enough = tt; rest = refl }
first_of bytes (Some left) = record {
  enough = omega (arith, length-append bytes left);
  rest = ap Some (sym (drop-append_seam bytes left));
}

pub first_of_taken : (bytes : List ℕ) (count : ℕ) (old new : Option (List ℕ)) → length bytes ≡ count →
    old ≡ with_front bytes new → TakesFirst count old new
first_of_taken bytes count old new is taken = rw (← is, taken) (first_of bytes new)

-- what was taken, and then some first part of the rest
some_of : (bytes : List ℕ) (mid new : Option (List ℕ)) → TakesSome mid new →
    TakesSome (with_front bytes mid) new
some_of bytes None new next = record {
  count = 0;
  taken = record { enough = tt; rest = next.taken.rest };
}
some_of bytes (Some left) new next = record {
  count = length bytes + next.count;
  taken = record {
    enough =
        let enough : next.count ≤ length left = next.taken.enough in
        omega (arith, length-append bytes left);
    rest = next.taken.rest ∙ ap Some (sym (drop-append-add bytes left next.count));
  };
}

pub some_of_taken : (bytes : List ℕ) (old mid new : Option (List ℕ)) → old ≡ with_front bytes mid →
    TakesSome mid new → TakesSome old new
some_of_taken bytes old mid new taken next = rw taken (some_of bytes mid new next)

-- a fact holds at an error too
pub on_err : {T E P : Type 0} (r : Result T E) → P → OnErr r P
on_err (Ok x) p = tt
on_err (Err e) p = p
