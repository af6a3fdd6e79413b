-- Reading terms one after the other, as a loop does.
use Rattle.std.proofs.Common.{◌≡◌, ℕ, suc, ◌-◌, ◌+◌, ◌≤◌, ◌<◌, List, [], ◌∷◌, ◌++◌, Ok, Err, refl, sym, ap, ◌∙◌, append_assoc, arith}
use Rattle.std.proofs.lemmas.List.{append-nil}
use Rattle.bl_syntax.specs.declared.codec_fault.CodecFault.{CodecFault}
use Rattle.bl_syntax.specs.declared.terms.Term.{Term}
use Rattle.bl_syntax.specs.Reading.{◌>>=◌}
use Rattle.bl_syntax.specs.FormulaReading.{Counted, node_term_at, terms_at}

-- what was read before, and what is still read
abbrev pub with_front : List Term → Counted (List Term) → Counted (List Term)
with_front front read = read >>= λ x. Ok (front ++ x.0, x.1)

regroup : (front : List Term) (t : Term) (read : Counted (List Term)) → with_front front (read >>= λ x. Ok (t ∷ x.0, x.1)) ≡ with_front (front ++ t ∷ []) read
regroup front t (Ok x) = ap (λ (ts : List Term). Ok (ts, x.1)) (simp append_assoc)
regroup front t (Err f) = refl

pub goes_on : (front : List Term) (count i input left : ℕ) (bytes : List ℕ) (t : Term) (after : ℕ) (behind : List ℕ) (total : Counted (List Term)) → i < count → node_term_at input left bytes ≡ Ok (t, (after, behind))
    → with_front front (terms_at (count - i) input left bytes) ≡ total → with_front (front ++ t ∷ []) (terms_at (count - (i + 1)) input after behind) ≡ total
unfolding terms_at
goes_on front count i input left bytes t after behind total lt h so_far =
    let k : count - i ≡ suc (count - (i + 1)) = omega arith in
    let one : with_front front (terms_at (count - i) input left bytes) ≡ with_front (front ++ t ∷ []) (terms_at (count - (i + 1)) input after behind) = rw (k, h) (regroup front t (terms_at (count - (i + 1)) input after behind)) in
    sym one ∙ so_far

pub ends : (fault : CodecFault) (front : List Term) (count i input left : ℕ) (bytes : List ℕ) (total : Counted (List Term)) → i < count → node_term_at input left bytes ≡ Err fault
    → with_front front (terms_at (count - i) input left bytes) ≡ total → total ≡ Err fault
unfolding terms_at
ends fault front count i input left bytes total lt h so_far =
    let k : count - i ≡ suc (count - (i + 1)) = omega arith in
    let one : with_front front (terms_at (count - i) input left bytes) ≡ Err fault = rw (k, h) refl in
    sym so_far ∙ one

pub is_done : (front : List Term) (count i input left : ℕ) (bytes : List ℕ) (total : Counted (List Term)) → count ≤ i → with_front front (terms_at (count - i) input left bytes) ≡ total → total ≡ Ok (front, (left, bytes))
unfolding terms_at
is_done front count i input left bytes total le so_far =
    let k : count - i ≡ 0 = omega arith in
    let one : with_front front (terms_at (count - i) input left bytes) ≡ Ok (front, (left, bytes)) = rw k (ap (λ (ts : List Term). Ok (ts, (left, bytes))) (append-nil front)) in
    sym so_far ∙ one
