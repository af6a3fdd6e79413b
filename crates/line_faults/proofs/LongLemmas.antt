-- Long lines, one line after the other.
use Rattle.std.proofs.Common.{◌≡◌, ◌<◌, ◌≤◌, ◌⊎◌, inl, inr, ℕ, zero, suc, List, [], ◌∷◌, length, refl, sym, ap, subst, arith}
use Rattle.std.specs.Prelude.{Contains}
use Rattle.std.proofs.lemmas.Bool.{cases_lt}
use Rattle.std.proofs.lemmas.List.Elements.{Contains-append_right}
use Rattle.bl_syntax.proofs.GrantLemmas.{Contains-head}
use Rattle.line_faults.specs.LongLines.{HasLongLine}

pub long_here : (lines : List (List ℕ)) (line : List ℕ) (others : List (List ℕ)) → lines ≡ line ∷ others → 262144 < length line → HasLongLine lines
long_here lines line others is long = record { line = line; among = subst (λ (ls : List (List ℕ)). Contains ls line) (sym is) (Contains-head line line others refl); long = long }

pub long_later : (lines : List (List ℕ)) (line : List ℕ) (others : List (List ℕ)) → lines ≡ line ∷ others → HasLongLine others → HasLongLine lines
long_later lines line others is has =
    record { line = has.line; among = subst (λ (ls : List (List ℕ)). Contains ls has.line) (sym is) (Contains-append_right (line ∷ []) others has.line has.among); long = has.long }

Contains-behind : (line : List ℕ) (others : List (List ℕ)) (item : List ℕ) → Contains (line ∷ others) item → (line ≡ item → ⊥) → Contains others item
Contains-behind line others item (zero, within, same) other = absurd (other same)
Contains-behind line others item (suc place, within, same) other = (place, omega (arith, within), same)

pub long_rest : (lines : List (List ℕ)) (line : List ℕ) (others : List (List ℕ)) → lines ≡ line ∷ others → length line ≤ 262144 → HasLongLine lines → HasLongLine others
long_rest lines line others is short has =
    record {
      line = has.line;
      among = Contains-behind line others has.line (subst (λ (ls : List (List ℕ)). Contains ls has.line) is has.among) (λ same. omega (arith, has.long, short, ap length same));
      long = has.long;
    }

pub long_none : (lines : List (List ℕ)) → lines ≡ [] → HasLongLine lines → ⊥
long_none lines none has = omega (arith, has.among.1, ap length none)

-- a line is too long, or none is
pub decided_long : (lines : List (List ℕ)) → HasLongLine lines ⊎ (HasLongLine lines → ⊥)
decided_long [] = inr (λ has. long_none [] refl has)
decided_long (line ∷ others) = elim (cases_lt 262144 (length line)) [
  | inl long ↦ inl (long_here (line ∷ others) line others refl long)
  | inr short ↦ elim (decided_long others) [
    | inl has ↦ inl (long_later (line ∷ others) line others refl has)
    | inr none ↦ inr (λ has. none (long_rest (line ∷ others) line others refl short has))
  ]
]
