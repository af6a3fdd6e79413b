-- What a framer holds of what is left.
use Rattle.std.proofs.Common.{◌≡◌, ◌∙◌, ◌≤◌, ℕ, Bool, true, false, List, [], ◌∷◌, ◌++◌, length, refl, sym, ap, subst, arith, append_assoc, length-append}
use Rattle.std.specs.List.{AllByRecursion}
use Rattle.line_text.specs.Lines.{lines_of}
use Rattle.line_text.specs.Words.{HasNo}
use Rattle.line_framer.specs.Framing.{FramerState, ended, IsFirst, IsLine}
use Rattle.line_framer.specs.Feeding.{AreShort, IsTooLong, already, with_piece}
use Rattle.line_framer.specs.Scanning.{HasLong}
use Rattle.line_framer.proofs.FramingLemmas.{has_end, first_line, one_first, same_rest}
use Rattle.pcfs_session.proofs.TakenLemmas.{AreFirst-none, AreShort-open, few_left, IsBefore-long}
use Rattle.session_service.specs.LineTalking.{IsNextLine, IsHeld, short, long}

-- ---- lines

-- all are short, and so is this one
one_short : (lines : List (List ℕ)) (line : List ℕ) (after : List (List ℕ)) → AllByRecursion (λ (l : List ℕ). length l ≤ 262144) (lines ++ line ∷ after) → length line ≤ 262144
one_short [] line after all = all.0
one_short (first ∷ lines) line after all = one_short lines line after all.1

-- what is left is not open if a line of it is too long
pub not_open : (left : List ℕ) (lines : List (List ℕ)) → IsLine left → HasLong left lines → ⊥
not_open left lines is has =
    let few = one_short lines has.long has.after (subst (AllByRecursion (λ (l : List ℕ). length l ≤ 262144)) has.lines_are (AreShort-open left is)) in
    absurd (omega (arith, few, has.too_long))

-- no line has its end
no_lines : (lines : List (List ℕ)) → HasNo 10 (ended lines) → lines ≡ []
no_lines [] none = refl
no_lines (line ∷ lines) none = absurd (has_end line (ended lines) none)

-- without the first line
rest_short : (left line rest : List ℕ) → IsFirst left line rest → AreShort left → AreShort rest
rest_short left line rest is all =
    let lines = subst (AllByRecursion (λ (l : List ℕ). length l ≤ 262144)) (first_line left line rest is) all in lines.1

-- the first of lines before one that is too long
record IsFirstBefore (left line rest : List ℕ) : Type 0 where
  behind : List ℕ
  more : List (List ℕ)
  first : IsFirst left line behind
  has : HasLong behind more
  rest_is : rest ≡ ended more

behind_first : (line : List ℕ) (all others : List (List ℕ)) → line ∷ all ≡ line ∷ others → all ≡ others
behind_first line all others same = cc

first_before : (left rest : List ℕ) (line : List ℕ) (lines : List (List ℕ)) → HasLong left lines → IsFirst (ended lines) line rest → IsFirstBefore left line rest
first_before left rest line [] has is = absurd (omega (arith, ap length is.parts, length-append line (10 ∷ rest)))
first_before left rest line (own ∷ more) has is =
    let one : IsFirst (ended (own ∷ more)) own (ended more) = record { parts = refl; one = has.whole.0.one } in
    let found = IsBefore-long left (own ∷ more) has in
    let first : IsFirst left own (ended more ++ found.rest) = record { parts = found.first.parts ∙ append_assoc own (10 ∷ ended more) found.rest; one = has.whole.0.one } in
    let lines_are = behind_first own (lines_of (ended more ++ found.rest)) (more ++ has.long ∷ has.after) (sym (first_line left own (ended more ++ found.rest) first) ∙ has.lines_are) in
    record {
      behind = ended more ++ found.rest;
      more = more;
      first = subst (λ (l : List ℕ). IsFirst left l (ended more ++ found.rest)) (one_first (ended (own ∷ more)) own (ended more) line rest one is).word first;
      has = record { long = has.long; after = has.after; lines_are = lines_are; whole = has.whole.1; too_long = has.too_long };
      rest_is = same_rest (ended (own ∷ more)) line rest own (ended more) is one;
    }

-- ---- a framer

long_now : (framer : FramerState) (left piece : List ℕ) → framer.left ≡ left → framer.is_long ≡ false → (after : FramerState) → IsTooLong framer piece after → IsHeld after true (left ++ piece)
long_now framer left piece same not_long _ (already was) = absurd cc
long_now framer left piece same not_long _ (with_piece lines not_before has) = long lines refl (subst (λ (b : List ℕ). HasLong (b ++ piece) lines) same has) refl

module _ (framer after : FramerState) (is_long : Bool) (left : List ℕ) where
  -- with a piece a line is too long
  pub held_long : (piece : List ℕ) → IsLine left → IsHeld framer is_long left → IsTooLong framer piece after → IsHeld after true (left ++ piece)
  held_long piece is (short not_long all same) too_long = long_now framer left piece (ap (λ (f : FramerState). f.left) same) (ap (λ (f : FramerState). f.is_long) same) after too_long
  held_long piece is (long lines was has same) too_long = absurd (not_open left lines is has)

  -- it gives no line, and no line after is too long
  pub held_open : is_long ≡ false → HasNo 10 framer.left → IsHeld framer is_long left → IsLine left
  held_open not_long none (short was all same) =
      let one : HasNo 10 left = subst (λ (f : FramerState). HasNo 10 f.left) same none in
      record { one = one; few = few_left left left [] (AreFirst-none left) one all }
  held_open not_long none (long lines was has same) = absurd cc

  -- or the next one is too long
  pub held_bad : is_long ≡ true → HasNo 10 framer.left → IsHeld framer is_long left → HasLong left []
  held_bad is none (short was all same) = absurd cc
  held_bad is none (long lines was has same) = subst (HasLong left) (no_lines lines (subst (λ (f : FramerState). HasNo 10 f.left) same none)) has

  -- it gives a line, and took it
  pub record TakesLine (line : List ℕ) : Type 0 where
    pub rest : List ℕ
    pub next : IsNextLine left line rest
    pub held : IsHeld after is_long rest

  pub takes_line : (line rest : List ℕ) → IsFirst framer.left line rest → length line ≤ 262144 → after ≡ record framer { left = rest } → IsHeld framer is_long left → TakesLine line
  takes_line line rest is few taken (short was all same) =
      let first : IsFirst left line rest = subst (λ (f : FramerState). IsFirst f.left line rest) same is in
      record {
        rest = rest;
        next = record { first = first; few = few };
        held = short was (rest_short left line rest first all) (taken ∙ ap (λ (f : FramerState). let now : FramerState = record f { left = rest } in now) same);
      }
  takes_line line rest is few taken (long lines was has same) =
      let b = first_before left rest line lines has (subst (λ (f : FramerState). IsFirst f.left line rest) same is) in
      record {
        rest = b.behind;
        next = record { first = b.first; few = few };
        held =
            long b.more was b.has
            (taken ∙ ap (λ (f : FramerState). let now : FramerState = record f { left = rest } in now) same ∙ ap (λ (l : List ℕ). let now : FramerState = record { left = l; is_long = true } in now) b.rest_is);
      }
