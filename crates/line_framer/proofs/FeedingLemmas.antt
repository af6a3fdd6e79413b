-- What a piece leaves of a framer.
use Rattle.std.proofs.Common.{◌≡◌, ◌≤◌, ℕ, Bool, true, false, List, [], ◌∷◌, ◌++◌, length, take, refl, sym, ap, ◌∙◌, subst, append_assoc, arith}
use Rattle.std.specs.List.{AllByRecursion}
use Rattle.std.proofs.lemmas.List.{append-nil, length-take-le}
use Rattle.line_text.specs.Lines.{lines_of}
use Rattle.line_framer.specs.Framing.{ended, FramerState, IsLine, IsOpen, cut_off}
use Rattle.line_framer.specs.Scanning.{HasLong, IsLong}
use Rattle.line_framer.specs.Feeding.{AreShort, IsFed, IsTooLong, already, with_piece}
use Rattle.line_framer.proofs.FramingLemmas.{last_line, ended-append, lines_of-whole, AllLines-append, take-open, IsOpen-whole}

same_state : (x y : List ℕ) (a b : Bool) → x ≡ y → a ≡ b → record { left = x; is_long = a } ≡ (let s : FramerState = record { left = y; is_long = b } in s)
same_state x y a b lefts longs = cc

-- ---- no line is too long

-- the piece after bytes of which the last line is open
regroup : (left last piece : List ℕ) (lines others : List (List ℕ)) (rest : List ℕ) → left ≡ ended lines ++ last → last ++ piece ≡ ended others ++ rest → left ++ piece ≡ ended (lines ++ others) ++ rest
regroup left last piece lines others rest first second =
    ap (λ (bytes : List ℕ). bytes ++ piece) first ∙ append_assoc (ended lines) last piece ∙ ap (λ (bytes : List ℕ). ended lines ++ bytes) second
    ∙ sym (append_assoc (ended lines) (ended others) rest) ∙ ap (λ (bytes : List ℕ). bytes ++ rest) (sym (ended-append lines others))

pub IsOpen-more : (left piece : List ℕ) (count now : ℕ) → IsOpen left count → ((last : List ℕ) → length last ≡ count → IsLine last → IsOpen (last ++ piece) now) → IsOpen (left ++ piece) now
IsOpen-more left piece count now is scanned =
    let more = scanned is.last is.count is.is_last in
    record {
      lines = is.lines ++ more.lines;
      last = more.last;
      parts = regroup left is.last piece is.lines more.lines more.last is.parts more.parts;
      whole = AllLines-append is.lines more.lines is.whole more.whole;
      is_last = more.is_last;
      count = more.count;
    }

all_short : (lines : List (List ℕ)) (others : List (List ℕ)) → AllByRecursion IsLine lines → AllByRecursion (λ (line : List ℕ). length line ≤ 262144) others → AllByRecursion (λ (line : List ℕ). length line ≤ 262144) (lines ++ others)
all_short [] others h k = k
all_short (line ∷ lines) others h k = (h.0.few, all_short lines others h.1 k)

last_short : (last : List ℕ) → IsLine last → AllByRecursion (λ (line : List ℕ). length line ≤ 262144) (lines_of last)
last_short [] is = tt
last_short (byte ∷ bytes) is = subst (AllByRecursion (λ (line : List ℕ). length line ≤ 262144)) (sym (last_line (byte ∷ bytes) is.one (omega arith))) (is.few, tt)

pub AreShort-open : (bytes : List ℕ) (count : ℕ) → IsOpen bytes count → AreShort bytes
AreShort-open bytes count is =
    subst (AllByRecursion (λ (line : List ℕ). length line ≤ 262144)) (sym (ap lines_of is.parts ∙ lines_of-whole is.lines is.last is.whole))
    (all_short is.lines (lines_of is.last) is.whole (last_short is.last is.is_last))

-- ---- a line is too long

-- the lines before it, and that they are what is kept
pub record IsCut (left piece kept : List ℕ) : Type 0 where
  pub lines : List (List ℕ)
  pub has_long : HasLong (left ++ piece) lines
  pub kept_is : kept ≡ ended lines

long_after : (left last piece : List ℕ) (lines before : List (List ℕ)) → left ≡ ended lines ++ last → AllByRecursion IsLine lines → HasLong (last ++ piece) before → HasLong (left ++ piece) (lines ++ before)
long_after left last piece lines before parts whole is = record {
  long = is.long;
  after = is.after;
  lines_are =
      ap lines_of (ap (λ (bytes : List ℕ). bytes ++ piece) parts ∙ append_assoc (ended lines) last piece) ∙ lines_of-whole lines (last ++ piece) whole
      ∙ ap (λ (others : List (List ℕ)). lines ++ others) is.lines_are ∙ sym (append_assoc lines before (is.long ∷ is.after));
  whole = AllLines-append lines before whole is.whole;
  too_long = is.too_long;
}

-- by the bytes of the piece that stand before the line
by_kept : (left piece kept : List ℕ) (count whole : ℕ) → take whole piece ≡ kept → whole ≡ length kept → (is : IsOpen left count) → (long : IsLong is.last piece whole) → cut_off left count kept ≡ ended (is.lines ++ long.before)
by_kept left piece [] count whole taken len is long =
    take-open left count is ∙ ap ended (sym (append-nil is.lines) ∙ ap (λ (lines : List (List ℕ)). is.lines ++ lines) (sym (long.none len)))
by_kept left piece (first ∷ others) count whole taken len is long =
    ap (λ (bytes : List ℕ). left ++ bytes) (sym taken)
    ∙ ap (λ (bytes : List ℕ). bytes ++ take whole piece) is.parts ∙ append_assoc (ended is.lines) is.last (take whole piece)
    ∙ ap (λ (bytes : List ℕ). ended is.lines ++ bytes) (long.some (omega (arith, len))) ∙ sym (ended-append is.lines long.before)

IsCut-scanned : (left piece kept : List ℕ) (count whole : ℕ) → take whole piece ≡ kept → whole ≡ length kept → IsOpen left count → ((last : List ℕ) → length last ≡ count → IsLine last → IsLong last piece whole) → IsCut left piece (cut_off left count kept)
IsCut-scanned left piece kept count whole taken len is scanned =
    let long = scanned is.last is.count is.is_last in
    record {
      lines = is.lines ++ long.before;
      has_long = long_after left is.last piece is.lines long.before is.parts is.whole long.has_long;
      kept_is = by_kept left piece kept count whole taken len is long;
    }

-- the piece up to a place
pub IsCut-at : (left piece after : List ℕ) (count whole : ℕ) → after ≡ cut_off left count (take whole piece) → IsOpen left count → ((last : List ℕ) → length last ≡ count → IsLine last → IsLong last piece whole) → IsCut left piece after
IsCut-at left piece after count whole cut is scanned =
    let long = scanned is.last is.count is.is_last in
    subst (IsCut left piece) (sym cut) (IsCut-scanned left piece (take whole piece) count whole refl (sym (length-take-le whole piece long.within)) is scanned)

pub IsOpen-cut : (left piece kept : List ℕ) → IsCut left piece kept → IsOpen kept 0
IsOpen-cut left piece kept is = subst (λ (bytes : List ℕ). IsOpen bytes 0) (sym is.kept_is) (IsOpen-whole is.lines is.has_long.whole)

-- ---- the framer after a piece

pub IsFed-more : (before : FramerState) (left piece : List ℕ) (was_long : Bool) (now : ℕ) (after : List ℕ) → record { left = left; is_long = was_long } ≡ before → was_long ≡ false → after ≡ left ++ piece → IsOpen (left ++ piece) now
    → IsFed before piece (record { left = after; is_long = was_long })
IsFed-more before left piece was_long now after is not_long added short =
    let left_is : left ≡ before.left = ap (λ (s : FramerState). s.left) is in
    record {
      not_before = sym (ap (λ (s : FramerState). s.is_long) is) ∙ not_long;
      short = subst (λ (bytes : List ℕ). AreShort (bytes ++ piece)) left_is (AreShort-open (left ++ piece) now short);
      after_is = same_state after (before.left ++ piece) was_long false (added ∙ ap (λ (bytes : List ℕ). bytes ++ piece) left_is) not_long;
    }

pub IsTooLong-already : (before : FramerState) (left piece : List ℕ) (was_long : Bool) → record { left = left; is_long = was_long } ≡ before → was_long ≡ true → IsTooLong before piece before
IsTooLong-already before left piece was_long is long = already (sym (ap (λ (s : FramerState). s.is_long) is) ∙ long)

pub IsTooLong-now : (before : FramerState) (left piece kept : List ℕ) (was_long : Bool) → record { left = left; is_long = was_long } ≡ before → was_long ≡ false → IsCut left piece kept → IsTooLong before piece (record { left = kept; is_long = true })
IsTooLong-now before left piece kept was_long is not_long cut =
    let left_is : left ≡ before.left = ap (λ (s : FramerState). s.left) is in
    subst (λ (bytes : List ℕ). IsTooLong before piece (record { left = bytes; is_long = true })) (sym cut.kept_is)
    (with_piece cut.lines (sym (ap (λ (s : FramerState). s.is_long) is) ∙ not_long) (subst (λ (bytes : List ℕ). HasLong (bytes ++ piece) cut.lines) left_is cut.has_long))
