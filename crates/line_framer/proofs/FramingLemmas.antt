-- Lines with their ends, and what stands after them.
use Rattle.std.proofs.Common.{◌≡◌, ◌≤◌, ◌+◌, ◌-◌, ℕ, List, [], ◌∷◌, ◌++◌, Bool, true, false, not, IsTrue, length, take, drop, refl, sym, ap, ◌∙◌, subst, append_assoc, length-append, arith}
use Rattle.std.specs.Prelude.{◌==◌, if◌then◌else◌}
use Rattle.std.specs.List.{list_all, AllByRecursion}
use Rattle.std.proofs.lemmas.Bool.{and_parts, and_from, false≢true}
use Rattle.std.proofs.lemmas.List.{append-nil, take_at}
use Rattle.line_text.specs.Lines.{lines_of, with_byte}
use Rattle.line_text.specs.Words.{HasNo}
use Rattle.line_text.proofs.WordLemmas.{IsSame, same_split}
use Rattle.line_framer.specs.Framing.{ended, FramerState, IsFirst, IsLine, IsOpen}

pub HasNo-append : (front rest : List ℕ) → HasNo 10 front → HasNo 10 rest → HasNo 10 (front ++ rest)
HasNo-append [] rest h k = k
HasNo-append (byte ∷ bytes) rest h k =
    let parts = and_parts (not (byte == 10)) (list_all (λ b. not (b == 10)) bytes) h in
    and_from (not (byte == 10)) (list_all (λ b. not (b == 10)) (bytes ++ rest)) parts.0 (HasNo-append bytes rest parts.1 k)

-- an end of a line is in the bytes
pub has_end : (front rest : List ℕ) → HasNo 10 (front ++ 10 ∷ rest) → ⊥
has_end [] rest h = false≢true h
has_end (byte ∷ bytes) rest h = has_end bytes rest (and_parts (not (byte == 10)) (list_all (λ b. not (b == 10)) (bytes ++ 10 ∷ rest)) h).1

-- ---- the lines of bytes

-- a byte of a line, by whether it ends one
by_byte : (is_end : Bool) (byte : ℕ) (line : List ℕ) (lines after : List (List ℕ)) → IsTrue (not is_end) → after ≡ line ∷ lines → (if is_end then [] ∷ after else with_byte byte after) ≡ (byte ∷ line) ∷ lines
by_byte true byte line lines after other same = absurd (false≢true other)
by_byte false byte line lines after other same = ap (with_byte byte) same

first_of : (line rest : List ℕ) → HasNo 10 line → lines_of (line ++ 10 ∷ rest) ≡ line ∷ lines_of rest
first_of [] rest h = refl
first_of (byte ∷ line) rest h =
    let parts = and_parts (not (byte == 10)) (list_all (λ b. not (b == 10)) line) h in
    by_byte (byte == 10) byte line (lines_of rest) (lines_of (line ++ 10 ∷ rest)) parts.0 (first_of line rest parts.1)

pub first_line : (bytes line rest : List ℕ) → IsFirst bytes line rest → lines_of bytes ≡ line ∷ lines_of rest
first_line bytes line rest is = ap lines_of is.parts ∙ first_of line rest is.one

-- the only byte of the last line, by whether it ends one
by_last : (is_end : Bool) (byte : ℕ) → IsTrue (not is_end) → (if is_end then [] ∷ [] else with_byte byte []) ≡ (byte ∷ []) ∷ []
by_last true byte other = absurd (false≢true other)
by_last false byte other = refl

pub last_line : (bytes : List ℕ) → HasNo 10 bytes → 1 ≤ length bytes → lines_of bytes ≡ bytes ∷ []
last_line [] h some = absurd (omega arith)
last_line (byte ∷ []) h some = by_last (byte == 10) byte (and_parts (not (byte == 10)) true h).0
last_line (byte ∷ (other ∷ bytes)) h some =
    let parts = and_parts (not (byte == 10)) (list_all (λ b. not (b == 10)) (other ∷ bytes)) h in
    by_byte (byte == 10) byte (other ∷ bytes) [] (lines_of (other ∷ bytes)) parts.0 (last_line (other ∷ bytes) parts.1 (omega arith))

-- a line and its end in front of others
pub IsFirst-ended : (line : List ℕ) (lines : List (List ℕ)) (left : List ℕ) → HasNo 10 line → IsFirst (ended (line ∷ lines) ++ left) line (ended lines ++ left)
IsFirst-ended line lines left h = record { parts = append_assoc line (10 ∷ ended lines) left; one = h }

pub lines_of-ended : (lines : List (List ℕ)) (left : List ℕ) → AllByRecursion (HasNo 10) lines → lines_of (ended lines ++ left) ≡ lines ++ lines_of left
lines_of-ended [] left h = refl
lines_of-ended (line ∷ lines) left h =
    first_line (ended (line ∷ lines) ++ left) line (ended lines ++ left) (IsFirst-ended line lines left h.0) ∙ ap (λ (others : List (List ℕ)). line ∷ others) (lines_of-ended lines left h.1)

pub ended-append : (front others : List (List ℕ)) → ended (front ++ others) ≡ ended front ++ ended others
ended-append [] others = refl
ended-append (line ∷ lines) others = ap (λ (bytes : List ℕ). line ++ 10 ∷ bytes) (ended-append lines others) ∙ sym (append_assoc line (10 ∷ ended lines) (ended others))

-- one line more is taken
pub one_more : (lines : List (List ℕ)) (left line rest : List ℕ) → IsFirst left line rest → ended lines ++ left ≡ ended (lines ++ line ∷ []) ++ rest
one_more lines left line rest is =
    ap (λ (bytes : List ℕ). ended lines ++ bytes) (is.parts ∙ sym (append_assoc line (10 ∷ []) rest)) ∙ sym (append_assoc (ended lines) (line ++ 10 ∷ []) rest)
    ∙ ap (λ (bytes : List ℕ). bytes ++ rest) (sym (ended-append lines (line ∷ [])))

-- ---- the first line is one

pub one_first : (bytes a x b y : List ℕ) → IsFirst bytes a x → IsFirst bytes b y → IsSame a b (10 ∷ x) (10 ∷ y)
one_first bytes a x b y first second = same_split 10 a b (10 ∷ x) (10 ∷ y) first.one second.one refl refl (sym first.parts ∙ second.parts)

same_tail : {x y : List ℕ} → 10 ∷ x ≡ 10 ∷ y → x ≡ y
same_tail same = cc

pub same_rest : (bytes a x b y : List ℕ) → IsFirst bytes a x → IsFirst bytes b y → x ≡ y
same_rest bytes a x b y first second = same_tail (one_first bytes a x b y first second).rest

-- ---- bytes of which the last line is open

whole_lines : (lines : List (List ℕ)) → AllByRecursion IsLine lines → AllByRecursion (HasNo 10) lines
whole_lines [] h = tt
whole_lines (line ∷ lines) h = (h.0.one, whole_lines lines h.1)

pub lines_of-whole : (lines : List (List ℕ)) (left : List ℕ) → AllByRecursion IsLine lines → lines_of (ended lines ++ left) ≡ lines ++ lines_of left
lines_of-whole lines left h = lines_of-ended lines left (whole_lines lines h)

pub AllLines-append : (front others : List (List ℕ)) → AllByRecursion IsLine front → AllByRecursion IsLine others → AllByRecursion IsLine (front ++ others)
AllLines-append [] others h k = k
AllLines-append (line ∷ lines) others h k = (h.0, AllLines-append lines others h.1 k)

-- the first line is not too long, and the last one stays open
pub record FirstOf (line rest : List ℕ) (count : ℕ) : Type 0 where
  pub is_line : IsLine line
  pub rest_open : IsOpen rest count

by_lines : (bytes line rest : List ℕ) (count : ℕ) (lines : List (List ℕ)) (last : List ℕ) → bytes ≡ ended lines ++ last → AllByRecursion IsLine lines → IsLine last → length last ≡ count → IsFirst bytes line rest → FirstOf line rest count
by_lines bytes line rest count [] last parts whole is_last same is = absurd (has_end line rest (subst (HasNo 10) (sym parts ∙ is.parts) is_last.one))
by_lines bytes line rest count (first ∷ lines) last parts whole is_last same is =
    let found : IsFirst bytes first (ended lines ++ last) = record { parts = parts ∙ append_assoc first (10 ∷ ended lines) last; one = whole.0.one } in
    record {
      is_line = subst IsLine (one_first bytes first (ended lines ++ last) line rest found is).word whole.0;
      rest_open = record { lines = lines; last = last; parts = sym (same_rest bytes first (ended lines ++ last) line rest found is); whole = whole.1; is_last = is_last; count = same };
    }

pub FirstOf-open : (bytes line rest : List ℕ) (count : ℕ) → IsOpen bytes count → IsFirst bytes line rest → FirstOf line rest count
FirstOf-open bytes line rest count is first = by_lines bytes line rest count is.lines is.last is.parts is.whole is.is_last is.count first

-- what stands before the open line
pub take-open : (bytes : List ℕ) (count : ℕ) → (is : IsOpen bytes count) → take (length bytes - count) bytes ≡ ended is.lines
take-open bytes count is =
    let len : length bytes ≡ length (ended is.lines) + length is.last = ap length is.parts ∙ length-append (ended is.lines) is.last in
    ap (take (length bytes - count)) is.parts ∙ take_at (ended is.lines) is.last (length bytes - count) (omega (arith, len, is.count))

pub count_within : (bytes : List ℕ) (count : ℕ) → IsOpen bytes count → count ≤ length bytes
count_within bytes count is =
    let len : length bytes ≡ length (ended is.lines) + length is.last = ap length is.parts ∙ length-append (ended is.lines) is.last in
    omega (arith, len, is.count)

-- whole lines alone
pub IsOpen-whole : (lines : List (List ℕ)) → AllByRecursion IsLine lines → IsOpen (ended lines) 0
IsOpen-whole lines whole = record { lines = lines; last = []; parts = sym (append-nil (ended lines)); whole = whole; is_last = record { one = refl; few = omega arith }; count = refl }

by_end : (bytes : List ℕ) (count : ℕ) (lines : List (List ℕ)) (last : List ℕ) → bytes ≡ ended lines ++ last → length last ≡ count → HasNo 10 bytes → length bytes ≡ count
by_end bytes count [] last parts len none = ap length parts ∙ len
by_end bytes count (line ∷ lines) last parts len none = absurd (has_end line (ended lines ++ last) (subst (HasNo 10) (parts ∙ append_assoc line (10 ∷ ended lines) last) none))

all_by_lines : (bytes : List ℕ) (count : ℕ) (lines : List (List ℕ)) (last : List ℕ) → bytes ≡ ended lines ++ last → IsLine last → length last ≡ count → length bytes ≡ count → IsLine bytes
all_by_lines bytes count [] last parts is_last len same = subst IsLine (sym parts) is_last
all_by_lines bytes count (line ∷ lines) last parts is_last len same =
    absurd (omega (arith, len, same, ap length parts, length-append (line ++ 10 ∷ ended lines) last, length-append line (10 ∷ ended lines)))

-- bytes that are all of the open line
pub all_open : (bytes : List ℕ) (count : ℕ) → IsOpen bytes count → length bytes ≡ count → IsLine bytes
all_open bytes count is same = all_by_lines bytes count is.lines is.last is.parts is.is_last is.count same

-- bytes without an end of a line are all of the open line
pub no_end_open : (bytes : List ℕ) (count : ℕ) → IsOpen bytes count → HasNo 10 bytes → length bytes ≡ count
no_end_open bytes count is none = by_end bytes count is.lines is.last is.parts is.count none

-- ---- the first line is taken

pub skip_open : (bytes slice after : List ℕ) (end count : ℕ) → slice ≡ bytes → after ≡ drop (end + 1) bytes → IsFirst slice (take end slice) (drop (end + 1) slice) → IsOpen bytes count → IsOpen after count
skip_open bytes slice after end count same after_is first is =
    let here = subst (λ (b : List ℕ). IsFirst b (take end b) (drop (end + 1) b)) same first in
    subst (λ (b : List ℕ). IsOpen b count) (sym after_is) (FirstOf-open bytes (take end bytes) (drop (end + 1) bytes) count is here).rest_open

pub few_of_first : (bytes slice line rest : List ℕ) (count : ℕ) → slice ≡ bytes → IsFirst slice line rest → IsOpen bytes count → length line ≤ 262144
few_of_first bytes slice line rest count same first is = (FirstOf-open bytes line rest count is (subst (λ (b : List ℕ). IsFirst b line rest) same first)).is_line.few

left_state : (before : FramerState) (after rest : List ℕ) (was_long : Bool) → before.is_long ≡ was_long → after ≡ rest → record { left = after; is_long = was_long } ≡ record before { left = rest }
left_state before after rest was_long long same = cc

pub skip_state : (before : FramerState) (left slice after : List ℕ) (was_long : Bool) (end : ℕ) → record { left = left; is_long = was_long } ≡ before → slice ≡ left → after ≡ drop (end + 1) left → IsFirst slice (take end slice) (drop (end + 1) slice)
    → (line rest : List ℕ) → IsFirst before.left line rest → record { left = after; is_long = was_long } ≡ record before { left = rest }
skip_state before left slice after was_long end is same after_is first line rest other =
    let left_is : left ≡ before.left = ap (λ (s : FramerState). s.left) is in
    let here = subst (λ (b : List ℕ). IsFirst b (take end b) (drop (end + 1) b)) (same ∙ left_is) first in
    left_state before after rest was_long (sym (ap (λ (s : FramerState). s.is_long) is))
    (after_is ∙ ap (drop (end + 1)) left_is ∙ same_rest before.left (take end before.left) (drop (end + 1) before.left) line rest here other)
