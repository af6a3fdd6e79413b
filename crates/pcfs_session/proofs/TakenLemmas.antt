-- The lines of what was taken of an input.
use Rattle.std.proofs.Common.{◌≡◌, ◌<◌, ◌≤◌, ◌+◌, ℕ, Bool, true, false, List, [], ◌∷◌, ◌++◌, length, take, drop, Option, Some, None, refl, sym, ap, ◌∙◌, subst, append_assoc, append-nil, length-append, arith}
use Rattle.std.specs.Prelude.{◌==◌, if◌then◌else◌}
use Rattle.std.specs.List.{AllByRecursion}
use Rattle.std.proofs.lemmas.Bool.{eqb-true, false≢true}
use Rattle.std.proofs.lemmas.List.{take-take, take-append-le, length-take-le}
use Rattle.pcfs_ports.specs.Observable.{with_front, IsAtEnd, ReadsToEnd}
use Rattle.line_text.specs.Lines.{lines_of, with_byte}
use Rattle.line_text.specs.Words.{HasNo}
use Rattle.line_framer.specs.Framing.{FramerState, ended, IsFirst, IsLine}
use Rattle.line_framer.specs.Scanning.{HasLong}
use Rattle.line_framer.specs.Feeding.{AreShort}
use Rattle.line_framer.proofs.FramingLemmas.{last_line, one_more, ended-append, lines_of-whole, AllLines-append}
use Rattle.pcfs_session.specs.Taken.{AreFirst}

-- ---- what a port tells

-- bytes and then more bytes before what is left
pub with_front-with_front : (a b : List ℕ) (told : Option (List ℕ)) → with_front a (with_front b told) ≡ with_front (a ++ b) told
with_front-with_front a b None = refl
with_front-with_front a b (Some left) = ap Some (sym (append_assoc a b left))

pub with_front-nil : (told : Option (List ℕ)) → told ≡ with_front [] told
with_front-nil None = refl
with_front-nil (Some left) = refl

-- an input that was taken up to its end was read to it
pub ReadsToEnd-taken : (bytes : List ℕ) (old new : Option (List ℕ)) → old ≡ with_front bytes new → IsAtEnd new → ReadsToEnd old new bytes
ReadsToEnd-taken bytes old None taken at_end = subst (λ (o : Option (List ℕ)). ReadsToEnd o None bytes) (sym taken) (record { all = tt; end = refl })
ReadsToEnd-taken bytes old (Some left) taken at_end =
    subst (λ (o : Option (List ℕ)). ReadsToEnd o (Some left) bytes) (sym taken)
    (record { all = ap (λ (l : List ℕ). bytes ++ l) at_end ∙ append-nil bytes; end = ap Some at_end })

-- no byte was taken
pub nothing_taken : (count : ℕ) (piece : List ℕ) (left left_after : Option (List ℕ)) → count ≡ 0 → left ≡ with_front (take count piece) left_after → left ≡ left_after
nothing_taken count piece left left_after none taken = subst (λ (k : ℕ). left ≡ with_front (take k piece) left_after) none taken ∙ sym (with_front-nil left_after)

-- ---- a piece

-- what is shown of room that begins with the bytes that were given
pub record IsShown (count : ℕ) (given shown : List ℕ) : Type 0 where
  pub same : take count shown ≡ take count given
  pub len : length (take count shown) ≡ count

pub IsShown-front : (count len : ℕ) (given old shown : List ℕ) → shown ≡ take len (given ++ drop (length given) old) → count ≤ length given → length given ≤ len → IsShown count given shown
IsShown-front count len given old shown is within fits =
    let same : take count shown ≡ take count given =
    ap (take count) is ∙ take-take count len (given ++ drop (length given) old) (omega arith) ∙ take-append-le count given (drop (length given) old) within in
    record { same = same; len = ap length same ∙ length-take-le count given within }

pub taken_shown : (count : ℕ) (given shown : List ℕ) (left left_after : Option (List ℕ)) → IsShown count given shown → left ≡ with_front (take count given) left_after → left ≡ with_front (take count shown) left_after
taken_shown count given shown left left_after is taken = subst (λ (b : List ℕ). left ≡ with_front b left_after) (sym is.same) taken

-- the room stays as long as it was
pub room_stays : (len : ℕ) (given old : List ℕ) → length given ≡ length old → len ≡ length old → length (take len (given ++ drop (length given) old)) ≡ length old
room_stays len given old same is =
    let whole : length (given ++ drop (length given) old) ≡ length given + length (drop (length given) old) = length-append given (drop (length given) old) in
    length-take-le len (given ++ drop (length given) old) (omega (arith, whole)) ∙ is

-- ---- first lines

pub AreFirst-none : (bytes : List ℕ) → AreFirst bytes [] bytes
AreFirst-none bytes = record { whole = tt; parts = refl }

-- one line more
pub AreFirst-more : (bytes : List ℕ) (lines : List (List ℕ)) (left line rest : List ℕ) → AreFirst bytes lines left → IsFirst left line rest → length line ≤ 262144 → AreFirst bytes (lines ++ line ∷ []) rest
AreFirst-more bytes lines left line rest first is few = record {
  whole = AllLines-append lines (line ∷ []) first.whole (record { one = is.one; few = few }, tt);
  parts = first.parts ∙ one_more lines left line rest is;
}

-- those of bytes that stand after lines
pub AreFirst-then : (lines others : List (List ℕ)) (bytes rest : List ℕ) → AllByRecursion IsLine lines → AreFirst bytes others rest → AreFirst (ended lines ++ bytes) (lines ++ others) rest
AreFirst-then lines others bytes rest whole first = record {
  whole = AllLines-append lines others whole first.whole;
  parts =
      ap (λ (b : List ℕ). ended lines ++ b) first.parts ∙ sym (append_assoc (ended lines) (ended others) rest)
      ∙ ap (λ (b : List ℕ). b ++ rest) (sym (ended-append lines others));
}

-- fewer bytes are left after the first line
pub fewer_left : (before after : FramerState) (line rest : List ℕ) → IsFirst before.left line rest → after ≡ record before { left = rest } → length after.left < length before.left
fewer_left before after line rest first is = omega (arith, ap length first.parts, length-append line (10 ∷ rest), ap (λ (f : FramerState). length f.left) is)

-- bytes without an end that are no last line are none
pub none_left : (bytes : List ℕ) → HasNo 10 bytes → (HasNo 10 bytes → 1 ≤ length bytes → false ≡ true) → bytes ≡ []
none_left [] one last = refl
none_left (byte ∷ bytes) one last = absurd (false≢true (last one (omega arith)))

-- ---- no line is too long

all_short : (lines others : List (List ℕ)) → AllByRecursion IsLine lines → AllByRecursion (λ (line : List ℕ). length line ≤ 262144) others → AllByRecursion (λ (line : List ℕ). length line ≤ 262144) (lines ++ others)
all_short [] others h k = k
all_short (line ∷ lines) others h k = (h.0.few, all_short lines others h.1 k)

pub AreShort-then : (lines : List (List ℕ)) (bytes : List ℕ) → AllByRecursion IsLine lines → AreShort bytes → AreShort (ended lines ++ bytes)
AreShort-then lines bytes whole short =
    subst (AllByRecursion (λ (line : List ℕ). length line ≤ 262144)) (sym (lines_of-whole lines bytes whole)) (all_short lines (lines_of bytes) whole short)

-- one line without an end
pub AreShort-last : (bytes : List ℕ) → HasNo 10 bytes → 1 ≤ length bytes → length bytes ≤ 262144 → AreShort bytes
AreShort-last bytes one some few = subst (AllByRecursion (λ (line : List ℕ). length line ≤ 262144)) (sym (last_line bytes one some)) (few, tt)

pub AreShort-open : (bytes : List ℕ) → IsLine bytes → AreShort bytes
AreShort-open [] is = tt
AreShort-open (byte ∷ behind) is = AreShort-last (byte ∷ behind) is.one (omega arith) is.few

last_short : (lines : List (List ℕ)) (last : List ℕ) → AllByRecursion (λ (line : List ℕ). length line ≤ 262144) (lines ++ last ∷ []) → length last ≤ 262144
last_short [] last short = short.0
last_short (line ∷ lines) last short = last_short lines last short.1

-- what is left after the lines of bytes that are short has the length of a line
pub few_left : (bytes left : List ℕ) (lines : List (List ℕ)) → AreFirst bytes lines left → HasNo 10 left → AreShort bytes → length left ≤ 262144
few_left bytes [] lines first none short = omega arith
few_left bytes (byte ∷ behind) lines first none short =
    let is : lines_of bytes ≡ lines ++ (byte ∷ behind) ∷ [] =
    ap lines_of first.parts ∙ lines_of-whole lines (byte ∷ behind) first.whole ∙ ap (λ (ls : List (List ℕ)). lines ++ ls) (last_line (byte ∷ behind) none (omega arith)) in
    last_short lines (byte ∷ behind) (subst (AllByRecursion (λ (line : List ℕ). length line ≤ 262144)) is short)

-- what is left after lines of a line and a piece has no more bytes than these
pub few_rest : (open_line piece rest : List ℕ) (lines : List (List ℕ)) → AreFirst (open_line ++ piece) lines rest → length open_line ≤ 262144 → length piece ≤ 65536 → length rest ≤ 327680
few_rest open_line piece rest lines first few small = omega (arith, few, small, ap length first.parts, length-append open_line piece, length-append (ended lines) rest)

-- ---- a line is too long

pub HasLong-then : (lines before : List (List ℕ)) (bytes : List ℕ) → AllByRecursion IsLine lines → HasLong bytes before → HasLong (ended lines ++ bytes) (lines ++ before)
HasLong-then lines before bytes whole has = record {
  long = has.long;
  after = has.after;
  lines_are = lines_of-whole lines bytes whole ∙ ap (λ (others : List (List ℕ)). lines ++ others) has.lines_are ∙ sym (append_assoc lines before (has.long ∷ has.after));
  whole = AllLines-append lines before whole has.whole;
  too_long = has.too_long;
}

-- bytes of which there are two lines or more begin with the first and its end
record Begins (bytes line : List ℕ) (others : List (List ℕ)) : Type 0 where
  rest : List ℕ
  parts : bytes ≡ line ++ 10 ∷ rest
  lines_are : lines_of rest ≡ others

-- a line that goes on from its first byte
record GoesOnFrom (byte : ℕ) (line : List ℕ) (lines others : List (List ℕ)) : Type 0 where
  behind : List ℕ
  line_is : line ≡ byte ∷ behind
  lines_are : lines ≡ behind ∷ others

goes_on_from : (byte : ℕ) (lines : List (List ℕ)) (line second : List ℕ) (others : List (List ℕ)) → with_byte byte lines ≡ line ∷ second ∷ others → GoesOnFrom byte line lines (second ∷ others)
goes_on_from byte [] line second others same = absurd cc
goes_on_from byte (first ∷ lines) line second others same =
    let line_is : line ≡ byte ∷ first = cc in
    let lines_are : lines ≡ second ∷ others = cc in
    record { behind = first; line_is = line_is; lines_are = ap (λ (ls : List (List ℕ)). first ∷ ls) lines_are }

ends_here : (byte : ℕ) (bytes line second : List ℕ) (others : List (List ℕ)) → byte ≡ 10 → [] ∷ lines_of bytes ≡ line ∷ second ∷ others → Begins (byte ∷ bytes) line (second ∷ others)
ends_here byte bytes line second others is same =
    let none : [] ≡ line = cc in
    let lines_are : lines_of bytes ≡ second ∷ others = cc in
    record { rest = bytes; parts = ap (λ (b : ℕ). b ∷ bytes) is ∙ ap (λ (l : List ℕ). l ++ 10 ∷ bytes) none; lines_are = lines_are }

begins_by : (is_end : Bool) (byte : ℕ) (bytes line second : List ℕ) (others : List (List ℕ)) → (byte == 10) ≡ is_end → ((behind : List ℕ) → lines_of bytes ≡ behind ∷ second ∷ others → Begins bytes behind (second ∷ others)) →
    (if is_end then [] ∷ lines_of bytes else with_byte byte (lines_of bytes)) ≡ line ∷ second ∷ others → Begins (byte ∷ bytes) line (second ∷ others)
begins_by true byte bytes line second others is deeper same = ends_here byte bytes line second others (eqb-true byte 10 is) same
begins_by false byte bytes line second others is deeper same =
    let from = goes_on_from byte (lines_of bytes) line second others same in
    let b = deeper from.behind from.lines_are in
    record { rest = b.rest; parts = ap (λ (bs : List ℕ). byte ∷ bs) b.parts ∙ ap (λ (l : List ℕ). l ++ 10 ∷ b.rest) (sym from.line_is); lines_are = b.lines_are }

begins : (bytes line second : List ℕ) (others : List (List ℕ)) → lines_of bytes ≡ line ∷ second ∷ others → Begins bytes line (second ∷ others)
begins [] line second others same = absurd cc
begins (byte ∷ bytes) line second others same = begins_by (byte == 10) byte bytes line second others refl (λ (behind : List ℕ) is. begins bytes behind second others is) same

-- what stands after first lines that are followed by another one
first_lines : (lines : List (List ℕ)) (bytes next : List ℕ) (others : List (List ℕ)) → lines_of bytes ≡ lines ++ next ∷ others → (rest : List ℕ) × (bytes ≡ ended lines ++ rest)
first_lines [] bytes next others same = (bytes, refl)
first_lines (line ∷ []) bytes next others same = let b = begins bytes line next others same in (b.rest, b.parts ∙ sym (append_assoc line (10 ∷ []) b.rest))
first_lines (line ∷ (second ∷ lines)) bytes next others same =
    let b = begins bytes line second (lines ++ next ∷ others) same in
    let more = first_lines (second ∷ lines) b.rest next others b.lines_are in
    (more.0, b.parts ∙ ap (λ (r : List ℕ). line ++ 10 ∷ r) more.1 ∙ sym (append_assoc line (10 ∷ ended (second ∷ lines)) more.0))

-- the lines before one that is too long came with their ends
pub record IsBefore (bytes : List ℕ) (lines : List (List ℕ)) : Type 0 where
  pub rest : List ℕ
  pub first : AreFirst bytes lines rest

pub IsBefore-long : (bytes : List ℕ) (lines : List (List ℕ)) → HasLong bytes lines → IsBefore bytes lines
IsBefore-long bytes lines has =
    let found = first_lines lines bytes has.long has.after has.lines_are in
    record { rest = found.0; first = record { whole = has.whole; parts = found.1 } }

-- ---- lines are told by their bytes

by_rest : (lines others : List (List ℕ)) (left : List ℕ) → HasNo 10 left → ended lines ≡ ended others ++ left → lines ≡ others ++ lines_of left → lines ≡ others
by_rest lines others [] none bytes same = same ∙ append-nil others
by_rest lines others (byte ∷ behind) none bytes same =
    let all : lines ≡ others ++ (byte ∷ behind) ∷ [] = same ∙ ap (λ (ls : List (List ℕ)). others ++ ls) (last_line (byte ∷ behind) none (omega arith)) in
    let ends : ended lines ≡ ended others ++ ((byte ∷ behind) ++ 10 ∷ []) = ap ended all ∙ ended-append others ((byte ∷ behind) ∷ []) in
    absurd (omega (arith, ap length bytes, ap length ends, length-append (ended others) (byte ∷ behind), length-append (ended others) ((byte ∷ behind) ++ 10 ∷ []), length-append (byte ∷ behind) (10 ∷ [])))

pub same_lines : (lines others : List (List ℕ)) (left : List ℕ) → AllByRecursion IsLine lines → AllByRecursion IsLine others → HasNo 10 left → ended lines ≡ ended others ++ left → lines ≡ others
same_lines lines others left whole also none bytes =
    by_rest lines others left none bytes
    (sym (lines_of-whole lines [] whole ∙ append-nil lines) ∙ ap lines_of (append-nil (ended lines) ∙ bytes) ∙ lines_of-whole others left also)
