-- A piece is scanned line by line.
use Rattle.std.proofs.Common.{◌≡◌, ◌≤◌, ◌<◌, ◌+◌, ◌-◌, ℕ, List, [], ◌∷◌, ◌++◌, length, take, drop, refl, sym, ap, ◌∙◌, append_assoc, length-append, arith}
use Rattle.std.specs.List.{AllByRecursion}
use Rattle.std.proofs.lemmas.List.{append-nil, take_at, length-take-le}
use Rattle.line_text.specs.Lines.{lines_of}
use Rattle.line_text.specs.Words.{HasNo}
use Rattle.line_framer.specs.Framing.{ended, IsFirst, IsLine, IsOpen}
use Rattle.line_framer.specs.Scanning.{IsLong, IsScanned}
use Rattle.line_framer.specs.declared.scanning.Scanned.TheVariants.{Short, Long}
use Rattle.line_framer.proofs.FramingLemmas.{HasNo-append, first_line, last_line, ended-append, lines_of-whole, AllLines-append}

-- the front of a piece, after a last line: whole lines, and a last line with so many bytes. If there is no front it is that line, and else it is empty or the front has no end of a line
pub record Reached (last front : List ℕ) (count : ℕ) : Type 0 where
  pub lines : List (List ℕ)
  pub now : List ℕ
  pub parts : last ++ front ≡ ended lines ++ now
  pub whole : AllByRecursion IsLine lines
  pub is_now : IsLine now
  pub len : length now ≡ count
  pub none : length front ≡ 0 → lines ≡ []
  pub some : 0 < length front → now ≡ []

-- the piece is scanned up to this rest
pub record SoFar (count : ℕ) (piece rest : List ℕ) (now : ℕ) : Type 0 where
  pub front : List ℕ
  pub parts : piece ≡ front ++ rest
  pub reached : (last : List ℕ) → length last ≡ count → IsLine last → Reached last front now

pub SoFar-none : (count : ℕ) (piece : List ℕ) → SoFar count piece piece count
SoFar-none count piece = record {
  front = [];
  parts = refl;
  reached = λ last len is. record {
    lines = [];
    now = last;
    parts = append-nil last;
    whole = tt;
    is_now = is;
    len = len;
    none = λ _. refl;
    some = λ more. absurd (omega (arith, more));
  };
}

-- ---- one line more

line_more : (last front seg : List ℕ) (count : ℕ) → Reached last front count → HasNo 10 seg → count + length seg ≤ 262144 → Reached last (front ++ (seg ++ 10 ∷ [])) 0
line_more last front seg count r one few =
    let len : length (r.now ++ seg) ≡ length r.now + length seg = length-append r.now seg in
    let is : IsLine (r.now ++ seg) = record { one = HasNo-append r.now seg r.is_now.one one; few = omega (arith, len, r.len, few) } in
    record {
      lines = r.lines ++ (r.now ++ seg) ∷ [];
      now = [];
      parts =
          sym (append_assoc last front (seg ++ 10 ∷ [])) ∙ ap (λ (bytes : List ℕ). bytes ++ (seg ++ 10 ∷ [])) r.parts
          ∙ append_assoc (ended r.lines) r.now (seg ++ 10 ∷ []) ∙ ap (λ (bytes : List ℕ). ended r.lines ++ bytes) (sym (append_assoc r.now seg (10 ∷ [])))
          ∙ sym (ended-append r.lines ((r.now ++ seg) ∷ [])) ∙ sym (append-nil (ended (r.lines ++ (r.now ++ seg) ∷ [])));
      whole = AllLines-append r.lines ((r.now ++ seg) ∷ []) r.whole (is, tt);
      is_now = record { one = refl; few = omega arith };
      len = refl;
      none = λ same. absurd (omega (arith, same, length-append front (seg ++ 10 ∷ []), length-append seg (10 ∷ [])));
      some = λ _. refl;
    }

pub SoFar-more : (count : ℕ) (piece rest seg others : List ℕ) (now : ℕ) → SoFar count piece rest now → IsFirst rest seg others → now + length seg ≤ 262144 → SoFar count piece others 0
SoFar-more count piece rest seg others now s is few = record {
  front = s.front ++ (seg ++ 10 ∷ []);
  parts =
      s.parts ∙ ap (λ (bytes : List ℕ). s.front ++ bytes) (is.parts ∙ sym (append_assoc seg (10 ∷ []) others)) ∙ sym (append_assoc s.front (seg ++ 10 ∷ []) others);
  reached = λ last len is_last. line_more last s.front seg now (s.reached last len is_last) is.one few;
}

-- ---- the end of a scan

short_open : (last piece rest : List ℕ) (front : List ℕ) (now : ℕ) → piece ≡ front ++ rest → Reached last front now → HasNo 10 rest → now + length rest ≤ 262144 → IsOpen (last ++ piece) (now + length rest)
short_open last piece rest front now parts r none few =
    let len : length (r.now ++ rest) ≡ length r.now + length rest = length-append r.now rest in
    record {
      lines = r.lines;
      last = r.now ++ rest;
      parts =
          ap (λ (bytes : List ℕ). last ++ bytes) parts ∙ sym (append_assoc last front rest) ∙ ap (λ (bytes : List ℕ). bytes ++ rest) r.parts ∙ append_assoc (ended r.lines) r.now rest;
      whole = r.whole;
      is_last = record { one = HasNo-append r.now rest r.is_now.one none; few = omega (arith, len, r.len, few) };
      count = omega (arith, len, r.len);
    }

pub IsScanned-short : (count : ℕ) (piece rest : List ℕ) (now : ℕ) → SoFar count piece rest now → HasNo 10 rest → now + length rest ≤ 262144 → IsScanned count piece (Short (now + length rest))
IsScanned-short count piece rest now s none few last len is = short_open last piece rest s.front now s.parts (s.reached last len is) none few

-- the rest, after a line, begins with a line that is too long
pub record RestIsLong (rest now : List ℕ) : Type 0 where
  pub long : List ℕ
  pub after : List (List ℕ)
  pub lines_are : lines_of (now ++ rest) ≡ long ∷ after
  pub too_long : 262144 < length long

long_at : (last piece rest front : List ℕ) (now : ℕ) → piece ≡ front ++ rest → (r : Reached last front now) → RestIsLong rest r.now → IsLong last piece (length piece - length rest)
long_at last piece rest front now parts r is =
    let len : length piece ≡ length front + length rest = ap length parts ∙ length-append front rest in
    let taken : take (length piece - length rest) piece ≡ front = ap (take (length piece - length rest)) parts ∙ take_at front rest (length piece - length rest) (omega (arith, len)) in
    record {
      before = r.lines;
      has_long = record {
        long = is.long;
        after = is.after;
        lines_are =
            ap lines_of
            (ap (λ (bytes : List ℕ). last ++ bytes) parts ∙ sym (append_assoc last front rest) ∙ ap (λ (bytes : List ℕ). bytes ++ rest) r.parts ∙ append_assoc (ended r.lines) r.now rest)
            ∙ lines_of-whole r.lines (r.now ++ rest) r.whole ∙ ap (λ (lines : List (List ℕ)). r.lines ++ lines) is.lines_are;
        whole = r.whole;
        too_long = is.too_long;
      };
      within = omega (arith, len);
      none = λ zero_of. r.none (omega (arith, len, zero_of));
      some = λ more.
          ap (λ (bytes : List ℕ). last ++ bytes) taken ∙ r.parts ∙ ap (λ (bytes : List ℕ). ended r.lines ++ bytes) (r.some (omega (arith, len, more))) ∙ append-nil (ended r.lines);
    }

line_is_long : (rest seg others now : List ℕ) → IsLine now → IsFirst rest seg others → 262144 < length now + length seg → RestIsLong rest now
line_is_long rest seg others now is_now is long = record {
  long = now ++ seg;
  after = lines_of others;
  lines_are = first_line (now ++ rest) (now ++ seg) others (record { parts = ap (λ (bytes : List ℕ). now ++ bytes) is.parts ∙ sym (append_assoc now seg (10 ∷ others)); one = HasNo-append now seg is_now.one is.one });
  too_long = omega (arith, length-append now seg, long);
}

rest_is_long : (rest now : List ℕ) → IsLine now → HasNo 10 rest → 262144 < length now + length rest → RestIsLong rest now
rest_is_long rest now is_now none long = record {
  long = now ++ rest;
  after = [];
  lines_are = last_line (now ++ rest) (HasNo-append now rest is_now.one none) (omega (arith, length-append now rest, long));
  too_long = omega (arith, length-append now rest, long);
}

pub IsScanned-line : (count : ℕ) (piece rest seg others : List ℕ) (now : ℕ) → SoFar count piece rest now → IsFirst rest seg others → 262144 < now + length seg → IsScanned count piece (Long (length piece - length rest))
IsScanned-line count piece rest seg others now s is long last len is_last =
    let r = s.reached last len is_last in
    long_at last piece rest s.front now s.parts r (line_is_long rest seg others r.now r.is_now is (omega (arith, r.len, long)))

pub IsScanned-rest : (count : ℕ) (piece rest : List ℕ) (now : ℕ) → SoFar count piece rest now → HasNo 10 rest → 262144 < now + length rest → IsScanned count piece (Long (length piece - length rest))
IsScanned-rest count piece rest now s none long last len is_last =
    let r = s.reached last len is_last in
    long_at last piece rest s.front now s.parts r (rest_is_long rest r.now r.is_now none (omega (arith, r.len, long)))

-- ---- by the place of an end

pub scan_more : (count : ℕ) (piece rest : List ℕ) (end now : ℕ) → SoFar count piece rest now → (end < length rest) × IsFirst rest (take end rest) (drop (end + 1) rest) → end ≤ 262144 - now → now ≤ 262144 → SoFar count piece (drop (end + 1) rest) 0
scan_more count piece rest end now s at few within =
    SoFar-more count piece rest (take end rest) (drop (end + 1) rest) now s at.1 (omega (arith, length-take-le end rest (omega (arith, at.0)), few, within))

pub scan_line : (count : ℕ) (piece rest : List ℕ) (end now : ℕ) → SoFar count piece rest now → (end < length rest) × IsFirst rest (take end rest) (drop (end + 1) rest) → 262144 - now < end → IsScanned count piece (Long (length piece - length rest))
scan_line count piece rest end now s at long =
    IsScanned-line count piece rest (take end rest) (drop (end + 1) rest) now s at.1 (omega (arith, length-take-le end rest (omega (arith, at.0)), long))
