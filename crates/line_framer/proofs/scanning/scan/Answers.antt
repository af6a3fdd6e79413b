-- Each line of the piece is short enough, or it is the first that is not.
use Rattle.std.proofs.Common.{◌≡◌, ◌≤◌, ℕ, List, drop, length, ◌+◌, sym, ap, subst, length-drop, arith}
use Rattle.std.proofs.lemmas.List.{take_rest}
use Rattle.line_framer.proofs.ScanningLemmas.{SoFar, scan_more, scan_line, IsScanned-short, IsScanned-rest}
use Rattle.line_framer.proofs.scanning.scan.Goals as goal

within : (rest piece after : List ℕ) (n : ℕ) → after ≡ drop n rest → length rest ≤ length piece → length after ≤ length piece
within rest piece after n same few = omega (arith, ap length same, length-drop n rest)

pub returns-then-last_len-end : goal.returns-then-last_len-end
returns-then-last_len-end c = scan_line c.args.last_len c.args.piece.now c.lines.rest.now c.in-Some.end c.lines.last_len c.lines.invariant.2 c.in-Some.ensures c.if-last_len-end.true

pub lines-preserved : goal.lines-preserved
lines-preserved c =
    let rest = c.lines.rest.now in
    let more = scan_more c.args.last_len c.args.piece.now rest c.in-Some.end c.lines.last_len c.lines.invariant.2 c.in-Some.ensures c.if-last_len-end.false c.lines.invariant.0 in
    let same = take_rest rest (c.in-Some.end + 1) in
    (omega arith, within rest c.args.piece.now _ (c.in-Some.end + 1) same c.lines.invariant.1, subst (λ (r : List ℕ). SoFar c.args.last_len c.args.piece.now r 0) (sym same) more)

pub returns-then-last_len-rest : goal.returns-then-last_len-rest
returns-then-last_len-rest c = IsScanned-rest c.args.last_len c.args.piece.now c.lines.rest.now c.lines.last_len c.lines.invariant.2 c.in_default.ensures (omega (arith, c.if-last_len-rest.true))

pub returns-else-last_len-rest : goal.returns-else-last_len-rest
returns-else-last_len-rest c =
    IsScanned-short c.args.last_len c.args.piece.now c.lines.rest.now c.lines.last_len c.lines.invariant.2 c.in_default.ensures (omega (arith, c.if-last_len-rest.false, c.lines.invariant.0))
