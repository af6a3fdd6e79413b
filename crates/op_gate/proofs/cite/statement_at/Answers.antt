-- The entry that was read is the one of that number.
use Rattle.std.proofs.Common.{refl}
use Rattle.access_history.proofs.NumberedLemmas.{no_zero, none_beyond, numbered_in}
use Rattle.op_gate.proofs.CitingLemmas.{among_has, told_live, told_registered}
use Rattle.op_gate.proofs.cite.statement_at.Goals as goal
use Rattle.op_gate.proofs.cite.statement_at.Goals.{then-number-eq0-via-then-number-eq0, then-number-eq0-via-else-number-eq0+then-entries-number}

pub returns-then-number-eq0 : goal.returns-then-number-eq0
returns-then-number-eq0 c =
    elim c.then-number-eq0.branch [
      | then-number-eq0-via-then-number-eq0 w ↦ λ held. no_zero c.args.entries.now c.args.number w.if-number-eq0.true (among_has c.args.among c.args.entries.now c.args.number held)
      | then-number-eq0-via-else-number-eq0+then-entries-number w ↦ λ held. none_beyond c.args.entries.now c.args.entries.now c.args.number refl w.if-entries-number.true (among_has c.args.among c.args.entries.now c.args.number held)
    ]

pub returns-in-Registered : goal.returns-in-Registered
returns-in-Registered c =
    let numbered = numbered_in c.args.entries.now c.args.entries.now c.args.number c.index-entries-number.result refl c.if-number-eq0.false c.if-entries-number.false c.index-entries-number.is in
    told_registered c.args.among c.args.entries.now c.args.number c.index-entries-number.result _ c.in-Registered.is numbered c.statement.ensures

pub returns-in-Live : goal.returns-in-Live
returns-in-Live c =
    let numbered = numbered_in c.args.entries.now c.args.entries.now c.args.number c.index-entries-number.result refl c.if-number-eq0.false c.if-entries-number.false c.index-entries-number.is in
    told_live c.args.among c.args.entries.now c.args.number c.index-entries-number.result c.live.result c.in-Live.is numbered c.live.ensures
