use Rattle.std.proofs.lemmas.Bool.{false≢true}
use Rattle.access_history.specs.Books.{live_book}
use Rattle.op_gate.proofs.CitingLemmas.{IsMoved-at}
use Rattle.op_gate.proofs.cite.first_moved.Goals as goal

pub returns-then-not-is_in_place : goal.returns-then-not-is_in_place
returns-then-not-is_in_place c =
    IsMoved-at (live_book c.args.entries.now) c.args.cites.now c.loop-cite.cite-index _ c.cite-item.result c.loop-cite-test.true c.cite-item.is c.loop-cite.invariant (λ stands. absurd (false≢true (c.if-not-is_in_place.ensures.1 stands)))
