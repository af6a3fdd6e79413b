-- The piece is fed, and the messages that are whole then are taken.
use Rattle.std.proofs.Common.{refl, arith}
use Rattle.follow_run.proofs.AnsweredLemmas.{StopsWithin-refused, TakesAll-fed, StopsWithin-fed, as_many_fed}
use Rattle.follow_run.proofs.BoundLemmas.{fed_bytes, fed_few}
use Rattle.follow_run.proofs.following.take_piece.Goals as goal

pub take_messages-requires-clause-bytes : goal.take_messages-requires-clause-bytes
take_messages-requires-clause-bytes g c = fed_bytes _ _ _ c.in-Ok.ensures.ok c.requires.bytes (λ i. omega (arith, c.type_inv.piece i))

pub take_messages-requires-clause-counted : goal.take_messages-requires-clause-counted
take_messages-requires-clause-counted g c = fed_few _ _ _ c.in-Ok.ensures.ok c.requires.counted

pub returns-in-Ok-clause-ok : goal.returns-in-Ok-clause-ok
returns-in-Ok-clause-ok g c = TakesAll-fed g.D.Disk.clock g.D.Disk.left_since g.D.Disk.image g.D.Disk.faults c.args.reader.now _ c.args.piece.now c.in-Ok.ensures.ok _ _ _ _ _ _ c.take_messages.ensures.ok

pub returns-in-Ok-clause-as_many : goal.returns-in-Ok-clause-as_many
returns-in-Ok-clause-as_many g c = as_many_fed c.args.reader.now _ c.args.piece.now c.in-Ok.ensures.ok _ _ c.take_messages.ensures.as_many

pub returns-in-Ok-clause-stops : goal.returns-in-Ok-clause-stops
returns-in-Ok-clause-stops g c = StopsWithin-fed g.D.Disk.clock g.D.Disk.left_since g.D.Disk.image g.D.Disk.faults c.args.reader.now _ c.args.piece.now c.in-Ok.ensures.ok _ _ _ _ _ c.take_messages.ensures.stops

pub returns-in-Err-clause-stops : goal.returns-in-Err-clause-stops
returns-in-Err-clause-stops g c = StopsWithin-refused g.D.Disk.clock g.D.Disk.left_since g.D.Disk.image g.D.Disk.faults _ _ _ _ _ c.requires.running refl
