use Rattle.std.proofs.Common.{Some, None}
use Rattle.nine_messages.specs.Fields.{text_at, listed_at}
use Rattle.nine_messages.proofs.NamesLemmas.{walk_names}
use Rattle.nine_messages.proofs.request_reading.walk_of.Goals as goal

pub returns-in-None : goal.returns-in-None
returns-in-None c = rw (c.in_ok-fid.ensures, c.in_ok-newfid.ensures) (walk_names c.in_ok-fid.fid c.in_ok-newfid.newfid (listed_at text_at c.in_ok-newfid.rest.now) None c.in-None.ensures)

pub returns-in-Some : goal.returns-in-Some
returns-in-Some c = rw (c.in_ok-fid.ensures, c.in_ok-newfid.ensures) (walk_names c.in_ok-fid.fid c.in_ok-newfid.newfid (listed_at text_at c.in_ok-newfid.rest.now) (Some c.in-Some.names) c.in-Some.ensures)
