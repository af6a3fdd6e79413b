use Rattle.pcfs_store.proofs.FormatLemmas.{new_rests, new_has_image, new_used}
use Rattle.pcfs_store.proofs.format.format_first.Goals as goal

pub from_scan-requires-clause-image : goal.from_scan-requires-clause-image
from_scan-requires-clause-image g c = new_has_image c.args.gate c.requires.is_fresh

pub from_scan-requires-clause-used : goal.from_scan-requires-clause-used
from_scan-requires-clause-used g c = new_used c.args.gate c.in-Ok.active.end c.requires.no_events c.in-Ok.ensures.end

pub returns-in-Ok-clause-rests : goal.returns-in-Ok-clause-rests
returns-in-Ok-clause-rests g c = λ first told.
    new_rests g.D.Disk.clock g.D.Disk.left_since g.D.Disk.image c.args.a c.in-Ok.active c.args.b c.args.gate c.from_scan.result first c.from_scan.ensures c.requires.no_events c.in-Ok.ensures.image c.in-Ok.ensures.pinned told
