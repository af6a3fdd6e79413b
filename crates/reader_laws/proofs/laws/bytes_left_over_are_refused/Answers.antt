use Rattle.reader_laws.proofs.WholeLemmas.{procap_left_over, event_left_over}
use Rattle.reader_laws.proofs.laws.bytes_left_over_are_refused.Goals as goal

pub returns : goal.returns
returns c = record { procaps = procap_left_over; events = event_left_over }
