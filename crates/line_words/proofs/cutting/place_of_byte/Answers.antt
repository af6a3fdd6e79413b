-- The place of the first stop byte, or the length.
use Rattle.std.proofs.Common.{arith, not}
use Rattle.std.specs.Prelude.{◌==◌}
use Rattle.std.proofs.lemmas.List.Sums.{prefix_len-le-length}
use Rattle.line_text.proofs.WordLemmas.{stop_place-unwrap_or}
use Rattle.line_words.proofs.cutting.place_of_byte.Goals as goal

pub returns-clause-same : goal.returns-clause-same
returns-clause-same c = stop_place-unwrap_or c.args.stop c.args.line.now c.first_stop.result c.unwrap_or.result c.first_stop.ensures c.unwrap_or.ensures

pub returns-clause-within : goal.returns-clause-within
returns-clause-within c =
    let place = stop_place-unwrap_or c.args.stop c.args.line.now c.first_stop.result c.unwrap_or.result c.first_stop.ensures c.unwrap_or.ensures in
    omega (arith, place, prefix_len-le-length (λ byte. not (byte == c.args.stop)) c.args.line.now)
