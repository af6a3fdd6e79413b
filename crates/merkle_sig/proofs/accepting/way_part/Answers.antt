use Rattle.std.proofs.lemmas.List.{take_rest}
use Rattle.merkle_sig.specs.Signature.{way_part}
use Rattle.merkle_sig.proofs.accepting.way_part.Goals as goal

pub returns-clause-value : goal.returns-clause-value
unfolding way_part
returns-clause-value c = take_rest c.args.signature.now 16388
