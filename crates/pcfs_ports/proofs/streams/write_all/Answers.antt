use Rattle.std.proofs.Common.{◌∙◌, arith}
use Rattle.std.proofs.lemmas.List.{take_rest}
use Rattle.pcfs_ports.proofs.TakesLemmas.{with_back-take}
use Rattle.pcfs_ports.proofs.streams.write_all.Goals as goal

pub loop-at-preserved : goal.loop-at-preserved
loop-at-preserved g c = record {
  within = omega (arith, c.in_ok-at.ensures.bound);
  held =
      let rest = take_rest c.args.bytes.now c.loop-at.at in
      with_back-take _ _ _ _ _ _ _ rest c.loop-at.invariant.held c.in_ok-at.ensures.ok;
  steady = c.in_ok-at.ensures.steady ∙ c.loop-at.invariant.steady;
  never_falls = omega (arith, c.in_ok-at.ensures.never_falls);
}
