use Rattle.std.proofs.Common.{◌≡◌, ℕ, ◌+◌, List, ◌++◌, length, take, drop, replicate, ap, ◌∙◌, arith}
use Rattle.std.proofs.lemmas.List.{take_at, length-replicate}
use Rattle.pcfs_ports.proofs.DiskLemmas.{grown_written}
use Rattle.pcfs_ports.proofs.image.write_filled.Goals as goal

pub returns : goal.returns
returns c =
    let at = c.args.at in
    let len = c.args.len in
    let same : length c.fill_range.new.bytes ≡ c.reach.new.bytes.len = omega (arith, c.reach.new.bytes.ok.0) in
    take_at c.fill_range.new.bytes _ c.reach.new.bytes.len same
    ∙ c.fill_range.ensures
    ∙ ap (λ (xs : List ℕ). take at xs ++ (replicate len c.args.fill ++ drop (at + len) xs)) (c.deref_mut.ensures.value ∙ c.in_ok-reach.ensures.ok)
    ∙ grown_written c.args.fill at len (replicate len c.args.fill) c.args.bytes.now.items (length-replicate {A = ℕ} len c.args.fill)
