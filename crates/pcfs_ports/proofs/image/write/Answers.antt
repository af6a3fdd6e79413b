use Rattle.std.proofs.Common.{◌≡◌, ℕ, ◌+◌, List, ◌++◌, length, take, drop, refl, ap, ◌∙◌, arith}
use Rattle.std.proofs.lemmas.List.{take_at}
use Rattle.pcfs_ports.proofs.DiskLemmas.{grown_written}
use Rattle.pcfs_ports.proofs.image.write.Goals as goal

pub returns-clause-ok : goal.returns-clause-ok
returns-clause-ok c =
    let at = c.args.at in
    let piece = c.args.piece.now in
    let len : length c.overwrite.new.bytes ≡ c.reach.new.bytes.len = omega (arith, c.reach.new.bytes.ok.0) in
    take_at c.overwrite.new.bytes _ c.reach.new.bytes.len len
    ∙ c.overwrite.ensures
    ∙ ap (λ (xs : List ℕ). take at xs ++ (piece ++ drop (at + length piece) xs)) (c.deref_mut.ensures.value ∙ c.in_ok-reach.ensures.ok)
    ∙ grown_written c.args.gap at (length piece) piece c.args.bytes.now.items refl
