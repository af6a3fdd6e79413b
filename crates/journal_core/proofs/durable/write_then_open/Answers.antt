use Rattle.std.proofs.Common.{◌⊎◌, ◌+◌, [], ◌∷◌, ap, ◌∙◌, inl}
use Rattle.std.specs.Option.{option_map}
use Rattle.pcfs_ports.specs.Disk.{written, Torn}
use Rattle.journal_core.proofs.RestsLemmas.{then_leaves, weaker_leaves}
use Rattle.journal_core.proofs.durable.write_then_open.Goals as goal

pub returns-in_err-write_through-clause-any_moment : goal.returns-in_err-write_through-clause-any_moment
returns-in_err-write_through-clause-any_moment g c bytes told pinned =
    weaker_leaves g.D.Disk.clock g.D.Disk.left_since c.args.disk.now c.write_through.new.disk (Torn (c.args.gate + 1) c.args.piece.now bytes)
    (λ left. Torn (c.args.gate + 1) c.args.piece.now bytes left ⊎ Torn c.args.gate (1 ∷ []) (written (c.args.gate + 1) c.args.piece.now bytes) left)
    (λ left torn. inl torn) (c.write_through.ensures.any_moment bytes told pinned)

pub returns-in_err-write_through-2-clause-any_moment : goal.returns-in_err-write_through-2-clause-any_moment
returns-in_err-write_through-2-clause-any_moment g c bytes told pinned =
    then_leaves g.D.Disk.clock g.D.Disk.left_since c.args.disk.now c.write_through.new.disk c.write_through-2.new.disk
    (Torn (c.args.gate + 1) c.args.piece.now bytes) (Torn c.args.gate (1 ∷ []) (written (c.args.gate + 1) c.args.piece.now bytes))
    (c.write_through.ensures.any_moment bytes told pinned)
    (c.write_through-2.ensures.any_moment (written (c.args.gate + 1) c.args.piece.now bytes)
    (c.in_ok-write_through.ensures.image ∙ ap (option_map (written (c.args.gate + 1) c.args.piece.now)) told) c.in_ok-write_through.ensures.pinned)

pub returns-clause-any_moment : goal.returns-clause-any_moment
returns-clause-any_moment g c bytes told pinned =
    then_leaves g.D.Disk.clock g.D.Disk.left_since c.args.disk.now c.write_through.new.disk c.write_through-2.new.disk
    (Torn (c.args.gate + 1) c.args.piece.now bytes) (Torn c.args.gate (1 ∷ []) (written (c.args.gate + 1) c.args.piece.now bytes))
    (c.write_through.ensures.any_moment bytes told pinned)
    (c.write_through-2.ensures.any_moment (written (c.args.gate + 1) c.args.piece.now bytes)
    (c.in_ok-write_through.ensures.image ∙ ap (option_map (written (c.args.gate + 1) c.args.piece.now)) told) c.in_ok-write_through.ensures.pinned)
