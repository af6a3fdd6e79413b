use Rattle.std.proofs.Common.{◌≡◌, ℕ, ◌-◌, ◌^◌, ◌<◌, rules, sym, ap, ◌∙◌, subst, arith}
use Rattle.atomic_table.specs.Table.{Splits}
use Rattle.tree_lock.specs.Knowledge.{after_making, made_by}
use Rattle.tree_lock.specs.Rule.{Kept}
use Rattle.tree_lock.proofs.DoorLemmas.{makes_keeps}
use Rattle.tree_lock.proofs.parts.TreeLock.pass.Goals as goal

pub split_seat-seat-requires : goal.split_seat-seat-requires
split_seat-seat-requires g c =
    let v = c.door.inside.seat.me.0 in
    let made : v.made ≡ c.args.door.now.made = ap (λ d. d.made) c.door.view_is in
    let room : c.args.door.now.made < 2 ^ 64 - 1 = c.requires.room in
    (ap (λ d. d.lock) c.door.view_is ∙ c.requires.lock ∙ sym c.self.view_is, search rules, subst (λ (id : ℕ). Splits (Kept g.V.Recorded.entries) id v (after_making v) (made_by v)) (sym c.door.invariant.0) (makes_keeps _ v (omega arith)))
