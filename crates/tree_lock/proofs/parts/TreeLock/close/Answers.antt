use Rattle.std.proofs.Common.{◌≡◌, ℕ, ◌+◌, length, None, Some, sym, ap, ◌∙◌, subst, arith}
use Rattle.std.specs.Slots.{slots_items}
use mathlib.Core.Option.{some, some-injective}
use mathlib.Core.List.{IsPrefix}
use Rattle.atomic_table.specs.Table.{Final, Seen}
use Rattle.tree_lock.specs.Closing.{IsClosed}
use Rattle.tree_lock.specs.Rule.{Kept}
use Rattle.tree_lock.proofs.DoorLemmas.{closes, closed_is}
use Rattle.tree_lock.proofs.parts.TreeLock.close.Goals as goal

pub unreachable-requires : goal.unreachable-requires
unreachable-requires g c =
    let v = c.into_seat.result.me.0 in
    let closed = c.close_with-closed.result in
    let none_out : c.args.door.out ≡ 0 = c.requires.all in
    let counted : c.args.door.out + length c.args.door.retired ≡ c.args.door.made = c.into_seat.ensures.counted in
    let all : length c.args.door.retired ≡ c.args.door.made = omega arith in
    let all_here : length v.retired ≡ v.made = subst (λ d. length d.retired ≡ d.made) (sym c.into_seat.ensures.view) all in
    let final = subst (λ (id : ℕ). Final (Seen (Kept g.V.Recorded.entries) id v) (slots_items closed.words) (slots_items closed.slots)) c.into_seat.ensures.seat.0 c.close_with-closed.ensures.values.2 in
    let told = closes g.V.Recorded.entries v _ _ c.into_seat.ensures.told all_here final in
    let none : None ≡ Some told.0 = sym c.in_default.is ∙ some-injective _ _ (sym c.take.ensures.value ∙ told.1) in
    cc

pub returns : goal.returns
returns g c =
    let v = c.into_seat.result.me.0 in
    let closed = c.close_with-closed.result in
    let none_out : c.args.door.out ≡ 0 = c.requires.all in
    let counted : c.args.door.out + length c.args.door.retired ≡ c.args.door.made = c.into_seat.ensures.counted in
    let all : length c.args.door.retired ≡ c.args.door.made = omega arith in
    let all_here : length v.retired ≡ v.made = subst (λ d. length d.retired ≡ d.made) (sym c.into_seat.ensures.view) all in
    let opened : IsPrefix v.own v.seen = subst (λ d. IsPrefix d.opening d.seen) (sym c.into_seat.ensures.view) c.into_seat.ensures.opened in
    let final = subst (λ (id : ℕ). Final (Seen (Kept g.V.Recorded.entries) id v) (slots_items closed.words) (slots_items closed.slots)) c.into_seat.ensures.seat.0 c.close_with-closed.ensures.values.2 in
    subst (λ d. IsClosed d (g.V.Recorded.entries c.in-Some.value)) c.into_seat.ensures.view
    (closed_is g.V.Recorded.entries v c.into_seat.result.table_id c.args.door.out _ _ c.in-Some.value all_here opened c.into_seat.ensures.told final (c.take.ensures.value ∙ ap some c.in-Some.is))
