use Rattle.std.proofs.Common.{◌≡◌, ℕ, ◌+◌, ◌-◌, ◌≤◌, ◌∷◌, length, rules, sym, ap, ◌∙◌, subst, arith}
use Rattle.atomic_table.specs.Table.{Joins, Allows, step}
use Rattle.tree_lock.specs.Knowledge.{after_retiring, spent_view}
use Rattle.tree_lock.specs.Rule.{Kept}
use Rattle.tree_lock.specs.Steps.{Looks, look_step}
use Rattle.tree_lock.specs.Seats.{doorman_view}
use Rattle.tree_lock.specs.Closing.{TakesIn}
use mathlib.Core.List.{IsPrefix}
use Rattle.tree_lock.proofs.EntryLemmas.{prefix_trans}
use mathlib.Core.Option.{none}
use Rattle.tree_lock.proofs.DoorLemmas.{retires_keeps, looks_keeps, takes_in}
use Rattle.tree_lock.proofs.parts.TreeLock.retire.Goals as goal

pub join_seat-requires : goal.join_seat-requires
join_seat-requires g c =
    let v = c.door.inside.seat.me.0 in
    let w = c.into_seat.result.me.0 in
    let p = c.into_seat.ensures.seat in (
      ap (λ d. d.lock) c.door.view_is ∙ c.requires.door ∙ sym c.self.view_is,
      ap (λ d. d.lock) c.into_seat.ensures.view ∙ c.requires.pass ∙ sym c.self.view_is,
      p.0,
      search rules,
      subst (λ (id : ℕ). Joins (Kept g.V.Recorded.entries) id v c.into_seat.result.id w (after_retiring v w) spent_view) (sym c.door.invariant.0) (retires_keeps _ v _ w c.door.invariant.5 p.2 p.3 p.1),
    )

pub load-requires : goal.load-requires
load-requires g c =
    let slots : ℕ = c.self.inside.table.shared.table_id.slots in
    let me = c.join_seat.new.seat.me in
    let same : c.join_seat.new.seat.id ≡ 0 = c.join_seat.ensures.1 ∙ c.door.invariant.0 in
    let table : c.join_seat.new.seat.table_id ≡ c.self.inside.table.shared.table_id = c.join_seat.ensures.0 ∙ ap (λ d. d.lock) c.door.view_is ∙ c.requires.door ∙ sym c.self.view_is in
    (table, search rules, subst (λ (id : ℕ). Allows (Kept g.V.Recorded.entries) slots id me 0 (λ n. n) (look_step (step slots 0 0 0 none) me)) (sym same) (looks_keeps _ slots me))

pub returns : goal.returns
returns g c =
    let v = c.door.inside.seat.me.0 in
    let w = c.into_seat.result.me.0 in
    let new = c.load.new.seat in
    let lock = c.door.inside.seat.table_id in
    let out : ℕ = c.door.inside.out in
    let look = subst (λ u. Looks u new.me.0) (ap (λ m. m.0) c.join_seat.ensures.2) c.load.ensures.2.0 in
    let table : new.table_id ≡ lock = c.load.ensures.0 ∙ c.join_seat.ensures.0 in
    let counted : out + length v.retired ≡ v.made = c.door.invariant.3 ∙ c.door.invariant.2 in
    let pass = sym c.into_seat.ensures.view in
    let told = takes_in v w lock out c.args.pass new.me.0 c.door.invariant.4 counted (ap (λ p. p.number) pass) (ap (λ p. p.own) pass) (ap (λ p. p.seen) pass) look in
    subst (λ d. TakesIn c.args.pass d (doorman_view new.me.0 new.table_id (out - 1))) c.door.view_is (subst (λ z. TakesIn c.args.pass (doorman_view v lock out) (doorman_view new.me.0 z (out - 1))) (sym table) told)

pub invariant_of-door : goal.invariant_of-door
invariant_of-door g c =
    let v = c.door.inside.seat.me.0 in
    let w = c.into_seat.result.me.0 in
    let new = c.load.new.seat in
    let out : ℕ = c.door.inside.out in
    let look = subst (λ u. Looks u new.me.0) (ap (λ m. m.0) c.join_seat.ensures.2) c.load.ensures.2.0 in
    let counted : out + length v.retired ≡ c.door.inside.made = c.door.invariant.3 in
    let made : c.door.inside.made ≡ v.made = c.door.invariant.2 in
    let within : length ((w.number, w.own) ∷ v.retired) ≤ v.made = look.within in (
      c.load.ensures.1 ∙ c.join_seat.ensures.1 ∙ c.door.invariant.0,
      c.load.ensures.2.1 ∙ ap (λ m. m.1) c.join_seat.ensures.2 ∙ c.door.invariant.1,
      made ∙ sym (ap (λ u. u.made) look.is),
      ap (λ (l : ℕ). out - 1 + l) (ap (λ u. length u.retired) look.is) ∙ (omega arith),
      subst (λ u. IsPrefix u.own u.seen) (sym look.is) (prefix_trans v.own v.seen look.history c.door.invariant.4 look.seen),
      subst (λ u. IsPrefix u.told u.seen) (sym look.is) look.told,
    )
