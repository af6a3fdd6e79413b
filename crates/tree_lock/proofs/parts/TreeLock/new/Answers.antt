use Rattle.std.proofs.Common.{◌≡◌, ℕ, ◌+◌, ◌<◌, List, length, sym, ap, subst, arith}
use mathlib.Core.List.{IsPrefix}
use Rattle.atomic_table.specs.Table.{opening}
use Rattle.tree_lock.specs.Knowledge.{opening_view}
use Rattle.tree_lock.specs.Rule.{Kept}
use Rattle.tree_lock.proofs.DoorLemmas.{opens}
use Rattle.tree_lock.proofs.EntryLemmas.{prefix_refl, prefix_nil}
use Rattle.tree_lock.proofs.parts.TreeLock.new.Goals as goal

pub new-requires : goal.new-requires
new-requires g c =
    let entries = g.V.Recorded.entries in
    let words : List ℕ = c.first_words.result in
    let long : length words ≡ 64 = c.first_words.ensures.0 in
    let wide : 32 < length words = omega arith in
    let kept = opens entries words c.args.value wide c.first_words.ensures.1 c.first_words.ensures.2 c.requires in
    subst (λ v. Kept entries (opening words c.in_ok-slots.slots.items (opening_view (entries v)))) (sym c.of-about.ensures)
    (subst (λ slots. Kept entries (opening words slots (opening_view (entries c.args.value)))) (sym c.in_ok-slots.ensures.ok) kept)

pub invariant_of-result-in-Ok : goal.invariant_of-result-in-Ok
invariant_of-result-in-Ok g c =
    let me = c.in-Ok.ensures.ok.4 in (
      c.in-Ok.ensures.ok.3,
      ap (λ m. m.1) me,
      sym (ap (λ m. m.0.made) me),
      ap (λ (l : ℕ). 0 + l) (ap (λ m. length m.0.retired) me),
      subst (λ m. IsPrefix m.0.own m.0.seen) (sym me) (prefix_refl _),
      subst (λ m. IsPrefix m.0.told m.0.seen) (sym me) (prefix_nil _),
    )
