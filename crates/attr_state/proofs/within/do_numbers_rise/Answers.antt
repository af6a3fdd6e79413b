-- The closure tells which of two rows has the lesser number.
use Rattle.std.proofs.Common.{rules, ℕ, List, nat_lt, nat_cmp, subst}
use Rattle.std.specs.Prelude.{◌↔◌, IsTrue}
use Rattle.std.specs.List.Sorted.{IsStrictlySortedBy}
use Rattle.std.proofs.lemmas.Cmp.{nat_cmp_total}
use Rattle.std.proofs.lemmas.Fn.{always_returns_same}
use Rattle.node_rows.specs.declared.rows.MetaRow.{MetaRow}
use Rattle.attr_state.proofs.WithinLemmas.{rise, tells_numbers, keys-rows}
use Rattle.attr_state.proofs.within.do_numbers_rise.Goals as goal

pub returns : goal.returns
returns c =
    subst (λ (keys : List ℕ). IsTrue c.is_sorted_by.result ↔ IsStrictlySortedBy nat_cmp keys) (keys-rows c.args.rows.now)
    (rise nat_cmp nat_cmp_total (λ (row : MetaRow). row.number.0) (λ (x y : MetaRow). nat_lt x.number.0 y.number.0) (tells_numbers (λ (row : MetaRow). row.number.0))
    c.args.rows.now c.is_sorted_by.result
    (c.is_sorted_by.ensures.cases (λ (x y : MetaRow). nat_lt x.number.0 y.number.0) (always_returns_same _ _ _ (λ a r f' k. search rules))))
