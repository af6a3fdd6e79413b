-- The closure compares an entry's number with the one that is sought.
use Rattle.std.proofs.Common.{rules}
use Rattle.std.specs.Ordering.{nat_cmp}
use Rattle.std.proofs.lemmas.Fn.{always_returns_same}
use Rattle.nine_fids.proofs.FidLemmas.{Entry, searched}
use Rattle.nine_fids.proofs.fids.search.Goals as goal

pub returns-clause-found : goal.returns-clause-found
returns-clause-found c =
    let facts = c.binary_search_by.ensures in
    (searched c.args.entries.now c.args.number _ c.requires facts.bound
    (facts.position (λ (entry : Entry). nat_cmp entry.0 c.args.number) (always_returns_same _ _ _ (λ a r f' k. search rules)))).found

pub returns-clause-absent : goal.returns-clause-absent
returns-clause-absent c =
    let facts = c.binary_search_by.ensures in
    (searched c.args.entries.now c.args.number _ c.requires facts.bound
    (facts.position (λ (entry : Entry). nat_cmp entry.0 c.args.number) (always_returns_same _ _ _ (λ a r f' k. search rules)))).absent
