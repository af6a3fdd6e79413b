-- With room the digest is inserted.
use Rattle.std.proofs.Common.{subst, sym, is_ok}
use Rattle.std.specs.List.Sorted.{IsNonDecreasing}
use Rattle.policy_statement.specs.Digests.{IsMissing, IsPlace}
use Rattle.policy_statement.proofs.DigestLemmas.{inserted, IsNonDecreasing-insert, missing-insert}
use Rattle.policy_statement.proofs.digests.add_digest.Goals as goal

pub returns-clause-rising : goal.returns-clause-rising
returns-clause-rising c =
    let place = c.insertion_place-place.result in
    let at = subst (λ xs. IsPlace xs c.args.digest place) c.as_slice.ensures.value c.insertion_place-place.ensures in
    let new_is = inserted c.args.rising.now.items c.insert.new.self.items place c.args.digest (is_ok c.insert.result) c.insert.ensures.items (c.insert.ensures.succeeds c.requires.room) in
    subst IsNonDecreasing (sym new_is) (IsNonDecreasing-insert c.args.rising.now.items c.args.digest place at c.requires.rising)

pub returns-clause-missing : goal.returns-clause-missing
returns-clause-missing c d missing =
    let place = c.insertion_place-place.result in
    let at = subst (λ xs. IsPlace xs c.args.digest place) c.as_slice.ensures.value c.insertion_place-place.ensures in
    let new_is = inserted c.args.rising.now.items c.insert.new.self.items place c.args.digest (is_ok c.insert.result) c.insert.ensures.items (c.insert.ensures.succeeds c.requires.room) in
    missing-insert c.args.rising.now.items place c.args.digest at.within d (subst (λ xs. IsMissing xs d) new_is missing)
