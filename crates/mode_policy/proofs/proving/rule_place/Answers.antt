-- The rules of a class stand after those of the classes before it.
use Rattle.std.proofs.Common.{◌≡◌, ℕ, true, sym, subst}
use Rattle.mode_policy.specs.Modes.{permits}
use Rattle.mode_policy.proofs.ProvingLemmas.{group_at, other_at}
use Rattle.mode_policy.proofs.proving.rule_place.Goals as goal

pub returns-in-Group-clause-place : goal.returns-in-Group-clause-place
returns-in-Group-clause-place c = λ h.
    let permits_it : permits c.digit.result c.args.perm ≡ true = subst (λ (d : ℕ). permits d c.args.perm ≡ true) (sym c.digit.ensures) h in
    group_at c.args.f.now c.args.class c.args.perm c.digit.result c.place_in-place.result c.count_of.result c.in-Group.is c.digit.ensures (c.place_in-place.ensures.place permits_it) c.count_of.ensures.count

pub returns-in-Other-clause-place : goal.returns-in-Other-clause-place
returns-in-Other-clause-place c = λ h.
    let permits_it : permits c.digit.result c.args.perm ≡ true = subst (λ (d : ℕ). permits d c.args.perm ≡ true) (sym c.digit.ensures) h in
    other_at c.args.f.now c.args.class c.args.perm c.digit.result c.place_in-place.result c.count_of-in-Other.result c.count_of-in-Other-2.result c.in-Other.is c.digit.ensures
    (c.place_in-place.ensures.place permits_it) c.count_of-in-Other.ensures.count c.count_of-in-Other-2.ensures.count
