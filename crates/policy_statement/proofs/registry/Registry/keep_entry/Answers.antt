-- The statement's digest is kept with it, and whether it was withdrawn.
use Rattle.std.proofs.Common.{◌≡◌, ◌+◌, ◌∷◌, [], ◌||◌, Bool, length, sym, ap, ◌∙◌, subst, arith, length-append}
use Rattle.policy_statement.specs.Digest.{digest_of}
use Rattle.policy_statement.specs.Registered.{RegisteredView}
use Rattle.policy_statement.specs.Digests.{HasDigests}
use Rattle.policy_statement.specs.Withdrawal.{has_withdrawn}
use Rattle.policy_statement.proofs.DigestLemmas.{HasDigests-push}
use Rattle.policy_statement.proofs.WithdrawalLemmas.{has_withdrawn-push}
use Rattle.policy_statement.proofs.registry.Registry.keep_entry.Goals as goal

pub invariant_of-self : goal.invariant_of-self
invariant_of-self c =
    let entries = c.self.inside.entries.items in
    let e : RegisteredView = c.args.entry in
    let digest_is : c.entry.inside.digest ≡ digest_of e.statement = c.entry.invariant ∙ ap (λ (r : RegisteredView). digest_of r.statement) c.entry.view_is in
    let same : length entries ≡ length c.args.self.now.entries = ap (λ r. length r.entries) c.self.view_is in
    let one_more : length c.push_reserved.new.self.items ≡ length entries + 1 = ap length c.push_reserved.ensures.items ∙ length-append entries (e ∷ []) in
    let few = c.requires.few in
    let ended : c.either-self-inside.result ≡ (has_withdrawn entries || e.withdrawn) =
    c.either-self-inside.ensures ∙ (ap (λ (b : Bool). b || c.entry.inside.withdrawn) c.self.invariant.ended_is ∙ ap (λ (r : RegisteredView). has_withdrawn entries || r.withdrawn) c.entry.view_is) in
    record {
      few = omega arith;
      rising = c.add_digest.ensures.rising;
      known = subst (λ xs. HasDigests xs c.add_digest.new.rising.items) (sym c.push_reserved.ensures.items)
          (HasDigests-push entries e c.entry.inside.digest c.self.inside.digests.items c.add_digest.new.rising.items digest_is c.self.invariant.known c.add_digest.ensures.missing);
      ended_is = ended ∙ (sym (has_withdrawn-push entries e) ∙ ap has_withdrawn (sym c.push_reserved.ensures.items));
    }
