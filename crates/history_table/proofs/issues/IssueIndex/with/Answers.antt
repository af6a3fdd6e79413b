-- The place is entered, and before it what was entered.
use Rattle.std.proofs.Common.{◌≡◌, ◌∷◌, ◌++◌, ◌∙◌, [], ℕ, Option, Some, ap, arith, length, subst}
use Rattle.history_table.specs.declared.issues.IssueIndex.{IssueIndex}
use Rattle.history_table.specs.Index.{IsIndexOf}
use Rattle.history_table.proofs.IndexLemmas.{index_more, not_at}
use Rattle.history_table.proofs.issues.IssueIndex.with.Goals as goal

pub returns-in-Ok : goal.returns-in-Ok
returns-in-Ok c = λ digests is.
    let more : IssueIndex = record { earlier = c.push.new.self; latest = c.insert-put.new.self } in
    let place_is : c.len-place.result ≡ length digests = omega (arith, c.len-place.ensures, is.sized, c.args.self.earlier.ok.0) in
    subst (λ (digest : ℕ). IsIndexOf (digests ++ digest ∷ []) more) c.digest_of-digest.ensures
    (index_more digests c.digest_of-digest.result c.args.self more is
    (c.in_ok-push.ensures.items ∙ ap (λ (before : Option ℕ). c.args.self.earlier.items ++ before ∷ []) c.last_place-before.ensures)
    (c.in-Ok.ensures.updates.1 ∙ ap (λ (n : ℕ). Some n) place_is)
    (λ other differs. c.in-Ok.ensures.updates.2 other (not_at c.digest_of-digest.result other differs)))
