-- Each issue adds the digest of its grant.
use Rattle.std.proofs.Common.{◌≡◌, ◌∙◌, ◌+◌, ◌++◌, ◌∷◌, [], ℕ, List, ap, map, subst, sym, take}
use Rattle.std.proofs.lemmas.List.{map_more}
use Rattle.access_history.specs.declared.event.Issue.{Issue}
use Rattle.history_table.specs.Index.{IsIndexOf, digest_of, digests_of}
use Rattle.history_table.proofs.issues.IssueIndex.of_issues.Goals as goal

pub loop-issue-preserved : goal.loop-issue-preserved
loop-issue-preserved c =
    let key = c.args.key.now in
    let k = c.loop-issue.issue-index in
    let issues = c.args.issues.now in
    let more : digests_of key (take (k + 1) issues) ≡ digests_of key (take k issues) ++ digest_of key c.in_ok-grant.grant ∷ [] =
    map_more (λ (i : Issue). digest_of key i.grant) issues k c.issue-item.result c.loop-issue-test.true
    ∙ ap (λ (d : ℕ). digests_of key (take k issues) ++ d ∷ []) (sym (ap (λ (i : Issue). digest_of key i.grant) c.issue-item.is) ∙ ap (digest_of key) (sym c.in_ok-grant.ensures)) in
    subst (λ (ds : List ℕ). IsIndexOf ds c.in_ok-index.index) (sym more) (c.in_ok-index.ensures (digests_of key (take k issues)) c.loop-issue.invariant)
