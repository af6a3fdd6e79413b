-- Each issue is counted.
use Rattle.std.proofs.Common.{◌≡◌, ◌∙◌, ◌+◌, ◌++◌, ◌∷◌, [], List, ap, arith, refl, subst, sym, take}
use Rattle.std.proofs.lemmas.List.{take_all, take_more}
use Rattle.access_history.specs.declared.event.Issue.{Issue}
use Rattle.pcfs_audit.specs.Papers.{shown}
use Rattle.pcfs_audit.specs.Supports.{AreSupports}
use Rattle.pcfs_audit.proofs.supports.count_base.Goals as goal

pub loop-issue-init : goal.loop-issue-init
loop-issue-init c = record { sized = refl; counted = λ none. none }

pub count_issue-requires-clause-sized : goal.count_issue-requires-clause-sized
count_issue-requires-clause-sized c = c.loop-issue.invariant.sized ∙ c.requires.sized

pub loop-issue-preserved : goal.loop-issue-preserved
loop-issue-preserved c = record {
  sized = c.count_issue.ensures.sized ∙ c.loop-issue.invariant.sized;
  counted = λ none.
      let k = c.loop-issue.issue-index in
      let issues = c.issues-issues.result.now in
      let grants = shown c.args.dossier.now.papers.grants.items in
      let ends = c.args.dossier.now.papers.ends.items in
      let more : take (k + 1) issues ≡ take k issues ++ c.issue-item.result ∷ [] = take_more issues k c.issue-item.result c.loop-issue-test.true ∙ ap (λ (i : Issue). take k issues ++ i ∷ []) (sym c.issue-item.is) in
      subst (λ (is : List Issue). AreSupports grants ends is c.count_issue.new.rows.items) (sym more)
      (c.count_issue.ensures.rows (take k issues) c.issue-item.result (sym c.in_ok-grant.ensures) (sym (c.as_slice.ensures ∙ c.in_ok-cited.ensures)) (c.loop-issue.invariant.counted none));
}

pub returns-clause-rows : goal.returns-clause-rows
returns-clause-rows c none =
    subst (λ (is : List Issue). AreSupports (shown c.args.dossier.now.papers.grants.items) c.args.dossier.now.papers.ends.items is c.loop-issue.rows.items)
    (take_all c.loop-issue.issue-index c.issues-issues.result.now (omega (arith, c.loop-issue-test.false)) ∙ c.issues-issues.ensures) (c.loop-issue.invariant.counted none)

pub returns-clause-sized : goal.returns-clause-sized
returns-clause-sized c = c.loop-issue.invariant.sized
