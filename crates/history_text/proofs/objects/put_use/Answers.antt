-- One part after the other.
use Rattle.std.proofs.Common.{◌≡◌, ◌++◌, List, ℕ, ap, subst, ◌∙◌}
use Rattle.std.specs.Prelude.{OnOk, codes}
use Rattle.access_history.specs.History.{state_of}
use Rattle.history_text.specs.Objects.{issue_members, need_members, statements_text, use_object}
use Rattle.history_text.proofs.TextLemmas.{joined4}
use Rattle.history_text.proofs.objects.put_use.Goals as goal

pub returns : goal.returns
returns c =
    let out = c.args.out.now in
    let one = c.args.one.now in
    let state = state_of c.args.history.now in
    let cited_is : c.put_statements.new.out ≡ c.put_issue.new.out ++ statements_text state.statements one.cited =
    c.in_ok-put_statements.ensures ∙ ap (λ (ns : List ℕ). c.put_issue.new.out ++ statements_text state.statements ns) c.as_slice.ensures in
    let whole : c.put_statements.new.out ++ codes "}" ≡ out ++ use_object state one =
    joined4 out c.put_need.new.out c.put_issue.new.out c.put_statements.new.out (need_members one) (issue_members state.issues one.issue) (statements_text state.statements one.cited) (codes "}")
    c.in_ok-put_need.ensures c.in_ok-put_issue.ensures cited_is in
    subst (λ (text : List ℕ). OnOk c.put_text.result (c.put_text.new.out ≡ text)) whole c.put_text.ensures.ok
