-- One member after the other.
use Rattle.std.proofs.Common.{◌≡◌, ◌++◌, List, ℕ, ap, subst, ◌∙◌}
use Rattle.std.specs.Prelude.{OnOk, codes}
use Rattle.std.specs.Fmt.{decimal}
use Rattle.history_text.specs.Strings.{string_text}
use Rattle.bl_syntax.specs.declared.grant.Goal.{Goal}
use Rattle.bl_text.specs.Printed.{permission_text}
use Rattle.history_text.specs.Objects.{goal_members}
use Rattle.history_text.proofs.TextLemmas.{joined5}
use Rattle.history_text.proofs.objects.put_goal.Goals as goal

pub returns : goal.returns
returns c =
    let out = c.args.out.now in
    let goal_read = c.goal-goal.result in
    let members : Goal → List ℕ = λ goal. codes "{\"who\":" ++ (string_text goal.who ++ (codes ",\"permission\":" ++ (string_text (permission_text goal.perm) ++ (codes ",\"file\":" ++ decimal goal.file.0)))) in
    let who_is : c.put_string.new.out ≡ c.put_text.new.out ++ string_text goal_read.who = c.in_ok-put_string.ensures ∙ ap (λ (w : List ℕ). c.put_text.new.out ++ string_text w) c.bytes.ensures.same in
    let whole : c.put_permission_string.new.out ++ (codes ",\"file\":" ++ decimal goal_read.file.0) ≡ out ++ goal_members c.args.grant.now =
    joined5 out c.put_text.new.out c.put_string.new.out c.put_text-2.new.out c.put_permission_string.new.out (codes "{\"who\":") (string_text goal_read.who) (codes ",\"permission\":") (string_text (permission_text goal_read.perm)) (codes ",\"file\":" ++ decimal goal_read.file.0)
    c.in_ok-put_text.ensures.ok who_is c.in_ok-put_text-2.ensures.ok c.in_ok-put_permission_string.ensures
    ∙ ap (λ (goal : Goal). out ++ members goal) c.goal-goal.ensures in
    subst (λ (text : List ℕ). OnOk c.put_counted.result (c.put_counted.new.out ≡ text)) whole c.put_counted.ensures.ok
