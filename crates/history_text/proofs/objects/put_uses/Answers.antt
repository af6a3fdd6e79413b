-- The first, and then the others.
use Rattle.std.proofs.Common.{◌≡◌, ◌++◌, List, ℕ, ap, append_assoc, drop, length, subst, take, ◌-◌, ◌∙◌}
use Rattle.std.specs.Prelude.{OnOk}
use Rattle.access_history.specs.History.{state_of}
use Rattle.history_table.specs.declared.rows.Use.{Use}
use Rattle.history_text.specs.Objects.{more_uses, use_object, use_objects}
use Rattle.history_text.proofs.TextLemmas.{rest_is, uses_parts}
use Rattle.history_text.proofs.objects.put_uses.Goals as goal

pub returns-in_ok-put_use-in-len1-up : goal.returns-in_ok-put_use-in-len1-up
returns-in_ok-put_use-in-len1-up c =
    let out = c.args.out.now in
    let uses = c.args.uses.now in
    let state = state_of c.args.history.now in
    let one = c.one-item.result in
    let rest = take (length uses - 1) (drop 1 uses) in
    let whole : c.put_use.new.out ++ more_uses state rest ≡ out ++ use_objects state uses =
    ap (λ (us : List Use). c.put_use.new.out ++ more_uses state us) (rest_is uses)
    ∙ ap (λ (m : List ℕ). m ++ more_uses state (drop 1 uses)) c.in_ok-put_use-in-len1-up.ensures ∙ append_assoc out (use_object state one) (more_uses state (drop 1 uses))
    ∙ ap (λ (text : List ℕ). out ++ text) (uses_parts state uses one c.in-len1-up.len_at_least c.one-item.is) in
    subst (λ (text : List ℕ). OnOk c.put_more_uses.result (c.put_more_uses.new.out ≡ text)) whole c.put_more_uses.ensures
