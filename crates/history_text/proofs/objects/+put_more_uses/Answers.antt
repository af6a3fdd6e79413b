-- One procap after the other.
use Rattle.std.proofs.Common.{◌≡◌, ◌++◌, List, ℕ, ap, drop, length, subst, take, ◌-◌, ◌∙◌}
use Rattle.std.specs.Prelude.{OnOk, codes}
use Rattle.access_history.specs.History.{state_of}
use Rattle.history_table.specs.declared.rows.Use.{Use}
use Rattle.history_text.specs.Objects.{more_uses, use_object}
use Rattle.history_text.proofs.TextLemmas.{joined3, rest_is, more_parts}
use Rattle.history_text.proofs.objects.+put_more_uses.Goals as goal

pub returns-in_ok-put_use-in-len1-up : goal.returns-in_ok-put_use-in-len1-up
returns-in_ok-put_use-in-len1-up t c =
    let out = c.args.out.now in
    let uses = c.args.uses.now in
    let state = state_of c.args.history.now in
    let one = c.one-item.result in
    let rest = take (length uses - 1) (drop 1 uses) in
    let whole : c.put_use.new.out ++ more_uses state rest ≡ out ++ more_uses state uses =
    ap (λ (us : List Use). c.put_use.new.out ++ more_uses state us) (rest_is uses)
    ∙ joined3 out c.put_text.new.out c.put_use.new.out (codes ",") (use_object state one) (more_uses state (drop 1 uses)) c.in_ok-put_text-in-len1-up.ensures.ok c.in_ok-put_use-in-len1-up.ensures
    ∙ ap (λ (text : List ℕ). out ++ text) (more_parts state uses one c.in-len1-up.len_at_least c.one-item.is) in
    subst (λ (text : List ℕ). OnOk c.put_more_uses.result (c.put_more_uses.new.out ≡ text)) whole c.put_more_uses.ensures
