use Rattle.std.proofs.Common.{◌≡◌, refl, ap, ◌∙◌}
use Rattle.bl_syntax.specs.Grant.{GrantView}
use Rattle.procap.proofs.ReadingLemmas.{head_stops, times_stop, states_stop, names_stop, grant_is_read, grant_of_parts, read_before}
use Rattle.procap.proofs.reading.grant_at.Goals as goal

pub returns-in-Err : goal.returns-in-Err
returns-in-Err c = head_stops c.args.input c.args.bytes.now c.in-Err.fault c.in-Err.ensures

pub returns-in-Err-times_at : goal.returns-in-Err-times_at
returns-in-Err-times_at c =
    times_stop c.args.input c.args.bytes.now c.in-Ok.rest.now c.in-Ok.version c.in-Ok.goal c.in-Err-times_at.fault c.in-Ok.ensures c.in-Err-times_at.ensures.read

pub returns-in-Err-states_at : goal.returns-in-Err-states_at
returns-in-Err-states_at c =
    states_stop c.args.input c.args.bytes.now c.in-Ok.rest.now c.in-Ok-times_at.rest.now c.in-Ok.version c.in-Ok.goal c.times_at.new.grant.times c.in-Err-states_at.fault c.in-Ok.ensures c.in-Ok-times_at.ensures.read c.in-Err-states_at.ensures.read

pub naming_at-requires : goal.naming_at-requires
naming_at-requires c =
    ap (λ (g : GrantView). g.cited) c.in-Ok-states_at.ensures.others ∙ ap (λ (g : GrantView). g.cited) c.in-Ok-times_at.ensures.others ∙ ap (λ (g : GrantView). g.cited) c.new-grant.ensures

pub returns-in-Err-naming_at : goal.returns-in-Err-naming_at
returns-in-Err-naming_at c =
    names_stop c.args.input c.args.bytes.now c.in-Ok.rest.now c.in-Ok-times_at.rest.now c.in-Ok-states_at.rest.now c.in-Ok.version c.in-Ok.goal c.times_at.new.grant.times c.states_at.new.grant.states c.in-Err-naming_at.fault
    c.in-Ok.ensures c.in-Ok-times_at.ensures.read c.in-Ok-states_at.ensures.read c.in-Err-naming_at.ensures.read

pub returns : goal.returns
returns c =
    let g = c.in-Ok-naming_at.grant in
    let named = c.in-Ok-naming_at.ensures.others in
    let goal_is : g.goal ≡ c.in-Ok.goal =
    ap (λ (x : GrantView). x.goal) named ∙ ap (λ (x : GrantView). x.goal) c.in-Ok-states_at.ensures.others ∙ ap (λ (x : GrantView). x.goal) c.in-Ok-times_at.ensures.others ∙ ap (λ (x : GrantView). x.goal) c.new-grant.ensures in
    let times_are : g.times ≡ c.times_at.new.grant.times = ap (λ (x : GrantView). x.times) named ∙ ap (λ (x : GrantView). x.times) c.in-Ok-states_at.ensures.others in
    let states_are : g.states ≡ c.states_at.new.grant.states = ap (λ (x : GrantView). x.states) named in
    grant_is_read c.args.input c.args.bytes.now c.in-Ok.rest.now c.in-Ok-times_at.rest.now c.in-Ok-states_at.rest.now c.in-Ok-naming_at.rest.now c.in-Ok.version c.in-Ok.goal c.times_at.new.grant.times c.states_at.new.grant.states g.cited
    c.in-Ok.ensures c.in-Ok-times_at.ensures.read c.in-Ok-states_at.ensures.read c.in-Ok-naming_at.ensures.read
    ∙ ap (read_before c.in-Ok-naming_at.rest.now) (grant_of_parts g c.in-Ok.goal c.times_at.new.grant.times c.states_at.new.grant.states g.cited goal_is times_are states_are refl)
