use Rattle.std.proofs.Common.{◌∙◌}
use Rattle.pcfs_store.proofs.FormatLemmas.{both_shut, one_open, format_ready, format_shut, format_any_moment, format_kept, format_a_time, format_a_later, format_b_kept, format_b_time, format_b_later, idle_pairs, idle_kept}
use Rattle.pcfs_store.proofs.format.format_store.Goals as goal

pub returns-in-Ok-true-clause-already : goal.returns-in-Ok-true-clause-already
returns-in-Ok-true-clause-already g c = λ _ first second told_a told_b.
    let t = c.in-Ok-true.field-0-test in
    let found = c.in-Ok-true.ensures.ok first second told_a told_b in
    one_open first second cc

pub returns-in-Ok-clause-ready : goal.returns-in-Ok-clause-ready
returns-in-Ok-clause-ready g c =
    format_ready g.D.Disk.clock g.D.Disk.left_since g.D.Disk.image c.args.a c.args.b c.is_either_open.new.a c.is_either_open.new.b c.in-Ok.gate.key c.in-Ok.gate.ring c.format_first.result
    c.in-Ok-false.ensures.a_same c.in-Ok-false.ensures.b_same c.in-Ok-false.ensures.b_pinned
    (λ first second told_a told_b. let t = c.in-Ok-false.field-0-test in let found = c.in-Ok-false.ensures.ok first second told_a told_b in both_shut first second cc)
    c.format_first.ensures.new c.format_first.ensures.rests c.format_first.ensures.b_is

pub returns-in-Ok-clause-shut : goal.returns-in-Ok-clause-shut
returns-in-Ok-clause-shut g c =
    format_shut g.D.Disk.clock g.D.Disk.left_since g.D.Disk.image c.args.a c.args.b c.format_first.result
    (λ first second told_a told_b. let t = c.in-Ok-false.field-0-test in let found = c.in-Ok-false.ensures.ok first second told_a told_b in both_shut first second cc)

pub returns-in-Ok-clause-any_moment : goal.returns-in-Ok-clause-any_moment
returns-in-Ok-clause-any_moment g c = λ first second told_a told_b pinned_a pinned_b shut_a shut_b.
    format_any_moment g.D.Disk.clock g.D.Disk.left_since g.D.Disk.image c.args.a c.args.b c.is_either_open.new.a c.is_either_open.new.b c.format_first.result first second told_a told_b pinned_a pinned_b shut_a shut_b
    c.is_either_open.ensures.a_time c.is_either_open.ensures.b_time
    (c.format_first.ensures.any_moment first (c.in-Ok-false.ensures.a_same ∙ told_a) c.in-Ok-false.ensures.a_pinned) c.format_first.ensures.b_is

pub returns-in-Err-fresh-clause-any_moment : goal.returns-in-Err-fresh-clause-any_moment
returns-in-Err-fresh-clause-any_moment g c = λ first second told_a told_b pinned_a pinned_b shut_a shut_b.
    idle_pairs g.D.Disk.clock g.D.Disk.left_since g.D.Disk.image c.args.a c.args.b c.is_either_open.new.a c.is_either_open.new.b first second told_a told_b pinned_a pinned_b shut_a shut_b
    c.is_either_open.ensures.a_time c.is_either_open.ensures.b_time

pub returns-in-Ok-true-clause-kept : goal.returns-in-Ok-true-clause-kept
returns-in-Ok-true-clause-kept g c = λ first second told_a told_b is_open pinned_a pinned_b. (
  idle_kept g.D.Disk.clock g.D.Disk.left_since g.D.Disk.image (λ disk t u bytes le left. g.met.D.Disk.since_earlier disk t u bytes le left) (λ disk bytes is. g.met.D.Disk.image_may_stay disk bytes is) c.args.a c.is_either_open.new.a c.is_either_open.ensures.a_told pinned_a c.is_either_open.ensures.a_time,
  idle_kept g.D.Disk.clock g.D.Disk.left_since g.D.Disk.image (λ disk t u bytes le left. g.met.D.Disk.since_earlier disk t u bytes le left) (λ disk bytes is. g.met.D.Disk.image_may_stay disk bytes is) c.args.b c.is_either_open.new.b c.is_either_open.ensures.b_told pinned_b c.is_either_open.ensures.b_time,
)

pub returns-in-Ok-true-clause-b_kept : goal.returns-in-Ok-true-clause-b_kept
returns-in-Ok-true-clause-b_kept g c = λ pinned_b.
    idle_kept g.D.Disk.clock g.D.Disk.left_since g.D.Disk.image (λ disk t u bytes le left. g.met.D.Disk.since_earlier disk t u bytes le left) (λ disk bytes is. g.met.D.Disk.image_may_stay disk bytes is) c.args.b c.is_either_open.new.b c.is_either_open.ensures.b_told pinned_b c.is_either_open.ensures.b_time

pub returns-in-Err-clause-kept : goal.returns-in-Err-clause-kept
returns-in-Err-clause-kept g c = λ first second told_a told_b is_open pinned_a pinned_b. (
  idle_kept g.D.Disk.clock g.D.Disk.left_since g.D.Disk.image (λ disk t u bytes le left. g.met.D.Disk.since_earlier disk t u bytes le left) (λ disk bytes is. g.met.D.Disk.image_may_stay disk bytes is) c.args.a c.is_either_open.new.a c.is_either_open.ensures.a_told pinned_a c.is_either_open.ensures.a_time,
  idle_kept g.D.Disk.clock g.D.Disk.left_since g.D.Disk.image (λ disk t u bytes le left. g.met.D.Disk.since_earlier disk t u bytes le left) (λ disk bytes is. g.met.D.Disk.image_may_stay disk bytes is) c.args.b c.is_either_open.new.b c.is_either_open.ensures.b_told pinned_b c.is_either_open.ensures.b_time,
)

pub returns-in-Err-clause-b_kept : goal.returns-in-Err-clause-b_kept
returns-in-Err-clause-b_kept g c = λ pinned_b.
    idle_kept g.D.Disk.clock g.D.Disk.left_since g.D.Disk.image (λ disk t u bytes le left. g.met.D.Disk.since_earlier disk t u bytes le left) (λ disk bytes is. g.met.D.Disk.image_may_stay disk bytes is) c.args.b c.is_either_open.new.b c.is_either_open.ensures.b_told pinned_b c.is_either_open.ensures.b_time

pub returns-in-Err-fresh-clause-kept : goal.returns-in-Err-fresh-clause-kept
returns-in-Err-fresh-clause-kept g c = λ first second told_a told_b is_open pinned_a pinned_b. (
  idle_kept g.D.Disk.clock g.D.Disk.left_since g.D.Disk.image (λ disk t u bytes le left. g.met.D.Disk.since_earlier disk t u bytes le left) (λ disk bytes is. g.met.D.Disk.image_may_stay disk bytes is) c.args.a c.is_either_open.new.a c.is_either_open.ensures.a_told pinned_a c.is_either_open.ensures.a_time,
  idle_kept g.D.Disk.clock g.D.Disk.left_since g.D.Disk.image (λ disk t u bytes le left. g.met.D.Disk.since_earlier disk t u bytes le left) (λ disk bytes is. g.met.D.Disk.image_may_stay disk bytes is) c.args.b c.is_either_open.new.b c.is_either_open.ensures.b_told pinned_b c.is_either_open.ensures.b_time,
)

pub returns-in-Err-fresh-clause-b_kept : goal.returns-in-Err-fresh-clause-b_kept
returns-in-Err-fresh-clause-b_kept g c = λ pinned_b.
    idle_kept g.D.Disk.clock g.D.Disk.left_since g.D.Disk.image (λ disk t u bytes le left. g.met.D.Disk.since_earlier disk t u bytes le left) (λ disk bytes is. g.met.D.Disk.image_may_stay disk bytes is) c.args.b c.is_either_open.new.b c.is_either_open.ensures.b_told pinned_b c.is_either_open.ensures.b_time

pub returns-in-Ok-clause-kept : goal.returns-in-Ok-clause-kept
returns-in-Ok-clause-kept g c =
    format_kept g.D.Disk.clock g.D.Disk.left_since g.D.Disk.image c.args.a c.args.b c.is_either_open.new.a
    (λ first second told_a told_b. let t = c.in-Ok-false.field-0-test in let found = c.in-Ok-false.ensures.ok first second told_a told_b in both_shut first second cc)
    c.format_first.result

pub returns-in-Ok-clause-a_time : goal.returns-in-Ok-clause-a_time
returns-in-Ok-clause-a_time g c =
    format_a_time g.D.Disk.clock g.D.Disk.left_since g.D.Disk.image c.args.a c.args.b c.is_either_open.new.a
    (λ first second told_a told_b. let t = c.in-Ok-false.field-0-test in let found = c.in-Ok-false.ensures.ok first second told_a told_b in both_shut first second cc)
    c.format_first.result

pub returns-in-Ok-clause-b_kept : goal.returns-in-Ok-clause-b_kept
returns-in-Ok-clause-b_kept g c =
    format_b_kept g.D.Disk.clock g.D.Disk.left_since g.D.Disk.image c.args.b c.is_either_open.new.b c.is_either_open.ensures.b_time c.format_first.result
    (λ pinned_b. idle_kept g.D.Disk.clock g.D.Disk.left_since g.D.Disk.image (λ disk t u bytes le left. g.met.D.Disk.since_earlier disk t u bytes le left) (λ disk bytes is. g.met.D.Disk.image_may_stay disk bytes is) c.args.b c.is_either_open.new.b c.is_either_open.ensures.b_told pinned_b c.is_either_open.ensures.b_time) c.format_first.ensures.b_is

pub returns-in-Ok-clause-b_time : goal.returns-in-Ok-clause-b_time
returns-in-Ok-clause-b_time g c = format_b_time g.D.Disk.clock g.D.Disk.left_since g.D.Disk.image c.args.b c.is_either_open.new.b c.is_either_open.ensures.b_time c.format_first.result c.format_first.ensures.b_is

pub returns-in-Ok-clause-b_later : goal.returns-in-Ok-clause-b_later
returns-in-Ok-clause-b_later g c = format_b_later g.D.Disk.clock g.D.Disk.left_since g.D.Disk.image c.args.b c.is_either_open.new.b c.is_either_open.ensures.b_time c.format_first.result c.format_first.ensures.b_is

pub returns-in-Ok-clause-a_later : goal.returns-in-Ok-clause-a_later
returns-in-Ok-clause-a_later g c = λ first told_a pinned_a.
    format_a_later g.D.Disk.clock g.D.Disk.left_since g.D.Disk.image c.args.a c.is_either_open.new.a c.format_first.result first c.is_either_open.ensures.a_time.later
    (c.format_first.ensures.any_moment first (c.in-Ok-false.ensures.a_same ∙ told_a) c.in-Ok-false.ensures.a_pinned)
