-- The threads find the credentials in the order of the places.
use Rattle.rayon.proofs.ToStd.{nat_range-All}
use Rattle.pcfs_audit.proofs.ExaminingLemmas.{IfOk-of_match, found_all}
use Rattle.pcfs_audit.proofs.examining.examine_in_pieces.Goals as goal

pub collect-found-requires-clause-ready : goal.collect-found-requires-clause-ready
collect-found-requires-clause-ready g c κs within =
    let ends = c.into_par_iter.ensures in
    let inside = nat_range-All (g.E.Examiner.has c.args.examiner.now) 0 c.args.count (λ place low high. c.requires place high) in
    rw (c.map.ensures.base, c.map.ensures.f, c.with_min_len.ensures.base, ends.0, ends.1) (λ k d lt. (inside k d lt, λ y p. tt))

pub returns-in-Ok : goal.returns-in-Ok
returns-in-Ok g c =
    let ends = c.into_par_iter.ensures in
    let done = c.in-Ok.ensures in
    let chain = rw (c.map.ensures.base, c.map.ensures.f, c.with_min_len.ensures.base, ends.0, ends.1) at done.1 in
    IfOk-of_match c.in-Ok.all _ _ _ done.2 (λ all made.
    found_all (g.E.Examiner.finds c.args.examiner.now) c.args.count chain.0 done.0 made.0 all.items chain.1 chain.2 made.1 made.2)
