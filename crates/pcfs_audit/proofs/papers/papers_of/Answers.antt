-- Each event adds its papers.
use Rattle.std.proofs.Common.{◌≡◌, ◌∙◌, ◌+◌, List, ◌∷◌, ◌++◌, [], ap, sym, subst, take, arith}
use Rattle.std.proofs.lemmas.List.{take_all, take_more}
use Rattle.journal_records.specs.declared.event.Event.{Event}
use Rattle.pcfs_audit.specs.Papers.{ArePapers}
use Rattle.pcfs_audit.proofs.papers.papers_of.Goals as goal

pub loop-event-preserved : goal.loop-event-preserved
loop-event-preserved c =
    let k = c.loop-event.event-index in
    let events = c.args.events.now in
    let more : take (k + 1) events ≡ take k events ++ c.event-item.result ∷ [] =
    take_more events k c.event-item.result c.loop-event-test.true ∙ ap (λ (e : Event). take k events ++ e ∷ []) (sym c.event-item.is) in
    subst (λ (es : List Event). ArePapers c.args.base.now es c.in_ok-papers-2.papers) (sym more) (c.in_ok-papers-2.ensures c.args.base.now (take k events) c.loop-event.invariant)

pub returns : goal.returns
returns c = subst (λ (es : List Event). ArePapers c.args.base.now es c.loop-event.papers) (take_all c.loop-event.event-index c.args.events.now (omega (arith, c.loop-event-test.false))) c.loop-event.invariant
