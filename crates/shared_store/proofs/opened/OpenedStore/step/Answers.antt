-- The store makes a step, which is a turn over its entries.
use Rattle.std.proofs.Common.{◌≡◌, subst}
use Rattle.std.specs.Prelude.{ℤ}
use Rattle.std.proofs.lemmas.Int.{to_z-of_z}
use Rattle.std.specs.Int.{w64}
use Rattle.access_history.proofs.HistoryLemmas.{SFits-moment}
use Rattle.pcfs_store.specs.Steps.{Steps}
use Rattle.session_history.specs.declared.request.TurnRequest.TheVariants.{Step}
use Rattle.shared_store.specs.OpenedView.{OpenedView}
use Rattle.shared_store.specs.Turning.{HasTurned}
use Rattle.shared_store.proofs.GoesOnLemmas.{goes_on_step, stepped_shown}
use Rattle.shared_store.proofs.TurningLemmas.{turned_by_step}
use Rattle.shared_store.proofs.opened.OpenedStore.step.Goals as goal

pub invariant_of-self : goal.invariant_of-self
invariant_of-self g c =
    goes_on_step g.D.Disk.clock g.D.Disk.left_since g.D.Disk.image g.D.Disk.faults c.self.inside.opening.value c.self.inside.store c.step-reply.new.self c.args.pass c.args.clock c.args.request c.step-reply.result c.requires.in_range c.requires.well_formed c.self.invariant
    (stepped_shown g.D.Disk.clock g.D.Disk.left_since g.D.Disk.image g.D.Disk.faults c.self.inside.store c.step-reply.new.self c.args.pass _ c.args.clock c.args.request c.step-reply.result (to_z-of_z w64 c.args.clock (SFits-moment c.args.clock c.requires.in_range))
    (record {
      answer = c.step-reply.ensures.answer;
      stays_ready = c.step-reply.ensures.ready;
      stays_current = c.step-reply.ensures.current;
      met = c.step-reply.ensures.met;
      met_at_rest = c.step-reply.ensures.met_at_rest;
      makes_ready = c.step-reply.ensures.makes_ready;
      first_told = c.step-reply.ensures.first_told;
      second_told = c.step-reply.ensures.second_told;
      first_never_falls = c.step-reply.ensures.first_never_falls;
      second_never_falls = c.step-reply.ensures.second_never_falls;
    }))

pub returns : goal.returns
returns g c =
    subst (λ (s : OpenedView _). HasTurned g.D.Disk.faults (λ _ moment. moment ≡ c.args.clock) (Step c.args.request) s c.args.pass (record { store = c.step-reply.new.self; opening = c.self.inside.opening.value }) c.reply_of.result) c.self.view_is
    (turned_by_step g.D.Disk.clock g.D.Disk.left_since g.D.Disk.image g.D.Disk.faults c.self.inside.opening.value c.self.inside.store c.step-reply.new.self c.args.pass c.args.clock c.args.request c.step-reply.result c.reply_of.result c.self.invariant c.lemma_is_store.ensures
    (subst (λ (m : ℤ). Steps g.D.Disk.faults c.self.inside.store c.args.pass m c.args.request c.step-reply.result c.step-reply.new.self) (to_z-of_z w64 c.args.clock (SFits-moment c.args.clock c.requires.in_range)) c.step-reply.ensures.answer) c.reply_of.ensures)
