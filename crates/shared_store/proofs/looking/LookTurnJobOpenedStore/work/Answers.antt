-- The turn is taken at the moment that the clock shows, and the kind is that after it.
use Rattle.std.proofs.Common.{refl, sym, ap, ◌∙◌, subst}
use Rattle.pcfs_store.specs.StoreView.{StoreView}
use Rattle.pcfs_store.specs.Entries.{entries_of}
use Rattle.std.proofs.lemmas.Int.{to_z-of_z}
use Rattle.std.specs.Int.{w64}
use Rattle.access_history.specs.Base.{BaseView}
use Rattle.access_history.proofs.HistoryLemmas.{SFits-moment}
use Rattle.shared_store.specs.Looking.{names_directory}
use Rattle.shared_store.proofs.AskingLemmas.{appends, turned_shown}
use Rattle.shared_store.proofs.TurningLemmas.{turned_by_request, state_is}
use Rattle.shared_store.proofs.looking.LookTurnJobOpenedStore.work.Goals as goal

pub returns-clause-done : goal.returns-clause-done
returns-clause-done g c = record {
  turned = record {
    turned =
        turned_shown g.D.Disk.faults (g.C.TurnClock.gives c.args.self.clock.now) c.args.self.request c.args.value.now c.answer-reply.new.self c.args.pass c.now-moment.result c.answer-reply.result (subst (λ (s : StoreView _). g.C.TurnClock.gives c.args.self.clock.now (entries_of s) c.now-moment.result) c.store.ensures c.now-moment.ensures.given)
        (turned_by_request g.D.Disk.faults c.args.value.now c.answer-reply.new.self c.args.pass _ c.now-moment.result c.args.self.request c.args.self.request c.answer-reply.result (to_z-of_z w64 c.now-moment.result (SFits-moment c.now-moment.result c.now-moment.ensures.in_range)) refl c.answer-reply.ensures);
    failed = c.lemma_has_gone_on.ensures.failed;
  };
  told =
      c.names_directory-kind.ensures
      ∙ ap (λ (s : BaseView). names_directory s c.answer-reply.result) (sym (state_is g.D.Disk.clock g.D.Disk.left_since g.D.Disk.image g.D.Disk.faults c.answer-reply.new.self.opening c.answer-reply.new.self.store c.lemma_has_gone_on.ensures));
}

pub returns-clause-appends : goal.returns-clause-appends
returns-clause-appends g c = appends g.D.Disk.faults _ c.args.self.request c.args.value.now c.answer-reply.new.self c.args.pass c.answer-reply.result c.answer-reply.ensures
