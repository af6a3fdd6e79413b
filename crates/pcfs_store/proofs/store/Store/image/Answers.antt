use Rattle.pcfs_store.proofs.PlacingLemmas.{state_fits, image_there}
use Rattle.pcfs_store.proofs.store.Store.image.Goals as goal

pub state_image-requires : goal.state_image-requires
state_image-requires g c = state_fits c.self.inside.active c.self.inside.other c.self.inside.second_active c.self.inside.generation c.self.inside.opened.value c.self.inside.gate c.self.inside.checkpoints.items c.self.inside.stop c.self.invariant c.args.self.now c.self.view_is c.history-history.result.now c.history-history.ensures.base c.history-history.ensures.events c.lemma_is_lawful.ensures

pub returns : goal.returns
returns g c = image_there c.self.inside.active c.self.inside.other c.self.inside.second_active c.self.inside.generation c.self.inside.opened.value c.self.inside.gate c.self.inside.checkpoints.items c.self.inside.stop c.self.invariant c.args.self.now c.self.view_is c.history-history.result.now c.history-history.ensures.base c.history-history.ensures.events c.state_image.result c.state_image.ensures
