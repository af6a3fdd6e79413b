use Rattle.pcfs_store.proofs.ImageLemmas.{fresh_has_image}
use Rattle.pcfs_store.proofs.laws.fresh_has_its_image.Goals as goal

pub returns : goal.returns
returns c = fresh_has_image
