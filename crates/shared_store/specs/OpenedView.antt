-- A store, and how it was opened (this project's own).
use Rattle.pcfs_store.specs.StoreView.{StoreView}

pub record OpenedView (D : Type 0) : Type 0 where
  pub store : StoreView D
  pub opening : StoreView D
