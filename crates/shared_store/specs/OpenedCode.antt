-- Opened stores can be told apart.
use Rattle.std.specs.Prelude.{refl}
use Rattle.std.specs.Coded.{Coded, code_by, coded×}
use Rattle.pcfs_store.specs.StoreView.{StoreView}
use Rattle.pcfs_store.specs.StoreCode.{store_code}
use Rattle.shared_store.specs.OpenedView.{OpenedView}

abbrev pub opened_code : {D : Type 0} → Coded D → Coded (OpenedView D)
opened_code {D} disk = code_by (StoreView D × StoreView D)
    (coded× (store_code disk) (store_code disk)) (λ s. (s.store, s.opening)) (λ p.
    record { store = p.0; opening = p.1 }) (λ _. refl)
