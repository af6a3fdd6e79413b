-- Interpreters can be told apart.
use Rattle.std.specs.Prelude.{ℕ, ℤ, List, Option, refl}
use Rattle.std.specs.Coded.{Coded, code_by, coded×, coded_ℕ, coded_ℤ, coded_list, coded_option}
use Rattle.pcfs_store.specs.StoreCode.{store_code}
use Rattle.pcfs_store.specs.StoreView.{StoreView}
use Rattle.pcfs_session.specs.InterpreterView.{InterpreterView}

abbrev pub interpreter_code : {D : Type 0} → Coded D → Coded (InterpreterView D)
interpreter_code {D} disk =
    code_by (StoreView D × (ℕ × (ℤ × (List ℕ × Option (List ℕ)))))
    (coded× (store_code disk) (coded× coded_ℕ (coded× coded_ℤ (coded× (coded_list coded_ℕ) (coded_option (coded_list coded_ℕ))))))
    (λ i. (i.store, (i.asker.pass, (i.asker.clock, (i.asker.caller, i.asker.sees)))))
    (λ p. record { store = p.0; asker = record { pass = p.1.0; clock = p.1.1.0; caller = p.1.1.1.0; sees = p.1.1.1.1 } })
    (λ _. refl)
