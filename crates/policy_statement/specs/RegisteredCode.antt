-- Registers can be told apart.
use Rattle.std.specs.Prelude.{ℕ, List, Bool, refl}
use Rattle.std.specs.Coded.{Coded, code_by, coded×, coded_ℕ, coded_list, coded_bool}
use Rattle.bl_syntax.specs.Statement.{StatementView}
use Rattle.bl_syntax.specs.StatementCode.{statement_code}
use Rattle.policy_statement.specs.Registered.{RegisteredView, RegistryView}

abbrev pub registered_code : Coded RegisteredView
registered_code =
    code_by (StatementView × (List ℕ × Bool)) (coded× statement_code (coded× (coded_list coded_ℕ) coded_bool))
    (λ e. (e.statement, (e.signature, e.withdrawn)))
    (λ p. record { statement = p.0; signature = p.1.0; withdrawn = p.1.1 })
    (λ _. refl)

abbrev pub registry_code : Coded RegistryView
registry_code =
    code_by (List RegisteredView × ℕ) (coded× (coded_list registered_code) coded_ℕ)
    (λ r. (r.entries, r.spare))
    (λ p. record { entries = p.0; spare = p.1 })
    (λ _. refl)
