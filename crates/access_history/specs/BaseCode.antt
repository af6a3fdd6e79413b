-- States can be told apart.
use Rattle.std.specs.Prelude.{ℕ, ℤ, List, refl}
use Rattle.std.specs.Coded.{Coded, code_by, coded×, coded_ℕ, coded_ℤ, coded_list}
use Rattle.policy_statement.specs.Registered.{RegisteredView}
use Rattle.policy_statement.specs.RegisteredCode.{registered_code}
use Rattle.file_world.specs.World.{World}
use Rattle.world_state.specs.StateCode.{world_code}
use Rattle.access_history.specs.declared.event.Issue.{Issue}
use Rattle.access_history.specs.contracts.event.Issue as issue
use Rattle.access_history.specs.Base.{BaseView}

abbrev pub base_code : Coded BaseView
base_code =
    code_by (World × (List RegisteredView × (List Issue × (ℤ × ℕ))))
    (coded× world_code (coded× (coded_list registered_code) (coded× (coded_list issue.the_row.coded) (coded× coded_ℤ coded_ℕ))))
    (λ b. (b.world, (b.statements, (b.issues, (b.moment, b.count)))))
    (λ p. record { world = p.0; statements = p.1.0; issues = p.1.1.0; moment = p.1.1.1.0; count = p.1.1.1.1 })
    (λ _. refl)
