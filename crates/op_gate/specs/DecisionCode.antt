-- Gates can be told apart.
use Rattle.std.specs.Prelude.{ℕ, List, Option, refl}
use Rattle.std.specs.Coded.{Coded, code_by, coded×, coded_ℕ, coded_list, coded_option}
use Rattle.journal_records.specs.declared.event.Event.{Event}
use Rattle.access_history.specs.Base.{BaseView}
use Rattle.journal_records.specs.contracts.event.Event as event
use Rattle.access_history.specs.BaseCode.{base_code}
use Rattle.policy_statement.specs.Ring.{KeyView}
use Rattle.access_history.specs.HistoryCode.{key_code}
use Rattle.op_gate.specs.Decision.{GateView}

abbrev pub gate_code : Coded GateView
gate_code =
    code_by (List ℕ × (List KeyView × (BaseView × (List Event × Option Event))))
    (coded× (coded_list coded_ℕ) (coded× (coded_list key_code) (coded× base_code (coded× (coded_list event.the_row.coded) (coded_option event.the_row.coded)))))
    (λ g. (g.key, (g.ring, (g.base, (g.events, g.pending)))))
    (λ p. record { key = p.0; ring = p.1.0; base = p.1.1.0; events = p.1.1.1.0; pending = p.1.1.1.1 })
    (λ _. refl)
