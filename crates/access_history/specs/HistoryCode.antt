-- Histories can be told apart.
use Rattle.std.specs.Prelude.{ℕ, List, refl}
use Rattle.std.specs.Coded.{Coded, code_by, coded×, coded_ℕ, coded_list}
use Rattle.policy_statement.specs.Ring.{KeyView}
use Rattle.policy_statement.specs.RingCode as ring_code
use Rattle.world_state.specs.State.{Readiness}
use Rattle.world_state.specs.StateCode.{readiness_code}
use Rattle.journal_records.specs.declared.event.Event.{Event}
use Rattle.journal_records.specs.contracts.event.Event as event
use Rattle.access_history.specs.Base.{BaseView}
use Rattle.access_history.specs.BaseCode.{base_code}
use Rattle.access_history.specs.History.{HistoryView}

abbrev pub key_code : Coded KeyView
key_code = ring_code.key_code

abbrev pub history_code : Coded HistoryView
history_code =
    code_by (List ℕ × (List KeyView × (BaseView × (List Event × (ℕ × Readiness)))))
    (coded× (coded_list coded_ℕ) (coded× (coded_list key_code) (coded× base_code (coded× (coded_list event.the_row.coded) (coded× coded_ℕ readiness_code)))))
    (λ h. (h.key, (h.ring, (h.base, (h.events, (h.room, h.ready))))))
    (λ p. record { key = p.0; ring = p.1.0; base = p.1.1.0; events = p.1.1.1.0; room = p.1.1.1.1.0; ready = p.1.1.1.1.1 })
    (λ _. refl)
