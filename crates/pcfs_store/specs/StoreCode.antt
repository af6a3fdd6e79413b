-- Stores can be told apart.
use Rattle.std.specs.Prelude.{ℕ, Bool, List, Option, refl}
use Rattle.std.specs.Coded.{Coded, code_by, coded×, coded_ℕ, coded_bool, coded_list, coded_option}
use Rattle.policy_statement.specs.Ring.{KeyView}
use Rattle.journal_records.specs.declared.event.Event.{Event}
use Rattle.access_history.specs.Base.{BaseView}
use Rattle.journal_records.specs.contracts.event.Event as event
use Rattle.access_history.specs.BaseCode.{base_code}
use Rattle.access_history.specs.HistoryCode.{key_code}
use Rattle.pcfs_store.specs.declared.checkpoints.Checkpoint.{Checkpoint}
use Rattle.pcfs_store.specs.contracts.checkpoints.Checkpoint as checkpoint
use Rattle.pcfs_store.specs.StoreView.{StoreView}

abbrev pub store_code : {D : Type 0} → Coded D → Coded (StoreView D)
store_code {D} disk =
    code_by (D × (D × (Bool × (ℕ × (ℕ × (List ℕ × (List KeyView × (BaseView × (List ℕ × (List Event × (List Checkpoint × (Option ℕ × Option Event))))))))))))
    (coded× disk (coded× disk (coded× coded_bool
    (coded× coded_ℕ (coded× coded_ℕ
    (coded× (coded_list coded_ℕ)
    (coded× (coded_list key_code)
    (coded× base_code (coded× (coded_list coded_ℕ) (coded× (coded_list event.the_row.coded)
    (coded× (coded_list checkpoint.the_row.coded)
    (coded× (coded_option coded_ℕ) (coded_option event.the_row.coded)))))))))))))
    (λ s. (
      s.active,
      (
        s.other,
        (
          s.second_active,
          (
            s.generation,
            (
              s.used,
              (s.key, (s.ring, (s.base, (s.opened, (s.events, (s.checkpoints, (s.stop, s.met))))))),
            ),
          ),
        ),
      ),
    ))
    (λ p. record {
      active = p.0;
      other = p.1.0;
      second_active = p.1.1.0;
      generation = p.1.1.1.0;
      used = p.1.1.1.1.0;
      key = p.1.1.1.1.1.0;
      ring = p.1.1.1.1.1.1.0;
      base = p.1.1.1.1.1.1.1.0;
      opened = p.1.1.1.1.1.1.1.1.0;
      events = p.1.1.1.1.1.1.1.1.1.0;
      checkpoints =
          p.1.1.1.1.1.1.1.1.1.1.0;
      stop = p.1.1.1.1.1.1.1.1.1.1.1.0;
      met =
          p.1.1.1.1.1.1.1.1.1.1.1.1;
    })
    (λ _. refl)
