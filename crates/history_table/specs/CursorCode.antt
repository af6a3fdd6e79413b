-- Cursors can be compared.
use Rattle.std.specs.Prelude.{ℕ, refl}
use Rattle.std.specs.Coded.{Coded, code_by, coded×, coded_ℕ}
use Rattle.access_history.specs.History.{HistoryView}
use Rattle.access_history.specs.HistoryCode.{history_code}
use Rattle.history_table.specs.Cursor.{CursorView}

abbrev pub cursor_code : Coded CursorView
cursor_code =
    code_by (HistoryView × ℕ) (coded× history_code coded_ℕ)
    (λ t. (t.history, t.passed))
    (λ p. record { history = p.0; passed = p.1 })
    (λ _. refl)
