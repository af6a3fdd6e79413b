-- What the statements of some numbers are, as the gate tells it (this project's own).
use Rattle.std.specs.Prelude.{ℕ, List}
use Rattle.policy_statement.specs.Registered.{RegisteredView}
use Rattle.policy_statement.specs.Registry.{sayings}
use Rattle.access_history.specs.Books.{Book, live_book, whole_book}
use Rattle.access_history.specs.Citing.{AreFound, IsAbsent}
use Rattle.op_gate.specs.declared.cite.Among.{Among}
use Rattle.op_gate.specs.declared.cite.Among.TheVariants.{Registered, Live}
use Rattle.op_gate.specs.declared.cite.Citation.{Citation}
use Rattle.op_gate.specs.declared.cite.Citation.TheVariants.{Cited, Absent}

-- what numbers hold: each statement that is registered, or each that stands
abbrev pub book_among : Among → List RegisteredView → Book
book_among Registered entries = whole_book (sayings entries)
book_among Live entries = live_book entries

-- what the statements of these numbers are
abbrev pub GivesCitation : Book → List ℕ → Citation → Type 0
GivesCitation book numbers (Cited cites) = AreFound book numbers cites
GivesCitation book numbers (Absent number) = IsAbsent book numbers number
