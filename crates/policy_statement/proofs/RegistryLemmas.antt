-- What the registry tells of numbers, as the statements say it.
use Rattle.std.proofs.Common.{◌≡◌, ◌<◌, ◌∙◌, ℕ, suc, List, length, Some, refl, sym, arith}
use Rattle.std.specs.Prelude.{Contains}
use Rattle.std.specs.List.{slice_get}
use Rattle.std.proofs.lemmas.List.{length-map}
use Rattle.std.proofs.lemmas.Option.{slice_get-map, slice_get_read}
use Rattle.bl_syntax.specs.declared.limits.TheConstants.{MOST_STATEMENTS}
use Rattle.bl_syntax.specs.Statement.{StatementView}
use Rattle.policy_statement.specs.Registered.{RegisteredView}
use Rattle.policy_statement.specs.Registry.{CanRegister, sayings, statement_of_number}

abbrev statement_of : RegisteredView → StatementView
statement_of entry = entry.statement

-- what no number has is none of the statements
pub unnumbered_new : (entries : List RegisteredView) (s : StatementView) → ((number : ℕ) → statement_of_number entries number ≡ Some s → ⊥) → Contains (sayings entries) s → ⊥
unnumbered_new entries s new here =
    let found : slice_get (sayings entries) here.0 ≡ Some s = slice_get_read (sayings entries) (length (sayings entries)) here.0 s refl here.1 (sym here.2) in
    new (suc here.0) (sym (slice_get-map statement_of entries here.0) ∙ found)

-- a new one can be added, if there are few entries
pub can_register : (entries : List RegisteredView) (s : StatementView) → (Contains (sayings entries) s → ⊥) → length entries < MOST_STATEMENTS → CanRegister (sayings entries) s
can_register entries s new room = record { new = new; room = let same = length-map entries statement_of in omega (arith, room, same) }
