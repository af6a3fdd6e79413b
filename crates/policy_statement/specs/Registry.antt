-- The registry of statements, which are numbered from 1 in the order in which they were kept. This
-- project's own.
use Rattle.std.specs.Prelude.{◌≡◌, ◌≤◌, ◌<◌, ℕ, zero, suc, List, length, map, Contains, Bool, true, false, Option, None, Some, Result, Ok, Err}
use Rattle.std.specs.List.{slice_get}
use Rattle.std.specs.Option.{option_map}
use Rattle.bl_syntax.specs.declared.limits.TheConstants.{MOST_STATEMENTS}
use Rattle.bl_syntax.specs.Statement.{StatementView}
use Rattle.policy_statement.specs.declared.registry.RegisterFault.{RegisterFault}
use Rattle.policy_statement.specs.declared.registry.RegisterFault.TheVariants.{BadSignature, Duplicate, RegistryFull, NoMemory}
use Rattle.policy_statement.specs.Registered.{RegisteredView}

-- the statement of a number; none where nothing has that number
abbrev pub statement_of_number : List RegisteredView → ℕ → Option StatementView
statement_of_number entries zero = None
statement_of_number entries (suc place) = option_map (λ entry. entry.statement) (slice_get entries place)

-- the statements without their signatures, in order, withdrawn ones too
abbrev pub sayings : List RegisteredView → List StatementView
sayings entries = map (λ (entry : RegisteredView). entry.statement) entries

-- the statement can be added to these: no equal one is among them, and there is room
pub record CanRegister (statements : List StatementView) (said : StatementView) : Type 0 where
  pub new : Contains statements said → ⊥
  pub room : length statements < MOST_STATEMENTS

-- whether and why not a statement may be registered whose signature is accepted or not: first its
-- signature, then an equal statement, then the room
abbrev pub MayRegister : Bool → List RegisteredView → StatementView →
    Result (Unit {0}) RegisterFault → Type 0
MayRegister accepted entries s (Ok done) = (accepted ≡ true) ×
    CanRegister (sayings entries) s
MayRegister accepted entries s (Err BadSignature) = accepted ≡ false
MayRegister accepted entries s (Err (Duplicate number)) = (accepted ≡ true) ×
    (statement_of_number entries number ≡ Some s)
MayRegister accepted entries s (Err RegistryFull) = (accepted ≡ true) ×
    ((Contains (sayings entries) s → ⊥) × (MOST_STATEMENTS ≤ length entries))
MayRegister accepted entries s (Err NoMemory) = Unit {0}
