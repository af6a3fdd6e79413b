-- Whose signatures are accepted, and under which key procaps are sealed; statements with their
-- signatures, and withdrawals (this project's own).
use Rattle.std.specs.Prelude.{ℕ, List, Bool, IsTrue}
use Rattle.bl_syntax.specs.Statement.{StatementView, IsStatement}
use Rattle.bl_syntax.specs.Grant.{GrantView}
use Rattle.policy_statement.specs.Messages.{statement_message, withdraw_message}
use Rattle.policy_statement.specs.Registered.{RegisteredView}
use Rattle.policy_statement.specs.Registry.{CanRegister, sayings}
use Rattle.procap.specs.Genuine.{seal_of}
use Rattle.procap.specs.declared.procap.Procap.{Procap}

-- the key of the seal, and whether a signature is accepted from a name under a message
pub record Authority : Type 0 where
  pub key : List ℕ
  pub accepts : List ℕ → List ℕ → List ℕ → Bool

-- the signature is accepted from who says the statement, under the statement's message
abbrev pub IsSignedStatement : Authority → StatementView → List ℕ → Type 0
IsSignedStatement authority statement signature = IsTrue (authority.accepts statement.who (statement_message statement) signature)

-- the signature is accepted from who says the statement, under the message of its withdrawal
abbrev pub IsSignedWithdrawal : Authority → StatementView → List ℕ → Type 0
IsSignedWithdrawal authority statement signature = IsTrue (authority.accepts statement.who (withdraw_message statement) signature)

-- the signature with which the statement was registered is accepted
abbrev pub IsSignedEntry : Authority → RegisteredView → Type 0
IsSignedEntry authority entry = IsSignedStatement authority entry.statement entry.signature

-- the statement may be registered beside these: it may be said, its signature is accepted, and it
-- can be added
pub record MayBeRegistered (authority : Authority) (entries : List RegisteredView) (said : StatementView) (signature : List ℕ) : Type 0 where
  pub statement : IsStatement said
  pub signed : IsSignedStatement authority said signature
  pub can : CanRegister (sayings entries) said

-- the procap of a grant under a key: the grant with its seal
abbrev pub procap_of : List ℕ → GrantView → Procap
procap_of key g = record { grant = g; tag = seal_of key g }
