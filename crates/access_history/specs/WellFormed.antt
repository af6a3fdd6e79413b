-- What a request has to bring (this project's own).
use Rattle.std.specs.Prelude.{◌≡◌, ◌≤◌, ℕ, List, length, IsTrue}
use Rattle.bl_syntax.specs.declared.limits.TheConstants.{MOST_BYTES_AT_ONCE}
use Rattle.bl_syntax.specs.Names.{is_principal_name}
use Rattle.bl_syntax.specs.Statement.{IsStatement}
use Rattle.procap.specs.declared.procap.Procap.{Procap}
use Rattle.proof_verifier.specs.Cited.{AreCited}
use Rattle.proof_verifier.specs.CheckedView.{IsChecked}
use Rattle.file_world.specs.declared.operation.Op.{Op}
use Rattle.file_world.specs.Effect.{IsOperation}
use Rattle.file_world.specs.Needs.{slots, bytes_to_write}
use Rattle.access_history.specs.declared.request.StepRequest.{StepRequest}
use Rattle.access_history.specs.declared.request.StepRequest.TheVariants.{Register, Withdraw, Issue, Act, ShowProcap}

-- an operation comes with one procap for each of its slots, and brings at most 65,536 bytes to
-- write
pub record BringsEnough (op : Op) (procaps : List Procap) : Type 0 where
  pub slots : length procaps ≡ slots op
  pub few_bytes : bytes_to_write op ≤ MOST_BYTES_AT_ONCE

-- a principal's operation, with what it has to bring
pub record IsWellFormedAct (caller : List ℕ) (op : Op) (procaps : List Procap) : Type 0 where
  pub named : IsTrue (is_principal_name caller)
  pub operation : IsOperation op
  pub brought : BringsEnough op procaps

-- a statement may be said; a proof was checked, and cites 1 to 64 statements by rising numbers; an
-- operation is a principal's, with its procaps
abbrev pub IsWellFormed : StepRequest → Type 0
IsWellFormed (Register statement signature) = IsStatement statement
IsWellFormed (Withdraw number signature) = Unit {0}
IsWellFormed (Issue checked) = AreCited checked.cited × IsChecked checked
IsWellFormed (Act caller op procaps) = IsWellFormedAct caller op procaps
IsWellFormed (ShowProcap number who) = Unit {0}
