-- Reading what a journal's records hold after their tag, from the left: the value and the bytes
-- after it, or the first fault.
use Rattle.std.specs.Prelude.{ℕ, ℤ, List, Ok}
use Rattle.bl_syntax.specs.Statement.{StatementView}
use Rattle.bl_syntax.specs.Grant.{GrantView}
use Rattle.bl_syntax.specs.Reading.{◌>>=◌, Reading, name_at}
use Rattle.bl_syntax.specs.FormulaReading.{statement_at}
use Rattle.proof_term.specs.Proof.{ProofView}
use Rattle.procap.specs.declared.procap.Procap.{Procap}
use Rattle.procap.specs.GrantReading.{grant_at}
use Rattle.procap.specs.Procap.{procap_at}
use Rattle.file_world.specs.declared.operation.Op.{Op}
use Rattle.record_parts.specs.Fields.{u32_at, sized_bytes_at, moment_field_at}
use Rattle.record_parts.specs.Parts.{list_at, sized_proof_at}
use Rattle.record_parts.specs.OperationReading.{operation_at}

-- a statement, and its signature
unfoldable pub registered_at : ℕ → List ℕ → Reading (StatementView × List ℕ)
registered_at input bytes = do
  statement ← statement_at input bytes
  signature ← sized_bytes_at statement.1
  Ok ((statement.0, signature.0), signature.1)

-- the number of a statement, and the signature of its withdrawal
unfoldable pub withdrawn_at : List ℕ → Reading (ℕ × List ℕ)
withdrawn_at bytes = do
  number ← u32_at bytes
  signature ← sized_bytes_at number.1
  Ok ((number.0, signature.0), signature.1)

-- a proof, and what it grants
unfoldable pub proved_at : ℕ → List ℕ → Reading (ProofView × GrantView)
proved_at input bytes = do
  proof ← sized_proof_at input bytes
  grant ← grant_at input proof.1
  Ok ((proof.0, grant.0), grant.1)

-- the numbers of the statements that a proof cites, the proof, and what it grants
unfoldable pub issued_at : ℕ → List ℕ → Reading (List ℕ × (ProofView × GrantView))
issued_at input bytes = do
  cited ← list_at u32_at bytes
  proved ← proved_at input cited.1
  Ok ((cited.0, proved.0), proved.1)

-- under which procaps, and when
unfoldable pub admitted_at : ℕ → List ℕ → Reading (List Procap × ℤ)
admitted_at input bytes = do
  procaps ← list_at (procap_at input) bytes
  moment ← moment_field_at input procaps.1
  Ok ((procaps.0, moment.0), moment.1)

-- what was done, under which procaps, and when
unfoldable pub done_at : ℕ → List ℕ → Reading (Op × (List Procap × ℤ))
done_at input bytes = do
  op ← operation_at input bytes
  admitted ← admitted_at input op.1
  Ok ((op.0, admitted.0), admitted.1)

-- who did what, under which procaps, and when
unfoldable pub acted_at : ℕ → List ℕ → Reading (List ℕ × (Op × (List Procap × ℤ)))
acted_at input bytes = do
  caller ← name_at input bytes
  done ← done_at input caller.1
  Ok ((caller.0, done.0), done.1)
