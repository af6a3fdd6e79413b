-- Canonical bytes of what a journal's records hold after their tag: what was registered, withdrawn
-- and issued, and what was done. The format is this project's own.
use Rattle.std.specs.Prelude.{ℕ, ℤ, List, ◌++◌, ◌<◌, ◌^◌, IsTrue}
use Rattle.std.specs.Int.{w32, to_be_bytes}
use Rattle.bl_syntax.specs.Names.{is_principal_name}
use Rattle.bl_syntax.specs.TimeOrder.{IsMoment}
use Rattle.bl_syntax.specs.Statement.{StatementView}
use Rattle.bl_syntax.specs.Grant.{GrantView}
use Rattle.bl_syntax.specs.Spelling.{with_length}
use Rattle.bl_syntax.specs.FormulaSpelling.{statement_spelling, IsSpellableStatement}
use Rattle.proof_term.specs.Proof.{ProofView}
use Rattle.proof_term.specs.ProofSpelling.{IsSpellableProof}
use Rattle.procap.specs.declared.procap.Procap.{Procap}
use Rattle.procap.specs.GrantSpelling.{grant_spelling, list_spelling, IsSpellableGrant}
use Rattle.procap.specs.Procap.{procap_spelling, IsSpellableProcap}
use Rattle.file_world.specs.declared.operation.Op.{Op}
use Rattle.record_parts.specs.Fields.{sized_bytes_spelling, FitsFourBytes, moment_spelling}
use Rattle.record_parts.specs.Parts.{AreSpellable, sized_proof_spelling}
use Rattle.record_parts.specs.OperationSpelling.{operation_spelling, IsSpellableOperation}

-- a statement, and its signature
unfoldable pub registered_spelling : StatementView → List ℕ → List ℕ
registered_spelling statement signature = statement_spelling statement ++ sized_bytes_spelling signature

pub record IsSpellableRegistered (statement : StatementView) (signature : List ℕ) : Type 0 where
  pub said : IsSpellableStatement statement
  pub signed : FitsFourBytes signature

-- the number of a statement
abbrev pub cited_spelling : ℕ → List ℕ
cited_spelling number = to_be_bytes w32 number

abbrev pub IsSpellableCited : ℕ → Type 0
IsSpellableCited number = number < 2 ^ 32

-- the number of a statement, and the signature of its withdrawal
unfoldable pub withdrawn_spelling : ℕ → List ℕ → List ℕ
withdrawn_spelling number signature = cited_spelling number ++ sized_bytes_spelling signature

pub record IsSpellableWithdrawn (number : ℕ) (signature : List ℕ) : Type 0 where
  pub numbered : IsSpellableCited number
  pub signed : FitsFourBytes signature

-- the numbers of the statements that a proof cites, the proof, and what it grants
unfoldable pub issued_spelling : List ℕ → ProofView → GrantView → List ℕ
issued_spelling cited proof grant = list_spelling cited_spelling cited ++ (sized_proof_spelling proof ++ grant_spelling grant)

pub record IsSpellableIssued (cited : List ℕ) (proof : ProofView) (grant : GrantView) : Type 0 where
  pub numbers : AreSpellable IsSpellableCited cited
  pub proved : IsSpellableProof proof
  pub granted : IsSpellableGrant grant

-- who did what, under which procaps, and when
unfoldable pub acted_spelling : List ℕ → Op → List Procap → ℤ → List ℕ
acted_spelling caller op procaps moment = with_length caller ++ (operation_spelling op ++ (list_spelling procap_spelling procaps ++ moment_spelling moment))

pub record IsSpellableActed (caller : List ℕ) (op : Op) (procaps : List Procap) (moment : ℤ) : Type 0 where
  pub named : IsTrue (is_principal_name caller)
  pub words : IsSpellableOperation op
  pub sealed : AreSpellable IsSpellableProcap procaps
  pub timed : IsMoment moment

-- each as one value
abbrev pub Registration : Type 0
Registration = StatementView × List ℕ

abbrev pub IsRegistration : Registration → Type 0
IsRegistration r = IsSpellableRegistered r.0 r.1

abbrev pub registration_spelling : Registration → List ℕ
registration_spelling r = registered_spelling r.0 r.1

abbrev pub Withdrawal : Type 0
Withdrawal = ℕ × List ℕ

abbrev pub IsWithdrawal : Withdrawal → Type 0
IsWithdrawal w = IsSpellableWithdrawn w.0 w.1

abbrev pub withdrawal_spelling : Withdrawal → List ℕ
withdrawal_spelling w = withdrawn_spelling w.0 w.1

abbrev pub Issuing : Type 0
Issuing = List ℕ × (ProofView × GrantView)

abbrev pub IsIssuing : Issuing → Type 0
IsIssuing i = IsSpellableIssued i.0 i.1.0 i.1.1

abbrev pub issuing_spelling : Issuing → List ℕ
issuing_spelling i = issued_spelling i.0 i.1.0 i.1.1

abbrev pub Action : Type 0
Action = List ℕ × (Op × (List Procap × ℤ))

abbrev pub IsAction : Action → Type 0
IsAction a = IsSpellableActed a.0 a.1.0 a.1.1.0 a.1.1.1

abbrev pub action_spelling : Action → List ℕ
action_spelling a = acted_spelling a.0 a.1.0 a.1.1.0 a.1.1.1
