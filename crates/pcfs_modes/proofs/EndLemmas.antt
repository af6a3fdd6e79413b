-- What a table, a text and an input come to, by the answers of the calls that look at them.
use Rattle.std.proofs.Common.{◌≡◌, ◌≢◌, ◌≤◌, ℕ, ℤ, List, length, pos, Bool, refl, sym, subst, arith}
use Rattle.std.specs.Prelude.{Result, Ok, Err, IfOk, OnErr, Option}
use Rattle.std.proofs.lemmas.Int.{ints}
use Rattle.bl_syntax.specs.declared.lists.NoMemory.{NoMemory as OutOfMemory}
use Rattle.bl_syntax.specs.declared.terms.TimePoint.{TimePoint}
use Rattle.bl_syntax.specs.declared.terms.TimePoint.TheVariants.{At}
use Rattle.bl_syntax.specs.Statement.{StatementView}
use Rattle.bl_syntax.specs.TimeOrder.{IsInRange}
use Rattle.line_text.specs.Lines.{lines_of}
use Rattle.mode_policy.specs.declared.fault.ModeFault.{ModeFault}
use Rattle.mode_policy.specs.declared.fault.ModeFault.TheVariants as faults
use Rattle.mode_policy.specs.Lines.{AreOfTable}
use Rattle.mode_policy.specs.Reading.{IsFaultOf}
use Rattle.mode_policy.specs.Statements.{statements_of}
use Rattle.mode_policy.specs.Stating.{GivesStatements}
use Rattle.mode_policy.specs.Table.{TableView}
use Rattle.pcfs_ports.specs.Observable.{ReadsToEnd}
use Rattle.pcfs_ports.specs.declared.streams.TakeFault.{TakeFault}
use Rattle.pcfs_ports.specs.declared.streams.TakeFault.TheVariants.{Failed, TooLong}
use Rattle.pcfs_modes.specs.Answers.{ComesTo, ModesEnds, StatesTable, answered, bad_line, of_table, stated, too_many, twice}
use Rattle.pcfs_modes.specs.ModesText.{fault_line, register_lines}
use Rattle.pcfs_modes.specs.declared.answering.ModesEnd.{ModesEnd}
use Rattle.pcfs_modes.specs.declared.answering.TheConstants.{LAST_SECOND}

-- an end with this status and these lines
pub ends_with : (r : Result ModesEnd OutOfMemory) (status : ℕ) (written : List ℕ) (Ends : ℕ → List ℕ → Type 0) → IfOk r (λ (end : ModesEnd). end.status ≡ status) → IfOk r (λ (end : ModesEnd). end.lines ≡ written) → Ends status written →
    IfOk r (λ (end : ModesEnd). Ends end.status end.lines)
ends_with (Ok end) status written Ends status_is lines_are ends = subst (λ (n : ℕ). Ends n end.lines) (sym status_is) (subst (Ends status) (sym lines_are) ends)
ends_with (Err refused) status written Ends status_is lines_are ends = tt

-- an end with the line of a fault, which is not that memory ran out
pub ends_faulty : (r : Result ModesEnd OutOfMemory) (fault : ModeFault) (Ends : ℕ → List ℕ → Type 0) → IfOk r (λ (end : ModesEnd). end.status ≡ 15) → IfOk r (λ (end : ModesEnd). end.lines ≡ fault_line fault) →
    IfOk r (λ (end : ModesEnd). fault ≢ faults.NoMemory) → (fault ≢ faults.NoMemory → Ends 15 (fault_line fault)) → IfOk r (λ (end : ModesEnd). Ends end.status end.lines)
ends_faulty (Ok end) fault Ends status_is lines_are other ends = subst (λ (n : ℕ). Ends n end.lines) (sym status_is) (subst (Ends 15) (sym lines_are) (ends other))
ends_faulty (Err refused) fault Ends status_is lines_are other ends = tt

-- a second from 1970 to 9999 is a moment
pub in_range_at : (z : ℤ) (second : ℕ) → z ≡ pos second → second ≤ LAST_SECOND → IsInRange (At z)
in_range_at z second is few = subst (λ (y : ℤ). IsInRange (At y)) (sym is) (record { not_before = omega (arith, ints); not_after = omega (arith, ints, few) })

module _ (from to : TimePoint) where
  -- ---- a table

  pub is_stated : (t : TableView) (statements : List StatementView) → statements ≡ statements_of t from to → length statements ≤ 4096 → StatesTable from to t 0 (register_lines statements)
  is_stated t statements is few =
      subst (λ (ss : List StatementView). StatesTable from to t 0 (register_lines ss)) (sym is) (stated (subst (λ (ss : List StatementView). length ss ≤ 4096) is few))

  pub is_not_stated : (t : TableView) (fault : ModeFault) → GivesStatements t from to (Err fault) → fault ≢ faults.NoMemory → StatesTable from to t 15 (fault_line fault)
  is_not_stated t faults.TooMany over other = too_many over
  is_not_stated t faults.NoMemory any other = absurd (other refl)
  is_not_stated t (faults.BadLine number) none other = absurd none
  is_not_stated t (faults.Twice number) none other = absurd none

  -- ---- a text

  pub comes_to_table : (r : Result ModesEnd OutOfMemory) (lines : List (List ℕ)) (t : TableView) → AreOfTable lines t → IfOk r (λ (end : ModesEnd). StatesTable from to t end.status end.lines) → IfOk r (λ (end : ModesEnd). ComesTo from to lines end.status end.lines)
  comes_to_table (Ok end) lines t are states = of_table t end.status end.lines are states
  comes_to_table (Err refused) lines t are states = tt

  pub comes_to_fault : (lines : List (List ℕ)) (fault : ModeFault) → IsFaultOf lines fault → fault ≢ faults.NoMemory → ComesTo from to lines 15 (fault_line fault)
  comes_to_fault lines (faults.BadLine number) first other = bad_line number first
  comes_to_fault lines (faults.Twice number) first other = twice number first
  comes_to_fault lines faults.TooMany none other = absurd none
  comes_to_fault lines faults.NoMemory any other = absurd (other refl)

-- ---- an input

-- points in time that are these seconds
pub at_seconds : (r : Result ModesEnd OutOfMemory) (from to : ℕ) (u v : TimePoint) (text bytes : List ℕ) → u ≡ At (pos from) → v ≡ At (pos to) → text ≡ bytes → IfOk r (λ (end : ModesEnd). ComesTo u v (lines_of text) end.status end.lines) →
    IfOk r (λ (end : ModesEnd). ComesTo (At (pos from)) (At (pos to)) (lines_of bytes) end.status end.lines)
at_seconds r from to u v text bytes u_is v_is text_is ends =
    subst (λ (x : TimePoint). IfOk r (λ (end : ModesEnd). ComesTo x (At (pos to)) (lines_of bytes) end.status end.lines)) u_is
    (subst (λ (y : TimePoint). IfOk r (λ (end : ModesEnd). ComesTo u y (lines_of bytes) end.status end.lines)) v_is
    (subst (λ (b : List ℕ). IfOk r (λ (end : ModesEnd). ComesTo u v (lines_of b) end.status end.lines)) text_is ends))

pub ends_answered : (r : Result ModesEnd OutOfMemory) (from to : ℕ) (left left_after : Option (List ℕ)) (faults faults_after : ℕ) (broken : Bool) (bytes : List ℕ) → ReadsToEnd left left_after bytes → faults_after ≡ faults →
    IfOk r (λ (end : ModesEnd). ComesTo (At (pos from)) (At (pos to)) (lines_of bytes) end.status end.lines) → IfOk r (λ (end : ModesEnd). ModesEnds from to left left_after faults faults_after broken end.status end.lines)
ends_answered (Ok end) from to left left_after faults faults_after broken bytes reads steady ends = answered bytes end.status end.lines reads ends steady
ends_answered (Err refused) from to left left_after faults faults_after broken bytes reads steady ends = tt

-- what holds anyhow holds if memory ran out
pub on_err : (r : Result ModesEnd OutOfMemory) (P : Type 0) → P → OnErr r P
on_err (Ok end) P p = tt
on_err (Err refused) P p = p

-- an input that is too long has not failed
pub not_failed : (r : Result (List ℕ) TakeFault) → r ≡ Err TooLong → r ≢ Err Failed
not_failed r long failed = cc
