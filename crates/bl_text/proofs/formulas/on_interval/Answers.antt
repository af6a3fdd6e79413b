-- The interval is read, and the formula put on it.
use Rattle.std.proofs.Common.{rules}
use Rattle.bl_tokens.specs.declared.faults.TextFault.TheVariants.{NoMemory}
use Rattle.bl_text.specs.Read.{no_memory_for_interval, interval_stops}
use Rattle.bl_text.proofs.ReadLemmas.{passed}
use Rattle.bl_text.proofs.formulas.on_interval.Goals as goal

pub returns-in_err-from-clause-fault : goal.returns-in_err-from-clause-fault
returns-in_err-from-clause-fault c = passed c.from_residual.result c.in_err-from.field-0.0 _ (search rules) (interval_stops _ c.in_err-from.ensures.value)

pub returns-in_err-on_of-clause-fault : goal.returns-in_err-on_of-clause-fault
returns-in_err-on_of-clause-fault c = passed c.from_residual-in_err-on_of.result NoMemory _ (search rules) no_memory_for_interval

pub returns-clause-read : goal.returns-clause-read
returns-clause-read c =
    record {
      from = c.in_ok-from.from;
      to = c.in_ok-from.to;
      interval_is = c.in_ok-from.ensures.value;
      value = c.in_ok-on_of.ensures;
      left = c.in_ok-from.ensures.left;
      within = c.in_ok-from.ensures.within;
    }
