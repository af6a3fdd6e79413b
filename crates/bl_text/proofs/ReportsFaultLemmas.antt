-- A fault of a piece that is handed on.
use Rattle.std.proofs.Common.{◌≡◌, refl, ap, Result, Err}
use Rattle.bl_tokens.specs.declared.faults.TextFault.{TextFault}
use Rattle.bl_tokens.specs.declared.faults.TextFault.TheVariants.{Unexpected, UnknownName, BadDate, Sort, TooLarge, NoMemory}
use Rattle.bl_text.specs.Pieces.{◌>>=◌, ReportsFault}

-- a fault that is read
pub stops : {A : Type 0} (e : TextFault) (r : Result A TextFault) → r ≡ Err e → ReportsFault e r
stops (Unexpected at) r is = is
stops (UnknownName at) r is = is
stops (BadDate at) r is = is
stops (Sort at) r is = is
stops (TooLarge at) r is = is
stops NoMemory r is = tt

-- a fault of the first of two steps
pub hands_on : {A B : Type 0} (e : TextFault) (r : Result A TextFault) (next : A → Result B TextFault) → ReportsFault e r → ReportsFault e (r >>= next)
hands_on (Unexpected at) r next h = ap (λ r'. r' >>= next) h
hands_on (UnknownName at) r next h = ap (λ r'. r' >>= next) h
hands_on (BadDate at) r next h = ap (λ r'. r' >>= next) h
hands_on (Sort at) r next h = ap (λ r'. r' >>= next) h
hands_on (TooLarge at) r next h = ap (λ r'. r' >>= next) h
hands_on NoMemory r next h = tt

-- either memory was refused, or the fault is read
pub refused_or_read : {A V : Type 0} (e : TextFault) (r : Result A TextFault) → ReportsFault e r → (e ≡ NoMemory → V) → (r ≡ Err e → V) → V
refused_or_read (Unexpected at) r h refused read = read h
refused_or_read (UnknownName at) r h refused read = read h
refused_or_read (BadDate at) r h refused read = read h
refused_or_read (Sort at) r h refused read = read h
refused_or_read (TooLarge at) r h refused read = read h
refused_or_read NoMemory r h refused read = refused refl
