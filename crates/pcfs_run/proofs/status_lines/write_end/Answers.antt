-- That a disk failed comes first.
use Rattle.std.proofs.Common.{◌≡◌, ◌∙◌, ℕ, Option, None, true, is_some, refl, sym, ap}
use Rattle.std.proofs.lemmas.Bool.{false≢true}
use Rattle.pcfs_run.proofs.status_lines.write_end.Goals as goal

stopped_not : (stop : Option ℕ) → is_some stop ≡ true → stop ≡ None → ⊥
stopped_not stop is none = false≢true (sym (ap is_some none) ∙ is)

pub returns-then-is_stopped-clause-running : goal.returns-then-is_stopped-clause-running
returns-then-is_stopped-clause-running g c none = absurd (stopped_not _ (c.if-is_stopped.ensures.0 refl) none)

pub returns-clause-stopped : goal.returns-clause-stopped
returns-clause-stopped g c pass is = absurd (false≢true (c.if-is_stopped.ensures.1 (ap is_some is)))
