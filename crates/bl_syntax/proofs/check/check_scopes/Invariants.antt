-- The terms so far are in scope: the first fault is that of the others.
use Rattle.std.proofs.Common.{◌≡◌, drop}
use Rattle.bl_syntax.specs.Binders.{sorts}
use Rattle.bl_syntax.specs.FirstFault.{scopes_fault}
use Rattle.bl_syntax.proofs.check.check_scopes.Given as goal

abbrev pub invariant-loop-t : goal.invariant-loop-t
invariant-loop-t l = scopes_fault l.scope (sorts l.binders) (drop l.t-index l.terms) ≡ scopes_fault l.scope (sorts l.binders) l.terms
