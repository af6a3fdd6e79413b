-- The first procap that fits is taken to a turn, if there is one and memory for it.
use Rattle.std.proofs.Common.{subst, refl, codes, Option, Some, None}
use Rattle.std.specs.Prelude.{◌≡◌}
use Rattle.bl_syntax.specs.declared.terms.Perm.TheVariants as perms
use Rattle.procap.specs.declared.procap.Procap.{Procap}
use Rattle.nine_fids.specs.declared.error.NineError.TheVariants as errors
use Rattle.nine_fids.specs.Tests.{fitting_of}
use Rattle.nine_front.proofs.WordLemmas.{stopped_apart, not_it, no_error}
use Rattle.nine_front.proofs.WalkedLemmas.{fitting_somebody, fitting_there, walked_to_no_procap, walked_without_memory}
use Rattle.nine_front.proofs.walking.find.Goals as goal

pub find_under-requires-clause-fits : goal.find_under-requires-clause-fits
find_under-requires-clause-fits g c =
    fitting_somebody c.args.connection.now c.args.who c.args.node perms.Execute (Some c.in-Ok-Some.p) c.requires.caller
    (subst (λ (o : Option Procap). o ≡ fitting_of c.args.connection.now c.args.connection.now.caller c.args.node perms.Execute) c.in-Ok-Some.field-0-is c.in-Ok-Some.ensures.ok)

pub returns-in-Ok-None-clause-not_found : goal.returns-in-Ok-None-clause-not_found
returns-in-Ok-None-clause-not_found g c = λ names.
    walked_to_no_procap (g.C.TurnClock.gives c.args.clock.now) c.args.connection.now.purse c.args.who c.args.node c.args.name.now names c.args.pass.now
    (fitting_somebody c.args.connection.now c.args.who c.args.node perms.Execute None c.requires.caller
    (subst (λ (o : Option Procap). o ≡ fitting_of c.args.connection.now c.args.connection.now.caller c.args.node perms.Execute) c.in-Ok-None.field-0-is c.in-Ok-None.ensures.ok))

pub returns-in-Ok-None-clause-stopped : goal.returns-in-Ok-None-clause-stopped
returns-in-Ok-None-clause-stopped g c = λ is. absurd (no_error (codes "stopped") stopped_apart errors.NoProcap is)

pub returns-in-Err-clause-not_found : goal.returns-in-Err-clause-not_found
returns-in-Err-clause-not_found g c = λ names.
    let fits = fitting_there c.args.connection.now c.args.who c.args.node perms.Execute c.requires.caller c.in-Err.ensures.err in
    walked_without_memory (g.C.TurnClock.gives c.args.clock.now) c.args.connection.now.purse c.args.who c.args.node c.args.name.now names fits.0 c.args.pass.now fits.1

pub returns-in-Err-clause-stopped : goal.returns-in-Err-clause-stopped
returns-in-Err-clause-stopped g c = λ is. absurd (not_it (codes "stopped") stopped_apart (codes "nomemory") refl is)
