-- The place is entered unless one is.
use Rattle.std.proofs.Common.{refl, ◌∙◌}
use Rattle.pcfs_audit.specs.Firsts.{first_of}
use Rattle.pcfs_audit.proofs.FirstsLemmas.{none_entered, not_at, some_kept}
use Rattle.pcfs_audit.proofs.firsts.enter.Goals as goal

pub returns-then-contains_key : goal.returns-then-contains_key
returns-then-contains_key c = record { own = some_kept (first_of c.args.firsts.now.entries c.args.digest) c.args.place c.if-contains_key.ensures; others = λ other differs. refl }

pub returns-in-Ok : goal.returns-in-Ok
returns-in-Ok c = record {
  own = c.in-Ok.ensures.updates.1 ∙ none_entered (first_of c.args.firsts.now.entries c.args.digest) c.args.place c.if-contains_key.ensures;
  others = λ other differs. c.in-Ok.ensures.updates.2 other (not_at c.args.digest other differs);
}
