-- What this server promises of the history that it keeps, and of each operation in it (after Garg
-- and Pfenning, A proof-carrying file system, 2010; the form is this
-- project's own).
use Rattle.std.specs.Prelude.{◌≡◌, ℕ, ℤ, List, ◌∷◌, ◌++◌, Contains}
use Rattle.std.specs.List.{AllByRecursion}
use Rattle.bl_syntax.specs.Grant.{HoldsAt}
use Rattle.bl_rules.specs.Allowed.{Allows}
use Rattle.procap.specs.Genuine.{IsGenuine}
use Rattle.procap.specs.declared.procap.Procap.{Procap}
use Rattle.file_world.specs.declared.operation.Op.{Op}
use Rattle.file_world.specs.World.{World, IsWorld}
use Rattle.file_world.specs.Facts.{facts}
use Rattle.file_world.specs.Needs.{Need, needs}
use Rattle.journal_records.specs.declared.event.Event.{Event}
use Rattle.journal_records.specs.declared.event.Event.TheVariants.{Acted}
use Rattle.access_history.specs.Base.{BaseView}
use Rattle.access_history.specs.Numbered.{IsNumbered}
use Rattle.access_history.specs.Authority.{Authority}
use Rattle.access_history.specs.Books.{book_of, statements_in}
use Rattle.access_history.specs.Replay.{replay}
use Rattle.access_history.specs.Lawful.{IsLawful, WasIssued}

-- for a permission that the caller needs on a file, a procap was brought that is sealed under the
-- key, names caller, file and permission, and whose conditions on time and on the state held in
-- that state at
-- that moment; and if that procap was issued, the logic derives the permission from the statements
-- that stood then, over the facts of that state, at that moment
pub record WasRightful (key : List ℕ) (state : BaseView) (caller : List ℕ) (procaps : List Procap) (moment : ℤ) (need : Need) : Type 0 where
  pub procap : Procap
  pub brought : IsNumbered procaps need.place procap
  pub sealed : IsGenuine key procap
  pub names_caller : procap.grant.goal.who ≡ caller
  pub names_file : procap.grant.goal.file ≡ need.file
  pub names_permission : procap.grant.goal.perm ≡ need.permission
  pub times_held : AllByRecursion (HoldsAt moment) procap.grant.times
  pub states_held : AllByRecursion (Contains (facts state.world)) procap.grant.states
  pub derivable : WasIssued state.issues procap.grant → Allows (statements_in (book_of state)) (facts state.world) moment caller need.file need.permission

-- The history of these events replays from its base to that world, which keeps its limits. And
-- whichever operation in it is taken: over the state to which the events before it lead, and at its
-- one
-- moment, each permission that it needs was rightful.
pub record Headline (authority : Authority) (base : BaseView) (events : List Event) (world : World) : Type 0 where
  pub lawful : IsLawful authority base events
  pub replays : (replay base events).world ≡ world
  pub tree : IsWorld world
  pub rightful : (earlier later : List Event) (pass : ℕ) (caller : List ℕ) (op : Op) (procaps : List Procap) (moment : ℤ) →
      events ≡ earlier ++ Acted pass caller op procaps moment ∷ later →
      let state = replay base earlier in AllByRecursion (WasRightful authority.key state caller procaps moment) (needs state.world op)
