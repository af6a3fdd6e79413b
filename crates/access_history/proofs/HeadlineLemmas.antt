-- Each operation of a lawful history was rightful.
use Rattle.std.proofs.Common.{ℕ, List, [], ◌∷◌, refl}
use Rattle.std.specs.Prelude.{ℤ}
use Rattle.std.specs.List.{AllByRecursion}
use Rattle.procap.specs.declared.procap.Procap.{Procap}
use Rattle.file_world.specs.declared.operation.Op.{Op}
use Rattle.file_world.specs.Needs.{Need, needs}
use Rattle.journal_records.specs.declared.event.Event.{Event}
use Rattle.journal_records.specs.declared.event.Event.TheVariants.{Acted}
use Rattle.access_history.specs.Base.{BaseView}
use Rattle.access_history.specs.Authority.{Authority}
use Rattle.access_history.specs.Admission.{wanted_goal, IsNeedMet}
use Rattle.access_history.specs.Replay.{replay}
use Rattle.access_history.specs.Lawful.{IsDerived, IsLawful, MayAct}
use Rattle.access_history.specs.Headline.{WasRightful, Headline}
use Rattle.access_history.proofs.AdmissionLemmas.{Holds-admits}
use Rattle.access_history.proofs.FollowingLemmas.{follows_at}
use Rattle.access_history.proofs.LawfulLemmas.{IsWorld-lawful}

WasRightful-each : (key : List ℕ) (state : BaseView) (caller : List ℕ) (procaps : List Procap) (moment : ℤ) (wants : List Need) → AllByRecursion (IsNeedMet key state caller procaps moment) wants → AllByRecursion (IsDerived state caller procaps moment) wants →
    AllByRecursion (WasRightful key state caller procaps moment) wants
WasRightful-each key state caller procaps moment [] met derived = tt
WasRightful-each key state caller procaps moment (need ∷ wants) met derived =
    let holds = Holds-admits key state moment (wanted_goal caller need) met.0.procap met.0.admits in (
      record {
        procap = met.0.procap;
        brought = met.0.brought;
        sealed = met.0.admits.0;
        names_caller = met.0.admits.1.0;
        names_file = met.0.admits.1.1.0;
        names_permission = met.0.admits.1.1.1.0;
        times_held = holds.times;
        states_held = holds.states;
        derivable = derived.0 met.0.procap met.0.brought;
      },
      WasRightful-each key state caller procaps moment wants met.1 derived.1,
    )

-- the needs of an operation that may come next
WasRightful-acted : (authority : Authority) (state : BaseView) (caller : List ℕ) (op : Op) (procaps : List Procap) (moment : ℤ) → MayAct authority state caller op procaps moment → AllByRecursion (WasRightful authority.key state caller procaps moment) (needs state.world op)
WasRightful-acted authority state caller op procaps moment may = WasRightful-each authority.key state caller procaps moment (needs state.world op) may.admitted may.derived

pub Headline-lawful : (authority : Authority) (base : BaseView) (events : List Event) → IsLawful authority base events → Headline authority base events (replay base events).world
Headline-lawful authority base events lawful = record {
  lawful = lawful;
  replays = refl;
  tree = IsWorld-lawful authority base events lawful;
  rightful = λ earlier later pass caller op procaps moment parts.
      WasRightful-acted authority (replay base earlier) caller op procaps moment
      (follows_at authority base events earlier later (Acted pass caller op procaps moment) lawful parts);
}
