-- What a procap that passes all tests gives, and that there is one first test that it does not pass.
use Rattle.std.proofs.Common.{◌≡◌, ◌∙◌, ◌+◌, ℕ, List, [], ◌∷◌, Option, Some, None, ap, sym, subst, refl}
use Rattle.std.specs.Prelude.{ℤ, Contains, find}
use Rattle.std.specs.List.{AllByRecursion}
use Rattle.bl_syntax.specs.declared.terms.Constraint.{Constraint}
use Rattle.bl_syntax.specs.declared.terms.StatePred.{StatePred}
use Rattle.bl_syntax.specs.declared.terms.NodeId.{NodeId}
use Rattle.bl_syntax.specs.declared.terms.Perm.{Perm as Permission}
use Rattle.bl_syntax.specs.declared.grant.Goal.{Goal}
use Rattle.bl_syntax.specs.Statement.{StatementView}
use Rattle.bl_syntax.specs.Grant.{GrantView, HoldsAt, Holds}
use Rattle.bl_rules.specs.Allowed.{Allows, SoundGrant}
use Rattle.bl_rules.proofs.SoundGrantLemmas.{SoundGrant-more}
use Rattle.procap.specs.declared.procap.Procap.{Procap}
use Rattle.policy_statement.specs.Withdrawal.{is_withdrawn}
use Rattle.issue_standings.specs.Bearing.{BearingView}
use Rattle.issue_standings.proofs.StandingLemmas.{IsLive, live_issue}
use Rattle.proof_verifier.specs.Cited.{statements_of}
use Rattle.file_world.specs.declared.operation.Op.{Op}
use Rattle.file_world.specs.Facts.{facts}
use Rattle.file_world.specs.Needs.{Need, needs}
use Rattle.access_history.specs.declared.reply.DenialCause.{DenialCause}
use Rattle.access_history.specs.declared.reply.DenialCause.TheVariants as causes
use Rattle.access_history.specs.declared.event.Issue.{Issue}
use Rattle.access_history.specs.Base.{BaseView}
use Rattle.access_history.specs.Gone.{bearing, bearings, gone, gone_by_issues, gone_naming}
use Rattle.access_history.specs.Numbered.{IsNumbered}
use Rattle.policy_statement.specs.Registry.{sayings}
use Rattle.access_history.specs.Books.{book_of, statements_in}
use Rattle.access_history.specs.Citing.{IsGoodIssue}
use Rattle.access_history.specs.Admission.{wanted_goal, causes_from, condition_causes, withdrawal_causes, denial_causes, Passes, Admits, Denies, IsNeedMet, IsAdmitted, IsDenied}
use Rattle.access_history.specs.Lawful.{IsDerived, AreDerived, WasIssued}
use Rattle.access_history.proofs.ListLemmas.{AllByRecursion-parts, AllByRecursion-weaker, AllByRecursion-contains, Contains-image, IsImage, IsImage-from_map}
use Rattle.access_history.proofs.NumberedLemmas.{numbered_item, none_fails, first_failing}
use Rattle.access_history.proofs.CitingLemmas.{Includes-cited, SoundGrant-granted, cited_named, stand_if_none}

module _ (key : List ℕ) (state : BaseView) (moment : ℤ) (goal : Goal) (p : Procap) where
  times_hold : (place : ℕ) (times : List Constraint) → AllByRecursion (Passes key state moment goal p) (causes_from causes.Time place times) → AllByRecursion (HoldsAt moment) times
  times_hold place [] all = tt
  times_hold place (c ∷ times) all = (all.0, times_hold (place + 1) times all.1)

  states_hold : (place : ℕ) (states : List StatePred) → AllByRecursion (Passes key state moment goal p) (causes_from causes.State place states) → AllByRecursion (Contains (facts state.world)) states
  states_hold place [] all = tt
  states_hold place (s ∷ states) all = (all.0, states_hold (place + 1) states all.1)

  -- the tests of the conditions, and of what was withdrawn
  last_tests : Admits key state moment goal p → AllByRecursion (Passes key state moment goal p) (condition_causes p.grant) × AllByRecursion (Passes key state moment goal p) (withdrawal_causes (gone state p.grant))
  last_tests admits = AllByRecursion-parts (Passes key state moment goal p) (condition_causes p.grant) (withdrawal_causes (gone state p.grant)) admits.1.1.1.1

  -- the conditions of the grant hold
  pub Holds-admits : Admits key state moment goal p → Holds p.grant moment (facts state.world)
  Holds-admits admits =
      let parts = AllByRecursion-parts (Passes key state moment goal p) (causes_from causes.Time 1 p.grant.times) (causes_from causes.State 1 p.grant.states) (last_tests admits).0 in
      record { times = times_hold 1 p.grant.times parts.0; states = states_hold 1 p.grant.states parts.1 }

  not_gone_by : (found : Option ℕ) → gone state p.grant ≡ found → AllByRecursion (Passes key state moment goal p) (withdrawal_causes found) → gone state p.grant ≡ None
  not_gone_by None is all = is
  not_gone_by (Some number) is all = all.0

  -- and it is not gone
  pub not_gone-admits : Admits key state moment goal p → gone state p.grant ≡ None
  not_gone-admits admits = not_gone_by (gone state p.grant) refl (last_tests admits).1

  -- there is one first test that the procap does not pass
  one_cause : (cause other : DenialCause) → Denies key state moment goal p cause → Denies key state moment goal p other → cause ≡ other
  one_cause cause other first second = (first_failing (Passes key state moment goal p) (denial_causes state p.grant) first.place second.place cause other first.first second.first).1

module _ (key : List ℕ) (state : BaseView) (caller : List ℕ) (procaps : List Procap) (moment : ℤ) where
  -- what is admitted is not denied
  pub admitted_or_denied : (wants : List Need) (place : ℕ) (cause : DenialCause) → AllByRecursion (IsNeedMet key state caller procaps moment) wants → IsDenied key state caller procaps moment wants place cause → ⊥
  admitted_or_denied wants place cause all denial = none_fails (IsNeedMet key state caller procaps moment) wants denial.index denial.need all denial.first

  -- there is one first need that is not met, and one cause
  pub one_denial : (wants : List Need) (place other : ℕ) (cause because : DenialCause) → IsDenied key state caller procaps moment wants place cause → IsDenied key state caller procaps moment wants other because → (place ≡ other) × (cause ≡ because)
  one_denial wants place other cause because first second =
      let need : first.need ≡ second.need = (first_failing (IsNeedMet key state caller procaps moment) wants first.index second.index first.need second.need first.first second.first).1 in
      let procap : first.procap ≡ second.procap = numbered_item procaps second.need.place first.procap second.procap (subst (λ (n : Need). IsNumbered procaps n.place first.procap) need first.brought) second.brought in
      let denies : Denies key state moment (wanted_goal caller second.need) second.procap cause =
      subst (λ (p : Procap). Denies key state moment (wanted_goal caller second.need) p cause) procap (subst (λ (n : Need). Denies key state moment (wanted_goal caller n) first.procap cause) need first.denies) in
      (first.place_is ∙ ap (λ (n : Need). n.place) need ∙ sym second.place_is, one_cause key state moment (wanted_goal caller second.need) second.procap cause because denies second.denies)

-- what a sound grant grants, under the names that it has
Allows-named : (statements : List StatementView) (state : BaseView) (moment : ℤ) (goal : Goal) (g : GrantView) → SoundGrant statements g → g.goal.who ≡ goal.who → g.goal.file ≡ goal.file → g.goal.perm ≡ goal.perm → Holds g moment (facts state.world) →
    Allows statements (facts state.world) moment goal.who goal.file goal.perm
Allows-named statements state moment goal g sound who file perm holds =
    subst (λ (w : List ℕ). Allows statements (facts state.world) moment w goal.file goal.perm) who
    (subst (λ (f : NodeId). Allows statements (facts state.world) moment g.goal.who f goal.perm) file
    (subst (λ (permission : Permission). Allows statements (facts state.world) moment g.goal.who g.goal.file permission) perm
    (sound.allows moment (facts state.world) holds)))

-- an issue with the grant, of whose statements none was withdrawn
record IsLiveIssue (state : BaseView) (g : GrantView) : Type 0 where
  pub issue : Issue
  pub among : Contains state.issues issue
  pub grant_is : issue.grant ≡ g
  pub none_withdrawn : find (is_withdrawn state.statements) issue.cited ≡ None

live_by : (state : BaseView) (g : GrantView) (live : IsLive (is_withdrawn state.statements) g (bearings state.issues)) → IsImage bearing state.issues live.bearing → IsLiveIssue state g
live_by state g live image = record {
  issue = image.item;
  among = image.contained;
  grant_is = ap (λ (b : BearingView). b.grant) image.same ∙ live.grant_is;
  none_withdrawn = ap (λ (b : BearingView). find (is_withdrawn state.statements) b.cited) image.same ∙ live.none_withdrawn;
}

-- a grant without names that was issued and is not gone has one
live_plain : (state : BaseView) (g : GrantView) → WasIssued state.issues g → gone_by_issues state g ≡ None → IsLiveIssue state g
live_plain state g was not_gone =
    let live = live_issue (is_withdrawn state.statements) g (bearings state.issues) (bearing was.issue) (Contains-image bearing state.issues was.issue was.among) was.grant_is not_gone in
    live_by state g live (IsImage-from_map bearing state.issues live.bearing live.among)

-- a grant that names statements, none of which was withdrawn, was issued by one as well
live_named : (state : BaseView) (g : GrantView) (named : List ℕ) → g.cited ≡ named → AllByRecursion (IsGoodIssue (sayings state.statements)) state.issues → WasIssued state.issues g → gone_naming state g named ≡ None →
    IsLiveIssue state g
live_named state g [] names good was not_gone = live_plain state g was not_gone
live_named state g (number ∷ numbers) names good was not_gone =
    let issue : IsGoodIssue (sayings state.statements) was.issue = AllByRecursion-contains (IsGoodIssue (sayings state.statements)) state.issues was.issue good was.among in
    let cited : was.issue.cited ≡ number ∷ numbers = cited_named (sayings state.statements) was.issue number numbers issue (ap (λ (h : GrantView). h.cited) was.grant_is ∙ names) in
    record { issue = was.issue; among = was.among; grant_is = was.grant_is; none_withdrawn = subst (λ (ns : List ℕ). find (is_withdrawn state.statements) ns ≡ None) (sym cited) not_gone }

live_of : (state : BaseView) (g : GrantView) → AllByRecursion (IsGoodIssue (sayings state.statements)) state.issues → WasIssued state.issues g → gone state g ≡ None → IsLiveIssue state g
live_of state g good was not_gone = live_named state g g.cited refl good was not_gone

IsDerived-met : (key : List ℕ) (state : BaseView) (caller : List ℕ) (procaps : List Procap) (moment : ℤ) → AllByRecursion (IsGoodIssue (sayings state.statements)) state.issues → (need : Need) → IsNeedMet key state caller procaps moment need → IsDerived state caller procaps moment need
IsDerived-met key state caller procaps moment good need met p brought was =
    let registered = sayings state.statements in
    let statements = statements_in (book_of state) in
    let same : met.procap ≡ p = numbered_item procaps need.place met.procap p met.brought brought in
    let admits : Admits key state moment (wanted_goal caller need) p = subst (Admits key state moment (wanted_goal caller need)) same met.admits in
    let live : IsLiveIssue state p.grant = live_of state p.grant good was (not_gone-admits key state moment (wanted_goal caller need) p admits) in
    let issue : IsGoodIssue registered live.issue = AllByRecursion-contains (IsGoodIssue registered) state.issues live.issue good live.among in
    let stand = stand_if_none state.statements issue.cites issue.stand (subst (λ (ns : List ℕ). find (is_withdrawn state.statements) ns ≡ None) issue.cited live.none_withdrawn) in
    let sound : SoundGrant statements live.issue.grant =
    SoundGrant-more (statements_of issue.cites) statements live.issue.grant (Includes-cited (book_of state) issue.cites stand) (SoundGrant-granted issue.cites live.issue.proof live.issue.grant issue.granted) in
    Allows-named statements state moment (wanted_goal caller need) p.grant (subst (SoundGrant statements) live.grant_is sound) admits.1.0 admits.1.1.0 admits.1.1.1.0 (Holds-admits key state moment (wanted_goal caller need) p admits)

-- what an admitted operation needs is derivable, if the grants were issued
pub AreDerived-admitted : (key : List ℕ) (state : BaseView) (caller : List ℕ) (op : Op) (procaps : List Procap) (moment : ℤ) → AllByRecursion (IsGoodIssue (sayings state.statements)) state.issues → IsAdmitted key state caller op procaps moment →
    AreDerived state caller op procaps moment
AreDerived-admitted key state caller op procaps moment good admitted =
    AllByRecursion-weaker (IsNeedMet key state caller procaps moment) (IsDerived state caller procaps moment) (needs state.world op) (IsDerived-met key state caller procaps moment good) admitted
