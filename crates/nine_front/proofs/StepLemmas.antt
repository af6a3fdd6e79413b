-- What a request comes to: what it leaves, and who is logged in if turns are taken for it.
use Rattle.std.proofs.Common.{◌≡◌, ◌∙◌, ◌⊎◌, ◌≤◌, ℕ, Bool, true, false, cond, eqb, is_none, List, length, Option, Some, None, refl, sym, ap, subst, arith, inl, inr}
use Rattle.std.proofs.lemmas.Bool.{and_cases, false≢true, ltb-false}
use Rattle.std.proofs.lemmas.Option.{none-some}
use Rattle.file_world.proofs.RowLemmas.{split}
use Rattle.bl_syntax.specs.declared.terms.NodeId.{NodeId}
use Rattle.bl_syntax.specs.declared.terms.Perm.{Perm}
use Rattle.bl_syntax.specs.declared.terms.Perm.TheVariants as perms
use Rattle.procap.specs.declared.procap.Procap.{Procap}
use Rattle.nine_messages.specs.declared.request.Request.{Request}
use Rattle.nine_messages.specs.declared.request.Request.TheVariants as requests
use Rattle.nine_messages.specs.Views.{request_view}
use Rattle.nine_messages.specs.Requests.{RequestView, tversion, tattach, tflush, twalk, topen, tread, twrite, tclunk, tother}
use Rattle.nine_fids.specs.declared.error.NineError.{NineError}
use Rattle.nine_fids.specs.declared.control.Control.{Control}
use Rattle.nine_fids.specs.declared.control.Control.TheVariants as controls
use Rattle.nine_fids.specs.declared.fid.Fid.{Fid}
use Rattle.nine_fids.specs.declared.fid.FidFile.{FidFile}
use Rattle.nine_fids.specs.declared.fid.FidFile.TheVariants as files
use Rattle.nine_fids.specs.declared.step.Answer.TheVariants as answers
use Rattle.nine_fids.specs.declared.step.Step.{Step}
use Rattle.nine_fids.specs.declared.step.Step.TheVariants as steps
use Rattle.nine_fids.specs.declared.connection.Connection.{Connection}
use Rattle.nine_fids.specs.Errors.{Tests, first_holding}
use Rattle.nine_fids.specs.Fids.{HasRoomFor}
use Rattle.nine_fids.specs.States.{fid_at, without_fid}
use Rattle.nine_fids.specs.Steps.{Outcome, answered, unless_refused, tested, version_outcome, attach_outcome, walk_nowhere, walk_names, walk_from, at_fid, open_file, with_procap, read_len, read_file, control_outcome, write_file, outcome_of, decided}
use Rattle.nine_fids.specs.Memory.{IsOperation, MayLackMemory, for_an_operation}
use Rattle.nine_fids.specs.Taking.{IsTaken}
use Rattle.nine_fids.specs.Tests.{fitting_of, is_without_login, lacks_login, has_names, tests_of, version_tests, attach_tests, flush_tests, walk_tests, open_tests, read_tests, write_tests, clunk_tests}
use Rattle.nine_fids.specs.Walks.{last_of, standing_for, walked}
use Rattle.nine_fids.proofs.TakingLemmas.{none_holds}
use Rattle.nine_fids.proofs.LawLemmas.{Changes, leaves, walk_has_room}
use Rattle.nine_front.specs.Walked.{IsLoggedIn, ComesTo, NeedsTurns, IsWalk}

-- ---- what a request comes to

-- a walk of at most 16 names, while somebody is logged in
abbrev pub IsNameWalk : Connection → RequestView → Type 0
IsNameWalk s (tversion msize version) = ⊥
IsNameWalk s (tattach fid afid uname aname) = ⊥
IsNameWalk s (tflush oldtag) = ⊥
IsNameWalk s (twalk fid newfid names) = (length names ≤ 16) × IsLoggedIn s
IsNameWalk s (topen fid mode) = ⊥
IsNameWalk s (tread fid offset count) = ⊥
IsNameWalk s (twrite fid offset bytes) = ⊥
IsNameWalk s (tclunk fid) = ⊥
IsNameWalk s (tother kind body) = ⊥

abbrev pub IsOutcome : Connection → RequestView → Step → Connection → Type 0
IsOutcome s m (steps.Refused error) after = after ≡ s
IsOutcome s m (steps.Answered answer) after = Unit {0}
IsOutcome s m (steps.Login who signature) after = after ≡ s
IsOutcome s m (steps.Read node p offset len) after = (after ≡ s) × (IsLoggedIn s × (len ≤ 65536))
IsOutcome s m (steps.Write node p offset) after = (after ≡ s) × IsLoggedIn s
IsOutcome s m (steps.Walk node) after = (after ≡ s) × IsNameWalk s m

abbrev EndsIn : Connection → RequestView → Outcome → Type 0
EndsIn s m o = IsOutcome s m o.0 o.1

outcome_cases : (s : Connection) (m : RequestView) (tests : Tests) (outcome : Outcome) → (None ≡ first_holding tests → IsOutcome s m outcome.0 outcome.1) → IsOutcome s m (tested s tests outcome).0 (tested s tests outcome).1
outcome_cases s m tests outcome passed = go (first_holding tests) refl
  where
    go : (o : Option NineError) → o ≡ first_holding tests → IsOutcome s m (unless_refused s o outcome).0 (unless_refused s o outcome).1
    go None e = passed e
    go (Some error) e = refl

-- a procap fits somebody
fits_somebody : (s : Connection) (caller : Option (List ℕ)) (node : NodeId) (permission : Perm) (p : Procap) → fitting_of s caller node permission ≡ Some p → (who : List ℕ) × (caller ≡ Some who)
fits_somebody s None node permission p e = absurd (none-some p e)
fits_somebody s (Some who) node permission p e = (who, refl)

procap_outcome : (s : Connection) (m : RequestView) (found : Option Procap) (step : Procap → Step) → ((p : Procap) → found ≡ Some p → IsOutcome s m (step p) s) → IsOutcome s m (with_procap s found step).0 (with_procap s found step).1
procap_outcome s m None step passed = refl
procap_outcome s m (Some p) step passed = passed p refl

read_is : (s : Connection) (fid offset count : ℕ) (found : Option Fid) → IsOutcome s (tread fid offset count) (at_fid s found (read_file s offset count)).0 (at_fid s found (read_file s offset count)).1
read_is s fid offset count None = refl
read_is s fid offset count (Some it) = at it.file
  where
    at : (file : FidFile) → IsOutcome s (tread fid offset count) (read_file s offset count file).0 (read_file s offset count file).1
    at files.Control = tt
    at (files.Node node is_directory) =
        procap_outcome s (tread fid offset count) (fitting_of s s.caller node perms.Read) (λ p. steps.Read node p offset (read_len s.msize count))
        (λ p fits. (refl, (fits_somebody s s.caller node perms.Read p fits, omega arith)))

control_is : (s : Connection) (m : RequestView) (count : ℕ) (asked : Option Control) → IsOutcome s m (control_outcome s count asked).0 (control_outcome s count asked).1
control_is s m count None = refl
control_is s m count (Some (controls.Login who signature)) = refl
control_is s m count (Some (controls.Brings p)) = tt
control_is s m count (Some controls.Empties) = tt

write_is : (s : Connection) (fid offset : ℕ) (bytes : List ℕ) (asked : Option Control) (found : Option Fid) →
    IsOutcome s (twrite fid offset bytes) (at_fid s found (write_file s asked offset (length bytes))).0 (at_fid s found (write_file s asked offset (length bytes))).1
write_is s fid offset bytes asked None = refl
write_is s fid offset bytes asked (Some it) = at it.file
  where
    at : (file : FidFile) → IsOutcome s (twrite fid offset bytes) (write_file s asked offset (length bytes) file).0 (write_file s asked offset (length bytes) file).1
    at files.Control = control_is s (twrite fid offset bytes) (length bytes) asked
    at (files.Node node is_directory) =
        procap_outcome s (twrite fid offset bytes) (fitting_of s s.caller node perms.Write) (λ p. steps.Write node p offset)
        (λ p fits. (refl, fits_somebody s s.caller node perms.Write p fits))

open_is : (s : Connection) (fid mode : ℕ) (found : Option Fid) → IsOutcome s (topen fid mode) (at_fid s found (open_file s fid mode)).0 (at_fid s found (open_file s fid mode)).1
open_is s fid mode None = refl
open_is s fid mode (Some it) = tt

somebody : (caller : Option (List ℕ)) → is_none caller ≡ false → (who : List ℕ) × (caller ≡ Some who)
somebody None e = absurd (false≢true (sym e))
somebody (Some who) e = (who, refl)

module _ (s : Connection) (fid newfid : ℕ) (names : List (List ℕ)) (none : None ≡ first_holding (walk_tests s fid newfid names)) where
  few_names : length names ≤ 16
  few_names = ltb-false 16 (length names) (none_holds (walk_tests s fid newfid names) none).1.1.1.1.0

  -- a walk of names from a node is one of somebody
  walks_as : (it : Fid) (node : NodeId) (is_directory : Bool) → Some it ≡ fid_at s fid → it.file ≡ files.Node node is_directory → has_names names ≡ true → IsLoggedIn s
  walks_as it node is_directory is stands named = by (and_cases (has_names names) (is_without_login s (fid_at s fid)) (none_holds (walk_tests s fid newfid names) none).1.1.1.1.1.1.1.0)
    where
      by : (has_names names ≡ false) ⊎ (is_without_login s (fid_at s fid) ≡ false) → IsLoggedIn s
      by (inl unnamed) = absurd (false≢true (sym unnamed ∙ named))
      by (inr logged) =
          let there : lacks_login s it.file ≡ false = subst (λ (o : Option Fid). is_without_login s o ≡ false) (sym is) logged in
          somebody s.caller (subst (λ (f : FidFile). lacks_login s f ≡ false) stands there)

  walk_names_is : (it : Fid) (file : FidFile) → Some it ≡ fid_at s fid → it.file ≡ file → has_names names ≡ true → IsOutcome s (twalk fid newfid names) (walk_names file) s
  walk_names_is it files.Control is stands named = refl
  walk_names_is it (files.Node node is_directory) is stands named = (refl, (few_names, walks_as it node is_directory is stands named))

  walk_is : (found : Option Fid) → found ≡ fid_at s fid → IsOutcome s (twalk fid newfid names) (at_fid s found (walk_from s fid newfid names)).0 (at_fid s found (walk_from s fid newfid names)).1
  walk_is None is = refl
  walk_is (Some it) is =
      split (has_names names)
      (λ t. subst (λ (b : Bool). EndsIn s (twalk fid newfid names) (cond b (walk_names it.file, s) (walk_nowhere s fid newfid it.file))) (sym t) (walk_names_is it it.file is refl t))
      (λ f. subst (λ (b : Bool). EndsIn s (twalk fid newfid names) (cond b (walk_names it.file, s) (walk_nowhere s fid newfid it.file))) (sym f) tt)

pub outcome_is : (s : Connection) (asked : Option Control) (m : RequestView) → IsOutcome s m (decided s asked m).0 (decided s asked m).1
unfolding tests_of outcome_of
outcome_is s asked (tversion msize version) = outcome_cases s (tversion msize version) (version_tests msize) (version_outcome s msize version) (λ none. tt)
outcome_is s asked (tattach fid afid uname aname) = outcome_cases s (tattach fid afid uname aname) (attach_tests s fid afid aname) (attach_outcome s fid aname) (λ none. tt)
outcome_is s asked (tflush oldtag) = outcome_cases s (tflush oldtag) (flush_tests s) (answered answers.Flush s) (λ none. tt)
outcome_is s asked (twalk fid newfid names) =
    outcome_cases s (twalk fid newfid names) (walk_tests s fid newfid names) (at_fid s (fid_at s fid) (walk_from s fid newfid names)) (λ none. walk_is s fid newfid names none (fid_at s fid) refl)
outcome_is s asked (topen fid mode) = outcome_cases s (topen fid mode) (open_tests s fid mode) (at_fid s (fid_at s fid) (open_file s fid mode)) (λ none. open_is s fid mode (fid_at s fid))
outcome_is s asked (tread fid offset count) =
    outcome_cases s (tread fid offset count) (read_tests s fid) (at_fid s (fid_at s fid) (read_file s offset count)) (λ none. read_is s fid offset count (fid_at s fid))
outcome_is s asked (twrite fid offset bytes) =
    outcome_cases s (twrite fid offset bytes) (write_tests s asked fid) (at_fid s (fid_at s fid) (write_file s asked offset (length bytes))) (λ none. write_is s fid offset bytes asked (fid_at s fid))
outcome_is s asked (tclunk fid) = outcome_cases s (tclunk fid) (clunk_tests s fid) (answered answers.Clunk (without_fid s fid)) (λ none. tt)
outcome_is s asked (tother kind body) = refl

-- ---- as the code says it

pub comes_to : (s : Connection) (m : RequestView) (step : Step) → ComesTo s m step → IsOutcome s m step s
comes_to s m step c = subst (λ (o : Outcome). IsOutcome s m o.0 o.1) c.is (outcome_is s c.asked m)

pub taken_to : (s after : Connection) (m : RequestView) (step : Step) → IsTaken s m step after → IsOutcome s m step after
taken_to s after m step t = subst (λ (o : Outcome). IsOutcome s m o.0 o.1) (sym t.is) (outcome_is s t.asked m)

stays_before : (s after : Connection) (m : RequestView) (step : Step) → NeedsTurns step → IsOutcome s m step after → after ≡ s
stays_before s after m (steps.Refused error) needs is = absurd needs
stays_before s after m (steps.Answered answer) needs is = absurd needs
stays_before s after m (steps.Login who signature) needs is = is
stays_before s after m (steps.Read node p offset len) needs is = is.0
stays_before s after m (steps.Write node p offset) needs is = is.0
stays_before s after m (steps.Walk node) needs is = is.0

-- before turns nothing has changed
pub same_before_turns : (s after : Connection) (m : RequestView) (step : Step) → NeedsTurns step → IsTaken s m step after → after ≡ s
same_before_turns s after m step needs t = stays_before s after m step needs (taken_to s after m step t)

pub comes_at : (s after : Connection) (m : RequestView) (step : Step) → after ≡ s → IsTaken s m step after → ComesTo s m step
comes_at s after m step same t = record { asked = t.asked; asks = t.asks; is = sym t.is ∙ ap (λ (a : Connection). (step, a)) same }

pub comes_after : (s after : Connection) (m : RequestView) (step : Step) → NeedsTurns step → IsTaken s m step after → ComesTo after m step
comes_after s after m step needs t =
    let same = same_before_turns s after m step needs t in
    subst (λ (a : Connection). ComesTo a m step) (sym same) (comes_at s after m step same t)

-- a walk comes of a Twalk
pub is_walk : (s : Connection) (m : RequestView) → IsNameWalk s m → IsWalk m
is_walk s (tversion msize version) is = is
is_walk s (tattach fid afid uname aname) is = is
is_walk s (tflush oldtag) is = is
is_walk s (twalk fid newfid names) is = tt
is_walk s (topen fid mode) is = is
is_walk s (tread fid offset count) is = is
is_walk s (twrite fid offset bytes) is = is
is_walk s (tclunk fid) is = is
is_walk s (tother kind body) is = is

pub walk_known : (r : Request) → IsWalk (request_view r) → ((fid newfid : ℕ) (names : List (List ℕ)) → r ≡ requests.Walk fid newfid names → ⊥) → ⊥
walk_known (requests.Version msize version) is other = is
walk_known (requests.Attach fid afid uname aname) is other = is
walk_known (requests.Flush oldtag) is other = is
walk_known (requests.Walk fid newfid names) is other = other fid newfid names refl
walk_known (requests.Open fid mode) is other = is
walk_known (requests.Read fid offset count) is other = is
walk_known (requests.Write fid offset bytes) is other = is
walk_known (requests.Clunk fid) is other = is
walk_known (requests.Other kind body) is other = is

-- what a walk comes to, and that there is room for the fid that it makes
pub walk_decided : (s : Connection) (fid newfid : ℕ) (names : List (List ℕ)) (node : NodeId) → ComesTo s (twalk fid newfid names) (steps.Walk node) → decided s None (twalk fid newfid names) ≡ (steps.Walk node, s)
walk_decided s fid newfid names node c = subst (λ (a : Option Control). decided s a (twalk fid newfid names) ≡ (steps.Walk node, s)) c.asks c.is

pub walk_room : (s : Connection) (fid newfid : ℕ) (names : List (List ℕ)) (node : NodeId) → ComesTo s (twalk fid newfid names) (steps.Walk node) → HasRoomFor s.fids newfid
walk_room s fid newfid names node c = walk_has_room s s c.asked fid newfid names node (sym c.is)

-- a node is to be read or written, so no test holds
pub may_lack : (s : Connection) (m : RequestView) (step : Step) → ComesTo s m step → IsOperation step → MayLackMemory s m
may_lack s m step c is = for_an_operation c.asked c.asks (subst (λ (o : Outcome). IsOperation o.0) (sym c.is) is)

-- ---- the nonce

nonce_changes : (s : Connection) (m : RequestView) → Changes (λ after. after.nonce ≡ s.nonce) s m
nonce_changes s (tversion msize version) = λ low. refl
nonce_changes s (tattach fid afid uname aname) = λ room f. refl
nonce_changes s (tflush oldtag) = tt
nonce_changes s (twalk fid newfid names) = λ room f. refl
nonce_changes s (topen fid mode) = λ room f. refl
nonce_changes s (tread fid offset count) = tt
nonce_changes s (twrite fid offset bytes) = (λ p room. refl, refl)
nonce_changes s (tclunk fid) = refl
nonce_changes s (tother kind body) = tt

pub nonce_taken : (s after : Connection) (m : RequestView) (step : Step) → IsTaken s m step after → after.nonce ≡ s.nonce
nonce_taken s after m step t =
    let same : after ≡ (decided s t.asked m).1 = ap (λ (o : Outcome). o.1) t.is in
    ap (λ (a : Connection). a.nonce) same ∙ leaves (λ a. a.nonce ≡ s.nonce) s t.asked m refl (nonce_changes s m)

nonce_standing : (s : Connection) (newfid : ℕ) (file : Option FidFile) → (standing_for s newfid file).nonce ≡ s.nonce
nonce_standing s newfid None = refl
nonce_standing s newfid (Some file) = refl

pub nonce_walked : (s : Connection) (newfid names : ℕ) (found : List FidFile) → (walked s newfid names found).nonce ≡ s.nonce
nonce_walked s newfid names found = by (eqb (length found) names)
  where
    by : (all : Bool) → (let after : Connection = cond all (standing_for s newfid (last_of found)) s in after.nonce) ≡ s.nonce
    by true = nonce_standing s newfid (last_of found)
    by false = refl
