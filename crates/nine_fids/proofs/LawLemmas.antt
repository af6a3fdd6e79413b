-- What holds of every request: the order of its tests, and what it leaves.
use Rattle.std.proofs.Common.{◌≡◌, ◌<◌, ℕ, Bool, true, false, cond, eqb, nat_lt, min, ◌&&◌, List, [], ◌∷◌, ◌++◌, length, Option, Some, None, is_some, refl, sym, ap, ◌∙◌, subst, arith, inl, lit<, length-append}
use Rattle.std.proofs.lemmas.Bool.{cond-true, cond-false, leb-false, ltb-false, eqb-false, eqb-true, not-false, and_parts}
use Rattle.file_world.proofs.RowLemmas.{split, rising-removed, length-removed_le, lookup-removed_other}
use Rattle.bl_syntax.specs.declared.terms.NodeId.{NodeId}
use Rattle.bl_syntax.specs.declared.terms.Perm.TheVariants as perms
use Rattle.procap.specs.declared.procap.Procap.{Procap}
use Rattle.nine_messages.specs.Cutting.{agreed_after}
use Rattle.nine_messages.specs.Requests.{RequestView, tversion, tattach, tflush, twalk, topen, tread, twrite, tclunk, tother}
use Rattle.nine_fids.specs.declared.error.NineError.{NineError}
use Rattle.nine_fids.specs.declared.error.NineError.TheVariants as errors
use Rattle.nine_fids.specs.declared.control.Control.{Control}
use Rattle.nine_fids.specs.declared.control.Control.TheVariants as controls
use Rattle.nine_fids.specs.declared.fid.Fid.{Fid}
use Rattle.nine_fids.specs.declared.fid.FidFile.{FidFile}
use Rattle.nine_fids.specs.declared.fid.FidFile.TheVariants as files
use Rattle.nine_fids.specs.declared.step.Answer.TheVariants as answers
use Rattle.nine_fids.specs.declared.step.Step.{Step}
use Rattle.nine_fids.specs.declared.step.Step.TheVariants as steps
use Rattle.nine_fids.specs.declared.connection.Connection.{Connection}
use Rattle.nine_fids.specs.Errors.{Tests, first_holding}
use Rattle.nine_fids.specs.Fids.{HasRoomFor}
use Rattle.nine_fids.specs.Files.{closed, mode_of}
use Rattle.nine_fids.specs.Laws.{DoRise, places_of, IsOwnFid}
use Rattle.nine_fids.specs.Memory.{IsOperation, MayLackMemory, for_an_operation, for_a_line, IsOpenFor}
use Rattle.nine_fids.specs.States.{begun_with, fid_at, with_fid, without_fid, IsWithin}
use Rattle.nine_fids.specs.Steps.{Outcome, refused, answered, unless_refused, tested, is_served, version_outcome, attach_outcome, file_named, walk_nowhere, walk_names, walk_from, at_fid, open_file, read_file, with_procap, read_len, control_outcome, write_file, outcome_of, decided}
use Rattle.nine_fids.specs.Tests.{tests_of, attach_tests, walk_tests, open_tests, read_tests, write_tests, clunk_tests, flush_tests, version_tests, fitting_of, has_names, is_at_control, is_readable, is_writable, takes_lines}
use Rattle.nine_fids.specs.Walks.{last_of, standing_for, walked}
use Rattle.nine_fids.proofs.FidLemmas.{AreFids-none, AreFids-with, fid_in-with_other}
use Rattle.nine_fids.proofs.TakingLemmas.{none_holds, attach_room, walk_room, can_walk}

-- ---- the order of tests

pub tests_in_order : (s : Connection) (asked : Option Control) (m : RequestView) → DoRise (places_of (tests_of s asked m))
unfolding tests_of
tests_in_order s asked (tversion msize version) = tt
tests_in_order s asked (tattach fid afid uname aname) = (lit< tt, (lit< tt, (lit< tt, (lit< tt, tt))))
tests_in_order s asked (tflush oldtag) = tt
tests_in_order s asked (twalk fid newfid names) = (lit< tt, (lit< tt, (lit< tt, (lit< tt, (lit< tt, (lit< tt, (lit< tt, (lit< tt, tt))))))))
tests_in_order s asked (topen fid mode) = (lit< tt, (lit< tt, (lit< tt, (lit< tt, tt))))
tests_in_order s asked (tread fid offset count) = (lit< tt, (lit< tt, (lit< tt, (lit< tt, tt))))
tests_in_order s asked (twrite fid offset bytes) = (lit< tt, (lit< tt, (lit< tt, (lit< tt, (lit< tt, (lit< tt, tt))))))
tests_in_order s asked (tclunk fid) = (lit< tt, tt)
tests_in_order s asked (tother kind body) = tt

-- ---- what a request may change

-- what a property has to hold of, so that it holds of what a request leaves
abbrev pub Changes : (Connection → Type 0) → Connection → RequestView → Type 0
Changes P s (tversion msize version) = nat_lt msize 512 ≡ false → P (record s { is_agreed = is_served version; msize = min msize 65536; fids = [] })
Changes P s (tattach fid afid uname aname) = HasRoomFor s.fids fid → (f : Fid) → P (with_fid s fid f)
Changes P s (tflush oldtag) = Unit {0}
Changes P s (twalk fid newfid names) = HasRoomFor s.fids newfid → (f : Fid) → P (with_fid s newfid f)
Changes P s (topen fid mode) = HasRoomFor s.fids fid → (f : Fid) → P (with_fid s fid f)
Changes P s (tread fid offset count) = Unit {0}
Changes P s (twrite fid offset bytes) = ((p : Procap) → length s.purse < 64 → P (record s { purse = s.purse ++ p ∷ [] })) × P (record s { purse = [] })
Changes P s (tclunk fid) = P (without_fid s fid)
Changes P s (tother kind body) = Unit {0}

unless_cases : (P : Connection → Type 0) (s : Connection) (tests : Tests) (outcome : Outcome) → P s → (None ≡ first_holding tests → P outcome.1) → P (tested s tests outcome).1
unless_cases P s tests outcome same passed = go (first_holding tests) refl
  where
    go : (o : Option NineError) → o ≡ first_holding tests → P (unless_refused s o outcome).1
    go None e = passed e
    go (Some error) e = same

walk_nowhere_leaves : (P : Connection → Type 0) (s : Connection) (fid newfid : ℕ) (file : FidFile) → P s → (eqb fid newfid ≡ false → P (with_fid s newfid (closed file))) → P (walk_nowhere s fid newfid file).1
walk_nowhere_leaves P s fid newfid file same made =
    split (eqb fid newfid)
    (λ t. subst (λ (b : Bool). P (cond b s (with_fid s newfid (closed file)))) (sym t) same)
    (λ f. subst (λ (b : Bool). P (cond b s (with_fid s newfid (closed file)))) (sym f) (made f))

walk_leaves : (P : Connection → Type 0) (s : Connection) (fid newfid : ℕ) (names : List (List ℕ)) (found : Option Fid) → P s → ((file : FidFile) → P (walk_nowhere s fid newfid file).1) → P (at_fid s found (walk_from s fid newfid names)).1
walk_leaves P s fid newfid names None same nowhere = same
walk_leaves P s fid newfid names (Some it) same nowhere =
    split (has_names names)
    (λ t. subst (λ (b : Bool). P (let o : Outcome = cond b (walk_names it.file, s) (walk_nowhere s fid newfid it.file) in o.1)) (sym t) same)
    (λ f. subst (λ (b : Bool). P (let o : Outcome = cond b (walk_names it.file, s) (walk_nowhere s fid newfid it.file) in o.1)) (sym f) (nowhere it.file))

open_leaves : (P : Connection → Type 0) (s : Connection) (fid mode : ℕ) (found : Option Fid) → found ≡ fid_at s fid → P s → (HasRoomFor s.fids fid → (f : Fid) → P (with_fid s fid f)) → P (at_fid s found (open_file s fid mode)).1
open_leaves P s fid mode None e same made = same
open_leaves P s fid mode (Some it) e same made =
    let opened : Fid = record { file = it.file; mode = Some (mode_of mode) } in
    made (inl (ap is_some (sym e))) opened

procap_leaves : (P : Connection → Type 0) (s : Connection) (found : Option Procap) (step : Procap → Step) → P s → P (with_procap s found step).1
procap_leaves P s None step same = same
procap_leaves P s (Some p) step same = same

read_leaves : (P : Connection → Type 0) (s : Connection) (offset count : ℕ) (found : Option Fid) → P s → P (at_fid s found (read_file s offset count)).1
read_leaves P s offset count None same = same
read_leaves P s offset count (Some it) same = at it.file
  where
    at : (file : FidFile) → P (read_file s offset count file).1
    at files.Control = same
    at (files.Node node is_directory) = procap_leaves P s (fitting_of s s.caller node perms.Read) (λ p. steps.Read node p offset (read_len s.msize count)) same

control_leaves : (P : Connection → Type 0) (s : Connection) (count fid : ℕ) (asked : Option Control) → None ≡ first_holding (write_tests s asked fid) → P s → ((p : Procap) → length s.purse < 64 → P (record s { purse = s.purse ++ p ∷ [] })) → P (record s { purse = [] }) → P (control_outcome s count asked).1
control_leaves P s count fid None none same more empty = same
control_leaves P s count fid (Some (controls.Login who signature)) none same more empty = same
control_leaves P s count fid (Some (controls.Brings p)) none same more empty =
    more p (leb-false 64 (length s.purse) (none_holds (write_tests s (Some (controls.Brings p)) fid) none).1.1.1.1.0)
control_leaves P s count fid (Some controls.Empties) none same more empty = empty

write_leaves : (P : Connection → Type 0) (s : Connection) (fid offset count : ℕ) (asked : Option Control) (found : Option Fid) → None ≡ first_holding (write_tests s asked fid) → P s → ((p : Procap) → length s.purse < 64 → P (record s { purse = s.purse ++ p ∷ [] })) → P (record s { purse = [] }) → P (at_fid s found (write_file s asked offset count)).1
write_leaves P s fid offset count asked None none same more empty = same
write_leaves P s fid offset count asked (Some it) none same more empty = at it.file
  where
    at : (file : FidFile) → P (write_file s asked offset count file).1
    at files.Control = control_leaves P s count fid asked none same more empty
    at (files.Node node is_directory) = procap_leaves P s (fitting_of s s.caller node perms.Write) (λ p. steps.Write node p offset) same

pub leaves : (P : Connection → Type 0) (s : Connection) (asked : Option Control) (m : RequestView) → P s → Changes P s m → P (decided s asked m).1
unfolding tests_of outcome_of
leaves P s asked (tversion msize version) same changed =
    unless_cases P s (version_tests msize) (version_outcome s msize version) same (λ none. changed (none_holds (version_tests msize) none).0)
leaves P s asked (tattach fid afid uname aname) same changed =
    unless_cases P s (attach_tests s fid afid aname) (attach_outcome s fid aname) same (λ none. changed (attach_room s fid afid aname none) (closed (file_named aname)))
leaves P s asked (tflush oldtag) same changed = unless_cases P s (flush_tests s) (answered answers.Flush s) same (λ none. same)
leaves P s asked (twalk fid newfid names) same changed =
    unless_cases P s (walk_tests s fid newfid names) (at_fid s (fid_at s fid) (walk_from s fid newfid names)) same
    (λ none. walk_leaves P s fid newfid names (fid_at s fid) same
    (λ file. walk_nowhere_leaves P s fid newfid file same (λ apart. changed (walk_room s fid newfid (can_walk s fid newfid names none) (eqb-false fid newfid apart)) (closed file))))
leaves P s asked (topen fid mode) same changed =
    unless_cases P s (open_tests s fid mode) (at_fid s (fid_at s fid) (open_file s fid mode)) same (λ none. open_leaves P s fid mode (fid_at s fid) refl same changed)
leaves P s asked (tread fid offset count) same changed =
    unless_cases P s (read_tests s fid) (at_fid s (fid_at s fid) (read_file s offset count)) same (λ none. read_leaves P s offset count (fid_at s fid) same)
leaves P s asked (twrite fid offset bytes) same changed =
    unless_cases P s (write_tests s asked fid) (at_fid s (fid_at s fid) (write_file s asked offset (length bytes))) same
    (λ none. write_leaves P s fid offset (length bytes) asked (fid_at s fid) none same changed.0 changed.1)
leaves P s asked (tclunk fid) same changed = unless_cases P s (clunk_tests s fid) (answered answers.Clunk (without_fid s fid)) same (λ none. changed)
leaves P s asked (tother kind body) same changed = same

-- ---- limits

with_fids : (s : Connection) (number : ℕ) (f : Fid) → IsWithin s → HasRoomFor s.fids number → IsWithin (with_fid s number f)
with_fids s number f within room = record { procaps = within.procaps; numbers = AreFids-with s.fids number f within.numbers room; least = within.least; most = within.most }

pub within_begun : (nonce : List ℕ) → IsWithin (begun_with nonce)
within_begun nonce = record { procaps = omega arith; numbers = AreFids-none; least = omega arith; most = omega arith }

within_changes : (s : Connection) (m : RequestView) → IsWithin s → Changes IsWithin s m
within_changes s (tversion msize version) within = λ low.
    let least = ltb-false msize 512 low in
    record { procaps = within.procaps; numbers = AreFids-none; least = omega (arith, least); most = omega arith }
within_changes s (tattach fid afid uname aname) within = λ room f. with_fids s fid f within room
within_changes s (tflush oldtag) within = tt
within_changes s (twalk fid newfid names) within = λ room f. with_fids s newfid f within room
within_changes s (topen fid mode) within = λ room f. with_fids s fid f within room
within_changes s (tread fid offset count) within = tt
within_changes s (twrite fid offset bytes) within = (
  λ p room. record { procaps = omega (arith, room, length-append s.purse (p ∷ [])); numbers = within.numbers; least = within.least; most = within.most },
  record { procaps = omega arith; numbers = within.numbers; least = within.least; most = within.most },
)
within_changes s (tclunk fid) within =
    let fewer = length-removed_le fid s.fids in
    record { procaps = within.procaps; numbers = record { rising = rising-removed fid s.fids within.numbers.rising; few = omega (arith, fewer, within.numbers.few) }; least = within.least; most = within.most }
within_changes s (tother kind body) within = tt

pub within_decided : (s : Connection) (asked : Option Control) (m : RequestView) → IsWithin s → IsWithin (decided s asked m).1
within_decided s asked m within = leaves IsWithin s asked m within (within_changes s m within)

within_standing : (s : Connection) (newfid : ℕ) (file : Option FidFile) → IsWithin s → HasRoomFor s.fids newfid → IsWithin (standing_for s newfid file)
within_standing s newfid None within room = within
within_standing s newfid (Some file) within room = with_fids s newfid (closed file) within room

pub within_walked : (s : Connection) (newfid names : ℕ) (found : List FidFile) → IsWithin s → HasRoomFor s.fids newfid → IsWithin (walked s newfid names found)
within_walked s newfid names found within room =
    split (eqb (length found) names)
    (λ t. subst (λ (b : Bool). IsWithin (cond b (standing_for s newfid (last_of found)) s)) (sym t) (within_standing s newfid (last_of found) within room))
    (λ f. subst (λ (b : Bool). IsWithin (cond b (standing_for s newfid (last_of found)) s)) (sym f) within)

-- ---- sizes

size_changes : (s : Connection) (m : RequestView) (size : ℕ) → s.msize ≡ size → ((msize : ℕ) (version : List ℕ) → m ≡ tversion msize version → ⊥) → Changes (λ after. after.msize ≡ size) s m
size_changes s (tversion msize version) size is other = absurd (other msize version refl)
size_changes s (tattach fid afid uname aname) size is other = λ room f. is
size_changes s (tflush oldtag) size is other = tt
size_changes s (twalk fid newfid names) size is other = λ room f. is
size_changes s (topen fid mode) size is other = λ room f. is
size_changes s (tread fid offset count) size is other = tt
size_changes s (twrite fid offset bytes) size is other = (λ p room. is, is)
size_changes s (tclunk fid) size is other = is
size_changes s (tother kind body) size is other = tt

size_stays : (s : Connection) (asked : Option Control) (m : RequestView) → ((msize : ℕ) (version : List ℕ) → m ≡ tversion msize version → ⊥) → (decided s asked m).1.msize ≡ s.msize
size_stays s asked m other = leaves (λ after. after.msize ≡ s.msize) s asked m refl (size_changes s m s.msize refl other)

size_of_version : (s : Connection) (msize : ℕ) (version : List ℕ) (low : Bool) → (unless_refused s (cond low (Some errors.LowSize) None) (version_outcome s msize version)).1.msize ≡ cond low s.msize (min msize 65536)
size_of_version s msize version true = refl
size_of_version s msize version false = refl

pub size_agreed : (s : Connection) (asked : Option Control) (m : RequestView) → (decided s asked m).1.msize ≡ agreed_after s.msize m
unfolding tests_of outcome_of
size_agreed s asked (tversion msize version) = size_of_version s msize version (nat_lt msize 512)
size_agreed s asked (tattach fid afid uname aname) = size_stays s asked (tattach fid afid uname aname) (λ msize version e. cc)
size_agreed s asked (tflush oldtag) = size_stays s asked (tflush oldtag) (λ msize version e. cc)
size_agreed s asked (twalk fid newfid names) = size_stays s asked (twalk fid newfid names) (λ msize version e. cc)
size_agreed s asked (topen fid mode) = size_stays s asked (topen fid mode) (λ msize version e. cc)
size_agreed s asked (tread fid offset count) = size_stays s asked (tread fid offset count) (λ msize version e. cc)
size_agreed s asked (twrite fid offset bytes) = size_stays s asked (twrite fid offset bytes) (λ msize version e. cc)
size_agreed s asked (tclunk fid) = size_stays s asked (tclunk fid) (λ msize version e. cc)
size_agreed s asked (tother kind body) = size_stays s asked (tother kind body) (λ msize version e. cc)

-- ---- other fids

other_changes : (s : Connection) (m : RequestView) (number : ℕ) → (IsOwnFid m number → ⊥) → Changes (λ after. fid_at after number ≡ fid_at s number) s m
other_changes s (tversion msize version) number other = absurd (other tt)
other_changes s (tattach fid afid uname aname) number other = λ room f. fid_in-with_other s.fids fid number f other
other_changes s (tflush oldtag) number other = tt
other_changes s (twalk fid newfid names) number other = λ room f. fid_in-with_other s.fids newfid number f other
other_changes s (topen fid mode) number other = λ room f. fid_in-with_other s.fids fid number f other
other_changes s (tread fid offset count) number other = tt
other_changes s (twrite fid offset bytes) number other = (λ p room. refl, refl)
other_changes s (tclunk fid) number other = lookup-removed_other fid number s.fids other
other_changes s (tother kind body) number other = tt

pub others_stay : (s : Connection) (asked : Option Control) (m : RequestView) (number : ℕ) → (IsOwnFid m number → ⊥) → fid_at (decided s asked m).1 number ≡ fid_at s number
others_stay s asked m number other = leaves (λ after. fid_at after number ≡ fid_at s number) s asked m refl (other_changes s m number other)

-- ---- the fid that a walk makes

-- a walk, and the state before it
abbrev walking : NodeId → Connection → Outcome
walking node after = (steps.Walk node, after)

not_refused : (node : NodeId) (after s : Connection) (error : NineError) → walking node after ≡ refused s error → ⊥
not_refused node after s error e =
    let step : steps.Walk node ≡ steps.Refused error = ap (λ (o : Outcome). o.0) e in
    cc

walk_is_of : (s after : Connection) (fid newfid : ℕ) (names : List (List ℕ)) (node : NodeId) (found : Option Fid) → walking node after ≡ at_fid s found (walk_from s fid newfid names) → after ≡ s
walk_is_of s after fid newfid names node None e = absurd (not_refused node after s errors.NoFid e)
walk_is_of s after fid newfid names node (Some it) e =
    split (has_names names)
    (λ t. ap (λ (o : Outcome). o.1) (e ∙ cond-true (has_names names) (walk_names it.file, s) (walk_nowhere s fid newfid it.file) t))
    (λ f. absurd (not_answered (e ∙ cond-false (has_names names) (walk_names it.file, s) (walk_nowhere s fid newfid it.file) f)))
  where
    not_answered : walking node after ≡ walk_nowhere s fid newfid it.file → ⊥
    not_answered h =
        let step : steps.Walk node ≡ steps.Answered answers.Walk = ap (λ (o : Outcome). o.0) h in
        cc

room_to_walk : (s : Connection) (fid newfid : ℕ) (names : List (List ℕ)) → None ≡ first_holding (walk_tests s fid newfid names) → HasRoomFor s.fids newfid
room_to_walk s fid newfid names none =
    split (eqb fid newfid)
    (λ t. inl (subst (λ (n : ℕ). is_some (fid_at s n) ≡ true) (eqb-true fid newfid t) (not-false (is_some (fid_at s fid)) (none_holds (walk_tests s fid newfid names) none).1.0)))
    (λ f. walk_room s fid newfid (can_walk s fid newfid names none) (eqb-false fid newfid f))

pub walk_has_room : (s after : Connection) (asked : Option Control) (fid newfid : ℕ) (names : List (List ℕ)) (node : NodeId) → walking node after ≡ decided s asked (twalk fid newfid names) → HasRoomFor after.fids newfid
unfolding tests_of outcome_of
walk_has_room s after asked fid newfid names node e = go (first_holding (walk_tests s fid newfid names)) refl e
  where
    go : (o : Option NineError) → o ≡ first_holding (walk_tests s fid newfid names) → walking node after ≡ unless_refused s o (at_fid s (fid_at s fid) (walk_from s fid newfid names)) → HasRoomFor after.fids newfid
    go (Some error) is h = absurd (not_refused node after s error h)
    go None is h =
        let same = walk_is_of s after fid newfid names node (fid_at s fid) h in
        subst (λ (a : Connection). HasRoomFor a.fids newfid) (sym same) (room_to_walk s fid newfid names is)

-- ---- turns come after tests

-- a step that is done in one turn
abbrev pub IsOneTurn : Step → Type 0
IsOneTurn (steps.Refused error) = ⊥
IsOneTurn (steps.Answered answer) = ⊥
IsOneTurn (steps.Login who signature) = Unit {0}
IsOneTurn (steps.Read node p offset len) = Unit {0}
IsOneTurn (steps.Write node p offset) = Unit {0}
IsOneTurn (steps.Walk node) = ⊥

operation_is_turn : (step : Step) → IsOperation step → IsOneTurn step
operation_is_turn (steps.Refused error) is = is
operation_is_turn (steps.Answered answer) is = is
operation_is_turn (steps.Login who signature) is = tt
operation_is_turn (steps.Read node p offset len) is = tt
operation_is_turn (steps.Write node p offset) is = tt
operation_is_turn (steps.Walk node) is = is

turn_passed : (s : Connection) (tests : Tests) (outcome : Outcome) → IsOneTurn (tested s tests outcome).0 → (None ≡ first_holding tests) × IsOneTurn outcome.0
turn_passed s tests outcome is = go (first_holding tests) refl is
  where
    go : (o : Option NineError) → o ≡ first_holding tests → IsOneTurn (unless_refused s o outcome).0 → (None ≡ first_holding tests) × IsOneTurn outcome.0
    go None e turn = (e, turn)
    go (Some error) e turn = absurd turn

no_turn_walk : (s : Connection) (fid newfid : ℕ) (names : List (List ℕ)) (found : Option Fid) → IsOneTurn (at_fid s found (walk_from s fid newfid names)).0 → ⊥
no_turn_walk s fid newfid names None is = is
no_turn_walk s fid newfid names (Some it) is =
    split (has_names names)
    (λ t. no_step it.file (subst (λ (b : Bool). IsOneTurn (let o : Outcome = cond b (walk_names it.file, s) (walk_nowhere s fid newfid it.file) in o.0)) t is))
    (λ f. subst (λ (b : Bool). IsOneTurn (let o : Outcome = cond b (walk_names it.file, s) (walk_nowhere s fid newfid it.file) in o.0)) f is)
  where
    no_step : (file : FidFile) → IsOneTurn (walk_names file) → ⊥
    no_step files.Control turn = turn
    no_step (files.Node node is_directory) turn = turn

no_turn_open : (s : Connection) (fid mode : ℕ) (found : Option Fid) → IsOneTurn (at_fid s found (open_file s fid mode)).0 → ⊥
no_turn_open s fid mode None is = is
no_turn_open s fid mode (Some it) is = is

pub turn_is_open : (s : Connection) (asked : Option Control) (m : RequestView) → IsOneTurn (decided s asked m).0 → IsOpenFor s m
unfolding tests_of outcome_of
turn_is_open s asked (tversion msize version) is = (turn_passed s (version_tests msize) (version_outcome s msize version) is).1
turn_is_open s asked (tattach fid afid uname aname) is = (turn_passed s (attach_tests s fid afid aname) (attach_outcome s fid aname) is).1
turn_is_open s asked (tflush oldtag) is = (turn_passed s (flush_tests s) (answered answers.Flush s) is).1
turn_is_open s asked (twalk fid newfid names) is =
    no_turn_walk s fid newfid names (fid_at s fid) (turn_passed s (walk_tests s fid newfid names) (at_fid s (fid_at s fid) (walk_from s fid newfid names)) is).1
turn_is_open s asked (topen fid mode) is = no_turn_open s fid mode (fid_at s fid) (turn_passed s (open_tests s fid mode) (at_fid s (fid_at s fid) (open_file s fid mode)) is).1
turn_is_open s asked (tread fid offset count) is =
    let none = none_holds (read_tests s fid) (turn_passed s (read_tests s fid) (at_fid s (fid_at s fid) (read_file s offset count)) is).0 in
    (not-false s.is_agreed none.0, not-false (is_readable (fid_at s fid)) none.1.1.0)
turn_is_open s asked (twrite fid offset bytes) is =
    let none = none_holds (write_tests s asked fid) (turn_passed s (write_tests s asked fid) (at_fid s (fid_at s fid) (write_file s asked offset (length bytes))) is).0 in
    (not-false s.is_agreed none.0, not-false (is_writable (fid_at s fid)) none.1.1.0)
turn_is_open s asked (tclunk fid) is = (turn_passed s (clunk_tests s fid) (answered answers.Clunk (without_fid s fid)) is).1
turn_is_open s asked (tother kind body) is = is

line_is_open : (agreed : Bool) (found : Option Fid) → takes_lines agreed found ≡ true → (agreed ≡ true) × (is_writable found ≡ true)
line_is_open agreed found takes =
    let both = and_parts agreed (is_at_control found && is_writable found) takes in
    (both.0, (and_parts (is_at_control found) (is_writable found) both.1).1)

pub memory_after_tests : (s : Connection) (m : RequestView) → MayLackMemory s m → IsOpenFor s m
memory_after_tests s m (for_an_operation asked asks is) = turn_is_open s asked m (operation_is_turn (decided s asked m).0 is)
memory_after_tests s m (for_a_line fid offset bytes same takes begins) = subst (IsOpenFor s) (sym same) (line_is_open s.is_agreed (fid_at s fid) takes)
