-- What a request comes to, by the tests that it meets.
use Rattle.std.proofs.Common.{◌≡◌, ◌⊎◌, ℕ, Bool, true, false, not, eqb, List, [], ◌∷◌, length, Option, Some, None, IsSome, Result, Ok, Err, OnErr, refl, sym, ap, ◌∙◌, subst, inl, inr}
use Rattle.std.proofs.lemmas.Bool.{cond-true, cond-false, leb-false, eqb-true, and_cases, not-false, false≢true}
use Rattle.std.proofs.lemmas.Option.{none-some}
use Rattle.file_world.proofs.RowLemmas.{split}
use Rattle.procap.specs.declared.procap.Procap.{Procap}
use Rattle.nine_messages.specs.Requests.{tread, twrite}
use Rattle.nine_fids.specs.declared.control.Control.{Control}
use Rattle.nine_fids.specs.declared.control.Control.TheVariants as controls
use Rattle.nine_fids.specs.declared.error.NineError.{NineError}
use Rattle.nine_fids.specs.declared.error.NineError.TheVariants as errors
use Rattle.nine_fids.specs.declared.fid.Fid.{Fid}
use Rattle.nine_fids.specs.declared.fid.FidFile.{FidFile}
use Rattle.nine_fids.specs.declared.step.Step.{Step}
use Rattle.nine_fids.specs.declared.step.Step.TheVariants as steps
use Rattle.nine_fids.specs.declared.connection.Connection.{Connection}
use Rattle.nine_fids.specs.Control.{BeginsToBring, IsAskedOf, line_in}
use Rattle.nine_fids.specs.Errors.{Tests, first_holding}
use Rattle.nine_fids.specs.Fids.{HasRoomFor}
use Rattle.nine_fids.specs.Memory.{IsOperation, MayLackMemory, for_an_operation, for_a_line}
use Rattle.nine_fids.specs.States.{fid_at, is_full}
use Rattle.nine_fids.specs.Steps.{Outcome, unless_refused, tested, at_fid, with_procap, read_file, write_file, outcome_of}
use Rattle.nine_fids.specs.Taking.{IsTaken, IsWritten, CanWalk, HasRoomInPurse, IsCopied}
use Rattle.nine_fids.specs.Tests.{IsAskedIf, IsAskedAt, takes_lines, brings_procap, attach_tests, walk_tests, read_tests, write_tests, tests_of}

-- none of the tests holds
abbrev pub NoneHolds : Tests → Type 0
NoneHolds [] = Unit {0}
NoneHolds (test ∷ tests) = (test.0 ≡ false) × NoneHolds tests

pub none_holds : (tests : Tests) → None ≡ first_holding tests → NoneHolds tests
none_holds [] e = tt
none_holds (test ∷ tests) e =
    split test.0
    (λ t. absurd (none-some _ (e ∙ cond-true test.0 _ _ t)))
    (λ f. (f, none_holds tests (e ∙ cond-false test.0 _ _ f)))

-- a test holds
pub tested_refused : (s : Connection) (tests : Tests) (outcome : Outcome) (error : NineError) → Some error ≡ first_holding tests → (steps.Refused error, s) ≡ tested s tests outcome
tested_refused s tests outcome error e = ap (λ (o : Option NineError). unless_refused s o outcome) e

-- no test holds
pub tested_passed : (s : Connection) (tests : Tests) (is outcome : Outcome) → None ≡ first_holding tests → is ≡ outcome → is ≡ tested s tests outcome
tested_passed s tests is outcome e same = same ∙ ap (λ (o : Option NineError). unless_refused s o outcome) e

room_unless_full : (s : Connection) (number : ℕ) → is_full s ≡ false → HasRoomFor s.fids number
room_unless_full s number e = inr (leb-false 1024 (length s.fids) e)

pub attach_room : (s : Connection) (fid afid : ℕ) (aname : List ℕ) → None ≡ first_holding (attach_tests s fid afid aname) → HasRoomFor s.fids fid
attach_room s fid afid aname e = let none = none_holds (attach_tests s fid afid aname) e in room_unless_full s fid none.1.1.1.0

-- ---- what a fid stands for

pub at_no_fid : (s : Connection) (found : Option Fid) (outcome : FidFile → Outcome) → None ≡ found → (steps.Refused errors.NoFid, s) ≡ at_fid s found outcome
at_no_fid s found outcome e = ap (λ (o : Option Fid). at_fid s o outcome) e

pub at_some_fid : (s : Connection) (found : Option Fid) (outcome : FidFile → Outcome) (it : Fid) (is : Outcome) → Some it ≡ found → is ≡ outcome it.file → is ≡ at_fid s found outcome
at_some_fid s found outcome it is e same = same ∙ ap (λ (o : Option Fid). at_fid s o outcome) e

pub walk_room : (s : Connection) (fid newfid : ℕ) → CanWalk s fid newfid → (fid ≡ newfid → ⊥) → HasRoomFor s.fids newfid
walk_room s fid newfid can apart = by (and_cases (not (eqb fid newfid)) (is_full s) can)
  where
    by : (not (eqb fid newfid) ≡ false) ⊎ (is_full s ≡ false) → HasRoomFor s.fids newfid
    by (inl same) = absurd (apart (eqb-true fid newfid (not-false (eqb fid newfid) same)))
    by (inr room) = room_unless_full s newfid room

pub can_walk : (s : Connection) (fid newfid : ℕ) (names : List (List ℕ)) → None ≡ first_holding (walk_tests s fid newfid names) → CanWalk s fid newfid
can_walk s fid newfid names e = (none_holds (walk_tests s fid newfid names) e).1.1.1.0

pub can_bring : (s : Connection) (asked : Option Control) (fid : ℕ) → None ≡ first_holding (write_tests s asked fid) → HasRoomInPurse s asked
can_bring s asked fid e = (none_holds (write_tests s asked fid) e).1.1.1.1.0

-- ---- writes

pub written_refused : (s : Connection) (fid offset : ℕ) (bytes : List ℕ) (found : Option Fid) (asked : Option Control) (error : NineError) → found ≡ fid_at s fid → IsAskedAt s.is_agreed found bytes asked → Some error ≡ first_holding (write_tests s asked fid)
    → IsWritten s fid offset bytes s (steps.Refused error)
written_refused s fid offset bytes found asked error is asks e = record {
  asked = asked;
  asks = subst (λ (f : Option Fid). IsAskedAt s.is_agreed f bytes asked) is asks;
  is = tested_refused s (write_tests s asked fid) (at_fid s (fid_at s fid) (write_file s asked offset (length bytes))) error e;
}

pub written_passed : (s after : Connection) (fid offset count : ℕ) (bytes : List ℕ) (found : Option Fid) (asked : Option Control) (step : Step) → found ≡ fid_at s fid → IsAskedAt s.is_agreed found bytes asked → None ≡ first_holding (write_tests s asked fid)
    → count ≡ length bytes → (step, after) ≡ at_fid s (fid_at s fid) (write_file s asked offset count) → IsWritten s fid offset bytes after step
written_passed s after fid offset count bytes found asked step is asks e counts same = record {
  asked = asked;
  asks = subst (λ (f : Option Fid). IsAskedAt s.is_agreed f bytes asked) is asks;
  is = tested_passed s (write_tests s asked fid) (step, after) (at_fid s (fid_at s fid) (write_file s asked offset (length bytes))) e
      (same ∙ ap (λ (n : ℕ). at_fid s (fid_at s fid) (write_file s asked offset n)) counts);
}

-- ---- requests

pub taken_write : (s : Connection) (fid offset : ℕ) (bytes : List ℕ) (after : Connection) (step : Step) → IsWritten s fid offset bytes after step → IsTaken s (twrite fid offset bytes) step after
unfolding tests_of outcome_of
taken_write s fid offset bytes after step h = record { asked = h.asked; asks = h.asks; is = h.is }

-- ---- where memory may run out

-- a turn under a procap that fits
pub procap_operation : (s : Connection) (found : Option Procap) (step : Procap → Step) → ((p : Procap) → IsOperation (step p)) → IsSome found → IsOperation (with_procap s found step).0
procap_operation s None step is some = absurd (false≢true some)
procap_operation s (Some p) step is some = is p

pub at_some_operation : (s : Connection) (found : Option Fid) (outcome : FidFile → Outcome) (it : Fid) → Some it ≡ found → IsOperation (outcome it.file).0 → IsOperation (at_fid s found outcome).0
at_some_operation s found outcome it e is = subst (λ (o : Option Fid). IsOperation (at_fid s o outcome).0) e is

pub at_some_copied : (s : Connection) (asked : Option Control) (found : Option Fid) (outcome : FidFile → Outcome) (it : Fid) → Some it ≡ found → IsCopied asked (outcome it.file).0 → IsCopied asked (at_fid s found outcome).0
at_some_copied s asked found outcome it e is = subst (λ (o : Option Fid). IsCopied asked (at_fid s o outcome).0) e is

-- if no test holds
pub passed_operation : (s : Connection) (tests : Tests) (outcome : Outcome) → None ≡ first_holding tests → IsOperation outcome.0 → IsOperation (tested s tests outcome).0
passed_operation s tests outcome e is = subst (λ (o : Option NineError). IsOperation (unless_refused s o outcome).0) e is

-- a procap is brought by a line of the control file
line_of_procap : (bytes : List ℕ) (asked : Option Control) → IsAskedOf bytes asked → brings_procap asked ≡ true → BeginsToBring (line_in bytes)
line_of_procap bytes None asks brings = absurd (false≢true brings)
line_of_procap bytes (Some (controls.Login who signature)) asks brings = absurd (false≢true brings)
line_of_procap bytes (Some (controls.Brings p)) asks brings = inr (asks.0, asks.1)
line_of_procap bytes (Some controls.Empties) asks brings = absurd (false≢true brings)

pub brings_line : (agreed : Bool) (found : Option Fid) (bytes : List ℕ) (asked : Option Control) → IsAskedAt agreed found bytes asked → brings_procap asked ≡ true → (takes_lines agreed found ≡ true) × BeginsToBring (line_in bytes)
brings_line agreed found bytes asked asks brings =
    split (takes_lines agreed found)
    (λ t. (t, line_of_procap bytes asked (subst (λ (b : Bool). IsAskedIf b bytes asked) t asks) brings))
    (λ f. absurd (false≢true (sym (ap brings_procap (subst (λ (b : Bool). IsAskedIf b bytes asked) f asks)) ∙ brings)))

pub lacks_for_line : (s : Connection) (fid offset : ℕ) (bytes : List ℕ) (found : Option Fid) → found ≡ fid_at s fid → (takes_lines s.is_agreed found ≡ true) × BeginsToBring (line_in bytes) → MayLackMemory s (twrite fid offset bytes)
lacks_for_line s fid offset bytes found is h = for_a_line fid offset bytes refl (subst (λ (f : Option Fid). takes_lines s.is_agreed f ≡ true) is h.0) h.1

pub lacks_for_write : (s : Connection) (fid offset count : ℕ) (bytes : List ℕ) (found : Option Fid) (asked : Option Control) → found ≡ fid_at s fid → IsAskedAt s.is_agreed found bytes asked → None ≡ first_holding (write_tests s asked fid) → count ≡ length bytes
    → IsCopied asked (at_fid s (fid_at s fid) (write_file s asked offset count)).0 → MayLackMemory s (twrite fid offset bytes)
unfolding tests_of outcome_of
lacks_for_write s fid offset count bytes found asked is asks e counts (inl brings) = lacks_for_line s fid offset bytes found is (brings_line s.is_agreed found bytes asked asks brings)
lacks_for_write s fid offset count bytes found asked is asks e counts (inr operation) =
    for_an_operation asked (subst (λ (f : Option Fid). IsAskedAt s.is_agreed f bytes asked) is asks)
    (passed_operation s (write_tests s asked fid) (at_fid s (fid_at s fid) (write_file s asked offset (length bytes))) e
    (subst (λ (n : ℕ). IsOperation (at_fid s (fid_at s fid) (write_file s asked offset n)).0) counts operation))

pub lacks_for_read : (s : Connection) (fid offset count : ℕ) → IsOperation (tested s (read_tests s fid) (at_fid s (fid_at s fid) (read_file s offset count))).0 → MayLackMemory s (tread fid offset count)
unfolding tests_of outcome_of
lacks_for_read s fid offset count is = for_an_operation None refl is

-- whatever a call returned
pub on_err_always : {T E P : Type 0} (r : Result T E) → P → OnErr r P
on_err_always (Ok x) p = tt
on_err_always (Err y) p = p
