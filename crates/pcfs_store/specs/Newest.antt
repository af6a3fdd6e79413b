-- Which of two areas counts, and what its bytes have to say. This project's own.
use Rattle.std.specs.Prelude.{◌≡◌, ◌⊎◌, ◌+◌, ℕ, List, Option, Some, None, Bool, true, false, nat_lt, not, length, ◌<◌}
use Rattle.std.specs.Option.{option_map}
use Rattle.journal_core.specs.Area.{area_bytes, generation_of, Begins}
use Rattle.journal_records.specs.declared.event.Event.{Event}
use Rattle.access_history.specs.Base.{BaseView}
use Rattle.pcfs_store.specs.StoredHistory.{payloads_of, StandsFor, Resumes}

-- Whether the second of two areas counts, by their generations: the open one with the greater
-- generation, the first if they are equal; none if neither is open.
abbrev pub newer : Option ℕ → Option ℕ → Option Bool
newer None None = None
newer None (Some second) = Some true
newer (Some first) None = Some false
newer (Some first) (Some second) = Some (nat_lt first second)

-- one of two, by whether it is the second
abbrev pub one_of : {A : Type 0} → A → A → Bool → A
one_of first second false = first
one_of first second true = second

-- the bytes of the area that counts
abbrev pub newest : List ℕ → List ℕ → Option (List ℕ)
newest first second = option_map (one_of first second) (newer (generation_of first) (generation_of second))

-- The newest area of these two disks' bytes is on the second of them, or on the first, and has this
-- generation.
pub record IsNewestAt (generation : ℕ) (second : Bool) (x y : List ℕ) : Type 0 where
  pub place_is : newer (generation_of x) (generation_of y) ≡ Some second
  pub generation_is : generation_of (one_of x y second) ≡ Some generation

-- it is there; or on the other one, and has the next generation
abbrev pub IsNewestAtOrNext : ℕ → Bool → List ℕ → List ℕ → Type 0
IsNewestAtOrNext generation second x y = IsNewestAt generation second x y ⊎
    IsNewestAt (generation + 1) (not second) x y

-- The newest area of these two disks' bytes is there, has this generation, and begins with this
-- body; what follows is left open.
pub record NewestBegins (generation : ℕ) (second : Bool) (body x y : List ℕ) : Type 0 where
  pub newest_at : IsNewestAt generation second x y
  pub begins : Begins body (one_of x y second)

-- The newest area of these two disks' bytes stands for a history that resumes the first `kept` of
-- the events.
pub record Survives (base : BaseView) (events : List Event) (kept : ℕ) (first second : List ℕ) : Type 0 where
  pub bytes : List ℕ
  pub counts : newest first second ≡ Some bytes
  pub generation : ℕ
  pub found_base : BaseView
  pub found : List Event
  pub stands : StandsFor bytes generation found_base found
  pub resumes : Resumes found_base found base events kept

-- The same, and a closed gate follows the area, so that what is opened is ready for the next
-- record.
pub record SurvivesClosed (base : BaseView) (events : List Event) (kept : ℕ) (first second : List ℕ) : Type 0 where
  pub survives : Survives base events kept first second
  pub gate : length (area_bytes survives.generation survives.stands.image (payloads_of survives.found)) < length survives.bytes

-- the whole history survives
abbrev pub SurvivesWhole : BaseView → List Event → List ℕ → List ℕ → Type 0
SurvivesWhole base events first second = Survives base events (length events) first second

-- the same, in an area with its closed gate
abbrev pub SurvivesWholeClosed : BaseView → List Event → List ℕ → List ℕ → Type 0
SurvivesWholeClosed base events first second = SurvivesClosed base events (length events) first second
