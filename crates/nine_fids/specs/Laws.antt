-- What holds of every request (this project's own).
use Rattle.std.specs.Prelude.{◌≡◌, ◌<◌, ℕ, List, [], ◌∷◌, map}
use Rattle.nine_messages.specs.Requests.{RequestView, tversion, tattach, tflush, twalk, topen, tread, twrite, tclunk, tother}
use Rattle.nine_fids.specs.Errors.{Tests, place_of}

-- the numbers rise
abbrev pub DoRise : List ℕ → Type 0
DoRise [] = Unit {0}
DoRise (n ∷ []) = Unit {0}
DoRise (n ∷ (m ∷ others)) = (n < m) × DoRise (m ∷ others)

-- where the errors of tests stand in the one order
abbrev pub places_of : Tests → List ℕ
places_of tests = map (λ test. place_of test.1) tests

-- the fid that a request makes, opens or ends; a Tversion ends all
abbrev pub IsOwnFid : RequestView → ℕ → Type 0
IsOwnFid (tversion msize version) number = Unit {0}
IsOwnFid (tattach fid afid uname aname) number = number ≡ fid
IsOwnFid (tflush oldtag) number = ⊥
IsOwnFid (twalk fid newfid names) number = number ≡ newfid
IsOwnFid (topen fid mode) number = number ≡ fid
IsOwnFid (tread fid offset count) number = ⊥
IsOwnFid (twrite fid offset bytes) number = ⊥
IsOwnFid (tclunk fid) number = number ≡ fid
IsOwnFid (tother kind body) number = ⊥
