-- The requests of 9P2000 (the Plan 9 manual, section 5): their fields, and their one spelling. A
-- request of a kind that is not in the table is there with whatever bytes it has.
use Rattle.std.specs.Prelude.{◌≡◌, ◌<◌, ◌^◌, ◌+◌, ◌==◌, ◌||◌, ℕ, List, [], ◌∷◌, ◌++◌, length, Bool, false, if◌then◌else◌, Option, Some, None}
use Rattle.std.specs.List.{AllByRecursion}
use Rattle.std.specs.Int.{w16, w32, w64, to_le_bytes}
use Rattle.nine_messages.specs.Fields.{◌>>=◌, number_at, byte_at, counted, counted_at, text, text_at, both_at, listed, listed_at, filled}

pub data RequestView : Type 0 where
  tversion : (msize : ℕ) (version : List ℕ) → RequestView
  tattach : (fid afid : ℕ) (uname aname : List ℕ) → RequestView
  tflush : (oldtag : ℕ) → RequestView
  twalk : (fid newfid : ℕ) (names : List (List ℕ)) → RequestView
  topen : (fid mode : ℕ) → RequestView
  tread : (fid offset count : ℕ) → RequestView
  twrite : (fid offset : ℕ) (bytes : List ℕ) → RequestView
  tclunk : (fid : ℕ) → RequestView
  tother : (kind : ℕ) (body : List ℕ) → RequestView

abbrev pub request_kind : RequestView → ℕ
request_kind (tversion msize version) = 100
request_kind (tattach fid afid uname aname) = 104
request_kind (tflush oldtag) = 108
request_kind (twalk fid newfid names) = 110
request_kind (topen fid mode) = 112
request_kind (tread fid offset count) = 116
request_kind (twrite fid offset bytes) = 118
request_kind (tclunk fid) = 120
request_kind (tother kind body) = kind

-- what stands after size, kind and tag
unfoldable pub request_fields : RequestView → List ℕ
request_fields (tversion msize version) = to_le_bytes w32 msize ++ text version
request_fields (tattach fid afid uname aname) = to_le_bytes w32 fid ++ (to_le_bytes w32 afid ++ (text uname ++ text aname))
request_fields (tflush oldtag) = to_le_bytes w16 oldtag
request_fields (twalk fid newfid names) = to_le_bytes w32 fid ++ (to_le_bytes w32 newfid ++ listed text names)
request_fields (topen fid mode) = to_le_bytes w32 fid ++ mode ∷ []
request_fields (tread fid offset count) = to_le_bytes w32 fid ++ (to_le_bytes w64 offset ++ to_le_bytes w32 count)
request_fields (twrite fid offset bytes) = to_le_bytes w32 fid ++ (to_le_bytes w64 offset ++ counted w32 bytes)
request_fields (tclunk fid) = to_le_bytes w32 fid
request_fields (tother kind body) = body

-- the kinds of the table
abbrev pub is_table_kind : ℕ → Bool
is_table_kind kind = kind == 100 || kind == 104 || kind == 108 || kind == 110 || kind == 112 || kind == 116 || kind == 118 || kind == 120

-- few enough bytes for a count of two bytes, or of four
abbrev pub IsText : List ℕ → Type 0
IsText bytes = length bytes < 2 ^ 16

abbrev pub AreTexts : List (List ℕ) → Type 0
AreTexts names = (length names < 2 ^ 16) × AllByRecursion IsText names

-- the request has a spelling: its numbers and counts fit their fields
abbrev pub IsRequest : RequestView → Type 0
IsRequest (tversion msize version) = (msize < 2 ^ 32) × IsText version
IsRequest (tattach fid afid uname aname) = (fid < 2 ^ 32) ×
    ((afid < 2 ^ 32) × (IsText uname × IsText aname))
IsRequest (tflush oldtag) = oldtag < 2 ^ 16
IsRequest (twalk fid newfid names) = (fid < 2 ^ 32) × ((newfid < 2 ^ 32) × AreTexts names)
IsRequest (topen fid mode) = (fid < 2 ^ 32) × (mode < 2 ^ 8)
IsRequest (tread fid offset count) = (fid < 2 ^ 32) × ((offset < 2 ^ 64) × (count < 2 ^ 32))
IsRequest (twrite fid offset bytes) = (fid < 2 ^ 32) × ((offset < 2 ^ 64) × (length bytes < 2 ^ 32))
IsRequest (tclunk fid) = fid < 2 ^ 32
IsRequest (tother kind body) = (is_table_kind kind ≡ false) × (kind < 2 ^ 8)

-- a request and its tag
pub record MessageView : Type 0 where
  pub tag : ℕ
  pub request : RequestView

abbrev pub tagged : ℕ → RequestView → MessageView
tagged tag request = record { tag = tag; request = request }

-- a message: its size, which counts itself, its kind, its tag and its fields
abbrev pub message : ℕ → ℕ → List ℕ → List ℕ
message kind tag fields = to_le_bytes w32 (7 + length fields) ++ kind ∷ (to_le_bytes w16 tag ++ fields)

abbrev pub spelling : MessageView → List ℕ
spelling m = message (request_kind m.request) m.tag (request_fields m.request)

-- the message has a spelling
pub record IsMessage (m : MessageView) : Type 0 where
  pub tag_fits : m.tag < 2 ^ 16
  pub request_fits : IsRequest m.request
  pub size_fits : 7 + length (request_fields m.request) < 2 ^ 32

-- the request of a kind whose fields fill the bytes
unfoldable pub request_of : ℕ → List ℕ → Option RequestView
request_of kind fields =
    if kind == 100 then filled (λ t. tversion t.0 t.1) (both_at (number_at w32) text_at fields) else
    if kind == 104 then
    filled (λ t. tattach t.0 t.1.0 t.1.1.0 t.1.1.1) (both_at (number_at w32) (both_at (number_at w32) (both_at text_at text_at)) fields) else
    if kind == 108 then filled (λ t. tflush t) (number_at w16 fields) else
    if kind == 110 then filled (λ t. twalk t.0 t.1.0 t.1.1) (both_at (number_at w32) (both_at (number_at w32) (listed_at text_at)) fields) else
    if kind == 112 then filled (λ t. topen t.0 t.1) (both_at (number_at w32) byte_at fields) else
    if kind == 116 then filled (λ t. tread t.0 t.1.0 t.1.1) (both_at (number_at w32) (both_at (number_at w64) (number_at w32)) fields) else
    if kind == 118 then filled (λ t. twrite t.0 t.1.0 t.1.1) (both_at (number_at w32) (both_at (number_at w64) (counted_at w32)) fields) else
    if kind == 120 then filled (λ t. tclunk t) (number_at w32 fields) else
    Some (tother kind fields)

-- what stands after the size of a message
unfoldable pub tagged_at : List ℕ → Option MessageView
tagged_at bytes = do
  kind ← byte_at bytes
  tag ← number_at w16 kind.1
  request ← request_of kind.0 tag.1
  Some (tagged tag.0 request)

-- the message that fills the bytes
unfoldable pub message_of : List ℕ → Option MessageView
message_of bytes = do
  size ← number_at w32 bytes
  if size.0 == length bytes then tagged_at size.1 else None
