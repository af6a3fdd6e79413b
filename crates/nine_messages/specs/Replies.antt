-- The replies of 9P2000 (the Plan 9 manual, section 5) that a server of files without creation
-- gives: their fields, and their one spelling.
use Rattle.std.specs.Prelude.{◌<◌, ◌^◌, ◌+◌, ℕ, List, [], ◌∷◌, ◌++◌, length}
use Rattle.std.specs.List.{AllByRecursion}
use Rattle.std.specs.Int.{w32, w64, to_le_bytes}
use Rattle.nine_messages.specs.Fields.{counted, text, listed}
use Rattle.nine_messages.specs.Requests.{IsText, message}
use Rattle.nine_messages.specs.declared.reply.Qid.{Qid}

pub data ReplyView : Type 0 where
  rversion : (msize : ℕ) (version : List ℕ) → ReplyView
  rattach : (qid : Qid) → ReplyView
  rflush : ReplyView
  rwalk : (qids : List Qid) → ReplyView
  ropen : (qid : Qid) → ReplyView
  rread : (bytes : List ℕ) → ReplyView
  rwrite : (count : ℕ) → ReplyView
  rclunk : ReplyView
  rerror : (ename : List ℕ) → ReplyView

abbrev pub reply_kind : ReplyView → ℕ
reply_kind (rversion msize version) = 101
reply_kind (rattach qid) = 105
reply_kind rflush = 109
reply_kind (rwalk qids) = 111
reply_kind (ropen qid) = 113
reply_kind (rread bytes) = 117
reply_kind (rwrite count) = 119
reply_kind rclunk = 121
reply_kind (rerror ename) = 107

-- which file it is: its type in one byte, its version in four, its path in eight
unfoldable pub qid_spelling : Qid → List ℕ
qid_spelling qid = qid.kind ∷ (to_le_bytes w32 qid.version ++ to_le_bytes w64 qid.path)

-- what stands after size, kind and tag; the iounit of an Ropen is 0
unfoldable pub reply_fields : ReplyView → List ℕ
reply_fields (rversion msize version) = to_le_bytes w32 msize ++ text version
reply_fields (rattach qid) = qid_spelling qid
reply_fields rflush = []
reply_fields (rwalk qids) = listed qid_spelling qids
reply_fields (ropen qid) = qid_spelling qid ++ to_le_bytes w32 0
reply_fields (rread bytes) = counted w32 bytes
reply_fields (rwrite count) = to_le_bytes w32 count
reply_fields rclunk = []
reply_fields (rerror ename) = text ename

abbrev pub IsQid : Qid → Type 0
IsQid qid = (qid.kind < 2 ^ 8) × ((qid.version < 2 ^ 32) × (qid.path < 2 ^ 64))

-- the reply has a spelling: its numbers and counts fit their fields
abbrev pub IsReply : ReplyView → Type 0
IsReply (rversion msize version) = (msize < 2 ^ 32) × IsText version
IsReply (rattach qid) = IsQid qid
IsReply rflush = Unit {0}
IsReply (rwalk qids) = (length qids < 2 ^ 16) × AllByRecursion IsQid qids
IsReply (ropen qid) = IsQid qid
IsReply (rread bytes) = length bytes < 2 ^ 32
IsReply (rwrite count) = count < 2 ^ 32
IsReply rclunk = Unit {0}
IsReply (rerror ename) = IsText ename

-- its counts fit their fields; its numbers always do
abbrev pub IsWritableReply : ReplyView → Type 0
IsWritableReply (rversion msize version) = IsText version
IsWritableReply (rattach qid) = Unit {0}
IsWritableReply rflush = Unit {0}
IsWritableReply (rwalk qids) = length qids < 2 ^ 16
IsWritableReply (ropen qid) = Unit {0}
IsWritableReply (rread bytes) = 11 + length bytes < 2 ^ 32
IsWritableReply (rwrite count) = Unit {0}
IsWritableReply rclunk = Unit {0}
IsWritableReply (rerror ename) = IsText ename

abbrev pub reply_spelling : ℕ → ReplyView → List ℕ
reply_spelling tag reply = message (reply_kind reply) tag (reply_fields reply)

-- the reply to a request with that tag has a spelling
pub record IsTaggedReply (tag : ℕ) (reply : ReplyView) : Type 0 where
  pub tag_fits : tag < 2 ^ 16
  pub reply_fits : IsReply reply
  pub size_fits : 7 + length (reply_fields reply) < 2 ^ 32
