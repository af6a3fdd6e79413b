-- What a reply says, by its words (this project's own).
use Rattle.std.specs.Prelude.{◌≡◌, ◌≢◌, ◌<◌, ◌≤◌, ◌^◌, ◌⊎◌, ℕ, List, [], ◌++◌, codes}
use Rattle.std.specs.Fmt.{decimal}
use Rattle.client_replies.specs.declared.reply.Reply.{Reply}
use Rattle.client_replies.specs.declared.reply.Reply.TheVariants as replies

-- after these words a number stands, and nothing else
abbrev pub HasOne : List ℕ → List ℕ → ℕ → Type 0
HasOne words line number = line ≡ words ++ decimal number

-- after these words two numbers stand, with this text between them, and nothing else
abbrev pub HasTwo : List ℕ → List ℕ → List ℕ → ℕ → ℕ → Type 0
HasTwo words between line first second = line ≡ words ++ (decimal first ++ (between ++ decimal second))

-- these bytes are `issue`, a number that is not zero, `time`, and more
pub record HasIssue (done : List ℕ) (number : ℕ) : Type 0 where
  pub time : List ℕ
  pub words : done ≡ codes "issue " ++ (decimal number ++ (codes " time " ++ time))
  pub some : 1 ≤ number

-- no number of 64 bits stands so after these words, no number of a statement, and no two numbers of 64 bits
abbrev pub LacksOne : List ℕ → List ℕ → Type 0
LacksOne words line = (number : ℕ) → number < 2 ^ 64 → HasOne words line number → ⊥

abbrev pub LacksStatement : List ℕ → List ℕ → Type 0
LacksStatement words line = (number : ℕ) → 1 ≤ number → number < 2 ^ 32 → HasOne words line number → ⊥

abbrev pub LacksTwo : List ℕ → List ℕ → List ℕ → Type 0
LacksTwo words between line = (first second : ℕ) → first < 2 ^ 64 → second < 2 ^ 64 → HasTwo words between line first second → ⊥

-- no reply of fixed words
pub record LacksWord (line : List ℕ) : Type 0 where
  pub full : line ≢ codes "full"
  pub stopped : line ≢ codes "stopped"
  pub no_memory : line ≢ codes "nomemory"
  pub too_long : line ≢ codes "bad 3"
  pub bad_line : line ≢ codes "bad 2"

-- nor one of a fault with its place
pub record LacksBad (line : List ℕ) : Type 0 where
  pub text : LacksTwo (codes "bad 4 ") (codes " ") line
  pub form : LacksOne (codes "bad 1 ") line
  pub word : LacksWord line

-- nor one to a statement or a proof
pub record LacksPolicy (line : List ℕ) : Type 0 where
  pub known : LacksStatement (codes "rejected 3 ") line
  pub rejected : LacksOne (codes "rejected ") line
  pub absent : LacksStatement (codes "absent ") line
  pub unproved : LacksTwo (codes "unproved ") (codes " ") line
  pub bad : LacksBad line

-- no form that the server's replies have
pub record LacksForm (line : List ℕ) : Type 0 where
  pub done : line ≢ codes "ok"
  pub done_with : (rest : List ℕ) → line ≢ codes "ok " ++ rest
  pub denied : (rest : List ℕ) → line ≢ codes "denied " ++ rest
  pub refused : LacksTwo (codes "refused ") (codes " at ") line
  pub policy : LacksPolicy line

-- what a value says that a reply was read as: the reply's words; if it has no meaning, this is so
abbrev pub IsReplyUnless : Type 0 → List ℕ → Reply → Type 0
IsReplyUnless unknown line (replies.Done rest) = ((line ≡ codes "ok") × (rest.now ≡ [])) ⊎ (line ≡ codes "ok " ++ rest.now)
IsReplyUnless unknown line (replies.Denied rest) = line ≡ codes "denied " ++ rest.now
IsReplyUnless unknown line (replies.Refused number event) = HasTwo (codes "refused ") (codes " at ") line number event
IsReplyUnless unknown line (replies.Rejected number) = HasOne (codes "rejected ") line number
IsReplyUnless unknown line (replies.Known number) = HasOne (codes "rejected 3 ") line number
IsReplyUnless unknown line (replies.Absent number) = HasOne (codes "absent ") line number
IsReplyUnless unknown line (replies.Unproved fault place) = HasTwo (codes "unproved ") (codes " ") line fault place
IsReplyUnless unknown line (replies.BadText fault place) = HasTwo (codes "bad 4 ") (codes " ") line fault place
IsReplyUnless unknown line (replies.BadForm place) = HasOne (codes "bad 1 ") line place
IsReplyUnless unknown line replies.TooLong = line ≡ codes "bad 3"
IsReplyUnless unknown line replies.BadLine = line ≡ codes "bad 2"
IsReplyUnless unknown line replies.Full = line ≡ codes "full"
IsReplyUnless unknown line replies.Stopped = line ≡ codes "stopped"
IsReplyUnless unknown line replies.NoMemory = line ≡ codes "nomemory"
IsReplyUnless unknown line replies.Unknown = unknown

-- the words of a reply; what has no meaning has no form of a reply
abbrev pub IsReply : List ℕ → Reply → Type 0
IsReply line reply = IsReplyUnless (LacksForm line) line reply
