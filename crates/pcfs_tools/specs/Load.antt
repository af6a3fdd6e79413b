-- A large run: a generated script over a store in memory, and how many replies of each kind it has
-- (this project's own).
use Rattle.std.specs.Prelude.{◌≡◌, ◌+◌, ◌-◌, ℕ, List, [], ◌∷◌, ◌++◌, codes, length, Bool, None, if◌then◌else◌}
use Rattle.std.specs.Fmt.{decimal}
use Rattle.std.specs.Str.{bytes_eq}
use Rattle.line_text.specs.Lines.{lines_of}
use Rattle.line_words.specs.Cutting.{first_cut}
use Rattle.line_wire.specs.declared.reply.LineReply.{LineReply}
use Rattle.line_wire.specs.ReplyText.{output_of}
use Rattle.generated_script.specs.Script.{script_text}
use Rattle.policy_statement.specs.Ring.{keyed}
use Rattle.pcfs_secrets.specs.declared.secrets.Secrets.{Secrets}
use Rattle.pcfs_session.specs.ScriptEnds.{RunsOver}
use Rattle.pcfs_session.specs.ScriptRun.{ScriptState, fresh_start, state_of_standing}

-- the secrets of a large run: the key of the seal is the byte 2, and `admin` alone has a key, the
-- byte 1
abbrev pub load_secrets : Secrets
load_secrets = record { seal_key = 2 ∷ []; ring = record { who = codes "admin"; holds = keyed (1 ∷ []) } ∷ [] }

-- whether this is the first word of the reply
abbrev pub begins_with_word : List ℕ → List ℕ → Bool
begins_with_word word reply = bytes_eq (first_cut reply).word word

-- how many of the replies begin with this word
abbrev pub count_of : List ℕ → List (List ℕ) → ℕ
count_of word [] = 0
count_of word (reply ∷ replies) = if begins_with_word word reply then 1 + count_of word replies else count_of word replies

-- how many begin with another word than these three, no two of which a reply can begin with
abbrev pub others_in : List (List ℕ) → ℕ
others_in replies = length replies - count_of (codes "ok") replies - count_of (codes "denied") replies - count_of (codes "refused") replies

-- a line with these numbers: how many lines there are, how many are done, denied, refused, and
-- others, and the number of the last event
abbrev pub summary_of : ℕ → ℕ → ℕ → ℕ → ℕ → ℕ → List ℕ
summary_of lines done denied refused others events =
    codes "lines " ++ (decimal lines
    ++ (codes " ok " ++ (decimal done
    ++ (codes " denied " ++ (decimal denied
    ++ (codes " refused " ++ (decimal refused
    ++ (codes " other " ++ (decimal others ++ (codes " events " ++ decimal events))))))))))

-- the line of these replies
abbrev pub summary_text : List (List ℕ) → ℕ → List ℕ
summary_text replies events = summary_of (length replies) (count_of (codes "ok") replies)
    (count_of (codes "denied") replies) (count_of (codes "refused") replies) (others_in replies)
    events

-- what is told of a script that was run from a start to its end: the line of all its replies and of
-- the last event
pub record IsRunThrough (start : ScriptState) (script told : List ℕ) : Type 0 where
  pub end : ScriptState
  pub replies : List LineReply
  pub runs : RunsOver start (lines_of script) end replies
  pub running : end.met ≡ None
  pub told_is : told ≡ summary_text (lines_of (output_of replies)) (state_of_standing end).count

-- what is told of a large run: the script of so many rounds and that seed was run to its end, from
-- before the first event
abbrev pub IsLoaded : ℕ → ℕ → List ℕ → Type 0
IsLoaded rounds seed told = IsRunThrough (fresh_start load_secrets) (script_text rounds seed) told
