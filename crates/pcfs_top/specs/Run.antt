-- How a run of the program ends: its status, what it took, what it wrote, and what it leaves on its
-- disks. If a port does not tell its bytes, nothing is said of them (this project's own).
use Rattle.std.specs.Prelude.{◌≡◌, ◌⊎◌, ◌<◌, ◌≤◌, ◌+◌, ℕ, List, [], ◌++◌, String, codes, length, drop, Bool, Option, Some, None, IfSome}
use Rattle.std.specs.Fmt.{decimal}
use Rattle.std.specs.declared.alloc.Global.{Global}
use Rattle.bl_syntax.specs.declared.limits.TheConstants.{MOST_EVENTS}
use Rattle.pcfs_ports.specs.Observable.{with_back, HoldsSome}
use Rattle.journal_core.specs.Area.{IsShut, Closed, area_bytes, area_limit, generation_of}
use Rattle.access_history.specs.Base.{BaseView}
use Rattle.access_history.specs.Replay.{replay}
use Rattle.journal_records.specs.declared.event.Event.{Event}
use Rattle.op_gate.specs.declared.damage.Damage.{Damage}
use Rattle.checkpoint_image.specs.ImageSpelling.{image_spelling}
use Rattle.pcfs_store.specs.Image.{fresh_image}
use Rattle.pcfs_store.specs.StoredHistory.{payloads_of, state_after, StandsFor}
use Rattle.pcfs_store.specs.Formats.{IsNoneOrFresh}
use Rattle.pcfs_store.specs.Newest.{SurvivesWholeClosed, IsNewestAtOrNext, NewestBegins, newer, newest, one_of}
use Rattle.pcfs_store.specs.Ready.{SurvivesCheckpoint}
use Rattle.pcfs_store.specs.Checkpoints.{place_after, SurvivesMet, IsNewestMet, SurvivesMetAt}
use Rattle.pcfs_store.specs.Entries.{StoreEntry, happened as event_mark, checkpointed as checkpoint_mark}
use Rattle.pcfs_store.specs.StoreView.{last_after, image_since}
use Rattle.pcfs_store.specs.declared.format.FormatFault.{FormatFault}
use Rattle.pcfs_store.specs.declared.format.FormatFault.TheVariants as formats
use Rattle.pcfs_store.specs.declared.reply.CheckpointReply.{CheckpointReply}
use Rattle.pcfs_store.specs.declared.reply.CheckpointReply.TheVariants as checkpoints
use Rattle.recover.specs.declared.fault.OpenFault.{OpenFault}
use Rattle.recover.specs.declared.fault.OpenFault.TheVariants as opens
use Rattle.recover.specs.Opening.{IsNewestHistory, IsNewestDamaged, IsNewestClosed}
use Rattle.pcfs_secrets.specs.declared.secrets.Secrets.{Secrets}
use Rattle.pcfs_server.specs.Ends.{FailedLast}
use Rattle.pcfs_session.specs.ScriptContext.{first_asker}
use Rattle.pcfs_session.specs.LineAnswer.{authority_under}
use Rattle.pcfs_session.specs.ScriptEnds.{with_line_end}
use Rattle.pcfs_session.specs.ScriptRun.{ScriptState, IsLawfulStanding, script_pass}
use Rattle.pcfs_audit.specs.Report.{IsReport}
use Rattle.pcfs_audit.specs.ReportText.{report_text}
use Rattle.pcfs_audit.specs.declared.report.Report.{Report}
use Rattle.command_words.specs.Tasks.{AskForNoRun, AsksFor}
use Rattle.command_words.specs.declared.words.Task.TheVariants.{Script, Stored, Init, Checkpoint, Audit, Export, Follow, Check, Load, Modes, RootSign}
use Rattle.export_run.specs.Exported.{TellsExport}
use Rattle.follow_run.specs.DamageNumber.{damage_number}
use Rattle.follow_run.specs.FollowRun.{FollowEnds}
use Rattle.pcfs_tools.specs.Audited.{audit_status}
use Rattle.pcfs_tools.specs.Inquired.{TellsInquiry}
use Rattle.pcfs_tools.specs.LastLine.{Wrote, WroteNothing}
use Rattle.pcfs_tools.specs.Load.{IsLoaded}
use Rattle.pcfs_tools.specs.Memory.{MemoryEnds}
use Rattle.pcfs_tools.specs.ScriptStatus.{ScriptStatus}
use Rattle.pcfs_tools.specs.Signed.{TellsSigning}
use Rattle.pcfs_tools.specs.Stated.{TellsModes}
use Rattle.pcfs_top.specs.Ports.{Disks, Ports, Rests, IfTold, HasDiskFailed, NoDiskFailed, AreBytesKept, AreDisksKept, IsInputKept}

-- the words ask for a script over the store in the areas, for a checkpoint or an audit of it, for
-- an export of its events, or that it takes those of another one
pub data AreOfStore (words : List (String Global)) : Type 0 where
  of_script : AsksFor words Stored → AreOfStore words
  of_checkpoint : AsksFor words Checkpoint → AreOfStore words
  of_audit : (pieces : Option ℕ) → AsksFor words (Audit pieces) → AreOfStore words
  of_export : (from : ℕ) → AsksFor words (Export from) → AreOfStore words
  of_follow : AsksFor words Follow → AreOfStore words

-- the line that reports the damage of a record
abbrev pub damaged_text : ℕ → Damage → List ℕ
damaged_text record_number damage = codes "damaged " ++ (decimal record_number ++ (codes " " ++ decimal (damage_number damage)))

-- neither area is open
abbrev pub HasNoArea : List ℕ → List ℕ → Type 0
HasNoArea x y = IsShut x × IsShut y

-- a store was opened whose area has this generation and begins with this image, and a script, a
-- checkpoint, an audit, an export or a taking of messages begins over it: its history is that of
-- the newest area, and lawful, and the area has so many bytes before its closed gate
pub record IsOpened (secrets : Secrets) (generation : ℕ) (image : List ℕ) (before : Disks) (start : ScriptState) : Type 0 where
  pub secrets_are : start.secrets ≡ secrets
  pub asker_is : start.asker ≡ first_asker script_pass
  pub running : start.met ≡ None
  pub lawful : IsLawfulStanding start
  pub unsettled : start.checkpoints ≡ []
  pub generation_is : start.generation ≡ generation
  pub used_is : start.used ≡ length (area_bytes generation image (payloads_of start.events))
  pub found : IfTold before (IsNewestHistory (authority_under secrets) generation image start.base start.events)

-- the newest area of these two has this generation, and its bytes stand for the history; passes are
-- in no bytes
pub record IsNewestOf (generation : ℕ) (base : BaseView) (events : List Event) (x y : List ℕ) : Type 0 where
  pub bytes : List ℕ
  pub counts : newest x y ≡ Some bytes
  pub stands : StandsFor bytes generation base events

-- of how many events the last checkpoint has the state, that state, and the events since
abbrev pub settled_in : ScriptState → ℕ
settled_in s = last_after 0 s.checkpoints

abbrev pub head_in : ScriptState → BaseView
head_in s = state_after s.base s.events (settled_in s)

abbrev pub records_in : ScriptState → List Event
records_in s = drop (settled_in s) s.events

-- the image with which the area begins: the one that was opened, or that of the last checkpoint
abbrev pub image_in : List ℕ → ScriptState → List ℕ
image_in opened s = image_since opened (head_in s) s.checkpoints

-- What comes back of the disks of a store that was opened, where a script, or messages that were
-- taken, ended. Its generation is that of the opened area, and one more for each checkpoint. Unless
-- an event or a checkpoint met the fault of a disk, no call of a disk failed, the newest area has
-- this generation, and stands for the state at the last checkpoint, or for the opened base if there
-- was none, and the events since; it is on the other disk after each checkpoint; and if the opened
-- one had its closed gate, it has too, and nothing is pending. If one failed, its count rose; and
-- if the opened area had its closed gate, the newest one that comes back stands for the history at
-- the end, or, if an event met the fault, for it with this event; it has that generation, and is on
-- the disk on which the checkpoints put it; or, if a checkpoint met the fault, perhaps the next one,
-- on the other disk. All this is so too if the opened area lacked its closed gate and an event was
-- kept or a checkpoint made before the fault; if neither was and a checkpoint met it, but for the
-- closed gate; and if neither was and an event met it, the newest area has that generation, is on
-- that disk, and begins with the image and the records of the history, and what follows is left
-- open. The area that did not count is as it was, if no checkpoint was made, and none met the
-- fault.
pub record Returns (rests : Rests) (generation : ℕ) (image : List ℕ) (before after : Disks) (start end : ScriptState) : Type 0 where
  pub grown : end.generation ≡ generation + length end.checkpoints
  pub whole : IfTold before (λ x y. end.met ≡ None → IfTold after (IsNewestOf end.generation (head_in end) (records_in end)))
  pub closed : IfTold before (λ x y. IsNewestClosed generation image start.events x y → end.met ≡ None →
      rests.after ×
      IfTold after (IsNewestClosed end.generation (image_in image end) (records_in end)))
  pub place : end.met ≡ None → IfTold before (λ x y. (second : Bool) →
      newer (generation_of x) (generation_of y) ≡ Some second →
      IfTold after (λ u v. newer (generation_of u) (generation_of v)
      ≡ Some (place_after (length end.checkpoints) second)))
  pub none_failed : end.met ≡ None → NoDiskFailed before after
  pub failed : (met : StoreEntry) → end.met ≡ Some met → HasDiskFailed before after
  pub survives : IfTold before (λ x y. IsNewestClosed generation image start.events x y →
      (met : StoreEntry) → end.met ≡ Some met → IfTold after (SurvivesMet end.base end.events met))
  pub newest_at : (met : StoreEntry) → end.met ≡ Some met → IfTold before (λ x y.
      IsNewestClosed generation image start.events x y → (second : Bool) →
      newer (generation_of x) (generation_of y) ≡ Some second →
      IfTold after (IsNewestMet end.generation (place_after (length end.checkpoints) second) met))
  pub mended : (met : StoreEntry) → end.met ≡ Some met →
      (end.events ≡ start.events → end.checkpoints ≡ [] → ⊥) → IfTold before (λ x y.
      (second : Bool) → newer (generation_of x) (generation_of y) ≡ Some second → IfTold after
      (SurvivesMetAt end.base end.events end.generation
      (place_after (length end.checkpoints) second) met))
  pub unclosed : (pass : ℕ) → end.met ≡ Some (checkpoint_mark pass) → IfTold before (λ x y.
      (second : Bool) → newer (generation_of x) (generation_of y) ≡ Some second → IfTold after
      (SurvivesCheckpoint end.base end.events end.generation
      (place_after (length end.checkpoints) second)))
  pub begins : (event : Event) → end.met ≡ Some (event_mark event) → IfTold before (λ x y.
      (second : Bool) → newer (generation_of x) (generation_of y) ≡ Some second → IfTold after
      (NewestBegins end.generation (place_after (length end.checkpoints) second)
      (area_bytes end.generation (image_in image end) (payloads_of (records_in end)))))
  pub other_stays : end.checkpoints ≡ [] → ((pass : ℕ) → end.met ≡ Some (checkpoint_mark pass) → ⊥)
      → IfTold before (λ x y. (second : Bool) → newer (generation_of x) (generation_of y)
      ≡ Some second → one_of after.b after.a second ≡ one_of before.b before.a second)

-- the state of a store that was opened
abbrev pub state_of_start : ScriptState → BaseView
state_of_start start = replay start.base start.events

-- the newest area of these two has that generation, the image of that state, no records, and its
-- closed gate
pub record IsNewestImage (generation : ℕ) (state : BaseView) (x y : List ℕ) : Type 0 where
  pub bytes : List ℕ
  pub counts : newest x y ≡ Some bytes
  pub closed : Closed (area_bytes generation (image_spelling state) []) bytes

-- a checkpoint of the state does not fit into an area with its closed gate, or there is no next
-- generation
abbrev pub HasNoNextArea : ℕ → BaseView → Type 0
HasNoNextArea generation state = (area_limit < length (image_spelling state) + 25) ⊎
    (MOST_EVENTS ≤ generation)

-- the bytes of the disk whose area counted are as they were
abbrev pub NewestStays : Disks → Disks → Type 0
NewestStays before after = IfTold before (λ x y. (second : Bool) →
    newer (generation_of x) (generation_of y) ≡ Some second → one_of after.a after.b second
    ≡ one_of before.a before.b second)

-- What is left where a checkpoint met the fault of a disk: the history, in the area that was opened
-- or in one of the next generation on the other disk; over a closed area it has its closed gate.
pub record IsLeftUnmade (generation : ℕ) (image : List ℕ) (base : BaseView) (events : List Event) (before after : Disks) : Type 0 where
  pub survives : IfTold before (λ x y. IsNewestClosed generation image events x y →
      IfTold after (λ u v. SurvivesWholeClosed base events u v × ((second : Bool) →
      newer (generation_of x) (generation_of y) ≡ Some second →
      IsNewestAtOrNext generation second u v)))
  pub at_rest : IfTold before (λ x y. (second : Bool) →
      newer (generation_of x) (generation_of y) ≡ Some second →
      IfTold after (SurvivesCheckpoint base events generation second))

-- What is left where the making of a store met the fault of a disk: if an area was open, all bytes
-- are as they were; if none was, none is, or the new one. The second disk is as it was.
pub record IsNotLost (before after : Disks) : Type 0 where
  pub b_stays : after.b ≡ before.b
  pub open_stays : IfTold before (λ x y. (HasNoArea x y → ⊥) → AreBytesKept before after)
  pub none_or_new : IfTold before (λ x y. HasNoArea x y → IfTold after IsNoneOrFresh)

-- what a run has to write if it ends with this status without an answer to a line: one line with
-- the cause
pub data HasCause (secrets : Secrets) (words : List (String Global)) (rests : Rests) (before after : Disks) : ℕ → List ℕ → Type 0 where
  usage : AskForNoRun words → after ≡ before →
      HasCause secrets words rests before after 1 (codes "usage")
  made : AsksFor words Init →
      IfTold before (λ x y. HasNoArea x y × (rests.after × IfSome after.a (Closed (area_bytes 1 fresh_image [])))) →
      after.b ≡ before.b → NoDiskFailed before after →
      HasCause secrets words rests before after 0 (codes "ok")
  exists : AsksFor words Init → IfTold before (λ x y. HasNoArea x y → ⊥) →
      AreDisksKept before after → HasCause secrets words rests before after 10 (codes "exists")
  not_made : AsksFor words Init → HasDiskFailed before after →
      (rests.before → IsNotLost before after) →
      HasCause secrets words rests before after 5 (codes "stopped")
  no_store : AreOfStore words → IfTold before HasNoArea → AreDisksKept before after →
      HasCause secrets words rests before after 4 (codes "nostore")
  damaged : (number : ℕ) (damage : Damage) → AreOfStore words →
      IfTold before (IsNewestDamaged (authority_under secrets) number damage) →
      AreDisksKept before after →
      HasCause secrets words rests before after 3 (damaged_text number damage)
  not_opened : AreOfStore words → HasDiskFailed before after →
      (rests.before → AreBytesKept before after) →
      HasCause secrets words rests before after 5 (codes "stopped")
  checkpointed : (generation : ℕ) (image : List ℕ) (start : ScriptState) →
      AsksFor words Checkpoint →
      IsOpened secrets generation image before start →
      (HasNoNextArea generation (state_of_start start) → ⊥) → NewestStays before after →
      NoDiskFailed before after →
      IfTold before (λ x y. rests.after × IfTold after (IsNewestImage (generation + 1) (state_of_start start))) →
      HasCause secrets words rests before after 0 (codes "ok checkpoint")
  full : (generation : ℕ) (image : List ℕ) (start : ScriptState) → AsksFor words Checkpoint →
      IsOpened secrets generation image before start →
      HasNoNextArea generation (state_of_start start) → AreDisksKept before after → rests.after →
      HasCause secrets words rests before after 14 (codes "full")
  not_checkpointed : (generation : ℕ) (image : List ℕ) (start : ScriptState) →
      AsksFor words Checkpoint → IsOpened secrets generation image before start →
      (HasNoNextArea generation (state_of_start start) → ⊥) → HasDiskFailed before after →
      NewestStays before after →
      IsLeftUnmade generation image start.base start.events before after →
      HasCause secrets words rests before after 5 (codes "stopped")
  audited : (pieces : Option ℕ) (generation : ℕ) (image : List ℕ) (start : ScriptState) (report : Report) →
      AsksFor words (Audit pieces) → IsOpened secrets generation image before start →
      IsReport (authority_under secrets) start.base start.events report →
      AreDisksKept before after → rests.after →
      HasCause secrets words rests before after (audit_status report.rows) (report_text report)
  loaded : (rounds seed : ℕ) (told : List ℕ) → AsksFor words (Load rounds seed) →
      IsLoaded rounds seed told → after ≡ before → HasCause secrets words rests before after 0 told

-- what is reported of why no store was opened. `broken` says whether the last call of the output
-- failed
abbrev pub TellsUnopened : OpenFault → Option (List ℕ) → ℕ → ℕ → Option (List ℕ) → ℕ → Bool → Type 0
TellsUnopened opens.NoStore held faults result held_after faults_after broken = Wrote 4 (codes "nostore") held faults result held_after faults_after broken
TellsUnopened (opens.Damaged number damage) held faults result held_after faults_after broken =
    Wrote 3 (damaged_text number damage) held faults result held_after faults_after broken
    ⊎ WroteNothing held faults result held_after faults_after
TellsUnopened opens.Disk held faults result held_after faults_after broken = Wrote 5 (codes "stopped") held faults result held_after faults_after broken
TellsUnopened opens.NoMemory held faults result held_after faults_after broken = WroteNothing held faults result held_after faults_after

-- what is reported of a checkpoint
abbrev pub TellsCheckpoint : CheckpointReply → Option (List ℕ) → ℕ → ℕ → Option (List ℕ) → ℕ →
    Bool →
    Type 0
TellsCheckpoint checkpoints.Checkpointed held faults result held_after faults_after broken =
    Wrote 0 (codes "ok checkpoint") held faults result held_after faults_after broken
TellsCheckpoint checkpoints.Full held faults result held_after faults_after broken = Wrote 14 (codes "full") held faults result held_after faults_after broken
TellsCheckpoint checkpoints.Stopped held faults result held_after faults_after broken =
    Wrote 5 (codes "stopped") held faults result held_after faults_after broken
TellsCheckpoint checkpoints.NoMemory held faults result held_after faults_after broken = WroteNothing held faults result held_after faults_after

-- what is reported of why no store was made
abbrev pub TellsUnmade : FormatFault → Option (List ℕ) → ℕ → ℕ → Option (List ℕ) → ℕ → Bool → Type 0
TellsUnmade formats.AlreadyStore held faults result held_after faults_after broken = Wrote 10 (codes "exists") held faults result held_after faults_after broken
TellsUnmade formats.Disk held faults result held_after faults_after broken = Wrote 5 (codes "stopped") held faults result held_after faults_after broken
TellsUnmade formats.NoMemory held faults result held_after faults_after broken = WroteNothing held faults result held_after faults_after

-- Memory ran out, and nothing changed: the disks are as they were, also if a command over them was
-- asked for; or one was, they were read for it, the bytes are as they were, and no call failed.
pub data IsUndone (words : List (String Global)) (before after : Disks) : Type 0 where
  untouched : after ≡ before → IsUndone words before after
  in_init : AsksFor words Init → AreDisksKept before after → IsUndone words before after
  over_store : AreOfStore words → AreDisksKept before after → IsUndone words before after

-- The status that a run ends with, and its cause. A script in memory ends as its lines say, and
-- leaves the disks alone; its own disks are in memory, and fail only if memory runs out. A script
-- over the areas begins where they stand, with none of its replies buffered at an end by a failed
-- write or for want of memory; and messages are taken by their store. An export writes the messages of the
-- events in the areas, or that they are gone, and leaves the bytes of the disks as they are. An
-- inquiry ends as its lines say, and leaves the disks alone. Any other run writes its line, or the
-- output failed, at its last call, and holds some first part of it; an audit, the lines of its
-- report. Memory may run out before that, and then nothing changes.
-- At an end by a fault of the output one call of it failed, and it was the last, and at each other
-- end none; so it is with an input that is read, and of one that is not read no call failed. Of the
-- disks none failed, but at an end at which `stopped` was to be written last: it was at 5, and may
-- not have been at 7.
pub data EndsWith (secrets : Secrets) (words : List (String Global)) (rests : Rests) (before after : Ports) : ℕ → Type 0 where
  in_memory : (status : ℕ) → AsksFor words Script → after.disks ≡ before.disks →
      MemoryEnds secrets before.streams after.streams after.broken status →
      EndsWith secrets words rests before after status
  stored : (status generation : ℕ) (image : List ℕ) (start end : ScriptState) →
      AsksFor words Stored →
      IsOpened secrets generation image before.disks start →
      Returns rests generation image before.disks after.disks start end →
      ScriptStatus 0 start end before.streams after.streams after.broken status →
      EndsWith secrets words rests before after status
  followed : (status generation : ℕ) (image : List ℕ) (start end : ScriptState) →
      AsksFor words Follow → IsOpened secrets generation image before.disks start →
      Returns rests generation image before.disks after.disks start end →
      FollowEnds start end before.streams after.streams after.broken status →
      EndsWith secrets words rests before after status
  exported : (from status generation : ℕ) (image : List ℕ) (start : ScriptState) →
      AsksFor words (Export from) → IsOpened secrets generation image before.disks start →
      AreDisksKept before.disks after.disks → rests.after →
      IsInputKept before.streams after.streams →
      TellsExport start.base start.events from before.streams.held before.streams.write_faults
      status after.streams.held after.streams.write_faults after.broken.output →
      EndsWith secrets words rests before after status
  told : (status : ℕ) (line : List ℕ) →
      HasCause secrets words rests before.disks after.disks status line →
      IsInputKept before.streams after.streams →
      after.streams.held ≡ with_back before.streams.held (with_line_end line) →
      after.streams.write_faults ≡ before.streams.write_faults →
      EndsWith secrets words rests before after status
  cut_short : (status : ℕ) (line : List ℕ) →
      HasCause secrets words rests before.disks after.disks status line →
      IsInputKept before.streams after.streams →
      FailedLast before.streams.write_faults after.streams.write_faults after.broken.output →
      HoldsSome before.streams.held after.streams.held (with_line_end line) →
      EndsWith secrets words rests before after 7
  inquired : (status : ℕ) → AsksFor words Check → after.disks ≡ before.disks →
      TellsInquiry before.streams after.streams after.broken status →
      EndsWith secrets words rests before after status
  modes_told : (from to status : ℕ) → AsksFor words (Modes from to) → after.disks ≡ before.disks →
      TellsModes from to before.streams after.streams after.broken status →
      EndsWith secrets words rests before after status
  signing_told : (height from status : ℕ) → AsksFor words (RootSign height from) →
      after.disks ≡ before.disks →
      TellsSigning height from before.streams after.streams after.broken status →
      EndsWith secrets words rests before after status
  out_of_memory : IsUndone words before.disks after.disks →
      IsInputKept before.streams after.streams → after.streams.held ≡ before.streams.held →
      after.streams.write_faults ≡ before.streams.write_faults →
      EndsWith secrets words rests before after 9
