-- How a run ends that gives connections sessions over the store in the areas. If a port does not
-- tell what it has, nothing is said of that (this project's own).
use Rattle.std.specs.Prelude.{◌≡◌, ◌⊎◌, ℕ, ◌+◌, List, [], ◌∷◌, ◌++◌, String, codes, length, drop, map, Bool, Option, Some, None}
use Rattle.std.specs.Fmt.{decimal}
use Rattle.std.specs.declared.alloc.Global.{Global}
use Rattle.pcfs_ports.specs.Faults.{HasRisen, raise}
use Rattle.pcfs_ports.specs.Observable.{with_back, HoldsSome}
use Rattle.journal_core.specs.Area.{area_bytes, generation_of}
use Rattle.access_history.specs.Headline.{Headline}
use Rattle.access_history.specs.Lawful.{IsLawful}
use Rattle.access_history.specs.Base.{BaseView}
use Rattle.access_history.specs.Replay.{replay}
use Rattle.journal_records.specs.declared.event.Event.{Event}
use Rattle.op_gate.specs.declared.damage.Damage.{Damage}
use Rattle.pcfs_secrets.specs.declared.secrets.Secrets.{Secrets}
use Rattle.pcfs_server.specs.declared.end.ServeEnd.{ServeEnd}
use Rattle.pcfs_server.specs.declared.end.ServeEnd.TheVariants as serve_ends
use Rattle.pcfs_server.specs.Ends.{number_of, HasTaken, HasCause, IsNetFault, StandsStill, FailedLast}
use Rattle.pcfs_session.specs.LineAnswer.{authority_under}
use Rattle.pcfs_session.specs.ScriptEnds.{with_line_end}
use Rattle.pcfs_store.specs.declared.checkpoints.Checkpoint.{Checkpoint}
use Rattle.pcfs_store.specs.Entries.{Root, StoreEntry, happened, stop_entries, merged, checkpoints_among, events_among}
use Rattle.pcfs_store.specs.Checkpoints.{place_after}
use Rattle.pcfs_store.specs.StoredHistory.{payloads_of, state_after}
use Rattle.pcfs_store.specs.StoreView.{AreInOrder, image_since, last_after}
use Rattle.pcfs_store.specs.Newest.{newer, one_of, NewestBegins}
use Rattle.pcfs_store.specs.Ready.{SurvivesStop, IsNewestStop, SurvivesStopAt, SurvivesCheckpoint}
use Rattle.recover.specs.Opening.{IsNewestHistory, IsNewestDamaged, IsNewestClosed}
use Rattle.pcfs_tools.specs.LastLine.{Wrote, WroteNothing}
use Rattle.pcfs_top.specs.Ports.{Disks, Ports, Rests, IfTold, HasDiskFailed, NoDiskFailed, AreBytesKept, AreDisksKept, IsInputKept}
use Rattle.pcfs_top.specs.Run.{IsNewestOf, HasNoArea, EndsWith, damaged_text}
use Rattle.pcfs_run.specs.Passes.{PassEntries, AreOfPasses, stop_among}
use Rattle.pcfs_run.specs.ServeWords.{IsServe, IsServe9}

-- what a listener and nonces tell at one moment: how many connections are still to come, if that is
-- told; whether none comes any more; and how many faults the listener has had, and the nonces
pub record Net : Type 1 where
  pub waiting : Option ℕ
  pub over : Type 0
  pub faults : ℕ
  pub nonce_faults : ℕ

-- what this listener and these nonces tell, by what each tells of itself
abbrev pub net_of : {L N : Type 0} → (L → Option ℕ) → (L → Type 0) → (L → ℕ) → (N → ℕ) → L → N → Net
net_of waiting over faults nonce_faults listener nonces = record {
  waiting = waiting listener;
  over = over listener;
  faults = faults listener;
  nonce_faults = nonce_faults nonces;
}

-- what all ports of a run tell at one moment
pub record ServePorts : Type 1 where
  pub ports : Ports
  pub net : Net

-- they tell what they did before
pub record IsNetKept (before after : Net) : Type 0 where
  pub waiting_stays : after.waiting ≡ before.waiting
  pub faults_stay : after.faults ≡ before.faults
  pub nonce_faults_stay : after.nonce_faults ≡ before.nonce_faults

-- The serving of connections ended so: the listener gave as many as were attended; it is done only
-- if these are `count` or no more come; and it failed only if the count of faults of the listener
-- rose, or that of the nonces: one call failed, of one of the two. At each other end none failed.
pub record AreAttended (count : ℕ) (before after : Net) (end : ServeEnd) : Type 0 where
  pub taken : HasTaken end before.waiting after.waiting
  pub cause : HasCause end count after.over after.waiting
  pub risen : IsNetFault end → HasRisen before.faults after.faults ⊎
      HasRisen before.nonce_faults after.nonce_faults
  pub one_failed : IsNetFault end →
      ((after.faults ≡ raise before.faults) × (after.nonce_faults ≡ before.nonce_faults)) ⊎
      ((after.nonce_faults ≡ raise before.nonce_faults) × (after.faults ≡ before.faults))
  pub faults_stay : StandsStill end before.faults after.faults
  pub nonce_faults_stay : StandsStill end before.nonce_faults after.nonce_faults

-- what a store was opened with under the secrets: an area of this generation, which begins with
-- this image of this base
abbrev pub root_under : Secrets → ℕ → List ℕ → BaseView → Root
root_under secrets generation image base = record {
  base = base;
  key = secrets.seal_key;
  ring =
      secrets.ring;
  generation = generation;
  image_length = length image;
}

-- The store on the disks was opened, and connections had sessions over it, or spoke 9P2000 with it.
-- The history that was found is that of the newest area, from its image. Its events at the end are
-- those, and then the ones that the passes of the connections added, and the checkpoints are those
-- that these passes made, each after its number of events: each of them was added in a turn of a
-- line of its pass's session, or of a message of its connection; the events are lawful, so the
-- headline holds of them. Unless a disk failed in a turn, no call of a disk failed, the newest area
-- has the generation of the opened one, and one more for each checkpoint, and stands for the state
-- at the last of these, or for the opened base if there is none, and the events since; it is on the
-- other disk after each of them; and if the opened one had its closed gate, it has too, and nothing
-- is pending. If one failed in a turn of some pass, its count rose; and if the opened area had its
-- closed gate, the newest one stands for these events, or, in a step, for them with the event that
-- the step was keeping, which may follow them: this is in the mark, which is one of the entries of
-- the pass, so that a line of its session, or a message, asks for it. This newest one has the
-- generation and the place that follow from the checkpoints; or, if the turn was to make one more,
-- perhaps those that follow with it. All this is so too if the opened area lacked its closed gate
-- and an event was kept or a checkpoint made before; and if neither was, and the turn was to make a
-- checkpoint, but for the closed gate; and if neither was, and the turn was a step, the newest area
-- has that generation and place, and begins with the image and the records of these events, and
-- what follows is left open. The area that did not count is as it was, if no checkpoint was made;
-- only if one was tried, its disk may have failed, and then the mark has no event.
pub record IsServed (is_of : PassEntries) (secrets : Secrets) (rests : Rests) (before after : Disks) (attended count : ℕ) (stop : Option ℕ) : Type 0 where
  pub generation : ℕ
  pub image : List ℕ
  pub base : BaseView
  pub opened : List Event
  pub added : List StoreEntry
  pub events : List Event
  pub found : IfTold before (IsNewestHistory (authority_under secrets) generation image base opened)
  pub of_passes : AreOfPasses is_of (root_under secrets generation image base) (map happened opened) attended count added
  pub checkpoints : List Checkpoint
  pub counted : checkpoints_among added ≡ length checkpoints
  pub in_order : AreInOrder 0 (length events) checkpoints
  pub met : Option Event
  pub entries_are : merged 0 events checkpoints ++ stop_entries stop met ≡ map happened opened ++ added
  pub stop_is : stop_among added ≡ stop
  pub events_are : events ≡ opened ++ events_among added
  pub lawful : IsLawful (authority_under secrets) base events
  pub headline : Headline (authority_under secrets) base events (replay base events).world
  pub whole : stop ≡ None → IfTold before (λ x y.
      IfTold after (IsNewestOf (generation + length checkpoints)
      (state_after base events (last_after 0 checkpoints))
      (drop (last_after 0 checkpoints) events)))
  pub closed : stop ≡ None → IfTold before (λ x y. IsNewestClosed generation image opened x y →
      rests.after × IfTold after (IsNewestClosed (generation + length checkpoints)
      (image_since image (state_after base events (last_after 0 checkpoints)) checkpoints)
      (drop (last_after 0 checkpoints) events)))
  pub place : stop ≡ None → IfTold before (λ x y. (second : Bool) →
      newer (generation_of x) (generation_of y) ≡ Some second →
      IfTold after (λ u v. newer (generation_of u) (generation_of v)
      ≡ Some (place_after (length checkpoints) second)))
  pub none_failed : stop ≡ None → NoDiskFailed before after
  pub risen : (pass : ℕ) → stop ≡ Some pass → HasDiskFailed before after
  pub follows : (pass : ℕ) (event : Event) → stop ≡ Some pass → met ≡ Some event →
      IsLawful (authority_under secrets) base (events ++ event ∷ [])
  pub survives : (pass : ℕ) → stop ≡ Some pass →
      IfTold before (λ x y. IsNewestClosed generation image opened x y →
      IfTold after (SurvivesStop base events met))
  pub newest_at : (pass : ℕ) → stop ≡ Some pass → IfTold before (λ x y.
      IsNewestClosed generation image opened x y → (second : Bool) →
      newer (generation_of x) (generation_of y) ≡ Some second → IfTold after
      (IsNewestStop (generation + length checkpoints) (place_after (length checkpoints) second) met))
  pub mended : (pass : ℕ) → stop ≡ Some pass → (events ≡ opened → checkpoints ≡ [] → ⊥) →
      IfTold before (λ x y. (second : Bool) →
      newer (generation_of x) (generation_of y) ≡ Some second → IfTold after
      (SurvivesStopAt base events (generation + length checkpoints)
      (place_after (length checkpoints) second) met))
  pub unclosed : (pass : ℕ) → stop ≡ Some pass → met ≡ None → IfTold before (λ x y.
      (second : Bool) → newer (generation_of x) (generation_of y) ≡ Some second → IfTold after
      (SurvivesCheckpoint base events (generation + length checkpoints)
      (place_after (length checkpoints) second)))
  pub begins : (pass : ℕ) (event : Event) → stop ≡ Some pass → met ≡ Some event →
      IfTold before (λ x y. (second : Bool) →
      newer (generation_of x) (generation_of y) ≡ Some second → IfTold after
      (NewestBegins (generation + length checkpoints) (place_after (length checkpoints) second)
      (area_bytes (generation + length checkpoints)
      (image_since image (state_after base events (last_after 0 checkpoints)) checkpoints)
      (payloads_of (drop (last_after 0 checkpoints) events)))))
  pub other_stays : checkpoints ≡ [] → IfTold before (λ x y. (second : Bool) →
      newer (generation_of x) (generation_of y) ≡ Some second →
      (one_of after.b after.a second ≡ one_of before.b before.a second) ⊎
      ((pass : ℕ) × (stop ≡ Some pass) × (met ≡ None) × HasRisen (one_of before.b_faults before.a_faults second) (one_of after.b_faults after.a_faults second)))

-- what is written at an end at which no disk has failed, and the status: a line; or memory ran out,
-- and nothing is. `broken` says whether the last call of the output failed
abbrev pub TellsServed : ServeEnd → Option (List ℕ) → ℕ → ℕ → Option (List ℕ) → ℕ → Bool → Type 0
TellsServed (serve_ends.Done n) held faults result held_after faults_after broken =
    Wrote 0 (codes "served " ++ decimal n) held faults result held_after faults_after broken
    ⊎ WroteNothing held faults result held_after faults_after
TellsServed (serve_ends.NetFault n) held faults result held_after faults_after broken =
    Wrote 8 (codes "netfault") held faults result held_after faults_after broken
TellsServed (serve_ends.NoMemory n) held faults result held_after faults_after broken = WroteNothing held faults result held_after faults_after

-- the status at such an end, and its line
pub data IsServeLine : ServeEnd → ℕ → List ℕ → Type 0 where
  all_served : (n : ℕ) → IsServeLine (serve_ends.Done n) 0 (codes "served " ++ decimal n)
  net_failed : (n : ℕ) → IsServeLine (serve_ends.NetFault n) 8 (codes "netfault")

-- What such a run has to write that ends with this status: one line. If no store was opened, the
-- listener and the nonces tell what they did before.
pub data ServeWrites (is_of : PassEntries) (secrets : Secrets) (count : ℕ) (rests : Rests) (before after : ServePorts) : ℕ → List ℕ → Type 0 where
  served : (end : ServeEnd) (status : ℕ) (line : List ℕ) →
      IsServed is_of secrets rests before.ports.disks after.ports.disks (number_of end) count None →
      AreAttended count before.net after.net end → IsServeLine end status line →
      ServeWrites is_of secrets count rests before after status line
  disk_failed : (end : ServeEnd) (pass : ℕ) →
      IsServed is_of secrets rests before.ports.disks after.ports.disks (number_of end) count (Some pass) →
      AreAttended count before.net after.net end →
      ServeWrites is_of secrets count rests before after 5 (codes "stopped")
  no_store : IfTold before.ports.disks HasNoArea →
      AreDisksKept before.ports.disks after.ports.disks → IsNetKept before.net after.net →
      ServeWrites is_of secrets count rests before after 4 (codes "nostore")
  damaged : (number : ℕ) (damage : Damage) →
      IfTold before.ports.disks (IsNewestDamaged (authority_under secrets) number damage) →
      AreDisksKept before.ports.disks after.ports.disks → IsNetKept before.net after.net →
      ServeWrites is_of secrets count rests before after 3 (damaged_text number damage)
  not_opened : HasDiskFailed before.ports.disks after.ports.disks →
      (rests.before → AreBytesKept before.ports.disks after.ports.disks) →
      IsNetKept before.net after.net →
      ServeWrites is_of secrets count rests before after 5 (codes "stopped")

-- The status that such a run ends with. Its line was written; or the output failed, at its last
-- call, and holds some first part of it; or memory ran out, before the store was opened or after it
-- was served with no fault of the listener or the nonces, and nothing was written. But in the second
-- case no call of the output failed.
pub data EndsServing (is_of : PassEntries) (secrets : Secrets) (count : ℕ) (rests : Rests) (before after : ServePorts) : ℕ → Type 0 where
  told : (status : ℕ) (line : List ℕ) →
      ServeWrites is_of secrets count rests before after status line →
      after.ports.streams.held ≡ with_back before.ports.streams.held (with_line_end line) →
      after.ports.streams.write_faults ≡ before.ports.streams.write_faults →
      EndsServing is_of secrets count rests before after status
  cut_short : (status : ℕ) (line : List ℕ) →
      ServeWrites is_of secrets count rests before after status line →
      FailedLast before.ports.streams.write_faults after.ports.streams.write_faults after.ports.broken.output →
      HoldsSome before.ports.streams.held after.ports.streams.held (with_line_end line) →
      EndsServing is_of secrets count rests before after 7
  unopened : AreDisksKept before.ports.disks after.ports.disks → IsNetKept before.net after.net →
      after.ports.streams.held ≡ before.ports.streams.held →
      after.ports.streams.write_faults ≡ before.ports.streams.write_faults →
      EndsServing is_of secrets count rests before after 9
  out_of_memory : (end : ServeEnd) → (IsNetFault end → ⊥) →
      IsServed is_of secrets rests before.ports.disks after.ports.disks (number_of end) count None →
      AreAttended count before.net after.net end →
      after.ports.streams.held ≡ before.ports.streams.held →
      after.ports.streams.write_faults ≡ before.ports.streams.write_faults →
      EndsServing is_of secrets count rests before after 9

-- How a run ends: it serves sessions, or 9P2000, and takes nothing of its input; or it is a run of
-- another command, and the listener and the nonces tell what they did before; or memory ran out
-- before the words were read, and nothing was done.
pub data RunEnds (of_session of_nine : PassEntries) (secrets : Secrets)
    (words : List (String Global)) (rests : Rests) (before after : ServePorts) : ℕ → Type 0 where
  serves : (status port count : ℕ) → IsServe words port count →
      IsInputKept before.ports.streams after.ports.streams →
      EndsServing of_session secrets count rests before after status →
      RunEnds of_session of_nine secrets words rests before after status
  serves_nine : (status port count : ℕ) → IsServe9 words port count →
      IsInputKept before.ports.streams after.ports.streams →
      EndsServing of_nine secrets count rests before after status →
      RunEnds of_session of_nine secrets words rests before after status
  unread : after.ports.disks ≡ before.ports.disks → IsNetKept before.net after.net →
      IsInputKept before.ports.streams after.ports.streams →
      after.ports.streams.held ≡ before.ports.streams.held →
      after.ports.streams.write_faults ≡ before.ports.streams.write_faults →
      RunEnds of_session of_nine secrets words rests before after 9
  alone : (status : ℕ) → ((port count : ℕ) → IsServe words port count → ⊥) →
      ((port count : ℕ) → IsServe9 words port count → ⊥) →
      EndsWith secrets words rests before.ports after.ports status →
      IsNetKept before.net after.net → RunEnds of_session of_nine secrets words rests before after status
