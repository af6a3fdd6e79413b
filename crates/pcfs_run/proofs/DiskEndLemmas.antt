-- Of a run no call of a disk failed; or a count rose, and it ends with one of two statuses.
use Rattle.std.proofs.Common.{◌≡◌, ◌∙◌, inl, inr, ℕ, List, String, Option, Some, None, refl, sym, ap}
use Rattle.std.specs.declared.alloc.Global.{Global}
use Rattle.event_messages.specs.Messages.{Message}
use Rattle.follow_run.specs.FollowRun.{FollowEnds, HasEnded}
use Rattle.follow_run.specs.FollowRun as follows
use Rattle.line_wire.specs.declared.reply.LineReply.{LineReply}
use Rattle.pcfs_secrets.specs.declared.secrets.Secrets.{Secrets}
use Rattle.pcfs_session.specs.ScriptEnds.{ScriptEnds, ScriptWrites}
use Rattle.pcfs_session.specs.ScriptEnds as scripts
use Rattle.pcfs_session.specs.ScriptRun.{ScriptState}
use Rattle.pcfs_session.specs.Streams.{Streams}
use Rattle.pcfs_session.specs.declared.script_end.ScriptEnd.{ScriptEnd}
use Rattle.pcfs_session.specs.declared.script_end.ScriptEnd.TheVariants.{LineTooLong}
use Rattle.pcfs_session.proofs.StoredLemmas.{none_some}
use Rattle.pcfs_store.specs.Entries.{StoreEntry}
use Rattle.pcfs_tools.specs.Broken.{Broken}
use Rattle.pcfs_tools.specs.ScriptStatus.{ScriptStatus, TellsEnd}
use Rattle.pcfs_top.specs.Ports.{Disks, Rests, NoDiskFailed}
use Rattle.pcfs_top.specs.Run.{HasCause, EndsWith, IsUndone, Returns}
use Rattle.pcfs_top.specs.Run as runs
use Rattle.pcfs_run.specs.Passes.{PassEntries}
use Rattle.pcfs_run.specs.Served.{ServePorts, ServeWrites, EndsServing, RunEnds}
use Rattle.pcfs_run.specs.Served as serving
use Rattle.pcfs_run.specs.DiskEnds.{IsFaultStatus, DisksAt}

same_counts : (before after : Disks) → after ≡ before → NoDiskFailed before after
same_counts before after same = record { a_stands = ap (λ (d : Disks). d.a_faults) same; b_stands = ap (λ (d : Disks). d.b_faults) same }

-- ---- the last line met the fault of a disk, or the last message did

module _ (start end : ScriptState) (met : StoreEntry) (is : end.met ≡ Some met) where
  runs_on : {P : Type 0} → end.met ≡ None → P
  runs_on none = none_some met (sym none ∙ is)

  by_writes : (before last after : Streams) (broken : Broken) (status faults : ℕ) (held : Option (List ℕ)) (how : ScriptEnd) (replies : List LineReply) → ScriptWrites start end before last how replies → TellsEnd how held faults status after.held after.write_faults broken.output → IsFaultStatus status
  by_writes before last after broken status faults held _ _ (scripts.done bytes replies reads short run running) tells = runs_on running
  by_writes before last after broken status faults held _ _ (scripts.line_too_long lines replies cut run running) tells = runs_on running
  by_writes before last after broken status faults held _ _ (scripts.read_fault lines replies risen all run running) tells = runs_on running
  by_writes before last after broken status faults held _ _ (scripts.input_too_long lines replies first all run running) tells = runs_on running
  by_writes before last after broken status faults held _ _ (scripts.stopped replies entry way there) tells = inl tells.0

  -- at a line that is too long
  long_runs : (before last : Streams) (how : ScriptEnd) (replies : List LineReply) → how ≡ LineTooLong → ScriptWrites start end before last how replies → end.met ≡ None
  long_runs before last _ _ is (scripts.done bytes replies reads short run running) = running
  long_runs before last _ _ is (scripts.line_too_long lines replies cut run running) = running
  long_runs before last _ _ is (scripts.read_fault lines replies risen all run running) = running
  long_runs before last _ _ is (scripts.input_too_long lines replies first all run running) = running
  long_runs before last _ _ is (scripts.stopped replies entry way there) = absurd cc

  by_end : (buffered : ℕ) (before last after : Streams) (broken : Broken) (status faults : ℕ) (held : Option (List ℕ)) (how : ScriptEnd) → ScriptEnds buffered start end before last how → TellsEnd how held faults status after.held after.write_faults broken.output → IsFaultStatus status
  by_end buffered before last after broken status faults held _ (scripts.written how replies writes out) tells = by_writes before last after broken status faults held how replies writes tells
  by_end buffered before last after broken status faults held _ (scripts.cut_short replies risen way some) tells = inr tells.0
  by_end buffered before last after broken status faults held _ (scripts.cut_at_long_line replies risen writes some) tells = inr tells.0
  by_end buffered before last after broken status faults held _ (scripts.out_of_memory replies way running some) tells = runs_on running
  by_end buffered before last after broken status faults held _ (scripts.out_of_memory_at_long_line replies writes some) tells = runs_on (long_runs before last LineTooLong replies refl writes)

  of_script : (buffered : ℕ) (before after : Streams) (broken : Broken) (status : ℕ) → ScriptStatus buffered start end before after broken status → IsFaultStatus status
  of_script buffered before after broken status s = by_end buffered before (record after { held = s.held; write_faults = s.write_faults }) after broken status s.write_faults s.held s.how s.ends s.tells

  by_ended : (before after : Streams) (broken : Broken) (messages : List Message) (status : ℕ) (last : List ℕ) → HasEnded end before after broken.input messages status last → IsFaultStatus status
  by_ended before after broken messages _ _ (follows.done all reads running) = runs_on running
  by_ended before after broken messages _ _ (follows.bad_frame bad reads running) = runs_on running
  by_ended before after broken messages _ _ (follows.read_fault failed all running) = runs_on running
  by_ended before after broken messages _ _ (follows.input_too_long first all reads running) = runs_on running
  by_ended before after broken messages _ _ (follows.stopped entry taken reads there) = inl refl

  of_following : (before after : Streams) (broken : Broken) (status : ℕ) → FollowEnds start end before after broken status → IsFaultStatus status
  of_following before after broken _ (follows.written status messages lines last over ended out writes) = by_ended before after broken messages status last ended
  of_following before after broken _ (follows.last_line_cut status messages lines last over ended failed some) = inr refl
  of_following before after broken _ (follows.cut_short messages lines over taken reads running failed some) = runs_on running
  of_following before after broken _ (follows.out_of_memory messages lines over taken reads running some writes) = runs_on running

-- what came back, by whether a disk failed
by_met : (rests : Rests) (generation : ℕ) (image : List ℕ) (before after : Disks) (start end : ScriptState) (status : ℕ) → Returns rests generation image before after start end → ((met : StoreEntry) → end.met ≡ Some met → IsFaultStatus status) →
    (met : Option StoreEntry) → end.met ≡ met → DisksAt before after status
by_met rests generation image before after start end status back faulty None is = inl (back.none_failed is)
by_met rests generation image before after start end status back faulty (Some met) is = inr (back.failed met is, faulty met is)

module _ (secrets : Secrets) (words : List (String Global)) where
  -- ---- a run with one line

  -- where it was written, and where the output failed
  abbrev AtLine : Disks → Disks → ℕ → Type 0
  AtLine before after status = DisksAt before after status × DisksAt before after 7

  stands : (before after : Disks) (status : ℕ) → NoDiskFailed before after → AtLine before after status
  stands before after status none = (inl none, inl none)

  by_cause : (rests : Rests) (before after : Disks) (status : ℕ) (line : List ℕ) → HasCause secrets words rests before after status line → AtLine before after status
  by_cause rests before after _ _ (runs.usage none same) = stands before after 1 (same_counts before after same)
  by_cause rests before after _ _ (runs.made asks is b stood) = stands before after 0 stood
  by_cause rests before after _ _ (runs.exists asks is_open same) = stands before after 10 same.none_failed
  by_cause rests before after _ _ (runs.not_made asks failed kept) = (inr (failed, inl refl), inr (failed, inr refl))
  by_cause rests before after _ _ (runs.no_store asks none same) = stands before after 4 same.none_failed
  by_cause rests before after _ _ (runs.damaged number damage asks found same) = stands before after 3 same.none_failed
  by_cause rests before after _ _ (runs.not_opened asks failed kept) = (inr (failed, inl refl), inr (failed, inr refl))
  by_cause rests before after _ _ (runs.checkpointed generation image start asks opened fits stays stood made) = stands before after 0 stood
  by_cause rests before after _ _ (runs.full generation image start asks opened none same rest) = stands before after 14 same.none_failed
  by_cause rests before after _ _ (runs.not_checkpointed generation image start asks opened fits failed stays survives) = (inr (failed, inl refl), inr (failed, inr refl))
  by_cause rests before after _ _ (runs.audited pieces generation image start report asks opened found same rest) = stands before after _ same.none_failed
  by_cause rests before after _ _ (runs.loaded rounds seed told asks is same) = stands before after 0 (same_counts before after same)

  undone : (before after : Disks) → IsUndone words before after → NoDiskFailed before after
  undone before after (runs.untouched same) = same_counts before after same
  undone before after (runs.in_init asks same) = same.none_failed
  undone before after (runs.over_store asks same) = same.none_failed

  module _ (before after : ServePorts) where
    abbrev Ends : ℕ → Type 0
    Ends status = DisksAt before.ports.disks after.ports.disks status

    of_run : (rests : Rests) (status : ℕ) → EndsWith secrets words rests before.ports after.ports status → Ends status
    of_run rests _ (runs.in_memory status asks same ends) = inl (same_counts before.ports.disks after.ports.disks same)
    of_run rests _ (runs.stored status generation image start end asks opened back ends) =
        by_met rests generation image before.ports.disks after.ports.disks start end status back (λ met is. of_script start end met is 0 before.ports.streams after.ports.streams after.ports.broken status ends) end.met refl
    of_run rests _ (runs.followed status generation image start end asks opened back ends) =
        by_met rests generation image before.ports.disks after.ports.disks start end status back (λ met is. of_following start end met is before.ports.streams after.ports.streams after.ports.broken status ends) end.met refl
    of_run rests _ (runs.exported from status generation image start asks opened same rest input tells) = inl same.none_failed
    of_run rests _ (runs.told status line cause input out writes) = (by_cause rests before.ports.disks after.ports.disks status line cause).0
    of_run rests _ (runs.cut_short status line cause input failed some) = (by_cause rests before.ports.disks after.ports.disks status line cause).1
    of_run rests _ (runs.inquired status asks same ends) = inl (same_counts before.ports.disks after.ports.disks same)
    of_run rests _ (runs.modes_told from to status asks same ends) = inl (same_counts before.ports.disks after.ports.disks same)
    of_run rests _ (runs.signing_told height from status asks same ends) = inl (same_counts before.ports.disks after.ports.disks same)
    of_run rests _ (runs.out_of_memory same input out writes) = inl (undone before.ports.disks after.ports.disks same)

    -- ---- sessions, and 9P2000

    by_serving : (is_of : PassEntries) (count : ℕ) (rests : Rests) (status : ℕ) (line : List ℕ) → ServeWrites is_of secrets count rests before after status line → AtLine before.ports.disks after.ports.disks status
    by_serving is_of count rests _ _ (serving.served end status line served attended is) = stands before.ports.disks after.ports.disks status (served.none_failed refl)
    by_serving is_of count rests _ _ (serving.disk_failed end pass served attended) = (inr (served.risen pass refl, inl refl), inr (served.risen pass refl, inr refl))
    by_serving is_of count rests _ _ (serving.no_store none same net) = stands before.ports.disks after.ports.disks 4 same.none_failed
    by_serving is_of count rests _ _ (serving.damaged number damage found same net) = stands before.ports.disks after.ports.disks 3 same.none_failed
    by_serving is_of count rests _ _ (serving.not_opened failed kept net) = (inr (failed, inl refl), inr (failed, inr refl))

    of_serving : (is_of : PassEntries) (count : ℕ) (rests : Rests) (status : ℕ) → EndsServing is_of secrets count rests before after status → Ends status
    of_serving is_of count rests _ (serving.told status line writes out still) = (by_serving is_of count rests status line writes).0
    of_serving is_of count rests _ (serving.cut_short status line writes failed some) = (by_serving is_of count rests status line writes).1
    of_serving is_of count rests _ (serving.unopened same net out still) = inl same.none_failed
    of_serving is_of count rests _ (serving.out_of_memory end no_fault served attended out still) = inl (served.none_failed refl)

    pub DisksAt-run : (of_session of_nine : PassEntries) (rests : Rests) (status : ℕ) → RunEnds of_session of_nine secrets words rests before after status → Ends status
    DisksAt-run of_session of_nine rests _ (serving.serves status port count serves input ends) = of_serving of_session count rests status ends
    DisksAt-run of_session of_nine rests _ (serving.serves_nine status port count serves input ends) = of_serving of_nine count rests status ends
    DisksAt-run of_session of_nine rests _ (serving.unread disks net input out writes) = inl (same_counts before.ports.disks after.ports.disks disks)
    DisksAt-run of_session of_nine rests _ (serving.alone status alone apart ends net) = of_run rests status ends
