-- A run over ports that do not fail ends with one of these statuses, by its cause.
use Rattle.std.proofs.Common.{◌≡◌, ◌⊎◌, inl, inr, ◌≤◌, ℕ, Bool, List, [], ◌∷◌, String, Option, Some, pos, refl, sym, subst, arith}
use Rattle.std.specs.declared.alloc.Global.{Global}
use Rattle.bl_syntax.specs.declared.terms.TimePoint.TheVariants.{At}
use Rattle.line_faults.specs.LongLines.{HasLongLine}
use Rattle.line_text.specs.Lines.{lines_of}
use Rattle.pcfs_ports.specs.Faults.{HasRisen}
use Rattle.pcfs_ports.specs.Observable.{ReadsToEnd}
use Rattle.pcfs_secrets.specs.declared.secrets.Secrets.{Secrets}
use Rattle.pcfs_server.specs.Ends.{FailedLast}
use Rattle.pcfs_server.specs.declared.end.ServeEnd.{ServeEnd}
use Rattle.command_words.specs.Tasks.{AsksFor}
use Rattle.command_words.specs.declared.words.Task.TheVariants.{Script, Stored, Audit, Export, Follow, Check, Modes, RootSign}
use Rattle.event_messages.specs.Messages.{Message}
use Rattle.export_run.specs.Exported.{TellsExport}
use Rattle.export_run.specs.Exported as exports
use Rattle.follow_run.specs.FollowRun.{FollowEnds, HasEnded}
use Rattle.follow_run.specs.FollowRun as follows
use Rattle.pcfs_audit.specs.Report.{IsReport}
use Rattle.pcfs_audit.specs.declared.report.Report.{Report}
use Rattle.pcfs_audit.specs.declared.report.ReportRow.{ReportRow}
use Rattle.pcfs_inquiry.specs.Answers.{InquiryEnds}
use Rattle.pcfs_inquiry.specs.Answers as inquiries
use Rattle.pcfs_modes.specs.Answers.{ComesTo, ModesEnds}
use Rattle.pcfs_modes.specs.Answers as tables
use Rattle.pcfs_session.specs.LineAnswer.{authority_under}
use Rattle.line_wire.specs.declared.reply.LineReply.{LineReply}
use Rattle.pcfs_session.specs.ScriptEnds.{ScriptEnds, ScriptWrites}
use Rattle.pcfs_session.specs.ScriptEnds as scripts
use Rattle.pcfs_session.specs.ScriptRun.{ScriptState}
use Rattle.pcfs_session.specs.Streams.{Streams}
use Rattle.pcfs_session.specs.declared.script_end.ScriptEnd.{ScriptEnd}
use Rattle.pcfs_session.specs.declared.script_end.ScriptEnd.TheVariants as script_ends
use Rattle.pcfs_session.proofs.StoredLemmas.{HasRisen-earlier}
use Rattle.pcfs_store.specs.Entries.{StoreEntry}
use Rattle.pcfs_tools.specs.Audited.{audit_status}
use Rattle.pcfs_tools.specs.Inquired.{TellsInquiry}
use Rattle.pcfs_tools.specs.Inquired as inquired
use Rattle.pcfs_tools.specs.Memory.{MemoryEnds}
use Rattle.pcfs_tools.specs.Memory as in_memory
use Rattle.pcfs_tools.specs.ScriptStatus.{ScriptStatus, TellsEnd}
use Rattle.pcfs_tools.specs.Signed.{TellsSigning}
use Rattle.pcfs_tools.specs.Signed as signed
use Rattle.pcfs_tools.specs.Stated.{TellsModes}
use Rattle.pcfs_tools.specs.Stated as stated
use Rattle.pcfs_top.specs.Ports.{Rests, HasDiskFailed}
use Rattle.pcfs_top.specs.Run.{HasCause, EndsWith, IsOpened}
use Rattle.pcfs_top.specs.Run as runs
use Rattle.root_signing.specs.Signed as signing
use Rattle.root_signing.proofs.LawLemmas.{status_of_end}
use Rattle.pcfs_run.specs.ServeWords.{IsServe, IsServe9}
use Rattle.pcfs_run.specs.Passes.{PassEntries}
use Rattle.pcfs_run.specs.Served.{ServePorts, AreAttended, IsServeLine, ServeWrites, EndsServing, RunEnds}
use Rattle.pcfs_run.specs.Served as serving
use Rattle.pcfs_run.specs.Healthy.{AreHealthy, EndsHealthy, IsUnfit, long_line, too_many_bytes, damaged, absent}
use Rattle.pcfs_run.specs.Healthy as healthy

-- a call that failed was counted
risen_last : (before after : ℕ) (broken : Bool) → FailedLast before after broken → HasRisen before after
risen_last before after broken failed below = omega (arith, failed.0, below)

module _ (secrets : Secrets) (words : List (String Global)) (before after : ServePorts) (sound : AreHealthy before after) where
  abbrev Ends : ℕ → Type 0
  Ends status = EndsHealthy secrets words before after status

  no_disk_failed : HasDiskFailed before.ports.disks after.ports.disks → ⊥
  no_disk_failed (inl first) = sound.first_disk first
  no_disk_failed (inr second) = sound.second_disk second

  no_net_fault : HasRisen before.net.faults after.net.faults ⊎ HasRisen before.net.nonce_faults after.net.nonce_faults → ⊥
  no_net_fault (inl listener) = sound.listener listener
  no_net_fault (inr nonces) = sound.nonces nonces

  no_read_failed : FailedLast before.ports.streams.read_faults after.ports.streams.read_faults after.ports.broken.input → ⊥
  no_read_failed failed = sound.input (risen_last before.ports.streams.read_faults after.ports.streams.read_faults after.ports.broken.input failed)

  no_write_failed : FailedLast before.ports.streams.write_faults after.ports.streams.write_faults after.ports.broken.output → ⊥
  no_write_failed failed = sound.output (risen_last before.ports.streams.write_faults after.ports.streams.write_faults after.ports.broken.output failed)

  -- the output did not fail after it had had so many faults
  not_since : (faults : ℕ) → before.ports.streams.write_faults ≤ faults → FailedLast faults after.ports.streams.write_faults after.ports.broken.output → ⊥
  not_since faults later failed =
      sound.output (HasRisen-earlier before.ports.streams.write_faults faults after.ports.streams.write_faults later (risen_last faults after.ports.streams.write_faults after.ports.broken.output failed))

  -- ---- scripts

  module _ (buffered status : ℕ) (held : Option (List ℕ)) (faults : ℕ) (later : before.ports.streams.write_faults ≤ faults) (asks : AsksFor words Script ⊎ AsksFor words Stored) (start end : ScriptState) (runs_on : (met : StoreEntry) → end.met ≡ Some met → status ≡ 5 → ⊥) where
    -- what the streams told when the script had ended, before its last line
    abbrev ended_at : Streams
    ended_at = record after.ports.streams { held = held; write_faults = faults }

    abbrev Tells : ScriptEnd → Type 0
    Tells how = TellsEnd how held faults status after.ports.streams.held after.ports.streams.write_faults after.ports.broken.output

    by_writes : (how : ScriptEnd) (replies : List LineReply) → ScriptWrites start end before.ports.streams ended_at how replies → Tells how → Ends status
    by_writes _ _ (scripts.done bytes replies reads short run running) tells = subst Ends (sym tells.0) healthy.done
    by_writes _ _ (scripts.line_too_long lines replies cut run running) tells = healthy.script_unfit status asks (subst (IsUnfit before.ports.streams after.ports.streams) (sym tells.0) (long_line lines cut))
    by_writes _ _ (scripts.read_fault lines replies risen all run running) tells = absurd (sound.input risen)
    by_writes _ _ (scripts.input_too_long lines replies first all run running) (inl told) =
        healthy.script_unfit status asks (subst (IsUnfit before.ports.streams after.ports.streams) (sym told.0) (too_many_bytes first))
    by_writes _ _ (scripts.input_too_long lines replies first all run running) (inr failed) = absurd (not_since faults later failed.1)
    by_writes _ _ (scripts.stopped replies met way is) tells = absurd (runs_on met is tells.0)

    -- the output failed, so its count rose
    unwritten : HasRisen before.ports.streams.write_faults faults → Tells script_ends.WriteFault → ⊥
    unwritten risen tells = sound.output (subst (HasRisen before.ports.streams.write_faults) (sym tells.2) risen)

    by_end : (how : ScriptEnd) → ScriptEnds buffered start end before.ports.streams ended_at how → Tells how → Ends status
    by_end _ (scripts.written how replies writes out) tells = by_writes how replies writes tells
    by_end _ (scripts.cut_short replies risen way some) tells = absurd (unwritten risen tells)
    by_end _ (scripts.cut_at_long_line replies risen writes some) tells = absurd (unwritten risen tells)
    by_end _ (scripts.out_of_memory replies way running some) tells = subst Ends (sym tells.0) healthy.out_of_memory
    by_end _ (scripts.out_of_memory_at_long_line replies writes some) tells = subst Ends (sym tells.0) healthy.out_of_memory

  of_script : (buffered status : ℕ) (start end : ScriptState) → AsksFor words Script ⊎ AsksFor words Stored → ((met : StoreEntry) → end.met ≡ Some met → status ≡ 5 → ⊥) → ScriptStatus buffered start end before.ports.streams after.ports.streams after.ports.broken status → Ends status
  of_script buffered status start end asks runs_on s = by_end buffered status s.held s.write_faults s.never_falls asks start end runs_on s.how s.ends s.tells

  of_memory : (status : ℕ) → AsksFor words Script → MemoryEnds secrets before.ports.streams after.ports.streams after.ports.broken status → Ends status
  of_memory _ asks (in_memory.ended status end runs_on s) = of_script _ status _ end (inl asks) (λ met is five. runs_on five) s
  of_memory _ asks (in_memory.disk_failed end s) = healthy.out_of_memory

  -- ---- messages that are taken

  module _ (end : ScriptState) (asks : AsksFor words Follow) (runs_on : (met : StoreEntry) → end.met ≡ Some met → ⊥) where
    by_ended : (messages : List Message) (status : ℕ) (last : List ℕ) → HasEnded end before.ports.streams after.ports.streams after.ports.broken.input messages status last → Ends status
    by_ended messages _ _ (follows.done all reads running) = healthy.done
    by_ended messages _ _ (follows.bad_frame bad reads running) = healthy.no_message messages asks bad
    by_ended messages _ _ (follows.read_fault failed all running) = absurd (no_read_failed failed)
    by_ended messages _ _ (follows.input_too_long first all reads running) = healthy.messages_too_many_bytes asks first
    by_ended messages _ _ (follows.stopped entry taken reads met) = absurd (runs_on entry met)

    of_following : (start : ScriptState) (status : ℕ) → FollowEnds start end before.ports.streams after.ports.streams after.ports.broken status → Ends status
    of_following start _ (follows.written status messages lines last over ended out writes) = by_ended messages status last ended
    of_following start _ (follows.last_line_cut status messages lines last over ended failed some) = absurd (no_write_failed failed)
    of_following start _ (follows.cut_short messages lines over taken reads running failed some) = absurd (no_write_failed failed)
    of_following start _ (follows.out_of_memory messages lines over taken reads running some writes) = healthy.out_of_memory

  -- ---- events that are exported

  module _ (from generation : ℕ) (image : List ℕ) (start : ScriptState) (asks : AsksFor words (Export from)) (opened : IsOpened secrets generation image before.ports.disks start) where
    of_export : (status : ℕ) → TellsExport start.base start.events from before.ports.streams.held before.ports.streams.write_faults status after.ports.streams.held after.ports.streams.write_faults after.ports.broken.output → Ends status
    of_export status (exports.exported later (inl told)) = subst Ends (sym told.0) healthy.done
    of_export status (exports.exported later (inr failed)) = absurd (no_write_failed failed.1)
    of_export status (exports.cut_short later is some writes) = subst Ends (sym is) healthy.out_of_memory
    of_export status (exports.gone within (inl told)) = subst Ends (sym told.0) (healthy.events_gone from generation image start asks opened within)
    of_export status (exports.gone within (inr failed)) = absurd (no_write_failed failed.1)
    of_export status (exports.untold within untold) = subst Ends (sym untold.0) healthy.out_of_memory

  -- ---- an inquiry

  by_answer : (status : ℕ) (line : List ℕ) → AsksFor words Check → InquiryEnds before.ports.streams.left after.ports.streams.left before.ports.streams.read_faults after.ports.streams.read_faults after.ports.broken.input status line → Ends status
  by_answer _ _ asks (inquiries.answered bytes statements goal proof reads short is steady) = healthy.done
  by_answer _ _ asks (inquiries.bad_line bytes number fault reads short first steady) = healthy.inquiry_wrong bytes number fault asks reads short first
  by_answer _ _ asks (inquiries.long_line bytes reads long steady) = healthy.inquiry_long bytes asks reads long
  by_answer _ _ asks (inquiries.read_fault by_one broken) = absurd (no_read_failed (by_one, broken))
  by_answer _ _ asks (inquiries.too_long first steady) = healthy.inquiry_too_many_bytes asks first

  of_inquiry : (status : ℕ) → AsksFor words Check → TellsInquiry before.ports.streams after.ports.streams after.ports.broken status → Ends status
  of_inquiry status asks (inquired.answered found line ends (inl told)) = subst Ends (sym told.0) (by_answer found line asks ends)
  of_inquiry status asks (inquired.answered found line ends (inr failed)) = absurd (no_write_failed failed.1)
  of_inquiry status asks (inquired.unanswered untold steady) = subst Ends (sym untold.0) healthy.out_of_memory

  -- ---- a table of modes

  module _ (from to : ℕ) (asks : AsksFor words (Modes from to)) where
    by_text : (bytes : List ℕ) (status : ℕ) (written : List ℕ) → ReadsToEnd before.ports.streams.left after.ports.streams.left bytes → ComesTo (At (pos from)) (At (pos to)) (lines_of bytes) status written → Ends status
    by_text bytes _ _ reads (tables.of_table t _ _ are (tables.stated few)) = healthy.done
    by_text bytes _ _ reads (tables.of_table t _ _ are (tables.too_many over)) = healthy.table_wrong from to bytes _ asks reads (tables.of_table t 15 _ are (tables.too_many over))
    by_text bytes _ _ reads (tables.bad_line number first) = healthy.table_wrong from to bytes _ asks reads (tables.bad_line number first)
    by_text bytes _ _ reads (tables.twice number first) = healthy.table_wrong from to bytes _ asks reads (tables.twice number first)

    by_table : (status : ℕ) (written : List ℕ) → ModesEnds from to before.ports.streams.left after.ports.streams.left before.ports.streams.read_faults after.ports.streams.read_faults after.ports.broken.input status written → Ends status
    by_table _ _ (tables.answered bytes status written reads comes steady) = by_text bytes status written reads comes
    by_table _ _ (tables.read_fault by_one broken) = absurd (no_read_failed (by_one, broken))
    by_table _ _ (tables.too_long first steady) = healthy.table_too_many_bytes from to asks first

    of_modes : (status : ℕ) → TellsModes from to before.ports.streams after.ports.streams after.ports.broken status → Ends status
    of_modes status (stated.stated found written ends (inl told)) = subst Ends (sym told.0) (by_table found written ends)
    of_modes status (stated.stated found written ends (inr failed)) = absurd (no_write_failed failed.1)
    of_modes status (stated.unstated untold steady) = subst Ends (sym untold.0) healthy.out_of_memory

  -- ---- statements to be signed

  module _ (height from : ℕ) (asks : AsksFor words (RootSign height from)) where
    by_lines : (bytes : List ℕ) (status : ℕ) (written : List ℕ) → ReadsToEnd before.ports.streams.left after.ports.streams.left bytes → (HasLongLine (lines_of bytes) → ⊥)
        → signing.ComesTo height from (lines_of bytes) status written → (status ≡ 0) ⊎ ((status ≡ 12) ⊎ (status ≡ 18)) → Ends status
    by_lines bytes status written reads short comes (inl done) = subst Ends (sym done) healthy.done
    by_lines bytes status written reads short comes (inr (inl wrong)) =
        subst Ends (sym wrong) (healthy.signing_wrong height from bytes written asks reads short (subst (λ (n : ℕ). signing.ComesTo height from (lines_of bytes) n written) wrong comes))
    by_lines bytes status written reads short comes (inr (inr spent)) =
        subst Ends (sym spent) (healthy.leaves_spent height from bytes written asks reads short (subst (λ (n : ℕ). signing.ComesTo height from (lines_of bytes) n written) spent comes))

    by_signing : (status : ℕ) (written : List ℕ) → signing.SigningEnds height from before.ports.streams.left after.ports.streams.left before.ports.streams.read_faults after.ports.streams.read_faults after.ports.broken.input status written → Ends status
    by_signing _ _ (signing.answered bytes status written reads short comes steady) = by_lines bytes status written reads short comes (status_of_end height from (lines_of bytes) status written comes)
    by_signing _ _ (signing.long_line bytes reads long steady) = healthy.signing_long height from bytes asks reads long
    by_signing _ _ (signing.read_fault by_one broken) = absurd (no_read_failed (by_one, broken))
    by_signing _ _ (signing.too_long first steady) = healthy.signing_too_many_bytes height from asks first

    of_signing : (status : ℕ) → TellsSigning height from before.ports.streams after.ports.streams after.ports.broken status → Ends status
    of_signing status (signed.signed found written ends (inl told)) = subst Ends (sym told.0) (by_signing found written ends)
    of_signing status (signed.signed found written ends (inr failed)) = absurd (no_write_failed failed.1)
    of_signing status (signed.unsigned untold steady) = subst Ends (sym untold.0) healthy.out_of_memory

  -- ---- a run with one line

  of_report : (pieces : Option ℕ) (generation : ℕ) (image : List ℕ) (start : ScriptState) (report : Report) (rows : List ReportRow) → report.rows ≡ rows → AsksFor words (Audit pieces) → IsOpened secrets generation image before.ports.disks start → IsReport (authority_under secrets) start.base start.events report →
      Ends (audit_status rows)
  of_report pieces generation image start report [] is asks opened found = healthy.done
  of_report pieces generation image start report (row ∷ rows) is asks opened found = healthy.reports pieces generation image start report row rows asks opened found is

  by_cause : (rests : Rests) (status : ℕ) (line : List ℕ) → ((port count : ℕ) → IsServe words port count → ⊥) → ((port count : ℕ) → IsServe9 words port count → ⊥) → HasCause secrets words rests before.ports.disks after.ports.disks status line → Ends status
  by_cause rests _ _ alone apart (runs.usage none same) = healthy.asks_nothing none alone apart
  by_cause rests _ _ alone apart (runs.made asks is b stood) = healthy.done
  by_cause rests _ _ alone apart (runs.exists asks is_open same) = healthy.is_there_already asks is_open
  by_cause rests _ _ alone apart (runs.not_made asks failed kept) = absurd (no_disk_failed failed)
  by_cause rests _ _ alone apart (runs.no_store asks none same) = healthy.unopened 4 (inl asks) (absent none)
  by_cause rests _ _ alone apart (runs.damaged number damage asks found same) = healthy.unopened 3 (inl asks) (damaged number damage found)
  by_cause rests _ _ alone apart (runs.not_opened asks failed kept) = absurd (no_disk_failed failed)
  by_cause rests _ _ alone apart (runs.checkpointed generation image start asks opened fits stays stood made) = healthy.done
  by_cause rests _ _ alone apart (runs.full generation image start asks opened none same rest) = healthy.has_no_room generation image start asks opened none
  by_cause rests _ _ alone apart (runs.not_checkpointed generation image start asks opened fits failed stays survives) = absurd (no_disk_failed failed)
  by_cause rests _ _ alone apart (runs.audited pieces generation image start report asks opened found same rest) = of_report pieces generation image start report report.rows refl asks opened found
  by_cause rests _ _ alone apart (runs.loaded rounds seed told asks is same) = healthy.done

  of_run : (rests : Rests) (status : ℕ) → ((port count : ℕ) → IsServe words port count → ⊥) → ((port count : ℕ) → IsServe9 words port count → ⊥) → EndsWith secrets words rests before.ports after.ports status → Ends status
  of_run rests _ alone apart (runs.in_memory status asks same ends) = of_memory status asks ends
  of_run rests _ alone apart (runs.stored status generation image start end asks opened back ends) = of_script 0 status start end (inr asks) (λ met is five. no_disk_failed (back.failed met is)) ends
  of_run rests _ alone apart (runs.followed status generation image start end asks opened back ends) = of_following end asks (λ met is. no_disk_failed (back.failed met is)) start status ends
  of_run rests _ alone apart (runs.exported from status generation image start asks opened same rest input tells) = of_export from generation image start asks opened status tells
  of_run rests _ alone apart (runs.told status line cause input out writes) = by_cause rests status line alone apart cause
  of_run rests _ alone apart (runs.cut_short status line cause input failed some) = absurd (no_write_failed failed)
  of_run rests _ alone apart (runs.inquired status asks same ends) = of_inquiry status asks ends
  of_run rests _ alone apart (runs.modes_told from to status asks same ends) = of_modes from to asks status ends
  of_run rests _ alone apart (runs.signing_told height from status asks same ends) = of_signing height from asks status ends
  of_run rests _ alone apart (runs.out_of_memory same input out writes) = healthy.out_of_memory

  -- ---- sessions

  by_line : (count : ℕ) (end : ServeEnd) (status : ℕ) (line : List ℕ) → AreAttended count before.net after.net end → IsServeLine end status line → Ends status
  by_line count _ _ _ attended (serving.all_served n) = healthy.done
  by_line count _ _ _ attended (serving.net_failed n) = absurd (no_net_fault (attended.risen tt))

  module _ (is_of : PassEntries) (rests : Rests) (port count : ℕ) (serves : IsServe words port count ⊎ IsServe9 words port count) where
    by_serving : (status : ℕ) (line : List ℕ) → ServeWrites is_of secrets count rests before after status line → Ends status
    by_serving _ _ (serving.served end status line served attended is) = by_line count end status line attended is
    by_serving _ _ (serving.disk_failed end pass served attended) = absurd (no_disk_failed (served.risen pass refl))
    by_serving _ _ (serving.no_store none same net) = healthy.unopened 4 (inr (port, count, serves)) (absent none)
    by_serving _ _ (serving.damaged number damage found same net) = healthy.unopened 3 (inr (port, count, serves)) (damaged number damage found)
    by_serving _ _ (serving.not_opened failed kept net) = absurd (no_disk_failed failed)

    of_serving : (status : ℕ) → EndsServing is_of secrets count rests before after status → Ends status
    of_serving _ (serving.told status line writes out still) = by_serving status line writes
    of_serving _ (serving.cut_short status line writes failed some) = absurd (no_write_failed failed)
    of_serving _ (serving.unopened same net out still) = healthy.out_of_memory
    of_serving _ (serving.out_of_memory end no_fault served attended out still) = healthy.out_of_memory

  pub EndsHealthy-run : (of_session of_nine : PassEntries) (rests : Rests) (status : ℕ) → RunEnds of_session of_nine secrets words rests before after status → Ends status
  EndsHealthy-run of_session of_nine rests _ (serving.serves status port count serves input ends) = of_serving of_session rests port count (inl serves) status ends
  EndsHealthy-run of_session of_nine rests _ (serving.serves_nine status port count serves input ends) = of_serving of_nine rests port count (inr serves) status ends
  EndsHealthy-run of_session of_nine rests _ (serving.unread disks net input out writes) = healthy.out_of_memory
  EndsHealthy-run of_session of_nine rests _ (serving.alone status alone apart ends net) = of_run rests status alone apart ends
