-- A script in memory that was run to its end, and how many of its replies begin with a word.
use Rattle.std.proofs.Common.{◌≡◌, ◌⊎◌, inl, inr, ◌+◌, ◌≤◌, ◌<◌, ℕ, List, [], ◌∷◌, Bool, true, false, length, refl, sym, ap, subst, ◌∙◌, arith, Option, Some, None}
use Rattle.std.specs.Prelude.{if◌then◌else◌, IfSome}
use Rattle.access_history.specs.Replay.{replay}
use Rattle.line_text.specs.Lines.{lines_of}
use Rattle.line_wire.specs.declared.reply.LineReply.{LineReply}
use Rattle.line_wire.specs.ReplyText.{output_of}
use Rattle.pcfs_ports.specs.Observable.{with_back}
use Rattle.pcfs_secrets.specs.declared.secrets.Secrets.{Secrets}
use Rattle.pcfs_session.specs.InterpreterView.{InterpreterView, standing_of}
use Rattle.pcfs_session.specs.ScriptEnds.{RunsOver, ScriptWrites, ScriptEnds, with_line_end}
use Rattle.pcfs_session.specs.ScriptEnds as ends
use Rattle.pcfs_session.specs.ScriptRun.{ScriptState, fresh_start}
use Rattle.pcfs_session.specs.Streams.{Streams}
use Rattle.pcfs_session.specs.declared.script_end.ScriptEnd.{ScriptEnd}
use Rattle.pcfs_session.specs.declared.script_end.ScriptEnd.TheVariants.{Done, LineTooLong, ReadFault, WriteFault, NoMemory, InputTooLong, Stopped}
use Rattle.generated_script.specs.Script.{script_text}
use Rattle.pcfs_tools.specs.Broken.{Broken}
use Rattle.pcfs_tools.specs.LastLine.{IsWritten, Wrote, WroteNothing}
use Rattle.pcfs_tools.specs.Load.{IsLoaded, IsRunThrough, begins_with_word, count_of, load_secrets, summary_text}
use Rattle.pcfs_tools.specs.ScriptStatus.{TellsEnd, AnswersInput}
use Rattle.pcfs_tools.proofs.TellingLemmas.{Wrote-line}

-- ---- counts

one_reply : (hit : Bool) (count rest new total : ℕ) → new ≡ (if hit then count + 1 else count) → count + (if hit then 1 + rest else rest) ≡ total → new + rest ≡ total
one_reply true count rest new total is before = omega (arith, is, before)
one_reply false count rest new total is before = omega (arith, is, before)

-- one reply more was looked at
pub count_next : (word reply : List ℕ) (replies others : List (List ℕ)) (hit : Bool) (count new total : ℕ) → replies ≡ reply ∷ others → hit ≡ begins_with_word word reply → new ≡ (if hit then count + 1 else count) → count + count_of word replies ≡ total →
    new + count_of word others ≡ total
count_next word reply replies others hit count new total parts hit_is new_is before =
    one_reply hit count (count_of word others) new total new_is
    (subst (λ (b : Bool). count + (if b then 1 + count_of word others else count_of word others) ≡ total) (sym hit_is) (subst (λ (rs : List (List ℕ)). count + count_of word rs ≡ total) parts before))

-- and no more are counted than there are bytes
pub counted_few : (hit : Bool) (count new rest left total : ℕ) → new ≡ (if hit then count + 1 else count) → left < rest → count + rest ≤ total → new + left ≤ total
counted_few true count new rest left total is fewer before = omega (arith, is, fewer, before)
counted_few false count new rest left total is fewer before = omega (arith, is, fewer, before)

-- all were
pub count_end : (word rest : List ℕ) (count total : ℕ) → rest ≡ [] → count + count_of word (lines_of rest) ≡ total → count ≡ total
count_end word rest count total none before = let all = subst (λ (r : List ℕ). count + count_of word (lines_of r) ≡ total) none before in omega (arith, all)

pub all_next : (reply : List ℕ) (replies others : List (List ℕ)) (count total : ℕ) → replies ≡ reply ∷ others → count + length replies ≡ total → count + 1 + length others ≡ total
all_next reply replies others count total parts before = let more = subst (λ (rs : List (List ℕ)). count + length rs ≡ total) parts before in omega (arith, more)

pub all_end : (rest : List ℕ) (count total : ℕ) → rest ≡ [] → count + length (lines_of rest) ≡ total → count ≡ total
all_end rest count total none before = let all = subst (λ (r : List ℕ). count + length (lines_of r) ≡ total) none before in omega (arith, all)

-- ---- a script that was run to its end

same_some : (x y : List ℕ) → Some x ≡ Some y → x ≡ y
same_some x y is = cc

not_zero : (status other : ℕ) → status ≡ 0 → status ≡ other → 1 ≤ other → ⊥
not_zero status other none is some = omega (arith, none, is, some)

-- only the end Done has the status 0, and then nothing more was written
done_tells : (how : ScriptEnd) (held : Option (List ℕ)) (faults status : ℕ) (held_after : Option (List ℕ)) (faults_after : ℕ) (broken : Bool) → status ≡ 0 → TellsEnd how held faults status held_after faults_after broken → (how ≡ Done) × (held_after ≡ held)
done_tells Done held faults status held_after faults_after broken is tells = (refl, tells.1)
done_tells LineTooLong held faults status held_after faults_after broken is tells = absurd (not_zero status 2 is tells.0 (omega arith))
done_tells ReadFault held faults status held_after faults_after broken is (inl told) = absurd (not_zero status 6 is told.0 (omega arith))
done_tells ReadFault held faults status held_after faults_after broken is (inr failed) = absurd (not_zero status 7 is failed.0 (omega arith))
done_tells WriteFault held faults status held_after faults_after broken is tells = absurd (not_zero status 7 is tells.0 (omega arith))
done_tells NoMemory held faults status held_after faults_after broken is tells = absurd (not_zero status 9 is tells.0 (omega arith))
done_tells InputTooLong held faults status held_after faults_after broken is (inl told) = absurd (not_zero status 13 is told.0 (omega arith))
done_tells InputTooLong held faults status held_after faults_after broken is (inr failed) = absurd (not_zero status 7 is failed.0 (omega arith))
done_tells Stopped held faults status held_after faults_after broken is tells = absurd (not_zero status 5 is tells.0 (omega arith))

-- the whole input was run
done_writes : (start end : ScriptState) (before after : Streams) (how : ScriptEnd) (replies : List LineReply) (script : List ℕ) → how ≡ Done → before.left ≡ Some script → ScriptWrites start end before after how replies → RunsOver start (lines_of script) end replies × (end.met ≡ None)
done_writes start end before after _ _ script is left (ends.done bytes replies reads short runs met) =
    let same : script ≡ bytes = subst (λ (o : Option (List ℕ)). IfSome o (λ l. l ≡ bytes)) left reads.all in
    (subst (λ (b : List ℕ). RunsOver start (lines_of b) end replies) (sym same) runs, met)
done_writes start end before after _ _ script is left (ends.line_too_long lines replies cut runs met) = absurd cc
done_writes start end before after _ _ script is left (ends.read_fault lines replies risen taken runs met) = absurd cc
done_writes start end before after _ _ script is left (ends.input_too_long lines replies takes taken runs met) = absurd cc
done_writes start end before after _ _ script is left (ends.stopped replies met way is_met) = absurd cc

-- and its replies are what the output holds
record IsWholeRun (start end : ScriptState) (script held : List ℕ) : Type 0 where
  replies : List LineReply
  runs : RunsOver start (lines_of script) end replies
  running : end.met ≡ None
  held_is : held ≡ output_of replies

done_ends : (buffered : ℕ) (start end : ScriptState) (before after : Streams) (how : ScriptEnd) (script held : List ℕ) → how ≡ Done → before.left ≡ Some script → before.held ≡ Some [] → after.held ≡ Some held → ScriptEnds buffered start end before after how →
    IsWholeRun start end script held
done_ends buffered start end before after _ script held is left first last (ends.written how replies writes held_is) =
    let both = done_writes start end before after how replies script is left writes in
    let same : output_of replies ≡ held = same_some (output_of replies) held (sym (held_is ∙ ap (λ (o : Option (List ℕ)). with_back o (output_of replies)) first) ∙ last) in
    record { replies = replies; runs = both.0; running = both.1; held_is = sym same }
done_ends buffered start end before after _ script held is left first last (ends.cut_short replies risen way some) = absurd cc
done_ends buffered start end before after _ script held is left first last (ends.cut_at_long_line replies risen writes some) = absurd cc
done_ends buffered start end before after _ script held is left first last (ends.out_of_memory replies way met some) = absurd cc
done_ends buffered start end before after _ script held is left first last (ends.out_of_memory_at_long_line replies writes some) = absurd cc

module _ {D : Type 0} (clock : D → ℕ) (left_since : D → ℕ → List ℕ → Type 0) (image : D → Option (List ℕ)) (faults : D → ℕ) where
  -- the script in an input was run to its end, if the status is 0
  pub IsRunThrough-done : (buffered : ℕ) (old new : InterpreterView D) (before after : Streams) (broken : Broken) (script held told : List ℕ) (status events : ℕ) → AnswersInput clock left_since image faults buffered old before status new after broken → status ≡ 0 → before.left ≡ Some script → before.held ≡ Some [] →
      after.held ≡ Some held → events ≡ (replay new.store.base new.store.events).count → told ≡ summary_text (lines_of held) events → IsRunThrough (standing_of old None) script told
  IsRunThrough-done buffered old new before after broken script held told status events answers is left first last events_is told_is =
      let a = answers.ends in
      let t = done_tells a.how a.held a.write_faults status after.held after.write_faults broken.output is a.tells in
      let r = done_ends buffered (standing_of old None) (standing_of new answers.met) before (record after { held = a.held; write_faults = a.write_faults }) a.how script held t.0 left first (sym t.1 ∙ last) a.ends in
      record {
        end = standing_of new answers.met;
        replies = r.replies;
        runs = r.runs;
        running = r.running;
        told_is = told_is ∙ ap (summary_text (lines_of held)) events_is ∙ ap (λ (b : List ℕ). summary_text (lines_of b) (replay new.store.base new.store.events).count) r.held_is;
      }

-- the generated script was run, from before the first event
pub IsLoaded-run : (rounds seed : ℕ) (secrets : Secrets) (start : ScriptState) (script told : List ℕ) → secrets ≡ load_secrets → start ≡ fresh_start secrets → script ≡ script_text rounds seed → IsRunThrough start script told → IsLoaded rounds seed told
IsLoaded-run rounds seed secrets start script told secrets_are start_is script_is runs =
    subst (λ (s : ScriptState). IsRunThrough s (script_text rounds seed) told) (start_is ∙ ap fresh_start secrets_are) (subst (λ (b : List ℕ). IsRunThrough start b told) script_is runs)

-- its line was written
pub told_loaded : (rounds seed : ℕ) (told line bytes : List ℕ) (held held_after : Option (List ℕ)) (faults faults_after result : ℕ) (broken : Bool) → bytes ≡ line → line ≡ with_line_end told → IsLoaded rounds seed told → IsWritten 0 bytes held faults result held_after faults_after broken →
    ((text : List ℕ) × IsLoaded rounds seed text × Wrote 0 text held faults result held_after faults_after broken) ⊎ WroteNothing held faults result held_after faults_after
told_loaded rounds seed told line bytes held held_after faults faults_after result broken same is loaded writes =
    inl (told, loaded, Wrote-line 0 told bytes held held_after faults faults_after result broken (same ∙ is) writes)
