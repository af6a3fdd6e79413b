-- Runs of a script, one after the other.
use Rattle.std.proofs.Common.{◌≡◌, ℕ, ◌+◌, ◌≤◌, List, [], ◌∷◌, ◌++◌, length, refl, subst, append-nil, length-append, arith}
use Rattle.std.proofs.lemmas.Grind.{flat_map-append}
use Rattle.access_history.proofs.HeadlineLemmas.{Headline-lawful}
use Rattle.line_wire.specs.declared.reply.LineReply.{LineReply}
use Rattle.line_wire.specs.ReplyText.{reply_text, output_of}
use Rattle.pcfs_secrets.specs.declared.secrets.Secrets.{Secrets}
use Rattle.session_loop.specs.Written.{but_last}
use Rattle.pcfs_session.specs.LineAnswer.{authority_under}
use Rattle.pcfs_session.specs.ScriptRun.{ScriptState, IsLawfulStanding, ScriptRun}
use Rattle.pcfs_session.specs.ScriptRun as script
use Rattle.pcfs_session.specs.ScriptEnds.{RunsOver}
use Rattle.pcfs_session.proofs.LawfulRunLemmas.{runs_lawfully}

-- a run, and another from where it ended
pub ScriptRun-then : (start mid end : ScriptState) (lines others : List (List ℕ)) (told after : List LineReply) → ScriptRun start lines told mid → ScriptRun mid others after end → ScriptRun start (lines ++ others) (told ++ after) end
ScriptRun-then start _ end _ others _ after (script.ended _) more = more
ScriptRun-then start mid end _ others _ after (script.one_more _ line lines reply told next _ going replied run) more =
    script.one_more start line (lines ++ others) reply (told ++ after) next end going replied (ScriptRun-then next mid end lines others told after run more)

pub output-append : (told after : List LineReply) → output_of (told ++ after) ≡ output_of told ++ output_of after
output-append told after = flat_map-append (λ (r : LineReply). reply_text r ++ 10 ∷ []) told after

pub output-one : (reply : LineReply) → output_of (reply ∷ []) ≡ reply_text reply ++ 10 ∷ []
output-one reply = append-nil (reply_text reply ++ 10 ∷ [])

-- ---- all replies but the last

-- the same bytes in front of fewer and of more
longer : (front few many : List ℕ) (more : ℕ) → length few ≤ length many + more → length (front ++ few) ≤ length (front ++ many) + more
longer front few many more within = omega (arith, within, length-append front few, length-append front many)

-- they have no more bytes than all
pub but_last-fewer : (told : List LineReply) → length (output_of (but_last told)) ≤ length (output_of told)
but_last-fewer [] = omega arith
but_last-fewer (reply ∷ []) = omega arith
but_last-fewer (reply ∷ (next ∷ more)) =
    omega (arith, longer (reply_text reply ++ 10 ∷ []) (output_of (but_last (next ∷ more))) (output_of (next ∷ more)) 0 (omega (arith, but_last-fewer (next ∷ more))))

-- after others they have no more than these and all of theirs but the last
pub but_last-append : (told after : List LineReply) → length (output_of (but_last (told ++ after))) ≤ length (output_of told) + length (output_of (but_last after))
but_last-append [] after = omega arith
but_last-append (reply ∷ []) [] = omega arith
but_last-append (reply ∷ []) (next ∷ more) =
    longer (reply_text reply ++ 10 ∷ []) (output_of (but_last (next ∷ more))) [] (length (output_of (but_last (next ∷ more)))) (omega arith)
but_last-append (reply ∷ (next ∷ told)) after =
    longer (reply_text reply ++ 10 ∷ []) (output_of (but_last ((next ∷ told) ++ after))) (output_of (next ∷ told)) (length (output_of (but_last after))) (but_last-append (next ∷ told) after)

-- ---- what runs led to

pub RunsOver-ran : (start end : ScriptState) (lines : List (List ℕ)) (told : List LineReply) → IsLawfulStanding start → ScriptRun start lines told end → RunsOver start lines end told
RunsOver-ran start end lines told stands run =
    let goes = runs_lawfully start end lines told stands run in
    record {
      added = goes.added;
      run = run;
      base_stays = goes.base_stays;
      events_are = goes.events_are;
      headline = Headline-lawful (authority_under start.secrets) end.base end.events (subst (λ (k : Secrets). script.IsLawfulUnder k end) goes.secrets_stay goes.stands.lawful);
    }

-- no line was answered
pub RunsOver-none : (start : ScriptState) → IsLawfulStanding start → RunsOver start [] start []
RunsOver-none start stands = RunsOver-ran start start [] [] stands (script.ended start)
