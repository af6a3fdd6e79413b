-- Lines that are answered over a store, one after the other.
use Rattle.std.proofs.Common.{◌≡◌, ◌↔◌, ℕ, ◌+◌, ◌≤◌, List, ◌∷◌, [], ◌++◌, length, true, false, Option, Some, None, refl, sym, ap, subst, ◌∙◌, append-nil, length-append, arith}
use Rattle.std.specs.Prelude.{◌≢◌, IsTrue, IsSome}
use Rattle.pcfs_ports.specs.Observable.{with_back, HoldsSome}
use Rattle.line_text.specs.Words.{HasNo}
use Rattle.line_framer.specs.Framing.{FramerState, IsFirst}
use Rattle.line_wire.specs.declared.reply.LineReply.{LineReply}
use Rattle.line_wire.specs.declared.reply.LineReply.TheVariants as replies
use Rattle.line_wire.specs.ReplyText.{reply_text, output_of}
use Rattle.pcfs_store.specs.Entries.{StoreEntry, happened, checkpointed, stopped as stop_mark}
use Rattle.pcfs_session.specs.Answered.{IsOutAt, IsMetAt, WasRun, AreAnswered, HaltsAt, AnswersHeld, HaltsWithin}
use Rattle.pcfs_session.specs.InterpreterView.{InterpreterView, standing_of}
use Rattle.session_loop.specs.Written.{but_last}
use Rattle.pcfs_session.specs.Outbox.{GoesOut, HoldsAllBut, missing_after}
use Rattle.pcfs_session.specs.ScriptContext.{ScriptContext}
use Rattle.pcfs_session.specs.ScriptRun.{ScriptState, IsLawfulStanding, standing_after, Becomes, IsReplied}
use Rattle.pcfs_session.specs.ScriptRun as script
use Rattle.pcfs_session.specs.Stored.{IsStopFor, LeadsTo}
use Rattle.pcfs_session.specs.Taken.{AreFirst}
use Rattle.pcfs_session.specs.declared.outbox.SendFault.{SendFault}
use Rattle.pcfs_session.specs.declared.outbox.SendFault.TheVariants.{Write, NoMemory}
use Rattle.pcfs_session.specs.declared.script_end.Halt.{Halt}
use Rattle.pcfs_session.specs.declared.script_end.Halt.TheVariants.{Unsent, Stopped}
use Rattle.pcfs_session.proofs.LawfulRunLemmas.{IsLawfulStanding-run}
use Rattle.pcfs_session.proofs.OutboxLemmas.{GoesOut-none, GoesOut-all, GoesOut-whole, GoesOut-then, out_then, HoldsAllBut-fewer, HoldsAllBut-collected, most_then, most_collected, most_unsent}
use Rattle.pcfs_session.proofs.ScriptLemmas.{ScriptRun-then, output-append, output-one, but_last-fewer, but_last-append}
use Rattle.pcfs_session.proofs.StoredLemmas.{none_some, StoreGoesOn-on, StoreGoesOn-same, runs_for}
use Rattle.pcfs_session.proofs.TakenLemmas.{AreFirst-none, AreFirst-more}

-- a store that did not stop met nothing
met_nothing : (stop : Option ℕ) (met : Option StoreEntry) → IsStopFor stop met → stop ≡ None → met ≡ None
met_nothing None None is running = refl
met_nothing None (Some event) is running = absurd is
met_nothing (Some pass) met is running = absurd cc

-- a store that stopped met an event
met_some : (stop : Option ℕ) (met : Option StoreEntry) → IsStopFor stop met → IsSome stop → (entry : StoreEntry) × (met ≡ Some entry)
met_some None None is some = absurd cc
met_some None (Some event) is some = absurd is
met_some (Some pass) None is some = absurd is
met_some (Some pass) (Some event) is some = (event, refl)

not_some : (stop : Option ℕ) → (IsTrue false ↔ IsSome stop) → stop ≡ None
not_some None tells = refl
not_some (Some pass) tells = let is : IsTrue false = tells.1 refl in absurd cc

-- if the output failed or memory ran out for a reply, no disk had failed
unmet : (fault : SendFault) (met : Option StoreEntry) → met ≡ None → IsMetAt (Unsent fault) met
unmet Write met none = tt
unmet NoMemory met none = none

-- ---- the reply to a line that met the fault of a disk

met_none : (before : ScriptState) (entry : Option StoreEntry) (asker : ScriptContext) → (standing_after before entry asker).met ≡ before.met
met_none before None asker = refl
met_none before (Some (happened event)) asker = refl
met_none before (Some (checkpointed pass)) asker = refl
met_none before (Some (stop_mark pass met)) asker = refl

-- what it became
told_stopped : (before : ScriptState) (told : LineReply) (asker : ScriptContext) (added : Option StoreEntry) (reply : LineReply) (after : ScriptState) (met : StoreEntry) → before.met ≡ None → after.met ≡ Some met → Becomes before told asker added reply after → reply ≡ replies.Stopped
told_stopped before told asker _ _ _ met running is (script.kept added room) = none_some met (sym running ∙ sym (met_none before added asker) ∙ is)
told_stopped before told asker _ _ _ met running is (script.full entry full) = none_some met (sym running ∙ is)
told_stopped before told asker _ _ _ met running is (script.stopped entry room) = refl

is_stopped : (line : List ℕ) (before : ScriptState) (reply : LineReply) (after : ScriptState) (met : StoreEntry) → before.met ≡ None → after.met ≡ Some met → IsReplied line before reply after → reply ≡ replies.Stopped
is_stopped line before _ _ met running is (script.answered told added asker reply after answers becomes) = told_stopped before told asker added reply after met running is becomes
is_stopped line before _ _ met running is script.without_memory = none_some met (sym running ∙ is)

-- ---- what is out

-- of what was collected, told and told then
out_at-then : (buffered : ℕ) (halt : Halt) (held between held_after : Option (List ℕ)) (collected told kept earlier more : List ℕ) → GoesOut held (collected ++ told) between kept → IsOutAt buffered halt between held_after (kept ++ earlier) (kept ++ more) → IsOutAt buffered halt held held_after (collected ++ (told ++ earlier)) (collected ++ (told ++ more))
out_at-then buffered (Unsent fault) held between held_after collected told kept earlier more first most = most_then (missing_after buffered fault) held held_after between collected told kept earlier more first most
out_at-then buffered Stopped held between held_after collected told kept earlier more first all = out_then held between held_after collected told kept more first all

-- of fewer earlier bytes
out_at-fewer : (buffered : ℕ) (halt : Halt) (held held_after : Option (List ℕ)) (earlier fewer all : List ℕ) → length fewer ≤ length earlier → IsOutAt buffered halt held held_after earlier all → IsOutAt buffered halt held held_after fewer all
out_at-fewer buffered (Unsent fault) held held_after earlier fewer all less most = HoldsAllBut-fewer (missing_after buffered fault) held held_after earlier fewer all less most
out_at-fewer buffered Stopped held held_after earlier fewer all less out = out

-- of replies and of replies after them
replies_out : (buffered : ℕ) (halt : Halt) (held between held_after : Option (List ℕ)) (collected kept : List ℕ) (told after : List LineReply) → GoesOut held (collected ++ output_of told) between kept →
    IsOutAt buffered halt between held_after (kept ++ output_of (but_last after)) (kept ++ output_of after) → IsOutAt buffered halt held held_after (collected ++ output_of (but_last (told ++ after))) (collected ++ output_of (told ++ after))
replies_out buffered halt held between held_after collected kept told after first next =
    let all = subst (λ (b : List ℕ). IsOutAt buffered halt held held_after (collected ++ (output_of told ++ output_of (but_last after))) (collected ++ b)) (sym (output-append told after))
    (out_at-then buffered halt held between held_after collected (output_of told) kept (output_of (but_last after)) (output_of after) first next) in
    out_at-fewer buffered halt held held_after (collected ++ (output_of told ++ output_of (but_last after))) (collected ++ output_of (but_last (told ++ after))) (collected ++ output_of (told ++ after))
    (omega (arith, but_last-append told after, length-append collected (output_of (but_last (told ++ after))), length-append collected (output_of told ++ output_of (but_last after)), length-append (output_of told) (output_of (but_last after)))) all

module _ {D : Type 0} (clock : D → ℕ) (left_since : D → ℕ → List ℕ → Type 0) (image : D → Option (List ℕ)) (faults : D → ℕ) where
  abbrev Was : List (List ℕ) → InterpreterView D → InterpreterView D → Option StoreEntry → List LineReply → Type 0
  Was lines old new met told = WasRun clock left_since image faults lines old new met told

  abbrev Answered : List (List ℕ) → InterpreterView D → InterpreterView D → Option (List ℕ) → List ℕ → Option (List ℕ) → List ℕ → Type 0
  Answered lines old new held collected held_after after = AreAnswered clock left_since image faults lines old new held collected held_after after

  abbrev Halts : ℕ → List (List ℕ) → InterpreterView D → InterpreterView D → Option (List ℕ) → List ℕ → Halt → Option (List ℕ) → Type 0
  Halts buffered lines old new held collected halt held_after = HaltsAt clock left_since image faults buffered lines old new held collected halt held_after

  abbrev Leads : List ℕ → InterpreterView D → LineReply → InterpreterView D → Type 0
  Leads line old reply new = LeadsTo clock left_since image faults (IsReplied line) old reply new

  -- ---- where lines lead

  pub WasRun-then : (lines others : List (List ℕ)) (old mid new : InterpreterView D) (met : Option StoreEntry) (told after : List LineReply) → Was lines old mid None told → Was others mid new met after → Was (lines ++ others) old new met (told ++ after)
  WasRun-then lines others old mid new met told after one other = record {
    run = ScriptRun-then (standing_of old None) (standing_of mid None) (standing_of new met) lines others told after one.run other.run;
    goes_on = StoreGoesOn-on clock left_since image faults old.store mid.store new.store met one.goes_on other.goes_on;
  }

  pub WasRun-none : (i : InterpreterView D) → i.store.stop ≡ None → Was [] i i None []
  WasRun-none i running = record { run = script.ended (standing_of i None); goes_on = StoreGoesOn-same clock left_since image faults i.store running }

  -- where no disk failed the script goes on, lawfully
  pub runs_on : (lines : List (List ℕ)) (old new : InterpreterView D) (told : List LineReply) → Was lines old new None told → new.store.stop ≡ None
  runs_on lines old new told was = runs_for new.store.stop was.goes_on.stop_for

  pub lawful_on : (lines : List (List ℕ)) (old new : InterpreterView D) (told : List LineReply) → IsLawfulStanding (standing_of old None) → Was lines old new None told → IsLawfulStanding (standing_of new None)
  lawful_on lines old new told stands was = IsLawfulStanding-run (standing_of old None) (standing_of new None) lines told stands was.run

  pub AreAnswered-none : (i : InterpreterView D) (held : Option (List ℕ)) (collected : List ℕ) → i.store.stop ≡ None → Answered [] i i held collected held collected
  AreAnswered-none i held collected running = record { told = []; was = WasRun-none i running; out = subst (λ (b : List ℕ). GoesOut held b held collected) (sym (append-nil collected)) (GoesOut-none held collected) }

  pub AreAnswered-then : (lines others : List (List ℕ)) (old mid new : InterpreterView D) (held between held_after : Option (List ℕ)) (collected kept after : List ℕ) → Answered lines old mid held collected between kept → Answered others mid new between kept held_after after →
      Answered (lines ++ others) old new held collected held_after after
  AreAnswered-then lines others old mid new held between held_after collected kept after one other = record {
    told = one.told ++ other.told;
    was = WasRun-then lines others old mid new None one.told other.told one.was other.was;
    out =
        subst (λ (b : List ℕ). GoesOut held (collected ++ b) held_after after) (sym (output-append one.told other.told))
        (GoesOut-then held between held_after collected (output_of one.told) kept (output_of other.told) after one.out other.out);
  }

  pub HaltsAt-then : (buffered : ℕ) (lines others : List (List ℕ)) (old mid new : InterpreterView D) (held between held_after : Option (List ℕ)) (collected kept : List ℕ) (halt : Halt) → Answered lines old mid held collected between kept → Halts buffered others mid new between kept halt held_after →
      Halts buffered (lines ++ others) old new held collected halt held_after
  HaltsAt-then buffered lines others old mid new held between held_after collected kept halt one other = record {
    told = one.told ++ other.told;
    met = other.met;
    was = WasRun-then lines others old mid new other.met one.told other.told one.was other.was;
    is_met = other.is_met;
    out = replies_out buffered halt held between held_after collected kept one.told other.told one.out other.out;
  }

  -- no line more was answered, but the output failed
  pub HaltsAt-unsent : (buffered : ℕ) (lines : List (List ℕ)) (old new : InterpreterView D) (held between held_after : Option (List ℕ)) (collected kept : List ℕ) → Answered lines old new held collected between kept → length kept ≤ buffered → HoldsSome between held_after kept →
      Halts buffered lines old new held collected (Unsent Write) held_after
  HaltsAt-unsent buffered lines old new held between held_after collected kept one few some = record {
    told = one.told;
    met = None;
    was = one.was;
    is_met = tt;
    out =
        most_collected buffered held held_after between (collected ++ output_of one.told) kept (collected ++ output_of (but_last one.told)) one.out some few
        (omega (arith, but_last-fewer one.told, length-append collected (output_of one.told), length-append collected (output_of (but_last one.told))));
  }

  -- ---- one line

  one_line : (line : List ℕ) (old new : InterpreterView D) (reply : LineReply) → (l : Leads line old reply new) → Was (line ∷ []) old new l.met (reply ∷ [])
  one_line line old new reply l = record {
    run = script.one_more (standing_of old None) line [] reply [] (standing_of new l.met) (standing_of new l.met) refl l.holds (script.ended (standing_of new l.met));
    goes_on = l.goes_on;
  }

  one_out : (held held_after : Option (List ℕ)) (collected after : List ℕ) (reply : LineReply) → GoesOut held (collected ++ (reply_text reply ++ 10 ∷ [])) held_after after → GoesOut held (collected ++ output_of (reply ∷ [])) held_after after
  one_out held held_after collected after reply out = subst (λ (b : List ℕ). GoesOut held (collected ++ b) held_after after) (sym (output-one reply)) out

  pub AreAnswered-line : (line : List ℕ) (old new : InterpreterView D) (reply : LineReply) (held held_after : Option (List ℕ)) (collected after : List ℕ) → Leads line old reply new → (IsTrue false ↔ IsSome new.store.stop) →
      GoesOut held (collected ++ (reply_text reply ++ 10 ∷ [])) held_after after → Answered (line ∷ []) old new held collected held_after after
  AreAnswered-line line old new reply held held_after collected after l tells out = record {
    told = reply ∷ [];
    was = subst (λ (m : Option StoreEntry). Was (line ∷ []) old new m (reply ∷ [])) (met_nothing new.store.stop l.met l.goes_on.stop_for (not_some new.store.stop tells)) (one_line line old new reply l);
    out = one_out held held_after collected after reply out;
  }

  -- its reply was not sent
  pub HaltsAt-line : (buffered : ℕ) (line : List ℕ) (old new : InterpreterView D) (reply : LineReply) (held held_after : Option (List ℕ)) (collected : List ℕ) (fault : SendFault) → Leads line old reply new → (IsTrue false ↔ IsSome new.store.stop) → length collected ≤ buffered →
      HoldsSome held held_after (collected ++ (reply_text reply ++ 10 ∷ [])) → (fault ≡ NoMemory → held_after ≡ with_back held collected) → Halts buffered (line ∷ []) old new held collected (Unsent fault) held_after
  HaltsAt-line buffered line old new reply held held_after collected fault l tells few some out = record {
    told = reply ∷ [];
    met = l.met;
    was = one_line line old new reply l;
    is_met = unmet fault l.met (met_nothing new.store.stop l.met l.goes_on.stop_for (not_some new.store.stop tells));
    out = subst (λ (b : List ℕ). HoldsAllBut (missing_after buffered fault) held held_after (collected ++ []) (collected ++ b)) (sym (output-one reply)) (most_unsent buffered fault held held_after collected (reply_text reply ++ 10 ∷ []) few some out);
  }

  -- what is told where a disk failed for it
  stopped_line : (line : List ℕ) (old new : InterpreterView D) (reply : LineReply) (l : Leads line old reply new) (met : StoreEntry) → l.met ≡ Some met → reply_text replies.Stopped ++ 10 ∷ [] ≡ output_of (reply ∷ [])
  stopped_line line old new reply l met is =
      sym (output-one replies.Stopped) ∙ ap (λ (r : LineReply). output_of (r ∷ [])) (sym (is_stopped line (standing_of old None) reply (standing_of new l.met) met refl is l.holds))

  -- a disk failed for it
  pub HaltsAt-stopped : (buffered : ℕ) (line : List ℕ) (old new : InterpreterView D) (reply : LineReply) (held held_after : Option (List ℕ)) (collected : List ℕ) (halt : Halt) → Leads line old reply new → (IsTrue true ↔ IsSome new.store.stop) → length collected ≤ buffered → halt ≢ Unsent NoMemory →
      (halt ≡ Stopped → held_after ≡ with_back held (collected ++ (reply_text replies.Stopped ++ 10 ∷ []))) → (halt ≡ Unsent Write → HoldsSome held held_after (collected ++ (reply_text replies.Stopped ++ 10 ∷ []))) → Halts buffered (line ∷ []) old new held collected halt held_after
  HaltsAt-stopped buffered line old new reply held held_after collected (Unsent Write) l tells few had all some =
      let met = met_some new.store.stop l.met l.goes_on.stop_for (tells.0 refl) in
      record {
        told = reply ∷ [];
        met = l.met;
        was = one_line line old new reply l;
        is_met = tt;
        out =
            subst (λ (b : List ℕ). HoldsAllBut buffered held held_after (collected ++ []) (collected ++ b)) (stopped_line line old new reply l met.0 met.1)
            (HoldsAllBut-collected buffered held held_after collected (reply_text replies.Stopped ++ 10 ∷ []) few (some refl));
      }
  HaltsAt-stopped buffered line old new reply held held_after collected (Unsent NoMemory) l tells few had all some = absurd (had refl)
  HaltsAt-stopped buffered line old new reply held held_after collected Stopped l tells few had all some =
      let met = met_some new.store.stop l.met l.goes_on.stop_for (tells.0 refl) in
      record {
        told = reply ∷ [];
        met = l.met;
        was = one_line line old new reply l;
        is_met = met;
        out = subst (λ (b : List ℕ). held_after ≡ with_back held (collected ++ b)) (stopped_line line old new reply l met.0 met.1) (all refl);
      }

  -- ---- the lines that a framer holds

  module _ (bytes : List ℕ) (start : InterpreterView D) (held : Option (List ℕ)) (collected : List ℕ) where
    -- the first lines of the bytes were answered, and this is left
    pub record IsAnswering (now : InterpreterView D) (left : List ℕ) (held_now : Option (List ℕ)) (collected_now : List ℕ) : Type 0 where
      pub lines : List (List ℕ)
      pub first : AreFirst bytes lines left
      pub answered : Answered lines start now held collected held_now collected_now

    pub IsAnswering-start : start.store.stop ≡ None → IsAnswering start bytes held collected
    IsAnswering-start running = record { lines = []; first = AreFirst-none bytes; answered = AreAnswered-none start held collected running }

    pub IsAnswering-more : (now next : InterpreterView D) (left line rest : List ℕ) (held_now held_next : Option (List ℕ)) (collected_now collected_next : List ℕ) → IsAnswering now left held_now collected_now → IsFirst left line rest → length line ≤ 262144 →
        Answered (line ∷ []) now next held_now collected_now held_next collected_next → IsAnswering next rest held_next collected_next
    IsAnswering-more now next left line rest held_now held_next collected_now collected_next so_far is few one = record {
      lines = so_far.lines ++ line ∷ [];
      first = AreFirst-more bytes so_far.lines left line rest so_far.first is few;
      answered = AreAnswered-then so_far.lines (line ∷ []) start now next held held_now held_next collected collected_now collected_next so_far.answered one;
    }

    -- and the framer took that line
    pub IsAnswering-taken : (now next : InterpreterView D) (before after : FramerState) (line rest : List ℕ) (held_now held_next : Option (List ℕ)) (collected_now collected_next : List ℕ) → IsAnswering now before.left held_now collected_now → IsFirst before.left line rest → length line ≤ 262144 →
        after ≡ record before { left = rest } → Answered (line ∷ []) now next held_now collected_now held_next collected_next → IsAnswering next after.left held_next collected_next
    IsAnswering-taken now next before after line rest held_now held_next collected_now collected_next so_far first few taken one =
        subst (λ (f : FramerState). IsAnswering next f.left held_next collected_next) (sym taken)
        (IsAnswering-more now next before.left line rest held_now held_next collected_now collected_next so_far first few one)

    pub AnswersHeld-all : (now : InterpreterView D) (left : List ℕ) (held_now : Option (List ℕ)) (collected_now : List ℕ) → IsAnswering now left held_now collected_now → HasNo 10 left → AnswersHeld clock left_since image faults bytes left start now held collected held_now collected_now
    AnswersHeld-all now left held_now collected_now so_far none = record { lines = so_far.lines; first = so_far.first; no_more = none; answered = so_far.answered }

    pub HaltsWithin-at : (buffered : ℕ) (now next : InterpreterView D) (left line rest : List ℕ) (held_now held_after : Option (List ℕ)) (collected_now : List ℕ) (halt : Halt) → IsAnswering now left held_now collected_now → IsFirst left line rest → length line ≤ 262144 →
        Halts buffered (line ∷ []) now next held_now collected_now halt held_after → HaltsWithin clock left_since image faults buffered bytes start next held collected halt held_after
    HaltsWithin-at buffered now next left line rest held_now held_after collected_now halt so_far is few one = record {
      lines = so_far.lines ++ line ∷ [];
      rest = rest;
      first = AreFirst-more bytes so_far.lines left line rest so_far.first is few;
      halts = HaltsAt-then buffered so_far.lines (line ∷ []) start now next held held_now held_after collected collected_now halt so_far.answered one;
    }

  -- all were answered, and the output failed then
  pub HaltsWithin-unsent : (buffered : ℕ) (bytes left : List ℕ) (old new : InterpreterView D) (held between held_after : Option (List ℕ)) (collected kept : List ℕ) → AnswersHeld clock left_since image faults bytes left old new held collected between kept → length kept ≤ buffered →
      HoldsSome between held_after kept → HaltsWithin clock left_since image faults buffered bytes old new held collected (Unsent Write) held_after
  HaltsWithin-unsent buffered bytes left old new held between held_after collected kept all few some = record {
    lines = all.lines;
    rest = left;
    first = all.first;
    halts = HaltsAt-unsent buffered all.lines old new held between held_after collected kept all.answered few some;
  }

  -- and the replies that were collected went out
  pub AnswersHeld-out : (bytes left : List ℕ) (old new : InterpreterView D) (held between held_after : Option (List ℕ)) (collected kept none : List ℕ) → AnswersHeld clock left_since image faults bytes left old new held collected between kept →
      held_after ≡ with_back between kept → none ≡ [] → AnswersHeld clock left_since image faults bytes left old new held collected held_after none
  AnswersHeld-out bytes left old new held between held_after collected kept none all written empty = record {
    lines = all.lines;
    first = all.first;
    no_more = all.no_more;
    answered = record {
      told = all.answered.told;
      was = all.answered.was;
      out = GoesOut-all held held_after (collected ++ output_of all.answered.told) none (GoesOut-whole held between held_after (collected ++ output_of all.answered.told) kept all.answered.out written) empty;
    };
  }
