-- How a script ends, by what was taken and answered.
use Rattle.std.proofs.Common.{◌≡◌, inl, inr, ◌≤◌, ◌+◌, ℕ, List, [], ◌∷◌, ◌++◌, length, false, Option, None, refl, sym, ap, ◌∙◌, subst, append-nil, append_assoc, length-append, arith}
use Rattle.std.specs.List.{AllByRecursion}
use Rattle.pcfs_ports.specs.Faults.{HasRisen}
use Rattle.pcfs_ports.specs.Observable.{with_front, with_back, IsAtEnd, HoldsSome}
use Rattle.pcfs_ports.proofs.TakesLemmas.{first_of_taken}
use Rattle.line_text.specs.Lines.{lines_of}
use Rattle.line_text.specs.Words.{HasNo}
use Rattle.line_framer.specs.Framing.{FramerState, ended, IsLine}
use Rattle.line_framer.specs.Scanning.{HasLong}
use Rattle.line_framer.specs.Feeding.{AreShort, IsFed, IsTooLong, already, with_piece, IsNotFed}
use Rattle.line_framer.specs.declared.framer.FeedFault.{FeedFault}
use Rattle.line_framer.specs.declared.framer.FeedFault.TheVariants.{TooLong}
use Rattle.line_framer.proofs.FramingLemmas.{last_line, lines_of-whole}
use Rattle.line_wire.specs.declared.reply.LineReply.{LineReply}
use Rattle.line_wire.specs.declared.reply.LineReply.TheVariants.{TooLong as TooLongReply}
use Rattle.line_wire.specs.ReplyText.{reply_text, output_of}
use Rattle.pcfs_store.specs.Entries.{StoreEntry}
use Rattle.pcfs_session.specs.Answered.{long_line_told, IsFinished, WasRun, AreAnswered, HaltsAt, AnswersHeld, HaltsWithin, AnswersPiece, LongEnds, long_told, long_untold, long_halted, PieceEnds, at_long_line, piece_halted, LastEnds, all_answered, last_halted}
use Rattle.pcfs_session.specs.Ends.{unsent_end, halted_end}
use Rattle.pcfs_session.specs.InterpreterView.{InterpreterView, standing_of}
use Rattle.session_loop.specs.Written.{but_last}
use Rattle.pcfs_session.specs.Outbox.{HoldsAllBut, HoldsButBuffered, missing_after}
use Rattle.pcfs_session.specs.ScriptEnds.{RunsOver, IsUnderWay, ScriptWrites, ScriptEnds}
use Rattle.pcfs_session.specs.ScriptEnds as ends
use Rattle.pcfs_session.specs.ScriptRun.{ScriptState, IsLawfulStanding}
use Rattle.pcfs_session.specs.Stored.{AnswersScript}
use Rattle.pcfs_session.specs.Streams.{Streams}
use Rattle.pcfs_session.specs.Taken.{AreAllTaken, IsCutAtLong}
use Rattle.pcfs_session.specs.declared.outbox.SendFault.{SendFault}
use Rattle.pcfs_session.specs.declared.outbox.SendFault.TheVariants.{Write, NoMemory}
use Rattle.pcfs_session.specs.declared.script_end.Halt.{Halt}
use Rattle.pcfs_session.specs.declared.script_end.Halt.TheVariants.{Unsent, Stopped}
use Rattle.pcfs_session.specs.declared.script_end.ScriptEnd.{ScriptEnd}
use Rattle.pcfs_session.specs.declared.script_end.ScriptEnd.TheVariants as script_ends
use Rattle.pcfs_session.proofs.AnsweredLemmas.{WasRun-then, WasRun-none, HaltsAt-then, HaltsAt-unsent, AreAnswered-none, AreAnswered-then, lawful_on, runs_on}
use Rattle.pcfs_session.proofs.OutboxLemmas.{with_back-nil, all_out, out_then, HoldsAllBut-fewer, most_then, most_unsent, GoesOut-whole}
use Rattle.pcfs_session.proofs.ScriptLemmas.{RunsOver-ran, RunsOver-none, output-append, output-one, but_last-append}
use Rattle.pcfs_session.proofs.StoredLemmas.{StoreGoesOn-same}
use Rattle.pcfs_session.proofs.TakenLemmas.{with_front-with_front, with_front-nil, ReadsToEnd-taken, AreFirst-none, AreFirst-then, AreShort-then, AreShort-last, AreShort-open, few_left, few_rest, HasLong-then, IsBefore-long, same_lines}

-- ---- which end

-- if the output failed, it failed for a reply
pub unsent_write : (fault : SendFault) (how : ScriptEnd) → how ≡ unsent_end fault → how ≡ script_ends.WriteFault → fault ≡ Write
unsent_write Write how is same = refl
unsent_write NoMemory how is same = absurd cc

pub halted_write : (halt : Halt) (how : ScriptEnd) → how ≡ halted_end halt → how ≡ script_ends.WriteFault → halt ≡ Unsent Write
halted_write (Unsent fault) how is same = ap Unsent (unsent_write fault how is same)
halted_write Stopped how is same = absurd cc

-- ---- nothing was answered

-- no byte of none is missing
none_told : (missing : ℕ) (held held_after : Option (List ℕ)) → held_after ≡ held → HoldsButBuffered missing held held_after []
none_told missing held held_after same = record { some = record { count = 0; within = omega arith; held = same ∙ with_back-nil held }; few = omega arith }

-- memory ran out before anything was taken
pub ScriptEnds-unbegun : (buffered : ℕ) (start : ScriptState) (before after : Streams) → IsLawfulStanding start → start.met ≡ None → after.left ≡ before.left → after.held ≡ before.held → ScriptEnds buffered start start before after script_ends.NoMemory
ScriptEnds-unbegun buffered start before after stands running left held =
    ends.out_of_memory []
    (ends.while_reading [] (record { bytes = []; rest = []; taken = with_front-nil before.left ∙ ap (with_front []) (sym left); first = AreFirst-none []; few = omega arith }) (RunsOver-none start stands))
    running (none_told 0 before.held after.held held)

-- ---- the line that tells that a line is too long

long_replies : (told : List LineReply) → output_of told ++ long_line_told ≡ output_of (told ++ TooLongReply ∷ [])
long_replies told = sym (output-append told (TooLongReply ∷ []) ∙ ap (λ (b : List ℕ). output_of told ++ b) (output-one TooLongReply))

-- it is the last reply
long_missing : (missing : ℕ) (held held_after : Option (List ℕ)) (told : List LineReply) → HoldsAllBut missing held held_after (output_of told) (output_of told ++ long_line_told) → HoldsButBuffered missing held held_after (told ++ TooLongReply ∷ [])
long_missing missing held held_after told most =
    HoldsAllBut-fewer missing held held_after (output_of told) (output_of (but_last (told ++ TooLongReply ∷ []))) (output_of (told ++ TooLongReply ∷ [])) (omega (arith, but_last-append told (TooLongReply ∷ [])))
    (subst (HoldsAllBut missing held held_after (output_of told)) (long_replies told) most)

module _ {D : Type 0} (clock : D → ℕ) (left_since : D → ℕ → List ℕ → Type 0) (image : D → Option (List ℕ)) (faults : D → ℕ) where
  abbrev Was : List (List ℕ) → InterpreterView D → InterpreterView D → Option StoreEntry → List LineReply → Type 0
  Was lines old new met told = WasRun clock left_since image faults lines old new met told

  abbrev Answered : List (List ℕ) → InterpreterView D → InterpreterView D → Option (List ℕ) → List ℕ → Option (List ℕ) → List ℕ → Type 0
  Answered lines old new held collected held_after after = AreAnswered clock left_since image faults lines old new held collected held_after after

  abbrev Halts : ℕ → List (List ℕ) → InterpreterView D → InterpreterView D → Option (List ℕ) → List ℕ → Halt → Option (List ℕ) → Type 0
  Halts buffered lines old new held collected halt held_after = HaltsAt clock left_since image faults buffered lines old new held collected halt held_after

  abbrev Within : ℕ → List ℕ → InterpreterView D → InterpreterView D → Option (List ℕ) → List ℕ → Halt → Option (List ℕ) → Type 0
  Within buffered bytes old new held collected halt held_after = HaltsWithin clock left_since image faults buffered bytes old new held collected halt held_after

  -- ---- a line that is too long

  -- the lines before it were answered
  all_lines : (lines : List (List ℕ)) (bytes left : List ℕ) (old new : InterpreterView D) (held held_after : Option (List ℕ)) (collected kept : List ℕ) → AllByRecursion IsLine lines → bytes ≡ ended lines →
      AnswersHeld clock left_since image faults bytes left old new held collected held_after kept → Answered lines old new held collected held_after kept
  all_lines lines bytes left old new held held_after collected kept whole same all =
      subst (λ (ls : List (List ℕ)). Answered ls old new held collected held_after kept) (sym (same_lines lines all.lines left whole all.first.whole all.no_more (sym same ∙ all.first.parts))) all.answered

  pub LongEnds-told : (buffered : ℕ) (lines : List (List ℕ)) (bytes left : List ℕ) (old new : InterpreterView D) (held between held_after : Option (List ℕ)) (collected kept : List ℕ) → collected ≡ [] → AllByRecursion IsLine lines → bytes ≡ ended lines →
      AnswersHeld clock left_since image faults bytes left old new held collected between kept → held_after ≡ with_back between (kept ++ long_line_told) → LongEnds clock left_since image faults buffered lines old new held held_after script_ends.LineTooLong
  LongEnds-told buffered lines bytes left old new held between held_after collected kept empty whole same all out =
      let a = subst (λ (c : List ℕ). Answered lines old new held c between kept) empty (all_lines lines bytes left old new held between collected kept whole same all) in
      long_told a.told a.was (out_then held between held_after [] (output_of a.told) kept long_line_told a.out out)

  pub LongEnds-untold : (buffered : ℕ) (lines : List (List ℕ)) (bytes left : List ℕ) (old new : InterpreterView D) (held between held_after : Option (List ℕ)) (collected kept : List ℕ) (fault : SendFault) (how : ScriptEnd) → how ≡ unsent_end fault → collected ≡ [] →
      AllByRecursion IsLine lines → bytes ≡ ended lines → AnswersHeld clock left_since image faults bytes left old new held collected between kept → length kept ≤ buffered → HoldsSome between held_after (kept ++ long_line_told) →
      (fault ≡ NoMemory → held_after ≡ with_back between kept) → LongEnds clock left_since image faults buffered lines old new held held_after how
  LongEnds-untold buffered lines bytes left old new held between held_after collected kept fault how is empty whole same all few some out =
      let a = subst (λ (c : List ℕ). Answered lines old new held c between kept) empty (all_lines lines bytes left old new held between collected kept whole same all) in
      let most = most_then (missing_after buffered fault) held held_after between [] (output_of a.told) kept [] long_line_told a.out (most_unsent buffered fault between held_after kept long_line_told few some out) in
      subst (LongEnds clock left_since image faults buffered lines old new held held_after) (sym is)
      (long_untold a.told fault a.was (subst (λ (b : List ℕ). HoldsAllBut (missing_after buffered fault) held held_after b (output_of a.told ++ long_line_told)) (append-nil (output_of a.told)) most))

  pub LongEnds-halted : (buffered : ℕ) (lines : List (List ℕ)) (bytes : List ℕ) (old new : InterpreterView D) (held held_after : Option (List ℕ)) (collected : List ℕ) (halt : Halt) (how : ScriptEnd) → how ≡ halted_end halt → collected ≡ [] → bytes ≡ ended lines →
      Within buffered bytes old new held collected halt held_after → LongEnds clock left_since image faults buffered lines old new held held_after how
  LongEnds-halted buffered lines bytes old new held held_after collected halt how is empty same halts =
      subst (LongEnds clock left_since image faults buffered lines old new held held_after) (sym is)
      (long_halted halt (subst (λ (b : List ℕ). Within buffered b old new held [] halt held_after) same (subst (λ (c : List ℕ). Within buffered bytes old new held c halt held_after) empty halts)))

  -- ---- a piece

  -- the lines that have their end after it were answered
  pub AnswersPiece-held : (before after : FramerState) (piece left : List ℕ) (old new : InterpreterView D) (held held_after : Option (List ℕ)) (collected kept : List ℕ) → IsFed before piece after → collected ≡ [] → kept ≡ [] → AnswersHeld clock left_since image faults after.left left old new held collected held_after kept →
      AnswersPiece clock left_since image faults before.left piece left old new held held_after
  AnswersPiece-held before after piece left old new held held_after collected kept fed empty none all =
      subst (λ (f : FramerState). AnswersHeld clock left_since image faults f.left left old new held [] held_after []) fed.after_is
      (subst (λ (c : List ℕ). AnswersHeld clock left_since image faults after.left left old new held c held_after []) empty
      (subst (λ (k : List ℕ). AnswersHeld clock left_since image faults after.left left old new held collected held_after k) none all))

  pub few_held : (before after : FramerState) (piece left : List ℕ) (old new : InterpreterView D) (held held_after : Option (List ℕ)) (collected kept : List ℕ) → IsFed before piece after → AnswersHeld clock left_since image faults after.left left old new held collected held_after kept → length left ≤ 262144
  few_held before after piece left old new held held_after collected kept fed all = few_left after.left left all.lines all.first all.no_more (subst (λ (f : FramerState). AreShort f.left) (sym fed.after_is) fed.short)

  -- the framer that took a piece has a line that is too long
  long_ends : (buffered : ℕ) (before after : FramerState) (piece : List ℕ) (old new : InterpreterView D) (held held_after : Option (List ℕ)) (how : ScriptEnd) → before.is_long ≡ false → IsTooLong before piece after →
      ((lines : List (List ℕ)) → AllByRecursion IsLine lines → after.left ≡ ended lines → LongEnds clock left_since image faults buffered lines old new held held_after how) → PieceEnds clock left_since image faults buffered before.left piece old new held held_after how
  long_ends buffered before _ piece old new held held_after how not_long (already is) long = absurd cc
  long_ends buffered before _ piece old new held held_after how not_long (with_piece lines was has_long) long = at_long_line how lines has_long (long lines has_long.whole refl)

  pub PieceEnds-long : (buffered : ℕ) (before after : FramerState) (piece : List ℕ) (old new : InterpreterView D) (held held_after : Option (List ℕ)) (fault : FeedFault) (how : ScriptEnd) → fault ≡ TooLong → before.is_long ≡ false → IsNotFed before piece fault after →
      ((lines : List (List ℕ)) → AllByRecursion IsLine lines → after.left ≡ ended lines → LongEnds clock left_since image faults buffered lines old new held held_after how) → PieceEnds clock left_since image faults buffered before.left piece old new held held_after how
  PieceEnds-long buffered before after piece old new held held_after fault how is not_long not_fed long =
      long_ends buffered before after piece old new held held_after how not_long (subst (λ (f : FeedFault). IsNotFed before piece f after) is not_fed) long

  -- memory ran out for it
  pub PieceEnds-refused : (buffered : ℕ) (before piece : List ℕ) (i : InterpreterView D) (held held_after : Option (List ℕ)) → i.store.stop ≡ None → held_after ≡ held → PieceEnds clock left_since image faults buffered before piece i i held held_after script_ends.NoMemory
  PieceEnds-refused buffered before piece i held held_after running same =
      piece_halted (Unsent NoMemory) (record {
        lines = [];
        rest = before ++ piece;
        first = AreFirst-none (before ++ piece);
        halts = record { told = []; met = None; was = WasRun-none clock left_since image faults i running; is_met = refl; out = none_told 0 held held_after same };
      })

  pub PieceEnds-halted : (buffered : ℕ) (before piece bytes : List ℕ) (old new : InterpreterView D) (held held_after : Option (List ℕ)) (collected : List ℕ) (halt : Halt) (how : ScriptEnd) → how ≡ halted_end halt → collected ≡ [] → bytes ≡ before ++ piece →
      Within buffered bytes old new held collected halt held_after → PieceEnds clock left_since image faults buffered before piece old new held held_after how
  PieceEnds-halted buffered before piece bytes old new held held_after collected halt how is empty same halts =
      subst (PieceEnds clock left_since image faults buffered before piece old new held held_after) (sym is)
      (piece_halted halt (subst (λ (b : List ℕ). Within buffered b old new held [] halt held_after) same (subst (λ (c : List ℕ). Within buffered bytes old new held c halt held_after) empty halts)))

  -- ---- the last line

  -- there is none
  pub LastEnds-none : (buffered : ℕ) (bytes : List ℕ) (i : InterpreterView D) (held held_after : Option (List ℕ)) (collected : List ℕ) (how : ScriptEnd) → bytes ≡ [] → i.store.stop ≡ None → collected ≡ [] → IsFinished collected held how held_after →
      LastEnds clock left_since image faults buffered bytes i i held held_after how
  LastEnds-none buffered bytes i held held_after collected how none running empty (inl done) =
      subst (LastEnds clock left_since image faults buffered bytes i i held held_after) (sym done.0)
      (subst (λ (b : List ℕ). LastEnds clock left_since image faults buffered b i i held held_after script_ends.Done) (sym none)
      (all_answered [] tt (WasRun-none clock left_since image faults i running) (done.1 ∙ ap (with_back held) empty)))
  LastEnds-none buffered bytes i held held_after collected how none running empty (inr failed) =
      subst (LastEnds clock left_since image faults buffered bytes i i held held_after) (sym failed.0)
      (subst (λ (b : List ℕ). LastEnds clock left_since image faults buffered b i i held held_after script_ends.WriteFault) (sym none)
      (last_halted (Unsent Write) tt
      (record { told = []; met = None; was = WasRun-none clock left_since image faults i running; is_met = tt; out = record { some = subst (HoldsSome held held_after) empty failed.1; few = omega arith } })))

  -- it was answered
  pub LastEnds-line : (buffered : ℕ) (bytes line : List ℕ) (old new : InterpreterView D) (held between held_after : Option (List ℕ)) (collected kept : List ℕ) (how : ScriptEnd) → line ≡ bytes → HasNo 10 line → 1 ≤ length line → length line ≤ 262144 → collected ≡ [] →
      Answered (line ∷ []) old new held collected between kept → length kept ≤ buffered → IsFinished kept between how held_after → LastEnds clock left_since image faults buffered bytes old new held held_after how
  LastEnds-line buffered bytes line old new held between held_after collected kept how same one some few empty answered waiting (inl done) =
      let a = subst (λ (c : List ℕ). Answered (line ∷ []) old new held c between kept) empty answered in
      subst (LastEnds clock left_since image faults buffered bytes old new held held_after) (sym done.0)
      (subst (λ (b : List ℕ). LastEnds clock left_since image faults buffered b old new held held_after script_ends.Done) same
      (all_answered a.told (AreShort-last line one some few) (subst (λ (ls : List (List ℕ)). Was ls old new None a.told) (sym (last_line line one some)) a.was) (GoesOut-whole held between held_after (output_of a.told) kept a.out done.1)))
  LastEnds-line buffered bytes line old new held between held_after collected kept how same one some few empty answered waiting (inr failed) =
      let a = subst (λ (c : List ℕ). Answered (line ∷ []) old new held c between kept) empty answered in
      subst (LastEnds clock left_since image faults buffered bytes old new held held_after) (sym failed.0)
      (subst (λ (b : List ℕ). LastEnds clock left_since image faults buffered b old new held held_after script_ends.WriteFault) same
      (last_halted (Unsent Write) (AreShort-last line one some few)
      (subst (λ (ls : List (List ℕ)). Halts buffered ls old new held [] (Unsent Write) held_after) (sym (last_line line one some))
      (HaltsAt-unsent clock left_since image faults buffered (line ∷ []) old new held between held_after [] kept a waiting failed.1))))

  -- it halted
  pub LastEnds-halted : (buffered : ℕ) (bytes line : List ℕ) (old new : InterpreterView D) (held held_after : Option (List ℕ)) (collected : List ℕ) (halt : Halt) (how : ScriptEnd) → how ≡ halted_end halt → line ≡ bytes → HasNo 10 line → 1 ≤ length line → length line ≤ 262144 →
      collected ≡ [] → Halts buffered (line ∷ []) old new held collected halt held_after → LastEnds clock left_since image faults buffered bytes old new held held_after how
  LastEnds-halted buffered bytes line old new held held_after collected halt how is same one some few empty halts =
      subst (LastEnds clock left_since image faults buffered bytes old new held held_after) (sym is)
      (subst (λ (b : List ℕ). LastEnds clock left_since image faults buffered b old new held held_after (halted_end halt)) same
      (last_halted halt (AreShort-last line one some few)
      (subst (λ (ls : List (List ℕ)). Halts buffered ls old new held [] halt held_after) (sym (last_line line one some)) (subst (λ (c : List ℕ). Halts buffered (line ∷ []) old new held c halt held_after) empty halts))))

  -- ---- the script

  module _ (start : InterpreterView D) (before : Streams) where
    -- the input was taken so far: its lines that have their end were answered, and all replies are out. This is left of the bytes, of which there were so many
    pub record IsReading (now : InterpreterView D) (open_line : List ℕ) (left held : Option (List ℕ)) (count : ℕ) : Type 0 where
      pub lines : List (List ℕ)
      pub whole : AllByRecursion IsLine lines
      pub taken : before.left ≡ with_front (ended lines ++ open_line) left
      pub counted : length (ended lines ++ open_line) ≡ count
      pub is_open : IsLine open_line
      pub answered : Answered lines start now before.held [] held []

    pub IsReading-start : (open_line : List ℕ) → start.store.stop ≡ None → open_line ≡ [] → IsReading start open_line before.left before.held 0
    IsReading-start open_line running none =
        subst (λ (b : List ℕ). IsReading start b before.left before.held 0) (sym none)
        (record { lines = []; whole = tt; taken = with_front-nil before.left; counted = refl; is_open = record { one = refl; few = omega arith }; answered = AreAnswered-none clock left_since image faults start before.held [] running })

    pub running_now : (now : InterpreterView D) (open_line : List ℕ) (left held : Option (List ℕ)) (count : ℕ) → IsReading now open_line left held count → now.store.stop ≡ None
    running_now now open_line left held count r = runs_on clock left_since image faults r.lines start now r.answered.told r.answered.was

    pub lawful_now : (now : InterpreterView D) (open_line : List ℕ) (left held : Option (List ℕ)) (count : ℕ) → IsLawfulStanding (standing_of start None) → IsReading now open_line left held count → IsLawfulStanding (standing_of now None)
    lawful_now now open_line left held count stands r = lawful_on clock left_since image faults r.lines start now r.answered.told stands r.answered.was

    -- memory ran out before anything was taken
    pub AnswersScript-unbegun : (buffered : ℕ) (after : Streams) → IsLawfulStanding (standing_of start None) → start.store.stop ≡ None → after.left ≡ before.left → after.held ≡ before.held → AnswersScript clock left_since image faults buffered start before script_ends.NoMemory start after
    AnswersScript-unbegun buffered after stands running left held =
        record { met = None; ends = ScriptEnds-unbegun buffered (standing_of start None) before after stands refl left held; goes_on = StoreGoesOn-same clock left_since image faults start.store running }

    -- the bytes of a piece are taken too
    also_taken : (open_line piece : List ℕ) (lines : List (List ℕ)) (left left_after : Option (List ℕ)) → before.left ≡ with_front (ended lines ++ open_line) left → left ≡ with_front piece left_after →
        before.left ≡ with_front (ended lines ++ (open_line ++ piece)) left_after
    also_taken open_line piece lines left left_after taken more =
        taken ∙ ap (with_front (ended lines ++ open_line)) more ∙ with_front-with_front (ended lines ++ open_line) piece left_after
        ∙ ap (λ (b : List ℕ). with_front b left_after) (append_assoc (ended lines) open_line piece)

    -- the lines that a piece ended were answered
    pub IsReading-more : (now next : InterpreterView D) (open_line piece left_line : List ℕ) (left left_after held held_after : Option (List ℕ)) (count len : ℕ) → IsReading now open_line left held count → left ≡ with_front piece left_after → length piece ≡ len →
        AnswersHeld clock left_since image faults (open_line ++ piece) left_line now next held [] held_after [] → length left_line ≤ 262144 → IsReading next left_line left_after held_after (count + len)
    IsReading-more now next open_line piece left_line left left_after held held_after count len r more is_len all few =
        let first = AreFirst-then r.lines all.lines (open_line ++ piece) left_line r.whole all.first in
        record {
          lines = r.lines ++ all.lines;
          whole = first.whole;
          taken = also_taken open_line piece r.lines left left_after r.taken more ∙ ap (λ (b : List ℕ). with_front b left_after) first.parts;
          counted =
              omega (arith, ap length first.parts, r.counted, is_len, length-append (ended r.lines) open_line, length-append (ended r.lines) (open_line ++ piece), length-append open_line piece);
          is_open = record { one = all.no_more; few = few };
          answered = AreAnswered-then clock left_since image faults r.lines all.lines start now next before.held held held_after [] [] [] r.answered all.answered;
        }

    module _ (buffered : ℕ) (stands : IsLawfulStanding (standing_of start None)) (after : Streams) where
      runs_over : (lines : List (List ℕ)) (new : InterpreterView D) (met : Option StoreEntry) (told : List LineReply) → Was lines start new met told → RunsOver (standing_of start None) lines (standing_of new met) told
      runs_over lines new met told was = RunsOver-ran (standing_of start None) (standing_of new met) lines told stands was.run

      -- all lines that came with their ends
      all_taken : (now : InterpreterView D) (open_line : List ℕ) (held : Option (List ℕ)) (count : ℕ) → (r : IsReading now open_line after.left held count) → AreAllTaken before.left after.left r.lines
      all_taken now open_line held count r = record { bytes = ended r.lines ++ open_line; rest = open_line; taken = r.taken; first = record { whole = r.whole; parts = refl }; is_open = r.is_open }

      written_so_far : (now : InterpreterView D) (open_line : List ℕ) (count : ℕ) → (r : IsReading now open_line after.left after.held count) → after.held ≡ with_back before.held (output_of r.answered.told)
      written_so_far now open_line count r = all_out before.held after.held (output_of r.answered.told) r.answered.out

      pub AnswersScript-read_fault : (now : InterpreterView D) (open_line : List ℕ) (left : Option (List ℕ)) (count : ℕ) → IsReading now open_line left after.held count → after.left ≡ left → HasRisen before.read_faults after.read_faults → AnswersScript clock left_since image faults buffered start before script_ends.ReadFault now after
      AnswersScript-read_fault now open_line left count reading same risen =
          let r = subst (λ (l : Option (List ℕ)). IsReading now open_line l after.held count) (sym same) reading in
          record {
            met = None;
            ends =
                ends.written script_ends.ReadFault r.answered.told
                (ends.read_fault r.lines r.answered.told risen (all_taken now open_line after.held count r) (runs_over r.lines now None r.answered.told r.answered.was) refl) (written_so_far now open_line count r);
            goes_on = r.answered.was.goes_on;
          }

      pub AnswersScript-too_long : (now : InterpreterView D) (open_line : List ℕ) (count : ℕ) → IsReading now open_line after.left after.held count → count ≡ 1073741824 → AnswersScript clock left_since image faults buffered start before script_ends.InputTooLong now after
      AnswersScript-too_long now open_line count r all = record {
        met = None;
        ends =
            ends.written script_ends.InputTooLong r.answered.told
            (ends.input_too_long r.lines r.answered.told (first_of_taken (ended r.lines ++ open_line) 1073741824 before.left after.left (r.counted ∙ all) r.taken) (all_taken now open_line after.held count r)
            (runs_over r.lines now None r.answered.told r.answered.was) refl)
            (written_so_far now open_line count r);
        goes_on = r.answered.was.goes_on;
      }

      -- it halts, where the lines and their replies are those
      halted : (halt : Halt) (lines : List (List ℕ)) (new : InterpreterView D) → (h : Halts buffered lines start new before.held [] halt after.held) → IsUnderWay (standing_of start None) (standing_of new h.met) before after h.told →
          (halted_end halt ≡ script_ends.WriteFault → HasRisen before.write_faults after.write_faults) → AnswersScript clock left_since image faults buffered start before (halted_end halt) new after
      halted (Unsent Write) lines new h way risen = record { met = h.met; ends = ends.cut_short h.told (risen refl) way h.out; goes_on = h.was.goes_on }
      halted (Unsent NoMemory) lines new h way risen = record { met = h.met; ends = ends.out_of_memory h.told way h.is_met h.out; goes_on = h.was.goes_on }
      halted Stopped lines new h way risen =
          record { met = h.met; ends = ends.written script_ends.Stopped h.told (ends.stopped h.told h.is_met.0 way h.is_met.1) h.out; goes_on = h.was.goes_on }

      module _ (now new : InterpreterView D) (open_line piece : List ℕ) (left held : Option (List ℕ)) (count : ℕ) (r : IsReading now open_line left held count) where
        joined : (replies : List LineReply) (more : List ℕ) → output_of (r.answered.told ++ replies) ++ more ≡ output_of r.answered.told ++ (output_of replies ++ more)
        joined replies more = ap (λ (b : List ℕ). b ++ more) (output-append r.answered.told replies) ∙ append_assoc (output_of r.answered.told) (output_of replies) more

        -- what is out after the replies of before
        out_after : (replies : List LineReply) (more : List ℕ) → after.held ≡ with_back held (output_of replies ++ more) → after.held ≡ with_back before.held (output_of (r.answered.told ++ replies) ++ more)
        out_after replies more out =
            subst (λ (b : List ℕ). after.held ≡ with_back before.held b) (sym (joined replies more)) (out_then before.held held after.held [] (output_of r.answered.told) [] (output_of replies ++ more) r.answered.out out)

        most_after : (missing : ℕ) (replies : List LineReply) (more : List ℕ) → HoldsAllBut missing held after.held (output_of replies) (output_of replies ++ more) → HoldsAllBut missing before.held after.held (output_of (r.answered.told ++ replies)) (output_of (r.answered.told ++ replies) ++ more)
        most_after missing replies more most =
            subst (HoldsAllBut missing before.held after.held (output_of (r.answered.told ++ replies))) (sym (joined replies more))
            (subst (λ (b : List ℕ). HoldsAllBut missing before.held after.held b (output_of r.answered.told ++ (output_of replies ++ more))) (sym (output-append r.answered.told replies))
            (most_then missing before.held after.held held [] (output_of r.answered.told) [] (output_of replies) (output_of replies ++ more) r.answered.out most))

        -- at a line that a piece ended
        at_line : (halt : Halt) → left ≡ with_front piece after.left → length piece ≤ 65536 → (halted_end halt ≡ script_ends.WriteFault → HasRisen before.write_faults after.write_faults) → Within buffered (open_line ++ piece) now new held [] halt after.held →
            AnswersScript clock left_since image faults buffered start before (halted_end halt) new after
        at_line halt more small risen w =
            let first = AreFirst-then r.lines w.lines (open_line ++ piece) w.rest r.whole w.first in
            let h = HaltsAt-then clock left_since image faults buffered r.lines w.lines start now new before.held held after.held [] [] halt r.answered w.halts in
            halted halt (r.lines ++ w.lines) new h
            (ends.while_reading (r.lines ++ w.lines) (record { bytes = ended r.lines ++ (open_line ++ piece); rest = w.rest; taken = also_taken open_line piece r.lines left after.left r.taken more; first = first; few = few_rest open_line piece w.rest w.lines w.first r.is_open.few small })
            (runs_over (r.lines ++ w.lines) new h.met h.told h.was))
            risen

        -- the first lines of those before one that is too long
        within_long : (halt : Halt) (lines : List (List ℕ)) → HasLong (open_line ++ piece) lines → Within buffered (ended lines) now new held [] halt after.held → Within buffered (open_line ++ piece) now new held [] halt after.held
        within_long halt lines has w =
            let found = IsBefore-long (open_line ++ piece) lines has in
            record {
              lines = w.lines;
              rest = w.rest ++ found.rest;
              first = record { whole = w.first.whole; parts = found.first.parts ∙ ap (λ (b : List ℕ). b ++ found.rest) w.first.parts ∙ append_assoc (ended w.lines) w.rest found.rest };
              halts = w.halts;
            }

        cut_at : (lines : List (List ℕ)) → left ≡ with_front piece after.left → length piece ≤ 65536 → HasLong (open_line ++ piece) lines → IsCutAtLong before.left after.left (r.lines ++ lines)
        cut_at lines more small has = record {
          bytes = ended r.lines ++ open_line;
          piece = piece;
          taken = r.taken ∙ ap (with_front (ended r.lines ++ open_line)) more ∙ with_front-with_front (ended r.lines ++ open_line) piece after.left;
          short = AreShort-then r.lines open_line r.whole (AreShort-open open_line r.is_open);
          few = small;
          has_long = subst (λ (b : List ℕ). HasLong b (r.lines ++ lines)) (sym (append_assoc (ended r.lines) open_line piece)) (HasLong-then r.lines lines (open_line ++ piece) r.whole has);
        }

        -- the replies and that a line is too long were not all sent
        untold : (fault : SendFault) (replies : List LineReply) → (unsent_end fault ≡ script_ends.WriteFault → HasRisen before.write_faults after.write_faults) → ScriptWrites (standing_of start None) (standing_of new None) before after script_ends.LineTooLong replies →
            HoldsButBuffered (missing_after buffered fault) before.held after.held replies → ScriptEnds buffered (standing_of start None) (standing_of new None) before after (unsent_end fault)
        untold Write replies risen writes most = ends.cut_at_long_line replies (risen refl) writes most
        untold NoMemory replies risen writes most = ends.out_of_memory_at_long_line replies writes most

        -- before a line that is too long
        before_long : (how : ScriptEnd) (lines : List (List ℕ)) → left ≡ with_front piece after.left → length piece ≤ 65536 → (how ≡ script_ends.WriteFault → HasRisen before.write_faults after.write_faults) → HasLong (open_line ++ piece) lines →
            LongEnds clock left_since image faults buffered lines now new held after.held how → AnswersScript clock left_since image faults buffered start before how new after
        before_long _ lines more small risen has (long_told replies was out) =
            let both = WasRun-then clock left_since image faults r.lines lines start now new None r.answered.told replies r.answered.was was in
            record {
              met = None;
              ends =
                  ends.written script_ends.LineTooLong ((r.answered.told ++ replies) ++ TooLongReply ∷ [])
                  (ends.line_too_long (r.lines ++ lines) (r.answered.told ++ replies) (cut_at lines more small has) (runs_over (r.lines ++ lines) new None (r.answered.told ++ replies) both) refl)
                  (out_after replies long_line_told out ∙ ap (with_back before.held) (long_replies (r.answered.told ++ replies)));
              goes_on = both.goes_on;
            }
        before_long _ lines more small risen has (long_untold replies fault was most) =
            let both = WasRun-then clock left_since image faults r.lines lines start now new None r.answered.told replies r.answered.was was in
            record {
              met = None;
              ends =
                  untold fault ((r.answered.told ++ replies) ++ TooLongReply ∷ []) risen
                  (ends.line_too_long (r.lines ++ lines) (r.answered.told ++ replies) (cut_at lines more small has) (runs_over (r.lines ++ lines) new None (r.answered.told ++ replies) both) refl)
                  (long_missing (missing_after buffered fault) before.held after.held (r.answered.told ++ replies) (most_after (missing_after buffered fault) replies long_line_told most));
              goes_on = both.goes_on;
            }
        before_long _ lines more small risen has (long_halted halt w) = at_line halt more small risen (within_long halt lines has w)

        pub AnswersScript-piece : (how : ScriptEnd) → left ≡ with_front piece after.left → length piece ≤ 65536 → (how ≡ script_ends.WriteFault → HasRisen before.write_faults after.write_faults) → PieceEnds clock left_since image faults buffered open_line piece now new held after.held how →
            AnswersScript clock left_since image faults buffered start before how new after
        AnswersScript-piece _ more small risen (at_long_line how lines has long) = before_long how lines more small risen has long
        AnswersScript-piece _ more small risen (piece_halted halt w) = at_line halt more small risen w

        -- ---- the end of the input

        all_bytes : left ≡ after.left → before.left ≡ with_front (ended r.lines ++ open_line) after.left
        all_bytes same = r.taken ∙ ap (with_front (ended r.lines ++ open_line)) same

        lines_are : lines_of (ended r.lines ++ open_line) ≡ r.lines ++ lines_of open_line
        lines_are = lines_of-whole r.lines open_line r.whole

        over_all : (met : Option StoreEntry) (told : List LineReply) → Was (r.lines ++ lines_of open_line) start new met told → RunsOver (standing_of start None) (lines_of (ended r.lines ++ open_line)) (standing_of new met) told
        over_all met told was = subst (λ (ls : List (List ℕ)). RunsOver (standing_of start None) ls (standing_of new met) told) (sym lines_are) (runs_over (r.lines ++ lines_of open_line) new met told was)

        pub AnswersScript-last : (how : ScriptEnd) → left ≡ after.left → IsAtEnd after.left → (how ≡ script_ends.WriteFault → HasRisen before.write_faults after.write_faults) → LastEnds clock left_since image faults buffered open_line now new held after.held how →
            AnswersScript clock left_since image faults buffered start before how new after
        AnswersScript-last _ same at_end risen (all_answered replies short was out) =
            let both = WasRun-then clock left_since image faults r.lines (lines_of open_line) start now new None r.answered.told replies r.answered.was was in
            record {
              met = None;
              ends =
                  ends.written script_ends.Done (r.answered.told ++ replies)
                  (ends.done (ended r.lines ++ open_line) (r.answered.told ++ replies) (ReadsToEnd-taken (ended r.lines ++ open_line) before.left after.left (all_bytes same) at_end) (AreShort-then r.lines open_line r.whole short)
                  (over_all None (r.answered.told ++ replies) both) refl)
                  (out_then before.held held after.held [] (output_of r.answered.told) [] (output_of replies) r.answered.out out ∙ ap (with_back before.held) (sym (output-append r.answered.told replies)));
              goes_on = both.goes_on;
            }
        AnswersScript-last _ same at_end risen (last_halted halt short h) =
            let both = HaltsAt-then clock left_since image faults buffered r.lines (lines_of open_line) start now new before.held held after.held [] [] halt r.answered h in
            halted halt (r.lines ++ lines_of open_line) new both
            (ends.all_read (ended r.lines ++ open_line) (ReadsToEnd-taken (ended r.lines ++ open_line) before.left after.left (all_bytes same) at_end) (AreShort-then r.lines open_line r.whole short) (over_all both.met both.told both.was)) risen
