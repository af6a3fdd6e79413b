-- How a talk ends, by what was taken and answered.
use Rattle.std.proofs.Common.{◌≡◌, ◌∙◌, ◌+◌, ◌≤◌, ◌<◌, ℕ, List, [], ◌++◌, length, Option, refl, sym, ap, subst, arith, length-append}
use Rattle.pcfs_ports.specs.Faults.{HasRisen}
use Rattle.pcfs_ports.specs.Observable.{with_front, IsAtEnd}
use Rattle.pcfs_ports.proofs.TakesLemmas.{first_of_taken}
use Rattle.session_loop.specs.declared.talk_end.TalkEnd.{TalkEnd}
use Rattle.session_loop.specs.declared.talk_end.TalkEnd.TheVariants as ends
use Rattle.session_loop.specs.declared.talk_end.Unsent.{Unsent}
use Rattle.session_loop.specs.declared.talk_end.Unsent.TheVariants as unsents
use Rattle.session_loop.specs.Cutting.{none}
use Rattle.session_loop.specs.Ends.{Ports, unsent_end}
use Rattle.session_loop.specs.Talking.{Talking, TalkingLaws}
use Rattle.session_loop.specs.Taken.{AreAllTaken, IsCutAtBad, IsReadWhole, IsCutOff}
use Rattle.session_loop.specs.Spoken.{IsSpoken, SpeaksFront, SpeaksToBad, SpeaksAll, TellsBad, told, untold, EndsAtPiece, at_bad, cut_short, EndsAtLast, all_answered, last_unsent, bad_last}
use Rattle.session_loop.specs.TalkEnds.{Speaks, IsUnderWay, TalkReplies, TalkEnds}
use Rattle.session_loop.specs.TalkEnds as whole
use Rattle.session_loop.proofs.CutLemmas.{cuts_then, few_rest}
use Rattle.session_loop.proofs.PortLemmas.{with_front-nil, ReadsToEnd-taken, also_taken}
use Rattle.session_loop.proofs.SpokenLemmas.{IsSpoken-then, IsUnsent-then, SpeaksFront-none}
use Rattle.session_loop.proofs.WrittenLemmas.{none_out, told_after, replies_after}

-- if bytes were not written, the output failed
risen_for : (fault : Unsent) (before after : ℕ) → (unsent_end fault ≡ ends.WriteFault → HasRisen before after) → fault ≡ unsents.Write → HasRisen before after
risen_for unsents.Write before after risen is = risen refl
risen_for unsents.NoMemory before after risen is = absurd cc

module _ {P : Type 0} (t : Talking P) (start : t.State) (old : P) (before : Ports) where
  -- the input was taken so far: its items that came whole were answered, and their replies are out. This is left of the bytes, of which there were so many
  pub record IsReading (Stands : t.State → t.cutting.Mark → List ℕ → Type 0) (now : P) (left held : Option (List ℕ)) (count : ℕ) : Type 0 where
    pub bytes : List ℕ
    pub taken : before.left ≡ with_front bytes left
    pub counted : length bytes ≡ count
    pub front : SpeaksFront t start t.cutting.first bytes old now before.held held
    pub is_open : t.cutting.IsOpen front.to front.rest
    pub stands : Stands front.end front.to front.rest

module _ {P : Type 0} (t : Talking P) (laws : TalkingLaws t) (start : t.State) (old : P) (before : Ports) where
  pub IsReading-start : (Stands : t.State → t.cutting.Mark → List ℕ → Type 0) → Stands start t.cutting.first [] → IsReading t start old before Stands old before.left before.held 0
  unfolding SpeaksFront-none
  IsReading-start Stands stands = record {
    bytes = [];
    taken = with_front-nil before.left;
    counted = refl;
    front = SpeaksFront-none t laws start t.cutting.first [] old before.held;
    is_open = laws.cutting.begins;
    stands = stands;
  }

  -- the items of a piece more are after those before it
  front_more : (bytes piece : List ℕ) (now new : P) (held held_after : Option (List ℕ)) (f : SpeaksFront t start t.cutting.first bytes old now before.held held) → SpeaksFront t f.end f.to (f.rest ++ piece) now new held held_after →
      SpeaksFront t start t.cutting.first (bytes ++ piece) old new before.held held_after
  front_more bytes piece now new held held_after f g = record {
    items = f.items ++ g.items;
    end = g.end;
    to = g.to;
    rest = g.rest;
    cut = cuts_then t.cutting laws.cutting t.cutting.first f.to g.to bytes f.rest piece g.rest f.items g.items f.cut g.cut;
    spoken = IsSpoken-then t laws f.items g.items start f.end g.end old now new before.held held held_after f.spoken g.spoken;
  }

  -- the items that came whole with a piece were answered
  pub IsReading-more : (Stands Next : t.State → t.cutting.Mark → List ℕ → Type 0) (now next : P) (piece : List ℕ) (left left_after held held_after : Option (List ℕ)) (count len : ℕ) → IsReading t start old before Stands now left held count → left ≡ with_front piece left_after → length piece ≡ len →
      ((state : t.State) (mark : t.cutting.Mark) (rest : List ℕ) → Stands state mark rest → t.cutting.IsOpen mark rest → SpeaksAll t state mark (rest ++ piece) now next held held_after Next) → IsReading t start old before Next next left_after held_after (count + len)
  unfolding front_more
  IsReading-more Stands Next now next piece left left_after held held_after count len r more is_len all =
      let a = all r.front.end r.front.to r.front.rest r.stands r.is_open in
      record {
        bytes = r.bytes ++ piece;
        taken = also_taken before.left left left_after r.bytes piece r.taken more;
        counted = omega (arith, r.counted, is_len, length-append r.bytes piece);
        front = front_more r.bytes piece now next held held_after r.front a.front;
        is_open = a.is_open;
        stands = a.stands;
      }

  module _ (after : Ports) where
    -- memory ran out before anything was taken
    pub TalkEnds-unbegun : after.left ≡ before.left → after.held ≡ before.held → TalkEnds t start old old before after ends.NoMemory
    TalkEnds-unbegun left held =
        whole.cut_short unsents.NoMemory [] [] (λ is. absurd cc)
        (whole.while_reading
        (record { bytes = []; mark = t.cutting.first; rest = []; taken = with_front-nil before.left ∙ ap (with_front []) (sym left); cut = none t.cutting.first []; few = omega arith; limit = omega arith })
        (record { end = start; said = laws.none start old }))
        (none_out t.text before.held after.held held)

    -- a talk of which items were answered
    spoke : (items : List t.cutting.Item) (end : t.State) (new : P) (held : Option (List ℕ)) → (s : IsSpoken t items start old new end before.held held) → Speaks t start old new items s.replies
    spoke items end new held s = record { end = end; said = s.said }

    module _ (Stands : t.State → t.cutting.Mark → List ℕ → Type 0) (now : P) where
      all_taken : (held : Option (List ℕ)) (count : ℕ) → count ≤ 1073741824 → (r : IsReading t start old before Stands now after.left held count) → AreAllTaken t.cutting before.left after.left r.front.items
      all_taken held count within r = record { bytes = r.bytes; mark = r.front.to; rest = r.front.rest; taken = r.taken; cut = r.front.cut; is_open = r.is_open; limit = omega (arith, within, r.counted) }

      pub TalkEnds-read_fault : (left : Option (List ℕ)) (count : ℕ) → count ≤ 1073741824 → IsReading t start old before Stands now left after.held count → after.left ≡ left → HasRisen before.read_faults after.read_faults → TalkEnds t start old now before after ends.ReadFault
      TalkEnds-read_fault left count within reading same risen =
          let r = subst (λ (l : Option (List ℕ)). IsReading t start old before Stands now l after.held count) (sym same) reading in
          let s = r.front.spoken in
          whole.written ends.ReadFault r.front.items s.replies (whole.read_fault risen (all_taken after.held count within r) (spoke r.front.items r.front.end now after.held s)) s.out

      pub TalkEnds-too_long : (count : ℕ) → IsReading t start old before Stands now after.left after.held count → count ≡ 1073741824 → TalkEnds t start old now before after ends.InputTooLong
      TalkEnds-too_long count r all =
          let s = r.front.spoken in
          whole.written ends.InputTooLong r.front.items s.replies
          (whole.input_too_long (first_of_taken r.bytes 1073741824 before.left after.left (r.counted ∙ all) r.taken) (all_taken after.held count (omega (arith, all)) r) (spoke r.front.items r.front.end now after.held s)) s.out

    -- ---- after what is no item

    -- it was told, or some first part of that
    tells_bad : (new : P) (items : List t.cutting.Item) (end : t.State) (between : Option (List ℕ)) (s : IsSpoken t items start old new end before.held between) (how : TalkEnd) → (how ≡ ends.WriteFault → HasRisen before.write_faults after.write_faults) →
        TalkReplies t start old new before after items s.replies ends.Bad → TellsBad t between after.held how → TalkEnds t start old new before after how
    tells_bad new items end between s _ risen replies (told out) = whole.written ends.Bad items s.replies replies (told_after t.text t.bad_text before.held between after.held items s.replies s.out out)
    tells_bad new items end between s _ risen replies (untold fault some) =
        whole.cut_at_bad fault items s.replies (risen_for fault before.write_faults after.write_faults risen) replies (replies_after t.text t.bad_text before.held between after.held items s.replies s.out some)

    -- ---- at a piece

    module _ (Stands : t.State → t.cutting.Mark → List ℕ → Type 0) (now new : P) (piece : List ℕ) (left held : Option (List ℕ)) (count : ℕ) (r : IsReading t start old before Stands now left held count) (more : left ≡ with_front piece after.left) (small : length piece ≤ 65536) (fits : count + length piece ≤ 1073741824) where
      limit_after : length (r.bytes ++ piece) ≤ 1073741824
      limit_after = omega (arith, fits, r.counted, length-append r.bytes piece)

      cut_at_bad : (between : Option (List ℕ)) (b : SpeaksToBad t r.front.end r.front.to (r.front.rest ++ piece) now new held between) → IsCutAtBad t.cutting before.left after.left (r.front.items ++ b.front.items)
      cut_at_bad between b = record {
        bytes = r.bytes;
        piece = piece;
        taken = also_taken before.left left after.left r.bytes piece r.taken more;
        earlier = r.front.items;
        mark = r.front.to;
        rest = r.front.rest;
        cut_earlier = r.front.cut;
        was_open = r.is_open;
        few = small;
        mark_after = b.front.to;
        rest_after = b.front.rest;
        cut = cuts_then t.cutting laws.cutting t.cutting.first r.front.to b.front.to r.bytes r.front.rest piece b.front.rest r.front.items b.front.items r.front.cut b.front.cut;
        is_bad = b.is_bad;
        few_left = few_rest t.cutting laws.cutting r.front.to b.front.to r.front.rest piece b.front.rest b.front.items r.is_open small b.front.cut;
        limit = limit_after;
      }

      ends_at_piece : (how : TalkEnd) → (how ≡ ends.WriteFault → HasRisen before.write_faults after.write_faults) → EndsAtPiece t r.front.end r.front.to (r.front.rest ++ piece) now new held after.held how → TalkEnds t start old new before after how
      unfolding front_more
      ends_at_piece _ risen (at_bad how between b tells) =
          let both = front_more r.bytes piece now new held between r.front b.front in
          tells_bad new both.items both.end between both.spoken how risen (whole.at_bad (cut_at_bad between b) (spoke both.items both.end new between both.spoken)) tells
      ends_at_piece _ risen (cut_short fault w) =
          let u = IsUnsent-then t laws r.front.items w.items start r.front.end w.end old now new before.held held after.held r.front.spoken w.unsent in
          whole.cut_short fault (r.front.items ++ w.items) u.replies (risen_for fault before.write_faults after.write_faults risen)
          (whole.while_reading
          (record {
            bytes = r.bytes ++ piece;
            mark = w.to;
            rest = w.rest;
            taken = also_taken before.left left after.left r.bytes piece r.taken more;
            cut = cuts_then t.cutting laws.cutting t.cutting.first r.front.to w.to r.bytes r.front.rest piece w.rest r.front.items w.items r.front.cut w.cut;
            few = few_rest t.cutting laws.cutting r.front.to w.to r.front.rest piece w.rest w.items r.is_open small w.cut;
            limit = limit_after;
          })
          (record { end = w.end; said = u.said }))
          u.some

      pub TalkEnds-piece : (how : TalkEnd) → (how ≡ ends.WriteFault → HasRisen before.write_faults after.write_faults) →
          ((state : t.State) (mark : t.cutting.Mark) (rest : List ℕ) → Stands state mark rest → t.cutting.IsOpen mark rest → EndsAtPiece t state mark (rest ++ piece) now new held after.held how) → TalkEnds t start old new before after how
      TalkEnds-piece how risen e = ends_at_piece how risen (e r.front.end r.front.to r.front.rest r.stands r.is_open)

    -- ---- at the end of the input

    module _ (Stands : t.State → t.cutting.Mark → List ℕ → Type 0) (now new : P) (held : Option (List ℕ)) (count : ℕ) (r : IsReading t start old before Stands now after.left held count) (at_end : IsAtEnd after.left) (below : count < 1073741824) where
      read_whole : (last : List t.cutting.Item) → t.cutting.IsLast r.front.to r.front.rest last → IsReadWhole t.cutting before.left after.left (r.front.items ++ last)
      read_whole last is_last = record {
        bytes = r.bytes;
        read = ReadsToEnd-taken r.bytes before.left after.left r.taken at_end;
        whole = r.front.items;
        mark = r.front.to;
        rest = r.front.rest;
        cut = r.front.cut;
        is_open = r.is_open;
        last = last;
        is_last = is_last;
        items_are = refl;
        limit = omega (arith, below, r.counted);
      }

      cut_off : t.cutting.IsBadEnd r.front.to r.front.rest → IsCutOff t.cutting before.left after.left r.front.items
      cut_off is_bad = record { bytes = r.bytes; read = ReadsToEnd-taken r.bytes before.left after.left r.taken at_end; mark = r.front.to; rest = r.front.rest; cut = r.front.cut; is_open = r.is_open; is_bad = is_bad; limit = omega (arith, below, r.counted) }

      ends_at_last : (how : TalkEnd) → (how ≡ ends.WriteFault → HasRisen before.write_faults after.write_faults) → EndsAtLast t r.front.end r.front.to r.front.rest now new held after.held how → TalkEnds t start old new before after how
      ends_at_last _ risen (all_answered l) =
          let both = IsSpoken-then t laws r.front.items l.items start r.front.end l.end old now new before.held held after.held r.front.spoken l.spoken in
          whole.written ends.Done (r.front.items ++ l.items) both.replies (whole.done (read_whole l.items l.last) (record { end = l.end; said = both.said })) both.out
      ends_at_last _ risen (last_unsent fault l) =
          let both = IsUnsent-then t laws r.front.items l.items start r.front.end l.end old now new before.held held after.held r.front.spoken l.unsent in
          whole.cut_short fault (r.front.items ++ l.items) both.replies (risen_for fault before.write_faults after.write_faults risen) (whole.all_read (read_whole l.items l.last) (record { end = l.end; said = both.said })) both.some
      ends_at_last _ risen (bad_last how is_bad same tells) =
          let s = subst (λ (p : P). IsSpoken t r.front.items start old p r.front.end before.held held) (sym same) r.front.spoken in
          tells_bad new r.front.items r.front.end held s how risen (whole.cut_off (cut_off is_bad) (record { end = r.front.end; said = s.said })) tells

    pub TalkEnds-last : (Stands : t.State → t.cutting.Mark → List ℕ → Type 0) (now new : P) (left held : Option (List ℕ)) (count : ℕ) (how : TalkEnd) → count < 1073741824 → IsReading t start old before Stands now left held count → left ≡ after.left → IsAtEnd after.left → (how ≡ ends.WriteFault → HasRisen before.write_faults after.write_faults) →
        ((state : t.State) (mark : t.cutting.Mark) (rest : List ℕ) → Stands state mark rest → t.cutting.IsOpen mark rest → EndsAtLast t state mark rest now new held after.held how) → TalkEnds t start old new before after how
    TalkEnds-last Stands now new left held count how below reading same at_end risen e =
        let r = subst (λ (l : Option (List ℕ)). IsReading t start old before Stands now l held count) same reading in
        ends_at_last Stands now new held count r at_end below how risen (e r.front.end r.front.to r.front.rest r.stands r.is_open)
