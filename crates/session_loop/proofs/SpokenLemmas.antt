-- What is answered and written, item by item.
use Rattle.std.proofs.Common.{◌≡◌, ◌∙◌, ℕ, List, [], ◌∷◌, ◌++◌, Option, sym, ap, subst}
use Rattle.pcfs_ports.specs.Observable.{with_back, HoldsSome}
use Rattle.session_loop.specs.declared.heard.Heard.TheVariants as heards
use Rattle.session_loop.specs.Cutting.{none}
use Rattle.session_loop.specs.Talking.{Talking, TalkingLaws}
use Rattle.session_loop.specs.Heard.{IsAnswered, HasHeard, IsLastAnswered, HasNoLast}
use Rattle.session_loop.specs.Spoken.{IsSpoken, IsUnsent, SpeaksFront, IsCutWithin, SpeaksToBad, SpeaksLast, IsLastUnsent, SpeaksAll, SpeaksOne, SpeaksNone, SpeaksBad}
use Rattle.session_loop.proofs.CutLemmas.{cuts_one, cuts_join}
use Rattle.session_loop.proofs.PortLemmas.{with_back-nil, nothing_out}
use Rattle.session_loop.proofs.WrittenLemmas.{output-one, out_after, last_after, one_last, none_out}

module _ {P : Type 0} (t : Talking P) (state : t.State) (mark : t.cutting.Mark) (left : List ℕ) (old : P) (held : Option (List ℕ)) where
  -- the first items that came whole were answered, and so the talk stands
  pub record IsSpeaking (Stands : t.State → t.cutting.Mark → List ℕ → Type 0) (now : P) (held_now : Option (List ℕ)) : Type 0 where
    pub front : SpeaksFront t state mark left old now held held_now
    pub stands : Stands front.end front.to front.rest

module _ {P : Type 0} (t : Talking P) (laws : TalkingLaws t) where
  -- ---- items

  pub IsSpoken-none : (state : t.State) (at : P) (held : Option (List ℕ)) → IsSpoken t [] state at at state held held
  IsSpoken-none state at held = record { replies = []; said = laws.none state at; out = with_back-nil held }

  pub IsUnsent-none : (state : t.State) (at : P) (held held_after : Option (List ℕ)) → held_after ≡ held → IsUnsent t [] state at at state held held_after
  IsUnsent-none state at held held_after same = record { replies = []; said = laws.none state at; some = none_out t.text held held_after same }

  module _ (item : t.cutting.Item) (reply : t.Reply) (state end : t.State) (old new : P) (held held_after : Option (List ℕ)) (said : t.Said state old new (item ∷ []) (reply ∷ []) end) where
    pub IsSpoken-one : held_after ≡ with_back held (t.text item reply) → IsSpoken t (item ∷ []) state old new end held held_after
    IsSpoken-one out = record { replies = reply ∷ []; said = said; out = out ∙ ap (with_back held) (output-one t.text item reply) }

    pub IsUnsent-one : HoldsSome held held_after (t.text item reply) → IsUnsent t (item ∷ []) state old new end held held_after
    IsUnsent-one some = record { replies = reply ∷ []; said = said; some = one_last t.text held held_after item reply some }

  module _ (items others : List t.cutting.Item) (state mid end : t.State) (old between new : P) (held held_between held_after : Option (List ℕ)) (one : IsSpoken t items state old between mid held held_between) where
    pub IsSpoken-then : IsSpoken t others mid between new end held_between held_after → IsSpoken t (items ++ others) state old new end held held_after
    IsSpoken-then other = record {
      replies = one.replies ++ other.replies;
      said = laws.further state mid end old between new items others one.replies other.replies one.said other.said;
      out = out_after t.text held held_between held_after items others one.replies other.replies (laws.each state mid old between items one.replies one.said) one.out other.out;
    }

    pub IsUnsent-then : IsUnsent t others mid between new end held_between held_after → IsUnsent t (items ++ others) state old new end held held_after
    IsUnsent-then other = record {
      replies = one.replies ++ other.replies;
      said = laws.further state mid end old between new items others one.replies other.replies one.said other.said;
      some = last_after t.text held held_between held_after items others one.replies other.replies (laws.each state mid old between items one.replies one.said) one.out other.some;
    }

  -- ---- the bytes that are left

  unfoldable pub SpeaksFront-none : (state : t.State) (mark : t.cutting.Mark) (left : List ℕ) (at : P) (held : Option (List ℕ)) → SpeaksFront t state mark left at at held held
  SpeaksFront-none state mark left at held = record { items = []; end = state; to = mark; rest = left; cut = none mark left; spoken = IsSpoken-none state at held }

  module _ (state : t.State) (mark : t.cutting.Mark) (left : List ℕ) (old now new : P) (held held_now held_after : Option (List ℕ)) (f : SpeaksFront t state mark left old now held held_now) where
    -- more items are answered
    pub SpeaksFront-then : SpeaksFront t f.end f.to f.rest now new held_now held_after → SpeaksFront t state mark left old new held held_after
    SpeaksFront-then g = record {
      items = f.items ++ g.items;
      end = g.end;
      to = g.to;
      rest = g.rest;
      cut = cuts_join t.cutting laws.cutting mark f.to g.to left f.rest g.rest f.items g.items f.cut g.cut;
      spoken = IsSpoken-then f.items g.items state f.end g.end old now new held held_now held_after f.spoken g.spoken;
    }

    -- and the reply to the last was not written
    pub IsCutWithin-then : IsCutWithin t f.end f.to f.rest now new held_now held_after → IsCutWithin t state mark left old new held held_after
    IsCutWithin-then g = record {
      items = f.items ++ g.items;
      end = g.end;
      to = g.to;
      rest = g.rest;
      cut = cuts_join t.cutting laws.cutting mark f.to g.to left f.rest g.rest f.items g.items f.cut g.cut;
      unsent = IsUnsent-then f.items g.items state f.end g.end old now new held held_now held_after f.spoken g.unsent;
    }

  -- ---- one item

  module _ (Stands : t.State → t.cutting.Mark → List ℕ → Type 0) (state : t.State) (mark : t.cutting.Mark) (left : List ℕ) (old new : P) (held held_after : Option (List ℕ)) where
    one_cut : (a : IsAnswered t Stands state mark left old new) → HoldsSome held held_after (t.text a.item a.reply) → IsCutWithin t state mark left old new held held_after
    one_cut a some = record {
      items = a.item ∷ [];
      end = a.end;
      to = a.after;
      rest = a.rest;
      cut = cuts_one t.cutting laws.cutting mark a.after left a.rest a.item a.next;
      unsent = IsUnsent-one a.item a.reply state a.end old new held held_after a.said some;
    }

    pub one_cut_off : (out : List ℕ) → HasHeard t Stands state mark left old new out heards.Answered → HoldsSome held held_after out → IsCutWithin t state mark left old new held held_after
    one_cut_off out heard some = one_cut heard.0 (subst (HoldsSome held held_after) heard.1 some)

    pub one_unsent : IsAnswered t Stands state mark left old new → held_after ≡ held → IsCutWithin t state mark left old new held held_after
    one_unsent a same = one_cut a (nothing_out held held_after (t.text a.item a.reply) same)

  -- ---- the last one

  module _ (state : t.State) (mark : t.cutting.Mark) (left : List ℕ) (old new : P) (held held_after : Option (List ℕ)) where
    last_answered : (a : IsLastAnswered t state mark left old new) → held_after ≡ with_back held (t.text a.item a.reply) → SpeaksLast t state mark left old new held held_after
    last_answered a sent = record { items = a.item ∷ []; end = a.end; last = a.last; spoken = IsSpoken-one a.item a.reply state a.end old new held held_after a.said sent }

    last_cut : (a : IsLastAnswered t state mark left old new) → HoldsSome held held_after (t.text a.item a.reply) → IsLastUnsent t state mark left old new held held_after
    last_cut a some = record { items = a.item ∷ []; end = a.end; last = a.last; unsent = IsUnsent-one a.item a.reply state a.end old new held held_after a.said some }

    pub last_told : (out : List ℕ) (a : IsLastAnswered t state mark left old new) → out ≡ t.text a.item a.reply → held_after ≡ with_back held out → SpeaksLast t state mark left old new held held_after
    last_told out a is sent = last_answered a (sent ∙ ap (with_back held) is)

    pub last_cut_off : (out : List ℕ) (a : IsLastAnswered t state mark left old new) → out ≡ t.text a.item a.reply → HoldsSome held held_after out → IsLastUnsent t state mark left old new held held_after
    last_cut_off out a is some = last_cut a (subst (HoldsSome held held_after) is some)

    pub last_unsent : IsLastAnswered t state mark left old new → held_after ≡ held → IsLastUnsent t state mark left old new held held_after
    last_unsent a same = last_cut a (nothing_out held held_after (t.text a.item a.reply) same)

  -- nothing is left
  pub last_none : (state : t.State) (mark : t.cutting.Mark) (left : List ℕ) (old new : P) (held : Option (List ℕ)) → HasNoLast t state mark left old new → SpeaksLast t state mark left old new held held
  last_none state mark left old new held n = record { items = []; end = state; last = n.last; spoken = subst (λ (p : P). IsSpoken t [] state old p state held held) (sym n.same) (IsSpoken-none state old held) }

  -- ---- the items that came whole

  module _ (state : t.State) (mark : t.cutting.Mark) (left : List ℕ) (old : P) (held : Option (List ℕ)) where
    pub IsSpeaking-start : (Stands : t.State → t.cutting.Mark → List ℕ → Type 0) → Stands state mark left → IsSpeaking t state mark left old held Stands old held
    unfolding SpeaksFront-none
    IsSpeaking-start Stands stands = record { front = SpeaksFront-none state mark left old held; stands = stands }

    module _ (Stands Next : t.State → t.cutting.Mark → List ℕ → Type 0) (now new : P) (held_now held_after : Option (List ℕ)) (s : IsSpeaking t state mark left old held Stands now held_now) where
      -- one more
      pub IsSpeaking-more : ((state : t.State) (mark : t.cutting.Mark) (left : List ℕ) → Stands state mark left → SpeaksOne t state mark left now new held_now held_after Next) → IsSpeaking t state mark left old held Next new held_after
      unfolding SpeaksFront-then
      IsSpeaking-more one =
          let f = s.front in
          let o = one f.end f.to f.rest s.stands in
          record {
            front = SpeaksFront-then state mark left old now new held held_now held_after f
                (record { items = o.item ∷ []; end = o.end; to = o.to; rest = o.rest; cut = cuts_one t.cutting laws.cutting f.to o.to f.rest o.rest o.item o.next; spoken = o.spoken });
            stands = o.stands;
          }

      -- the talk is where it was
      front_at : new ≡ now → held_after ≡ held_now → SpeaksFront t state mark left old new held held_after
      front_at same out = record {
        items = s.front.items;
        end = s.front.end;
        to = s.front.to;
        rest = s.front.rest;
        cut = s.front.cut;
        spoken =
            subst (λ (p : P). IsSpoken t s.front.items state old p s.front.end held held_after) (sym same)
            (subst (λ (h : Option (List ℕ)). IsSpoken t s.front.items state old now s.front.end held h) (sym out) s.front.spoken);
      }

      -- none comes whole after them
      pub SpeaksAll-open : ((state : t.State) (mark : t.cutting.Mark) (left : List ℕ) → Stands state mark left → SpeaksNone t state mark left now new held_now held_after Next) → SpeaksAll t state mark left old new held held_after Next
      unfolding front_at
      SpeaksAll-open none_more =
          let n = none_more s.front.end s.front.to s.front.rest s.stands in
          record { front = front_at n.same n.out; is_open = n.is_open; stands = n.stands }

      -- what comes after them is none
      pub SpeaksToBad-bad : ((state : t.State) (mark : t.cutting.Mark) (left : List ℕ) → Stands state mark left → SpeaksBad t state mark left now new held_now held_after Next) → SpeaksToBad t state mark left old new held held_after
      unfolding front_at
      SpeaksToBad-bad bad =
          let n = bad s.front.end s.front.to s.front.rest s.stands in
          record { front = front_at n.same n.out; is_bad = n.is_bad }

      -- the reply to one was not written
      pub IsCutWithin-at : ((state : t.State) (mark : t.cutting.Mark) (left : List ℕ) → Stands state mark left → IsCutWithin t state mark left now new held_now held_after) → IsCutWithin t state mark left old new held held_after
      IsCutWithin-at cut = IsCutWithin-then state mark left old now new held held_now held_after s.front (cut s.front.end s.front.to s.front.rest s.stands)
