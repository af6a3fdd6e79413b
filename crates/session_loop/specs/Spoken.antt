-- What calls do that answer items of a talk, from one moment to a later one (this project's own).
use Rattle.std.specs.Prelude.{◌≡◌, ℕ, List, [], ◌∷◌, Bool, true, false, Option}
use Rattle.pcfs_ports.specs.Observable.{with_back, HoldsSome}
use Rattle.session_loop.specs.declared.talk_end.TalkEnd.{TalkEnd}
use Rattle.session_loop.specs.declared.talk_end.TalkEnd.TheVariants as ends
use Rattle.session_loop.specs.declared.talk_end.Unsent.{Unsent}
use Rattle.session_loop.specs.declared.answering.Step.{Step}
use Rattle.session_loop.specs.declared.answering.Step.TheVariants as steps
use Rattle.session_loop.specs.Cutting.{Cuts}
use Rattle.session_loop.specs.Ends.{unsent_end}
use Rattle.session_loop.specs.Talking.{Talking}
use Rattle.session_loop.specs.Written.{output_of, HoldsButLast}

module _ {P : Type 0} (t : Talking P) where
  -- items are answered, and their replies were written
  pub record IsSpoken (items : List t.cutting.Item) (state : t.State) (old new : P) (end : t.State)
      (held held_after : Option (List ℕ)) : Type 0 where
    pub replies : List t.Reply
    pub said : t.Said state old new items replies end
    pub out : held_after ≡ with_back held (output_of t.text items replies)

  -- items are answered, and all their replies were written but the last, of which some first part
  -- was
  pub record IsUnsent (items : List t.cutting.Item) (state : t.State) (old new : P) (end : t.State)
      (held held_after : Option (List ℕ)) : Type 0 where
    pub replies : List t.Reply
    pub said : t.Said state old new items replies end
    pub some : HoldsButLast t.text held held_after items replies

  module _ (state : t.State) (mark : t.cutting.Mark) (left : List ℕ) (old new : P)
      (held held_after : Option (List ℕ)) where
    -- the bytes that are left begin with these items, which are answered
    pub record SpeaksFront : Type 0 where
      pub items : List t.cutting.Item
      pub end : t.State
      pub to : t.cutting.Mark
      pub rest : List ℕ
      pub cut : Cuts t.cutting mark left items to rest
      pub spoken : IsSpoken items state old new end held held_after

    -- they do, and the last reply was not written
    pub record IsCutWithin : Type 0 where
      pub items : List t.cutting.Item
      pub end : t.State
      pub to : t.cutting.Mark
      pub rest : List ℕ
      pub cut : Cuts t.cutting mark left items to rest
      pub unsent : IsUnsent items state old new end held held_after

    -- all items are answered, and what comes after them is none
    pub record SpeaksToBad : Type 0 where
      pub front : SpeaksFront
      pub is_bad : t.cutting.IsBad front.to front.rest

    -- they are the last item, if there is one, which is answered
    pub record SpeaksLast : Type 0 where
      pub items : List t.cutting.Item
      pub end : t.State
      pub last : t.cutting.IsLast mark left items
      pub spoken : IsSpoken items state old new end held held_after

    -- they are the last item, and its reply was not written
    pub record IsLastUnsent : Type 0 where
      pub items : List t.cutting.Item
      pub end : t.State
      pub last : t.cutting.IsLast mark left items
      pub unsent : IsUnsent items state old new end held held_after

    module _ (Stands : t.State → t.cutting.Mark → List ℕ → Type 0) where
      -- all items are answered, and the talk stands after them
      pub record SpeaksAll : Type 0 where
        pub front : SpeaksFront
        pub is_open : t.cutting.IsOpen front.to front.rest
        pub stands : Stands front.end front.to front.rest

      -- one item is answered
      pub record SpeaksOne : Type 0 where
        pub item : t.cutting.Item
        pub end : t.State
        pub to : t.cutting.Mark
        pub rest : List ℕ
        pub next : t.cutting.IsNext mark left item to rest
        pub spoken : IsSpoken (item ∷ []) state old new end held held_after
        pub stands : Stands end to rest

      -- none is
      pub record SpeaksNone : Type 0 where
        pub is_open : t.cutting.IsOpen mark left
        pub same : new ≡ old
        pub out : held_after ≡ held
        pub stands : Stands state mark left

      -- what comes next is no item
      pub record SpeaksBad : Type 0 where
        pub is_bad : t.cutting.IsBad mark left
        pub same : new ≡ old
        pub out : held_after ≡ held

      -- what came of the next item
      abbrev pub Steps : Step → Type 0
      Steps steps.Answered = SpeaksOne
      Steps steps.Open = SpeaksNone
      Steps steps.Bad = SpeaksBad

      -- what came of all items: none follows yet, or what follows is none
      abbrev pub SpeaksHeld : Bool → Type 0
      SpeaksHeld false = SpeaksAll
      SpeaksHeld true = SpeaksToBad

  -- how a talk ends after what is no item: that was told, or some first part of it
  pub data TellsBad (held held_after : Option (List ℕ)) : TalkEnd → Type 0 where
    told : held_after ≡ with_back held t.bad_text → TellsBad held held_after ends.Bad
    untold : (fault : Unsent) → HoldsSome held held_after t.bad_text →
        TellsBad held held_after (unsent_end fault)

  module _ (state : t.State) (mark : t.cutting.Mark) (left : List ℕ) (old new : P)
      (held held_after : Option (List ℕ)) where
    -- how a talk ends at these bytes: what comes after the items is none; or a reply was not
    -- written, or there was no memory for the bytes
    pub data EndsAtPiece : TalkEnd → Type 0 where
      at_bad : (how : TalkEnd) (between : Option (List ℕ)) →
          SpeaksToBad state mark left old new held between → TellsBad between held_after how →
          EndsAtPiece how
      cut_short : (fault : Unsent) → IsCutWithin state mark left old new held held_after →
          EndsAtPiece (unsent_end fault)

    -- how a talk ends at the end of its input, at which these bytes are left
    pub data EndsAtLast : TalkEnd → Type 0 where
      all_answered : SpeaksLast state mark left old new held held_after → EndsAtLast ends.Done
      last_unsent : (fault : Unsent) → IsLastUnsent state mark left old new held held_after →
          EndsAtLast (unsent_end fault)
      bad_last : (how : TalkEnd) → t.cutting.IsBadEnd mark left → new ≡ old →
          TellsBad held held_after how → EndsAtLast how
