-- How a talk ends at a piece, and at the end of its input.
use Rattle.std.proofs.Common.{◌≡◌, ℕ, List, [], Option, refl, sym, subst}
use Rattle.pcfs_ports.specs.Observable.{HoldsSome}
use Rattle.session_loop.specs.declared.talk_end.TalkEnd.{TalkEnd}
use Rattle.session_loop.specs.declared.talk_end.TalkEnd.TheVariants as ends
use Rattle.session_loop.specs.declared.talk_end.Unsent.{Unsent}
use Rattle.session_loop.specs.declared.talk_end.Unsent.TheVariants as unsents
use Rattle.session_loop.specs.Cutting.{none}
use Rattle.session_loop.specs.Ends.{unsent_end}
use Rattle.session_loop.specs.Heard.{IsBadLast}
use Rattle.session_loop.specs.Talking.{Talking, TalkingLaws}
use Rattle.session_loop.specs.Spoken.{IsCutWithin, IsLastUnsent, TellsBad, untold, EndsAtPiece, cut_short, EndsAtLast, last_unsent, bad_last}
use Rattle.session_loop.proofs.SpokenLemmas.{IsUnsent-none}

module _ {P : Type 0} (t : Talking P) where
  pub TellsBad-cut : (held held_after : Option (List ℕ)) (fault : Unsent) (how : TalkEnd) → how ≡ unsent_end fault → HoldsSome held held_after t.bad_text → TellsBad t held held_after how
  TellsBad-cut held held_after fault how is some = subst (TellsBad t held held_after) (sym is) (untold fault some)

  module _ (state : t.State) (mark : t.cutting.Mark) (left : List ℕ) (old new : P) (held held_after : Option (List ℕ)) where
    pub EndsAtPiece-cut : (fault : Unsent) (how : TalkEnd) → how ≡ unsent_end fault → IsCutWithin t state mark left old new held held_after → EndsAtPiece t state mark left old new held held_after how
    EndsAtPiece-cut fault how is cut = subst (EndsAtPiece t state mark left old new held held_after) (sym is) (cut_short fault cut)

    pub EndsAtLast-cut : (fault : Unsent) (how : TalkEnd) → how ≡ unsent_end fault → IsLastUnsent t state mark left old new held held_after → EndsAtLast t state mark left old new held held_after how
    EndsAtLast-cut fault how is cut = subst (EndsAtLast t state mark left old new held held_after) (sym is) (last_unsent fault cut)

    pub EndsAtLast-bad : (how : TalkEnd) → IsBadLast t state mark left old new → TellsBad t held held_after how → EndsAtLast t state mark left old new held held_after how
    EndsAtLast-bad how b tells = bad_last how b.is_bad b.same tells

-- memory ran out for a piece
pub EndsAtPiece-refused : {P : Type 0} (t : Talking P) (laws : TalkingLaws t) (state : t.State) (mark : t.cutting.Mark) (left : List ℕ) (at : P) (held : Option (List ℕ)) → EndsAtPiece t state mark left at at held held ends.NoMemory
EndsAtPiece-refused t laws state mark left at held = cut_short unsents.NoMemory (record { items = []; end = state; to = mark; rest = left; cut = none mark left; unsent = IsUnsent-none t laws state at held held refl })
