-- What a talk does that is asked for its next reply (this project's own).
use Rattle.std.specs.Prelude.{◌≡◌, ℕ, List, [], ◌∷◌}
use Rattle.session_loop.specs.declared.heard.Heard.{Heard}
use Rattle.session_loop.specs.declared.heard.Heard.TheVariants as heards
use Rattle.session_loop.specs.Talking.{Talking}

module _ {P : Type 0} (t : Talking P) (Stands : t.State → t.cutting.Mark → List ℕ → Type 0)
    (state : t.State) (mark : t.cutting.Mark) (left : List ℕ) (old new : P) where
  -- the bytes that are left begin with an item, which was answered, and the talk stands after it
  pub record IsAnswered : Type 0 where
    pub item : t.cutting.Item
    pub after : t.cutting.Mark
    pub rest : List ℕ
    pub reply : t.Reply
    pub end : t.State
    pub next : t.cutting.IsNext mark left item after rest
    pub said : t.Said state old new (item ∷ []) (reply ∷ []) end
    pub stands : Stands end after rest

  -- they are less than an item, and nothing changed
  pub record IsStill : Type 0 where
    pub is_open : t.cutting.IsOpen mark left
    pub same : new ≡ old
    pub stands : Stands state mark left

  -- they begin with no item, and nothing changed
  pub record IsBadNext : Type 0 where
    pub is_bad : t.cutting.IsBad mark left
    pub same : new ≡ old

  -- at the next item, with these bytes for its reply
  abbrev pub HasHeard : List ℕ → Heard → Type 0
  HasHeard out heards.Answered = (a : IsAnswered) × (out ≡ t.text a.item a.reply)
  HasHeard out heards.Unsent = IsAnswered
  HasHeard out heards.Open = IsStill
  HasHeard out heards.Bad = IsBadNext

module _ {P : Type 0} (t : Talking P) (state : t.State) (mark : t.cutting.Mark) (left : List ℕ) (old new : P) where
  -- the bytes that are left are the last item, which was answered
  pub record IsLastAnswered : Type 0 where
    pub item : t.cutting.Item
    pub reply : t.Reply
    pub end : t.State
    pub last : t.cutting.IsLast mark left (item ∷ [])
    pub said : t.Said state old new (item ∷ []) (reply ∷ []) end

  -- there is no last item, and nothing changed
  pub record HasNoLast : Type 0 where
    pub last : t.cutting.IsLast mark left []
    pub same : new ≡ old

  -- what is left is no item, and nothing changed
  pub record IsBadLast : Type 0 where
    pub is_bad : t.cutting.IsBadEnd mark left
    pub same : new ≡ old

  -- at the end of the input
  abbrev pub HasHeardLast : List ℕ → Heard → Type 0
  HasHeardLast out heards.Answered = (a : IsLastAnswered) × (out ≡ t.text a.item a.reply)
  HasHeardLast out heards.Unsent = IsLastAnswered
  HasHeardLast out heards.Open = HasNoLast
  HasHeardLast out heards.Bad = IsBadLast
