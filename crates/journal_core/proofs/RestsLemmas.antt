-- What a crash may leave while the calls of a disk go on.
use Rattle.std.proofs.Common.{◌≡◌, ◌⊎◌, ℕ, ◌≤◌, List, Some, None, IfSome, refl, subst, sym, ◌∙◌, inl, inr, ⊎_elim, arith}
use Rattle.std.specs.Prelude.{Option}
use Rattle.pcfs_ports.specs.Disk.{Torn, TornFrom, LeftNow, Elapses, Idles, IsPinned, LeavesOnly}
use Rattle.pcfs_ports.proofs.DiskLemmas.{torn_not}

pub some_same : (a b : List ℕ) → Some a ≡ Some b → a ≡ b
some_same a b is = cc

module _ {D : Type 0} (clock : D → ℕ) (left_since : D → ℕ → List ℕ → Type 0) where
  -- a write on a disk where nothing was pending
  pub written_leaves : (image : D → Option (List ℕ)) (old new : D) (at : ℕ) (piece bytes : List ℕ) →
      image old ≡ Some bytes → IsPinned clock left_since image old → Elapses clock left_since old new →
      ((b : List ℕ) → LeftNow clock left_since new b → TornFrom at piece (LeftNow clock left_since old) b) →
      LeavesOnly clock left_since old new (Torn at piece bytes)
  written_leaves image old new at piece bytes told pinned time torn =
      let same : (b : List ℕ) → left_since old (clock old) b → b ≡ bytes = λ b left. some_same b bytes (sym (pinned b left) ∙ told) in
      let now : (b : List ℕ) → left_since new (clock new) b → Torn at piece bytes b =
      λ b left. let from = torn b left in subst (λ (d : List ℕ). Torn at piece d b) (same from.0 from.1) from.2 in
      record {
        later = time.later;
        each = λ b left. ⊎_elim
            (λ before. subst (λ (d : List ℕ). Torn at piece bytes d) (sym (same b before)) (torn_not at piece bytes))
            (λ after. now b after)
            (time.since (clock old) b (omega arith) left);
        since = λ t b le left. ⊎_elim (λ before. inl before) (λ after. inr (now b after)) (time.since t b le left);
      }

  -- and then a call that writes nothing
  pub idle_leaves : (old mid new : D) (P : List ℕ → Type 0) → LeavesOnly clock left_since old mid P → Idles clock left_since mid new →
      LeavesOnly clock left_since old new P
  idle_leaves old mid new P so_far time = record {
    later = omega (arith, so_far.later, time.later);
    each = λ b left. so_far.each b (time.no_more (clock old) b so_far.later left);
    since = λ t b le left. so_far.since t b le (time.no_more t b (omega (arith, le, so_far.later)) left);
  }

  -- and then more
  pub then_leaves : (old mid new : D) (P Q : List ℕ → Type 0) → LeavesOnly clock left_since old mid P → LeavesOnly clock left_since mid new Q →
      LeavesOnly clock left_since old new (λ b. P b ⊎ Q b)
  then_leaves old mid new P Q so_far more = record {
    later = omega (arith, so_far.later, more.later);
    each = λ b left. ⊎_elim (λ before. inl (so_far.each b before)) (λ after. inr after) (more.since (clock old) b so_far.later left);
    since = λ t b le left. ⊎_elim
        (λ before. ⊎_elim (λ earlier. inl earlier) (λ p. inr (inl p)) (so_far.since t b le before))
        (λ after. inr (inr after))
        (more.since t b (omega (arith, le, so_far.later)) left);
  }

  -- what a crash leaves said in other words
  pub weaker_leaves : (old new : D) (P Q : List ℕ → Type 0) → ((b : List ℕ) → P b → Q b) → LeavesOnly clock left_since old new P →
      LeavesOnly clock left_since old new Q
  weaker_leaves old new P Q say so_far = record {
    later = so_far.later;
    each = λ b left. say b (so_far.each b left);
    since = λ t b le left. ⊎_elim (λ before. inl before) (λ p. inr (say b p)) (so_far.since t b le left);
  }

  -- what a read gives after all is one of these outcomes
  pub told_leaves : (image : D → Option (List ℕ)) (old new : D) (P : List ℕ → Type 0) →
      ((disk : D) (t u : ℕ) (b : List ℕ) → t ≤ u → left_since disk u b → left_since disk t b) →
      ((disk : D) (b : List ℕ) → image disk ≡ Some b → left_since disk (clock disk) b) →
      LeavesOnly clock left_since old new P → (bytes : List ℕ) → image new ≡ Some bytes → P bytes
  told_leaves image old new P earlier stays so_far bytes told =
      so_far.each bytes (earlier new (clock old) (clock new) bytes so_far.later (stays new bytes told))

  -- a run of reads and syncs
  pub idle_then_idle : (old mid new : D) → Idles clock left_since old mid → Idles clock left_since mid new → Idles clock left_since old new
  idle_then_idle old mid new first second = record {
    later = omega (arith, first.later, second.later);
    kept = λ t b le left. second.kept t b (omega (arith, le, first.later)) (first.kept t b le left);
    no_more = λ t b le left. first.no_more t b le (second.no_more t b (omega (arith, le, first.later)) left);
  }

  pub idle_none : (disk : D) → Idles clock left_since disk disk
  idle_none disk = record { later = omega arith; kept = λ t b le left. left; no_more = λ t b le left. left }

  -- what was pinned stays so while the disk idles
  pub idle_pinned : (image : D → Option (List ℕ)) (old new : D) →
      ((disk : D) (t u : ℕ) (b : List ℕ) → t ≤ u → left_since disk u b → left_since disk t b) →
      IsPinned clock left_since image old → Idles clock left_since old new → image new ≡ image old → IsPinned clock left_since image new
  idle_pinned image old new earlier pinned time same b left =
      same ∙ pinned b (time.no_more (clock old) b (omega arith) (earlier new (clock old) (clock new) b time.later left))

  -- no call
  pub leaves_none : (image : D → Option (List ℕ)) (disk : D) (bytes : List ℕ) (P : List ℕ → Type 0) → image disk ≡ Some bytes →
      IsPinned clock left_since image disk → P bytes → LeavesOnly clock left_since disk disk P
  leaves_none image disk bytes P told pinned here = record {
    later = omega arith;
    each = λ b left. subst P (some_same bytes b (sym told ∙ pinned b left)) here;
    since = λ t b le left. inl left;
  }

-- what holds of the bytes that are told
pub if_told : (told : Option (List ℕ)) (P : List ℕ → Type 0) → ((bytes : List ℕ) → told ≡ Some bytes → P bytes) → IfSome told P
if_told None P holds = tt
if_told (Some bytes) P holds = holds bytes refl

pub at_told : (told : Option (List ℕ)) (P : List ℕ → Type 0) (bytes : List ℕ) → told ≡ Some bytes → IfSome told P → P bytes
at_told told P bytes is holds = let Q : Option (List ℕ) → Type 0 = λ o. IfSome o P in subst Q is holds
