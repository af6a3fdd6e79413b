use Rattle.std.proofs.Common.{◌⊎◌, ℕ, List, [], ◌∷◌, ◌++◌, ap, subst, ◌∙◌, inl, inr, ⊎_elim}
use Rattle.std.specs.Option.{option_map}
use Rattle.pcfs_ports.specs.Disk.{written, Torn, LeavesOnly}
use Rattle.journal_core.specs.Rest.{IsOldOrShutOrNew}
use Rattle.journal_core.proofs.RestsLemmas.{then_leaves, weaker_leaves}
use Rattle.journal_core.proofs.AreaLemmas.{torn_start, closed_start, torn_after, torn_gate}
use Rattle.journal_core.proofs.area.write_area.Goals as goal

-- the three writes, in the words of the area
started : (bytes new left : List ℕ) → Torn 0 (0 ∷ []) bytes left → IsOldOrShutOrNew bytes new left
started bytes new left torn = ⊎_elim (λ old. inl old) (λ shut. inr (inl shut)) (torn_start bytes left torn)

went_on : (bytes tail left : List ℕ) →
    Torn 1 (tail ++ 0 ∷ []) (written 0 (0 ∷ []) bytes) left ⊎ Torn 0 (1 ∷ []) (written 1 (tail ++ 0 ∷ []) (written 0 (0 ∷ []) bytes)) left →
    IsOldOrShutOrNew bytes (1 ∷ tail) left
went_on bytes tail left torn =
    ⊎_elim
    (λ after. inr (inl (torn_after [] (written 0 (0 ∷ []) bytes) (tail ++ 0 ∷ []) left (closed_start bytes) after).stands.shut))
    (λ gate. inr (⊎_elim (λ before. inl before.stands.shut) (λ opened. inr opened) (torn_gate [] (written 0 (0 ∷ []) bytes) tail left (closed_start bytes) gate)))
    torn

said : (bytes tail left : List ℕ) →
    Torn 0 (0 ∷ []) bytes left ⊎ (Torn 1 (tail ++ 0 ∷ []) (written 0 (0 ∷ []) bytes) left ⊎ Torn 0 (1 ∷ []) (written 1 (tail ++ 0 ∷ []) (written 0 (0 ∷ []) bytes)) left) →
    IsOldOrShutOrNew bytes (1 ∷ tail) left
said bytes tail left torn = ⊎_elim (started bytes (1 ∷ tail) left) (went_on bytes tail left) torn

pub returns-in_err-write_then_open-clause-any_moment : goal.returns-in_err-write_then_open-clause-any_moment
returns-in_err-write_then_open-clause-any_moment g c bytes tail is told pinned =
    let first = c.write_through.ensures.any_moment bytes told pinned in
    let second = c.write_then_open.ensures.any_moment (written 0 (0 ∷ []) bytes)
    (c.in_ok-write_through.ensures.image ∙ ap (option_map (written 0 (0 ∷ []))) told) c.in_ok-write_through.ensures.pinned in
    let P = λ (base : List ℕ) (left : List ℕ). Torn 1 base (written 0 (0 ∷ []) bytes) left ⊎ Torn 0 (1 ∷ []) (written 1 base (written 0 (0 ∷ []) bytes)) left in
    weaker_leaves g.D.Disk.clock g.D.Disk.left_since c.args.disk.now c.write_then_open.new.disk
    (λ left. Torn 0 (0 ∷ []) bytes left ⊎ P (tail ++ 0 ∷ []) left) (IsOldOrShutOrNew bytes (1 ∷ tail)) (said bytes tail)
    (then_leaves g.D.Disk.clock g.D.Disk.left_since c.args.disk.now c.write_through.new.disk c.write_then_open.new.disk (Torn 0 (0 ∷ []) bytes) (P (tail ++ 0 ∷ [])) first
    (subst (λ (base : List ℕ). LeavesOnly g.D.Disk.clock g.D.Disk.left_since c.write_through.new.disk c.write_then_open.new.disk (P base)) is second))

pub returns-clause-any_moment : goal.returns-clause-any_moment
returns-clause-any_moment g c bytes tail is told pinned =
    let first = c.write_through.ensures.any_moment bytes told pinned in
    let second = c.write_then_open.ensures.any_moment (written 0 (0 ∷ []) bytes)
    (c.in_ok-write_through.ensures.image ∙ ap (option_map (written 0 (0 ∷ []))) told) c.in_ok-write_through.ensures.pinned in
    let P = λ (base : List ℕ) (left : List ℕ). Torn 1 base (written 0 (0 ∷ []) bytes) left ⊎ Torn 0 (1 ∷ []) (written 1 base (written 0 (0 ∷ []) bytes)) left in
    weaker_leaves g.D.Disk.clock g.D.Disk.left_since c.args.disk.now c.write_then_open.new.disk
    (λ left. Torn 0 (0 ∷ []) bytes left ⊎ P (tail ++ 0 ∷ []) left) (IsOldOrShutOrNew bytes (1 ∷ tail)) (said bytes tail)
    (then_leaves g.D.Disk.clock g.D.Disk.left_since c.args.disk.now c.write_through.new.disk c.write_then_open.new.disk (Torn 0 (0 ∷ []) bytes) (P (tail ++ 0 ∷ [])) first
    (subst (λ (base : List ℕ). LeavesOnly g.D.Disk.clock g.D.Disk.left_since c.write_through.new.disk c.write_then_open.new.disk (P base)) is second))
