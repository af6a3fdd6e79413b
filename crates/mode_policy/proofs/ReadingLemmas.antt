-- The lines of a table, one after the other; and the laws of reading.
use Rattle.std.proofs.Common.{◌≡◌, ℕ, zero, suc, ◌+◌, ◌≤◌, List, [], ◌∷◌, length, refl, sym, ap, ◌∙◌, subst, arith}
use Rattle.std.specs.Prelude.{Result, Ok, Err}
use Rattle.line_text.specs.Lines.{lines_of}
use Rattle.mode_policy.specs.declared.entry.Entry.{Entry}
use Rattle.mode_policy.specs.declared.fault.LineFault.{LineFault}
use Rattle.mode_policy.specs.declared.fault.LineFault.TheVariants as lines
use Rattle.mode_policy.specs.Adding.{AddsEntry}
use Rattle.mode_policy.specs.Lines.{IsEntryLine, Says, Adds, IsBad, IsTwice, AddUpTo, IsFirstAt}
use Rattle.mode_policy.specs.Reading.{AddsLine, IsFaultOf, fault_at}
use Rattle.mode_policy.specs.Table.{TableView, IsOfKnown, IsRepeated, with_entry, no_table}
use Rattle.mode_policy.proofs.LineLemmas.{IsEntryLine-same}

-- ---- one line

pub adds_line : (t after : TableView) (line : List ℕ) (e : Entry) (r : Result (Unit {0}) LineFault) → IsEntryLine line e → AddsEntry t e r after → AddsLine t line r after
adds_line t after line e (Ok u) is h = (e, record { says = record { is_line = is; of_known = h.0 }; is_new = h.1 }, h.2)
adds_line t after line e (Err lines.Bad) is h = λ other says. h (subst (IsOfKnown t) (IsEntryLine-same line other e says.is_line is) says.of_known)
adds_line t after line e (Err lines.Twice) is h = record { entry = e; says = record { is_line = is; of_known = h.0 }; repeated = h.1 }
adds_line t after line e (Err lines.NoMemory) is h = tt

pub outside_is_bad : (t : TableView) (line : List ℕ) → ((e : Entry) → IsEntryLine line e → ⊥) → IsBad t line
outside_is_bad t line none e says = none e says.is_line

-- ---- the lines before this one are added

pub record HasAdded (text : List ℕ) (t : TableView) (rest : List ℕ) (place : ℕ) : Type 0 where
  pub given : (after : TableView) → AddUpTo t (lines_of rest) after → AddUpTo no_table (lines_of text) after
  pub bad : (n : ℕ) → IsFirstAt IsBad t (lines_of rest) n → IsFirstAt IsBad no_table (lines_of text) (n + place)
  pub twice : (n : ℕ) → IsFirstAt IsTwice t (lines_of rest) n → IsFirstAt IsTwice no_table (lines_of text) (n + place)
  pub few : place + length rest ≤ length text

first_of_all : (IsSo : TableView → List ℕ → Type 0) (text : List ℕ) (n : ℕ) → IsFirstAt IsSo no_table (lines_of text) n → IsFirstAt IsSo no_table (lines_of text) (n + 0)
first_of_all IsSo text n h = let same : n ≡ n + 0 = omega arith in subst (IsFirstAt IsSo no_table (lines_of text)) same h

pub HasAdded-nothing : (text : List ℕ) → HasAdded text no_table text 0
HasAdded-nothing text = record {
  given = λ after h. h;
  bad = first_of_all IsBad text;
  twice = first_of_all IsTwice text;
  few = omega arith;
}

add_step : (t more : TableView) (e : Entry) (line : List ℕ) (lines others : List (List ℕ)) (after : TableView) → lines ≡ line ∷ others → Adds t line e → more ≡ with_entry t e
    → AddUpTo more others after → AddUpTo t lines after
add_step t more e line lines others after lines_are adds more_is h =
    subst (λ (l : List (List ℕ)). AddUpTo t l after) (sym lines_are) (e, adds, subst (λ (x : TableView). AddUpTo x others after) more_is h)

first_step : (IsSo : TableView → List ℕ → Type 0) (t more : TableView) (e : Entry) (line : List ℕ) (lines others : List (List ℕ)) (n : ℕ) → lines ≡ line ∷ others → Adds t line e → more ≡ with_entry t e
    → IsFirstAt IsSo more others n → IsFirstAt IsSo t lines (suc n)
first_step IsSo t more e line lines others n lines_are adds more_is h =
    subst (λ (l : List (List ℕ)). IsFirstAt IsSo t l (suc n)) (sym lines_are) (e, adds, subst (λ (x : TableView). IsFirstAt IsSo x others n) more_is h)

one_later : (IsSo : TableView → List ℕ → Type 0) (text : List ℕ) (n place : ℕ) → IsFirstAt IsSo no_table (lines_of text) (suc n + place) → IsFirstAt IsSo no_table (lines_of text) (n + (place + 1))
one_later IsSo text n place h = let same : suc n + place ≡ n + (place + 1) = omega arith in subst (IsFirstAt IsSo no_table (lines_of text)) same h

pub HasAdded-more : (text : List ℕ) (t more : TableView) (rest line others : List ℕ) (place : ℕ) → HasAdded text t rest place → lines_of rest ≡ line ∷ lines_of others → suc (length others) ≤ length rest
    → (e : Entry) × Adds t line e × (more ≡ with_entry t e) → HasAdded text more others (place + 1)
HasAdded-more text t more rest line others place added lines_are shorter one = record {
  given = λ after h. added.given after (add_step t more one.0 line (lines_of rest) (lines_of others) after lines_are one.1 one.2 h);
  bad = λ n h. one_later IsBad text n place (added.bad (suc n) (first_step IsBad t more one.0 line (lines_of rest) (lines_of others) n lines_are one.1 one.2 h));
  twice = λ n h. one_later IsTwice text n place (added.twice (suc n) (first_step IsTwice t more one.0 line (lines_of rest) (lines_of others) n lines_are one.1 one.2 h));
  few = let sum = added.few in omega arith;
}

first_here : (IsSo : TableView → List ℕ → Type 0) (text : List ℕ) (t : TableView) (rest line : List ℕ) (others : List (List ℕ)) (place : ℕ)
    → ((n : ℕ) → IsFirstAt IsSo t (lines_of rest) n → IsFirstAt IsSo no_table (lines_of text) (n + place)) → lines_of rest ≡ line ∷ others → IsSo t line
    → IsFirstAt IsSo no_table (lines_of text) place
first_here IsSo text t rest line others place later lines_are is_so =
    let same : 0 + place ≡ place = omega arith in
    subst (IsFirstAt IsSo no_table (lines_of text)) same (later 0 (subst (λ (l : List (List ℕ)). IsFirstAt IsSo t l 0) (sym lines_are) is_so))

pub all_added : (text : List ℕ) (t : TableView) (rest : List ℕ) (place : ℕ) → HasAdded text t rest place → rest ≡ [] → AddUpTo no_table (lines_of text) t
all_added text t rest place added at_end = added.given t (subst (λ (r : List ℕ). AddUpTo t (lines_of r) t) (sym at_end) refl)

-- ---- laws

same_says : (t : TableView) (line : List ℕ) (e f : Entry) → Says t line e → Says t line f → e ≡ f
same_says t line e f h k = IsEntryLine-same line e f h.is_line k.is_line

pub one_table : (t : TableView) (lines : List (List ℕ)) (a b : TableView) → AddUpTo t lines a → AddUpTo t lines b → a ≡ b
one_table t [] a b h k = sym h ∙ k
one_table t (line ∷ lines) a b h k =
    let same = same_says t line k.0 h.0 k.1.says h.1.says in
    one_table (with_entry t h.0) lines a b h.2 (subst (λ (e : Entry). AddUpTo (with_entry t e) lines b) same k.2)

-- a line that is so adds nothing
abbrev pub AddsNothing : (TableView → List ℕ → Type 0) → Type 0
AddsNothing IsSo = (t : TableView) (line : List ℕ) (e : Entry) → Adds t line e → IsSo t line → ⊥

pub bad_adds_nothing : AddsNothing IsBad
bad_adds_nothing t line e adds bad = bad e adds.says

pub twice_adds_nothing : AddsNothing IsTwice
twice_adds_nothing t line e adds twice = adds.is_new (subst (IsRepeated t) (same_says t line twice.entry e twice.says adds.says) twice.repeated)

pub one_first : (IsSo IsToo : TableView → List ℕ → Type 0) → AddsNothing IsSo → AddsNothing IsToo → (t : TableView) (lines : List (List ℕ)) (m n : ℕ) → IsFirstAt IsSo t lines m → IsFirstAt IsToo t lines n → m ≡ n
one_first IsSo IsToo nothing too t [] m n h k = absurd h
one_first IsSo IsToo nothing too t (line ∷ lines) zero zero h k = refl
one_first IsSo IsToo nothing too t (line ∷ lines) zero (suc n) h k = absurd (nothing t line k.0 k.1 h)
one_first IsSo IsToo nothing too t (line ∷ lines) (suc m) zero h k = absurd (too t line h.0 h.1 k)
one_first IsSo IsToo nothing too t (line ∷ lines) (suc m) (suc n) h k =
    let same = same_says t line k.0 h.0 k.1.says h.1.says in
    ap suc (one_first IsSo IsToo nothing too (with_entry t h.0) lines m n h.2 (subst (λ (e : Entry). IsFirstAt IsToo (with_entry t e) lines n) same k.2))

-- a line is not both
pub not_both : (t : TableView) (lines : List (List ℕ)) (n : ℕ) → IsFirstAt IsBad t lines n → IsFirstAt IsTwice t lines n → ⊥
not_both t [] n h k = h
not_both t (line ∷ lines) zero h k = h k.entry k.says
not_both t (line ∷ lines) (suc n) h k =
    let same = same_says t line k.0 h.0 k.1.says h.1.says in
    not_both (with_entry t h.0) lines n h.2 (subst (λ (e : Entry). IsFirstAt IsTwice (with_entry t e) lines n) same k.2)

pub no_table_has_a_first : (IsSo : TableView → List ℕ → Type 0) → AddsNothing IsSo → (t : TableView) (lines : List (List ℕ)) (after : TableView) (n : ℕ) → AddUpTo t lines after → IsFirstAt IsSo t lines n → ⊥
no_table_has_a_first IsSo nothing t [] after n h k = k
no_table_has_a_first IsSo nothing t (line ∷ lines) after zero h k = nothing t line h.0 h.1 k
no_table_has_a_first IsSo nothing t (line ∷ lines) after (suc n) h k =
    let same = same_says t line k.0 h.0 k.1.says h.1.says in
    no_table_has_a_first IsSo nothing (with_entry t h.0) lines after n h.2 (subst (λ (e : Entry). IsFirstAt IsSo (with_entry t e) lines n) same k.2)

-- the fault of the line at hand is that of the text
pub fault_told : (text : List ℕ) (t after : TableView) (rest line : List ℕ) (others : List (List ℕ)) (place : ℕ) (fault : LineFault) → HasAdded text t rest place → lines_of rest ≡ line ∷ others → AddsLine t line (Err fault) after
    → IsFaultOf (lines_of text) (fault_at (place + 1) fault)
fault_told text t after rest line others place lines.Bad added lines_are h = (place, first_here IsBad text t rest line others place added.bad lines_are h, refl)
fault_told text t after rest line others place lines.Twice added lines_are h = (place, first_here IsTwice text t rest line others place added.twice lines_are h, refl)
fault_told text t after rest line others place lines.NoMemory added lines_are h = tt
