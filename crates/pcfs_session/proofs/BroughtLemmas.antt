-- The procaps that words bring, one word after the other.
use Rattle.std.proofs.Common.{◌≡◌, ◌≤◌, ◌+◌, ◌-◌, ℕ, drop, take, get_or, List, [], ◌∷◌, ◌++◌, length, Option, Some, None, refl, sym, ap, subst, ◌∙◌, arith, append-nil, append_assoc}
use Rattle.std.proofs.lemmas.List.{take_all}
use Rattle.procap.specs.declared.procap.Procap.{Procap as Sealed}
use Rattle.access_history.specs.declared.event.Issue.{Issue}
use Rattle.access_history.specs.Authority.{procap_of}
use Rattle.access_history.specs.Numbered.{IsNumbered}
use Rattle.line_words.specs.declared.procap_word.ProcapWord.{ProcapWord}
use Rattle.line_words.specs.declared.procap_word.ProcapWord.TheVariants as words
use Rattle.op_gate.specs.Issued.{IsProcapOf}
use Rattle.pcfs_session.specs.declared.brought.BroughtProcap.{BroughtProcap}
use Rattle.pcfs_session.specs.declared.brought.BroughtProcap.TheVariants as found
use Rattle.pcfs_session.specs.Brought.{IsBroughtBy, AreProcapsAdded}
use Rattle.access_history.specs.Replay.{replay}
use Rattle.pcfs_session.specs.Procaps.{BringsProcap, held, issued, NamesIssue, AreBrought, IsFirstUnissued}
use Rattle.pcfs_session.specs.ScriptRun.{ScriptState}

-- a word brings its own procap
pub brings_own : (key : List ℕ) (issues : List Issue) (word : ProcapWord) (p copied : Sealed) → word ≡ words.Procap p → copied ≡ p → BringsProcap key issues word copied
brings_own key issues word p copied is same =
    subst (λ (q : Sealed). BringsProcap key issues word q) (sym same) (subst (λ (w : ProcapWord). BringsProcap key issues w p) (sym is) (held p))

-- a word brings the procap of the issue that it names
pub brings_issued : (key : List ℕ) (issues : List Issue) (word : ProcapWord) (number : ℕ) (p : Sealed) → word ≡ words.Issue number → IsProcapOf key issues number p → BringsProcap key issues word p
brings_issued key issues word number p is of =
    subst (λ (q : Sealed). BringsProcap key issues word q) (sym of.procap_is) (subst (λ (w : ProcapWord). BringsProcap key issues w (procap_of key of.issue.grant)) (sym is) (issued number of.issue of.numbered))

-- a word that brings a procap names no issue that is not there
pub NamesIssue-brought : (key : List ℕ) (issues : List Issue) (word : ProcapWord) (p : Sealed) → BringsProcap key issues word p → NamesIssue issues word
NamesIssue-brought key issues _ _ (held p) = tt
NamesIssue-brought key issues _ _ (issued number issue numbered) = (issue, numbered)

-- no word brings anything
pub AreAdded-none : (key : List ℕ) (issues : List Issue) (words : List ProcapWord) (before : List Sealed) → words ≡ [] → AreProcapsAdded key issues words before before None
AreAdded-none key issues words before is = subst (λ (ws : List ProcapWord). AreProcapsAdded key issues ws before before None) (sym is) ([], tt, sym (append-nil before))

further : (key : List ℕ) (issues : List Issue) (word : ProcapWord) (others : List ProcapWord) (p : Sealed) (number : ℕ) → BringsProcap key issues word p → IsFirstUnissued issues others number → IsFirstUnissued issues (word ∷ others) number
further key issues word others p number brings later = record {
  place = later.place + 1;
  first = record {
    before = word ∷ later.first.before;
    behind = later.first.behind;
    parts = ap (λ (ws : List ProcapWord). word ∷ ws) later.first.parts;
    place_is = omega (arith, later.first.place_is);
    holds_before = (NamesIssue-brought key issues word p brings, later.first.holds_before);
    fails = later.first.fails;
  };
}

one_more : (key : List ℕ) (issues : List Issue) (word : ProcapWord) (others : List ProcapWord) (before mid after : List Sealed) (p : Sealed) (told : Option ℕ) → BringsProcap key issues word p → mid ≡ before ++ p ∷ [] →
    AreProcapsAdded key issues others mid after told → AreProcapsAdded key issues (word ∷ others) before after told
one_more key issues word others before mid after p None brings mid_is added =
    (p ∷ added.0, (brings, added.1), added.2 ∙ ap (λ (ps : List Sealed). ps ++ added.0) mid_is ∙ append_assoc before (p ∷ []) added.0)
one_more key issues word others before mid after p (Some number) brings mid_is later = further key issues word others p number brings later

-- the first word brings a procap
pub AreAdded-more : (key : List ℕ) (issues : List Issue) (words : List ProcapWord) (word : ProcapWord) (others : List ProcapWord) (before mid after : List Sealed) (brought : BroughtProcap) (p : Sealed) (told : Option ℕ) → words ≡ word ∷ others →
    brought ≡ found.Procap p → IsBroughtBy key issues word brought → mid ≡ before ++ p ∷ [] → AreProcapsAdded key issues others mid after told → AreProcapsAdded key issues words before after told
AreAdded-more key issues words word others before mid after brought p told is found_is brings mid_is added =
    subst (λ (ws : List ProcapWord). AreProcapsAdded key issues ws before after told) (sym is)
    (one_more key issues word others before mid after p told (subst (IsBroughtBy key issues word) found_is brings) mid_is added)

here : (issues : List Issue) (word : ProcapWord) (others : List ProcapWord) (number : ℕ) → word ≡ words.Issue number → ((issue : Issue) → IsNumbered issues number issue → ⊥) → IsFirstUnissued issues (word ∷ others) number
here issues word others number is none = record {
  place = 0;
  first = record { before = []; behind = others; parts = ap (λ (w : ProcapWord). w ∷ others) is; place_is = refl; holds_before = tt; fails = λ names. none names.0 names.1 };
}

-- the first word names an issue which is not there
pub AreAdded-unissued : (key : List ℕ) (issues : List Issue) (words : List ProcapWord) (word : ProcapWord) (others : List ProcapWord) (before after : List Sealed) (brought : BroughtProcap) (number : ℕ) → words ≡ word ∷ others →
    brought ≡ found.Unissued number → IsBroughtBy key issues word brought → AreProcapsAdded key issues words before after (Some number)
AreAdded-unissued key issues words word others before after brought number is found_is brings =
    let none : IsBroughtBy key issues word (found.Unissued number) = subst (IsBroughtBy key issues word) found_is brings in
    subst (λ (ws : List ProcapWord). AreProcapsAdded key issues ws before after (Some number)) (sym is) (here issues word others number none.0 none.1)

-- what was added to nothing is what the words bring
pub AreBrought-added : (key : List ℕ) (issues : List Issue) (words : List ProcapWord) (none added : List Sealed) (told : Option ℕ) → told ≡ None → none ≡ [] → AreProcapsAdded key issues words none added told → AreBrought key issues words added
AreBrought-added key issues words none added told is empty all =
    let a : AreProcapsAdded key issues words none added None = subst (AreProcapsAdded key issues words none added) is all in
    subst (AreBrought key issues words) (sym (a.2 ∙ ap (λ (ps : List Sealed). ps ++ a.0) empty)) a.1

-- the words begin with the first
pub first_word : (words : List ProcapWord) (word : ProcapWord) → 1 ≤ length words → word ≡ get_or words 0 word → words ≡ word ∷ drop 1 words
first_word [] word some is = absurd (omega (arith, some))
first_word (w ∷ ws) word some is = ap (λ (x : ProcapWord). x ∷ ws) (sym is)

-- and those after it end them
pub first_and_others : (words : List ProcapWord) (word : ProcapWord) → 1 ≤ length words → word ≡ get_or words 0 word → words ≡ word ∷ take (length words - 1) (drop 1 words)
first_and_others [] word some is = absurd (omega (arith, some))
first_and_others (w ∷ ws) word some is = ap (λ (x : ProcapWord). x ∷ ws) (sym is) ∙ ap (λ (t : List ProcapWord). word ∷ t) (sym (take_all (length (w ∷ ws) - 1) ws (omega arith)))

-- what the words of a line bring where an interpreter stands
pub unissued_seated : (inside seated : ScriptState) (shown words : List ProcapWord) (none added : List Sealed) (told : Option ℕ) (number : ℕ) → inside ≡ seated → shown ≡ words → told ≡ Some number →
    AreProcapsAdded inside.secrets.seal_key (replay inside.base inside.events).issues shown none added told → IsFirstUnissued (replay seated.base seated.events).issues words number
unissued_seated inside seated shown words none added told number same words_are is all =
    let first : IsFirstUnissued (replay inside.base inside.events).issues shown number = subst (AreProcapsAdded inside.secrets.seal_key (replay inside.base inside.events).issues shown none added) is all in
    subst (λ (s : ScriptState). IsFirstUnissued (replay s.base s.events).issues words number) same
    (subst (λ (ws : List ProcapWord). IsFirstUnissued (replay inside.base inside.events).issues ws number) words_are first)

pub brought_seated : (inside seated : ScriptState) (shown words : List ProcapWord) (none added : List Sealed) (told : Option ℕ) → inside ≡ seated → shown ≡ words → told ≡ None → none ≡ [] →
    AreProcapsAdded inside.secrets.seal_key (replay inside.base inside.events).issues shown none added told → AreBrought seated.secrets.seal_key (replay seated.base seated.events).issues words added
brought_seated inside seated shown words none added told same words_are is empty all =
    subst (λ (s : ScriptState). AreBrought s.secrets.seal_key (replay s.base s.events).issues words added) same
    (subst (λ (ws : List ProcapWord). AreBrought inside.secrets.seal_key (replay inside.base inside.events).issues ws added) words_are
    (AreBrought-added inside.secrets.seal_key (replay inside.base inside.events).issues shown none added told is empty all))
