-- A reader that computes what a text's first formula is, or its first fault, in a number of steps. It serves the proof that the texts of formulas and their faults are determined; no contract speaks of it.
use Rattle.std.proofs.Common.{◌≡◌, ℕ, zero, suc, ◌+◌, ◌≤◌, Bool, true, false, List, [], ◌∷◌, ◌++◌, length, refl, sym, ap, ◌∙◌, arith, Result, Ok, Err}
use Rattle.std.specs.Prelude.{nat_lt, if◌then◌else◌}
use Rattle.bl_syntax.specs.declared.terms.Sort.{Sort}
use Rattle.bl_syntax.specs.declared.terms.Term.{Term}
use Rattle.bl_syntax.specs.Formula.{FormulaView, both, either, implies, forall_, exists_, says, on}
use Rattle.bl_syntax.specs.Names.{is_predicate_name}
use Rattle.bl_tokens.specs.declared.faults.TextFault.{TextFault}
use Rattle.bl_tokens.specs.declared.faults.TextFault.TheVariants.{TooLarge, NoMemory}
use Rattle.bl_tokens.specs.declared.tokens.Sign.TheVariants as signs
use Rattle.bl_tokens.specs.declared.tokens.Keyword.TheVariants as keywords
use Rattle.bl_tokens.specs.declared.tokens.Token.{Token}
use Rattle.bl_tokens.specs.declared.tokens.Token.TheVariants.{Name}
use Rattle.bl_tokens.specs.declared.tokens.Cursor.{Cursor}
use Rattle.bl_tokens.specs.Tokens.{cursor_after, cursor_after_node, is_sign, is_word}
use Rattle.bl_text.specs.Scope.{Variable}
use Rattle.bl_text.specs.Pieces.{◌>>=◌, count, expect_sign, argument, next_argument, interval, binder, speaker, apply_predicate, simple_formula}
use Rattle.bl_text.specs.Grammar.{Level, formula, disjunction, conjunction, unary, postfix, primary, is_quantifier, is_saying, is_call}

-- ---- arguments

abbrev pub Read : Type 0
Read = Result (FormulaView × Cursor) TextFault

abbrev pub ReadTerms : Type 0
ReadTerms = Result (List Term × Cursor) TextFault

abbrev pub further_terms : List ℕ → Bool → List Variable → Bool → ℕ → List Term → Cursor → ReadTerms
further_terms text in_statement scope is_atom zero terms mid = Err NoMemory
further_terms text in_statement scope is_atom (suc n) terms mid =
    if is_sign signs.Comma mid.token then (next_argument in_statement scope is_atom (length terms) (cursor_after text mid) >>= (λ t. further_terms text in_statement scope is_atom n (terms ++ t ∷ []) (cursor_after_node text (cursor_after text mid))))
    else Ok (terms, mid)

abbrev pub all_terms : List ℕ → Bool → List Variable → Bool → ℕ → Cursor → ReadTerms
all_terms text in_statement scope is_atom n here = argument in_statement scope here >>= (λ t. further_terms text in_statement scope is_atom n (t ∷ []) (cursor_after_node text here))

abbrev pub named : List ℕ → Bool → List Variable → ℕ → Cursor → List ℕ → Read
named text in_statement scope n here name =
    count here >>= (λ _. all_terms text in_statement scope (is_predicate_name name) n (cursor_after text (cursor_after_node text here)) >>= (λ r. expect_sign text signs.Close r.1 >>= (λ there. apply_predicate scope here.at name r.0 >>= (λ f. Ok (f, there)))))

abbrev pub called_by : List ℕ → Bool → List Variable → ℕ → Cursor → Token → Read
called_by text in_statement scope n here (Name name) = named text in_statement scope n here name
called_by text in_statement scope n here _ = Err NoMemory

-- ---- formulas

-- to read at a level, or to go on with what was read there
pub data Task : Type 0 where
  at : Level → List Variable → ℕ → Cursor → Task
  more : Level → List Variable → ℕ → Cursor → FormulaView → Task

abbrev pub quantify : Token → Sort → FormulaView → FormulaView
quantify token s a = if is_word keywords.Forall token then forall_ s a else exists_ s a

abbrev pub run : List ℕ → Bool → ℕ → Task → Read
run text in_statement zero task = Err NoMemory
run text in_statement (suc n) (at formula scope depth here) =
    if is_quantifier here.token then (binder text here >>= (λ v. run text in_statement n (at formula ((v.0, v.1) ∷ scope) depth v.2) >>= (λ r. Ok (quantify here.token v.1 r.0, r.1))))
    else (run text in_statement n (at disjunction scope depth here) >>= (λ r. run text in_statement n (more formula scope depth r.1 r.0)))
run text in_statement (suc n) (at disjunction scope depth here) = run text in_statement n (at conjunction scope depth here) >>= (λ r. run text in_statement n (more disjunction scope depth r.1 r.0))
run text in_statement (suc n) (at conjunction scope depth here) = run text in_statement n (at unary scope depth here) >>= (λ r. run text in_statement n (more conjunction scope depth r.1 r.0))
run text in_statement (suc n) (at unary scope depth here) =
    if is_saying text here then (speaker text scope here >>= (λ k. run text in_statement n (at unary scope depth k.1) >>= (λ r. Ok (says k.0 r.0, r.1))))
    else run text in_statement n (at postfix scope depth here)
run text in_statement (suc n) (at postfix scope depth here) = run text in_statement n (at primary scope depth here) >>= (λ r. run text in_statement n (more postfix scope depth r.1 r.0))
run text in_statement (suc n) (at primary scope depth here) =
    if is_sign signs.Open here.token then
    (if nat_lt depth 512 then (run text in_statement n (at formula scope (depth + 1) (cursor_after text here)) >>= (λ r. expect_sign text signs.Close r.1 >>= (λ there. Ok (r.0, there)))) else Err (TooLarge here.at))
    else (if is_call text here then called_by text in_statement scope n here here.token else simple_formula text in_statement scope here)
run text in_statement (suc n) (more formula scope depth mid a) =
    if is_sign signs.Implies mid.token then (count mid >>= (λ _. run text in_statement n (at formula scope depth (cursor_after_node text mid)) >>= (λ r. Ok (implies a r.0, r.1))))
    else Ok (a, mid)
run text in_statement (suc n) (more disjunction scope depth mid a) =
    if is_sign signs.Or mid.token then (count mid >>= (λ _. run text in_statement n (at conjunction scope depth (cursor_after_node text mid)) >>= (λ r. run text in_statement n (more disjunction scope depth r.1 (either a r.0)))))
    else Ok (a, mid)
run text in_statement (suc n) (more conjunction scope depth mid a) =
    if is_sign signs.And mid.token then (count mid >>= (λ _. run text in_statement n (at unary scope depth (cursor_after_node text mid)) >>= (λ r. run text in_statement n (more conjunction scope depth r.1 (both a r.0)))))
    else Ok (a, mid)
run text in_statement (suc n) (more unary scope depth mid a) = Ok (a, mid)
run text in_statement (suc n) (more postfix scope depth mid a) =
    if is_sign signs.At mid.token then (interval text in_statement scope mid >>= (λ v. run text in_statement n (more postfix scope depth v.2 (on a v.0 v.1))))
    else Ok (a, mid)
run text in_statement (suc n) (more primary scope depth mid a) = Ok (a, mid)

-- ---- what is answered from some number of steps on

pub record Settles {A : Type 0} (r : ℕ → Result A TextFault) (x : Result A TextFault) : Type 0 where
  pub steps : ℕ
  pub from_there : (n : ℕ) → steps ≤ n → r n ≡ x

pub settles_at_once : {A : Type 0} (x : Result A TextFault) → Settles (λ n. x) x
settles_at_once x = record { steps = 0; from_there = λ n h. refl }

pub settles_same : {A : Type 0} (x y : Result A TextFault) → x ≡ y → Settles (λ n. x) y
settles_same x y e = record { steps = 0; from_there = λ n h. e }

later : {A : Type 0} (r : ℕ → Result A TextFault) (x : Result A TextFault) (s : ℕ) → ((n : ℕ) → s ≤ n → r (suc n) ≡ x) → (n : ℕ) → suc s ≤ n → r n ≡ x
later r x s h zero few = absurd (omega arith)
later r x s h (suc n) few = h n (omega arith)

-- one step
pub settles_step : {A : Type 0} (r : ℕ → Result A TextFault) (x : Result A TextFault) → Settles (λ n. r (suc n)) x → Settles r x
settles_step r x h = record { steps = suc h.steps; from_there = later r x h.steps h.from_there }

bind_same : {A B : Type 0} (r : Result A TextFault) (s : A → Result B TextFault) (a : A) (x : Result B TextFault) → r ≡ Ok a → s a ≡ x → (r >>= s) ≡ x
bind_same r s a x e f = ap (λ r'. r' >>= s) e ∙ f

pub settles_bind : {A B : Type 0} (r : ℕ → Result A TextFault) (s : ℕ → A → Result B TextFault) (a : A) (x : Result B TextFault) → Settles r (Ok a) → Settles (λ n. s n a) x → Settles (λ n. r n >>= s n) x
settles_bind r s a x h k = record {
  steps = h.steps + k.steps;
  from_there = λ n many. bind_same (r n) (s n) a x (h.from_there n (omega arith)) (k.from_there n (omega arith));
}

pub settles_fault : {A B : Type 0} (r : ℕ → Result A TextFault) (s : ℕ → A → Result B TextFault) (e : TextFault) → Settles r (Err e) → Settles (λ n. r n >>= s n) (Err e)
settles_fault r s e h = record { steps = h.steps; from_there = λ n many. ap (λ r'. r' >>= s n) (h.from_there n many) }

if_true_same : {A : Type 0} (b : Bool) (x y z : A) → b ≡ true → x ≡ z → (if b then x else y) ≡ z
if_true_same b x y z e f = ap (λ b'. if b' then x else y) e ∙ f

if_false_same : {A : Type 0} (b : Bool) (x y z : A) → b ≡ false → y ≡ z → (if b then x else y) ≡ z
if_false_same b x y z e f = ap (λ b'. if b' then x else y) e ∙ f

pub settles_true : {A : Type 0} (b : Bool) (r s : ℕ → Result A TextFault) (x : Result A TextFault) → b ≡ true → Settles r x → Settles (λ n. if b then r n else s n) x
settles_true b r s x e h = record { steps = h.steps; from_there = λ n many. if_true_same b (r n) (s n) x e (h.from_there n many) }

pub settles_false : {A : Type 0} (b : Bool) (r s : ℕ → Result A TextFault) (x : Result A TextFault) → b ≡ false → Settles s x → Settles (λ n. if b then r n else s n) x
settles_false b r s x e h = record { steps = h.steps; from_there = λ n many. if_false_same b (r n) (s n) x e (h.from_there n many) }

pub settles_once : {A : Type 0} (r : ℕ → Result A TextFault) (x y : Result A TextFault) → Settles r x → Settles r y → x ≡ y
settles_once r x y h k = sym (h.from_there (h.steps + k.steps) (omega arith)) ∙ k.from_there (h.steps + k.steps) (omega arith)
