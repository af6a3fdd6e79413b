-- What is read depends on the tokens up to its end alone, and a fault on those up to its own.
use Rattle.std.proofs.Common.{◌≡◌, ℕ, ◌≤◌, Bool, true, false, List, [], drop, refl, sym, ap, ◌∙◌, subst, arith, Option, Some, None, Result, Ok, Err, ◌⊎◌, inl, inr}
use Rattle.std.specs.Prelude.{if◌then◌else◌, ◌&&◌, nat_le}
use Rattle.bl_syntax.specs.declared.terms.Sort.TheVariants as sorts
use Rattle.bl_syntax.specs.declared.terms.Term.{Term}
use Rattle.bl_tokens.specs.declared.faults.TextFault.{TextFault}
use Rattle.bl_tokens.specs.declared.faults.TextFault.TheVariants.{Unexpected, UnknownName, BadDate, TooLarge}
use Rattle.bl_tokens.specs.declared.faults.TextFault.TheVariants as faults
use Rattle.bl_tokens.specs.declared.tokens.Sign.{Sign as Sign'}
use Rattle.bl_tokens.specs.declared.tokens.Sign.TheVariants as signs
use Rattle.bl_tokens.specs.declared.tokens.Token.{Token}
use Rattle.bl_tokens.specs.declared.tokens.Token.TheVariants.{Name, LongWord, Variable, Constant, SortName, Keyword, Sign, End, Bad}
use Rattle.bl_tokens.specs.declared.tokens.Token.TheVariants as tokens
use Rattle.bl_tokens.specs.declared.tokens.Cursor.{Cursor}
use Rattle.bl_tokens.specs.Tokens.{token_from, is_sign}
use Rattle.bl_text.specs.Pieces.{◌>>=◌, term_of, require_sort}
use Rattle.bl_text.specs.Scope.{is_of_wanted_sort}
use Rattle.bl_text.specs.Texts.{is_end}
use Rattle.proof_term.specs.declared.rule.Rule.{Rule}
use Rattle.proof_term.specs.declared.rule.Rule.TheVariants as rules
use Rattle.proof_term.specs.declared.rule.Axiom.TheVariants as axioms
use Rattle.proof_term.specs.declared.rule.OnePremise.TheVariants as one
use Rattle.proof_term.specs.declared.rule.TwoPremises.TheVariants as two
use Rattle.proof_term.specs.Proof.{ProofView}
use Rattle.proof_text.specs.declared.names.PlainRule.{PlainRule}
use Rattle.proof_text.specs.declared.names.PlainRule.TheVariants.{ConsR, InterR, AndR, OrR1, OrR2, TrueR, ImpR, ForallR, ExistsR, SaysR, AtR}
use Rattle.proof_text.specs.declared.names.CitingRule.{CitingRule}
use Rattle.proof_text.specs.declared.names.CitingRule.TheVariants.{Init, ConsL, InterL, AndL, OrL, FalseL, ImpL, ForallL, ExistsL, SaysL, Claim, AtL}
use Rattle.proof_text.specs.declared.names.RuleName.{RuleName}
use Rattle.proof_text.specs.declared.names.RuleName.TheVariants.{Plain, Citing}
use Rattle.proof_text.specs.declared.cursor.ProofCursor.{ProofCursor}
use Rattle.proof_text.specs.Cursor.{first_byte, token_at, cursor_after_token, cursor_after_sign, term_at, time_at, hypothesis_reading, hypothesis_at, rule_reading, is_word_start, rule_at, room, take_rule}
use Rattle.proof_text.specs.Heads.{premise_head, finish_head, start_head, with_term, plain_head, with_instance, with_interval, citing_head, with_hypothesis, named_head, head}
use Rattle.proof_text.specs.Proofs.{IsProof, no_premise, one_premise, two_premises}
use Rattle.proof_text.specs.FirstFaults.{ProofHasFirstFault, no_memory, in_head, in_premise, behind_premise, in_first, behind_first, in_second, behind_second}
use Rattle.proof_text.specs.Texts.{at_end, ProofTextFault, in_proof, behind_proof}
use Rattle.proof_text.specs.SameTokens.{fault_place, SameNext, SameUpTo}

-- ---- values and faults

value_is : {A : Type 0} (x y : A) → ◌≡◌ {A = Result A TextFault} (Ok x) (Ok y) → x ≡ y
value_is x y h = cc

fault_is : {A : Type 0} (d e : TextFault) → ◌≡◌ {A = Result A TextFault} (Err d) (Err e) → d ≡ e
fault_is d e h = cc

no_fault : {A B : Type 0} (x : A) (e : TextFault) → ◌≡◌ {A = Result A TextFault} (Ok x) (Err e) → B
no_fault x e h = absurd (cc)

no_value : {A B : Type 0} (e : TextFault) (x : A) → ◌≡◌ {A = Result A TextFault} (Err e) (Ok x) → B
no_value e x h = absurd (cc)

abbrev Bound : {A B : Type 0} → Result A TextFault → (A → Result B TextFault) → Result B TextFault → Type 0
Bound {A} r f s = (x : A) × ((r ≡ Ok x) × (f x ≡ s))

bind_ok : {A B : Type 0} (r : Result A TextFault) (f : A → Result B TextFault) (y : B) → (r >>= f) ≡ Ok y → Bound r f (Ok y)
bind_ok (Ok x) f y h = (x, (refl, h))
bind_ok (Err e) f y h = no_value e y h

bind_err : {A B : Type 0} (r : Result A TextFault) (f : A → Result B TextFault) (e : TextFault) → (r >>= f) ≡ Err e → (r ≡ Err e) ⊎ Bound r f (Err e)
bind_err (Ok x) f e h = inr (x, (refl, h))
bind_err (Err d) f e h = inl (ap Err (fault_is d e h))

bound : {A B : Type 0} (r : Result A TextFault) (f : A → Result B TextFault) (x : A) (s : Result B TextFault) → r ≡ Ok x → f x ≡ s → (r >>= f) ≡ s
bound r f x s h k = ap (λ r. r >>= f) h ∙ k

bound_err : {A B : Type 0} (r : Result A TextFault) (f : A → Result B TextFault) (e : TextFault) → r ≡ Err e → (r >>= f) ≡ Err e
bound_err r f e h = ap (λ r. r >>= f) h

abbrev IsAt : ℕ → TextFault → Type 0
IsAt at e = fault_place e ≡ Some at

one_place : {at n : ℕ} → ◌≡◌ {A = Option ℕ} (Some n) (Some at) → at ≡ n
one_place {at} {n} h = cc

no_place : {at : ℕ} {A : Type 0} → ◌≡◌ {A = Option ℕ} None (Some at) → A
no_place h = absurd (cc)

at_unexpected : {at n : ℕ} → IsAt at (Unexpected n) → at ≡ n
at_unexpected h = one_place h

at_unknown : {at n : ℕ} → IsAt at (UnknownName n) → at ≡ n
at_unknown h = one_place h

at_date : {at n : ℕ} → IsAt at (BadDate n) → at ≡ n
at_date h = one_place h

at_sort : {at n : ℕ} → IsAt at (faults.Sort n) → at ≡ n
at_sort h = one_place h

at_large : {at n : ℕ} → IsAt at (TooLarge n) → at ≡ n
at_large h = one_place h

at_memory : {at : ℕ} {A : Type 0} → IsAt at faults.NoMemory → A
at_memory h = no_place h

moved : {at : ℕ} {d e : TextFault} → d ≡ e → IsAt at e → IsAt at d
moved {at} same is = subst (IsAt at) (sym same) is

-- ---- readings that depend on the tokens up to their end alone

record Settles {A : Type 0} (place : A → ProofCursor) (from : ℕ) (f : List ℕ → Result A TextFault) : Type 0 where
  goes : (text : List ℕ) (x : A) → f text ≡ Ok x → from ≤ (place x).from
  again : (text other : List ℕ) (x : A) → SameUpTo text other (place x).from → f text ≡ Ok x → f other ≡ Ok x
  late : (text : List ℕ) (e : TextFault) (at : ℕ) → IsAt at e → f text ≡ Err e → from ≤ at
  fails : (text other : List ℕ) (e : TextFault) (at : ℕ) → IsAt at e → SameUpTo text other at → f text ≡ Err e → f other ≡ Err e

sooner : {text other : List ℕ} {m n : ℕ} → m ≤ n → SameUpTo text other n → SameUpTo text other m
sooner {text} {other} {m} {n} le same = λ from h. same from (omega (arith, le, h))

-- a reading of one token
of_token : {A : Type 0} (place : A → ProofCursor) (from : ℕ) (f : List ℕ → Result A TextFault) → ((text other : List ℕ) → SameNext text other from → f other ≡ f text)
    → ((text : List ℕ) (x : A) → f text ≡ Ok x → from ≤ (place x).from) → ((text : List ℕ) (e : TextFault) (at : ℕ) → IsAt at e → f text ≡ Err e → from ≤ at) → Settles place from f
of_token place from f same goes late = record {
  goes = goes;
  again = λ text other x alike h. same text other (alike from (goes text x h)) ∙ h;
  late = late;
  fails = λ text other e at is alike h. same text other (alike from (late text e at is h)) ∙ h;
}

-- a value without a reading
of_value : {A : Type 0} (place : A → ProofCursor) (x : A) → Settles place (place x).from (λ text. Ok x)
of_value place x = record {
  goes = λ text y h. let same = value_is x y h in subst (λ y. (place x).from ≤ (place y).from) same (omega arith);
  again = λ text other y alike h. h;
  late = λ text e at is h. no_fault x e h;
  fails = λ text other e at is alike h. h;
}

-- one reading after another
module _ {A B : Type 0} (p : A → ProofCursor) (q : B → ProofCursor) (from : ℕ) (f : List ℕ → Result A TextFault) (g : A → List ℕ → Result B TextFault) (first : Settles p from f) (second : (x : A) → Settles q (p x).from (g x)) where
  both_go : (text : List ℕ) (y : B) → (f text >>= (λ x. g x text)) ≡ Ok y → from ≤ (q y).from
  both_go text y h =
      let b = bind_ok (f text) (λ x. g x text) y h in
      let m = first.goes text b.0 b.1.0 in
      let n = (second b.0).goes text y b.1.1 in omega (arith, m, n)

  both_again : (text other : List ℕ) (y : B) → SameUpTo text other (q y).from → (f text >>= (λ x. g x text)) ≡ Ok y → (f other >>= (λ x. g x other)) ≡ Ok y
  both_again text other y alike h =
      let b = bind_ok (f text) (λ x. g x text) y h in
      let n = (second b.0).goes text y b.1.1 in
      bound (f other) (λ x. g x other) b.0 (Ok y) (first.again text other b.0 (sooner n alike) b.1.0) ((second b.0).again text other y alike b.1.1)

  late_by : (text : List ℕ) (e : TextFault) (at : ℕ) → IsAt at e → (f text ≡ Err e) ⊎ Bound (f text) (λ x. g x text) (Err e) → from ≤ at
  late_by text e at is (inl h) = first.late text e at is h
  late_by text e at is (inr b) =
      let m = first.goes text b.0 b.1.0 in
      let n = (second b.0).late text e at is b.1.1 in omega (arith, m, n)

  fails_by : (text other : List ℕ) (e : TextFault) (at : ℕ) → IsAt at e → SameUpTo text other at → (f text ≡ Err e) ⊎ Bound (f text) (λ x. g x text) (Err e) → (f other >>= (λ x. g x other)) ≡ Err e
  fails_by text other e at is alike (inl h) = bound_err (f other) (λ x. g x other) e (first.fails text other e at is alike h)
  fails_by text other e at is alike (inr b) =
      let n = (second b.0).late text e at is b.1.1 in
      bound (f other) (λ x. g x other) b.0 (Err e) (first.again text other b.0 (sooner n alike) b.1.0) ((second b.0).fails text other e at is alike b.1.1)

  behind_one : Settles q from (λ text. f text >>= (λ x. g x text))
  behind_one = record {
    goes = both_go;
    again = both_again;
    late = λ text e at is h. late_by text e at is (bind_err (f text) (λ x. g x text) e h);
    fails = λ text other e at is alike h. fails_by text other e at is alike (bind_err (f text) (λ x. g x text) e h);
  }

-- ---- tokens

begins_at : (text : List ℕ) (from left : ℕ) → from ≤ (token_from text from left).at
unfolding token_from
begins_at text from left = omega arith

ends_behind : (text : List ℕ) (from left : ℕ) → from ≤ (token_from text from left).end
unfolding token_from
ends_behind text from left = omega arith

abbrev sign_by : Sign' → Cursor → Result ProofCursor TextFault
sign_by sign token = if is_sign sign token.token then Ok (cursor_after_token token) else Err (Unexpected token.at)

sign_ok : (b : Bool) (token : Cursor) (x : ProofCursor) → ◌≡◌ {A = Result ProofCursor TextFault} (if b then Ok (cursor_after_token token) else Err (Unexpected token.at)) (Ok x) → cursor_after_token token ≡ x
sign_ok true token x h = value_is _ x h
sign_ok false token x h = no_value _ x h

sign_err : (b : Bool) (token : Cursor) (e : TextFault) → ◌≡◌ {A = Result ProofCursor TextFault} (if b then Ok (cursor_after_token token) else Err (Unexpected token.at)) (Err e) → Unexpected token.at ≡ e
sign_err true token e h = no_fault _ e h
sign_err false token e h = fault_is _ e h

sign_settles : (sign : Sign') (here : ProofCursor) → Settles (λ (p : ProofCursor). p) here.from (λ text. cursor_after_sign text sign here)
unfolding cursor_after_sign
sign_settles sign here = of_token (λ (p : ProofCursor). p) here.from (λ text. cursor_after_sign text sign here)
    (λ text other same. ap (sign_by sign) (sym (same.token here.left)))
    (λ text x h. subst (λ (p : ProofCursor). here.from ≤ p.from) (sign_ok (is_sign sign (token_at text here).token) (token_at text here) x h) (ends_behind text here.from here.left))
    (λ text e at is h. subst (λ n. here.from ≤ n) (sym (at_unexpected (moved (sign_err (is_sign sign (token_at text here).token) (token_at text here) e h) is))) (begins_at text here.from here.left))

-- ---- terms

term_at_token : (at : ℕ) (token : Token) (end left : ℕ) (e : TextFault) → ◌≡◌ {A = Result Term TextFault} (term_of [] (record { at = at; token = token; end = end; left = left })) (Err e) → {n : ℕ} → IsAt n e → n ≡ at
unfolding term_of
term_at_token at (Name name) end left e h is = no_fault _ e h
term_at_token at (Constant t) end left e h is = no_fault _ e h
term_at_token at LongWord end left e h is = at_unexpected (moved (fault_is _ e h) is)
term_at_token at (Variable name) end left e h is = at_unknown (moved (fault_is _ e h) is)
term_at_token at tokens.BadDate end left e h is = at_date (moved (fault_is _ e h) is)
term_at_token at (SortName s) end left e h is = at_unexpected (moved (fault_is _ e h) is)
term_at_token at (Keyword word) end left e h is = at_unexpected (moved (fault_is _ e h) is)
term_at_token at (Sign sign) end left e h is = at_unexpected (moved (fault_is _ e h) is)
term_at_token at End end left e h is = at_unexpected (moved (fault_is _ e h) is)
term_at_token at Bad end left e h is = at_unexpected (moved (fault_is _ e h) is)

term_fault : (token : Cursor) (e : TextFault) (n : ℕ) → term_of [] token ≡ Err e → IsAt n e → n ≡ token.at
term_fault token e n h is = term_at_token token.at token.token token.end token.left e h is

sort_fault : (b : Bool) (at : ℕ) (e : TextFault) (n : ℕ) → ◌≡◌ {A = Result (Unit {0}) TextFault} (if b then Ok tt else Err (faults.Sort at)) (Err e) → IsAt n e → n ≡ at
sort_fault true at e n h is = no_fault _ e h
sort_fault false at e n h is = at_sort (moved (fault_is _ e h) is)

sorted_fault : (token : Cursor) (t : Term) (e : TextFault) (n : ℕ) → require_sort [] sorts.Time token.at t ≡ Err e → IsAt n e → n ≡ token.at
unfolding require_sort
sorted_fault token t e n h is = sort_fault (is_of_wanted_sort [] sorts.Time t) token.at e n h is

abbrev term_by : Cursor → Result (Term × ProofCursor) TextFault
term_by token = term_of [] token >>= (λ t. Ok (t, cursor_after_token token))

abbrev time_by : Cursor → Result (Term × ProofCursor) TextFault
time_by token = term_of [] token >>= (λ t. require_sort [] sorts.Time token.at t >>= (λ _. Ok (t, cursor_after_token token)))

term_ok : (token : Cursor) (x : Term × ProofCursor) → term_by token ≡ Ok x → cursor_after_token token ≡ x.1
term_ok token x h =
    let b = bind_ok (term_of [] token) (λ t. Ok (t, cursor_after_token token)) x h in ap (λ (p : Term × ProofCursor). p.1) (value_is _ x b.1.1)

time_ok : (token : Cursor) (x : Term × ProofCursor) → time_by token ≡ Ok x → cursor_after_token token ≡ x.1
time_ok token x h =
    let b = bind_ok (term_of [] token) (λ t. require_sort [] sorts.Time token.at t >>= (λ _. Ok (t, cursor_after_token token))) x h in
    let k = bind_ok (require_sort [] sorts.Time token.at b.0) (λ _. Ok (b.0, cursor_after_token token)) x b.1.1 in ap (λ (p : Term × ProofCursor). p.1) (value_is _ x k.1.1)

term_err : (token : Cursor) (e : TextFault) (n : ℕ) → IsAt n e → (term_of [] token ≡ Err e) ⊎ Bound {B = Term × ProofCursor} (term_of [] token) (λ t. Ok (t, cursor_after_token token)) (Err e) → n ≡ token.at
term_err token e n is (inl h) = term_fault token e n h is
term_err token e n is (inr b) = no_fault _ e b.1.1

time_sort : (token : Cursor) (t : Term) (e : TextFault) (n : ℕ) → IsAt n e → (require_sort [] sorts.Time token.at t ≡ Err e) ⊎ Bound {B = Term × ProofCursor} (require_sort [] sorts.Time token.at t) (λ _. Ok (t, cursor_after_token token)) (Err e) → n ≡ token.at
time_sort token t e n is (inl h) = sorted_fault token t e n h is
time_sort token t e n is (inr b) = no_fault _ e b.1.1

time_err : (token : Cursor) (e : TextFault) (n : ℕ) → IsAt n e
    → (term_of [] token ≡ Err e) ⊎ Bound {B = Term × ProofCursor} (term_of [] token) (λ t. require_sort [] sorts.Time token.at t >>= (λ _. Ok (t, cursor_after_token token))) (Err e) → n ≡ token.at
time_err token e n is (inl h) = term_fault token e n h is
time_err token e n is (inr b) = time_sort token b.0 e n is (bind_err (require_sort [] sorts.Time token.at b.0) (λ _. Ok (b.0, cursor_after_token token)) e b.1.1)

abbrev by_place : {A : Type 0} → A × ProofCursor → ProofCursor
by_place x = x.1

term_settles : (here : ProofCursor) → Settles by_place here.from (λ text. term_at text here)
unfolding term_at
term_settles here = of_token by_place here.from (λ text. term_at text here)
    (λ text other same. ap term_by (sym (same.token here.left)))
    (λ text x h. subst (λ (p : ProofCursor). here.from ≤ p.from) (term_ok (token_at text here) x h) (ends_behind text here.from here.left))
    (λ text e at is h. subst (λ n. here.from ≤ n) (sym (term_err (token_at text here) e at is (bind_err (term_of [] (token_at text here)) (λ t. Ok (t, cursor_after_token (token_at text here))) e h))) (begins_at text here.from here.left))

time_settles : (here : ProofCursor) → Settles by_place here.from (λ text. time_at text here)
unfolding time_at
time_settles here = of_token by_place here.from (λ text. time_at text here)
    (λ text other same. ap time_by (sym (same.token here.left)))
    (λ text x h. subst (λ (p : ProofCursor). here.from ≤ p.from) (time_ok (token_at text here) x h) (ends_behind text here.from here.left))
    (λ text e at is h.
    subst (λ n. here.from ≤ n)
    (sym (time_err (token_at text here) e at is (bind_err (term_of [] (token_at text here)) (λ t. require_sort [] sorts.Time (token_at text here).at t >>= (λ _. Ok (t, cursor_after_token (token_at text here)))) e h)))
    (begins_at text here.from here.left))

-- ---- hypotheses and rules

first_behind : (text : List ℕ) (here : ProofCursor) → here.from ≤ first_byte text here
first_behind text here = omega arith

numbered_ok : (from at size left : ℕ) (o : Option ℕ) (x : ℕ × ProofCursor) → from ≤ at → hypothesis_reading at size left o ≡ Ok x → from ≤ x.1.from
numbered_ok from at size left None x le h = no_value _ x h
numbered_ok from at size left (Some n) x le h = subst (λ (y : ℕ × ProofCursor). from ≤ y.1.from) (value_is _ x h) (omega (arith, le))

numbered_err : (at size left : ℕ) (o : Option ℕ) (e : TextFault) (n : ℕ) → IsAt n e → hypothesis_reading at size left o ≡ Err e → n ≡ at
numbered_err at size left None e n is h = at_unexpected (moved (fault_is _ e h) is)
numbered_err at size left (Some k) e n is h = no_fault _ e h

hypothesis_settles : (here : ProofCursor) → Settles by_place here.from (λ text. hypothesis_at text here)
unfolding hypothesis_at
hypothesis_settles here = of_token by_place here.from (λ text. hypothesis_at text here)
    (λ text other same. sym (same.hypothesis here.left))
    (λ text x h. numbered_ok here.from (first_byte text here) _ here.left _ x (first_behind text here) h)
    (λ text e at is h. subst (λ n. here.from ≤ n) (sym (numbered_err (first_byte text here) _ here.left _ e at is h)) (first_behind text here))

named_ok : (from at size left : ℕ) (o : Option RuleName) (x : RuleName × ProofCursor) → from ≤ at → rule_reading at size left o ≡ Ok x → from ≤ x.1.from
named_ok from at size left None x le h = no_value _ x h
named_ok from at size left (Some n) x le h = subst (λ (y : RuleName × ProofCursor). from ≤ y.1.from) (value_is _ x h) (omega (arith, le))

named_err : (at size left : ℕ) (o : Option RuleName) (e : TextFault) (n : ℕ) → IsAt n e → rule_reading at size left o ≡ Err e → n ≡ at
named_err at size left None e n is h = at_unknown (moved (fault_is _ e h) is)
named_err at size left (Some k) e n is h = no_fault _ e h

rule_ok : (b : Bool) (from at size left : ℕ) (o : Option RuleName) (x : RuleName × ProofCursor) → from ≤ at → ◌≡◌ {A = Result (RuleName × ProofCursor) TextFault} (if b then rule_reading at size left o else Err (Unexpected at)) (Ok x) → from ≤ x.1.from
rule_ok true from at size left o x le h = named_ok from at size left o x le h
rule_ok false from at size left o x le h = no_value _ x h

rule_err : (b : Bool) (at size left : ℕ) (o : Option RuleName) (e : TextFault) (n : ℕ) → IsAt n e → ◌≡◌ {A = Result (RuleName × ProofCursor) TextFault} (if b then rule_reading at size left o else Err (Unexpected at)) (Err e) → n ≡ at
rule_err true at size left o e n is h = named_err at size left o e n is h
rule_err false at size left o e n is h = at_unexpected (moved (fault_is _ e h) is)

rule_settles : (here : ProofCursor) → Settles by_place here.from (λ text. rule_at text here)
unfolding rule_at
rule_settles here = of_token by_place here.from (λ text. rule_at text here)
    (λ text other same. sym (same.rule here.left))
    (λ text x h. rule_ok (is_word_start (drop (first_byte text here) text)) here.from (first_byte text here) _ here.left _ x (first_behind text here) h)
    (λ text e at is h. subst (λ n. here.from ≤ n) (sym (rule_err (is_word_start (drop (first_byte text here) text)) (first_byte text here) _ here.left _ e at is h)) (first_behind text here))

-- ---- heads

after_sign : (sign : Sign') (rule : Rule) (here : ProofCursor) → Settles by_place here.from (λ text. cursor_after_sign text sign here >>= (λ there. Ok (rule, there)))
after_sign sign rule here =
    behind_one (λ (p : ProofCursor). p) by_place here.from (λ text. cursor_after_sign text sign here) (λ there text. Ok (rule, there)) (sign_settles sign here) (λ there. of_value by_place (rule, there))

comma_settles : (rule : Rule) (here : ProofCursor) → Settles by_place here.from (λ text. premise_head text rule here)
unfolding premise_head
comma_settles rule here = after_sign signs.Comma rule here

close_settles : (rule : Rule) (here : ProofCursor) → Settles by_place here.from (λ text. finish_head text rule here)
unfolding finish_head
close_settles rule here = after_sign signs.Close rule here

open_settles : (rule : Rule) (here : ProofCursor) → Settles by_place here.from (λ text. start_head text rule here)
unfolding start_head
open_settles rule here = after_sign signs.Open rule here

with_term_settles : (here : ProofCursor) → Settles by_place here.from (λ text. with_term text here)
unfolding with_term
with_term_settles here =
    behind_one (λ (p : ProofCursor). p) by_place here.from (λ text. cursor_after_sign text signs.Open here) (λ place text. term_at text place >>= (λ t. premise_head text (rules.One (one.ExistsR t.0)) t.1)) (sign_settles signs.Open here)
    (λ place. behind_one by_place by_place place.from (λ text. term_at text place) (λ t text. premise_head text (rules.One (one.ExistsR t.0)) t.1) (term_settles place) (λ t. comma_settles (rules.One (one.ExistsR t.0)) t.1))

plain_settles : (rule : PlainRule) (here : ProofCursor) → Settles by_place here.from (λ text. plain_head text rule here)
unfolding plain_head
plain_settles ConsR here = of_value by_place (rules.Axiom axioms.ConsR, here)
plain_settles InterR here = of_value by_place (rules.Axiom axioms.InterR, here)
plain_settles TrueR here = of_value by_place (rules.Axiom axioms.TrueR, here)
plain_settles AndR here = open_settles (rules.Two two.AndR) here
plain_settles OrR1 here = open_settles (rules.One one.OrR1) here
plain_settles OrR2 here = open_settles (rules.One one.OrR2) here
plain_settles ImpR here = open_settles (rules.One one.ImpR) here
plain_settles ForallR here = open_settles (rules.One one.ForallR) here
plain_settles ExistsR here = with_term_settles here
plain_settles SaysR here = open_settles (rules.One one.SaysR) here
plain_settles AtR here = open_settles (rules.One one.AtR) here

with_instance_settles : (h : ℕ) (here : ProofCursor) → Settles by_place here.from (λ text. with_instance text h here)
unfolding with_instance
with_instance_settles h here =
    behind_one (λ (p : ProofCursor). p) by_place here.from (λ text. cursor_after_sign text signs.Comma here) (λ place text. term_at text place >>= (λ t. premise_head text (rules.One (one.ForallL h t.0)) t.1)) (sign_settles signs.Comma here)
    (λ place. behind_one by_place by_place place.from (λ text. term_at text place) (λ t text. premise_head text (rules.One (one.ForallL h t.0)) t.1) (term_settles place) (λ t. comma_settles (rules.One (one.ForallL h t.0)) t.1))

with_interval_settles : (h : ℕ) (here : ProofCursor) → Settles by_place here.from (λ text. with_interval text h here)
unfolding with_interval
with_interval_settles h here =
    behind_one (λ (p : ProofCursor). p) by_place here.from (λ text. cursor_after_sign text signs.Comma here)
    (λ place text. time_at text place >>= (λ from. cursor_after_sign text signs.Comma from.1 >>= (λ second. time_at text second >>= (λ to. premise_head text (rules.Two (two.ImpL h from.0 to.0)) to.1)))) (sign_settles signs.Comma here)
    (λ place. behind_one by_place by_place place.from (λ text. time_at text place)
    (λ from text. cursor_after_sign text signs.Comma from.1 >>= (λ second. time_at text second >>= (λ to. premise_head text (rules.Two (two.ImpL h from.0 to.0)) to.1))) (time_settles place)
    (λ from. behind_one (λ (p : ProofCursor). p) by_place from.1.from (λ text. cursor_after_sign text signs.Comma from.1)
    (λ second text. time_at text second >>= (λ to. premise_head text (rules.Two (two.ImpL h from.0 to.0)) to.1)) (sign_settles signs.Comma from.1)
    (λ second. behind_one by_place by_place second.from (λ text. time_at text second) (λ to text. premise_head text (rules.Two (two.ImpL h from.0 to.0)) to.1) (time_settles second)
    (λ to. comma_settles (rules.Two (two.ImpL h from.0 to.0)) to.1))))

citing_settles : (rule : CitingRule) (h : ℕ) (here : ProofCursor) → Settles by_place here.from (λ text. citing_head text rule h here)
unfolding citing_head
citing_settles Init h here = close_settles (rules.Axiom (axioms.Init h)) here
citing_settles FalseL h here = close_settles (rules.Axiom (axioms.FalseL h)) here
citing_settles ConsL h here = comma_settles (rules.One (one.ConsL h)) here
citing_settles InterL h here = comma_settles (rules.One (one.InterL h)) here
citing_settles AndL h here = comma_settles (rules.One (one.AndL h)) here
citing_settles OrL h here = comma_settles (rules.Two (two.OrL h)) here
citing_settles ImpL h here = with_interval_settles h here
citing_settles ForallL h here = with_instance_settles h here
citing_settles ExistsL h here = comma_settles (rules.One (one.ExistsL h)) here
citing_settles SaysL h here = comma_settles (rules.One (one.SaysL h)) here
citing_settles Claim h here = comma_settles (rules.One (one.Claim h)) here
citing_settles AtL h here = comma_settles (rules.One (one.AtL h)) here

with_hypothesis_settles : (rule : CitingRule) (here : ProofCursor) → Settles by_place here.from (λ text. with_hypothesis text rule here)
unfolding with_hypothesis
with_hypothesis_settles rule here =
    behind_one (λ (p : ProofCursor). p) by_place here.from (λ text. cursor_after_sign text signs.Open here) (λ place text. hypothesis_at text place >>= (λ h. citing_head text rule h.0 h.1)) (sign_settles signs.Open here)
    (λ place. behind_one by_place by_place place.from (λ text. hypothesis_at text place) (λ h text. citing_head text rule h.0 h.1) (hypothesis_settles place) (λ h. citing_settles rule h.0 h.1))

named_settles : (name : RuleName) (here : ProofCursor) → Settles by_place here.from (λ text. named_head text name here)
unfolding named_head
named_settles (Plain rule) here = plain_settles rule here
named_settles (Citing rule) here = with_hypothesis_settles rule here

byte_is : (text : List ℕ) (here : ProofCursor) → (token_from text here.from here.left).at ≡ first_byte text here
unfolding token_from
byte_is text here = refl

first_same : (text other : List ℕ) (here : ProofCursor) → SameNext text other here.from → first_byte other here ≡ first_byte text here
first_same text other here same = sym (byte_is other here) ∙ ap (λ (t : Cursor). t.at) (sym (same.token here.left)) ∙ byte_is text here

abbrev room_by : Bool → ℕ → Result (Unit {0}) TextFault
room_by b at = if b then Ok tt else Err (TooLarge at)

room_same : (text other : List ℕ) (levels : ℕ) (here : ProofCursor) → SameNext text other here.from → room other levels here ≡ room text levels here
unfolding room
room_same text other levels here same =
    ap (room_by (nat_le 1 here.left && nat_le 1 levels)) (first_same text other here same)

large_fault : (b : Bool) (at : ℕ) (e : TextFault) (n : ℕ) → ◌≡◌ {A = Result (Unit {0}) TextFault} (if b then Ok tt else Err (TooLarge at)) (Err e) → IsAt n e → n ≡ at
large_fault true at e n h is = no_fault _ e h
large_fault false at e n h is = at_large (moved (fault_is _ e h) is)

room_fault : (text : List ℕ) (levels : ℕ) (here : ProofCursor) (e : TextFault) (n : ℕ) → room text levels here ≡ Err e → IsAt n e → n ≡ first_byte text here
unfolding room
room_fault text levels here e n h is = large_fault (nat_le 1 here.left && nat_le 1 levels) (first_byte text here) e n h is

module _ (levels : ℕ) (here : ProofCursor) where
  abbrev Behind : List ℕ → RuleName × ProofCursor → Result (Rule × ProofCursor) TextFault
  Behind text name = room text levels here >>= (λ _. named_head text name.0 (take_rule name.1))

  head_goes : (text : List ℕ) (x : Rule × ProofCursor) → (rule_at text here >>= (λ name. Behind text name)) ≡ Ok x → here.from ≤ x.1.from
  head_goes text x h =
      let b = bind_ok (rule_at text here) (λ name. Behind text name) x h in
      let k = bind_ok (room text levels here) (λ _. named_head text b.0.0 (take_rule b.0.1)) x b.1.1 in
      let m = (rule_settles here).goes text b.0 b.1.0 in
      let n = (named_settles b.0.0 (take_rule b.0.1)).goes text x k.1.1 in omega (arith, m, n)

  head_again : (text other : List ℕ) (x : Rule × ProofCursor) → SameUpTo text other x.1.from → (rule_at text here >>= (λ name. Behind text name)) ≡ Ok x → (rule_at other here >>= (λ name. Behind other name)) ≡ Ok x
  head_again text other x alike h =
      let b = bind_ok (rule_at text here) (λ name. Behind text name) x h in
      let k = bind_ok (room text levels here) (λ _. named_head text b.0.0 (take_rule b.0.1)) x b.1.1 in
      let m = (rule_settles here).goes text b.0 b.1.0 in
      let n = (named_settles b.0.0 (take_rule b.0.1)).goes text x k.1.1 in
      let same = alike here.from (omega (arith, m, n)) in
      bound (rule_at other here) (λ name. Behind other name) b.0 (Ok x) (sym (same.rule here.left) ∙ b.1.0)
      (bound (room other levels here) (λ _. named_head other b.0.0 (take_rule b.0.1)) k.0 (Ok x) (room_same text other levels here same ∙ k.1.0)
      ((named_settles b.0.0 (take_rule b.0.1)).again text other x alike k.1.1))

  late_behind : (text : List ℕ) (name : RuleName × ProofCursor) (e : TextFault) (at : ℕ) → IsAt at e → here.from ≤ name.1.from
      → (room text levels here ≡ Err e) ⊎ Bound (room text levels here) (λ _. named_head text name.0 (take_rule name.1)) (Err e) → here.from ≤ at
  late_behind text name e at is m (inl h) = subst (λ n. here.from ≤ n) (sym (room_fault text levels here e at h is)) (first_behind text here)
  late_behind text name e at is m (inr k) = let n = (named_settles name.0 (take_rule name.1)).late text e at is k.1.1 in omega (arith, m, n)

  head_late : (text : List ℕ) (e : TextFault) (at : ℕ) → IsAt at e → (rule_at text here ≡ Err e) ⊎ Bound (rule_at text here) (λ name. Behind text name) (Err e) → here.from ≤ at
  head_late text e at is (inl h) = (rule_settles here).late text e at is h
  head_late text e at is (inr b) =
      late_behind text b.0 e at is ((rule_settles here).goes text b.0 b.1.0) (bind_err (room text levels here) (λ _. named_head text b.0.0 (take_rule b.0.1)) e b.1.1)

  fails_behind : (text other : List ℕ) (name : RuleName × ProofCursor) (e : TextFault) (at : ℕ) → IsAt at e → SameUpTo text other at → SameNext text other here.from
      → (room text levels here ≡ Err e) ⊎ Bound (room text levels here) (λ _. named_head text name.0 (take_rule name.1)) (Err e) → Behind other name ≡ Err e
  fails_behind text other name e at is alike same (inl h) = bound_err (room other levels here) (λ _. named_head other name.0 (take_rule name.1)) e (room_same text other levels here same ∙ h)
  fails_behind text other name e at is alike same (inr k) =
      bound (room other levels here) (λ _. named_head other name.0 (take_rule name.1)) k.0 (Err e) (room_same text other levels here same ∙ k.1.0)
      ((named_settles name.0 (take_rule name.1)).fails text other e at is alike k.1.1)

  head_fails : (text other : List ℕ) (e : TextFault) (at : ℕ) → IsAt at e → SameUpTo text other at → (rule_at text here ≡ Err e) ⊎ Bound (rule_at text here) (λ name. Behind text name) (Err e)
      → (rule_at other here >>= (λ name. Behind other name)) ≡ Err e
  head_fails text other e at is alike (inl h) = bound_err (rule_at other here) (λ name. Behind other name) e ((rule_settles here).fails text other e at is alike h)
  head_fails text other e at is alike (inr b) =
      let behind = bind_err (room text levels here) (λ _. named_head text b.0.0 (take_rule b.0.1)) e b.1.1 in
      let same = alike here.from (late_behind text b.0 e at is ((rule_settles here).goes text b.0 b.1.0) behind) in
      bound (rule_at other here) (λ name. Behind other name) b.0 (Err e) (sym (same.rule here.left) ∙ b.1.0) (fails_behind text other b.0 e at is alike same behind)

  head_settles : Settles by_place here.from (λ text. head text levels here)
  unfolding head
  head_settles = record {
    goes = head_goes;
    again = head_again;
    late = λ text e at is h. head_late text e at is (bind_err (rule_at text here) (λ name. Behind text name) e h);
    fails = λ text other e at is alike h. head_fails text other e at is alike (bind_err (rule_at text here) (λ name. Behind text name) e h);
  }

-- ---- proofs

record SameProof (text other : List ℕ) (levels : ℕ) (here there : ProofCursor) (d : ProofView) : Type 0 where
  goes : here.from ≤ there.from
  again : SameUpTo text other there.from → IsProof other levels here there d

same_proof : {text : List ℕ} {levels : ℕ} {here there : ProofCursor} {d : ProofView} (other : List ℕ) → IsProof text levels here there d → SameProof text other levels here there d
same_proof {text} other (no_premise levels here there r d h is) = record {
  goes = (head_settles levels here).goes text _ h;
  again = λ alike. no_premise levels here there r d ((head_settles levels here).again text other _ alike h) is;
}
same_proof {text} other (one_premise levels here first mid there r p d h i close is) =
    let m = (head_settles levels here).goes text _ h in
    let inner = same_proof other i in
    let n = (sign_settles signs.Close mid).goes text there close in
    record {
      goes = omega (arith, m, inner.goes, n);
      again = λ alike. one_premise levels here first mid there r p d ((head_settles levels here).again text other _ (sooner (omega (arith, inner.goes, n)) alike) h)
          (inner.again (sooner n alike)) ((sign_settles signs.Close mid).again text other there alike close) is;
    }
same_proof {text} other (two_premises levels here first mid second last there r p q d h i comma j close is) =
    let m = (head_settles levels here).goes text _ h in
    let inner = same_proof other i in
    let k = (sign_settles signs.Comma mid).goes text second comma in
    let further = same_proof other j in
    let n = (sign_settles signs.Close last).goes text there close in
    record {
      goes = omega (arith, m, inner.goes, k, further.goes, n);
      again = λ alike. two_premises levels here first mid second last there r p q d ((head_settles levels here).again text other _ (sooner (omega (arith, inner.goes, k, further.goes, n)) alike) h)
          (inner.again (sooner (omega (arith, k, further.goes, n)) alike)) ((sign_settles signs.Comma mid).again text other second (sooner (omega (arith, further.goes, n)) alike) comma)
          (further.again (sooner n alike)) ((sign_settles signs.Close last).again text other there alike close) is;
    }

record SameStop (text other : List ℕ) (levels : ℕ) (here : ProofCursor) (at : ℕ) (e : TextFault) : Type 0 where
  late : here.from ≤ at
  again : SameUpTo text other at → ProofHasFirstFault other levels here e

same_stop : {text : List ℕ} {levels : ℕ} {here : ProofCursor} {e : TextFault} (other : List ℕ) (at : ℕ) → IsAt at e → ProofHasFirstFault text levels here e → SameStop text other levels here at e
same_stop {text} other at is (no_memory levels here) = at_memory is
same_stop {text} other at is (in_head levels here e h) = record {
  late = (head_settles levels here).late text e at is h;
  again = λ alike. in_head levels here e ((head_settles levels here).fails text other e at is alike h);
}
same_stop {text} other at is (in_premise levels here first r e h s) =
    let m = (head_settles levels here).goes text _ h in
    let inner = same_stop other at is s in
    record {
      late = omega (arith, m, inner.late);
      again = λ alike. in_premise levels here first r e ((head_settles levels here).again text other _ (sooner inner.late alike) h) (inner.again alike);
    }
same_stop {text} other at is (behind_premise levels here first mid r p e h i close) =
    let m = (head_settles levels here).goes text _ h in
    let inner = same_proof other i in
    let n = (sign_settles signs.Close mid).late text e at is close in
    record {
      late = omega (arith, m, inner.goes, n);
      again = λ alike. behind_premise levels here first mid r p e ((head_settles levels here).again text other _ (sooner (omega (arith, inner.goes, n)) alike) h)
          (inner.again (sooner n alike)) ((sign_settles signs.Close mid).fails text other e at is alike close);
    }
same_stop {text} other at is (in_first levels here first r e h s) =
    let m = (head_settles levels here).goes text _ h in
    let inner = same_stop other at is s in
    record {
      late = omega (arith, m, inner.late);
      again = λ alike. in_first levels here first r e ((head_settles levels here).again text other _ (sooner inner.late alike) h) (inner.again alike);
    }
same_stop {text} other at is (behind_first levels here first mid r p e h i comma) =
    let m = (head_settles levels here).goes text _ h in
    let inner = same_proof other i in
    let n = (sign_settles signs.Comma mid).late text e at is comma in
    record {
      late = omega (arith, m, inner.goes, n);
      again = λ alike. behind_first levels here first mid r p e ((head_settles levels here).again text other _ (sooner (omega (arith, inner.goes, n)) alike) h)
          (inner.again (sooner n alike)) ((sign_settles signs.Comma mid).fails text other e at is alike comma);
    }
same_stop {text} other at is (in_second levels here first mid second r p e h i comma s) =
    let m = (head_settles levels here).goes text _ h in
    let inner = same_proof other i in
    let k = (sign_settles signs.Comma mid).goes text second comma in
    let further = same_stop other at is s in
    record {
      late = omega (arith, m, inner.goes, k, further.late);
      again = λ alike. in_second levels here first mid second r p e ((head_settles levels here).again text other _ (sooner (omega (arith, inner.goes, k, further.late)) alike) h)
          (inner.again (sooner (omega (arith, k, further.late)) alike)) ((sign_settles signs.Comma mid).again text other second (sooner further.late alike) comma) (further.again alike);
    }
same_stop {text} other at is (behind_second levels here first mid second last r p q e h i comma j close) =
    let m = (head_settles levels here).goes text _ h in
    let inner = same_proof other i in
    let k = (sign_settles signs.Comma mid).goes text second comma in
    let further = same_proof other j in
    let n = (sign_settles signs.Close last).late text e at is close in
    record {
      late = omega (arith, m, inner.goes, k, further.goes, n);
      again = λ alike. behind_second levels here first mid second last r p q e ((head_settles levels here).again text other _ (sooner (omega (arith, inner.goes, k, further.goes, n)) alike) h)
          (inner.again (sooner (omega (arith, k, further.goes, n)) alike)) ((sign_settles signs.Comma mid).again text other second (sooner (omega (arith, further.goes, n)) alike) comma)
          (further.again (sooner n alike)) ((sign_settles signs.Close last).fails text other e at is alike close);
    }

-- ---- whole texts

abbrev end_by : Cursor → Result (Unit {0}) TextFault
end_by token = if is_end token.token then Ok tt else Err (Unexpected token.at)

end_fault : (b : Bool) (at : ℕ) (e : TextFault) (n : ℕ) → ◌≡◌ {A = Result (Unit {0}) TextFault} (if b then Ok tt else Err (Unexpected at)) (Err e) → IsAt n e → n ≡ at
end_fault true at e n h is = no_fault _ e h
end_fault false at e n h is = at_unexpected (moved (fault_is _ e h) is)

ended_late : (text : List ℕ) (here : ProofCursor) (e : TextFault) (n : ℕ) → at_end text here ≡ Err e → IsAt n e → here.from ≤ n
unfolding at_end
ended_late text here e n h is = subst (λ k. here.from ≤ k) (sym (end_fault (is_end (token_at text here).token) (token_at text here).at e n h is)) (begins_at text here.from here.left)

ended_same : (text other : List ℕ) (here : ProofCursor) → SameNext text other here.from → at_end other here ≡ at_end text here
unfolding at_end
ended_same text other here same = ap end_by (sym (same.token here.left))

pub fault_settles : (text other : List ℕ) (e : TextFault) (at : ℕ) → ProofTextFault text e → IsAt at e → SameUpTo text other at → ProofTextFault other e
fault_settles text other _ at (in_proof e s) is alike = in_proof e ((same_stop other at is s).again alike)
fault_settles text other _ at (behind_proof there d e i more) is alike =
    let late = ended_late text there e at more is in
    behind_proof there d e ((same_proof other i).again (sooner late alike)) (ended_same text other there (alike there.from late) ∙ more)
