-- What is printed of a formula is a text of it, form by form.
use Rattle.std.proofs.Common.{◌≡◌, ℕ, ◌+◌, ◌-◌, ◌≤◌, Bool, true, false, List, [], ◌∷◌, ◌++◌, length, append_assoc, refl, sym, ap, ◌∙◌, subst, arith, Ok}
use Rattle.std.specs.Prelude.{codes, nat_le, nat_lt, if◌then◌else◌}
use Rattle.std.proofs.lemmas.Bool.{false≢true}
use Rattle.std.proofs.lemmas.Bool.Decides.{nat_tests}
use Rattle.bl_syntax.specs.declared.terms.Sort.{Sort}
use Rattle.bl_syntax.specs.Formula.{FormulaView, atom, compare, state, both, either, implies, truth, falsity, forall_, exists_, says, on}
use Rattle.bl_syntax.specs.WellSorted.{size}
use Rattle.bl_tokens.specs.declared.tokens.Sign.{Sign as Sign'}
use Rattle.bl_tokens.specs.declared.tokens.Sign.TheVariants as signs
use Rattle.bl_tokens.specs.declared.tokens.Keyword.TheVariants as keywords
use Rattle.bl_tokens.specs.declared.tokens.Token.{Token}
use Rattle.bl_tokens.specs.declared.tokens.Token.TheVariants as tokens
use Rattle.bl_tokens.specs.declared.tokens.Cursor.{Cursor}
use Rattle.bl_tokens.specs.Tokens.{sized_lexeme, first_lexeme, token_from, cursor_after, cursor_after_node, is_sign, is_word}
use Rattle.bl_text.specs.Scope.{Variable}
use Rattle.bl_text.specs.Pieces.{count, expect_sign}
use Rattle.bl_text.specs.Grammar.{Level, formula, disjunction, conjunction, unary, postfix, primary, is_quantifier, is_saying, Is, implication, one_disjunction, or_further, one_conjunction, and_further, one_unary, one_postfix, one_primary, group}
use Rattle.bl_text.specs.Printed.{rank, operand, formula_text}
use Rattle.bl_text.specs.PrintedTokens.{EndsRun}
use Rattle.bl_text.proofs.ReadLemmas.{expected-Ok, is_at}
use Rattle.bl_text.proofs.PlaceLemmas.{Stands, stands_behind, stands_at, space_skipped}
use Rattle.bl_text.proofs.PrintedLemmas.{scope_of, word, spaced_word, count_ok}
use Rattle.bl_text.proofs.PieceLemmas.{close_sign, open_sign}

-- ---- what may follow a formula

pub record Ends (rest : List ℕ) : Type 0 where
  pub run : EndsRun rest
  pub t : Token
  pub token : (text : List ℕ) (from left : ℕ) → Stands text from rest → (token_from text from left).token ≡ t
  pub no_says : is_word keywords.Says t ≡ false
  pub no_open : is_sign signs.Open t ≡ false
  pub no_up_to : is_sign signs.UpTo t ≡ false

close_ends : (rest : List ℕ) → Ends (41 ∷ rest)
unfolding is_word is_sign
close_ends rest = record {
  run = (refl, refl);
  t = tokens.Sign signs.Close;
  token = λ text from left stands. (word left (codes ")") rest (tokens.Sign signs.Close) stands refl refl).token;
  no_says = refl;
  no_open = refl;
  no_up_to = refl;
}

and_ends : (rest : List ℕ) → Ends (32 ∷ 38 ∷ 32 ∷ rest)
unfolding is_word is_sign
and_ends rest = record {
  run = (refl, refl);
  t = tokens.Sign signs.And;
  token = λ text from left stands. (spaced_word left (codes "&") (32 ∷ rest) (tokens.Sign signs.And) stands refl refl).token;
  no_says = refl;
  no_open = refl;
  no_up_to = refl;
}

or_ends : (rest : List ℕ) → Ends (32 ∷ 124 ∷ 32 ∷ rest)
unfolding is_word is_sign
or_ends rest = record {
  run = (refl, refl);
  t = tokens.Sign signs.Or;
  token = λ text from left stands. (spaced_word left (codes "|") (32 ∷ rest) (tokens.Sign signs.Or) stands refl refl).token;
  no_says = refl;
  no_open = refl;
  no_up_to = refl;
}

implies_ends : (rest : List ℕ) → Ends (32 ∷ 61 ∷ 62 ∷ 32 ∷ rest)
unfolding is_word is_sign
implies_ends rest = record {
  run = (refl, refl);
  t = tokens.Sign signs.Implies;
  token = λ text from left stands. (spaced_word left (codes "=>") (32 ∷ rest) (tokens.Sign signs.Implies) stands refl refl).token;
  no_says = refl;
  no_open = refl;
  no_up_to = refl;
}

pub at_ends : (rest : List ℕ) → Ends (32 ∷ 64 ∷ 32 ∷ rest)
unfolding is_word is_sign
at_ends rest = record {
  run = (refl, refl);
  t = tokens.Sign signs.At;
  token = λ text from left stands. (spaced_word left (codes "@") (32 ∷ rest) (tokens.Sign signs.At) stands refl refl).token;
  no_says = refl;
  no_open = refl;
  no_up_to = refl;
}

-- ---- levels

abbrev pub level_of : FormulaView → Level
level_of (atom name terms) = primary
level_of (compare c) = primary
level_of (state s) = primary
level_of (both a b) = conjunction
level_of (either a b) = disjunction
level_of (implies a b) = formula
level_of truth = primary
level_of falsity = primary
level_of (forall_ s a) = formula
level_of (exists_ s a) = formula
level_of (says k a) = unary
level_of (on a u v) = postfix

to_postfix : {text : List ℕ} {st : Bool} {scope : List Variable} {depth : ℕ} {here place : Cursor} (f : FormulaView) → nat_le 4 (rank f) ≡ true → Is text st (level_of f) scope depth here place f → Is text st postfix scope depth here place f
to_postfix {scope = scope} {depth} {here} {place} (atom name terms) h d = one_primary scope depth here place _ d
to_postfix {scope = scope} {depth} {here} {place} (compare c) h d = one_primary scope depth here place _ d
to_postfix {scope = scope} {depth} {here} {place} (state s) h d = one_primary scope depth here place _ d
to_postfix {scope = scope} {depth} {here} {place} truth h d = one_primary scope depth here place _ d
to_postfix {scope = scope} {depth} {here} {place} falsity h d = one_primary scope depth here place _ d
to_postfix (on a u v) h d = d
to_postfix (both a b) h d = absurd (false≢true h)
to_postfix (either a b) h d = absurd (false≢true h)
to_postfix (implies a b) h d = absurd (false≢true h)
to_postfix (forall_ s a) h d = absurd (false≢true h)
to_postfix (exists_ s a) h d = absurd (false≢true h)
to_postfix (says k a) h d = absurd (false≢true h)

-- a formula of the rank of `@` or above
to_unary_from : {text : List ℕ} {st : Bool} {scope : List Variable} {depth : ℕ} {here place : Cursor} (f : FormulaView) → nat_le 4 (rank f) ≡ true → (nat_le 4 (rank f) ≡ true → is_saying text here ≡ false) → Is text st (level_of f) scope depth here place f → Is text st unary scope depth here place f
to_unary_from {scope = scope} {depth} {here} {place} f h silent d = one_postfix scope depth here place f (silent h) (to_postfix f h d)

to_unary : {text : List ℕ} {st : Bool} {scope : List Variable} {depth : ℕ} {here place : Cursor} (f : FormulaView) → nat_le 3 (rank f) ≡ true → (nat_le 4 (rank f) ≡ true → is_saying text here ≡ false) → Is text st (level_of f) scope depth here place f → Is text st unary scope depth here place f
to_unary (atom name terms) h silent d = to_unary_from (atom name terms) refl silent d
to_unary (compare c) h silent d = to_unary_from (compare c) refl silent d
to_unary (state s) h silent d = to_unary_from (state s) refl silent d
to_unary truth h silent d = to_unary_from truth refl silent d
to_unary falsity h silent d = to_unary_from falsity refl silent d
to_unary (on a u v) h silent d = to_unary_from (on a u v) refl silent d
to_unary (says k a) h silent d = d
to_unary (both a b) h silent d = absurd (false≢true h)
to_unary (either a b) h silent d = absurd (false≢true h)
to_unary (implies a b) h silent d = absurd (false≢true h)
to_unary (forall_ s a) h silent d = absurd (false≢true h)
to_unary (exists_ s a) h silent d = absurd (false≢true h)

to_conjunction_from : {text : List ℕ} {st : Bool} {scope : List Variable} {depth : ℕ} {here place : Cursor} (f : FormulaView) → nat_le 3 (rank f) ≡ true → (nat_le 4 (rank f) ≡ true → is_saying text here ≡ false) → Is text st (level_of f) scope depth here place f → Is text st conjunction scope depth here place f
to_conjunction_from {scope = scope} {depth} {here} {place} f h silent d = one_unary scope depth here place f (to_unary f h silent d)

to_conjunction : {text : List ℕ} {st : Bool} {scope : List Variable} {depth : ℕ} {here place : Cursor} (f : FormulaView) → nat_le 2 (rank f) ≡ true → (nat_le 4 (rank f) ≡ true → is_saying text here ≡ false) → Is text st (level_of f) scope depth here place f → Is text st conjunction scope depth here place f
to_conjunction (atom name terms) h silent d = to_conjunction_from (atom name terms) refl silent d
to_conjunction (compare c) h silent d = to_conjunction_from (compare c) refl silent d
to_conjunction (state s) h silent d = to_conjunction_from (state s) refl silent d
to_conjunction truth h silent d = to_conjunction_from truth refl silent d
to_conjunction falsity h silent d = to_conjunction_from falsity refl silent d
to_conjunction (on a u v) h silent d = to_conjunction_from (on a u v) refl silent d
to_conjunction (says k a) h silent d = to_conjunction_from (says k a) refl silent d
to_conjunction (both a b) h silent d = d
to_conjunction (either a b) h silent d = absurd (false≢true h)
to_conjunction (implies a b) h silent d = absurd (false≢true h)
to_conjunction (forall_ s a) h silent d = absurd (false≢true h)
to_conjunction (exists_ s a) h silent d = absurd (false≢true h)

to_disjunction_from : {text : List ℕ} {st : Bool} {scope : List Variable} {depth : ℕ} {here place : Cursor} (f : FormulaView) → nat_le 2 (rank f) ≡ true → (nat_le 4 (rank f) ≡ true → is_saying text here ≡ false) → Is text st (level_of f) scope depth here place f → Is text st disjunction scope depth here place f
to_disjunction_from {scope = scope} {depth} {here} {place} f h silent d = one_conjunction scope depth here place f (to_conjunction f h silent d)

to_disjunction : {text : List ℕ} {st : Bool} {scope : List Variable} {depth : ℕ} {here place : Cursor} (f : FormulaView) → nat_le 1 (rank f) ≡ true → (nat_le 4 (rank f) ≡ true → is_saying text here ≡ false) → Is text st (level_of f) scope depth here place f → Is text st disjunction scope depth here place f
to_disjunction (atom name terms) h silent d = to_disjunction_from (atom name terms) refl silent d
to_disjunction (compare c) h silent d = to_disjunction_from (compare c) refl silent d
to_disjunction (state s) h silent d = to_disjunction_from (state s) refl silent d
to_disjunction truth h silent d = to_disjunction_from truth refl silent d
to_disjunction falsity h silent d = to_disjunction_from falsity refl silent d
to_disjunction (on a u v) h silent d = to_disjunction_from (on a u v) refl silent d
to_disjunction (says k a) h silent d = to_disjunction_from (says k a) refl silent d
to_disjunction (both a b) h silent d = to_disjunction_from (both a b) refl silent d
to_disjunction (either a b) h silent d = d
to_disjunction (implies a b) h silent d = absurd (false≢true h)
to_disjunction (forall_ s a) h silent d = absurd (false≢true h)
to_disjunction (exists_ s a) h silent d = absurd (false≢true h)

to_formula_from : {text : List ℕ} {st : Bool} {scope : List Variable} {depth : ℕ} {here place : Cursor} (f : FormulaView) → nat_le 1 (rank f) ≡ true → (nat_le 1 (rank f) ≡ true → is_quantifier here.token ≡ false) → (nat_le 4 (rank f) ≡ true → is_saying text here ≡ false)
    → Is text st (level_of f) scope depth here place f → Is text st formula scope depth here place f
to_formula_from {scope = scope} {depth} {here} {place} f h plain silent d = one_disjunction scope depth here place f (plain h) (to_disjunction f h silent d)

pub to_formula : {text : List ℕ} {st : Bool} {scope : List Variable} {depth : ℕ} {here place : Cursor} (f : FormulaView) → (nat_le 1 (rank f) ≡ true → is_quantifier here.token ≡ false) → (nat_le 4 (rank f) ≡ true → is_saying text here ≡ false)
    → Is text st (level_of f) scope depth here place f → Is text st formula scope depth here place f
to_formula (atom name terms) plain silent d = to_formula_from (atom name terms) refl plain silent d
to_formula (compare c) plain silent d = to_formula_from (compare c) refl plain silent d
to_formula (state s) plain silent d = to_formula_from (state s) refl plain silent d
to_formula truth plain silent d = to_formula_from truth refl plain silent d
to_formula falsity plain silent d = to_formula_from falsity refl plain silent d
to_formula (on a u v) plain silent d = to_formula_from (on a u v) refl plain silent d
to_formula (says k a) plain silent d = to_formula_from (says k a) refl plain silent d
to_formula (both a b) plain silent d = to_formula_from (both a b) refl plain silent d
to_formula (either a b) plain silent d = to_formula_from (either a b) refl plain silent d
to_formula (implies a b) plain silent d = d
to_formula (forall_ s a) plain silent d = d
to_formula (exists_ s a) plain silent d = d

-- ---- what a reading gives

pub record Reading (text : List ℕ) (st : Bool) (level : Level) (scope : List Variable) (depth : ℕ) (here : Cursor) (left lowest : ℕ) (f : FormulaView) (rest : List ℕ) : Type 0 where
  pub to : ℕ
  pub stands : Stands text to rest
  pub is : Is text st level scope depth here (token_from text to (left - size f)) f
  pub plain : nat_le 1 lowest ≡ true → is_quantifier here.token ≡ false
  pub silent : nat_le 4 lowest ≡ true → is_saying text here ≡ false

-- how a formula is read wherever it is printed
abbrev pub Reader : Bool → List Sort → FormulaView → Type 0
Reader st binders f = (text : List ℕ) (depth from left : ℕ) (rest : List ℕ) → depth + size f ≤ 512 → size f ≤ left → Ends rest → Stands text from (formula_text (length binders) f ++ rest)
    → Reading text st (level_of f) (scope_of binders) depth (token_from text from left) left (rank f) f rest

open_plain : (token : Token) → token ≡ tokens.Sign signs.Open → is_quantifier token ≡ false
unfolding is_word
open_plain token is = ap is_quantifier is

open_silent : (text : List ℕ) (here : Cursor) → here.token ≡ tokens.Sign signs.Open → is_saying text here ≡ false
unfolding is_saying
open_silent text here is = rw is refl

-- a formula in parentheses
grouped : (st : Bool) (binders : List Sort) (f : FormulaView) → Reader st binders f → (text : List ℕ) (depth from left : ℕ) (rest : List ℕ) → depth + 1 + size f ≤ 512 → size f ≤ left
    → Stands text from (codes "(" ++ (formula_text (length binders) f ++ codes ")") ++ rest) → Reading text st primary (scope_of binders) depth (token_from text from left) left 5 f rest
grouped st binders f read text depth from left rest deep nodes stands =
    let ft = formula_text (length binders) f in
    let opened = word left (codes "(") ((ft ++ codes ")") ++ rest) (tokens.Sign signs.Open) stands refl refl in
    let inside = read text (depth + 1) opened.to left (41 ∷ rest) deep nodes (close_ends rest) (stands_at refl (append_assoc ft (codes ")") rest) opened.stands) in
    let here = token_from text from left in
    let mid = token_from text inside.to (left - size f) in
    let closed = word (left - size f) (codes ")") rest (tokens.Sign signs.Close) inside.stands refl refl in
    let body : Is text st formula (scope_of binders) (depth + 1) (cursor_after text here) mid f = is_at (sym opened.next) (to_formula f inside.plain inside.silent inside.is) in
    let room : nat_lt depth 512 ≡ true = (let d = deep in grind (arith, nat_tests)) in
    let found : expect_sign text signs.Close mid ≡ Ok (token_from text closed.to (left - size f)) = expected-Ok text signs.Close mid (ap (is_sign signs.Close) closed.token ∙ close_sign) ∙ ap Ok closed.next in
    record {
      to = closed.to;
      stands = closed.stands;
      is = group (scope_of binders) depth here mid (token_from text closed.to (left - size f)) f (ap (is_sign signs.Open) opened.token ∙ open_sign) room body found;
      plain = λ h. open_plain here.token opened.token;
      silent = λ h. open_silent text here opened.token;
    }

-- ---- operands

-- a level, and how a formula of its rank and one in parentheses come to it
pub record Place (level : Level) (lowest : ℕ) : Type 0 where
  pub raise : (text : List ℕ) (st : Bool) (scope : List Variable) (depth : ℕ) (here place : Cursor) (f : FormulaView) → nat_le lowest (rank f) ≡ true → (nat_le 1 (rank f) ≡ true → is_quantifier here.token ≡ false) → (nat_le 4 (rank f) ≡ true → is_saying text here ≡ false)
      → Is text st (level_of f) scope depth here place f → Is text st level scope depth here place f
  pub lift : (text : List ℕ) (st : Bool) (scope : List Variable) (depth : ℕ) (here place : Cursor) (f : FormulaView) → is_quantifier here.token ≡ false → is_saying text here ≡ false → Is text st primary scope depth here place f → Is text st level scope depth here place f

pub postfix_place : Place postfix 4
postfix_place = record {
  raise = λ text st scope depth here place f h plain silent d. to_postfix f h d;
  lift = λ text st scope depth here place f plain silent d. one_primary scope depth here place f d;
}

pub unary_place : Place unary 3
unary_place = record {
  raise = λ text st scope depth here place f h plain silent d. to_unary f h silent d;
  lift = λ text st scope depth here place f plain silent d. one_postfix scope depth here place f silent (one_primary scope depth here place f d);
}

conjunction_place : Place conjunction 2
conjunction_place = record {
  raise = λ text st scope depth here place f h plain silent d. to_conjunction f h silent d;
  lift = λ text st scope depth here place f plain silent d. one_unary scope depth here place f (one_postfix scope depth here place f silent (one_primary scope depth here place f d));
}

disjunction_place : Place disjunction 1
disjunction_place = record {
  raise = λ text st scope depth here place f h plain silent d. to_disjunction f h silent d;
  lift = λ text st scope depth here place f plain silent d. one_conjunction scope depth here place f (one_unary scope depth here place f (one_postfix scope depth here place f silent (one_primary scope depth here place f d)));
}

pub formula_place : Place formula 0
formula_place = record {
  raise = λ text st scope depth here place f h plain silent d. to_formula f plain silent d;
  lift = λ text st scope depth here place f plain silent d.
      one_disjunction scope depth here place f plain (one_conjunction scope depth here place f (one_unary scope depth here place f (one_postfix scope depth here place f silent (one_primary scope depth here place f d))));
}

nat_le_through : (a b c : ℕ) → nat_le a b ≡ true → nat_le b c ≡ true → nat_le a c ≡ true
nat_le_through a b c h k = grind (arith, nat_tests)

pub operand_read : {level : Level} {lowest : ℕ} → Place level lowest → (st : Bool) (binders : List Sort) (f : FormulaView) → Reader st binders f → (text : List ℕ) (depth from left : ℕ) (rest : List ℕ) → depth + 1 + size f ≤ 512 → size f ≤ left → Ends rest
    → Stands text from (operand lowest (rank f) (formula_text (length binders) f) ++ rest) → Reading text st level (scope_of binders) depth (token_from text from left) left lowest f rest
operand_read {level} {lowest} p st binders f read text depth from left rest deep nodes ends stands = by_test (nat_le lowest (rank f)) refl stands
  where
    by_test : (b : Bool) → nat_le lowest (rank f) ≡ b → Stands text from ((if b then formula_text (length binders) f else codes "(" ++ (formula_text (length binders) f ++ codes ")")) ++ rest)
        → Reading text st level (scope_of binders) depth (token_from text from left) left lowest f rest
    by_test true is standing =
        let r = read text depth from left rest (omega arith) nodes ends standing in
        record {
          to = r.to;
          stands = r.stands;
          is = p.raise text st (scope_of binders) depth (token_from text from left) (token_from text r.to (left - size f)) f is r.plain r.silent r.is;
          plain = λ h. r.plain (nat_le_through 1 lowest (rank f) h is);
          silent = λ h. r.silent (nat_le_through 4 lowest (rank f) h is);
        }
    by_test false is standing =
        let r = grouped st binders f read text depth from left rest deep nodes standing in
        record {
          to = r.to;
          stands = r.stands;
          is = p.lift text st (scope_of binders) depth (token_from text from left) (token_from text r.to (left - size f)) f (r.plain refl) (r.silent refl) r.is;
          plain = λ h. r.plain refl;
          silent = λ h. r.silent refl;
        }

-- ---- a sign between two operands

pub record Between (text : List ℕ) (mid : Cursor) (left : ℕ) (sign : Sign') (more : List ℕ) : Type 0 where
  pub to : ℕ
  pub stands : Stands text to more
  pub is_it : is_sign sign mid.token ≡ true
  pub room : count mid ≡ Ok tt
  pub next : cursor_after_node text mid ≡ token_from text to (left - 1)

sign_between : {text : List ℕ} {from : ℕ} (left : ℕ) (sign : Sign') (bytes more : List ℕ) → is_sign sign (tokens.Sign sign) ≡ true → 1 ≤ left → Stands text from (32 ∷ (bytes ++ 32 ∷ more)) → first_lexeme (bytes ++ 32 ∷ more) ≡ sized_lexeme (tokens.Sign sign) (length bytes)
    → Between text (token_from text from left) left sign more
sign_between {text} {from} left sign bytes more itself some stands lexed =
    let w = spaced_word left bytes (32 ∷ more) (tokens.Sign sign) stands lexed refl in
    record {
      to = w.to + 1;
      stands = stands_behind (32 ∷ []) more w.stands;
      is_it = ap (is_sign sign) w.token ∙ itself;
      room = count_ok (token_from text from left) (let n = w.nodes in omega arith);
      next = w.node ∙ space_skipped (left - 1) w.stands;
    }

and_is : is_sign signs.And (tokens.Sign signs.And) ≡ true
unfolding is_sign
and_is = refl

or_is : is_sign signs.Or (tokens.Sign signs.Or) ≡ true
unfolding is_sign
or_is = refl

implies_is : is_sign signs.Implies (tokens.Sign signs.Implies) ≡ true
unfolding is_sign
implies_is = refl

parts_around : (a sign b rest : List ℕ) → (a ++ (sign ++ b)) ++ rest ≡ a ++ (sign ++ (b ++ rest))
parts_around a sign b rest = append_assoc a (sign ++ b) rest ∙ ap (λ bs. a ++ bs) (append_assoc sign b rest)

pub place_left : {text : List ℕ} {st : Bool} {level : Level} {scope : List Variable} {depth : ℕ} {here : Cursor} (to : ℕ) {m n : ℕ} {f : FormulaView} → m ≡ n → Is text st level scope depth here (token_from text to m) f → Is text st level scope depth here (token_from text to n) f
place_left {text} {st} {level} {scope} {depth} {here} to {m} {n} {f} same d = subst (λ k. Is text st level scope depth here (token_from text to k) f) same d

pub both_read : (st : Bool) (binders : List Sort) (a b : FormulaView) → Reader st binders a → Reader st binders b → Reader st binders (both a b)
both_read st binders a b read_a read_b text depth from left rest deep nodes ends stands =
    let d = length binders in
    let tb = operand 3 (rank b) (formula_text d b) in
    let first = operand_read conjunction_place st binders a read_a text depth from left (32 ∷ 38 ∷ 32 ∷ (tb ++ rest)) (omega arith) (omega arith) (and_ends (tb ++ rest)) (stands_at refl (parts_around (operand 2 (rank a) (formula_text d a)) (codes " & ") tb rest) stands) in
    let sign = sign_between (left - size a) signs.And (codes "&") (tb ++ rest) and_is (omega arith) first.stands refl in
    let second = operand_read unary_place st binders b read_b text depth sign.to (left - size a - 1) rest (omega arith) (omega arith) ends sign.stands in
    let same : left - size a - 1 - size b ≡ left - size (both a b) = omega arith in
    record {
      to = second.to;
      stands = second.stands;
      is = place_left second.to same (and_further (scope_of binders) depth (token_from text from left) (token_from text first.to (left - size a)) (token_from text second.to (left - size a - 1 - size b)) a b first.is sign.is_it sign.room (is_at {place = token_from text sign.to (left - size a - 1)} {place' = cursor_after_node text (token_from text first.to (left - size a))} {there = token_from text second.to (left - size a - 1 - size b)} (sym sign.next) second.is));
      plain = λ h. first.plain refl;
      silent = λ h. absurd (false≢true h);
    }

pub either_read : (st : Bool) (binders : List Sort) (a b : FormulaView) → Reader st binders a → Reader st binders b → Reader st binders (either a b)
either_read st binders a b read_a read_b text depth from left rest deep nodes ends stands =
    let d = length binders in
    let tb = operand 2 (rank b) (formula_text d b) in
    let first = operand_read disjunction_place st binders a read_a text depth from left (32 ∷ 124 ∷ 32 ∷ (tb ++ rest)) (omega arith) (omega arith) (or_ends (tb ++ rest)) (stands_at refl (parts_around (operand 1 (rank a) (formula_text d a)) (codes " | ") tb rest) stands) in
    let sign = sign_between (left - size a) signs.Or (codes "|") (tb ++ rest) or_is (omega arith) first.stands refl in
    let second = operand_read conjunction_place st binders b read_b text depth sign.to (left - size a - 1) rest (omega arith) (omega arith) ends sign.stands in
    let same : left - size a - 1 - size b ≡ left - size (either a b) = omega arith in
    record {
      to = second.to;
      stands = second.stands;
      is = place_left second.to same (or_further (scope_of binders) depth (token_from text from left) (token_from text first.to (left - size a)) (token_from text second.to (left - size a - 1 - size b)) a b first.is sign.is_it sign.room (is_at {place = token_from text sign.to (left - size a - 1)} {place' = cursor_after_node text (token_from text first.to (left - size a))} {there = token_from text second.to (left - size a - 1 - size b)} (sym sign.next) second.is));
      plain = λ h. first.plain refl;
      silent = λ h. absurd (false≢true h);
    }

pub implies_read : (st : Bool) (binders : List Sort) (a b : FormulaView) → Reader st binders a → Reader st binders b → Reader st binders (implies a b)
implies_read st binders a b read_a read_b text depth from left rest deep nodes ends stands =
    let d = length binders in
    let tb = operand 0 (rank b) (formula_text d b) in
    let first = operand_read disjunction_place st binders a read_a text depth from left (32 ∷ 61 ∷ 62 ∷ 32 ∷ (tb ++ rest)) (omega arith) (omega arith) (implies_ends (tb ++ rest)) (stands_at refl (parts_around (operand 1 (rank a) (formula_text d a)) (codes " => ") tb rest) stands) in
    let sign = sign_between (left - size a) signs.Implies (codes "=>") (tb ++ rest) implies_is (omega arith) first.stands refl in
    let second = operand_read formula_place st binders b read_b text depth sign.to (left - size a - 1) rest (omega arith) (omega arith) ends sign.stands in
    let same : left - size a - 1 - size b ≡ left - size (implies a b) = omega arith in
    record {
      to = second.to;
      stands = second.stands;
      is = place_left second.to same (implication (scope_of binders) depth (token_from text from left) (token_from text first.to (left - size a)) (token_from text second.to (left - size a - 1 - size b)) a b (first.plain refl) first.is sign.is_it sign.room (is_at {place = token_from text sign.to (left - size a - 1)} {place' = cursor_after_node text (token_from text first.to (left - size a))} {there = token_from text second.to (left - size a - 1 - size b)} (sym sign.next) second.is));
      plain = λ h. absurd (false≢true h);
      silent = λ h. absurd (false≢true h);
    }
