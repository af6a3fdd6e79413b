-- What is printed of a formula is a text of it.
use Rattle.std.proofs.Common.{◌≡◌, ℕ, zero, suc, ◌+◌, ◌-◌, ◌≤◌, Bool, true, false, List, [], ◌∷◌, ◌++◌, length, append_assoc, append-nil, refl, sym, ap, ◌∙◌, subst, arith, Ok, Err}
use Rattle.std.specs.Prelude.{◌<◌, codes, nat_le, ◌&&◌, IsSome, Option, Some, None, if◌then◌else◌}
use Rattle.std.specs.Option.{option_map}
use Rattle.std.specs.List.{AllByRecursion, slice_get}
use Rattle.std.specs.Str.{bytes_eq}
use Rattle.std.specs.Fmt.{decimal}
use Rattle.std.proofs.lemmas.Bool.{false≢true}
use Rattle.std.proofs.lemmas.Bool.Decides.{nat_tests}
use Rattle.std.proofs.lemmas.Slice.Eq.{bytes_eq-Decides}
use Rattle.std.proofs.lemmas.Fmt.{decimal_injective}
use Rattle.std.proofs.lemmas.Option.{slice_get_within}
use Rattle.bl_syntax.specs.declared.terms.Sort.{Sort}
use Rattle.bl_syntax.specs.declared.terms.Sort.TheVariants as sorts
use Rattle.bl_syntax.specs.declared.terms.Term.{Term}
use Rattle.bl_syntax.specs.declared.terms.Term.TheVariants.{Prin, File, Perm, Time, Text, Ctime, Param, Bound}
use Rattle.bl_syntax.specs.Spelling.{IsSpellable}
use Rattle.bl_syntax.specs.WellSorted.{HasSort, IsInScope}
use Rattle.bl_tokens.specs.declared.faults.TextFault.{TextFault}
use Rattle.bl_tokens.specs.declared.tokens.Sign.TheVariants as signs
use Rattle.bl_tokens.specs.declared.tokens.Token.{Token}
use Rattle.bl_tokens.specs.declared.tokens.Token.TheVariants as tokens
use Rattle.bl_tokens.specs.declared.tokens.Cursor.{Cursor}
use Rattle.bl_tokens.specs.Tokens.{sized_lexeme, first_lexeme, token_from, cursor_after, cursor_after_node, is_sign}
use Rattle.bl_text.specs.Scope.{Variable, place_of, sort_of_place, is_same_sort, is_of_wanted_sort}
use Rattle.bl_text.specs.Pieces.{count, expect_sign, term_of, require_sayable, require_sort, argument, next_argument, time_argument}
use Rattle.bl_text.specs.Grammar.{AreArguments, further}
use Rattle.bl_text.specs.Printed.{term_text, terms_text}
use Rattle.bl_text.specs.PrintedTokens.{EndsRun, term_token, IsInDepth}
use Rattle.bl_text.proofs.ReadLemmas.{expected-Ok}
use Rattle.bl_text.proofs.PrintedTerms.{term_lexed}
use Rattle.bl_text.proofs.PlaceLemmas.{Stands, stands_behind, stands_at, is_bad, here_at, token_stands, space_skipped}
use Rattle.bl_text.proofs.PieceLemmas.{comma_sign}
use Rattle.bl_text.proofs.IsStatementLemmas.{at_place, variable_term, name_term, length_more}

-- ---- binders

-- each binder has its variable named by the number of those outside it
abbrev pub scope_of : List Sort → List Variable
scope_of [] = []
scope_of (s ∷ binders) = (88 ∷ decimal (length binders), s) ∷ scope_of binders

tail_same : {x y : ℕ} {xs ys : List ℕ} → ◌≡◌ {A = List ℕ} (x ∷ xs) (y ∷ ys) → xs ≡ ys
tail_same h = cc

names_differ : (m n : ℕ) → m < 1000 → n < m → bytes_eq (88 ∷ decimal m) (88 ∷ decimal n) ≡ false
names_differ m n few less = other (bytes_eq (88 ∷ decimal m) (88 ∷ decimal n)) refl
  where
    other : (b : Bool) → bytes_eq (88 ∷ decimal m) (88 ∷ decimal n) ≡ b → bytes_eq (88 ∷ decimal m) (88 ∷ decimal n) ≡ false
    other false is = is
    other true is =
        let same : m ≡ n = decimal_injective m n (omega arith) (omega arith) (tail_same ((bytes_eq-Decides (88 ∷ decimal m) (88 ∷ decimal n)).0 is)) in absurd (omega arith)

pub if_true : {A : Type 0} {b : Bool} (x y : A) → b ≡ true → (if b then x else y) ≡ x
if_true {A} {b} x y h = ap (λ c. if c then x else y) h

pub if_false : {A : Type 0} {b : Bool} (x y : A) → b ≡ false → (if b then x else y) ≡ y
if_false {A} {b} x y h = ap (λ c. if c then x else y) h

pub place_found : (binders : List Sort) (n : ℕ) → n < length binders → length binders ≤ 512 → place_of (scope_of binders) (88 ∷ decimal (length binders - n - 1)) ≡ Some n
place_found [] n less few = absurd (omega arith)
place_found (s ∷ binders) zero less few =
    let same : length (s ∷ binders) - 0 - 1 ≡ length binders = omega arith in
    if_true _ _ ((bytes_eq-Decides (88 ∷ decimal (length binders)) (88 ∷ decimal (length (s ∷ binders) - 0 - 1))).1 (ap (λ n. 88 ∷ decimal n) (sym same)))
place_found (s ∷ binders) (suc n) less few =
    let same : length (s ∷ binders) - suc n - 1 ≡ length binders - n - 1 = omega arith in
    if_false _ _ (ap (λ m. bytes_eq (88 ∷ decimal (length binders)) (88 ∷ decimal m)) same ∙ names_differ (length binders) (length binders - n - 1) (omega arith) (omega arith))
    ∙ ap (λ m. option_map suc (place_of (scope_of binders) (88 ∷ decimal m))) same ∙ ap (option_map suc) (place_found binders n (omega arith) (omega arith))

-- ---- terms

-- the term may stand in the text
pub record IsPrintableTerm (parameters binders : List Sort) (st : Bool) (t : Term) : Type 0 where
  pub spellable : IsSpellable t
  pub in_scope : IsInScope parameters binders t
  pub sayable : (at : ℕ) → require_sayable st at t ≡ Ok tt

some_is : {A : Type 0} (o : Option A) → IsSome o → (a : A) × (o ≡ Some a)
some_is None h = absurd (false≢true h)
some_is (Some a) h = (a, refl)

in_depth : (parameters binders : List Sort) (t : Term) → IsInScope parameters binders t → length binders ≤ 512 → IsInDepth (length binders) t
in_depth parameters binders (Prin name) h few = tt
in_depth parameters binders (File number) h few = tt
in_depth parameters binders (Perm permission) h few = tt
in_depth parameters binders (Time point) h few = tt
in_depth parameters binders (Text constant) h few = tt
in_depth parameters binders Ctime h few = tt
in_depth parameters binders (Param n) h few = tt
in_depth parameters binders (Bound n) h few = let found = some_is (slice_get binders n) h in (slice_get_within binders n found.0 found.1, few)

constant_term : (scope : List Variable) (here : Cursor) (c : Term) → here.token ≡ tokens.Constant c → term_of scope here ≡ Ok c
unfolding term_of
constant_term scope here c is = rw is

pub term_read : (parameters binders : List Sort) (here : Cursor) (t : Term) → here.token ≡ term_token (length binders) t → IsInScope parameters binders t → length binders ≤ 512 → term_of (scope_of binders) here ≡ Ok t
term_read parameters binders here (Prin name) is h few = name_term (scope_of binders) here name is
term_read parameters binders here (File number) is h few = constant_term (scope_of binders) here (File number) is
term_read parameters binders here (Perm permission) is h few = constant_term (scope_of binders) here (Perm permission) is
term_read parameters binders here (Time point) is h few = constant_term (scope_of binders) here (Time point) is
term_read parameters binders here (Text constant) is h few = constant_term (scope_of binders) here (Text constant) is
term_read parameters binders here Ctime is h few = constant_term (scope_of binders) here Ctime is
term_read parameters binders here (Param n) is h few = constant_term (scope_of binders) here (Param n) is
term_read parameters binders here (Bound n) is h few =
    let inside = in_depth parameters binders (Bound n) h few in
    variable_term (scope_of binders) here (88 ∷ decimal (length binders - n - 1)) is ∙ ap (at_place here.at) (place_found binders n inside.0 few)

sort_found : (binders : List Sort) (n : ℕ) (s : Sort) → slice_get binders n ≡ Some s → sort_of_place (scope_of binders) n ≡ Some s
sort_found [] n s h = absurd (let never : ◌≡◌ {A = Option Sort} None (Some s) = h in cc)
sort_found (b ∷ binders) zero s h = h
sort_found (b ∷ binders) (suc n) s h = sort_found binders n s h

same_itself : (s : Sort) → is_same_sort s s ≡ true
same_itself sorts.Principal = refl
same_itself sorts.File = refl
same_itself sorts.Perm = refl
same_itself sorts.Time = refl
same_itself sorts.Text = refl

some_same : {a b : Sort} → ◌≡◌ {A = Option Sort} (Some a) (Some b) → a ≡ b
some_same h = cc

same_to : (found wanted : Sort) → ◌≡◌ {A = Option Sort} (Some found) (Some wanted) → is_same_sort wanted found ≡ true
same_to found wanted h = ap (is_same_sort wanted) (some_same h) ∙ same_itself wanted

bound_fits : (binders : List Sort) (n : ℕ) (s : Sort) → slice_get binders n ≡ Some s → is_of_wanted_sort (scope_of binders) s (Bound n) ≡ true
bound_fits [] n s h = absurd (let never : ◌≡◌ {A = Option Sort} None (Some s) = h in cc)
bound_fits (b ∷ binders) zero s h = same_to b s h
bound_fits (b ∷ binders) (suc n) s h = bound_fits binders n s h

pub sort_fits : (parameters binders : List Sort) (s : Sort) (t : Term) → HasSort parameters binders s t → is_of_wanted_sort (scope_of binders) s t ≡ true
sort_fits parameters binders s (Prin name) h = same_to sorts.Principal s h
sort_fits parameters binders s (File number) h = same_to sorts.File s h
sort_fits parameters binders s (Perm permission) h = same_to sorts.Perm s h
sort_fits parameters binders s (Time point) h = same_to sorts.Time s h
sort_fits parameters binders s (Text constant) h = same_to sorts.Text s h
sort_fits parameters binders s Ctime h = same_to sorts.Time s h
sort_fits parameters binders s (Param n) h = refl
sort_fits parameters binders s (Bound n) h = bound_fits binders n s h

-- ---- words of a text

-- one token, and what stands after it
pub record Word (text : List ℕ) (here : Cursor) (left : ℕ) (t : Token) (rest : List ℕ) : Type 0 where
  pub to : ℕ
  pub stands : Stands text to rest
  pub token : here.token ≡ t
  pub nodes : here.left ≡ left
  pub next : cursor_after text here ≡ token_from text to left
  pub node : cursor_after_node text here ≡ token_from text to (left - 1)

word_here : (text : List ℕ) (from left n : ℕ) (t : Token) (rest : List ℕ) (here : Cursor) → here ≡ here_at from t n left → Stands text (from + n) rest → Word text here left t rest
unfolding cursor_after cursor_after_node
word_here text from left n t rest here is stands = record {
  to = from + n;
  stands = stands;
  token = ap (λ (h : Cursor). h.token) is;
  nodes = ap (λ (h : Cursor). h.left) is;
  next = ap (λ (h : Cursor). token_from text h.end h.left) is;
  node = ap (λ (h : Cursor). token_from text h.end (h.left - 1)) is;
}

pub word : {text : List ℕ} {from : ℕ} (left : ℕ) (bytes rest : List ℕ) (t : Token) → Stands text from (bytes ++ rest) → first_lexeme (bytes ++ rest) ≡ sized_lexeme t (length bytes) → is_bad t ≡ false → Word text (token_from text from left) left t rest
word {text} {from} left bytes rest t stands lexed good =
    word_here text from left (length bytes) t rest (token_from text from left) (token_stands left stands lexed good) (stands_behind bytes rest stands)

pub spaced_word : {text : List ℕ} {from : ℕ} (left : ℕ) (bytes rest : List ℕ) (t : Token) → Stands text from (32 ∷ (bytes ++ rest)) → first_lexeme (bytes ++ rest) ≡ sized_lexeme t (length bytes) → is_bad t ≡ false → Word text (token_from text from left) left t rest
spaced_word {text} {from} left bytes rest t stands lexed good =
    subst (λ (h : Cursor). Word text h left t rest) (sym (space_skipped left stands)) (word left bytes rest t (stands_behind (32 ∷ []) (bytes ++ rest) stands) lexed good)

term_good : (depth : ℕ) (t : Term) → is_bad (term_token depth t) ≡ false
term_good depth (Prin name) = refl
term_good depth (File number) = refl
term_good depth (Perm permission) = refl
term_good depth (Time point) = refl
term_good depth (Text constant) = refl
term_good depth Ctime = refl
term_good depth (Param n) = refl
term_good depth (Bound n) = refl

pub term_word : {text : List ℕ} {from : ℕ} (left : ℕ) (parameters binders : List Sort) (st : Bool) (t : Term) (rest : List ℕ) → IsPrintableTerm parameters binders st t → length binders ≤ 512 → EndsRun rest → Stands text from (term_text (length binders) t ++ rest)
    → Word text (token_from text from left) left (term_token (length binders) t) rest
term_word left parameters binders st t rest p few ends stands =
    word left (term_text (length binders) t) rest (term_token (length binders) t) stands (term_lexed (length binders) t rest p.spellable (in_depth parameters binders t p.in_scope few) ends) (term_good (length binders) t)

-- ---- arguments

pub count_ok : (here : Cursor) → 1 ≤ here.left → count here ≡ Ok tt
unfolding count
count_ok here some = let is_of_wanted_sort : nat_le 1 here.left ≡ true = grind (arith, nat_tests) in if_true (Ok tt) (Err (TextFault.TooLarge here.at)) is_of_wanted_sort

pub argument_ok : (st : Bool) (scope : List Variable) (here : Cursor) (t : Term) → term_of scope here ≡ Ok t → require_sayable st here.at t ≡ Ok tt → 1 ≤ here.left → argument st scope here ≡ Ok t
unfolding argument
argument_ok st scope here t term said some = rw (term, said, count_ok here some) refl

next_argument_ok : (st : Bool) (scope : List Variable) (is_atom : Bool) (others : ℕ) (here : Cursor) (t : Term) → argument st scope here ≡ Ok t → (is_atom ≡ true → others < 8) → next_argument st scope is_atom others here ≡ Ok t
unfolding next_argument
next_argument_ok st scope is_atom others here t h few = rw h (if_false (Err (TextFault.TooLarge here.at)) (Ok t) (no_ninth is_atom few))
  where
    no_ninth : (b : Bool) → (b ≡ true → others < 8) → (b && nat_le 8 others) ≡ false
    no_ninth true h = let less = h refl in grind (arith, nat_tests)
    no_ninth false h = refl

pub sorted_ok : (scope : List Variable) (s : Sort) (at : ℕ) (t : Term) → is_of_wanted_sort scope s t ≡ true → require_sort scope s at t ≡ Ok tt
unfolding require_sort
sorted_ok scope s at t h = if_true (Ok tt) (Err (TextFault.Sort at)) h

pub time_argument_ok : (st : Bool) (scope : List Variable) (here : Cursor) (t : Term) → term_of scope here ≡ Ok t → require_sayable st here.at t ≡ Ok tt → is_of_wanted_sort scope sorts.Time t ≡ true → 1 ≤ here.left → time_argument st scope here ≡ Ok t
unfolding time_argument
time_argument_ok st scope here t term said fit some = rw (term, said, sorted_ok scope sorts.Time here.at t fit, count_ok here some) refl

-- terms that were read, and where the reading stands
pub record Arguments (text : List ℕ) (st : Bool) (scope : List Variable) (is_atom : Bool) (start : Cursor) (left : ℕ) (terms : List Term) (rest : List ℕ) : Type 0 where
  pub to : ℕ
  pub stands : Stands text to rest
  pub are : AreArguments text st scope is_atom start (token_from text to left) terms

comma_ends : (rest : List ℕ) → EndsRun (44 ∷ rest)
comma_ends rest = (refl, refl)

close_ends : (rest : List ℕ) → EndsRun (41 ∷ rest)
close_ends rest = (refl, refl)

-- what stands after an argument ends it
pub others_end : (depth : ℕ) (others : List Term) (rest : List ℕ) → EndsRun (terms_text depth others ++ 41 ∷ rest)
others_end depth [] rest = (refl, refl)
others_end depth (t ∷ others) rest = (refl, refl)

others_parts : (depth : ℕ) (t : Term) (others : List Term) (rest : List ℕ) → terms_text depth (t ∷ others) ++ 41 ∷ rest ≡ codes "," ++ (term_text depth t ++ (terms_text depth others ++ 41 ∷ rest))
others_parts depth t others rest = ap (λ bs. 44 ∷ bs) (append_assoc (term_text depth t) (terms_text depth others) (41 ∷ rest))

pub arguments_more : {text : List ℕ} {st : Bool} {is_atom : Bool} {start : Cursor} (parameters binders : List Sort) (others terms : List Term) (from left : ℕ) (rest : List ℕ) → length binders ≤ 512 → AllByRecursion (IsPrintableTerm parameters binders st) others
    → AreArguments text st (scope_of binders) is_atom start (token_from text from left) terms → Stands text from (terms_text (length binders) others ++ 41 ∷ rest) → length others ≤ left → (is_atom ≡ true → length terms + length others ≤ 8)
    → Arguments text st (scope_of binders) is_atom start (left - length others) (terms ++ others) (41 ∷ rest)
arguments_more {text} {st} {is_atom} {start} parameters binders [] terms from left rest few all are stands nodes ninth =
    let same : left ≡ left - 0 = omega arith in
    record { to = from; stands = stands; are = subst (λ ts. AreArguments text st (scope_of binders) is_atom start (token_from text from (left - 0)) ts) (sym (append-nil terms)) (subst (λ n. AreArguments text st (scope_of binders) is_atom start (token_from text from n) terms) same are) }
arguments_more {text} {st} {is_atom} {start} parameters binders (t ∷ others) terms from left rest few all are stands nodes ninth =
    let depth = length binders in
    let behind_t = terms_text depth others ++ 41 ∷ rest in
    let comma = word left (codes ",") (term_text depth t ++ behind_t) (tokens.Sign signs.Comma) (stands_at refl (others_parts depth t others rest) stands) refl refl in
    let found = term_word left parameters binders st t behind_t all.0 few (others_end depth others rest) comma.stands in
    let mid = token_from text from left in
    let place = token_from text comma.to left in
    let read : argument st (scope_of binders) place ≡ Ok t = argument_ok st (scope_of binders) place t (term_read parameters binders place t found.token all.0.in_scope few) (all.0.sayable place.at) (let n = found.nodes in omega arith) in
    let here : expect_sign text signs.Comma mid ≡ Ok place = expected-Ok text signs.Comma mid (ap (is_sign signs.Comma) comma.token ∙ comma_sign) ∙ ap Ok comma.next in
    let step : AreArguments text st (scope_of binders) is_atom start (token_from text found.to (left - 1)) (terms ++ t ∷ []) =
    subst (λ (p : Cursor). AreArguments text st (scope_of binders) is_atom start p (terms ++ t ∷ [])) found.node
    (further mid place terms t are here (next_argument_ok st (scope_of binders) is_atom (length terms) place t read (λ is. (let most = ninth is in omega arith)))) in
    let more = arguments_more parameters binders others (terms ++ t ∷ []) found.to (left - 1) rest few all.1 step found.stands (omega arith) (λ is. (let most = ninth is in let len = length_more terms t in omega arith)) in
    let nodes_same : left - 1 - length others ≡ left - length (t ∷ others) = omega arith in
    record {
      to = more.to;
      stands = more.stands;
      are = subst (λ n. AreArguments text st (scope_of binders) is_atom start (token_from text more.to n) (terms ++ t ∷ others)) nodes_same
          (subst (λ ts. AreArguments text st (scope_of binders) is_atom start (token_from text more.to (left - 1 - length others)) ts) (append_assoc terms (t ∷ []) others) more.are);
    }
