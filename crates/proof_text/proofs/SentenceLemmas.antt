-- A text whose words are a sentence is one of a proof, or it is too large.
use Rattle.std.proofs.Common.{◌≡◌, ℕ, ◌-◌, Bool, true, false, List, [], ◌∷◌, ◌++◌, length, refl, sym, ap, ◌∙◌, subst, Option, Some, None, IsSome, Result, Ok, Err, ◌⊎◌, inl, inr}
use Rattle.std.specs.Prelude.{if◌then◌else◌, ◌&&◌, nat_le, drop, ◌^◌}
use Rattle.std.specs.List.{take_while}
use Rattle.std.proofs.lemmas.Bool.{false≢true}
use Rattle.bl_syntax.specs.declared.terms.Sort.TheVariants as sorts
use Rattle.bl_syntax.specs.declared.terms.Term.{Term}
use Rattle.bl_syntax.specs.declared.terms.Term.TheVariants.{Prin}
use Rattle.bl_tokens.specs.declared.classes.Class.TheVariants as classes
use Rattle.bl_tokens.specs.declared.faults.TextFault.{TextFault}
use Rattle.bl_tokens.specs.declared.faults.TextFault.TheVariants.{Unexpected, TooLarge}
use Rattle.bl_tokens.specs.declared.faults.TextFault.TheVariants as faults
use Rattle.bl_tokens.specs.declared.tokens.Sign.{Sign as Sign'}
use Rattle.bl_tokens.specs.declared.tokens.Sign.TheVariants as signs
use Rattle.bl_tokens.specs.declared.tokens.Token.{Token}
use Rattle.bl_tokens.specs.declared.tokens.Token.TheVariants as tokens
use Rattle.bl_tokens.specs.declared.tokens.Cursor.{Cursor}
use Rattle.bl_tokens.specs.Classes.{is_in}
use Rattle.bl_tokens.specs.Numerals.{numeral_below}
use Rattle.bl_tokens.specs.Tokens.{token_from, is_sign}
use Rattle.bl_text.specs.Pieces.{◌>>=◌, term_of, require_sort}
use Rattle.bl_text.specs.Scope.{place_of, is_of_wanted_sort}
use Rattle.bl_text.specs.Sentences.{IsSign, IsTerm, principal, constant, variable}
use Rattle.bl_text.specs.Texts.{is_end}
use Rattle.proof_term.specs.declared.rule.Rule.{Rule}
use Rattle.proof_term.specs.declared.rule.Rule.TheVariants as rules
use Rattle.proof_term.specs.declared.rule.Axiom.{Axiom}
use Rattle.proof_term.specs.declared.rule.Axiom.TheVariants as axioms
use Rattle.proof_term.specs.declared.rule.OnePremise.{OnePremise}
use Rattle.proof_term.specs.declared.rule.OnePremise.TheVariants as one
use Rattle.proof_term.specs.declared.rule.TwoPremises.{TwoPremises}
use Rattle.proof_term.specs.declared.rule.TwoPremises.TheVariants as two
use Rattle.proof_term.specs.Proof.{ProofView}
use Rattle.proof_term.specs.Rules.{by_axiom, by_one, by_two}
use Rattle.proof_text.specs.declared.names.PlainRule.TheVariants.{ConsR, InterR, AndR, OrR1, OrR2, TrueR, ImpR, ForallR, ExistsR, SaysR, AtR}
use Rattle.proof_text.specs.declared.names.CitingRule.TheVariants.{Init, ConsL, InterL, AndL, OrL, FalseL, ImpL, ForallL, ExistsL, SaysL, Claim, AtL}
use Rattle.proof_text.specs.declared.names.RuleName.{RuleName}
use Rattle.proof_text.specs.declared.names.RuleName.TheVariants.{Plain, Citing}
use Rattle.proof_text.specs.declared.cursor.ProofCursor.{ProofCursor}
use Rattle.proof_text.specs.Rules.{rule_named}
use Rattle.proof_text.specs.Cursor.{cursor_at, first_byte, token_at, cursor_after_token, cursor_after_sign, term_at, time_at, hypothesis_reading, hypothesis_at, rule_reading, is_word_start, rule_at, room, take_rule}
use Rattle.proof_text.specs.Heads.{premise_head, finish_head, start_head, with_term, plain_head, with_instance, with_interval, citing_head, with_hypothesis, named_head, head}
use Rattle.proof_text.specs.Proofs.{IsProof, no_premise, one_premise, two_premises}
use Rattle.proof_text.specs.FirstFaults.{ProofHasFirstFault, in_head, in_premise, in_first, in_second}
use Rattle.proof_text.specs.Texts.{at_end, IsProofText, whole_proof, ProofTextFault, in_proof}
use Rattle.proof_text.specs.Sentences.{ProofWord, rule_name, number, token, Field, hypothesis, term, time, premise, fields, ProofSentence, a_hypothesis, a_term, a_time, bare, with_fields, further, AreWordsAt, nothing, rule_there, number_there, token_there, IsProofSentenceText}
use Rattle.bl_text.proofs.IsStatementLemmas.{ok_same}

-- ---- what stands there is read, however many rules are left

abbrev NameAt : List ℕ → ℕ → ℕ → RuleName → Type 0
NameAt text from to rule = (left : ℕ) → rule_at text (cursor_at from left) ≡ Ok (rule, cursor_at to left)

abbrev NumberAt : List ℕ → ℕ → ℕ → ℕ → Type 0
NumberAt text from to h = (left : ℕ) → hypothesis_at text (cursor_at from left) ≡ Ok (h, cursor_at to left)

abbrev TermAt : List ℕ → ℕ → ℕ → Term → Type 0
TermAt text from to t = (left : ℕ) → term_at text (cursor_at from left) ≡ Ok (t, cursor_at to left)

abbrev TimeAt : List ℕ → ℕ → ℕ → Term → Type 0
TimeAt text from to t = (left : ℕ) → time_at text (cursor_at from left) ≡ Ok (t, cursor_at to left)

record SignAt (text : List ℕ) (sign : Sign') (from to : ℕ) : Type 0 where
  reads : (left : ℕ) → cursor_after_sign text sign (cursor_at from left) ≡ Ok (cursor_at to left)

record TokenAt (text : List ℕ) (from to : ℕ) (t : Token) : Type 0 where
  same : (left : ℕ) → (token_from text from left).token ≡ t
  ends : (left : ℕ) → (token_from text from left).end ≡ to

never : {A B : Type 0} {e : TextFault} {x : A} → ◌≡◌ {A = Result A TextFault} (Err e) (Ok x) → B
never {A} {B} {e} {x} h = absurd (let no : ◌≡◌ {A = Result A TextFault} (Err e) (Ok x) = h in cc)

named_any : (at size left left' : ℕ) (o : Option RuleName) (rule : RuleName) (there : ProofCursor) → rule_reading at size left o ≡ Ok (rule, there) → rule_reading at size left' o ≡ Ok (rule, cursor_at there.from left')
named_any at size left left' None rule there h = never h
named_any at size left left' (Some name) rule there h = ap (λ (x : RuleName × ProofCursor). Ok (x.0, cursor_at x.1.from left')) (ok_same h)

rule_any : (b : Bool) (at size left left' : ℕ) (o : Option RuleName) (rule : RuleName) (there : ProofCursor) → ◌≡◌ {A = Result (RuleName × ProofCursor) TextFault} (if b then rule_reading at size left o else Err (Unexpected at)) (Ok (rule, there))
    → ◌≡◌ {A = Result (RuleName × ProofCursor) TextFault} (if b then rule_reading at size left' o else Err (Unexpected at)) (Ok (rule, cursor_at there.from left'))
rule_any true at size left left' o rule there h = named_any at size left left' o rule there h
rule_any false at size left left' o rule there h = never h

name_at : (text : List ℕ) (here there : ProofCursor) (rule : RuleName) → rule_at text here ≡ Ok (rule, there) → NameAt text here.from there.from rule
unfolding rule_at
name_at text here there rule h left =
    let bytes = drop (first_byte text here) text in
    let word = take_while (is_in classes.Word) bytes in rule_any (is_word_start bytes) (first_byte text here) (length word) here.left left (rule_named word) rule there h

numbered_any : (at size left left' : ℕ) (o : Option ℕ) (n : ℕ) (there : ProofCursor) → hypothesis_reading at size left o ≡ Ok (n, there) → hypothesis_reading at size left' o ≡ Ok (n, cursor_at there.from left')
numbered_any at size left left' None n there h = never h
numbered_any at size left left' (Some k) n there h = ap (λ (x : ℕ × ProofCursor). Ok (x.0, cursor_at x.1.from left')) (ok_same h)

number_at : (text : List ℕ) (here there : ProofCursor) (n : ℕ) → hypothesis_at text here ≡ Ok (n, there) → NumberAt text here.from there.from n
unfolding hypothesis_at
number_at text here there n h left =
    let digits = take_while (is_in classes.Digit) (drop (first_byte text here) text) in numbered_any (first_byte text here) (length digits) here.left left (numeral_below (2 ^ 16) digits) n there h

token_any : (text : List ℕ) (here : ProofCursor) → TokenAt text here.from (token_at text here).end (token_at text here).token
unfolding token_from
token_any text here = record { same = λ left. refl; ends = λ left. refl }

-- what stands there, word by word
abbrev StandsBy : List ℕ → ℕ → ℕ → List ProofWord → Type 0
StandsBy text from to [] = from ≡ to
StandsBy text from to (rule_name rule ∷ ws) = (mid : ℕ) × NameAt text from mid rule × AreWordsAt text mid to ws
StandsBy text from to (number h ∷ ws) = (mid : ℕ) × NumberAt text from mid h × AreWordsAt text mid to ws
StandsBy text from to (token t ∷ ws) = (mid : ℕ) × TokenAt text from mid t × AreWordsAt text mid to ws

taken : {text : List ℕ} {from to : ℕ} {ws : List ProofWord} → AreWordsAt text from to ws → StandsBy text from to ws
taken (nothing from) = refl
taken {text} (rule_there here there to rule ws h s) = (there.from, name_at text here there rule h, s)
taken {text} (number_there here there to n ws h s) = (there.from, number_at text here there n h, s)
taken {text} (token_there here to ws s) = ((token_at text here).end, token_any text here, s)

abbrev Between : List ℕ → ℕ → ℕ → List ProofWord → List ProofWord → Type 0
Between text from to ws vs = (mid : ℕ) × AreWordsAt text from mid ws × AreWordsAt text mid to vs

put : {text : List ℕ} {from mid to : ℕ} {ws vs us : List ProofWord} → ((k : ℕ) → AreWordsAt text mid k ws → AreWordsAt text from k us) → Between text mid to ws vs → Between text from to us vs
put f b = (b.0, f b.0 b.1, b.2)

parted : {text : List ℕ} {to : ℕ} (ws vs : List ProofWord) (from : ℕ) → AreWordsAt text from to (ws ++ vs) → Between text from to ws vs
parted [] vs from s = (from, nothing from, s)
parted {text} (rule_name rule ∷ ws) vs from s =
    let t = taken s in put (λ k u. rule_there (cursor_at from 0) (cursor_at t.0 0) k rule ws (t.1 0) u) (parted ws vs t.0 t.2)
parted {text} (number h ∷ ws) vs from s =
    let t = taken s in put (λ k u. number_there (cursor_at from 0) (cursor_at t.0 0) k h ws (t.1 0) u) (parted ws vs t.0 t.2)
parted {text} (token f ∷ ws) vs from s =
    let t = taken s in
    put (λ k u. subst (λ g. AreWordsAt text from k (token g ∷ ws)) (t.1.same 0) (token_there (cursor_at from 0) k ws (subst (λ n. AreWordsAt text n k ws) (sym (t.1.ends 0)) u))) (parted ws vs t.0 t.2)

-- ---- fields

abbrev sign_by : Sign' → Cursor → Result ProofCursor TextFault
sign_by sign found = if is_sign sign found.token then Ok (cursor_after_token found) else Err (Unexpected found.at)

sign_found : (b : Bool) (end to left at : ℕ) → b ≡ true → end ≡ to → ◌≡◌ {A = Result ProofCursor TextFault} (if b then Ok (cursor_at end left) else Err (Unexpected at)) (Ok (cursor_at to left))
sign_found true end to left at is same = ap (λ n. Ok (cursor_at n left)) same
sign_found false end to left at is same = absurd (false≢true is)

left_same : (text : List ℕ) (from left : ℕ) → (token_from text from left).left ≡ left
unfolding token_from
left_same text from left = refl

behind_found : (found : Cursor) (to left : ℕ) → found.end ≡ to → found.left ≡ left → cursor_after_token found ≡ cursor_at to left
behind_found found to left ends lefts = ap (λ n. cursor_at n found.left) ends ∙ ap (λ n. cursor_at to n) lefts

sign_left : {text : List ℕ} {from to : ℕ} {t : Token} (sign : Sign') → TokenAt text from to t → IsSign sign t → (left : ℕ) → cursor_after_sign text sign (cursor_at from left) ≡ Ok (cursor_at to left)
unfolding cursor_after_sign
sign_left {text} {from} {to} {t} sign found is left =
    let there : is_sign sign (token_from text from left).token ≡ true = ap (is_sign sign) (found.same left) ∙ is in
    sign_found (is_sign sign (token_from text from left).token) (token_from text from left).end to (token_from text from left).left (token_from text from left).at there (found.ends left) ∙ ap (λ n. Ok (cursor_at to n)) (left_same text from left)

sign_at : {text : List ℕ} {from to : ℕ} {t : Token} (sign : Sign') → TokenAt text from to t → IsSign sign t → SignAt text sign from to
sign_at sign found is = record { reads = sign_left sign found is }

no_variable : (name : List ℕ) → IsSome (place_of [] name) → ⊥
no_variable name h = false≢true h

-- the token is that term, wherever it stands
abbrev IsRead : Token → Term → Type 0
IsRead t u = (at end left : ℕ) → term_of [] (record { at = at; token = t; end = end; left = left }) ≡ Ok u

name_read : (name : List ℕ) → IsRead (tokens.Name name) (Prin name)
unfolding term_of
name_read name at end left = refl

constant_read : (u : Term) → IsRead (tokens.Constant u) u
unfolding term_of
constant_read u at end left = refl

found_read : {text : List ℕ} {from to : ℕ} {t : Token} {u : Term} → TokenAt text from to t → IsRead t u → (left : ℕ) → term_of [] (token_from text from left) ≡ Ok u
found_read {text} {from} {t = t} found read left =
    let here = token_from text from left in ap (λ g. term_of [] (record { at = here.at; token = g; end = here.end; left = here.left })) (found.same left) ∙ read here.at here.end here.left

behind_it : {text : List ℕ} {from to : ℕ} {t : Token} (u : Term) → TokenAt text from to t → (left : ℕ) → ◌≡◌ {A = Result (Term × ProofCursor) TextFault} (Ok (u, cursor_after_token (token_from text from left))) (Ok (u, cursor_at to left))
behind_it {text} {from} {to} u found left = ap (λ p. Ok (u, p)) (behind_found (token_from text from left) to left (found.ends left) (left_same text from left))

term_read : {text : List ℕ} {from to : ℕ} {t : Token} {u : Term} → TokenAt text from to t → IsRead t u → TermAt text from to u
unfolding term_at
term_read {text} {from} {u = u} found read left =
    ap (λ (r : Result Term TextFault). r >>= (λ t. Ok (t, cursor_after_token (token_from text from left)))) (found_read found read left) ∙ behind_it u found left

sort_fits : (b : Bool) (at : ℕ) → b ≡ true → ◌≡◌ {A = Result (Unit {0}) TextFault} (if b then Ok tt else Err (faults.Sort at)) (Ok tt)
sort_fits true at h = refl
sort_fits false at h = absurd (false≢true h)

is_sorted : (u : Term) (at : ℕ) → is_of_wanted_sort [] sorts.Time u ≡ true → require_sort [] sorts.Time at u ≡ Ok tt
unfolding require_sort
is_sorted u at h = sort_fits (is_of_wanted_sort [] sorts.Time u) at h

time_read : {text : List ℕ} {from to : ℕ} {t : Token} {u : Term} → TokenAt text from to t → IsRead t u → is_of_wanted_sort [] sorts.Time u ≡ true → TimeAt text from to u
unfolding time_at
time_read {text} {from} {u = u} found read fit left =
    let here = token_from text from left in
    ap (λ (r : Result Term TextFault). r >>= (λ t. require_sort [] sorts.Time here.at t >>= (λ _. Ok (t, cursor_after_token here)))) (found_read found read left)
    ∙ ap (λ (r : Result (Unit {0}) TextFault). r >>= (λ _. Ok (u, cursor_after_token here))) (is_sorted u here.at fit) ∙ behind_it u found left

-- a proof is read there, or the text is too large
data Reads (text : List ℕ) (levels left from to : ℕ) : Type 0 where
  a_proof : (left' : ℕ) (d : ProofView) → IsProof text levels (cursor_at from left) (cursor_at to left') d → Reads text levels left from to
  too_large : (at : ℕ) → ProofHasFirstFault text levels (cursor_at from left) (TooLarge at) → Reads text levels left from to

abbrev ProofAt : List ℕ → ℕ → ℕ → Type 0
ProofAt text from to = (levels left : ℕ) → Reads text levels left from to

abbrev FieldAt : List ℕ → ℕ → ℕ → Field → Type 0
FieldAt text from to hypothesis = (h : ℕ) × NumberAt text from to h
FieldAt text from to term = (t : Term) × TermAt text from to t
FieldAt text from to time = (t : Term) × TimeAt text from to t
FieldAt text from to premise = ProofAt text from to

-- these fields are read there, with commas between them
abbrev FieldsAt : List ℕ → ℕ → ℕ → List Field → Type 0
FieldsAt text from to [] = ⊥
FieldsAt text from to (f ∷ []) = FieldAt text from to f
FieldsAt text from to (f ∷ g ∷ fs) = (mid second : ℕ) × FieldAt text from mid f × SignAt text signs.Comma mid second × FieldsAt text second to (g ∷ fs)

-- ---- rules

-- the rule whose name ends there, with its fields before the premises, and its premises
data HeadAt (text : List ℕ) (name : RuleName) (mid to : ℕ) : Type 0 where
  none_behind : (r : Axiom) → ((left : ℕ) → named_head text name (cursor_at mid left) ≡ Ok (rules.Axiom r, cursor_at to left)) → HeadAt text name mid to
  one_behind : (r : OnePremise) (first last : ℕ) → ((left : ℕ) → named_head text name (cursor_at mid left) ≡ Ok (rules.One r, cursor_at first left)) → ProofAt text first last → SignAt text signs.Close last to
      → HeadAt text name mid to
  two_behind : (r : TwoPremises) (first comma second last : ℕ) → ((left : ℕ) → named_head text name (cursor_at mid left) ≡ Ok (rules.Two r, cursor_at first left)) → ProofAt text first comma
      → SignAt text signs.Comma comma second → ProofAt text second last → SignAt text signs.Close last to → HeadAt text name mid to

abbrev room_by : Bool → ℕ → Result (Unit {0}) TextFault
room_by b at = if b then Ok tt else Err (TooLarge at)

abbrev head_by : List ℕ → RuleName × ProofCursor → Result (Unit {0}) TextFault → Result (Rule × ProofCursor) TextFault
head_by text name r = r >>= (λ _. named_head text name.0 (take_rule name.1))

-- the head is the one of the name, or there is no room
module _ (text : List ℕ) (levels left from : ℕ) where
  abbrev Room : Bool
  Room = nat_le 1 left && nat_le 1 levels

  headed : {mid : ℕ} {rule : RuleName} → NameAt text from mid rule → head text levels (cursor_at from left) ≡ head_by text (rule, cursor_at mid left) (room_by Room (first_byte text (cursor_at from left)))
  unfolding head room
  headed {mid} {rule} name = ap (λ (r : Result (RuleName × ProofCursor) TextFault). r >>= (λ n. room text levels (cursor_at from left) >>= (λ _. named_head text n.0 (take_rule n.1)))) (name left)

  head_room : {mid : ℕ} {rule : RuleName} (x : Rule × ProofCursor) → NameAt text from mid rule → Room ≡ true → named_head text rule (cursor_at mid (left - 1)) ≡ Ok x → head text levels (cursor_at from left) ≡ Ok x
  head_room {mid} {rule} x name some h = headed name ∙ ap (λ b. head_by text (rule, cursor_at mid left) (room_by b (first_byte text (cursor_at from left)))) some ∙ h

  head_full : {mid : ℕ} {rule : RuleName} → NameAt text from mid rule → Room ≡ false → head text levels (cursor_at from left) ≡ Err (TooLarge (first_byte text (cursor_at from left)))
  head_full {mid} {rule} name full = headed name ∙ ap (λ b. head_by text (rule, cursor_at mid left) (room_by b (first_byte text (cursor_at from left)))) full

  one_read : {first last to : ℕ} (r : OnePremise) → head text levels (cursor_at from left) ≡ Ok (rules.One r, cursor_at first (left - 1)) → Reads text (levels - 1) (left - 1) first last → SignAt text signs.Close last to
      → Reads text levels left from to
  one_read {first} {last} {to} r h (a_proof left' d i) close = a_proof left' (by_one r d) (one_premise levels (cursor_at from left) (cursor_at first (left - 1)) (cursor_at last left') (cursor_at to left') r d (by_one r d) h i (close.reads left') refl)
  one_read {first} {last} {to} r h (too_large at s) close = too_large at (in_premise levels (cursor_at from left) (cursor_at first (left - 1)) r (TooLarge at) h s)

  second_read : {first mid second last to left' : ℕ} {p : ProofView} (r : TwoPremises) → head text levels (cursor_at from left) ≡ Ok (rules.Two r, cursor_at first (left - 1)) → IsProof text (levels - 1) (cursor_at first (left - 1)) (cursor_at mid left') p
      → SignAt text signs.Comma mid second → Reads text (levels - 1) left' second last → SignAt text signs.Close last to → Reads text levels left from to
  second_read {first} {mid} {second} {last} {to} {left'} {p} r h i comma (a_proof n q j) close =
      a_proof n (by_two r p q) (two_premises levels (cursor_at from left) (cursor_at first (left - 1)) (cursor_at mid left') (cursor_at second left') (cursor_at last n) (cursor_at to n) r p q (by_two r p q) h i (comma.reads left') j (close.reads n) refl)
  second_read {first} {mid} {second} {last} {to} {left'} {p} r h i comma (too_large at s) close =
      too_large at (in_second levels (cursor_at from left) (cursor_at first (left - 1)) (cursor_at mid left') (cursor_at second left') r p (TooLarge at) h i (comma.reads left') s)

  two_read : {first mid second last to : ℕ} (r : TwoPremises) → head text levels (cursor_at from left) ≡ Ok (rules.Two r, cursor_at first (left - 1)) → Reads text (levels - 1) (left - 1) first mid → SignAt text signs.Comma mid second
      → ProofAt text second last → SignAt text signs.Close last to → Reads text levels left from to
  two_read r h (a_proof left' p i) comma others close = second_read r h i comma (others (levels - 1) left') close
  two_read {first} r h (too_large at s) comma others close = too_large at (in_first levels (cursor_at from left) (cursor_at first (left - 1)) r (TooLarge at) h s)

  rule_read : {mid to : ℕ} {rule : RuleName} → NameAt text from mid rule → HeadAt text rule mid to → Room ≡ true → Reads text levels left from to
  rule_read {to = to} name (none_behind r h) some = a_proof (left - 1) (by_axiom r) (no_premise levels (cursor_at from left) (cursor_at to (left - 1)) r (by_axiom r) (head_room _ name some (h (left - 1))) refl)
  rule_read name (one_behind r first last h p close) some = one_read r (head_room _ name some (h (left - 1))) (p (levels - 1) (left - 1)) close
  rule_read name (two_behind r first comma second last h p sign q close) some = two_read r (head_room _ name some (h (left - 1))) (p (levels - 1) (left - 1)) sign q close

  by_room : {mid to : ℕ} {rule : RuleName} → NameAt text from mid rule → HeadAt text rule mid to → (b : Bool) → Room ≡ b → Reads text levels left from to
  by_room name h true is = rule_read name h is
  by_room name h false is = too_large (first_byte text (cursor_at from left)) (in_head levels (cursor_at from left) (TooLarge (first_byte text (cursor_at from left))) (head_full name is))

proof_at : {text : List ℕ} {from mid to : ℕ} {rule : RuleName} → NameAt text from mid rule → HeadAt text rule mid to → ProofAt text from to
proof_at {text} {from} name h levels left = by_room text levels left from name h (nat_le 1 left && nat_le 1 levels) refl

-- the head of each rule, after its name
has_fields : {f : Field} {fs : List Field} → ◌≡◌ {A = List Field} (f ∷ fs) [] → ⊥
has_fields {f} {fs} h = let no : ◌≡◌ {A = List Field} (f ∷ fs) [] = h in cc

bare_head : {text : List ℕ} {mid : ℕ} (rule : RuleName) → fields rule ≡ [] → HeadAt text rule mid mid
unfolding named_head plain_head
bare_head (Plain ConsR) none = none_behind axioms.ConsR (λ left. refl)
bare_head (Plain InterR) none = none_behind axioms.InterR (λ left. refl)
bare_head (Plain TrueR) none = none_behind axioms.TrueR (λ left. refl)
bare_head (Plain AndR) none = absurd (has_fields none)
bare_head (Plain OrR1) none = absurd (has_fields none)
bare_head (Plain OrR2) none = absurd (has_fields none)
bare_head (Plain ImpR) none = absurd (has_fields none)
bare_head (Plain ForallR) none = absurd (has_fields none)
bare_head (Plain ExistsR) none = absurd (has_fields none)
bare_head (Plain SaysR) none = absurd (has_fields none)
bare_head (Plain AtR) none = absurd (has_fields none)
bare_head (Citing Init) none = absurd (has_fields none)
bare_head (Citing FalseL) none = absurd (has_fields none)
bare_head (Citing ConsL) none = absurd (has_fields none)
bare_head (Citing InterL) none = absurd (has_fields none)
bare_head (Citing AndL) none = absurd (has_fields none)
bare_head (Citing OrL) none = absurd (has_fields none)
bare_head (Citing ImpL) none = absurd (has_fields none)
bare_head (Citing ForallL) none = absurd (has_fields none)
bare_head (Citing ExistsL) none = absurd (has_fields none)
bare_head (Citing SaysL) none = absurd (has_fields none)
bare_head (Citing Claim) none = absurd (has_fields none)
bare_head (Citing AtL) none = absurd (has_fields none)

bound : {A B : Type 0} {r : Result A TextFault} {x : A} {s : Result B TextFault} (f : A → Result B TextFault) → r ≡ Ok x → f x ≡ s → (r >>= f) ≡ s
bound f h k = ap (λ r. r >>= f) h ∙ k

open_head : {text : List ℕ} {from to : ℕ} (rule : Rule) → SignAt text signs.Open from to → (left : ℕ) → start_head text rule (cursor_at from left) ≡ Ok (rule, cursor_at to left)
unfolding start_head
open_head rule o left = bound _ (o.reads left) refl

comma_head : {text : List ℕ} {from to : ℕ} (rule : Rule) → SignAt text signs.Comma from to → (left : ℕ) → premise_head text rule (cursor_at from left) ≡ Ok (rule, cursor_at to left)
unfolding premise_head
comma_head rule c left = bound _ (c.reads left) refl

close_head : {text : List ℕ} {from to : ℕ} (rule : Rule) → SignAt text signs.Close from to → (left : ℕ) → finish_head text rule (cursor_at from left) ≡ Ok (rule, cursor_at to left)
unfolding finish_head
close_head rule c left = bound _ (c.reads left) refl

fields_head : {text : List ℕ} {mid first to : ℕ} (last : ℕ) (rule : RuleName) → SignAt text signs.Open mid first → FieldsAt text first last (fields rule) → SignAt text signs.Close last to → HeadAt text rule mid to
unfolding named_head plain_head with_term with_hypothesis citing_head with_instance with_interval
fields_head last (Plain ConsR) o f c = absurd f
fields_head last (Plain InterR) o f c = absurd f
fields_head last (Plain TrueR) o f c = absurd f
fields_head last (Plain AndR) o f c = two_behind two.AndR _ f.0 f.1 _ (open_head (rules.Two two.AndR) o) f.2 f.3 f.4 c
fields_head last (Plain OrR1) o f c = one_behind one.OrR1 _ _ (open_head (rules.One one.OrR1) o) f c
fields_head last (Plain OrR2) o f c = one_behind one.OrR2 _ _ (open_head (rules.One one.OrR2) o) f c
fields_head last (Plain ImpR) o f c = one_behind one.ImpR _ _ (open_head (rules.One one.ImpR) o) f c
fields_head last (Plain ForallR) o f c = one_behind one.ForallR _ _ (open_head (rules.One one.ForallR) o) f c
fields_head last (Plain SaysR) o f c = one_behind one.SaysR _ _ (open_head (rules.One one.SaysR) o) f c
fields_head last (Plain AtR) o f c = one_behind one.AtR _ _ (open_head (rules.One one.AtR) o) f c
fields_head last (Plain ExistsR) o f c = one_behind (one.ExistsR f.2.0) f.1 _ (λ left. bound _ (o.reads left) (bound _ (f.2.1 left) (comma_head (rules.One (one.ExistsR f.2.0)) f.3 left))) f.4 c
fields_head last (Citing Init) o f c = none_behind (axioms.Init f.0) (λ left. bound _ (o.reads left) (bound _ (f.1 left) (close_head (rules.Axiom (axioms.Init f.0)) c left)))
fields_head last (Citing FalseL) o f c = none_behind (axioms.FalseL f.0) (λ left. bound _ (o.reads left) (bound _ (f.1 left) (close_head (rules.Axiom (axioms.FalseL f.0)) c left)))
fields_head last (Citing ConsL) o f c = one_behind (one.ConsL f.2.0) f.1 _ (λ left. bound _ (o.reads left) (bound _ (f.2.1 left) (comma_head (rules.One (one.ConsL f.2.0)) f.3 left))) f.4 c
fields_head last (Citing InterL) o f c = one_behind (one.InterL f.2.0) f.1 _ (λ left. bound _ (o.reads left) (bound _ (f.2.1 left) (comma_head (rules.One (one.InterL f.2.0)) f.3 left))) f.4 c
fields_head last (Citing AndL) o f c = one_behind (one.AndL f.2.0) f.1 _ (λ left. bound _ (o.reads left) (bound _ (f.2.1 left) (comma_head (rules.One (one.AndL f.2.0)) f.3 left))) f.4 c
fields_head last (Citing ExistsL) o f c = one_behind (one.ExistsL f.2.0) f.1 _ (λ left. bound _ (o.reads left) (bound _ (f.2.1 left) (comma_head (rules.One (one.ExistsL f.2.0)) f.3 left))) f.4 c
fields_head last (Citing SaysL) o f c = one_behind (one.SaysL f.2.0) f.1 _ (λ left. bound _ (o.reads left) (bound _ (f.2.1 left) (comma_head (rules.One (one.SaysL f.2.0)) f.3 left))) f.4 c
fields_head last (Citing Claim) o f c = one_behind (one.Claim f.2.0) f.1 _ (λ left. bound _ (o.reads left) (bound _ (f.2.1 left) (comma_head (rules.One (one.Claim f.2.0)) f.3 left))) f.4 c
fields_head last (Citing AtL) o f c = one_behind (one.AtL f.2.0) f.1 _ (λ left. bound _ (o.reads left) (bound _ (f.2.1 left) (comma_head (rules.One (one.AtL f.2.0)) f.3 left))) f.4 c
fields_head last (Citing OrL) o f c = two_behind (two.OrL f.2.0) f.1 f.4.0 f.4.1 _ (λ left. bound _ (o.reads left) (bound _ (f.2.1 left) (comma_head (rules.Two (two.OrL f.2.0)) f.3 left))) f.4.2 f.4.3 f.4.4 c
fields_head last (Citing ForallL) o f c =
    let g = f.4 in
    one_behind (one.ForallL f.2.0 g.2.0) g.1 _ (λ left. bound _ (o.reads left) (bound _ (f.2.1 left) (bound _ (f.3.reads left) (bound _ (g.2.1 left) (comma_head (rules.One (one.ForallL f.2.0 g.2.0)) g.3 left))))) g.4 c
fields_head last (Citing ImpL) o f c =
    let g = f.4 in
    let k = g.4 in
    let p = k.4 in
    two_behind (two.ImpL f.2.0 g.2.0 k.2.0) k.1 p.0 p.1 _
    (λ left. bound _ (o.reads left) (bound _ (f.2.1 left) (bound _ (f.3.reads left) (bound _ (g.2.1 left) (bound _ (g.3.reads left) (bound _ (k.2.1 left) (comma_head (rules.Two (two.ImpL f.2.0 g.2.0 k.2.0)) k.3 left))))))) p.2 p.3 p.4 c

-- ---- sentences

term_field : {text : List ℕ} {from to : ℕ} {t : Token} → IsTerm [] t → TokenAt text from to t → FieldAt text from to term
term_field (principal name) found = (Prin name, term_read found (name_read name))
term_field (constant u) found = (u, term_read found (constant_read u))
term_field (variable name known) found = absurd (no_variable name known)

fields_read : {text : List ℕ} {fs : List Field} {ws : List ProofWord} → ProofSentence fs ws → (from to : ℕ) → AreWordsAt text from to ws → FieldsAt text from to fs
fields_read {text} (a_hypothesis h) from to s = let w = taken s in (h, subst (λ n. NumberAt text from n h) (taken w.2) w.1)
fields_read {text} (a_term t is) from to s = let w = taken s in subst (λ n. FieldAt text from n term) (taken w.2) (term_field is w.1)
fields_read {text} (a_time u fit) from to s = let w = taken s in subst (λ n. FieldAt text from n time) (taken w.2) (u, time_read w.1 (constant_read u) fit)
fields_read {text} (bare rule none) from to s = let w = taken s in subst (λ n. ProofAt text from n) (taken w.2) (proof_at w.1 (bare_head rule none))
fields_read {text} (with_fields rule ws open_ close opens i closes) from to s =
    let name = taken s in
    let first = taken name.2 in
    let parts = parted ws (token close ∷ []) first.0 first.2 in
    let last = taken parts.2 in
    let inner = fields_read i first.0 parts.0 parts.1 in
    subst (λ n. ProofAt text from n) (taken last.2) (proof_at name.1 (fields_head parts.0 rule (sign_at signs.Open first.1 opens) inner (sign_at signs.Close last.1 closes)))
fields_read {text} (further f g fs ws vs comma i is j) from to s =
    let parts = parted ws (token comma ∷ vs) from s in
    let sign = taken parts.2 in (parts.0, sign.0, fields_read i from parts.0 parts.1, sign_at signs.Comma sign.1 is, fields_read j sign.0 to sign.2)

-- ---- whole texts

abbrev IsReadOrLarge : List ℕ → Type 0
IsReadOrLarge text = ((d : ProofView) × IsProofText text d) ⊎ ((at : ℕ) × ProofTextFault text (TooLarge at))

ended_by : (b : Bool) (at : ℕ) → b ≡ true → ◌≡◌ {A = Result (Unit {0}) TextFault} (if b then Ok tt else Err (Unexpected at)) (Ok tt)
ended_by true at h = refl
ended_by false at h = absurd (false≢true h)

ended_there : (text : List ℕ) (from left : ℕ) → is_end (token_at text (cursor_at from 0)).token ≡ true → at_end text (cursor_at from left) ≡ Ok tt
unfolding at_end token_from
ended_there text from left h = ended_by (is_end (token_at text (cursor_at from left)).token) (token_at text (cursor_at from left)).at h

read_whole : {text : List ℕ} {to : ℕ} → is_end (token_at text (cursor_at to 0)).token ≡ true → Reads text 200 4096 0 to → IsReadOrLarge text
read_whole {text} {to} end (a_proof left' d i) = inl (d, whole_proof (cursor_at to left') i (ended_there text to left' end))
read_whole end (too_large at s) = inr (at, in_proof (TooLarge at) s)

pub sentence_read : {text : List ℕ} → IsProofSentenceText text → IsReadOrLarge text
sentence_read {text} is = read_whole is.end (fields_read is.sentence 0 is.behind is.stands 200 4096)
