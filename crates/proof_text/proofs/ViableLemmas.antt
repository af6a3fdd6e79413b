-- What was read of a proof's text is a sentence of the grammar over words, and what was read up to a fault can be completed to one.
use Rattle.std.proofs.Common.{◌≡◌, ℕ, Bool, true, false, List, [], ◌∷◌, ◌++◌, append_assoc, append-nil, refl, sym, ap, ◌∙◌, subst, Option, Some, None, Result, Ok, Err, ◌⊎◌, inl, inr}
use Rattle.std.specs.Prelude.{if◌then◌else◌, ◌&&◌, nat_le, MatchResult, drop, length, ◌^◌}
use Rattle.std.specs.List.{take_while}
use Rattle.bl_syntax.specs.declared.terms.Sort.TheVariants as sorts
use Rattle.bl_syntax.specs.declared.terms.Term.{Term}
use Rattle.bl_syntax.specs.declared.terms.Term.TheVariants.{Ctime}
use Rattle.bl_tokens.specs.declared.classes.Class.TheVariants as classes
use Rattle.bl_tokens.specs.declared.faults.TextFault.{TextFault}
use Rattle.bl_tokens.specs.declared.faults.TextFault.TheVariants.{Unexpected, TooLarge, NoMemory}
use Rattle.bl_tokens.specs.declared.faults.TextFault.TheVariants as faults
use Rattle.bl_tokens.specs.declared.tokens.Sign.{Sign as Sign'}
use Rattle.bl_tokens.specs.declared.tokens.Sign.TheVariants as signs
use Rattle.bl_tokens.specs.declared.tokens.Token.{Token}
use Rattle.bl_tokens.specs.declared.tokens.Token.TheVariants.{Name, LongWord, Variable, Constant, SortName, Keyword, Sign, End, Bad}
use Rattle.bl_tokens.specs.declared.tokens.Token.TheVariants as tokens
use Rattle.bl_tokens.specs.declared.tokens.Cursor.{Cursor}
use Rattle.bl_tokens.specs.Classes.{is_in}
use Rattle.bl_tokens.specs.Numerals.{numeral_below}
use Rattle.bl_tokens.specs.Tokens.{token_from, is_sign}
use Rattle.bl_text.specs.Pieces.{◌>>=◌, term_of, require_sort}
use Rattle.bl_text.specs.Scope.{is_of_wanted_sort}
use Rattle.bl_text.specs.Sentences.{IsSign, IsTerm, principal, constant}
use Rattle.bl_text.specs.Texts.{is_end}
use Rattle.proof_term.specs.declared.rule.Rule.{Rule}
use Rattle.proof_term.specs.declared.rule.Rule.TheVariants as rules
use Rattle.proof_term.specs.declared.rule.Axiom.{Axiom}
use Rattle.proof_term.specs.declared.rule.Axiom.TheVariants as axioms
use Rattle.proof_term.specs.declared.rule.OnePremise.TheVariants as one
use Rattle.proof_term.specs.declared.rule.TwoPremises.TheVariants as two
use Rattle.proof_term.specs.Proof.{ProofView}
use Rattle.proof_text.specs.declared.names.PlainRule.{PlainRule}
use Rattle.proof_text.specs.declared.names.PlainRule.TheVariants.{ConsR, InterR, AndR, OrR1, OrR2, TrueR, ImpR, ForallR, ExistsR, SaysR, AtR}
use Rattle.proof_text.specs.declared.names.CitingRule.{CitingRule}
use Rattle.proof_text.specs.declared.names.CitingRule.TheVariants.{Init, ConsL, InterL, AndL, OrL, FalseL, ImpL, ForallL, ExistsL, SaysL, Claim, AtL}
use Rattle.proof_text.specs.declared.names.RuleName.{RuleName}
use Rattle.proof_text.specs.declared.names.RuleName.TheVariants.{Plain, Citing}
use Rattle.proof_text.specs.declared.cursor.ProofCursor.{ProofCursor}
use Rattle.proof_text.specs.Rules.{rule_named}
use Rattle.proof_text.specs.Cursor.{cursor_at, first_byte, token_at, cursor_after_token, cursor_after_sign, term_at, time_at, hypothesis_reading, hypothesis_at, rule_reading, is_word_start, rule_at, room, take_rule}
use Rattle.proof_text.specs.Heads.{premise_head, finish_head, start_head, with_term, plain_head, with_instance, with_interval, citing_head, with_hypothesis, named_head, head}
use Rattle.proof_text.specs.Proofs.{IsProof, no_premise, one_premise, two_premises}
use Rattle.proof_text.specs.FirstFaults.{ProofHasFirstFault, no_memory, in_head, in_premise, behind_premise, in_first, behind_first, in_second, behind_second}
use Rattle.proof_text.specs.Texts.{at_end, IsProofText, whole_proof, ProofTextFault, in_proof, behind_proof}
use Rattle.proof_text.specs.SameTokens.{fault_place}
use Rattle.proof_text.specs.Sentences.{ProofWord, rule_name, number, token, Field, hypothesis, term, time, premise, fields, ProofSentence, a_hypothesis, a_term, a_time, bare, with_fields, further, AreWordsAt, nothing, rule_there, number_there, token_there, IsNext, IsAfterViablePrefix, IsProofSentenceText}
use Rattle.bl_text.proofs.PieceLemmas.{comma_sign, open_sign, close_sign}

-- ---- words that stand in a text

stands_then : {text : List ℕ} {from mid to : ℕ} {ws vs : List ProofWord} → AreWordsAt text from mid ws → AreWordsAt text mid to vs → AreWordsAt text from to (ws ++ vs)
stands_then (nothing from) t = t
stands_then {to = to} {vs = vs} (rule_there here there mid rule ws h s) t = rule_there here there to rule (ws ++ vs) h (stands_then s t)
stands_then {to = to} {vs = vs} (number_there here there mid n ws h s) t = number_there here there to n (ws ++ vs) h (stands_then s t)
stands_then {to = to} {vs = vs} (token_there here mid ws s) t = token_there here to (ws ++ vs) (stands_then s t)

-- a word that writes each field
abbrev default : Field → ProofWord
default hypothesis = number 0
default term = token (Constant Ctime)
default time = token (Constant Ctime)
default premise = rule_name (Plain TrueR)

default_is : (f : Field) → ProofSentence (f ∷ []) (default f ∷ [])
default_is hypothesis = a_hypothesis 0
default_is term = a_term (Constant Ctime) (constant Ctime)
default_is time = a_time Ctime refl
default_is premise = bare (Plain TrueR) refl

-- words that write these fields
abbrev defaults : Field → List Field → List ProofWord
defaults f [] = default f ∷ []
defaults f (g ∷ fs) = default f ∷ token (Sign signs.Comma) ∷ defaults g fs

defaults_are : (f : Field) (fs : List Field) → ProofSentence (f ∷ fs) (defaults f fs)
defaults_are f [] = default_is f
defaults_are f (g ∷ fs) = further f g fs (default f ∷ []) (defaults g fs) (Sign signs.Comma) (default_is f) comma_sign (defaults_are g fs)

-- ---- what was read and what stops

-- the words of these fields stand there
record Spelled (text : List ℕ) (from to : ℕ) (fs : List Field) : Type 0 where
  words : List ProofWord
  stands : AreWordsAt text from to words
  sentence : ProofSentence fs words

-- the fault stands after words that can be completed to these fields
record Viable (text : List ℕ) (fs : List Field) (from : ℕ) (e : TextFault) : Type 0 where
  words : List ProofWord
  behind : ℕ
  stands : AreWordsAt text from behind words
  next : IsNext text behind e
  others : List ProofWord
  sentence : ProofSentence fs (words ++ others)

viable_here : {text : List ℕ} {from : ℕ} {e : TextFault} (f : Field) (fs : List Field) → IsNext text from e → Viable text (f ∷ fs) from e
viable_here {text} {from} {e} f fs is = record { words = []; behind = from; stands = nothing from; next = is; others = defaults f fs; sentence = defaults_are f fs }

-- a sign stands there
record HasSign (text : List ℕ) (sign : Sign') (from to : ℕ) : Type 0 where
  found : Token
  is : IsSign sign found
  stands : AreWordsAt text from to (token found ∷ [])

-- a rule's name, its parenthesis and fields up to these stand there
record Opened (text : List ℕ) (from to : ℕ) (fs : List Field) : Type 0 where
  words : List ProofWord
  stands : AreWordsAt text from to words
  whole : (ws : List ProofWord) (close : Token) → IsSign signs.Close close → ProofSentence fs ws → ProofSentence (premise ∷ []) (words ++ (ws ++ token close ∷ []))

-- what is still to be completed after it
opened_viable : {text : List ℕ} {from mid : ℕ} {fs : List Field} {e : TextFault} → Opened text from mid fs → Viable text fs mid e → Viable text (premise ∷ []) from e
opened_viable o v = record {
  words = o.words ++ v.words;
  behind = v.behind;
  stands = stands_then o.stands v.stands;
  next = v.next;
  others = v.others ++ token (Sign signs.Close) ∷ [];
  sentence = subst (ProofSentence (premise ∷ [])) (ap (λ us. o.words ++ us) (append_assoc v.words v.others (token (Sign signs.Close) ∷ [])) ∙ sym (append_assoc o.words v.words (v.others ++ token (Sign signs.Close) ∷ [])))
      (o.whole (v.words ++ v.others) (Sign signs.Close) close_sign v.sentence);
}

-- a fault at the comma after a field
comma_viable : {text : List ℕ} {from mid : ℕ} {f : Field} {e : TextFault} (g : Field) (fs : List Field) → Spelled text from mid (f ∷ []) → IsNext text mid e → Viable text (f ∷ g ∷ fs) from e
comma_viable {text} {from} {mid} {f} {e} g fs s is = record {
  words = s.words;
  behind = mid;
  stands = s.stands;
  next = is;
  others = token (Sign signs.Comma) ∷ defaults g fs;
  sentence = further f g fs s.words (defaults g fs) (Sign signs.Comma) s.sentence comma_sign (defaults_are g fs);
}

-- a fault at the parenthesis after the last field
close_viable : {text : List ℕ} {from mid last : ℕ} {fs : List Field} {e : TextFault} → Opened text from mid fs → Spelled text mid last fs → IsNext text last e → Viable text (premise ∷ []) from e
close_viable {last = last} o s is = record {
  words = o.words ++ s.words;
  behind = last;
  stands = stands_then o.stands s.stands;
  next = is;
  others = token (Sign signs.Close) ∷ [];
  sentence = subst (ProofSentence (premise ∷ [])) (sym (append_assoc o.words s.words (token (Sign signs.Close) ∷ []))) (o.whole s.words (Sign signs.Close) close_sign s.sentence);
}

-- a fault in a field before others
first_viable : {text : List ℕ} {from : ℕ} {f g : Field} {fs : List Field} {e : TextFault} → Viable text (f ∷ []) from e → Viable text (f ∷ g ∷ fs) from e
first_viable {f = f} {g} {fs} v = record {
  words = v.words;
  behind = v.behind;
  stands = v.stands;
  next = v.next;
  others = v.others ++ token (Sign signs.Comma) ∷ defaults g fs;
  sentence = subst (ProofSentence (f ∷ g ∷ fs)) (append_assoc v.words v.others (token (Sign signs.Comma) ∷ defaults g fs)) (further f g fs (v.words ++ v.others) (defaults g fs) (Sign signs.Comma) v.sentence comma_sign (defaults_are g fs));
}

-- the parenthesis after the last field
closed_spelled : {text : List ℕ} {from mid last to : ℕ} {fs : List Field} → Opened text from mid fs → Spelled text mid last fs → HasSign text signs.Close last to → Spelled text from to (premise ∷ [])
closed_spelled o s c = record {
  words = o.words ++ (s.words ++ token c.found ∷ []);
  stands = stands_then o.stands (stands_then s.stands c.stands);
  sentence = o.whole s.words c.found c.is s.sentence;
}

-- fields with a comma between them
further_spelled : {text : List ℕ} {from mid second to : ℕ} {f g : Field} {fs : List Field} → Spelled text from mid (f ∷ []) → HasSign text signs.Comma mid second → Spelled text second to (g ∷ fs) → Spelled text from to (f ∷ g ∷ fs)
further_spelled {f = f} {g} {fs} s c t = record {
  words = s.words ++ token c.found ∷ t.words;
  stands = stands_then s.stands (stands_then c.stands t.stands);
  sentence = further f g fs s.words t.words c.found s.sentence c.is t.sentence;
}

-- a field and a comma after it
opened_further : {text : List ℕ} {from mid last to : ℕ} {f g : Field} {fs : List Field} → Opened text from mid (f ∷ g ∷ fs) → Spelled text mid last (f ∷ []) → HasSign text signs.Comma last to → Opened text from to (g ∷ fs)
opened_further {f = f} {g} {fs} o s c = record {
  words = o.words ++ (s.words ++ token c.found ∷ []);
  stands = stands_then o.stands (stands_then s.stands c.stands);
  whole = λ ws close is rest. subst (ProofSentence (premise ∷ []))
      (ap (λ us. o.words ++ us) (append_assoc s.words (token c.found ∷ ws) (token close ∷ []) ∙ sym (append_assoc s.words (token c.found ∷ []) (ws ++ token close ∷ [])))
      ∙ sym (append_assoc o.words (s.words ++ token c.found ∷ []) (ws ++ token close ∷ [])))
      (o.whole (s.words ++ token c.found ∷ ws) close is (further f g fs s.words ws c.found s.sentence c.is rest));
}

-- ---- readings, by what they give and what they stop at

-- what it gives is so, and what it stops at is so
record Reported {A : Type 0} (G : A → Type 0) (F : TextFault → Type 0) (r : Result A TextFault) : Type 0 where
  it : MatchResult r G F

told_then : {A B : Type 0} {G : A → Type 0} {H : B → Type 0} {F E : TextFault → Type 0} {r : Result A TextFault} (k : A → Result B TextFault) → Reported G F r → ((e : TextFault) → F e → E e) → ((x : A) → G x → Reported H E (k x)) → Reported H E (r >>= k)
told_then {r = Ok x} k told stops goes = goes x told.it
told_then {r = Err e} k told stops goes = record { it = stops e told.it }

told_ok : {A : Type 0} {G : A → Type 0} {F : TextFault → Type 0} {r : Result A TextFault} {x : A} → r ≡ Ok x → Reported G F r → G x
told_ok {A} {G} {F} h told = (subst (Reported G F) h told).it

told_err : {A : Type 0} {G : A → Type 0} {F : TextFault → Type 0} {r : Result A TextFault} {e : TextFault} → r ≡ Err e → Reported G F r → F e
told_err {A} {G} {F} h told = (subst (Reported G F) h told).it

told_if : {A : Type 0} {G : A → Type 0} {F : TextFault → Type 0} (b : Bool) (x : A) (e : TextFault) → (b ≡ true → G x) → F e → Reported G F (if b then Ok x else Err e)
told_if true x e good stops = record { it = good refl }
told_if false x e good stops = record { it = stops }

told_as : {A : Type 0} {G H : A → Type 0} {F E : TextFault → Type 0} {r : Result A TextFault} → Reported G F r → ((x : A) → G x → H x) → ((e : TextFault) → F e → E e) → Reported H E r
told_as {r = Ok x} told good stops = record { it = good x told.it }
told_as {r = Err e} told good stops = record { it = stops e told.it }

-- the fault is there
abbrev Next : List ℕ → ProofCursor → TextFault → Type 0
Next text here e = IsNext text here.from e

token_next : (text : List ℕ) (here : ProofCursor) → (token_at text here).at ≡ first_byte text here
unfolding token_from
token_next text here = refl

at_token : (text : List ℕ) (here : ProofCursor) (e : TextFault) → fault_place e ≡ Some (token_at text here).at → Next text here e
at_token text here e is = is ∙ ap Some (token_next text here)

one_token : (text : List ℕ) (here : ProofCursor) → AreWordsAt text here.from (token_at text here).end (token (token_at text here).token ∷ [])
one_token text here = token_there here (token_at text here).end [] (nothing (token_at text here).end)

sign_told : (text : List ℕ) (sign : Sign') (here : ProofCursor) → Reported (λ there. HasSign text sign here.from there.from) (Next text here) (cursor_after_sign text sign here)
unfolding cursor_after_sign
sign_told text sign here =
    told_if (is_sign sign (token_at text here).token) (cursor_after_token (token_at text here)) (Unexpected (token_at text here).at)
    (λ is. record { found = (token_at text here).token; is = is; stands = one_token text here })
    (at_token text here (Unexpected (token_at text here).at) refl)

token_told : (at : ℕ) (t : Token) (end left : ℕ) → Reported (λ u. IsTerm [] t) (λ e. fault_place e ≡ Some at) (term_of [] (record { at = at; token = t; end = end; left = left }))
unfolding term_of
token_told at (Name name) end left = record { it = principal name }
token_told at (Constant u) end left = record { it = constant u }
token_told at LongWord end left = record { it = refl }
token_told at (Variable name) end left = record { it = refl }
token_told at tokens.BadDate end left = record { it = refl }
token_told at (SortName s) end left = record { it = refl }
token_told at (Keyword word) end left = record { it = refl }
token_told at (Sign sign) end left = record { it = refl }
token_told at End end left = record { it = refl }
token_told at Bad end left = record { it = refl }

-- a term, and the place after it
term_told : (text : List ℕ) (here : ProofCursor) → Reported (λ x. Spelled text here.from x.1.from (term ∷ [])) (Next text here) (term_at text here)
unfolding term_at
term_told text here =
    let found = token_at text here in
    told_then (λ t. Ok (t, cursor_after_token found)) (token_told found.at found.token found.end found.left) (λ e is. at_token text here e is)
    (λ t is. record { it = record { words = token found.token ∷ []; stands = one_token text here; sentence = a_term found.token is } })

abbrev time_by : Cursor → Result (Term × ProofCursor) TextFault
time_by found = term_of [] found >>= (λ t. require_sort [] sorts.Time found.at t >>= (λ _. Ok (t, cursor_after_token found)))

-- the token is a time, and the place is the one after it
abbrev IsTimed : Token → ℕ → Term × ProofCursor → Type 0
IsTimed t end x = (x.1.from ≡ end) × ProofSentence (time ∷ []) (token t ∷ [])

timed_told : (at : ℕ) (t : Token) (end left : ℕ) → Reported (IsTimed t end) (λ e. fault_place e ≡ Some at) (time_by (record { at = at; token = t; end = end; left = left }))
unfolding term_of require_sort
timed_told at (Constant u) end left =
    told_then {G = λ _. is_of_wanted_sort [] sorts.Time u ≡ true} {F = λ e. fault_place e ≡ Some at} (λ _. Ok (u, cursor_at end left)) (told_if (is_of_wanted_sort [] sorts.Time u) tt (faults.Sort at) (λ h. h) refl) (λ e is. is)
    (λ _ fit. record { it = (refl, a_time u fit) })
timed_told at (Name name) end left = record { it = refl }
timed_told at LongWord end left = record { it = refl }
timed_told at (Variable name) end left = record { it = refl }
timed_told at tokens.BadDate end left = record { it = refl }
timed_told at (SortName s) end left = record { it = refl }
timed_told at (Keyword word) end left = record { it = refl }
timed_told at (Sign sign) end left = record { it = refl }
timed_told at End end left = record { it = refl }
timed_told at Bad end left = record { it = refl }

-- a time, and the place after it
time_told : (text : List ℕ) (here : ProofCursor) → Reported (λ x. Spelled text here.from x.1.from (time ∷ [])) (Next text here) (time_at text here)
unfolding time_at
time_told text here =
    let found = token_at text here in
    told_as (timed_told found.at found.token found.end found.left)
    (λ x is. record { words = token found.token ∷ []; stands = subst (λ to. AreWordsAt text here.from to (token found.token ∷ [])) (sym is.0) (one_token text here); sentence = is.1 })
    (λ e is. at_token text here e is)

-- ---- hypotheses and rules

by_number : (text : List ℕ) (here : ProofCursor) (r : Result (ℕ × ProofCursor) TextFault) → hypothesis_at text here ≡ r → Reported (λ x. Unit {0}) (Next text here) r → Reported (λ x. Spelled text here.from x.1.from (hypothesis ∷ [])) (Next text here) r
by_number text here (Ok (h, there)) is told = record { it = record { words = number h ∷ []; stands = number_there here there there.from h [] is (nothing there.from); sentence = a_hypothesis h } }
by_number text here (Err e) is told = record { it = told.it }

numbered_told : (at size left : ℕ) (o : Option ℕ) → Reported (λ x. Unit {0}) (λ e. fault_place e ≡ Some at) (hypothesis_reading at size left o)
numbered_told at size left None = record { it = refl }
numbered_told at size left (Some n) = record { it = tt }

number_stops : (text : List ℕ) (here : ProofCursor) → Reported (λ x. Unit {0}) (Next text here) (hypothesis_at text here)
unfolding hypothesis_at
number_stops text here =
    let digits = take_while (is_in classes.Digit) (drop (first_byte text here) text) in numbered_told (first_byte text here) (length digits) here.left (numeral_below (2 ^ 16) digits)

number_told : (text : List ℕ) (here : ProofCursor) → Reported (λ x. Spelled text here.from x.1.from (hypothesis ∷ [])) (Next text here) (hypothesis_at text here)
number_told text here = by_number text here (hypothesis_at text here) refl (number_stops text here)

-- the name of a rule stands there
record HasName (text : List ℕ) (from to : ℕ) (rule : RuleName) : Type 0 where
  stands : AreWordsAt text from to (rule_name rule ∷ [])

by_name : (text : List ℕ) (here : ProofCursor) (r : Result (RuleName × ProofCursor) TextFault) → rule_at text here ≡ r → Reported (λ x. Unit {0}) (Next text here) r → Reported (λ x. HasName text here.from x.1.from x.0) (Next text here) r
by_name text here (Ok (rule, there)) is told = record { it = record { stands = rule_there here there there.from rule [] is (nothing there.from) } }
by_name text here (Err e) is told = record { it = told.it }

named_told : (at size left : ℕ) (o : Option RuleName) → Reported (λ x. Unit {0}) (λ e. fault_place e ≡ Some at) (rule_reading at size left o)
named_told at size left None = record { it = refl }
named_told at size left (Some n) = record { it = tt }

name_stops_by : (b : Bool) (at : ℕ) (r : Result (RuleName × ProofCursor) TextFault) → Reported (λ x. Unit {0}) (λ e. fault_place e ≡ Some at) r → Reported (λ x. Unit {0}) (λ e. fault_place e ≡ Some at) (if b then r else Err (Unexpected at))
name_stops_by true at r told = told
name_stops_by false at r told = record { it = refl }

name_stops : (text : List ℕ) (here : ProofCursor) → Reported (λ x. Unit {0}) (Next text here) (rule_at text here)
unfolding rule_at
name_stops text here =
    let bytes = drop (first_byte text here) text in
    let word = take_while (is_in classes.Word) bytes in name_stops_by (is_word_start bytes) (first_byte text here) (rule_reading (first_byte text here) (length word) here.left (rule_named word)) (named_told (first_byte text here) (length word) here.left (rule_named word))

name_told : (text : List ℕ) (here : ProofCursor) → Reported (λ x. HasName text here.from x.1.from x.0) (Next text here) (rule_at text here)
name_told text here = by_name text here (rule_at text here) refl (name_stops text here)

room_told : (text : List ℕ) (levels : ℕ) (here : ProofCursor) → Reported (λ x. Unit {0}) (Next text here) (room text levels here)
unfolding room
room_told text levels here = told_if (nat_le 1 here.left && nat_le 1 levels) tt (TooLarge (first_byte text here)) (λ h. tt) refl

-- ---- heads

-- what stands where a rule was read with its fields before the premises
abbrev Headed : List ℕ → ℕ → Rule × ProofCursor → Type 0
Headed text from (rules.Axiom r, there) = Spelled text from there.from (premise ∷ [])
Headed text from (rules.One r, there) = Opened text from there.from (premise ∷ [])
Headed text from (rules.Two r, there) = Opened text from there.from (premise ∷ premise ∷ [])

abbrev Stopped : List ℕ → ℕ → TextFault → Type 0
Stopped text from e = Viable text (premise ∷ []) from e

-- a rule's name and its parenthesis
name_opened : {text : List ℕ} {from mid to : ℕ} {rule : RuleName} → HasName text from mid rule → HasSign text signs.Open mid to → Opened text from to (fields rule)
name_opened {rule = rule} n o = record {
  words = rule_name rule ∷ token o.found ∷ [];
  stands = stands_then n.stands o.stands;
  whole = λ ws close is s. with_fields rule ws o.found close o.is s is;
}

-- no parenthesis after the name of a rule that has fields
name_viable : {text : List ℕ} {from mid : ℕ} {e : TextFault} (rule : RuleName) (f : Field) (fs : List Field) → fields rule ≡ f ∷ fs → HasName text from mid rule → IsNext text mid e → Viable text (premise ∷ []) from e
name_viable {mid = mid} rule f fs same n is = record {
  words = rule_name rule ∷ [];
  behind = mid;
  stands = n.stands;
  next = is;
  others = token (Sign signs.Open) ∷ (defaults f fs ++ token (Sign signs.Close) ∷ []);
  sentence = with_fields rule (defaults f fs) (Sign signs.Open) (Sign signs.Close) open_sign (subst (λ gs. ProofSentence gs (defaults f fs)) (sym same) (defaults_are f fs)) close_sign;
}

module _ (text : List ℕ) (from : ℕ) where
  abbrev Tells : Result (Rule × ProofCursor) TextFault → Type 0
  Tells r = Reported (Headed text from) (Stopped text from) r

  -- the parenthesis after a rule's name
  open_told : {B : Type 0} {H : B → Type 0} (rule : RuleName) (f : Field) (fs : List Field) (here : ProofCursor) (k : ProofCursor → Result B TextFault) → fields rule ≡ f ∷ fs → HasName text from here.from rule
      → ((there : ProofCursor) → Opened text from there.from (f ∷ fs) → Reported H (Stopped text from) (k there)) → Reported H (Stopped text from) (cursor_after_sign text signs.Open here >>= k)
  open_told rule f fs here k same n goes =
      told_then k (sign_told text signs.Open here) (λ e is. name_viable {e = e} rule f fs same n is)
      (λ there o. goes there (subst (Opened text from there.from) same (name_opened n o)))

  -- the comma after a field
  comma_told : {B : Type 0} {H : B → Type 0} {mid : ℕ} (f g : Field) (fs : List Field) (here : ProofCursor) (k : ProofCursor → Result B TextFault) → Opened text from mid (f ∷ g ∷ fs) → Spelled text mid here.from (f ∷ [])
      → ((there : ProofCursor) → Opened text from there.from (g ∷ fs) → Reported H (Stopped text from) (k there)) → Reported H (Stopped text from) (cursor_after_sign text signs.Comma here >>= k)
  comma_told f g fs here k o s goes =
      told_then k (sign_told text signs.Comma here) (λ e is. opened_viable {e = e} o (comma_viable {e = e} g fs s is)) (λ there c. goes there (opened_further o s c))

  -- the parenthesis after the last field
  close_told : {B : Type 0} {H : B → Type 0} {mid : ℕ} (fs : List Field) (here : ProofCursor) (k : ProofCursor → Result B TextFault) → Opened text from mid fs → Spelled text mid here.from fs
      → ((there : ProofCursor) → Spelled text from there.from (premise ∷ []) → Reported H (Stopped text from) (k there)) → Reported H (Stopped text from) (cursor_after_sign text signs.Close here >>= k)
  close_told fs here k o s goes =
      told_then k (sign_told text signs.Close here) (λ e is. close_viable {e = e} o s is) (λ there c. goes there (closed_spelled o s c))

  -- a field that is a term
  field_told : {A B : Type 0} {H : B → Type 0} {f : Field} (fs : List Field) (here : ProofCursor) (place : A → ProofCursor) (r : Result A TextFault) (k : A → Result B TextFault) → Opened text from here.from (f ∷ fs)
      → Reported (λ x. Spelled text here.from (place x).from (f ∷ [])) (Next text here) r
      → ((x : A) → Spelled text here.from (place x).from (f ∷ []) → Reported H (Stopped text from) (k x)) → Reported H (Stopped text from) (r >>= k)
  field_told {f = f} fs here place r k o told goes = told_then k told (λ e is. opened_viable {e = e} o (viable_here {e = e} f fs is)) goes

  premise_told : (rule : Rule) (f g : Field) (fs : List Field) {mid : ℕ} (here : ProofCursor) → Opened text from mid (f ∷ g ∷ fs) → Spelled text mid here.from (f ∷ []) → ((there : ProofCursor) → Opened text from there.from (g ∷ fs) → Headed text from (rule, there))
      → Tells (premise_head text rule here)
  unfolding premise_head
  premise_told rule f g fs here o s is = comma_told f g fs here (λ there. Ok (rule, there)) o s (λ there p. record { it = is there p })

  opened_told : (name : RuleName) (rule : Rule) (f : Field) (fs : List Field) (here : ProofCursor) → fields name ≡ f ∷ fs → HasName text from here.from name → ((there : ProofCursor) → Opened text from there.from (f ∷ fs) → Headed text from (rule, there))
      → Tells (start_head text rule here)
  unfolding start_head
  opened_told name rule f fs here same n is = open_told name f fs here (λ there. Ok (rule, there)) same n (λ there p. record { it = is there p })

  axiom_told : (r : Axiom) (fs : List Field) {mid : ℕ} (here : ProofCursor) → Opened text from mid fs → Spelled text mid here.from fs → Tells (finish_head text (rules.Axiom r) here)
  unfolding finish_head
  axiom_told r fs here o s = close_told fs here (λ there. Ok (rules.Axiom r, there)) o s (λ there whole. record { it = whole })

  bare_told : (name : RuleName) (to : ℕ) → fields name ≡ [] → HasName text from to name → Spelled text from to (premise ∷ [])
  bare_told name to same n = record { words = rule_name name ∷ []; stands = n.stands; sentence = bare name same }

  with_term_told : (here : ProofCursor) → HasName text from here.from (Plain ExistsR) → Tells (with_term text here)
  unfolding with_term
  with_term_told here n =
      open_told (Plain ExistsR) term (premise ∷ []) here (λ place. term_at text place >>= (λ t. premise_head text (rules.One (one.ExistsR t.0)) t.1)) refl n
      (λ place o. field_told (premise ∷ []) place (λ x. x.1) (term_at text place) (λ t. premise_head text (rules.One (one.ExistsR t.0)) t.1) o (term_told text place)
      (λ t s. premise_told (rules.One (one.ExistsR t.0)) term premise [] t.1 o s (λ there p. p)))

  plain_told : (rule : PlainRule) (here : ProofCursor) → HasName text from here.from (Plain rule) → Tells (plain_head text rule here)
  unfolding plain_head
  plain_told ConsR here n = record { it = bare_told (Plain ConsR) here.from refl n }
  plain_told InterR here n = record { it = bare_told (Plain InterR) here.from refl n }
  plain_told TrueR here n = record { it = bare_told (Plain TrueR) here.from refl n }
  plain_told AndR here n = opened_told (Plain AndR) (rules.Two two.AndR) premise (premise ∷ []) here refl n (λ there o. o)
  plain_told OrR1 here n = opened_told (Plain OrR1) (rules.One one.OrR1) premise [] here refl n (λ there o. o)
  plain_told OrR2 here n = opened_told (Plain OrR2) (rules.One one.OrR2) premise [] here refl n (λ there o. o)
  plain_told ImpR here n = opened_told (Plain ImpR) (rules.One one.ImpR) premise [] here refl n (λ there o. o)
  plain_told ForallR here n = opened_told (Plain ForallR) (rules.One one.ForallR) premise [] here refl n (λ there o. o)
  plain_told ExistsR here n = with_term_told here n
  plain_told SaysR here n = opened_told (Plain SaysR) (rules.One one.SaysR) premise [] here refl n (λ there o. o)
  plain_told AtR here n = opened_told (Plain AtR) (rules.One one.AtR) premise [] here refl n (λ there o. o)

  with_instance_told : (h : ℕ) {mid : ℕ} (here : ProofCursor) → Opened text from mid (hypothesis ∷ term ∷ premise ∷ []) → Spelled text mid here.from (hypothesis ∷ []) → Tells (with_instance text h here)
  unfolding with_instance
  with_instance_told h here o s =
      comma_told hypothesis term (premise ∷ []) here (λ place. term_at text place >>= (λ t. premise_head text (rules.One (one.ForallL h t.0)) t.1)) o s
      (λ place p. field_told (premise ∷ []) place (λ x. x.1) (term_at text place) (λ t. premise_head text (rules.One (one.ForallL h t.0)) t.1) p (term_told text place)
      (λ t s. premise_told (rules.One (one.ForallL h t.0)) term premise [] t.1 p s (λ there q. q)))

  with_interval_told : (h : ℕ) {mid : ℕ} (here : ProofCursor) → Opened text from mid (hypothesis ∷ time ∷ time ∷ premise ∷ premise ∷ []) → Spelled text mid here.from (hypothesis ∷ []) → Tells (with_interval text h here)
  unfolding with_interval
  with_interval_told h here o s =
      comma_told hypothesis time (time ∷ premise ∷ premise ∷ []) here _ o s
      (λ first p. field_told (time ∷ premise ∷ premise ∷ []) first (λ x. x.1) (time_at text first) _ p (time_told text first)
      (λ low s1. comma_told time time (premise ∷ premise ∷ []) low.1 _ p s1
      (λ second q. field_told (premise ∷ premise ∷ []) second (λ x. x.1) (time_at text second) _ q (time_told text second)
      (λ high s2. premise_told (rules.Two (two.ImpL h low.0 high.0)) time premise (premise ∷ []) high.1 q s2 (λ there o. o)))))

  citing_told : (rule : CitingRule) (h : ℕ) {mid : ℕ} (here : ProofCursor) → Opened text from mid (fields (Citing rule)) → Spelled text mid here.from (hypothesis ∷ []) → Tells (citing_head text rule h here)
  unfolding citing_head
  citing_told Init h here o s = axiom_told (axioms.Init h) (hypothesis ∷ []) here o s
  citing_told FalseL h here o s = axiom_told (axioms.FalseL h) (hypothesis ∷ []) here o s
  citing_told ConsL h here o s = premise_told (rules.One (one.ConsL h)) hypothesis premise [] here o s (λ there p. p)
  citing_told InterL h here o s = premise_told (rules.One (one.InterL h)) hypothesis premise [] here o s (λ there p. p)
  citing_told AndL h here o s = premise_told (rules.One (one.AndL h)) hypothesis premise [] here o s (λ there p. p)
  citing_told OrL h here o s = premise_told (rules.Two (two.OrL h)) hypothesis premise (premise ∷ []) here o s (λ there p. p)
  citing_told ImpL h here o s = with_interval_told h here o s
  citing_told ForallL h here o s = with_instance_told h here o s
  citing_told ExistsL h here o s = premise_told (rules.One (one.ExistsL h)) hypothesis premise [] here o s (λ there p. p)
  citing_told SaysL h here o s = premise_told (rules.One (one.SaysL h)) hypothesis premise [] here o s (λ there p. p)
  citing_told Claim h here o s = premise_told (rules.One (one.Claim h)) hypothesis premise [] here o s (λ there p. p)
  citing_told AtL h here o s = premise_told (rules.One (one.AtL h)) hypothesis premise [] here o s (λ there p. p)

  -- a rule that names a hypothesis first
  hypothesis_told : (rule : CitingRule) (fs : List Field) (here : ProofCursor) → fields (Citing rule) ≡ hypothesis ∷ fs → HasName text from here.from (Citing rule) → Tells (with_hypothesis text rule here)
  unfolding with_hypothesis
  hypothesis_told rule fs here same n =
      open_told (Citing rule) hypothesis fs here _ same n
      (λ place o. field_told fs place (λ x. x.1) (hypothesis_at text place) _ o (number_told text place)
      (λ h s. citing_told rule h.0 h.1 (subst (Opened text from place.from) (sym same) o) s))

  with_hypothesis_told : (rule : CitingRule) (here : ProofCursor) → HasName text from here.from (Citing rule) → Tells (with_hypothesis text rule here)
  with_hypothesis_told Init here n = hypothesis_told Init [] here refl n
  with_hypothesis_told FalseL here n = hypothesis_told FalseL [] here refl n
  with_hypothesis_told ConsL here n = hypothesis_told ConsL (premise ∷ []) here refl n
  with_hypothesis_told InterL here n = hypothesis_told InterL (premise ∷ []) here refl n
  with_hypothesis_told AndL here n = hypothesis_told AndL (premise ∷ []) here refl n
  with_hypothesis_told OrL here n = hypothesis_told OrL (premise ∷ premise ∷ []) here refl n
  with_hypothesis_told ImpL here n = hypothesis_told ImpL (time ∷ time ∷ premise ∷ premise ∷ []) here refl n
  with_hypothesis_told ForallL here n = hypothesis_told ForallL (term ∷ premise ∷ []) here refl n
  with_hypothesis_told ExistsL here n = hypothesis_told ExistsL (premise ∷ []) here refl n
  with_hypothesis_told SaysL here n = hypothesis_told SaysL (premise ∷ []) here refl n
  with_hypothesis_told Claim here n = hypothesis_told Claim (premise ∷ []) here refl n
  with_hypothesis_told AtL here n = hypothesis_told AtL (premise ∷ []) here refl n

  rule_told : (name : RuleName) (here : ProofCursor) → HasName text from here.from name → Tells (named_head text name here)
  unfolding named_head
  rule_told (Plain rule) here n = plain_told rule here n
  rule_told (Citing rule) here n = with_hypothesis_told rule here n

head_told : (text : List ℕ) (levels : ℕ) (here : ProofCursor) → Reported (Headed text here.from) (Stopped text here.from) (head text levels here)
unfolding head
head_told text levels here =
    told_then (λ name. room text levels here >>= (λ _. named_head text name.0 (take_rule name.1))) (name_told text here) (λ e is. viable_here {e = e} premise [] is)
    (λ name n. told_then (λ _. named_head text name.0 (take_rule name.1)) (room_told text levels here) (λ e is. viable_here {e = e} premise [] is)
    (λ _ _. rule_told text here.from name.0 (take_rule name.1) n))

-- ---- proofs

sign_there : (text : List ℕ) (sign : Sign') (here there : ProofCursor) → cursor_after_sign text sign here ≡ Ok there → HasSign text sign here.from there.from
sign_there text sign here there h = told_ok h (sign_told text sign here)

sign_fault : (text : List ℕ) (sign : Sign') (here : ProofCursor) (e : TextFault) → cursor_after_sign text sign here ≡ Err e → Next text here e
sign_fault text sign here e h = told_err h (sign_told text sign here)

headed : (text : List ℕ) (levels : ℕ) (here : ProofCursor) (x : Rule × ProofCursor) → head text levels here ≡ Ok x → Headed text here.from x
headed text levels here x h = told_ok h (head_told text levels here)

-- the words of a proof's text are a sentence
spelled : {text : List ℕ} {levels : ℕ} {here there : ProofCursor} {d : ProofView} → IsProof text levels here there d → Spelled text here.from there.from (premise ∷ [])
spelled {text} (no_premise levels here there r d h is) = headed text levels here (rules.Axiom r, there) h
spelled {text} (one_premise levels here first mid there r p d h i close is) =
    closed_spelled (headed text levels here (rules.One r, first) h) (spelled i) (sign_there text signs.Close mid there close)
spelled {text} (two_premises levels here first mid second last there r p q d h i comma j close is) =
    closed_spelled (headed text levels here (rules.Two r, first) h) (further_spelled (spelled i) (sign_there text signs.Comma mid second comma) (spelled j)) (sign_there text signs.Close last there close)

-- memory was refused, or the fault stands after words that can be completed
abbrev OrMemory : TextFault → Type 0 → Type 0
OrMemory e V = (e ≡ NoMemory) ⊎ V

or_told : {e : TextFault} {V W : Type 0} → (V → W) → OrMemory e V → OrMemory e W
or_told f (inl h) = inl h
or_told f (inr v) = inr (f v)

viable : {text : List ℕ} {levels : ℕ} {here : ProofCursor} {e : TextFault} → ProofHasFirstFault text levels here e → OrMemory e (Viable text (premise ∷ []) here.from e)
viable (no_memory levels here) = inl refl
viable {text} (in_head levels here e h) = inr (told_err h (head_told text levels here))
viable {text} (in_premise levels here first r e h s) = or_told (λ v. opened_viable {e = e} (headed text levels here (rules.One r, first) h) v) (viable s)
viable {text} (behind_premise levels here first mid r p e h i close) =
    inr (close_viable {e = e} (headed text levels here (rules.One r, first) h) (spelled i) (sign_fault text signs.Close mid e close))
viable {text} (in_first levels here first r e h s) =
    or_told (λ v. opened_viable {e = e} (headed text levels here (rules.Two r, first) h) (first_viable {e = e} v)) (viable s)
viable {text} (behind_first levels here first mid r p e h i comma) =
    inr (opened_viable {e = e} (headed text levels here (rules.Two r, first) h) (comma_viable {e = e} premise [] (spelled i) (sign_fault text signs.Comma mid e comma)))
viable {text} (in_second levels here first mid second r p e h i comma s) =
    or_told (λ v. opened_viable {e = e} (opened_further (headed text levels here (rules.Two r, first) h) (spelled i) (sign_there text signs.Comma mid second comma)) v) (viable s)
viable {text} (behind_second levels here first mid second last r p q e h i comma j close) =
    inr (close_viable {e = e} (headed text levels here (rules.Two r, first) h) (further_spelled (spelled i) (sign_there text signs.Comma mid second comma) (spelled j)) (sign_fault text signs.Close last e close))

-- ---- whole texts

end_told : (b : Bool) (at : ℕ) (e : TextFault) → ◌≡◌ {A = Result (Unit {0}) TextFault} (if b then Ok tt else Err (Unexpected at)) (Err e) → fault_place e ≡ Some at
end_told true at e h = absurd (let never : ◌≡◌ {A = Result (Unit {0}) TextFault} (Ok tt) (Err e) = h in cc)
end_told false at e h = ap fault_place (let same : ◌≡◌ {A = Result (Unit {0}) TextFault} (Err (Unexpected at)) (Err e) = h in let is : e ≡ Unexpected at = cc in is)

end_fault : (text : List ℕ) (here : ProofCursor) (e : TextFault) → at_end text here ≡ Err e → Next text here e
unfolding at_end
end_fault text here e h = at_token text here e (end_told (is_end (token_at text here).token) (token_at text here).at e h)

viable_text : {text : List ℕ} {e : TextFault} → Viable text (premise ∷ []) 0 e → IsAfterViablePrefix text e
viable_text v = record { words = v.words; behind = v.behind; stands = v.stands; next = v.next; others = v.others; sentence = v.sentence }

pub viable_fault : {text : List ℕ} {e : TextFault} → ProofTextFault text e → OrMemory e (IsAfterViablePrefix text e)
viable_fault {text} (in_proof e s) = or_told (λ v. viable_text {e = e} v) (viable s)
viable_fault {text} (behind_proof there d e i more) =
    let read = spelled i in
    inr (record { words = read.words; behind = there.from; stands = read.stands; next = end_fault text there e more; others = []; sentence = subst (ProofSentence (premise ∷ [])) (sym (append-nil read.words)) read.sentence })

ok_end : (b : Bool) (at : ℕ) → ◌≡◌ {A = Result (Unit {0}) TextFault} (if b then Ok tt else Err (Unexpected at)) (Ok tt) → b ≡ true
ok_end true at h = refl
ok_end false at h = absurd (let never : ◌≡◌ {A = Result (Unit {0}) TextFault} (Err (Unexpected at)) (Ok tt) = h in cc)

end_there : (text : List ℕ) (here : ProofCursor) → at_end text here ≡ Ok tt → is_end (token_at text (cursor_at here.from 0)).token ≡ true
unfolding at_end token_from
end_there text here h = ok_end (is_end (token_at text here).token) (token_at text here).at h

pub proof_sentence : {text : List ℕ} {d : ProofView} → IsProofText text d → IsProofSentenceText text
proof_sentence {text} (whole_proof there i end) =
    let read = spelled i in
    record { words = read.words; behind = there.from; stands = read.stands; sentence = read.sentence; end = end_there text there end }
