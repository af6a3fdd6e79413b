-- The tokens after a token, and two texts that have so many of them in common.
use Rattle.std.proofs.Common.{◌≡◌, ℕ, zero, suc, ◌+◌, ◌-◌, ◌≤◌, false, List, refl, sym, ap, ◌∙◌, subst, arith}
use Rattle.bl_tokens.specs.declared.faults.TextFault.{TextFault}
use Rattle.bl_tokens.specs.declared.faults.TextFault.TheVariants.{Sort, TooLarge}
use Rattle.bl_tokens.specs.declared.tokens.Sign.{Sign as Sign'}
use Rattle.bl_tokens.specs.declared.tokens.Sign.TheVariants as signs
use Rattle.bl_tokens.specs.declared.tokens.Cursor.{Cursor}
use Rattle.bl_tokens.specs.Tokens.{token_from, is_sign}
use Rattle.bl_text.specs.FirstTokens.{behind_tokens, SameTokens}
use Rattle.bl_text.specs.Met.{IsMisread, ends_term, IsCallOf, IsMetAt, misread, at_term, before_sign, at_close, without_arguments, at_limit}

-- ---- a place without the count of nodes

abbrev pub with_left : ℕ → Cursor → Cursor
with_left left here = record { at = here.at; token = here.token; end = here.end; left = left }

abbrev pub bare : Cursor → Cursor
bare here = with_left 0 here

relabel : (text : List ℕ) (from left : ℕ) → token_from text from left ≡ with_left left (token_from text from 0)
unfolding token_from
relabel text from left = refl

pub bare_token : (text : List ℕ) (from left : ℕ) → bare (token_from text from left) ≡ token_from text from 0
unfolding token_from
bare_token text from left = refl

pub one_token : (text other : List ℕ) (from left : ℕ) → token_from text from 0 ≡ token_from other from 0 → token_from other from left ≡ token_from text from left
one_token text other from left same = relabel other from left ∙ ap (with_left left) (sym same) ∙ sym (relabel text from left)

-- the token so many tokens after one
abbrev pub walk : List ℕ → ℕ → Cursor → Cursor
walk text zero here = here
walk text (suc n) here = walk text n (token_from text here.end 0)

abbrev pub tokens_from : List ℕ → Cursor → ℕ → Cursor
tokens_from text here n = bare (walk text n here)

pub walk_plus : (text : List ℕ) (j k : ℕ) (here : Cursor) → walk text (j + k) here ≡ walk text k (walk text j here)
walk_plus text zero k here = let same : 0 + k ≡ k = omega arith in ap (λ n. walk text n here) same
walk_plus text (suc j) k here = let same : suc j + k ≡ suc (j + k) = omega arith in ap (λ n. walk text n here) same ∙ walk_plus text j k (token_from text here.end 0)

pub walk_end : (text : List ℕ) (n : ℕ) (here : Cursor) → (walk text n here).end ≡ behind_tokens text n here.end
walk_end text zero here = refl
walk_end text (suc n) here = walk_end text n (token_from text here.end 0)

pub bare_walk : (text : List ℕ) (n : ℕ) (here here' : Cursor) → bare here ≡ bare here' → bare (walk text n here) ≡ bare (walk text n here')
bare_walk text zero here here' same = same
bare_walk text (suc n) here here' same = ap (λ (h : Cursor). bare (walk text n (token_from text h.end 0))) same

bare_next : (text : List ℕ) (here here' : Cursor) (left : ℕ) → bare here ≡ bare here' → bare (token_from text here.end left) ≡ token_from text here'.end 0
bare_next text here here' left same = bare_token text here.end left ∙ ap (λ (h : Cursor). token_from text h.end 0) same

pub walk_number : (text : List ℕ) (n from left : ℕ) → bare (walk text n (token_from text from left)) ≡ token_from text (behind_tokens text n from) 0
walk_number text zero from left = bare_token text from left
walk_number text (suc n) from left =
    walk_number text n (token_from text from left).end 0 ∙ ap (λ (h : Cursor). token_from text (behind_tokens text n h.end) 0) (bare_token text from left)

-- the token after the one that is so many tokens after
pub walk_next : (text : List ℕ) (n : ℕ) (here mid : Cursor) (left : ℕ) → bare (walk text n here) ≡ bare mid → bare (walk text (n + 1) here) ≡ bare (token_from text mid.end left)
walk_next text n here mid left same =
    ap bare (walk_plus text n 1 here) ∙ ap (λ (h : Cursor). bare (token_from text h.end 0)) same ∙ bare_token text mid.end 0 ∙ sym (bare_token text mid.end left)

-- ---- the same tokens

pub same_first : (text other : List ℕ) (n from : ℕ) → 1 ≤ n → SameTokens text other n from → token_from text from 0 ≡ token_from other from 0
same_first text other zero from few same = absurd (omega arith)
same_first text other (suc n) from few same = same.0

pub same_parts : (text other : List ℕ) (j k from : ℕ) → SameTokens text other (j + k) from → SameTokens text other j from × SameTokens text other k (behind_tokens text j from)
same_parts text other zero k from same = let n : 0 + k ≡ k = omega arith in (tt, subst (λ m. SameTokens text other m from) n same)
same_parts text other (suc j) k from same =
    let n : suc j + k ≡ suc (j + k) = omega arith in
    let first : SameTokens text other (suc (j + k)) from = subst (λ m. SameTokens text other m from) n same in
    let parts = same_parts text other j k (token_from text from 0).end first.1 in ((first.0, parts.0), parts.1)

-- ---- from one place to another

end_of : (text : List ℕ) (n : ℕ) (here mid : Cursor) → bare (walk text n here) ≡ bare mid → behind_tokens text n here.end ≡ mid.end
end_of text n here mid reach = sym (walk_end text n here) ∙ ap (λ (h : Cursor). h.end) reach

pub behind_parts : (text other : List ℕ) (j k : ℕ) (here mid : Cursor) → bare (walk text j here) ≡ bare mid → SameTokens text other (j + k) here.end → SameTokens text other j here.end × SameTokens text other k mid.end
behind_parts text other j k here mid reach same =
    let parts = same_parts text other j k here.end same in (parts.0, subst (λ m. SameTokens text other k m) (end_of text j here mid reach) parts.1)

pub walk_from : (text : List ℕ) (j k : ℕ) (here mid : Cursor) → bare (walk text j here) ≡ bare mid → bare (walk text (j + k) here) ≡ bare (walk text k mid)
walk_from text j k here mid reach = ap bare (walk_plus text j k here) ∙ bare_walk text k (walk text j here) mid reach

-- ---- where a fault is met, counted from an earlier token on

call_shifted : (f g : ℕ → Cursor) (j first last : ℕ) → ((k : ℕ) → f (j + k) ≡ g k) → IsCallOf g first last → IsCallOf f (j + first) (j + last)
call_shifted f g j first last same c = record {
  name = c.name;
  named = ap (λ (h : Cursor). h.token) (same first) ∙ c.named;
  opened = (let n : j + first + 1 ≡ j + (first + 1) = omega arith in ap (λ m. is_sign signs.Open (f m).token) n ∙ ap (λ (h : Cursor). is_sign signs.Open h.token) (same (first + 1)) ∙ c.opened);
  inside = λ n more less. (let m : n ≡ j + (n - j) = omega arith in
      ap (λ k. is_sign signs.Close (f k).token) m ∙ ap (λ (h : Cursor). is_sign signs.Close h.token) (same (n - j)) ∙ c.inside (n - j) (omega arith) (omega arith));
  closed = ap (λ (h : Cursor). is_sign signs.Close h.token) (same last) ∙ c.closed;
  ordered = (let less = c.ordered in omega arith);
}

next_shifted : (f g : ℕ → Cursor) (j n : ℕ) (sign : Sign') → ((k : ℕ) → f (j + k) ≡ g k) → is_sign sign (g (n + 1)).token ≡ false → is_sign sign (f (j + n + 1)).token ≡ false
next_shifted f g j n sign same h = let m : j + n + 1 ≡ j + (n + 1) = omega arith in ap (λ k. is_sign sign (f k).token) m ∙ ap (λ (h : Cursor). is_sign sign h.token) (same (n + 1)) ∙ h

pub met_shifted : (f g : ℕ → Cursor) (j : ℕ) {n ahead : ℕ} {e : TextFault} → ((k : ℕ) → f (j + k) ≡ g k) → IsMetAt g n ahead e → IsMetAt f (j + n) ahead e
met_shifted f g j {n} same (misread e at) = misread e (subst (λ (h : Cursor). IsMisread h.at e) (sym (same n)) at)
met_shifted f g j {n} same at_term = subst (λ (h : Cursor). IsMetAt f (j + n) 0 (Sort h.at)) (same n) at_term
met_shifted f g j {n} same (before_sign first is ends) =
    let m : j + n ≡ j + first + 1 = omega (arith, is) in
    subst (λ (h : Cursor). IsMetAt f (j + n) 0 (Sort h.at)) (same first) (before_sign (j + first) m (ap (λ (h : Cursor). ends_term h.token) (same n) ∙ ends))
met_shifted f g j {n} same (at_close first c) =
    subst (λ (h : Cursor). IsMetAt f (j + n) 0 (Sort h.at)) (same first) (at_close (j + first) (call_shifted f g j first n same c))
met_shifted f g j {n} same (without_arguments name named closed other) =
    subst (λ (h : Cursor). IsMetAt f (j + n) 1 (Sort h.at)) (same n)
    (without_arguments name (ap (λ (h : Cursor). h.token) (same n) ∙ named) (next_shifted f g j n signs.Open same closed) (next_shifted f g j n signs.UpTo same other))
met_shifted f g j {n} same at_limit = subst (λ (h : Cursor). IsMetAt f (j + n) 1 (TooLarge h.at)) (same n) at_limit
