-- Texts that stand one after the other: those that are read are those that are there.
use Rattle.std.proofs.Common.{◌≡◌, ℕ, zero, suc, List, [], ◌∷◌, ◌++◌, length, Option, Some, None, refl, sym, ap, subst, ◌∙◌, arith}
use Rattle.std.specs.Prelude.{option_map}
use Rattle.nine_messages.specs.Fields.{◌>>=◌, Reading, after, text, text_at, many_at, listed, listed_at, number_at, with_first, texts_in, ended, filled}
use Rattle.nine_messages.specs.Requests.{RequestView, twalk}
use Rattle.std.specs.Int.{w16, to_le_bytes}
use Rattle.std.specs.List.{flat_map}
use Rattle.std.proofs.lemmas.List.{append-nil}
use Rattle.nine_messages.specs.Codec.{AreBytes}
use Rattle.nine_messages.proofs.ReadingLemmas.{bind_some, some_is, some_parts, ended_made, AreBytes-after}
use Rattle.nine_messages.proofs.FieldLemmas.{many_found}
use Rattle.nine_messages.proofs.RequestLemmas.{IsShort, text_field, u16_field}
use Rattle.nine_messages.specs.Names.{AreNames}

pub texts_read : (count : ℕ) (bytes : List ℕ) (texts : List (List ℕ)) (rest : List ℕ) → many_at text_at count bytes ≡ Some (texts, rest) → texts_in count bytes ≡ texts
unfolding many_at texts_in
texts_read zero bytes texts rest e = (some_parts [] texts bytes rest e).0
texts_read (suc count) bytes texts rest e =
    let a = bind_some (text_at bytes) (λ first. many_at text_at count first.1 >>= λ others. Some (first.0 ∷ others.0, others.1)) (texts, rest) e in
    let b = bind_some (many_at text_at count a.0.1) (λ others. Some (a.0.0 ∷ others.0, others.1)) (texts, rest) a.2 in
    let whole = some_parts (a.0.0 ∷ b.0.0) texts b.0.1 rest b.2 in
    ap (λ (read : Reading (List ℕ)). with_first read (λ more. texts_in count more)) a.1 ∙ ap (λ (others : List (List ℕ)). a.0.0 ∷ others) (texts_read count a.0.1 b.0.0 b.0.1 b.1) ∙ whole.0

pub length-texts : {A : Type 0} (one_at : List ℕ → Reading A) (count : ℕ) (bytes : List ℕ) (items : List A) (rest : List ℕ) → many_at one_at count bytes ≡ Some (items, rest) → length items ≡ count
unfolding many_at
length-texts one_at zero bytes items rest e = ap length (sym (some_parts [] items bytes rest e).0)
length-texts one_at (suc count) bytes items rest e =
    let a = bind_some (one_at bytes) (λ first. many_at one_at count first.1 >>= λ others. Some (first.0 ∷ others.0, others.1)) (items, rest) e in
    let b = bind_some (many_at one_at count a.0.1) (λ others. Some (a.0.0 ∷ others.0, others.1)) (items, rest) a.2 in
    let whole = some_parts (a.0.0 ∷ b.0.0) items b.0.1 rest b.2 in
    ap length (sym whole.0) ∙ ap suc (length-texts one_at count a.0.1 b.0.0 b.0.1 b.1)

suc_read : (less : ℕ) (bytes first rest : List ℕ) → text_at bytes ≡ Some (first, rest) → many_at text_at (suc less) bytes ≡ Some (texts_in (suc less) bytes, [])
    → (many_at text_at less rest ≡ Some (texts_in less rest, [])) × (texts_in (suc less) bytes ≡ first ∷ texts_in less rest)
unfolding many_at texts_in
suc_read less bytes first rest one e =
    let second : (many_at text_at less rest >>= λ others. Some (first ∷ others.0, others.1)) ≡ Some (with_first (text_at bytes) (λ more. texts_in less more), []) =
    sym (ap (λ (read : Reading (List ℕ)). read >>= λ x. many_at text_at less x.1 >>= λ others. Some (x.0 ∷ others.0, others.1)) one) ∙ e in
    let b = bind_some (many_at text_at less rest) (λ others. Some (first ∷ others.0, others.1)) (with_first (text_at bytes) (λ more. texts_in less more), []) second in
    let whole = some_parts (first ∷ b.0.0) (with_first (text_at bytes) (λ more. texts_in less more)) b.0.1 [] b.2 in
    let texts = texts_read less rest b.0.0 b.0.1 b.1 in (
      b.1 ∙ ap (λ (end : List ℕ). Some (b.0.0, end)) whole.1 ∙ ap (λ (t : List (List ℕ)). Some (t, [])) (sym texts),
      ap (λ (read : Reading (List ℕ)). with_first read (λ more. texts_in less more)) one,
    )

-- texts that fill the bytes, without the first
pub others_read : (count less : ℕ) (bytes first rest : List ℕ) → count ≡ suc less → many_at text_at count bytes ≡ Some (texts_in count bytes, []) → text_at bytes ≡ Some (first, rest)
    → (many_at text_at less rest ≡ Some (texts_in less rest, [])) × (texts_in count bytes ≡ first ∷ texts_in less rest)
others_read count less bytes first rest is e one = subst (λ (n : ℕ). many_at text_at n bytes ≡ Some (texts_in n bytes, []) → (many_at text_at less rest ≡ Some (texts_in less rest, [])) × (texts_in n bytes ≡ first ∷ texts_in less rest)) (sym is) (suc_read less bytes first rest one) e

-- a text that is not there, where at least one fills the bytes
pub first_read : (count less : ℕ) (bytes : List ℕ) (texts : List (List ℕ)) → count ≡ suc less → many_at text_at count bytes ≡ Some (texts, []) → text_at bytes ≡ None → ⊥
unfolding many_at
first_read count less bytes texts is e none =
    let at_suc : many_at text_at (suc less) bytes ≡ Some (texts, []) = subst (λ (n : ℕ). many_at text_at n bytes ≡ Some (texts, [])) is e in
    let a = bind_some (text_at bytes) (λ first. many_at text_at less first.1 >>= λ others. Some (first.0 ∷ others.0, others.1)) (texts, []) at_suc in
    cc

-- ---- what stands after so many texts

pushed : (first : List ℕ) (read : Reading (List (List ℕ))) → after read ≡ after (read >>= λ others. Some (first ∷ others.0, others.1))
pushed first (Some x) = refl
pushed first None = refl

pub after_more : (count less : ℕ) (bytes first rest : List ℕ) (end : Option (List ℕ)) → count ≡ suc less → text_at bytes ≡ Some (first, rest) → after (many_at text_at count bytes) ≡ end → after (many_at text_at less rest) ≡ end
unfolding many_at
after_more count less bytes first rest end is one e =
    let at_suc : after (many_at text_at (suc less) bytes) ≡ end = subst (λ (n : ℕ). after (many_at text_at n bytes) ≡ end) is e in
    pushed first (many_at text_at less rest) ∙ sym (ap (λ (read : Reading (List ℕ)). after (read >>= λ x. many_at text_at less x.1 >>= λ others. Some (x.0 ∷ others.0, others.1))) one) ∙ at_suc

pub after_fault : (count less : ℕ) (bytes : List ℕ) (end : Option (List ℕ)) → count ≡ suc less → text_at bytes ≡ None → after (many_at text_at count bytes) ≡ end → end ≡ None
unfolding many_at
after_fault count less bytes end is none e =
    let at_suc : after (many_at text_at (suc less) bytes) ≡ end = subst (λ (n : ℕ). after (many_at text_at n bytes) ≡ end) is e in
    sym at_suc ∙ ap (λ (read : Reading (List ℕ)). after (read >>= λ x. many_at text_at less x.1 >>= λ others. Some (x.0 ∷ others.0, others.1))) none

pub after_last : (count : ℕ) (bytes : List ℕ) (end : Option (List ℕ)) → count ≡ 0 → after (many_at text_at count bytes) ≡ end → end ≡ Some bytes
unfolding many_at
after_last count bytes end is e = sym (subst (λ (n : ℕ). after (many_at text_at n bytes) ≡ end) is e)

-- ---- texts that fill the bytes

by_after : (count : ℕ) (bytes : List ℕ) (read : Reading (List (List ℕ))) → many_at text_at count bytes ≡ read → after read ≡ Some [] → many_at text_at count bytes ≡ Some (texts_in count bytes, [])
by_after count bytes (Some x) is e =
    let texts = texts_read count bytes x.0 x.1 is in
    is ∙ ap (λ (end : List ℕ). Some (x.0, end)) (some_is x.1 [] e) ∙ ap (λ (t : List (List ℕ)). Some (t, [])) (sym texts)
by_after count bytes None is e = absurd cc

pub filling_texts : (count : ℕ) (bytes : List ℕ) → after (many_at text_at count bytes) ≡ Some [] → many_at text_at count bytes ≡ Some (texts_in count bytes, [])
filling_texts count bytes e = by_after count bytes (many_at text_at count bytes) refl e

pub filled_texts : (count : ℕ) (bytes rest : List ℕ) → number_at w16 bytes ≡ Some (count, rest) → after (many_at text_at count rest) ≡ Some [] → filled (λ texts. texts) (listed_at text_at bytes) ≡ Some (texts_in count rest)
unfolding listed_at
filled_texts count bytes rest number e =
    ap (λ (read : Reading ℕ). filled (λ texts. texts) (read >>= λ n. many_at text_at n.0 n.1)) number ∙ ap (λ (read : Reading (List (List ℕ))). filled (λ texts. texts) read) (filling_texts count rest e)

not_ended : (texts : List (List ℕ)) (rest : List ℕ) → (rest ≡ [] → ⊥) → ended texts rest ≡ None
not_ended texts [] other = absurd (other refl)
not_ended texts (byte ∷ rest) other = refl

unfilled : (read : Reading (List (List ℕ))) → (after read ≡ Some [] → ⊥) → filled (λ texts. texts) read ≡ None
unfilled None other = refl
unfilled (Some x) other = not_ended x.0 x.1 (λ e. other (ap (λ (end : List ℕ). Some end) e))

pub unfilled_texts : (count : ℕ) (bytes rest : List ℕ) → number_at w16 bytes ≡ Some (count, rest) → (after (many_at text_at count rest) ≡ Some [] → ⊥) → filled (λ texts. texts) (listed_at text_at bytes) ≡ None
unfolding listed_at
unfilled_texts count bytes rest number other =
    ap (λ (read : Reading ℕ). filled (λ texts. texts) (read >>= λ n. many_at text_at n.0 n.1)) number ∙ unfilled (many_at text_at count rest) other

pub uncounted_texts : (bytes : List ℕ) → number_at w16 bytes ≡ None → filled (λ texts. texts) (listed_at text_at bytes) ≡ None
unfolding listed_at
uncounted_texts bytes number = ap (λ (read : Reading ℕ). filled (λ texts. texts) (read >>= λ n. many_at text_at n.0 n.1)) number

pub ruleset naming = (filled_texts, unfilled_texts, uncounted_texts)

-- bytes of which there are none
pub no_bytes : (bytes : List ℕ) → length bytes ≡ 0 → bytes ≡ []
no_bytes [] e = refl
no_bytes (byte ∷ bytes) e = absurd (omega arith)

-- the names of a walk, after its fids
abbrev pub with_newfid : ℕ → List (List ℕ) × List ℕ → Reading (ℕ × List (List ℕ))
with_newfid newfid others = Some ((newfid, others.0), others.1)

abbrev pub with_fid : ℕ → (ℕ × List (List ℕ)) × List ℕ → Reading (ℕ × (ℕ × List (List ℕ)))
with_fid fid others = Some ((fid, others.0), others.1)

abbrev pub walk_made : ℕ × (ℕ × List (List ℕ)) → RequestView
walk_made t = twalk t.0 t.1.0 t.1.1

pub walk_names : (fid newfid : ℕ) (read : Reading (List (List ℕ))) (names : Option (List (List ℕ))) → filled (λ (texts : List (List ℕ)). texts) read ≡ names
    → filled walk_made ((read >>= with_newfid newfid) >>= with_fid fid) ≡ option_map (λ (texts : List (List ℕ)). twalk fid newfid texts) names
walk_names fid newfid (Some x) names e = ended_made (λ (texts : List (List ℕ)). twalk fid newfid texts) x.0 x.1 ∙ ap (option_map (λ (texts : List (List ℕ)). twalk fid newfid texts)) e
walk_names fid newfid None names e = ap (option_map (λ (texts : List (List ℕ)). twalk fid newfid texts)) e

-- texts that fill the bytes are spelled so
pub names_spelled : (count : ℕ) (bytes : List ℕ) (texts : List (List ℕ)) → AreBytes bytes → many_at text_at count bytes ≡ Some (texts, []) → to_le_bytes w16 count ++ bytes ≡ listed text texts
names_spelled count bytes texts fits e =
    let it = many_found IsShort text text_at text_field count bytes [] texts fits e in
    ap (λ (n : ℕ). to_le_bytes w16 n ++ bytes) (sym it.count_is) ∙ ap (λ (b : List ℕ). to_le_bytes w16 (length texts) ++ b) (it.bytes_are ∙ append-nil (flat_map text texts))

-- what stands after a text, and after a count
pub text_leaves : (bytes rest name : List ℕ) → AreBytes bytes → text_at bytes ≡ Some (name, rest) → AreBytes rest
text_leaves bytes rest name fits e =
    let it = text_field.found bytes rest name fits e in
    AreBytes-after (text name) rest (subst AreBytes it.1 fits)

pub names_are : (count : ℕ) (bytes rest : List ℕ) → AreBytes bytes → number_at w16 bytes ≡ Some (count, rest) → after (many_at text_at count rest) ≡ Some [] → AreNames count rest
names_are count bytes rest fits number e =
    let it = u16_field.found bytes rest count fits number in
    record { filled = filling_texts count rest e; bytes_fit = AreBytes-after (to_le_bytes w16 count) rest (subst AreBytes it.1 fits) }
