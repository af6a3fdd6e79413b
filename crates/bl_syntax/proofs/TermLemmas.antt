-- A term that is read is the term that was spelled, and what was spelled is read again.
use Rattle.std.proofs.Common.{◌≡◌, ℕ, ◌^◌, ◌<◌, Bool, true, false, cond, eqb, List, [], ◌∷◌, ◌++◌, Result, Ok, Err, refl, sym, ap, subst, ◌∙◌}
use Rattle.std.specs.Int.{w32, w64, to_be_bytes}
use Rattle.std.proofs.lemmas.Bool.{eqb-true}
use Rattle.bl_syntax.specs.declared.codec_fault.CodecFault.{CodecFault}
use Rattle.bl_syntax.specs.declared.codec_fault.CodecFault.TheVariants as faults
use Rattle.bl_syntax.specs.declared.terms.Term.{Term}
use Rattle.bl_syntax.specs.declared.terms.Term.TheVariants.{Prin, File, Perm, Time, Text, Ctime, Param, Bound}
use Rattle.bl_syntax.specs.Names.{is_principal_name, is_text}
use Rattle.bl_syntax.specs.Terms.{HasTimeInRange}
use Rattle.bl_syntax.specs.Spelling.{IsSpellable, with_length, permission_code, time_spelling, term_spelling}
use Rattle.bl_syntax.specs.Reading.{Reading, map_reading, place, number_at, name_at, text_at, permission_of, permission_at, time_at, field_at, term_at}
use Rattle.bl_syntax.specs.Codec.{AreBytes, IsCodec}
use Rattle.bl_syntax.proofs.CodecLemmas.{by_test, ok_is, made_ok, made_memoryless, AreBytes-rest, codec}
use Rattle.bl_syntax.proofs.WordLemmas.{short_name, short_text}
use Rattle.bl_syntax.proofs.FieldLemmas.{wide32, wide64, number_found, number_again, number_memoryless, word_found, word_again, word_memoryless, time_found, time_again, time_memoryless, coded_found, coded_again, coded_memoryless, permission_back, permission_again}

-- the bytes are those of a term that has a spelling, and the rest
abbrev Spells : List ℕ → Term → List ℕ → Type 0
Spells bytes t rest = IsSpellable t × (bytes ≡ term_spelling t ++ rest)

-- a term whose field was read
with_field : {A : Type 0} (f : A → Term) (spelling : A → List ℕ) (IsSpelled : A → Type 0) (code : ℕ)
    → ((x : A) → IsSpelled x → IsSpellable (f x)) → ((x : A) → term_spelling (f x) ≡ code ∷ spelling x)
    → (tag : ℕ) (more rest : List ℕ) (t : Term) (r : Reading A) → tag ≡ code → ((x : A) → r ≡ Ok (x, rest) → IsSpelled x × (more ≡ spelling x ++ rest)) → map_reading f r ≡ Ok (t, rest) → Spells (tag ∷ more) t rest
with_field f spelling IsSpelled code fits spelled tag more rest t r is found e =
    let m = made_ok f r t rest e in
    let it = found m.0 m.1 in
    subst (λ (u : Term). Spells (tag ∷ more) u rest) m.2 (fits m.0 it.0, ap (λ (k : ℕ). k ∷ more) is ∙ ap (λ (b : List ℕ). code ∷ b) it.1 ∙ ap (λ (b : List ℕ). b ++ rest) (sym (spelled m.0)))

abbrev node : ℕ → Term
node n = File (record { 0 = n })

field_found : (input start tag : ℕ) (more rest : List ℕ) (t : Term) → AreBytes more → field_at input start tag more ≡ Ok (t, rest) → Spells (tag ∷ more) t rest
unfolding field_at term_spelling
field_found input start tag more rest t fits e =
    by_test (eqb tag 1) _ _ _ e (λ is h. with_field Prin with_length (λ name. is_principal_name name ≡ true) 1 (λ x k. k) (λ x. refl) tag more rest t (name_at input more) (eqb-true tag 1 is) (λ x k. word_found 1 32 is_principal_name input more rest x fits k) h) (λ _ e1.
    by_test (eqb tag 2) _ _ _ e1 (λ is h. with_field node (to_be_bytes w64) (λ n. n < 2 ^ 64) 2 (λ x k. k) (λ x. refl) tag more rest t (number_at w64 more) (eqb-true tag 2 is) (λ x k. number_found w64 (2 ^ 64) wide64 more x rest fits k) h) (λ _ e2.
    by_test (eqb tag 3) _ _ _ e2 (λ is h. with_field Perm (λ x. permission_code x ∷ []) (λ x. Unit {0}) 3 (λ x k. k) (λ x. refl) tag more rest t (permission_at input more) (eqb-true tag 3 is) (λ x k. (tt, coded_found permission_of permission_code permission_back input more rest x k)) h) (λ _ e3.
    by_test (eqb tag 4) _ _ _ e3 (λ is h. with_field Time time_spelling (λ x. IsSpellable (Time x)) 4 (λ x k. k) (λ x. refl) tag more rest t (time_at input more) (eqb-true tag 4 is) (λ x k. time_found input more rest x fits k) h) (λ _ e4.
    by_test (eqb tag 5) _ _ _ e4 (λ is h. with_field Text with_length (λ text. is_text text ≡ true) 5 (λ x k. k) (λ x. refl) tag more rest t (text_at input more) (eqb-true tag 5 is) (λ x k. word_found 0 128 is_text input more rest x fits k) h) (λ _ e5.
    by_test (eqb tag 6) _ _ _ e5 (λ is h. subst (λ (p : Term × List ℕ). Spells (tag ∷ more) p.0 p.1) (ok_is (Ctime, more) (t, rest) h) (tt, ap (λ (k : ℕ). k ∷ more) (eqb-true tag 6 is))) (λ _ e6.
    by_test (eqb tag 7) _ _ _ e6 (λ is h. with_field Param (to_be_bytes w32) (λ n. n < 2 ^ 32) 7 (λ x k. k) (λ x. refl) tag more rest t (number_at w32 more) (eqb-true tag 7 is) (λ x k. number_found w32 (2 ^ 32) wide32 more x rest fits k) h) (λ _ e7.
    by_test (eqb tag 8) _ _ _ e7 (λ is h. with_field Bound (to_be_bytes w32) (λ n. n < 2 ^ 32) 8 (λ x k. k) (λ x. refl) tag more rest t (number_at w32 more) (eqb-true tag 8 is) (λ x k. number_found w32 (2 ^ 32) wide32 more x rest fits k) h) (λ _ fault. absurd cc))))))))

pub term_found : (input : ℕ) (bytes rest : List ℕ) (t : Term) → AreBytes bytes → term_at input bytes ≡ Ok (t, rest) → IsSpellable t × (bytes ≡ term_spelling t ++ rest)
unfolding term_at
term_found input [] rest t fits e = absurd cc
term_found input (tag ∷ more) rest t fits e = field_found input (place input (tag ∷ more)) tag more rest t (AreBytes-rest tag more fits) e

pub term_again : (input : ℕ) (t : Term) (rest : List ℕ) → IsSpellable t → term_at input (term_spelling t ++ rest) ≡ Ok (t, rest)
unfolding term_at field_at term_spelling
term_again input (Prin name) rest h = let short = short_name name h in ap (map_reading Prin) (word_again 1 32 is_principal_name input name rest short.not_below short.not_above h)
term_again input (File n) rest h = ap (map_reading node) (number_again w64 (2 ^ 64) wide64 n.0 rest h)
term_again input (Perm permission) rest h = ap (map_reading Perm) (coded_again permission_of permission_code permission_again input permission rest)
term_again input (Time point) rest h = ap (map_reading Time) (time_again input point rest h)
term_again input (Text text) rest h = let short = short_text text h in ap (map_reading Text) (word_again 0 128 is_text input text rest short.not_below short.not_above h)
term_again input Ctime rest h = refl
term_again input (Param n) rest h = ap (map_reading Param) (number_again w32 (2 ^ 32) wide32 n rest h)
term_again input (Bound n) rest h = ap (map_reading Bound) (number_again w32 (2 ^ 32) wide32 n rest h)

test_memoryless : {A : Type 0} (b : Bool) (x y : Result A CodecFault) → (x ≡ Err faults.NoMemory → ⊥) → (y ≡ Err faults.NoMemory → ⊥) → cond b x y ≡ Err faults.NoMemory → ⊥
test_memoryless true x y first second e = first e
test_memoryless false x y first second e = second e

pub term_memoryless : (input : ℕ) (bytes : List ℕ) → term_at input bytes ≡ Err faults.NoMemory → ⊥
unfolding term_at field_at
term_memoryless input [] e = cc
term_memoryless input (tag ∷ more) e =
    test_memoryless (eqb tag 1) _ _ (λ h. made_memoryless Prin (name_at input more) (λ k. word_memoryless 1 32 is_principal_name input more k) h) (λ e1.
    test_memoryless (eqb tag 2) _ _ (λ h. made_memoryless node (number_at w64 more) (λ k. number_memoryless w64 more k) h) (λ e2.
    test_memoryless (eqb tag 3) _ _ (λ h. made_memoryless Perm (permission_at input more) (λ k. coded_memoryless permission_of input more k) h) (λ e3.
    test_memoryless (eqb tag 4) _ _ (λ h. made_memoryless Time (time_at input more) (λ k. time_memoryless input more k) h) (λ e4.
    test_memoryless (eqb tag 5) _ _ (λ h. made_memoryless Text (text_at input more) (λ k. word_memoryless 0 128 is_text input more k) h) (λ e5.
    test_memoryless (eqb tag 6) _ _ (λ h. cc) (λ e6.
    test_memoryless (eqb tag 7) _ _ (λ h. made_memoryless Param (number_at w32 more) (λ k. number_memoryless w32 more k) h) (λ e7.
    test_memoryless (eqb tag 8) _ _ (λ h. made_memoryless Bound (number_at w32 more) (λ k. number_memoryless w32 more k) h) (λ h. cc) e7) e6) e5) e4) e3) e2) e1) e

pub term_codec : IsCodec IsSpellable term_spelling term_at
term_codec = codec IsSpellable term_spelling term_at term_found term_again term_memoryless

-- a term that has a spelling has its time in range
pub HasTimeInRange-from_spellable : (t : Term) → IsSpellable t → HasTimeInRange t
HasTimeInRange-from_spellable (Prin name) h = tt
HasTimeInRange-from_spellable (File n) h = tt
HasTimeInRange-from_spellable (Perm permission) h = tt
HasTimeInRange-from_spellable (Time point) h = h
HasTimeInRange-from_spellable (Text text) h = tt
HasTimeInRange-from_spellable Ctime h = tt
HasTimeInRange-from_spellable (Param n) h = tt
HasTimeInRange-from_spellable (Bound n) h = tt
