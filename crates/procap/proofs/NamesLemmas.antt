-- The statements that a grant names: what is read is spelled so, and what is spelled so is read.
use Rattle.std.proofs.Common.{◌≡◌, ℕ, zero, suc, ◌<◌, ◌≤◌, ◌-◌, ◌^◌, eqb, leb, ltb, List, [], ◌∷◌, ◌++◌, length, Bool, true, false, cond, inl, inr, Ok, Err, refl, sym, ap, subst, ◌∙◌, append_assoc, arith}
use Rattle.std.specs.Prelude.{◌⊎◌, ◌&&◌, ◌||◌}
use Rattle.std.specs.List.{flat_map, AllByRecursion}
use Rattle.std.specs.Int.{w32}
use Rattle.std.proofs.lemmas.Bool.{eqb-true, ltb-true, lt-ltb, leb-true, le-leb}
use Rattle.std.proofs.lemmas.List.{append-nil}
use Rattle.bl_syntax.specs.declared.codec_fault.CodecFault.{CodecFault}
use Rattle.bl_syntax.specs.declared.codec_fault.CodecFault.TheVariants as faults
use Rattle.bl_syntax.specs.Citable.{DoRise, AreNamed}
use Rattle.bl_syntax.specs.Grant.{MayName}
use Rattle.bl_syntax.specs.Reading.{Reading, place, number_at}
use Rattle.bl_syntax.specs.Codec.{AreBytes}
use Rattle.bl_syntax.proofs.CodecLemmas.{bind_ok, by_test, ok_is, bind_memoryless, AreBytes-rest, AreBytes-behind}
use Rattle.bl_syntax.proofs.FieldLemmas.{wide32, number_found, number_again, number_memoryless}
use Rattle.procap.specs.GrantSpelling.{version_of, name_spelling, names_spelling, IsSpellableName}
use Rattle.procap.specs.GrantReading.{version_at, rising_at, names_at, versioned_names_at}
use Rattle.procap.proofs.ItemsLemmas.{test_memoryless}

-- both of two tests
both : (a b : Bool) → (a && b) ≡ true → (a ≡ true) × (b ≡ true)
both true true e = (refl, refl)
both true false e = absurd cc
both false b e = absurd cc

by_itself : (b : Bool) → cond b true false ≡ b
by_itself true = refl
by_itself false = refl

-- numbers that were read, and the bytes after them
abbrev pub read_as : List ℕ → List ℕ → Reading (List ℕ)
read_as numbers rest = Ok (numbers, rest)

-- ---- so many numbers

-- what was read after the numbers before
pub record FoundRising (count previous : ℕ) (before bytes all rest : List ℕ) : Type 0 where
  pub items : List ℕ
  pub all_are : all ≡ before ++ items
  pub count_is : length items ≡ count
  pub rising : DoRise (previous ∷ items)
  pub spelled : AllByRecursion IsSpellableName items
  pub bytes_are : bytes ≡ flat_map name_spelling items ++ rest

pub rising_found : (count previous input : ℕ) (before bytes all rest : List ℕ) → AreBytes bytes → rising_at count previous input before bytes ≡ Ok (all, rest) → FoundRising count previous before bytes all rest
unfolding rising_at
rising_found zero previous input before bytes all rest fits e =
    let pair = ok_is (before, bytes) (all, rest) e in
    record {
      items = [];
      all_are = sym (ap (λ (p : List ℕ × List ℕ). p.0) pair) ∙ sym (append-nil before);
      count_is = refl;
      rising = tt;
      spelled = tt;
      bytes_are = ap (λ (p : List ℕ × List ℕ). p.1) pair;
    }
rising_found (suc count) previous input before bytes all rest fits e =
    let a = bind_ok (number_at w32 bytes) (λ number. cond (ltb previous number.0) (rising_at count number.0 input (before ++ number.0 ∷ []) number.1) (Err (faults.NotCanonical (place input bytes)))) (all, rest) e in
    by_test (ltb previous a.0.0) _ _ _ a.2 (λ above found.
    let one = number_found w32 (2 ^ 32) wide32 bytes a.0.0 a.0.1 fits a.1 in
    let behind : AreBytes a.0.1 = AreBytes-behind (name_spelling a.0.0) a.0.1 (subst AreBytes one.1 fits) in
    let others = rising_found count a.0.0 input (before ++ a.0.0 ∷ []) a.0.1 all rest behind found in
    record {
      items = a.0.0 ∷ others.items;
      all_are = others.all_are ∙ append_assoc before (a.0.0 ∷ []) others.items;
      count_is = ap suc others.count_is;
      rising = (ltb-true previous a.0.0 above, others.rising);
      spelled = (one.0, others.spelled);
      bytes_are = one.1 ∙ ap (λ (end : List ℕ). name_spelling a.0.0 ++ end) others.bytes_are ∙ sym (append_assoc (name_spelling a.0.0) (flat_map name_spelling others.items) rest);
    }) (λ _ fault. absurd cc)

-- one more number that rises
rising_step : (count previous input : ℕ) (before bytes : List ℕ) (number : ℕ) (rest : List ℕ) → number_at w32 bytes ≡ Ok (number, rest) → ltb previous number ≡ true
    → rising_at (suc count) previous input before bytes ≡ rising_at count number input (before ++ number ∷ []) rest
unfolding rising_at
rising_step count previous input before bytes number rest e above = rw (e, above) refl

pub rising_again : (previous input : ℕ) (before items rest : List ℕ) → AllByRecursion IsSpellableName items → DoRise (previous ∷ items)
    → rising_at (length items) previous input before (flat_map name_spelling items ++ rest) ≡ Ok (before ++ items, rest)
unfolding rising_at
rising_again previous input before [] rest spelled rising = ap (λ (all : List ℕ). read_as all rest) (sym (append-nil before))
rising_again previous input before (x ∷ xs) rest spelled rising =
    let parts : flat_map name_spelling (x ∷ xs) ++ rest ≡ name_spelling x ++ (flat_map name_spelling xs ++ rest) = append_assoc (name_spelling x) (flat_map name_spelling xs) rest in
    ap (λ (bytes : List ℕ). rising_at (suc (length xs)) previous input before bytes) parts
    ∙ rising_step (length xs) previous input before (name_spelling x ++ (flat_map name_spelling xs ++ rest)) x (flat_map name_spelling xs ++ rest)
    (number_again w32 (2 ^ 32) wide32 x (flat_map name_spelling xs ++ rest) spelled.0) (lt-ltb previous x rising.0)
    ∙ rising_again x input (before ++ x ∷ []) xs rest spelled.1 rising.1
    ∙ ap (λ (all : List ℕ). read_as all rest) (append_assoc before (x ∷ []) xs)

rising_memoryless : (count previous input : ℕ) (before bytes : List ℕ) → rising_at count previous input before bytes ≡ Err faults.NoMemory → ⊥
unfolding rising_at
rising_memoryless zero previous input before bytes e = absurd cc
rising_memoryless (suc count) previous input before bytes e =
    bind_memoryless (number_at w32 bytes) (λ number. cond (ltb previous number.0) (rising_at count number.0 input (before ++ number.0 ∷ []) number.1) (Err (faults.NotCanonical (place input bytes)))) (number_memoryless w32 bytes)
    (λ number h. test_memoryless (ltb previous number.0) _ _ (λ k. rising_memoryless count number.0 input (before ++ number.0 ∷ []) number.1 k) (λ k. cc) h) e

-- what is read rises, whatever the bytes are
pub record Rose (count previous : ℕ) (before all : List ℕ) : Type 0 where
  pub items : List ℕ
  pub all_are : all ≡ before ++ items
  pub count_is : length items ≡ count
  pub rising : DoRise (previous ∷ items)

pub rising_rose : (count previous input : ℕ) (before bytes all rest : List ℕ) → rising_at count previous input before bytes ≡ Ok (all, rest) → Rose count previous before all
unfolding rising_at
rising_rose zero previous input before bytes all rest e =
    record { items = []; all_are = sym (ap (λ (p : List ℕ × List ℕ). p.0) (ok_is (before, bytes) (all, rest) e)) ∙ sym (append-nil before); count_is = refl; rising = tt }
rising_rose (suc count) previous input before bytes all rest e =
    let a = bind_ok (number_at w32 bytes) (λ number. cond (ltb previous number.0) (rising_at count number.0 input (before ++ number.0 ∷ []) number.1) (Err (faults.NotCanonical (place input bytes)))) (all, rest) e in
    by_test (ltb previous a.0.0) _ _ _ a.2 (λ above found.
    let others = rising_rose count a.0.0 input (before ++ a.0.0 ∷ []) a.0.1 all rest found in
    record {
      items = a.0.0 ∷ others.items;
      all_are = others.all_are ∙ append_assoc before (a.0.0 ∷ []) others.items;
      count_is = ap suc others.count_is;
      rising = (ltb-true previous a.0.0 above, others.rising);
    }) (λ _ fault. absurd cc)

-- ---- one number of so many

pub not_above : (previous number : ℕ) → number ≤ previous → ltb previous number ≡ false
not_above previous number le = by_test (ltb previous number) true false (ltb previous number) (by_itself (ltb previous number)) (λ above _. let lt = ltb-true previous number above in absurd (omega (arith, lt, le))) (λ below _. below)

pub rising_none : (count previous input : ℕ) (before bytes : List ℕ) → count ≡ 0 → rising_at count previous input before bytes ≡ Ok (before, bytes)
unfolding rising_at
rising_none count previous input before bytes none = rw none refl

pub rising_fault : (count previous input : ℕ) (before bytes : List ℕ) (fault : CodecFault) → 0 < count → number_at w32 bytes ≡ Err fault → rising_at count previous input before bytes ≡ Err fault
unfolding rising_at
rising_fault zero previous input before bytes fault some e = absurd (omega arith)
rising_fault (suc count) previous input before bytes fault some e = rw e refl

pub rising_refused : (count previous input : ℕ) (before bytes : List ℕ) (number : ℕ) (rest : List ℕ) → 0 < count → number_at w32 bytes ≡ Ok (number, rest) → ltb previous number ≡ false
    → rising_at count previous input before bytes ≡ Err (faults.NotCanonical (place input bytes))
unfolding rising_at
rising_refused zero previous input before bytes number rest some e refused = absurd (omega arith)
rising_refused (suc count) previous input before bytes number rest some e refused = rw (e, refused) refl

pub rising_more : (count previous input : ℕ) (before bytes : List ℕ) (number : ℕ) (rest : List ℕ) → 0 < count → number_at w32 bytes ≡ Ok (number, rest) → ltb previous number ≡ true
    → rising_at count previous input before bytes ≡ rising_at (count - 1) number input (before ++ number ∷ []) rest
unfolding rising_at
rising_more zero previous input before bytes number rest some e above = absurd (omega arith)
rising_more (suc count) previous input before bytes number rest some e above =
    let less : count ≡ suc count - 1 = omega arith in
    rw (e, above) (ap (λ (k : ℕ). rising_at k number input (before ++ number ∷ []) rest) less)

-- ---- how many there are, and each

-- a grant names at most 64
pub few_named : (numbers : List ℕ) → MayName numbers → length numbers ≤ 64
few_named numbers (inl none) = let count = ap length none in omega (arith, count)
few_named numbers (inr named) = named.few

pub names_counted : (count input : ℕ) (rest : List ℕ) → 0 < count → count ≤ 64 → names_at input (count ∷ rest) ≡ rising_at count 0 input [] rest
unfolding names_at
names_counted count input rest some few = rw (lt-ltb 0 count some, le-leb count 64 few) refl

pub names_uncounted : (count input : ℕ) (rest : List ℕ) → (ltb 0 count && leb count 64) ≡ false → names_at input (count ∷ rest) ≡ Err (faults.NotCanonical (place input (count ∷ rest)))
unfolding names_at
names_uncounted count input rest refused = rw refused refl

-- what is read after a number of 1 to 64 may be named
pub counted_named : (count input : ℕ) (bytes numbers rest : List ℕ) → 0 < count → count ≤ 64 → rising_at count 0 input [] bytes ≡ Ok (numbers, rest) → AreNamed numbers
counted_named count input bytes numbers rest some few found =
    let rose = rising_rose count 0 input [] bytes numbers rest found in
    subst AreNamed (sym rose.all_are) (record { some = omega (arith, rose.count_is, some); few = omega (arith, rose.count_is, few); rising = rose.rising })

-- what is read may be named
pub names_are : (input : ℕ) (bytes numbers rest : List ℕ) → names_at input bytes ≡ Ok (numbers, rest) → AreNamed numbers
unfolding names_at
names_are input [] numbers rest e = absurd cc
names_are input (count ∷ more) numbers rest e =
    by_test (ltb 0 count && leb count 64) _ _ _ e (λ counted found.
    let tests = both (ltb 0 count) (leb count 64) counted in
    counted_named count input more numbers rest (ltb-true 0 count tests.0) (leb-true count 64 tests.1) found) (λ _ fault. absurd cc)

pub record FoundNames (version : ℕ) (bytes numbers rest : List ℕ) : Type 0 where
  pub names : MayName numbers
  pub version_is : version ≡ version_of numbers
  pub spelled : AllByRecursion IsSpellableName numbers
  pub bytes_are : bytes ≡ names_spelling numbers ++ rest

counted_found : (count input : ℕ) (more numbers rest : List ℕ) → AreBytes more → AreNamed numbers → rising_at count 0 input [] more ≡ Ok (numbers, rest) → FoundNames 2 (count ∷ more) numbers rest
counted_found count input more [] rest fits named found = absurd (omega (arith, named.some))
counted_found count input more (number ∷ numbers) rest fits named found =
    let it = rising_found count 0 input [] more (number ∷ numbers) rest fits found in
    let counted : count ≡ length (number ∷ numbers) = sym it.count_is ∙ ap length (sym it.all_are) in
    record {
      names = inr named;
      version_is = refl;
      spelled = subst (AllByRecursion IsSpellableName) (sym it.all_are) it.spelled;
      bytes_are = ap (λ (k : ℕ). k ∷ more) counted
          ∙ ap (λ (b : List ℕ). length (number ∷ numbers) ∷ b) (it.bytes_are ∙ ap (λ (all : List ℕ). flat_map name_spelling all ++ rest) (sym it.all_are));
    }

names_found : (input : ℕ) (bytes numbers rest : List ℕ) → AreBytes bytes → names_at input bytes ≡ Ok (numbers, rest) → FoundNames 2 bytes numbers rest
unfolding names_at
names_found input [] numbers rest fits e = absurd cc
names_found input (count ∷ more) numbers rest fits e =
    let named = names_are input (count ∷ more) numbers rest e in
    by_test (ltb 0 count && leb count 64) _ _ _ e (λ _ found. counted_found count input more numbers rest (AreBytes-rest count more fits) named found) (λ _ fault. absurd cc)

names_memoryless : (input : ℕ) (bytes : List ℕ) → names_at input bytes ≡ Err faults.NoMemory → ⊥
unfolding names_at
names_memoryless input [] e = cc
names_memoryless input (count ∷ more) e = test_memoryless (ltb 0 count && leb count 64) _ _ (λ h. rising_memoryless count 0 input [] more h) (λ h. cc) e

-- ---- by the version

abbrev pub IsVersion : ℕ → Type 0
IsVersion version = (version ≡ 1) ⊎ (version ≡ 2)

none_found : (bytes numbers rest : List ℕ) → read_as [] bytes ≡ read_as numbers rest → FoundNames 1 bytes numbers rest
none_found bytes numbers rest e =
    subst (λ (p : List ℕ × List ℕ). FoundNames 1 bytes p.0 p.1) (ok_is ([], bytes) (numbers, rest) e) (record { names = inl refl; version_is = refl; spelled = tt; bytes_are = refl })

pub versioned_names_found : (version input : ℕ) (bytes numbers rest : List ℕ) → IsVersion version → AreBytes bytes → versioned_names_at version input bytes ≡ Ok (numbers, rest)
    → FoundNames version bytes numbers rest
unfolding versioned_names_at
versioned_names_found version input bytes numbers rest (inl one) fits e = subst (λ (v : ℕ). FoundNames v bytes numbers rest) (sym one) (none_found bytes numbers rest (rw one at e))
versioned_names_found version input bytes numbers rest (inr two) fits e = subst (λ (v : ℕ). FoundNames v bytes numbers rest) (sym two) (names_found input bytes numbers rest fits (rw two at e))

pub versioned_names_again : (input : ℕ) (numbers rest : List ℕ) → MayName numbers → AllByRecursion IsSpellableName numbers
    → versioned_names_at (version_of numbers) input (names_spelling numbers ++ rest) ≡ Ok (numbers, rest)
unfolding versioned_names_at
versioned_names_again input [] rest names spelled = refl
versioned_names_again input (number ∷ numbers) rest (inl none) spelled = absurd cc
versioned_names_again input (number ∷ numbers) rest (inr named) spelled =
    names_counted (length (number ∷ numbers)) input (flat_map name_spelling (number ∷ numbers) ++ rest) named.some named.few
    ∙ rising_again 0 input [] (number ∷ numbers) rest spelled named.rising

pub versioned_names_memoryless : (version input : ℕ) (bytes : List ℕ) → versioned_names_at version input bytes ≡ Err faults.NoMemory → ⊥
unfolding versioned_names_at
versioned_names_memoryless version input bytes e = test_memoryless (eqb version 1) _ _ (λ h. cc) (λ h. names_memoryless input bytes h) e

-- ---- what the code makes of it

pub version_one : (version input : ℕ) (bytes : List ℕ) → version ≡ 1 → versioned_names_at version input bytes ≡ Ok ([], bytes)
unfolding versioned_names_at
version_one version input bytes one = rw one refl

pub version_other : (version input : ℕ) (bytes : List ℕ) → (version ≡ 1 → ⊥) → versioned_names_at version input bytes ≡ names_at input bytes
unfolding versioned_names_at
version_other version input bytes other =
    by_test (eqb version 1) (read_as [] bytes) (names_at input bytes) (cond (eqb version 1) (read_as [] bytes) (names_at input bytes)) refl
    (λ is _. absurd (other (eqb-true version 1 is))) (λ _ same. sym same)

-- ---- the version itself

pub version_found : (input : ℕ) (bytes rest : List ℕ) (version : ℕ) → version_at input bytes ≡ Ok (version, rest) → IsVersion version × (bytes ≡ version ∷ rest)
unfolding version_at
version_found input [] rest version e = absurd cc
version_found input (byte ∷ more) rest version e = by_version (eqb byte 1) (eqb byte 2) refl refl e where
  by_version : (one two : Bool) → eqb byte 1 ≡ one → eqb byte 2 ≡ two → version_at input (byte ∷ more) ≡ Ok (version, rest) → IsVersion version × (byte ∷ more ≡ version ∷ rest)
  by_version true two first second e = let pair = ok_is (byte, more) (version, rest) (rw first at e) in subst (λ (p : ℕ × List ℕ). IsVersion p.0 × (byte ∷ more ≡ p.0 ∷ p.1)) pair (inl (eqb-true byte 1 first), refl)
  by_version false true first second e = let pair = ok_is (byte, more) (version, rest) (rw (first, second) at e) in subst (λ (p : ℕ × List ℕ). IsVersion p.0 × (byte ∷ more ≡ p.0 ∷ p.1)) pair (inr (eqb-true byte 2 second), refl)
  by_version false false first second e = let fault = rw (first, second) at e in absurd cc

pub version_again : (input : ℕ) (numbers rest : List ℕ) → version_at input (version_of numbers ∷ rest) ≡ Ok (version_of numbers, rest)
unfolding version_at
version_again input [] rest = refl
version_again input (number ∷ numbers) rest = refl

pub version_memoryless : (input : ℕ) (bytes : List ℕ) → version_at input bytes ≡ Err faults.NoMemory → ⊥
unfolding version_at
version_memoryless input [] e = cc
version_memoryless input (byte ∷ more) e = test_memoryless (eqb byte 1 || eqb byte 2) _ _ (λ h. cc) (λ h. cc) e
