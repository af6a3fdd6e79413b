-- A statement that is read is the statement that was spelled, and what was spelled is read again.
use Rattle.std.proofs.Common.{◌≡◌, ℕ, false, cond, List, ◌++◌, Ok, Err, refl, sym, ap, subst, ◌∙◌, append_assoc}
use Rattle.std.specs.Prelude.{IsTrue}
use Rattle.std.proofs.lemmas.Bool.{false_from_ne_true}
use Rattle.bl_syntax.specs.declared.codec_fault.CodecFault.TheVariants.{NotCanonical}
use Rattle.bl_syntax.specs.declared.codec_fault.CodecFault.TheVariants as faults
use Rattle.bl_syntax.specs.declared.terms.TimePoint.{TimePoint}
use Rattle.bl_syntax.specs.Names.{is_principal_name}
use Rattle.bl_syntax.specs.TimeOrder.{IsInRange}
use Rattle.bl_syntax.specs.Formula.{FormulaView}
use Rattle.bl_syntax.specs.Statement.{StatementView, statement_view, IsStatement}
use Rattle.bl_syntax.specs.Spelling.{with_length, time_spelling}
use Rattle.bl_syntax.specs.FormulaSpelling.{formula_spelling, statement_spelling, IsSpellableFormula, IsSpellableStatement}
use Rattle.bl_syntax.specs.Reading.{◌>>=◌, place, name_at, time_at}
use Rattle.bl_syntax.specs.FormulaReading.{whole_formula_at, is_sayable, statement_at}
use Rattle.bl_syntax.specs.Codec.{AreBytes, IsCodec}
use Rattle.bl_syntax.proofs.CodecLemmas.{bind_ok, by_test, ok_is, bind_memoryless, codec}
use Rattle.bl_syntax.proofs.WordLemmas.{short_name}
use Rattle.bl_syntax.proofs.FieldLemmas.{word_found, word_again, word_memoryless, time_found, time_again, time_memoryless}
use Rattle.bl_codec.specs.StatementBody.{body_at}
use Rattle.bl_codec.proofs.NodesFoundLemmas.{rest_bytes}
use Rattle.bl_codec.proofs.FormulaLemmas.{whole_found}
use Rattle.bl_codec.proofs.FormulaRoundTrip.{whole_again}
use Rattle.bl_codec.proofs.FormulaMemory.{whole_memoryless}
use Rattle.bl_codec.proofs.NodeLemmas.{test_memoryless}
use Rattle.bl_codec.proofs.IsStatementLemmas.{statement_from_test, test_from_statement}

-- the fields of a statement, one after the other
record Fields (bytes : List ℕ) (who : List ℕ) (body : FormulaView) (from to : TimePoint) (rest : List ℕ) : Type 0 where
  named : IsTrue (is_principal_name who)
  spellable : IsSpellableFormula body
  from_in_range : IsInRange from
  to_in_range : IsInRange to
  spelled : bytes ≡ statement_spelling (statement_view who body from to) ++ rest

fields_found : (input : ℕ) (bytes : List ℕ) (who : List ℕ) (behind_who : List ℕ) (body : FormulaView) (behind_body : List ℕ) (from : TimePoint) (behind_from : List ℕ) (to : TimePoint) (rest : List ℕ) → AreBytes bytes
    → name_at input bytes ≡ Ok (who, behind_who) → whole_formula_at input behind_who ≡ Ok (body, behind_body) → time_at input behind_body ≡ Ok (from, behind_from) → time_at input behind_from ≡ Ok (to, rest) → Fields bytes who body from to rest
unfolding statement_spelling
fields_found input bytes who behind_who body behind_body from behind_from to rest fits e1 e2 e3 e4 =
    let name = word_found 1 32 is_principal_name input bytes behind_who who fits e1 in
    let fits_body = rest_bytes bytes (with_length who) behind_who fits name.1 in
    let formula = whole_found input behind_who behind_body body fits_body e2 in
    let fits_from = rest_bytes behind_who (formula_spelling body) behind_body fits_body formula.1 in
    let first = time_found input behind_body behind_from from fits_from e3 in
    let fits_to = rest_bytes behind_body (time_spelling from) behind_from fits_from first.1 in
    let last = time_found input behind_from rest to fits_to e4 in
    let times : behind_body ≡ (time_spelling from ++ time_spelling to) ++ rest = first.1 ∙ ap (λ (end : List ℕ). time_spelling from ++ end) last.1 ∙ sym (append_assoc (time_spelling from) (time_spelling to) rest) in
    let behind : behind_who ≡ (formula_spelling body ++ (time_spelling from ++ time_spelling to)) ++ rest = formula.1 ∙ ap (λ (end : List ℕ). formula_spelling body ++ end) times ∙ sym (append_assoc (formula_spelling body) (time_spelling from ++ time_spelling to) rest) in
    record {
      named = name.0;
      spellable = formula.0;
      from_in_range = first.0;
      to_in_range = last.0;
      spelled = name.1 ∙ ap (λ (end : List ℕ). with_length who ++ end) behind ∙ sym (append_assoc (with_length who) (formula_spelling body ++ (time_spelling from ++ time_spelling to)) rest);
    }

statement_found : (input : ℕ) (bytes rest : List ℕ) (s : StatementView) → AreBytes bytes → statement_at input bytes ≡ Ok (s, rest) → IsSpellableStatement s × (bytes ≡ statement_spelling s ++ rest)
unfolding statement_at
statement_found input bytes rest s fits e =
    let a = bind_ok (name_at input bytes) (λ who. whole_formula_at input who.1 >>= λ body. time_at input body.1 >>= λ from. time_at input from.1 >>= λ to. cond (is_sayable body.0) (Ok (statement_view who.0 body.0 from.0 to.0, to.1)) (Err (NotCanonical (place input bytes)))) (s, rest) e in
    let b = bind_ok (whole_formula_at input a.0.1) (λ body. time_at input body.1 >>= λ from. time_at input from.1 >>= λ to. cond (is_sayable body.0) (Ok (statement_view a.0.0 body.0 from.0 to.0, to.1)) (Err (NotCanonical (place input bytes)))) (s, rest) a.2 in
    let c = bind_ok (time_at input b.0.1) (λ from. time_at input from.1 >>= λ to. cond (is_sayable b.0.0) (Ok (statement_view a.0.0 b.0.0 from.0 to.0, to.1)) (Err (NotCanonical (place input bytes)))) (s, rest) b.2 in
    let d = bind_ok (time_at input c.0.1) (λ to. cond (is_sayable b.0.0) (Ok (statement_view a.0.0 b.0.0 c.0.0 to.0, to.1)) (Err (NotCanonical (place input bytes)))) (s, rest) c.2 in
    let it = fields_found input bytes a.0.0 a.0.1 b.0.0 b.0.1 c.0.0 c.0.1 d.0.0 d.0.1 fits a.1 b.1 c.1 d.1 in
    by_test (is_sayable b.0.0) (Ok (statement_view a.0.0 b.0.0 c.0.0 d.0.0, d.0.1)) (Err (NotCanonical (place input bytes))) (Ok (s, rest)) d.2 (λ is found.
    let may : IsStatement (statement_view a.0.0 b.0.0 c.0.0 d.0.0) = statement_from_test a.0.0 b.0.0 c.0.0 d.0.0 is it.spellable.terms it.from_in_range it.to_in_range in
    let spellable : IsSpellableStatement (statement_view a.0.0 b.0.0 c.0.0 d.0.0) = record { who = it.named; body = it.spellable; statement = may } in
    subst (λ (p : StatementView × List ℕ). IsSpellableStatement p.0 × (bytes ≡ statement_spelling p.0 ++ p.1)) (ok_is (statement_view a.0.0 b.0.0 c.0.0 d.0.0, d.0.1) (s, rest) found) (spellable, it.spelled)) (λ _ fault. absurd cc)

statement_again : (input : ℕ) (s : StatementView) (rest : List ℕ) → IsSpellableStatement s → statement_at input (statement_spelling s ++ rest) ≡ Ok (s, rest)
unfolding statement_at statement_spelling
statement_again input s rest h =
    let short = short_name s.who h.who in
    let test = test_from_statement s.who s.body s.from s.to h.statement in
    rw (
      append_assoc (with_length s.who) (formula_spelling s.body ++ (time_spelling s.from ++ time_spelling s.to)) rest,
      append_assoc (formula_spelling s.body) (time_spelling s.from ++ time_spelling s.to) rest,
      append_assoc (time_spelling s.from) (time_spelling s.to) rest,
      word_again 1 32 is_principal_name input s.who (formula_spelling s.body ++ (time_spelling s.from ++ (time_spelling s.to ++ rest))) short.not_below short.not_above h.who,
      whole_again input s.body (time_spelling s.from ++ (time_spelling s.to ++ rest)) h.body,
      time_again input s.from (time_spelling s.to ++ rest) h.statement.from_in_range,
      time_again input s.to rest h.statement.to_in_range,
      test,
    ) refl

statement_memoryless : (input : ℕ) (bytes : List ℕ) → statement_at input bytes ≡ Err faults.NoMemory → ⊥
unfolding statement_at
statement_memoryless input bytes e =
    bind_memoryless (name_at input bytes) (λ who. whole_formula_at input who.1 >>= λ body. time_at input body.1 >>= λ from. time_at input from.1 >>= λ to. cond (is_sayable body.0) (Ok (statement_view who.0 body.0 from.0 to.0, to.1)) (Err (NotCanonical (place input bytes)))) (word_memoryless 1 32 is_principal_name input bytes)
    (λ who e1. bind_memoryless (whole_formula_at input who.1) (λ body. time_at input body.1 >>= λ from. time_at input from.1 >>= λ to. cond (is_sayable body.0) (Ok (statement_view who.0 body.0 from.0 to.0, to.1)) (Err (NotCanonical (place input bytes)))) (whole_memoryless input who.1)
    (λ body e2. bind_memoryless (time_at input body.1) (λ from. time_at input from.1 >>= λ to. cond (is_sayable body.0) (Ok (statement_view who.0 body.0 from.0 to.0, to.1)) (Err (NotCanonical (place input bytes)))) (time_memoryless input body.1)
    (λ from e3. bind_memoryless (time_at input from.1) (λ to. cond (is_sayable body.0) (Ok (statement_view who.0 body.0 from.0 to.0, to.1)) (Err (NotCanonical (place input bytes)))) (time_memoryless input from.1)
    (λ to e4. test_memoryless (is_sayable body.0) (Ok (statement_view who.0 body.0 from.0 to.0, to.1)) (Err (NotCanonical (place input bytes))) (λ k. cc) (λ k. cc) e4) e3) e2) e1) e

pub statement_codec : IsCodec IsSpellableStatement statement_spelling statement_at
statement_codec = codec IsSpellableStatement statement_spelling statement_at statement_found statement_again statement_memoryless

-- a statement that may not be made
pub test_fails : (input start : ℕ) (who bytes : List ℕ) (body : FormulaView) (behind_body : List ℕ) (from : TimePoint) (behind_from : List ℕ) (to : TimePoint) (rest : List ℕ) → AreBytes bytes
    → whole_formula_at input bytes ≡ Ok (body, behind_body) → time_at input behind_body ≡ Ok (from, behind_from) → time_at input behind_from ≡ Ok (to, rest)
    → (IsStatement (statement_view who body from to) → ⊥) → body_at input start who bytes ≡ Err (NotCanonical start)
unfolding body_at
test_fails input start who bytes body behind_body from behind_from to rest fits e1 e2 e3 refused =
    let formula = whole_found input bytes behind_body body fits e1 in
    let fits_from = rest_bytes bytes (formula_spelling body) behind_body fits formula.1 in
    let first = time_found input behind_body behind_from from fits_from e2 in
    let fits_to = rest_bytes behind_body (time_spelling from) behind_from fits_from first.1 in
    let last = time_found input behind_from rest to fits_to e3 in
    let test : is_sayable body ≡ false = false_from_ne_true (is_sayable body) (λ is. refused (statement_from_test who body from to is formula.0.terms first.0 last.0)) in
    rw (e1, e2, e3, test) refl

-- a statement that may be made
pub test_passes : (input start : ℕ) (who bytes : List ℕ) (body : FormulaView) (behind_body : List ℕ) (from : TimePoint) (behind_from : List ℕ) (to : TimePoint) (rest : List ℕ)
    → whole_formula_at input bytes ≡ Ok (body, behind_body) → time_at input behind_body ≡ Ok (from, behind_from) → time_at input behind_from ≡ Ok (to, rest)
    → IsStatement (statement_view who body from to) → body_at input start who bytes ≡ Ok (statement_view who body from to, rest)
unfolding body_at
test_passes input start who bytes body behind_body from behind_from to rest e1 e2 e3 h = rw (e1, e2, e3, test_from_statement who body from to h) refl
