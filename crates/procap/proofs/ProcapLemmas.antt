-- Procaps: what is read is spelled so, and what is spelled so is read.
use Rattle.std.proofs.Common.{◌≡◌, ℕ, ◌≤◌, ◌<◌, true, false, eqb, ltb, List, [], ◌∷◌, ◌++◌, length, take, drop, Result, Ok, Err, refl, sym, ap, subst, ◌∙◌, append_assoc, arith}
use Rattle.std.proofs.lemmas.Bool.{ltb-false, le-ltb, lt-ltb, eqb-true}
use Rattle.std.proofs.lemmas.List.{append-nil, take_at, drop_at, take-append-drop, length-append, length-take}
use Rattle.bl_syntax.specs.declared.codec_fault.CodecFault.{CodecFault}
use Rattle.bl_syntax.specs.declared.codec_fault.CodecFault.TheVariants as faults
use Rattle.bl_syntax.specs.Grant.{GrantView}
use Rattle.bl_syntax.specs.Reading.{◌>>=◌, place}
use Rattle.bl_syntax.specs.Codec.{AreBytes, IsCodec, ReportsFault}
use Rattle.bl_syntax.proofs.CodecLemmas.{bind_ok, by_test, ok_is, bind_memoryless, codec}
use Rattle.procap.specs.declared.procap.Procap.{Procap}
use Rattle.procap.specs.GrantSpelling.{grant_spelling}
use Rattle.procap.specs.GrantReading.{grant_at}
use Rattle.procap.specs.Procap.{procap_spelling, IsSpellableProcap, tag_at, procap_at, at_end, whole_procap, ReadsWholeProcap}
use Rattle.procap.proofs.ItemsLemmas.{test_memoryless}
use Rattle.procap.proofs.GrantLemmas.{grant_codec}
use Rattle.bl_syntax.proofs.ReportsFaultLemmas.{hands_on, stops_with}

abbrev pub sealed : GrantView → List ℕ → Procap
sealed grant tag = record { grant = grant; tag = tag }

tag_found : (bytes tag rest : List ℕ) → tag_at bytes ≡ Ok (tag, rest) → (length tag ≡ 32) × (bytes ≡ tag ++ rest)
unfolding tag_at
tag_found bytes tag rest e =
    by_test (ltb (length bytes) 32) (Err faults.Short) (Ok (take 32 bytes, drop 32 bytes)) (Ok (tag, rest)) e (λ _ fault. absurd cc) (λ long found.
    let pair = ok_is (take 32 bytes, drop 32 bytes) (tag, rest) found in
    let enough : 32 ≤ length bytes = ltb-false _ _ long in
    let count : length (take 32 bytes) ≡ 32 = omega (arith, length-take 32 bytes) in
    subst (λ (p : List ℕ × List ℕ). (length p.0 ≡ 32) × (bytes ≡ p.0 ++ p.1)) pair (count, sym (take-append-drop 32 bytes)))

tag_again : (tag rest : List ℕ) → length tag ≡ 32 → tag_at (tag ++ rest) ≡ Ok (tag, rest)
unfolding tag_at
tag_again tag rest h =
    let long : ltb (length (tag ++ rest)) 32 ≡ false = le-ltb _ _ (omega (arith, h, length-append tag rest)) in
    rw (long, take_at tag rest 32 h, drop_at tag rest 32 h) refl

tag_memoryless : (bytes : List ℕ) → tag_at bytes ≡ Err faults.NoMemory → ⊥
unfolding tag_at
tag_memoryless bytes e = test_memoryless (ltb (length bytes) 32) (Err faults.Short) (Ok (take 32 bytes, drop 32 bytes)) (λ h. cc) (λ h. cc) e

procap_found : (input : ℕ) (bytes rest : List ℕ) (p : Procap) → AreBytes bytes → procap_at input bytes ≡ Ok (p, rest) → IsSpellableProcap p × (bytes ≡ procap_spelling p ++ rest)
unfolding procap_at procap_spelling
procap_found input bytes rest p fits e =
    let a = bind_ok (grant_at input bytes) (λ grant. tag_at grant.1 >>= λ tag. Ok (sealed grant.0 tag.0, tag.1)) (p, rest) e in
    let b = bind_ok (tag_at a.0.1) (λ tag. Ok (sealed a.0.0 tag.0, tag.1)) (p, rest) a.2 in
    let one = grant_codec.found input bytes a.0.1 a.0.0 fits a.1 in
    let two = tag_found a.0.1 b.0.0 b.0.1 b.1 in
    let whole : bytes ≡ (grant_spelling a.0.0 ++ b.0.0) ++ b.0.1 = one.1 ∙ ap (λ (end : List ℕ). grant_spelling a.0.0 ++ end) two.1 ∙ sym (append_assoc (grant_spelling a.0.0) b.0.0 b.0.1) in
    let spelled : IsSpellableProcap (sealed a.0.0 b.0.0) = record { grant = one.0; length_of_tag = two.0 } in
    subst (λ (q : Procap × List ℕ). IsSpellableProcap q.0 × (bytes ≡ (grant_spelling q.0.grant ++ q.0.tag) ++ q.1)) (ok_is (sealed a.0.0 b.0.0, b.0.1) (p, rest) b.2) (spelled, whole)

procap_again : (input : ℕ) (p : Procap) (rest : List ℕ) → IsSpellableProcap p → procap_at input (procap_spelling p ++ rest) ≡ Ok (p, rest)
unfolding procap_at procap_spelling
procap_again input p rest h =
    rw (append_assoc (grant_spelling p.grant) p.tag rest, grant_codec.again input p.grant (p.tag ++ rest) h.grant, tag_again p.tag rest h.length_of_tag) refl

procap_memoryless : (input : ℕ) (bytes : List ℕ) → procap_at input bytes ≡ Err faults.NoMemory → ⊥
unfolding procap_at
procap_memoryless input bytes e =
    bind_memoryless (grant_at input bytes) _ (grant_codec.memoryless input bytes) (λ grant h. bind_memoryless (tag_at grant.1) _ (tag_memoryless grant.1) (λ tag k. cc) h) e

pub procap_codec : IsCodec IsSpellableProcap procap_spelling procap_at
procap_codec = codec IsSpellableProcap procap_spelling procap_at procap_found procap_again procap_memoryless

-- ---- calls

pub grant_stops : (input : ℕ) (bytes : List ℕ) (fault : CodecFault) → ReportsFault fault (grant_at input bytes) → ReportsFault fault (procap_at input bytes)
unfolding procap_at
grant_stops input bytes fault h = hands_on fault (grant_at input bytes) (λ grant. tag_at grant.1 >>= λ tag. Ok (sealed grant.0 tag.0, tag.1)) h

pub tag_is_short : (input : ℕ) (bytes rest : List ℕ) (g : GrantView) → grant_at input bytes ≡ Ok (g, rest) → length rest < 32 → procap_at input bytes ≡ Err faults.Short
unfolding procap_at tag_at
tag_is_short input bytes rest g e short = rw (e, lt-ltb _ _ short) refl

pub procap_is_read : (input : ℕ) (bytes rest : List ℕ) (g : GrantView) → grant_at input bytes ≡ Ok (g, rest) → 32 ≤ length rest → procap_at input bytes ≡ Ok (sealed g (take 32 rest), drop 32 rest)
unfolding procap_at tag_at
procap_is_read input bytes rest g e long = rw (e, le-ltb _ _ long) refl

-- ---- procaps that are the whole input

at_end_ok : {A : Type 0} (input : ℕ) (r : A × List ℕ) (x : A) → at_end input r ≡ Ok x → (r.0 ≡ x) × (r.1 ≡ [])
at_end_ok input (y, []) x e = (ok_is y x e, refl)
at_end_ok input (y, byte ∷ rest) x e = absurd cc

pub whole_found : (bytes : List ℕ) (p : Procap) → AreBytes bytes → whole_procap bytes ≡ Ok p → IsSpellableProcap p × (bytes ≡ procap_spelling p)
unfolding whole_procap
whole_found bytes p fits e =
    let a = bind_ok (procap_at (length bytes) bytes) (at_end (length bytes)) p e in
    let end = at_end_ok (length bytes) a.0 p a.2 in
    let it = procap_found (length bytes) bytes a.0.1 a.0.0 fits a.1 in
    let ended : bytes ≡ procap_spelling a.0.0 = it.1 ∙ ap (λ (rest : List ℕ). procap_spelling a.0.0 ++ rest) end.1 ∙ append-nil (procap_spelling a.0.0) in
    subst (λ (q : Procap). IsSpellableProcap q × (bytes ≡ procap_spelling q)) end.0 (it.0, ended)

pub whole_again : (p : Procap) → IsSpellableProcap p → whole_procap (procap_spelling p) ≡ Ok p
unfolding whole_procap
whole_again p h =
    let read : procap_at (length (procap_spelling p)) (procap_spelling p) ≡ Ok (p, []) =
    ap (procap_at (length (procap_spelling p))) (sym (append-nil (procap_spelling p))) ∙ procap_again (length (procap_spelling p)) p [] h in
    rw read refl

pub reads_ok : (bytes : List ℕ) (p : Procap) → AreBytes bytes → whole_procap bytes ≡ Ok p → ReadsWholeProcap IsSpellableProcap procap_spelling bytes (Ok p)
reads_ok bytes p fits e = record { found = whole_found bytes p fits e; refused = tt }

differ : (p : Procap) (fault : CodecFault) (r : Result Procap CodecFault) → r ≡ Ok p → r ≡ Err fault → ⊥
differ p fault r x y = cc

pub reads_err : (bytes : List ℕ) (fault : CodecFault) → ((fault ≡ faults.NoMemory → ⊥) → whole_procap bytes ≡ Err fault) → ReadsWholeProcap IsSpellableProcap procap_spelling bytes (Err fault)
reads_err bytes fault e = record {
  found = tt;
  refused = λ memory p spelled is. differ p fault (whole_procap bytes) (ap whole_procap is ∙ whole_again p spelled) (e memory);
}

-- ---- calls that read the whole input

pub procap_stops : (bytes : List ℕ) (fault : CodecFault) → ReportsFault fault (procap_at (length bytes) bytes) → ReportsFault fault (whole_procap bytes)
unfolding whole_procap
procap_stops bytes fault h = hands_on fault (procap_at (length bytes) bytes) (at_end (length bytes)) h

pub is_whole : (bytes rest : List ℕ) (p : Procap) → procap_at (length bytes) bytes ≡ Ok (p, rest) → eqb (length rest) 0 ≡ true → whole_procap bytes ≡ Ok p
unfolding whole_procap
is_whole bytes [] p e none = rw e refl
is_whole bytes (byte ∷ rest) p e none = absurd (omega (arith, eqb-true (length (byte ∷ rest)) 0 none))

pub is_left_over : (bytes rest : List ℕ) (p : Procap) → procap_at (length bytes) bytes ≡ Ok (p, rest) → eqb (length rest) 0 ≡ false → whole_procap bytes ≡ Err (faults.NotCanonical (place (length bytes) rest))
unfolding whole_procap
is_left_over bytes [] p e some = absurd cc
is_left_over bytes (byte ∷ rest) p e some = rw e refl

pub reads_stop : (bytes : List ℕ) (fault : CodecFault) → ReportsFault fault (whole_procap bytes) → ReadsWholeProcap IsSpellableProcap procap_spelling bytes (Err fault)
reads_stop bytes fault h = reads_err bytes fault (λ memory. stops_with fault (whole_procap bytes) h memory)
