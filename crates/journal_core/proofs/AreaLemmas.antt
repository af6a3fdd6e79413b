-- What the writes of an area leave of its bytes.
use Rattle.std.proofs.Common.{◌≡◌, ◌⊎◌, ℕ, ◌+◌, ◌-◌, ◌<◌, ◌≤◌, min, List, [], ◌∷◌, ◌++◌, length, take, drop, get_or, replicate, refl, sym, ◌∙◌, ap, subst, inl, inr, ⊎_elim, arith, append_assoc, length-append, length-take, take-append-drop, get_or-take, get_or-drop}
use Rattle.std.proofs.lemmas.Bool.{cases_lt}
use Rattle.std.proofs.lemmas.List.{append-nil, take_at, take_all, take-take, take-append-le, take-replicate, drop-drop, get_or_at}
use Rattle.std.proofs.Math.Seq.{take-append-add}
use Rattle.pcfs_ports.specs.Disk.{written, Torn}
use Rattle.pcfs_ports.specs.DiskLaws.{drop_written, length-front, torn_written}
use Rattle.std.specs.Prelude.{Option, Some, None}
use Rattle.std.specs.Option.{option_map}
use Rattle.std.specs.Int.{w32, to_be_bytes}
use Rattle.journal_core.specs.Frame.{frame_bytes}
use Rattle.journal_core.specs.Area.{IsShut, Begins, Closed, record_bytes}
use Rattle.journal_core.specs.Rest.{IsWithOrWithout}

-- a front that is there is not longer than the whole
pub begins_within : (front bytes : List ℕ) → Begins front bytes → length front ≤ length bytes
begins_within front bytes begins = omega (arith, ap length begins, length-take (length front) bytes)

-- a body with a closed gate after it
pub closed_by : (body bytes rest : List ℕ) → bytes ≡ body ++ (0 ∷ rest) → Closed body bytes
closed_by body bytes rest is = record {
  stands = record {
    front = ap (take (length body)) is ∙ take_at body (0 ∷ rest) (length body) refl;
    shut = λ open_gate. absurd (zero_not_one (sym (ap (λ (b : List ℕ). get_or b (length body) 0) is ∙ get_or_at body 0 rest 0 (length body) refl) ∙ open_gate));
  };
  gate = omega (arith, ap length is, length-append body (0 ∷ rest));
}
  where
    zero_not_one : ◌≡◌ {A = ℕ} 0 1 → ⊥
    zero_not_one e = omega (arith, e)

-- a write after the closed gate leaves the body and the gate
pub torn_after : (body bytes piece left : List ℕ) → Closed body bytes → Torn (length body + 1) piece bytes left → Closed body left
torn_after body bytes piece left closed torn =
    let gate : length body < length bytes = closed.gate in
    let least : min (length body + 1) (length bytes) ≡ length body + 1 = omega arith in
    let front : take (length body + 1) left ≡ take (length body + 1) bytes = ap (λ (n : ℕ). take n left) (sym least) ∙ torn.below in
    let byte : get_or left (length body) 0 ≡ get_or bytes (length body) 0 =
    sym (get_or-take (length body + 1) left (length body) 0 (omega arith))
    ∙ ap (λ (b : List ℕ). get_or b (length body) 0) front
    ∙ get_or-take (length body + 1) bytes (length body) 0 (omega arith) in
    record {
      stands = record {
        front = sym (take-take (length body) (length body + 1) left (omega arith)) ∙ ap (take (length body)) front
            ∙ take-take (length body) (length body + 1) bytes (omega arith) ∙ closed.stands.front;
        shut = λ open_gate. closed.stands.shut (sym byte ∙ open_gate);
      };
      gate = omega (arith, gate, torn.no_shorter);
    }

-- the first byte of what stands from a place on
first_byte : (n : ℕ) (b : List ℕ) → get_or (take 1 (drop n b)) 0 0 ≡ get_or b n 0
first_byte n b = get_or-take 1 (drop n b) 0 0 (omega arith) ∙ get_or-drop n b 0 0 ∙ ap (λ (k : ℕ). get_or b k 0) (let same : n + 0 ≡ n = omega arith in same)

-- a write of the open gate leaves the body, or the body and what stands after the gate
pub torn_gate : (body bytes tail left : List ℕ) → Closed body bytes →
    Torn (length body) (1 ∷ []) (written (length body + 1) (tail ++ 0 ∷ []) bytes) left → Closed body left ⊎ Closed (body ++ 1 ∷ tail) left
torn_gate body bytes tail left closed torn =
    let mid = written (length body + 1) (tail ++ 0 ∷ []) bytes in
    let before : Closed body mid = torn_after body bytes (tail ++ 0 ∷ []) mid closed (torn_written (length body + 1) (tail ++ 0 ∷ []) bytes) in
    let long : length body < length mid = before.gate in
    let least : min (length body) (length mid) ≡ length body = omega arith in
    let front : take (length body) left ≡ body = ap (λ (n : ℕ). take n left) (sym least) ∙ torn.below ∙ before.stands.front in
    let rest = drop (length body + 1 + length (tail ++ 0 ∷ [])) bytes in
    let back : drop (length body + 1) left ≡ tail ++ 0 ∷ [] ++ rest = torn.above ∙ drop_written (length body + 1) (tail ++ 0 ∷ []) bytes in
    ⊎_elim
    (λ stays. inl (record {
      stands = record {
        front = front;
        shut = λ open_gate. before.stands.shut (sym (first_byte (length body) mid) ∙ ap (λ (b : List ℕ). get_or b 0 0) (sym stays) ∙ first_byte (length body) left ∙ open_gate);
      };
      gate = omega (arith, long, torn.no_shorter);
    }))
    (λ opens. inr (closed_by (body ++ 1 ∷ tail) left rest (
    sym (take-append-drop (length body) left)
    ∙ ap (λ (b : List ℕ). b ++ drop (length body) left) front
    ∙ ap (λ (b : List ℕ). body ++ b) (sym (take-append-drop 1 (drop (length body) left)) ∙ ap (λ (b : List ℕ). b ++ drop 1 (drop (length body) left)) opens
    ∙ ap (λ (b : List ℕ). 1 ∷ b) (drop-drop 1 (length body) left ∙ back ∙ append_assoc tail (0 ∷ []) rest))
    ∙ sym (append_assoc body (1 ∷ tail) (0 ∷ rest)))))
    (torn.single refl)

-- a first byte after which a piece was written, and then that byte, are one write
front_of : (at : ℕ) (bytes : List ℕ) → take at (take (at + 1) bytes ++ replicate (at + 1 - length bytes) 0) ≡ take at bytes ++ replicate (at - length bytes) 0
front_of at bytes =
    elim (cases_lt at (length bytes)) [
      | inl lt ↦ take-append-le at (take (at + 1) bytes) (replicate (at + 1 - length bytes) 0) (omega (arith, lt, length-take (at + 1) bytes))
          ∙ take-take at (at + 1) bytes (omega arith)
          ∙ sym (ap (λ (n : ℕ). take at bytes ++ replicate n 0) (let none : at - length bytes ≡ 0 = omega (arith, lt) in none) ∙ append-nil (take at bytes))
      | inr le ↦ ap (λ (b : List ℕ). take at (b ++ replicate (at + 1 - length bytes) 0)) (take_all (at + 1) bytes (omega (arith, le)))
          ∙ ap (λ (n : ℕ). take n (bytes ++ replicate (at + 1 - length bytes) 0)) (let is : at ≡ length bytes + (at - length bytes) = omega (arith, le) in is)
          ∙ take-append-add bytes (replicate (at + 1 - length bytes) 0) (at - length bytes)
          ∙ ap (λ (l : List ℕ). bytes ++ l) (take-replicate (at - length bytes) (at + 1 - length bytes) 0 (omega arith))
          ∙ ap (λ (l : List ℕ). l ++ replicate (at - length bytes) 0) (sym (take_all at bytes le))
    ]

pub written_twice : (at : ℕ) (byte : ℕ) (piece bytes : List ℕ) → written at (byte ∷ []) (written (at + 1) piece bytes) ≡ written at (byte ∷ piece) bytes
written_twice at byte piece bytes =
    let mid = written (at + 1) piece bytes in
    let start = take (at + 1) bytes ++ replicate (at + 1 - length bytes) 0 in
    let rest = drop (at + 1 + length piece) bytes in
    let begins : take at mid ≡ take at bytes ++ replicate (at - length bytes) 0 =
    sym (take-take at (at + 1) mid (omega arith))
    ∙ ap (take at) (ap (take (at + 1)) (append_assoc start piece rest) ∙ take_at start (piece ++ rest) (at + 1) (length-front (at + 1) piece bytes))
    ∙ front_of at bytes in
    let none : at - length mid ≡ 0 = omega (arith, ap length (append_assoc start piece rest), length-append start (piece ++ rest), length-front (at + 1) piece bytes) in
    ap (λ (n : ℕ). take at mid ++ replicate n 0 ++ byte ∷ [] ++ drop (at + 1) mid) none
    ∙ ap (λ (b : List ℕ). b ++ byte ∷ [] ++ drop (at + 1) mid) (append-nil (take at mid) ∙ begins)
    ∙ ap (λ (b : List ℕ). take at bytes ++ replicate (at - length bytes) 0 ++ byte ∷ [] ++ b) (drop_written (at + 1) piece bytes)
    ∙ append_assoc (take at bytes ++ replicate (at - length bytes) 0) (byte ∷ []) (piece ++ rest)
    ∙ ap (λ (n : ℕ). take at bytes ++ replicate (at - length bytes) 0 ++ byte ∷ (piece ++ drop n bytes)) (let same : at + 1 + length piece ≡ at + length (byte ∷ piece) = omega arith in same)
    ∙ sym (append_assoc (take at bytes ++ replicate (at - length bytes) 0) (byte ∷ piece) (drop (at + length (byte ∷ piece)) bytes))

-- what is written after a body, up to a closed gate
pub closed_written : (body more bytes : List ℕ) → Begins body bytes → Closed (body ++ more) (written (length body) (more ++ 0 ∷ []) bytes)
closed_written body more bytes begins =
    let rest = drop (length body + length (more ++ 0 ∷ [])) bytes in
    let none : length body - length bytes ≡ 0 = omega (arith, begins_within body bytes begins) in
    closed_by (body ++ more) (written (length body) (more ++ 0 ∷ []) bytes) rest (
    ap (λ (n : ℕ). take (length body) bytes ++ replicate n 0 ++ (more ++ 0 ∷ []) ++ rest) none
    ∙ ap (λ (b : List ℕ). b ++ (more ++ 0 ∷ []) ++ rest) (append-nil (take (length body) bytes) ∙ begins)
    ∙ append_assoc body (more ++ 0 ∷ []) rest
    ∙ ap (λ (b : List ℕ). body ++ b) (append_assoc more (0 ∷ []) rest)
    ∙ sym (append_assoc body more (0 ∷ rest)))

-- a write from the start on
pub written_start : (piece bytes : List ℕ) → written 0 piece bytes ≡ piece ++ drop (length piece) bytes
written_start piece bytes =
    ap (λ (n : ℕ). replicate n 0 ++ piece ++ drop (0 + length piece) bytes) (let none : 0 - length bytes ≡ 0 = omega arith in none)
    ∙ ap (λ (n : ℕ). piece ++ drop n bytes) (let same : 0 + length piece ≡ length piece = omega arith in same)

-- a closed gate written over the first byte leaves the area as it was, or none that is open
pub torn_start : (bytes left : List ℕ) → Torn 0 (0 ∷ []) bytes left → (left ≡ bytes) ⊎ IsShut left
torn_start bytes left torn =
    ⊎_elim
    (λ stays. inl (sym (take-append-drop 1 left) ∙ ap (λ (b : List ℕ). b ++ drop 1 left) stays ∙ ap (λ (b : List ℕ). take 1 bytes ++ b) torn.above ∙ take-append-drop 1 bytes))
    (λ shuts. inr (λ open_gate.
    let byte : get_or left 0 0 ≡ 0 = sym (first_byte 0 left) ∙ ap (λ (b : List ℕ). get_or b 0 0) shuts in
    absurd (omega (arith, byte, open_gate))))
    (torn.single refl)

-- and then it is shut
pub closed_start : (bytes : List ℕ) → Closed [] (written 0 (0 ∷ []) bytes)
closed_start bytes = closed_by [] (written 0 (0 ∷ []) bytes) (drop 1 bytes) (written_start (0 ∷ []) bytes)

-- three writes of an area are one
pub written_thrice : (base bytes : List ℕ) → written 0 (1 ∷ []) (written 1 base (written 0 (0 ∷ []) bytes)) ≡ written 0 (1 ∷ base) bytes
written_thrice base bytes =
    written_twice 0 1 base (written 0 (0 ∷ []) bytes)
    ∙ ap (written 0 (1 ∷ base)) (written_start (0 ∷ []) bytes)
    ∙ written_start (1 ∷ base) (0 ∷ drop 1 bytes)
    ∙ ap (λ (b : List ℕ). 1 ∷ base ++ b) (drop-drop (length base) 1 bytes ∙ ap (λ (n : ℕ). drop n bytes) (let same : 1 + length base ≡ length (1 ∷ base) = omega arith in same))
    ∙ sym (written_start (1 ∷ base) bytes)

-- what an append leaves, in the words of its records
pub append_says : (body bytes payload frame left : List ℕ) (end : ℕ) → length body ≡ end → frame ≡ frame_bytes payload → Closed body bytes →
    Torn (end + 1) frame bytes left ⊎ Torn end (1 ∷ []) (written (end + 1) frame bytes) left → IsWithOrWithout body payload left
append_says body bytes payload frame left end counted is closed torn =
    let framed : Torn (end + 1) (frame_bytes payload) bytes left ⊎ Torn end (1 ∷ []) (written (end + 1) (frame_bytes payload) bytes) left =
    subst (λ (f : List ℕ). Torn (end + 1) f bytes left ⊎ Torn end (1 ∷ []) (written (end + 1) f bytes) left) is torn in
    let placed : Torn (length body + 1) (frame_bytes payload) bytes left ⊎ Torn (length body) (1 ∷ []) (written (length body + 1) (frame_bytes payload) bytes) left =
    subst (λ (n : ℕ). Torn (n + 1) (frame_bytes payload) bytes left ⊎ Torn n (1 ∷ []) (written (n + 1) (frame_bytes payload) bytes) left) (sym counted) framed in
    ⊎_elim
    (λ after. inl (torn_after body bytes (frame_bytes payload) left closed after))
    (λ gate. torn_gate body bytes (to_be_bytes w32 (length payload) ++ payload) left closed gate)
    placed

-- a write from a place on leaves the bytes that stand in front of it
pub torn_keeps : (at : ℕ) (front bytes piece left : List ℕ) → length front ≤ at → Begins front bytes → Torn at piece bytes left → Begins front left
torn_keeps at front bytes piece left before begins torn =
    let within = begins_within front bytes begins in
    let least : length front ≤ min at (length bytes) = omega (arith, before, within) in
    sym (take-take (length front) (min at (length bytes)) left least)
    ∙ ap (take (length front)) torn.below
    ∙ take-take (length front) at bytes before
    ∙ begins

-- what an append leaves begins with the records of before
pub append_keeps : (body bytes frame left : List ℕ) (end : ℕ) → length body ≡ end → Begins body bytes →
    Torn (end + 1) frame bytes left ⊎ Torn end (1 ∷ []) (written (end + 1) frame bytes) left → Begins body left
append_keeps body bytes frame left end counted begins torn =
    let later : length body ≤ end + 1 = omega (arith, counted) in
    let here : length body ≤ end = omega (arith, counted) in
    ⊎_elim
    (λ after. torn_keeps (end + 1) body bytes frame left later begins after)
    (λ gate. torn_keeps end body (written (end + 1) frame bytes) (1 ∷ []) left here
    (torn_keeps (end + 1) body bytes frame (written (end + 1) frame bytes) later begins (torn_written (end + 1) frame bytes)) gate)
    torn

-- the two writes of an append are one of the record and a closed gate
pub append_writes : (end : ℕ) (frame payload bytes : List ℕ) → frame ≡ frame_bytes payload →
    written end (1 ∷ []) (written (end + 1) frame bytes) ≡ written end (record_bytes payload ++ 0 ∷ []) bytes
append_writes end frame payload bytes is =
    ap (λ (f : List ℕ). written end (1 ∷ []) (written (end + 1) f bytes)) is ∙ written_twice end 1 (frame_bytes payload) bytes

-- two functions that agree, on what is told
pub told_same : (f h : List ℕ → List ℕ) (told : Option (List ℕ)) → ((bytes : List ℕ) → f bytes ≡ h bytes) → option_map f told ≡ option_map h told
told_same f h None same = refl
told_same f h (Some bytes) same = ap Some (same bytes)
