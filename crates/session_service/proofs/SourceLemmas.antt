-- Which input, output and nonce are those of a connection's number.
use Rattle.std.proofs.Common.{◌≡◌, ◌∙◌, ℕ, ◌+◌, ◌-◌, ◌*◌, List, length, Option, Some, None, ap, subst, arith}
use Rattle.std.specs.Option.{option_map}
use Rattle.std.proofs.lemmas.Option.{slice_get-map}
use Rattle.pcfs_ports.specs.Telling.{IsAt, AreTakenOff, IsNextNonce, IsNonceAt}
use Rattle.pcfs_server.proofs.TellingLemmas.{taken_none, taken_more}
use Rattle.session_service.specs.Sessions.{IsInputOf, IsNonceOf, inputs_of}
use Rattle.session_service.specs.Conversation.{IsConnectionOf}

-- ---- inputs and outputs

-- the connection at a place, from 0, is that of the number after it
pub connection_of : {I O : Type 0} (queue : Option (List (I × O))) (place number : ℕ) (input : I) (output : O) → number ≡ place + 1 → IsAt queue place input output → IsConnectionOf queue number input output
connection_of queue place number input output is at =
    let here : place ≡ number - 1 = omega (arith, is) in
    subst (λ (k : ℕ). IsAt queue k input output) here at

-- and so is its input
pub input_of : {I O : Type 0} (left : I → Option (List ℕ)) (queue : Option (List (I × O))) (number : ℕ) (input : I) (output : O) → IsConnectionOf queue number input output → IsInputOf (inputs_of left queue) number (left input)
input_of left None number input output is = tt
input_of left (Some all) number input output is = slice_get-map (λ c. left c.0) all (number - 1) ∙ ap (option_map (λ c. left c.0)) is

-- ---- nonces

-- none was given at first
pub nonce_first : (made : ℕ) (first old : Option (List ℕ)) → made ≡ 0 → first ≡ old → AreTakenOff (16 * made) first old
nonce_first made first old none same =
    let count : 0 ≡ 16 * made = omega (arith, none) in
    subst (λ (n : ℕ). AreTakenOff n first old) count (subst (λ (told : Option (List ℕ)). AreTakenOff 0 first told) same (taken_none first))

-- no nonce was given
pub nonce_none : (count : ℕ) (first old new : Option (List ℕ)) → AreTakenOff count first old → AreTakenOff 0 old new → AreTakenOff count first new
nonce_none count first old new before none =
    let same : count + 0 ≡ count = omega arith in
    subst (λ (n : ℕ). AreTakenOff n first new) same (taken_more count 0 first old new before none)

-- one more was given
pub nonce_more : (made : ℕ) (first old new : Option (List ℕ)) → AreTakenOff (16 * made) first old → AreTakenOff 16 old new → AreTakenOff (16 * (made + 1)) first new
nonce_more made first old new before more =
    let same : 16 * made + 16 ≡ 16 * (made + 1) = omega arith in
    subst (λ (n : ℕ). AreTakenOff n first new) same (taken_more (16 * made) 16 first old new before more)

nonce_placed : (made : ℕ) (first old : Option (List ℕ)) (nonce : List ℕ) → AreTakenOff (16 * made) first old → IsNextNonce old nonce → IsNonceAt first made nonce
nonce_placed made None old nonce taken next = tt
nonce_placed made (Some bytes) old nonce taken next = subst (λ (told : Option (List ℕ)). IsNextNonce told nonce) taken next

-- it is that of the number after so many
pub nonce_of : (made number : ℕ) (first old : Option (List ℕ)) (nonce : List ℕ) → number ≡ made + 1 → AreTakenOff (16 * made) first old → length nonce ≡ 16 → IsNextNonce old nonce → IsNonceOf first number nonce
nonce_of made number first old nonce is taken long next =
    let here : made ≡ number - 1 = omega (arith, is) in
    record { sixteen = long; at = subst (λ (k : ℕ). IsNonceAt first k nonce) here (nonce_placed made first old nonce taken next) }
