-- Calls on a signer, and the leaves that they give.
use Rattle.std.proofs.Common.{◌≡◌, ◌≢◌, ℕ, ◌+◌, ◌^◌, ◌<◌, ◌≤◌, List, ◌∷◌, length, Ok, Err, ◌⊎◌, inl, inr, refl, sym, ap₂, subst, arith}
use Rattle.std.specs.List.{AllPairs, range_with_len}
use Rattle.std.proofs.Math.Pow.{pow_mono}
use Rattle.std.proofs.lemmas.Bool.{cases_lt}
use Rattle.std.proofs.lemmas.List.FromFn.{get_or-range_with_len, length-range_with_len}
use Rattle.bl_syntax.specs.declared.limits.TheConstants.{HIGHEST_TREE}
use Rattle.merkle_sig.specs.Laws.{EachCallIsAnswered, IsSigner, LeavesRise, NoLeafTwice}
use Rattle.merkle_sig.specs.Signature.{signature_of}
use Rattle.merkle_sig.specs.Signer.{SignerView, Signing, Signs, signs, spent, without_memory, SignsAll, none, one_more, leaves_of}
use Rattle.merkle_sig.specs.declared.signer.SignFault.TheVariants.{Spent, NoMemory}
use Rattle.merkle_sig.proofs.AcceptLemmas.{number_is}

-- a leaf of a tree of height 8 at most has a number of four bytes
pub fits : (height leaf : ℕ) → height ≤ HIGHEST_TREE → leaf < 2 ^ height → leaf < 2 ^ 32
fits height leaf low within =
    let most : 2 ^ height ≤ 2 ^ 8 = pow_mono low in
    omega (arith, most)

-- ---- the leaves rise

abbrev Rises : SignerView → List (List ℕ × Signing) → SignerView → Type 0
Rises s calls after = (leaves_of calls ≡ range_with_len s.next (length (leaves_of calls))) × (after.next ≡ s.next + length (leaves_of calls))

abbrev next_of : SignerView → SignerView
next_of s = record s { next = s.next + 1 }

signer_after : (s after : SignerView) (message : List ℕ) (given : Signing) → IsSigner s → Signs s message given after → IsSigner after
signer_after s _ message _ is (signs within) = record { low = is.low; within = omega arith }
signer_after s _ message _ is (spent all) = is
signer_after s _ message _ is (without_memory within) = is

one_leaf : (s after : SignerView) (message : List ℕ) (calls : List (List ℕ × Signing)) → IsSigner s → s.next < 2 ^ s.height → Rises (next_of s) calls after
    → Rises s ((message, Ok (signature_of s.seed s.height s.next message)) ∷ calls) after
one_leaf s after message calls is within rises =
    let leaf = number_is s.seed s.height s.next message within (fits s.height s.next is.low within) in
    (ap₂ (λ (n : ℕ) (ns : List ℕ). n ∷ ns) (sym leaf) rises.0, omega (arith, rises.1))

rise_by : (s between after : SignerView) (message : List ℕ) (given : Signing) (calls : List (List ℕ × Signing)) → IsSigner s → Signs s message given between → Rises between calls after
    → Rises s ((message, given) ∷ calls) after
rise_by s _ after message _ calls is (signs within) rises = one_leaf s after message calls is within rises
rise_by s _ after message _ calls is (spent all) rises = rises
rise_by s _ after message _ calls is (without_memory within) rises = rises

rise : (s after : SignerView) (calls : List (List ℕ × Signing)) → IsSigner s → SignsAll s calls after → Rises s calls after
rise s _ _ is (none _) = (refl, omega arith)
rise s after _ is (one_more _ between _ message given calls first others) =
    rise_by s between after message given calls is first (rise between after calls (signer_after s between message given is first) others)

pub rises : LeavesRise
rises s after calls is signed = rise s after calls is signed

-- ---- so none comes twice

range_apart : (from n : ℕ) → AllPairs ◌≢◌ (range_with_len from n)
range_apart from n i j d before within = λ same.
    let many = length-range_with_len from n in
    let first = get_or-range_with_len from n i d (omega (arith, many)) in
    let second = get_or-range_with_len from n j d (omega (arith, many)) in
    omega (arith, first, second, same)

pub apart : NoLeafTwice
apart s after calls is signed = subst (AllPairs ◌≢◌) (sym (rise s after calls is signed).0) (range_apart s.next (length (leaves_of calls)))

-- ---- each call has an answer

abbrev HasAnswer : SignerView → List ℕ → Type 0
HasAnswer s message = (given : Signing) × (after : SignerView) × Signs s message given after × (given ≢ Err NoMemory)

answer : (s : SignerView) (message : List ℕ) → IsSigner s → (s.next < 2 ^ s.height) ⊎ (2 ^ s.height ≤ s.next) → HasAnswer s message
answer s message is (inl within) = (Ok (signature_of s.seed s.height s.next message), next_of s, signs within, λ same. cc)
answer s message is (inr past) = (Err Spent, s, spent (let low = is.within in omega arith), λ same. cc)

pub answered : EachCallIsAnswered
answered s message is = answer s message is (cases_lt s.next (2 ^ s.height))

-- ---- a call that gives a signature

pub signs_now : (s inside : SignerView) (message signature : List ℕ) → inside ≡ s → s.next < 2 ^ s.height → signature ≡ signature_of s.seed s.height s.next message
    → Signs s message (Ok signature) (record inside { next = inside.next + 1 })
signs_now s inside message signature same within is =
    subst (λ (given : List ℕ). Signs s message (Ok given) (record inside { next = inside.next + 1 })) (sym is)
    (subst (λ (t : SignerView). Signs s message (Ok (signature_of s.seed s.height s.next message)) (record t { next = t.next + 1 })) (sym same) (signs within))

-- a leaf is left where not all are spent
pub one_is_left : (s inside : SignerView) (width : ℕ) → inside ≡ s → inside.next ≤ 2 ^ inside.height → width ≡ 2 ^ inside.height → (inside.next ≡ width → ⊥) → s.next < 2 ^ s.height
one_is_left s inside width same low is_width other =
    let left : inside.next < 2 ^ inside.height = omega (arith, low, is_width, other) in
    subst (λ (t : SignerView). t.next < 2 ^ t.height) same left
