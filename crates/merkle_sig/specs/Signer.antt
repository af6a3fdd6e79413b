-- A signer, the calls on it, and the leaves that it gives.
use Rattle.std.specs.Prelude.{◌≡◌, ◌<◌, ℕ, ◌+◌, ◌^◌, List, [], ◌∷◌, ◌++◌, Result, Ok, Err}
use Rattle.merkle_sig.specs.Signature.{leaf_number, signature_of}
use Rattle.merkle_sig.specs.declared.signer.SignFault.{SignFault}
use Rattle.merkle_sig.specs.declared.signer.SignFault.TheVariants.{Spent, NoMemory}

-- a signer: its seed, the height of its tree, and the next leaf that it gives
pub record SignerView : Type 0 where
  pub seed : List ℕ
  pub height : ℕ
  pub next : ℕ

-- what a call gives: a signature, or why there is none
abbrev pub Signing : Type 0
Signing = Result (List ℕ) SignFault

-- A call on a signer. It gives the signature of the message by the next leaf, which is spent from
-- then on; without one the signer stays as it is.
pub data Signs (s : SignerView) (message : List ℕ) : Signing → SignerView → Type 0 where
  signs : s.next < 2 ^ s.height → Signs s message (Ok (signature_of s.seed s.height s.next message)) (record s { next = s.next + 1 })
  spent : s.next ≡ 2 ^ s.height → Signs s message (Err Spent) s
  without_memory : s.next < 2 ^ s.height → Signs s message (Err NoMemory) s

-- calls on a signer, one after another, with what each gave
pub data SignsAll : SignerView → List (List ℕ × Signing) → SignerView → Type 0 where
  none : (s : SignerView) → SignsAll s [] s
  one_more : (s between after : SignerView) (message : List ℕ) (given : Signing) (others : List (List ℕ × Signing)) →
      Signs s message given between → SignsAll between others after →
      SignsAll s ((message, given) ∷ others) after

-- the leaf of a signature, if there is one
abbrev pub leaf_of : Signing → List ℕ
leaf_of (Ok signature) = leaf_number signature ∷ []
leaf_of (Err fault) = []

-- the leaves of the signatures that calls gave
abbrev pub leaves_of : List (List ℕ × Signing) → List ℕ
leaves_of [] = []
leaves_of (call ∷ others) = leaf_of call.1 ++ leaves_of others
