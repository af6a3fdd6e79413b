-- Replies that are collected before they are written.
use Rattle.std.proofs.Common.{◌≡◌, ℕ, ◌+◌, ◌≤◌, List, [], ◌++◌, length, take, Option, Some, None, Result, Ok, Err, OnErr, refl, sym, ap, ◌∙◌, subst, arith, append-nil, append_assoc, length-append}
use Rattle.std.proofs.lemmas.List.{take-append-le, take_at}
use Rattle.std.proofs.Math.Seq.{take-append-add}
use Rattle.pcfs_ports.proofs.TakesLemmas.{with_back-with_back}
use Rattle.pcfs_ports.specs.Observable.{with_back, HoldsSome}
use Rattle.pcfs_session.specs.Outbox.{GoesOut, HoldsAllBut, missing_after}
use Rattle.pcfs_session.specs.declared.outbox.SendFault.{SendFault}
use Rattle.pcfs_session.specs.declared.outbox.SendFault.TheVariants.{Write, NoMemory}

-- no byte after what is held is no change
pub with_back-nil : (told : Option (List ℕ)) → told ≡ with_back told []
with_back-nil None = refl
with_back-nil (Some first) = ap Some (sym (append-nil first))

-- nothing was written yet
pub GoesOut-none : (held : Option (List ℕ)) (bytes : List ℕ) → GoesOut held bytes held bytes
GoesOut-none held bytes = record { sent = []; parts = refl; output = with_back-nil held }

-- all was written
pub GoesOut-all : (held held_after : Option (List ℕ)) (bytes collected : List ℕ) → held_after ≡ with_back held bytes → collected ≡ [] → GoesOut held bytes held_after collected
GoesOut-all held held_after bytes collected written empty = record { sent = bytes; parts = sym (append-nil bytes) ∙ ap (λ (c : List ℕ). bytes ++ c) (sym empty); output = written }

-- more bytes go out after those that are on their way
pub GoesOut-more : (held mid new : Option (List ℕ)) (bytes collected more after : List ℕ) → GoesOut held bytes mid collected → GoesOut mid (collected ++ more) new after → GoesOut held (bytes ++ more) new after
GoesOut-more held mid new bytes collected more after first next = record {
  sent = first.sent ++ next.sent;
  parts = ap (λ (b : List ℕ). b ++ more) first.parts ∙ append_assoc first.sent collected more ∙ ap (λ (b : List ℕ). first.sent ++ b) next.parts ∙ sym (append_assoc first.sent next.sent after);
  output = next.output ∙ ap (λ (t : Option (List ℕ)). with_back t next.sent) first.output ∙ with_back-with_back held first.sent next.sent;
}

-- all that was collected is out
pub GoesOut-whole : (held mid new : Option (List ℕ)) (bytes collected : List ℕ) → GoesOut held bytes mid collected → new ≡ with_back mid collected → new ≡ with_back held bytes
GoesOut-whole held mid new bytes collected first written =
    written ∙ ap (λ (t : Option (List ℕ)). with_back t collected) first.output ∙ with_back-with_back held first.sent collected ∙ ap (with_back held) (sym first.parts)

-- some first part of what was collected is out
pub GoesOut-some : (held mid new : Option (List ℕ)) (bytes collected more : List ℕ) → GoesOut held bytes mid collected → HoldsSome mid new (collected ++ more) → HoldsSome held new (bytes ++ more)
GoesOut-some held mid new bytes collected more first some =
    let whole : bytes ++ more ≡ first.sent ++ (collected ++ more) = ap (λ (b : List ℕ). b ++ more) first.parts ∙ append_assoc first.sent collected more in
    let long : length (bytes ++ more) ≡ length (first.sent ++ (collected ++ more)) = ap length whole in
    record {
      count = length first.sent + some.count;
      within = omega (arith, some.within, long, length-append first.sent (collected ++ more));
      held = some.held ∙ ap (λ (t : Option (List ℕ)). with_back t (take some.count (collected ++ more))) first.output ∙ with_back-with_back held first.sent (take some.count (collected ++ more))
          ∙ ap (with_back held) (sym (take-append-add first.sent (collected ++ more) some.count) ∙ ap (take (length first.sent + some.count)) (sym whole));
    }

-- a first part is one of more bytes
pub HoldsSome-more : (held new : Option (List ℕ)) (bytes more : List ℕ) → HoldsSome held new bytes → HoldsSome held new (bytes ++ more)
HoldsSome-more held new bytes more some = record {
  count = some.count;
  within = omega (arith, some.within, length-append bytes more);
  held = some.held ∙ ap (with_back held) (sym (take-append-le some.count bytes more some.within));
}

-- some first part of what was collected at last is out
pub GoesOut-part : (held mid new : Option (List ℕ)) (bytes collected : List ℕ) → GoesOut held bytes mid collected → HoldsSome mid new collected → HoldsSome held new bytes
GoesOut-part held mid new bytes collected first some =
    subst (HoldsSome held new) (append-nil bytes) (GoesOut-some held mid new bytes collected [] first (subst (HoldsSome mid new) (sym (append-nil collected)) some))

-- what follows from what a fault says
pub OnErr-weaker : {A E : Type 0} (r : Result A E) (P Q : Type 0) → (P → Q) → OnErr r P → OnErr r Q
OnErr-weaker (Ok x) P Q more says = tt
OnErr-weaker (Err e) P Q more says = more says

-- more bytes go out after those that were collected before and told since
pub GoesOut-then : (held between held_after : Option (List ℕ)) (collected told kept more after : List ℕ) → GoesOut held (collected ++ told) between kept → GoesOut between (kept ++ more) held_after after → GoesOut held (collected ++ (told ++ more)) held_after after
GoesOut-then held between held_after collected told kept more after first next =
    subst (λ (b : List ℕ). GoesOut held b held_after after) (append_assoc collected told more) (GoesOut-more held between held_after (collected ++ told) kept more after first next)

-- all of them are out
pub out_then : (held between held_after : Option (List ℕ)) (collected told kept more : List ℕ) → GoesOut held (collected ++ told) between kept → held_after ≡ with_back between (kept ++ more) → held_after ≡ with_back held (collected ++ (told ++ more))
out_then held between held_after collected told kept more first all =
    let out = GoesOut-then held between held_after collected told kept more [] first (GoesOut-all between held_after (kept ++ more) [] all refl) in
    GoesOut-whole held held_after held_after (collected ++ (told ++ more)) [] out (with_back-nil held_after)

-- what goes out with nothing collected is out
pub all_out : (held held_after : Option (List ℕ)) (bytes : List ℕ) → GoesOut held bytes held_after [] → held_after ≡ with_back held bytes
all_out held held_after bytes out = GoesOut-whole held held_after held_after bytes [] out (with_back-nil held_after)

-- ---- all but few bytes are out

-- so many were collected at most, and some first part of them is out
pub HoldsAllBut-collected : (missing : ℕ) (held held_after : Option (List ℕ)) (collected more : List ℕ) → length collected ≤ missing → HoldsSome held held_after (collected ++ more) → HoldsAllBut missing held held_after (collected ++ []) (collected ++ more)
HoldsAllBut-collected missing held held_after collected more few some = record { some = some; few = omega (arith, few, length-append collected []) }

module _ (missing : ℕ) (held held_after : Option (List ℕ)) where
  -- of fewer bytes no more are missing
  pub HoldsAllBut-fewer : (earlier fewer all : List ℕ) → length fewer ≤ length earlier → HoldsAllBut missing held held_after earlier all → HoldsAllBut missing held held_after fewer all
  HoldsAllBut-fewer earlier fewer all less most = record { some = most.some; few = omega (arith, less, most.few) }

  -- after those that went out before, all but few of these are out
  pub GoesOut-most : (mid : Option (List ℕ)) (bytes collected earlier more : List ℕ) → GoesOut held bytes mid collected → HoldsAllBut missing mid held_after (collected ++ earlier) (collected ++ more) → HoldsAllBut missing held held_after (bytes ++ earlier) (bytes ++ more)
  GoesOut-most mid bytes collected earlier more first most =
      let whole : bytes ++ more ≡ first.sent ++ (collected ++ more) = ap (λ (b : List ℕ). b ++ more) first.parts ∙ append_assoc first.sent collected more in
      record {
        some = record {
          count = length first.sent + most.some.count;
          within = omega (arith, most.some.within, ap length whole, length-append first.sent (collected ++ more));
          held = most.some.held ∙ ap (λ (t : Option (List ℕ)). with_back t (take most.some.count (collected ++ more))) first.output ∙ with_back-with_back held first.sent (take most.some.count (collected ++ more))
              ∙ ap (with_back held) (sym (take-append-add first.sent (collected ++ more) most.some.count) ∙ ap (take (length first.sent + most.some.count)) (sym whole));
        };
        few = omega (arith, most.few, ap length first.parts, length-append bytes earlier, length-append collected earlier, length-append first.sent collected);
      }

  -- so they are of those that were collected before and told since
  pub most_then : (between : Option (List ℕ)) (collected told kept earlier more : List ℕ) → GoesOut held (collected ++ told) between kept → HoldsAllBut missing between held_after (kept ++ earlier) (kept ++ more) → HoldsAllBut missing held held_after (collected ++ (told ++ earlier)) (collected ++ (told ++ more))
  most_then between collected told kept earlier more first most =
      subst (λ (b : List ℕ). HoldsAllBut missing held held_after b (collected ++ (told ++ more))) (append_assoc collected told earlier)
      (subst (HoldsAllBut missing held held_after ((collected ++ told) ++ earlier)) (append_assoc collected told more) (GoesOut-most between (collected ++ told) kept earlier more first most))

  -- of what was collected at last some first part is out
  pub most_collected : (mid : Option (List ℕ)) (bytes collected fewer : List ℕ) → GoesOut held bytes mid collected → HoldsSome mid held_after collected → length collected ≤ missing → length fewer ≤ length bytes → HoldsAllBut missing held held_after fewer bytes
  most_collected mid bytes collected fewer first some few less =
      let most = GoesOut-most mid bytes collected [] [] first (HoldsAllBut-collected missing mid held_after collected [] few (subst (HoldsSome mid held_after) (sym (append-nil collected)) some)) in
      HoldsAllBut-fewer (bytes ++ []) fewer bytes (omega (arith, less, length-append bytes [])) (subst (HoldsAllBut missing held held_after (bytes ++ [])) (append-nil bytes) most)

-- all that was collected is out
pub none_missing : (held held_after : Option (List ℕ)) (collected more : List ℕ) → held_after ≡ with_back held collected → HoldsAllBut 0 held held_after (collected ++ []) (collected ++ more)
none_missing held held_after collected more out = record {
  some = record {
    count = length collected;
    within = omega (arith, length-append collected more);
    held = out ∙ ap (with_back held) (sym (take_at collected more (length collected) refl));
  };
  few = omega (arith, length-append collected []);
}

-- what is out if a reply was not sent
pub most_unsent : (buffered : ℕ) (fault : SendFault) (held held_after : Option (List ℕ)) (collected more : List ℕ) → length collected ≤ buffered → HoldsSome held held_after (collected ++ more) → (fault ≡ NoMemory → held_after ≡ with_back held collected) →
    HoldsAllBut (missing_after buffered fault) held held_after (collected ++ []) (collected ++ more)
most_unsent buffered Write held held_after collected more few some out = HoldsAllBut-collected buffered held held_after collected more few some
most_unsent buffered NoMemory held held_after collected more few some out = none_missing held held_after collected more (out refl)
