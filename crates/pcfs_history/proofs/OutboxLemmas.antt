-- What is made before it is written.
use Rattle.std.proofs.Common.{◌≡◌, ℕ, ◌+◌, List, [], ◌++◌, length, take, Option, Some, None, refl, sym, ap, ◌∙◌, subst, arith, append_assoc, length-append}
use Rattle.std.proofs.lemmas.List.{append-nil, take-append-le}
use Rattle.std.proofs.Math.Seq.{take-append-add}
use Rattle.pcfs_ports.proofs.TakesLemmas.{with_back-with_back}
use Rattle.pcfs_ports.specs.Observable.{with_back, HoldsSome}
use Rattle.pcfs_history.specs.Outbox.{GoesOut}

-- no byte after what is held is no change
pub with_back-nil : (shown : Option (List ℕ)) → shown ≡ with_back shown []
with_back-nil None = refl
with_back-nil (Some first) = ap (λ (bytes : List ℕ). Some bytes) (sym (append-nil first))

-- nothing was written
pub none_held : (held : Option (List ℕ)) (bytes : List ℕ) → HoldsSome held held bytes
none_held held bytes = record { count = 0; within = omega arith; held = with_back-nil held }

-- all was written
pub GoesOut-all : (held held_after : Option (List ℕ)) (bytes made : List ℕ) → held_after ≡ with_back held bytes → made ≡ [] → GoesOut held bytes held_after made
GoesOut-all held held_after bytes made written empty = record { sent = bytes; parts = sym (append-nil bytes) ∙ ap (λ (c : List ℕ). bytes ++ c) (sym empty); output = written }

-- nothing was made yet
pub GoesOut-first : (held : Option (List ℕ)) (made : List ℕ) → made ≡ [] → GoesOut held [] held made
GoesOut-first held made empty = GoesOut-all held held [] made (with_back-nil held) empty

-- more bytes go out after those that are on their way
pub GoesOut-more : (held mid new : Option (List ℕ)) (bytes made more after : List ℕ) → GoesOut held bytes mid made → GoesOut mid (made ++ more) new after → GoesOut held (bytes ++ more) new after
GoesOut-more held mid new bytes made more after first next = record {
  sent = first.sent ++ next.sent;
  parts = ap (λ (b : List ℕ). b ++ more) first.parts ∙ append_assoc first.sent made more ∙ ap (λ (b : List ℕ). first.sent ++ b) next.parts ∙ sym (append_assoc first.sent next.sent after);
  output = next.output ∙ ap (λ (t : Option (List ℕ)). with_back t next.sent) first.output ∙ with_back-with_back held first.sent next.sent;
}

-- all that was made is out
pub GoesOut-whole : (held mid new : Option (List ℕ)) (bytes made : List ℕ) → GoesOut held bytes mid made → new ≡ with_back mid made → new ≡ with_back held bytes
GoesOut-whole held mid new bytes made first written =
    written ∙ ap (λ (t : Option (List ℕ)). with_back t made) first.output ∙ with_back-with_back held first.sent made ∙ ap (with_back held) (sym first.parts)

-- some first part of what was made is out
pub GoesOut-some : (held mid new : Option (List ℕ)) (bytes made more : List ℕ) → GoesOut held bytes mid made → HoldsSome mid new (made ++ more) → HoldsSome held new (bytes ++ more)
GoesOut-some held mid new bytes made more first some =
    let whole : bytes ++ more ≡ first.sent ++ (made ++ more) = ap (λ (b : List ℕ). b ++ more) first.parts ∙ append_assoc first.sent made more in
    let long : length (bytes ++ more) ≡ length (first.sent ++ (made ++ more)) = ap length whole in
    record {
      count = length first.sent + some.count;
      within = omega (arith, some.within, long, length-append first.sent (made ++ more));
      held = some.held ∙ ap (λ (t : Option (List ℕ)). with_back t (take some.count (made ++ more))) first.output ∙ with_back-with_back held first.sent (take some.count (made ++ more))
          ∙ ap (with_back held) (sym (take-append-add first.sent (made ++ more) some.count) ∙ ap (take (length first.sent + some.count)) (sym whole));
    }

-- a first part is one of more bytes
pub HoldsSome-more : (held new : Option (List ℕ)) (bytes more : List ℕ) → HoldsSome held new bytes → HoldsSome held new (bytes ++ more)
HoldsSome-more held new bytes more some = record {
  count = some.count;
  within = omega (arith, some.within, length-append bytes more);
  held = some.held ∙ ap (with_back held) (sym (take-append-le some.count bytes more some.within));
}

-- and of all, if these are their first
pub HoldsSome-of : (held new : Option (List ℕ)) (bytes more all : List ℕ) → all ≡ bytes ++ more → HoldsSome held new bytes → HoldsSome held new all
HoldsSome-of held new bytes more all parts some = subst (HoldsSome held new) (sym parts) (HoldsSome-more held new bytes more some)

-- some first part of what was made at last is out
pub GoesOut-part : (held mid new : Option (List ℕ)) (bytes made : List ℕ) → GoesOut held bytes mid made → HoldsSome mid new made → HoldsSome held new bytes
GoesOut-part held mid new bytes made first some =
    subst (HoldsSome held new) (append-nil bytes) (GoesOut-some held mid new bytes made [] first (subst (HoldsSome mid new) (sym (append-nil made)) some))

-- of what is on its way some first part is out
pub GoesOut-held : (held mid : Option (List ℕ)) (bytes made : List ℕ) → GoesOut held bytes mid made → HoldsSome held mid bytes
GoesOut-held held mid bytes made first = GoesOut-part held mid mid bytes made first (none_held mid made)
