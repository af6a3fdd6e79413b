-- What is written for the items of a talk, one after the other.
use Rattle.std.proofs.Common.{◌≡◌, ◌∙◌, ◌≤◌, ℕ, List, [], ◌∷◌, ◌++◌, ◌+◌, length, take, Option, refl, sym, ap, subst, arith, append_assoc, append-nil, length-append}
use Rattle.pcfs_ports.specs.Observable.{with_back, HoldsSome}
use Rattle.pcfs_ports.proofs.TakesLemmas.{with_back-with_back}
use Rattle.session_loop.specs.Written.{output_of, but_last, HoldsButLast, HoldsReplies}
use Rattle.session_loop.proofs.PortLemmas.{with_back-nil, also_some}

-- the same bytes in front of fewer and of more
longer : (front few many more : List ℕ) → length few ≤ length many + length more → length (front ++ few) ≤ length (front ++ many) + length more
longer front few many more within = omega (arith, within, length-append front few, length-append front many)

module _ {I R : Type 0} (text : I → R → List ℕ) where
  -- replies after replies
  output-append : (items others : List I) (replies more : List R) → length replies ≡ length items → output_of text (items ++ others) (replies ++ more) ≡ output_of text items replies ++ output_of text others more
  output-append [] others [] more each = refl
  output-append [] others (reply ∷ replies) more each = absurd (omega (arith, each))
  output-append (item ∷ items) others [] more each = absurd (omega (arith, each))
  output-append (item ∷ items) others (reply ∷ replies) more each =
      ap (λ (b : List ℕ). text item reply ++ b) (output-append items others replies more (omega (arith, each)))
      ∙ sym (append_assoc (text item reply) (output_of text items replies) (output_of text others more))

  -- that of one reply
  pub output-one : (item : I) (reply : R) → text item reply ≡ output_of text (item ∷ []) (reply ∷ [])
  output-one item reply = sym (append-nil (text item reply))

  -- all of these replies but the last, after others, have no more bytes than the others and all of these but the last
  but_last_length : (items others : List I) (replies more : List R) → length replies ≡ length items → length (output_of text (items ++ others) (but_last (replies ++ more))) ≤ length (output_of text items replies) + length (output_of text others (but_last more))
  but_last_length [] others [] more each = omega arith
  but_last_length [] others (reply ∷ replies) more each = absurd (omega (arith, each))
  but_last_length (item ∷ items) others [] more each = absurd (omega (arith, each))
  but_last_length (item ∷ items) others (reply ∷ []) [] each = omega arith
  but_last_length (item ∷ []) others (reply ∷ []) (next ∷ more) each =
      longer (text item reply) (output_of text others (but_last (next ∷ more))) [] (output_of text others (but_last (next ∷ more))) (omega arith)
  but_last_length (item ∷ (other ∷ items)) others (reply ∷ []) (next ∷ more) each = absurd (omega (arith, each))
  but_last_length (item ∷ items) others (reply ∷ (second ∷ replies)) more each =
      longer (text item reply) (output_of text (items ++ others) (but_last ((second ∷ replies) ++ more))) (output_of text items (second ∷ replies)) (output_of text others (but_last more))
      (but_last_length items others (second ∷ replies) more (omega (arith, each)))

  module _ (held between held_after : Option (List ℕ)) (items others : List I) (replies more : List R) (each : length replies ≡ length items) (first : between ≡ with_back held (output_of text items replies)) where
    pub out_after : held_after ≡ with_back between (output_of text others more) → held_after ≡ with_back held (output_of text (items ++ others) (replies ++ more))
    out_after next =
        next ∙ ap (λ (o : Option (List ℕ)). with_back o (output_of text others more)) first ∙ with_back-with_back held (output_of text items replies) (output_of text others more)
        ∙ ap (with_back held) (sym (output-append items others replies more each))

    -- all of them but the last, and some first part of that
    pub last_after : HoldsButLast text between held_after others more → HoldsButLast text held held_after (items ++ others) (replies ++ more)
    last_after last = record {
      some = record {
        count = length (output_of text items replies) + last.some.count;
        within = omega (arith, last.some.within, ap length (output-append items others replies more each), length-append (output_of text items replies) (output_of text others more));
        held =
            also_some held between held_after (output_of text items replies) (output_of text others more) first last.some
            ∙ ap (λ (b : List ℕ). with_back held (take (length (output_of text items replies) + last.some.count) b)) (sym (output-append items others replies more each));
      };
      earlier = omega (arith, but_last_length items others replies more each, last.earlier);
    }

  module _ (bad_text : List ℕ) where
    -- all of them, and some first part of what tells of no item
    pub replies_after : (held between held_after : Option (List ℕ)) (items : List I) (replies : List R) → between ≡ with_back held (output_of text items replies) → HoldsSome between held_after bad_text → HoldsReplies text bad_text held held_after items replies
    replies_after held between held_after items replies first some = record {
      some = record {
        count = length (output_of text items replies) + some.count;
        within = omega (arith, some.within, length-append (output_of text items replies) bad_text);
        held = also_some held between held_after (output_of text items replies) bad_text first some;
      };
      earlier = omega arith;
    }

    -- all of them, and what tells of no item
    pub told_after : (held between held_after : Option (List ℕ)) (items : List I) (replies : List R) → between ≡ with_back held (output_of text items replies) → held_after ≡ with_back between bad_text → held_after ≡ with_back held (output_of text items replies ++ bad_text)
    told_after held between held_after items replies first next = next ∙ ap (λ (o : Option (List ℕ)). with_back o bad_text) first ∙ with_back-with_back held (output_of text items replies) bad_text

  -- of one reply there is none before it
  pub one_last : (held held_after : Option (List ℕ)) (item : I) (reply : R) → HoldsSome held held_after (text item reply) → HoldsButLast text held held_after (item ∷ []) (reply ∷ [])
  one_last held held_after item reply some = record { some = subst (HoldsSome held held_after) (output-one item reply) some; earlier = omega arith }

  -- no reply was written, and there is none
  pub none_out : (held held_after : Option (List ℕ)) → held_after ≡ held → HoldsButLast text held held_after [] []
  none_out held held_after same = record { some = record { count = 0; within = omega arith; held = same ∙ with_back-nil held }; earlier = omega arith }

  -- the replies but the last have no more bytes than all
  but_last_shorter : (items : List I) (replies : List R) → length (output_of text items (but_last replies)) ≤ length (output_of text items replies)
  but_last_shorter [] replies = omega arith
  but_last_shorter (item ∷ items) [] = omega arith
  but_last_shorter (item ∷ items) (reply ∷ []) = omega arith
  but_last_shorter (item ∷ items) (reply ∷ (next ∷ more)) =
      omega (arith, longer (text item reply) (output_of text items (but_last (next ∷ more))) (output_of text items (next ∷ more)) [] (omega (arith, but_last_shorter items (next ∷ more))))

  -- if nothing tells of what is no item, all of them are all but the last, and all of that
  pub replies_alone : (held held_after : Option (List ℕ)) (items : List I) (replies : List R) → HoldsReplies text [] held held_after items replies → HoldsButLast text held held_after items replies
  replies_alone held held_after items replies all = record {
    some = record {
      count = all.some.count;
      within = omega (arith, all.some.within, ap length (append-nil (output_of text items replies)));
      held = all.some.held ∙ ap (λ (b : List ℕ). with_back held (take all.some.count b)) (append-nil (output_of text items replies));
    };
    earlier = omega (arith, all.earlier, but_last_shorter items replies);
  }
