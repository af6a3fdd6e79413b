-- Replies as they are written.
use Rattle.std.proofs.Common.{◌≡◌, ◌∙◌, ◌+◌, ◌<◌, ◌≤◌, ℕ, Bool, true, false, eqb, List, [], ◌∷◌, ◌++◌, length, get_or, map, take, Option, Result, OnOk, refl, sym, ap, subst, arith, take_all}
use Rattle.std.proofs.lemmas.Bool.{eqb-true, eqb-false}
use Rattle.std.proofs.lemmas.List.{map_more}
use Rattle.nine_messages.specs.Replies.{ReplyView, rwalk, reply_spelling}
use Rattle.nine_fids.specs.declared.fid.FidFile.{FidFile}
use Rattle.nine_fids.specs.Files.{qid_of}
use Rattle.nine_front.specs.Placed.{walk_reply}

-- one value more of a function of the items so far
pub mapped_more : {A B : Type 0} (f : A → B) (items : List A) (place : ℕ) (d : A) (so_far new : List B) (value : B) → place < length items → value ≡ f (get_or items place d) →
    so_far ≡ map f (take place items) → new ≡ so_far ++ value ∷ [] → new ≡ map f (take (place + 1) items)
mapped_more {A} {B} f items place d so_far new value within is before pushed =
    pushed ∙ ap (λ (xs : List B). xs ++ value ∷ []) before ∙ ap (λ (x : B). map f (take place items) ++ x ∷ []) is ∙ sym (map_more f items place d within)

pub mapped_all : {A B : Type 0} (f : A → B) (items : List A) (place : ℕ) (so_far : List B) → length items ≤ place → so_far ≡ map f (take place items) → so_far ≡ map f items
mapped_all {A} f items place so_far all is = is ∙ ap (λ (xs : List A). map f xs) (take_all place items all)

-- ---- a walk, by whether it found files

none_found : (found : List FidFile) (end : Option (List ℕ)) → length found ≡ 0 → walk_reply [] end ≡ walk_reply found end
none_found [] end none = refl
none_found (file ∷ found) end none = absurd (omega (arith, none))

some_found : (found : List FidFile) (end : Option (List ℕ)) → (length found ≡ 0 → ⊥) → rwalk (map qid_of found) ≡ walk_reply found end
some_found [] end some = absurd (some refl)
some_found (file ∷ found) end some = refl

pub walk_of_none : (found : List FidFile) (end : Option (List ℕ)) (empty : Bool) → empty ≡ eqb (length found) 0 → empty ≡ true → walk_reply [] end ≡ walk_reply found end
walk_of_none found end empty is holds = none_found found end (eqb-true (length found) 0 (sym is ∙ holds))

pub walk_of_some : (found : List FidFile) (end : Option (List ℕ)) (empty : Bool) → empty ≡ eqb (length found) 0 → empty ≡ false → rwalk (map qid_of found) ≡ walk_reply found end
walk_of_some found end empty is fails = some_found found end (eqb-false (length found) 0 (sym is ∙ fails))

-- what was spelled, by another name of the reply
pub spelled_as : {T E : Type 0} (r : Result T E) (old new : List ℕ) (tag : ℕ) (reply same_reply : ReplyView) → reply ≡ same_reply → OnOk r (new ≡ old ++ reply_spelling tag reply) → OnOk r (new ≡ old ++ reply_spelling tag same_reply)
spelled_as r old new tag reply same_reply same spelled = subst (λ (v : ReplyView). OnOk r (new ≡ old ++ reply_spelling tag v)) same spelled
