-- The latest constant from which a chain leads to a term, and the earliest to which one leads.
use Rattle.std.proofs.Common.{◌≡◌, ◌⊎◌, inl, inr, ℕ, ◌+◌, ◌<◌, ◌≤◌, List, [], ◌∷◌, ◌++◌, length, Bool, true, false, not, refl, sym, subst, ap, ◌∙◌, arith}
use Rattle.std.specs.Prelude.{◌↔◌, IsTrue}
use Rattle.std.proofs.lemmas.Bool.{cases_eq, false≢true}
use Rattle.std.specs.List.{slice_get}
use Rattle.std.proofs.lemmas.Option.{same_Some}
use Rattle.bl_syntax.specs.declared.terms.TimePoint.{TimePoint}
use Rattle.bl_syntax.specs.declared.terms.Term.{Term}
use Rattle.bl_syntax.specs.declared.terms.Term.TheVariants.{Time}
use Rattle.bl_syntax.specs.declared.terms.Constraint.{Constraint}
use Rattle.bl_syntax.specs.TimeOrder.{IsUpTo}
use Rattle.bl_syntax.specs.Entailment.{IsLink, IsChain, link, IsContradictory}
use Rattle.bl_syntax.proofs.EntailmentLemmas.{IsUpTo-itself, IsUpTo-PosInf, IsUpTo-transitive, IsChain-joined}
use Rattle.bl_constraints.specs.Places.{HasPlace}
use Rattle.bl_constraints.specs.Reached.{StandsAt, AreAfter, AreBefore, IsLatestStart, IsEarliestEnd}
use Rattle.bl_constraints.proofs.ChainLemmas.{by_cases, stands_contained, contained_stands, through, chain_before, chain_through, chain_parts, first_of_chain, last_of_chain}
use Rattle.bl_constraints.proofs.LinkLemmas.{link_in, link_from_time, link_into_time}

-- the latest among the term and the constraints at these places, of the first so many
pub record IsLatestSoFar (psi : List Constraint) (t : Term) (words : List ℕ) (seen : ℕ) (latest : TimePoint) : Type 0 where
  pub chain : IsChain psi (Time latest) t
  pub own : (point : TimePoint) → t ≡ Time point → IsUpTo point latest
  pub bound : (place : ℕ) (c : Constraint) (point : TimePoint) → place < seen → HasPlace words place → StandsAt psi place c → c.low ≡ Time point → IsUpTo point latest

pub record IsEarliestSoFar (psi : List Constraint) (u : Term) (words : List ℕ) (seen : ℕ) (earliest : TimePoint) : Type 0 where
  pub chain : IsChain psi u (Time earliest)
  pub own : (point : TimePoint) → u ≡ Time point → IsUpTo earliest point
  pub bound : (place : ℕ) (c : Constraint) (point : TimePoint) → place < seen → HasPlace words place → StandsAt psi place c → c.high ≡ Time point → IsUpTo earliest point

up_to_same : (a b : TimePoint) → a ≡ b → IsUpTo a b
up_to_same a b e = subst (IsUpTo a) e (IsUpTo-itself a)

module _ (psi : List Constraint) (t : Term) (words : List ℕ) where
  pub latest_first : (start : TimePoint) → IsLink [] (Time start) t → ((point : TimePoint) → t ≡ Time point → point ≡ start) → IsLatestSoFar psi t words 0 start
  latest_first start linked constant = record {
    chain = link (Time start) t (link_in psi linked);
    own = λ point e. up_to_same point start (constant point e);
    bound = λ place c point lt. absurd (omega (arith, lt));
  }

  pub latest_skip : (seen : ℕ) (latest : TimePoint) → IsLatestSoFar psi t words seen latest → (HasPlace words seen → ⊥) → IsLatestSoFar psi t words (seen + 1) latest
  latest_skip seen latest so_far out = record {
    chain = so_far.chain;
    own = so_far.own;
    bound = λ place c point lt has stands_c begins.
        by_cases (cases_eq place seen)
        (λ same. absurd (out (subst (HasPlace words) same has)))
        (λ other. so_far.bound place c point (omega (arith, lt, other)) has stands_c begins);
  }

  module _ (are_before : AreBefore psi t words) (seen : ℕ) (here : Constraint) (stands : StandsAt psi seen here) (latest : TimePoint) (so_far : IsLatestSoFar psi t words seen latest) where
    pub latest_more : (start later : TimePoint) → HasPlace words seen → IsLink [] (Time start) here.low → ((point : TimePoint) → here.low ≡ Time point → point ≡ start)
        → (later ≡ latest) ⊎ (later ≡ start) → IsUpTo latest later → IsUpTo start later → IsLatestSoFar psi t words (seen + 1) later
    latest_more start later has linked constant either first second =
        let leads = (are_before.each seen).0 has in
        let same : leads.constraint ≡ here = same_Some leads.constraint here (sym leads.stands ∙ stands) in
        let chain : IsChain psi (Time start) t =
        IsChain-joined psi (link (Time start) here.low (link_in psi linked))
        (IsChain-joined psi (through psi here (stands_contained psi seen here stands)) (subst (λ (x : Constraint). IsChain psi x.high t) same leads.chain)) in
        record {
          chain = by_cases either (λ e. subst (λ (x : TimePoint). IsChain psi (Time x) t) (sym e) so_far.chain) (λ e. subst (λ (x : TimePoint). IsChain psi (Time x) t) (sym e) chain);
          own = λ point e. IsUpTo-transitive point latest later (so_far.own point e) first;
          bound = λ place c point lt has_place stands_c begins.
              by_cases (cases_eq place seen)
              (λ is.
              let c_is : c ≡ here = same_Some c here (sym stands_c ∙ ap (λ (k : ℕ). slice_get psi k) is ∙ stands) in
              IsUpTo-transitive point start later (up_to_same point start (constant point (subst (λ (x : Constraint). x.low ≡ Time point) c_is begins))) second)
              (λ other. IsUpTo-transitive point latest later (so_far.bound place c point (omega (arith, lt, other)) has_place stands_c begins) first);
        }

  pub latest_all : (seen : ℕ) (latest : TimePoint) → AreBefore psi t words → length psi ≤ seen → IsLatestSoFar psi t words seen latest → IsLatestStart psi t latest
  latest_all seen latest are_before all so_far = record {
    chain = so_far.chain;
    bound = λ point p.
        by_cases (first_of_chain psi p)
        (λ l. by_cases (link_from_time point t l)
        (λ first. subst (λ (x : TimePoint). IsUpTo x latest) (sym first) tt)
        (λ h. IsUpTo-transitive point h.0 latest h.2 (so_far.own h.0 h.1)))
        (λ h. by_cases (link_from_time point h.constraint.low h.onto)
        (λ first. subst (λ (x : TimePoint). IsUpTo x latest) (sym first) tt)
        (λ k.
        let stands_c = contained_stands psi h.constraint h.contained in
        let has = (are_before.each h.contained.0).1 (record { constraint = h.constraint; stands = stands_c; chain = h.back }) in
        IsUpTo-transitive point k.0 latest k.2 (so_far.bound h.contained.0 h.constraint k.0 (omega (arith, h.contained.1, all)) has stands_c k.1)));
  }

module _ (psi : List Constraint) (u : Term) (words : List ℕ) where
  pub earliest_first : (end : TimePoint) → IsLink [] u (Time end) → ((point : TimePoint) → u ≡ Time point → point ≡ end) → IsEarliestSoFar psi u words 0 end
  earliest_first end linked constant = record {
    chain = link u (Time end) (link_in psi linked);
    own = λ point e. up_to_same end point (sym (constant point e));
    bound = λ place c point lt. absurd (omega (arith, lt));
  }

  pub earliest_skip : (seen : ℕ) (earliest : TimePoint) → IsEarliestSoFar psi u words seen earliest → (HasPlace words seen → ⊥) → IsEarliestSoFar psi u words (seen + 1) earliest
  earliest_skip seen earliest so_far out = record {
    chain = so_far.chain;
    own = so_far.own;
    bound = λ place c point lt has stands_c ends.
        by_cases (cases_eq place seen)
        (λ same. absurd (out (subst (HasPlace words) same has)))
        (λ other. so_far.bound place c point (omega (arith, lt, other)) has stands_c ends);
  }

  module _ (are_after : AreAfter psi u words) (seen : ℕ) (here : Constraint) (stands : StandsAt psi seen here) (earliest : TimePoint) (so_far : IsEarliestSoFar psi u words seen earliest) where
    pub earliest_more : (end earlier : TimePoint) → HasPlace words seen → IsLink [] here.high (Time end) → ((point : TimePoint) → here.high ≡ Time point → point ≡ end)
        → (earlier ≡ earliest) ⊎ (earlier ≡ end) → IsUpTo earlier earliest → IsUpTo earlier end → IsEarliestSoFar psi u words (seen + 1) earlier
    earliest_more end earlier has linked constant either first second =
        let led = (are_after.each seen).0 has in
        let same : led.constraint ≡ here = same_Some led.constraint here (sym led.stands ∙ stands) in
        let chain : IsChain psi u (Time end) =
        IsChain-joined psi (subst (λ (x : Constraint). IsChain psi u x.low) same led.chain)
        (IsChain-joined psi (through psi here (stands_contained psi seen here stands)) (link here.high (Time end) (link_in psi linked))) in
        record {
          chain = by_cases either (λ e. subst (λ (x : TimePoint). IsChain psi u (Time x)) (sym e) so_far.chain) (λ e. subst (λ (x : TimePoint). IsChain psi u (Time x)) (sym e) chain);
          own = λ point e. IsUpTo-transitive earlier earliest point first (so_far.own point e);
          bound = λ place c point lt has_place stands_c ends.
              by_cases (cases_eq place seen)
              (λ is.
              let c_is : c ≡ here = same_Some c here (sym stands_c ∙ ap (λ (k : ℕ). slice_get psi k) is ∙ stands) in
              IsUpTo-transitive earlier end point second (up_to_same end point (sym (constant point (subst (λ (x : Constraint). x.high ≡ Time point) c_is ends)))))
              (λ other. IsUpTo-transitive earlier earliest point first (so_far.bound place c point (omega (arith, lt, other)) has_place stands_c ends));
        }

  pub earliest_all : (seen : ℕ) (earliest : TimePoint) → AreAfter psi u words → length psi ≤ seen → IsEarliestSoFar psi u words seen earliest → IsEarliestEnd psi u earliest
  earliest_all seen earliest are_after all so_far = record {
    chain = so_far.chain;
    bound = λ point p.
        by_cases (last_of_chain psi p)
        (λ l. by_cases (link_into_time u point l)
        (λ last. subst (λ (x : TimePoint). IsUpTo earliest x) (sym last) (IsUpTo-PosInf earliest))
        (λ h. IsUpTo-transitive earliest h.0 point (so_far.own h.0 h.1) h.2))
        (λ h. by_cases (link_into_time h.constraint.high point h.onto)
        (λ last. subst (λ (x : TimePoint). IsUpTo earliest x) (sym last) (IsUpTo-PosInf earliest))
        (λ k.
        let stands_c = contained_stands psi h.constraint h.contained in
        let has = (are_after.each h.contained.0).1 (record { constraint = h.constraint; stands = stands_c; chain = h.front }) in
        IsUpTo-transitive earliest k.0 point (so_far.bound h.contained.0 h.constraint k.0 (omega (arith, h.contained.1, all)) has stands_c k.1) k.2));
  }

-- constraints with one more contradict one another if the others do, or a chain through it leads from a constant to a lesser one
module _ (psi : List Constraint) (c : Constraint) (latest earliest : TimePoint) (is_latest : IsLatestStart psi c.low latest) (is_earliest : IsEarliestEnd psi c.high earliest) where
  still_contradictory : IsContradictory psi → IsContradictory (psi ++ c ∷ [])
  still_contradictory k = record { greater = k.greater; lesser = k.lesser; chain = chain_before psi c k.chain; out_of_order = k.out_of_order }

  newly_contradictory : (IsUpTo latest earliest → ⊥) → IsContradictory (psi ++ c ∷ [])
  newly_contradictory out = record { greater = latest; lesser = earliest; chain = chain_through psi c is_latest.chain is_earliest.chain; out_of_order = out }

  either_contradictory : IsContradictory (psi ++ c ∷ []) → IsContradictory psi ⊎ (IsUpTo latest earliest → ⊥)
  either_contradictory k = by_cases (chain_parts psi c k.chain)
      (λ p. inl (record { greater = k.greater; lesser = k.lesser; chain = p; out_of_order = k.out_of_order }))
      (λ parts. inr (λ h. k.out_of_order (IsUpTo-transitive k.greater latest k.lesser (is_latest.bound k.greater parts.0) (IsUpTo-transitive latest earliest k.lesser h (is_earliest.bound k.lesser parts.1)))))

  pub contradictory_before : (already answer : Bool) → (IsTrue already ↔ IsContradictory psi) → IsTrue already → IsTrue answer → IsTrue answer ↔ IsContradictory (psi ++ c ∷ [])
  contradictory_before already answer told holds is = (λ _. still_contradictory (told.0 holds), λ _. is)

  pub contradictory_now : (already in_order answer : Bool) → (IsTrue already ↔ IsContradictory psi) → (IsTrue already → ⊥) → (IsTrue in_order ↔ IsUpTo latest earliest) → answer ≡ not in_order
      → IsTrue answer ↔ IsContradictory (psi ++ c ∷ [])
  contradictory_now already true answer told fails order is = (
    λ t. absurd (false≢true (sym is ∙ t)),
    λ k. absurd (by_cases (either_contradictory k) (λ h. fails (told.1 h)) (λ out. out (order.0 refl))),
  )
  contradictory_now already false answer told fails order is = (λ t. newly_contradictory (λ h. absurd (false≢true (order.1 h))), λ k. is)
