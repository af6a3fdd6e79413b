-- The ways from directories lead to the root exactly if each leads to a number below its row's.
use Rattle.std.proofs.Common.{◌≡◌, ◌≢◌, ℕ, zero, suc, ◌-◌, ◌<◌, ◌≤◌, inl, inr, true, Option, Some, None, is_some, length, refl, sym, ap, ◌∙◌, subst, arith, nat_eq, nat_lt}
use Rattle.std.proofs.lemmas.Bool.{cond-true, cond-false, false≢true, lt-ltb, le-ltb, ltb-true, ltb-false, ne_eqb, cases_eq, not_from_false, true_from_ne_false}
use Rattle.std.proofs.lemmas.Option.{same_Some}
use Rattle.file_world.specs.Tree.{Node, Nodes, FileTree, node_at, ReachesRoot, at_root, below, root, IsTree}
use Rattle.file_world.specs.TreeEffect.{is_directory, has_way_past, has_way_on}
use Rattle.file_world.specs.Laws.{StandsIn, itself, below_it}
use Rattle.file_world.proofs.RowLemmas.{split, cond_at_true, cond_at_false}
use Rattle.file_world.proofs.EffectLemmas.{HoldsNames, directory_from}
use Rattle.file_world.proofs.LawLemmas.{walks_are_long_enough}
use Rattle.file_tree.specs.RowTests.{leads_below}

pub leads_step : (steps : ℕ) (rows : Nodes) (bound number : ℕ) (found : Option Node) → 0 < steps → bound ≤ number → node_at rows number ≡ found → leads_below steps rows bound number ≡ has_way_on found (leads_below (steps - 1) rows bound)
leads_step zero rows bound number found some above e = absurd (omega (arith, some))
leads_step (suc steps) rows bound number found some above e =
    let same : suc steps - 1 ≡ steps = omega arith in
    cond-false (nat_lt number bound) _ _ (le-ltb number bound above)
    ∙ (ap (λ (n : Option Node). has_way_on n (leads_below steps rows bound)) e ∙ ap (λ (s : ℕ). has_way_on found (leads_below s rows bound)) (sym same))

pub leads_here : (steps : ℕ) (rows : Nodes) (bound number : ℕ) → 0 < steps → number < bound → leads_below steps rows bound number ≡ true
leads_here zero rows bound number some lt = absurd (omega (arith, some))
leads_here (suc steps) rows bound number some lt = cond-true (nat_lt number bound) _ _ (lt-ltb number bound lt)

-- ---- all nodes are reached

-- each node but the root is in a directory, from which a number below its own is reached
pub record DoAllLead (rows : Nodes) : Type 0 where
  pub above_zero : (number : ℕ) (node : Node) → node_at rows number ≡ Some node → 1 ≤ number
  pub held : (number : ℕ) (node : Node) → node_at rows number ≡ Some node → number ≢ 1 → is_directory (node_at rows node.place.directory) ≡ true
  pub lead : (number : ℕ) (node : Node) → node_at rows number ≡ Some node → number ≢ 1 → leads_below (length rows) rows number node.place.directory ≡ true

reached_by_walk : (rows : Nodes) (bound steps number : ℕ) → DoAllLead rows → 1 < bound → ((other : ℕ) → other < bound → is_directory (node_at rows other) ≡ true → ReachesRoot rows other) → is_directory (node_at rows number) ≡ true → leads_below steps rows bound number ≡ true → ReachesRoot rows number
reached_by_walk rows bound zero number all above earlier held e = absurd (false≢true e)
reached_by_walk rows bound (suc steps) number all above earlier held e =
    split (nat_lt number bound)
    (λ t. earlier number (ltb-true number bound t) held)
    (λ f. let holds = directory_from rows number held in
    let far : bound ≤ number = ltb-false number bound f in
    let on : leads_below steps rows bound holds.node.place.directory ≡ true =
    ap (λ (n : Option Node). has_way_on n (leads_below steps rows bound)) (sym holds.found) ∙ cond_at_false (nat_lt number bound) _ _ _ f e in
    let up = all.held number holds.node holds.found (λ one. omega (arith, one, far, above)) in
    let holder = directory_from rows holds.node.place.directory up in
    below number holds.node holds.found holder.node holder.found holder.kind
    (reached_by_walk rows bound steps holds.node.place.directory all above earlier up on))

reached_below : (rows : Nodes) → DoAllLead rows → (bound number : ℕ) (node : Node) → number < bound → node_at rows number ≡ Some node → ReachesRoot rows number
reached_below rows all zero number node lt found = absurd (omega (arith, lt))
reached_below rows all (suc bound) number node lt found =
    elim (cases_eq number 1) [
      | inl one ↦ subst (ReachesRoot rows) (sym one) at_root
      | inr other ↦ let held = all.held number node found other in
          let holder = directory_from rows node.place.directory held in
          let above : 1 < number = (let first = all.above_zero number node found in omega (arith, first, other)) in
          below number node found holder.node holder.found holder.kind
          (reached_by_walk rows number (length rows) node.place.directory all above
          (λ m less is. let h = directory_from rows m is in reached_below rows all bound m h.node (omega (arith, less, lt)) h.found)
          held (all.lead number node found other))
    ]

pub all_reached : (rows : Nodes) → DoAllLead rows → (number : ℕ) (node : Node) → node_at rows number ≡ Some node → ReachesRoot rows number
all_reached rows all number node found = reached_below rows all (suc number) number node (omega arith) found

-- ---- in a tree all ways lead

stands_through : (rows : Nodes) (container middle : ℕ) → StandsIn rows container middle → (number : ℕ) → StandsIn rows middle number → StandsIn rows container number
stands_through rows container middle within number itself = within
stands_through rows container middle within number (below_it _ node found up) = below_it number node found (stands_through rows container middle within node.place.directory up)

nothing_in_zero : (tree : FileTree) (container : ℕ) → IsTree tree → 1 ≤ container → (number : ℕ) → number ≡ 0 → StandsIn tree.rows container number → ⊥
nothing_in_zero tree container is above number zero_is itself = omega (arith, above, zero_is)
nothing_in_zero tree container is above number zero_is (below_it _ node found up) = let one : 1 ≤ number = (is.sound number node found).above_zero in omega (arith, one, zero_is)

-- no node stands in itself
no_loop : (tree : FileTree) → IsTree tree → (number : ℕ) (node : Node) → node_at tree.rows number ≡ Some node → ReachesRoot tree.rows number → StandsIn tree.rows number node.place.directory → ⊥
no_loop tree is number node found at_root stands =
    let root_is : root ≡ node = same_Some _ _ (sym is.has_root ∙ found) in
    nothing_in_zero tree 1 is (omega arith) node.place.directory (ap (λ (n : Node). n.place.directory) (sym root_is)) stands
no_loop tree is number node found (below _ same there holder held kind up) stands =
    let e : same ≡ node = same_Some _ _ (sym there ∙ found) in
    let again : StandsIn tree.rows number same.place.directory = subst (λ (n : Node). StandsIn tree.rows number n.place.directory) (sym e) stands in
    no_loop tree is same.place.directory holder held up (further same.place.directory again refl)
  where
    further : (other : ℕ) → StandsIn tree.rows number other → other ≡ same.place.directory → StandsIn tree.rows same.place.directory holder.place.directory
    further other itself e =
        let one : same ≡ holder = same_Some _ _ (sym there ∙ (ap (node_at tree.rows) e ∙ held)) in
        subst (λ (n : Node). StandsIn tree.rows same.place.directory n.place.directory) one itself
    further other (below_it _ middle between above) e =
        let one : middle ≡ holder = same_Some _ _ (sym between ∙ (ap (node_at tree.rows) e ∙ held)) in
        subst (λ (n : Node). StandsIn tree.rows same.place.directory n.place.directory) one
        (stands_through tree.rows same.place.directory number (below_it number same there itself) middle.place.directory above)

way_leads : (steps : ℕ) (rows : Nodes) (avoided bound number : ℕ) → 1 < bound → has_way_past steps rows avoided number ≡ true → leads_below steps rows bound number ≡ true
way_leads zero rows avoided bound number above e = e
way_leads (suc steps) rows avoided bound number above e =
    split (nat_lt number bound)
    (λ t. cond-true (nat_lt number bound) _ _ t)
    (λ f. let far : bound ≤ number = ltb-false number bound f in
    split (nat_eq number avoided)
    (λ t. absurd (false≢true (cond_at_true (nat_eq number avoided) _ _ _ t e)))
    (λ g. cond-false (nat_lt number bound) _ _ f
    ∙ on (λ (other : ℕ) (h : has_way_past steps rows avoided other ≡ true). way_leads steps rows avoided bound other above h) (node_at rows number) (cond_at_false (nat_eq number 1) _ _ _ (ne_eqb number 1 (λ one. omega (arith, one, far, above))) (cond_at_false (nat_eq number avoided) _ _ _ g e))))
  where
    on : ((other : ℕ) → has_way_past steps rows avoided other ≡ true → leads_below steps rows bound other ≡ true) → (found : Option Node) → has_way_on found (has_way_past steps rows avoided) ≡ true → has_way_on found (leads_below steps rows bound) ≡ true
    on further None h = h
    on further (Some node) h = further node.place.directory h

pub holder_in_tree : (tree : FileTree) → IsTree tree → (number : ℕ) (node : Node) → node_at tree.rows number ≡ Some node → number ≢ 1 → HoldsNames tree.rows node.place.directory
holder_in_tree tree is number node found other = by number other found (is.sound number node found).reached
  where
    by : (n : ℕ) → n ≢ 1 → node_at tree.rows n ≡ Some node → ReachesRoot tree.rows n → HoldsNames tree.rows node.place.directory
    by n apart e at_root = absurd (apart refl)
    by n apart e (below _ same there holder held kind up) =
        subst (λ (m : Node). HoldsNames tree.rows m.place.directory) (same_Some _ _ (sym there ∙ e)) (record { node = holder; found = held; kind = kind })

pub leads_in_tree : (tree : FileTree) → IsTree tree → (number : ℕ) (node : Node) → node_at tree.rows number ≡ Some node → number ≢ 1 → leads_below (length tree.rows) tree.rows number node.place.directory ≡ true
leads_in_tree tree is number node found other =
    let holder = holder_in_tree tree is number node found other in
    let sound = is.sound number node found in
    let above : 1 < number = (let first = sound.above_zero in omega (arith, first, other)) in
    let law = walks_are_long_enough tree number node.place.directory is (ap is_some found) (ap is_some holder.found) in
    let past : has_way_past (length tree.rows) tree.rows number node.place.directory ≡ true =
    true_from_ne_false (has_way_past (length tree.rows) tree.rows number node.place.directory)
    (λ f. no_loop tree is number node found sound.reached (law.0 (not_from_false (has_way_past (length tree.rows) tree.rows number node.place.directory) f))) in
    way_leads (length tree.rows) tree.rows number number node.place.directory above past
