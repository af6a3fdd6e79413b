-- The way up, one step after the other.
use Rattle.std.proofs.Common.{◌≡◌, ◌-◌, ◌∙◌, ℕ, List, ap, arith, subst, sym}
use Rattle.std.specs.Option.{option_map}
use Rattle.std.proofs.lemmas.Bool.{ne_eqb}
use Rattle.file_world.specs.World.{tree_of}
use Rattle.history_table.specs.Path.{most_steps, names_above, place_in}
use Rattle.history_table.proofs.PathLemmas.{after, after_none, one_up}
use Rattle.history_table.proofs.places.path_of.Goals as goal

pub up-init : goal.up-init
unfolding most_steps
up-init c =
    let rows = (tree_of c.args.world.now.world).rows in
    subst (λ (names : List (List ℕ)). names_above rows most_steps c.args.number ≡ after names (names_above rows most_steps c.args.number)) (sym c.new-names.ensures.items) (after_none (names_above rows most_steps c.args.number))

pub up-preserved : goal.up-preserved
up-preserved c =
    let rows = (tree_of c.args.world.now.world).rows in
    c.up.invariant
    ∙ one_up rows c.up.steps (c.up.steps - 1) c.up.at c.in-Some.spot.directory c.in-Some.spot.name c.up.names.items (omega (arith, c.up-test.true)) (ne_eqb c.up.at 1 c.if-at-eq-ROOT_NUMBER.false)
    (sym c.in_ok-spot.ensures ∙ ap (option_map place_in) c.in-Some.is)
    ∙ ap (λ (names : List (List ℕ)). after names (names_above rows (c.up.steps - 1) c.in-Some.spot.directory)) (sym c.in_ok-push-in-Some.ensures.items)
