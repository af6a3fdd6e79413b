-- Worlds can be told apart.
use Rattle.std.specs.Prelude.{ℕ, List, Option, refl}
use Rattle.std.specs.Coded.{Coded, code_by, coded×, coded_ℕ, coded_list, coded_option}
use Rattle.file_world.specs.declared.operation.Kind.{Kind}
use Rattle.file_world.specs.contracts.operation.Kind as kind
use Rattle.file_world.specs.Attributes.{Attributes}
use Rattle.file_world.specs.Tree.{Place}
use Rattle.file_world.specs.World.{Item, World}
use Rattle.file_tree.specs.declared.ready.Ready.{Ready as TreeReady}
use Rattle.file_tree.specs.contracts.ready.Ready as tree_ready
use Rattle.attr_state.specs.declared.ready.MetaReady.{MetaReady}
use Rattle.attr_state.specs.contracts.ready.MetaReady as meta_ready
use Rattle.world_state.specs.State.{Readiness, WorldState}

abbrev bytes_code : Coded (List ℕ)
bytes_code = coded_list coded_ℕ

abbrev place_code : Coded Place
place_code = code_by (ℕ × List ℕ) (coded× coded_ℕ bytes_code) (λ p. (p.directory, p.name)) (λ p. record { directory = p.0; name = p.1 }) (λ _. refl)

abbrev item_code : Coded Item
item_code =
    code_by (Kind × (List ℕ × (Attributes × (Place × List ℕ))))
    (coded× kind.the_row.coded (coded× bytes_code (coded× (coded_list (coded× bytes_code bytes_code)) (coded× place_code bytes_code))))
    (λ i. (i.kind, (i.owner, (i.attributes, (i.place, i.contents)))))
    (λ p. record { kind = p.0; owner = p.1.0; attributes = p.1.1.0; place = p.1.1.1.0; contents = p.1.1.1.1 })
    (λ _. refl)

abbrev pub world_code : Coded World
world_code =
    code_by (List (ℕ × Item) × ℕ) (coded× (coded_list (coded× coded_ℕ item_code)) coded_ℕ)
    (λ w. (w.rows, w.next))
    (λ p. record { rows = p.0; next = p.1 })
    (λ _. refl)

abbrev pub readiness_code : Coded Readiness
readiness_code =
    code_by (Option TreeReady × Option MetaReady) (coded× (coded_option tree_ready.the_row.coded) (coded_option meta_ready.the_row.coded))
    (λ r. (r.tree, r.meta))
    (λ p. record { tree = p.0; meta = p.1 })
    (λ _. refl)

abbrev pub world_state_code : Coded WorldState
world_state_code =
    code_by (World × Readiness) (coded× world_code readiness_code)
    (λ s. (s.world, s.ready))
    (λ p. record { world = p.0; ready = p.1 })
    (λ _. refl)
