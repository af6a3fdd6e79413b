-- What the seats at the lock's table know. This project's own.
use Rattle.std.specs.Prelude.{ℕ, ◌+◌, List, [], ◌∷◌, Bool, true, false}
use Rattle.tree_lock.specs.declared.view.Knowledge.{Knowledge}
use Rattle.tree_lock.specs.declared.view.Stage.{Stage}
use Rattle.tree_lock.specs.declared.view.Stage.TheVariants.{Idle, Waiting, Holding}

-- how many tickets a seat has out
abbrev pub tickets_at : Stage → ℕ
tickets_at Idle = 0
tickets_at (Waiting t) = 1
tickets_at (Holding t) = 1

abbrev pub is_holding : Stage → Bool
is_holding Idle = false
is_holding (Waiting t) = false
is_holding (Holding t) = true

module _ {E : Type 0} where
  abbrev pub tickets_out : List (Knowledge E) → ℕ
  tickets_out [] = 0
  tickets_out (v ∷ views) = tickets_at v.stage + tickets_out views

  -- the doorman of a new lock, whose value has these entries
  abbrev pub opening_view : List (ℕ × E) → Knowledge E
  opening_view entries = record { out = true; number = 0; stage = Idle; seen = entries; own = entries; told = []; made = 0; retired = [] }

  -- a pass that has had no turn
  abbrev pub new_view : ℕ → List (ℕ × E) → Knowledge E
  new_view number seen = record { out = true; number = number; stage = Idle; seen = seen; own = []; told = []; made = 0; retired = [] }

  -- a pass that was retired
  abbrev pub spent_view : Knowledge E
  spent_view = record { out = false; number = 0; stage = Idle; seen = []; own = []; told = []; made = 0; retired = [] }

  -- the doorman makes a number, and the pass of that number
  abbrev pub after_making : Knowledge E → Knowledge E
  after_making v = record v { made = v.made + 1 }

  abbrev pub made_by : Knowledge E → Knowledge E
  made_by v = new_view (v.made + 1) v.seen

  -- the doorman takes in what a pass knows
  abbrev pub after_retiring : Knowledge E → Knowledge E → Knowledge E
  after_retiring v w = record v { told = w.seen; retired = (w.number, w.own) ∷ v.retired }

  abbrev pub at_stage : Knowledge E → Stage → Knowledge E
  at_stage v stage = record v { stage = stage }

  -- a pass that holds the value, of which these are the entries
  abbrev pub holding : Knowledge E → ℕ → List (ℕ × E) → Knowledge E
  holding v t entries = record v { stage = Holding t; seen = entries }

  -- a pass that told what its job appended
  abbrev pub after_work : Knowledge E → List (ℕ × E) → List (ℕ × E) → Knowledge E
  after_work v seen own = record v { seen = seen; own = own }

  abbrev pub after_look : Knowledge E → List (ℕ × E) → Knowledge E
  after_look v seen = record v { seen = seen }
