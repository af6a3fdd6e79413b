-- Reading grants from their canonical bytes, from the left: the value and the bytes after it, or
-- the first fault. The order of the faults is this project's
-- own. A condition is read whole, and then tested as one field; the number of conditions is tested
-- as soon as it is there, and so
-- is that of the statements that a grant names.
use Rattle.std.specs.Prelude.{ℕ, zero, suc, ◌-◌, List, [], ◌∷◌, ◌++◌, length, Bool, not, ◌&&◌, ◌||◌, nat_lt, nat_le, ◌==◌, if◌then◌else◌, Result, Ok, Err}
use Rattle.std.specs.List.{list_any}
use Rattle.std.specs.Int.{w32, w64}
use Rattle.bl_syntax.specs.declared.limits.TheConstants.{MOST_CONDITIONS, MOST_CITED}
use Rattle.bl_syntax.specs.declared.codec_fault.CodecFault.{CodecFault}
use Rattle.bl_syntax.specs.declared.codec_fault.CodecFault.TheVariants.{Short, BadTag, NotCanonical}
use Rattle.bl_syntax.specs.declared.terms.Constraint.{Constraint}
use Rattle.bl_syntax.specs.declared.terms.StatePred.{StatePred}
use Rattle.bl_syntax.specs.declared.terms.StatePred.TheVariants.{Owner, HasXattr, InDir}
use Rattle.bl_syntax.specs.declared.grant.Goal.{Goal}
use Rattle.bl_syntax.specs.Equality.{constraint_eq, state_eq}
use Rattle.bl_syntax.specs.ConditionTests.{is_time_condition, is_state_condition}
use Rattle.bl_syntax.specs.Grant.{GrantView}
use Rattle.bl_syntax.specs.Reading.{◌>>=◌, Reading, place, map_reading, number_at, name_at, permission_at, term_at}
use Rattle.bl_syntax.specs.FormulaReading.{is_formula_tag}

-- a byte that has this one value; the bytes after it
unfoldable pub marker_at : ℕ → ℕ → List ℕ → Result (List ℕ) CodecFault
marker_at value input [] = Err Short
marker_at value input (byte ∷ rest) = if byte == value then Ok rest else Err (BadTag (place input (byte ∷ rest)))

-- who, which file and which permission
unfoldable pub goal_at : ℕ → List ℕ → Reading Goal
goal_at input bytes = do
  who ← name_at input bytes
  file ← number_at w64 who.1
  perm ← permission_at input file.1
  Ok (record { who = who.0; file = record { 0 = file.0 }; perm = perm.0 }, perm.1)

-- one, and then another
unfoldable pub both_at : {A B : Type 0} → (ℕ → List ℕ → Reading A) → (ℕ → List ℕ → Reading B) → ℕ →
    List ℕ → Reading (A × B)
both_at first_at second_at input bytes = do
  first ← first_at input bytes
  second ← second_at input first.1
  Ok ((first.0, second.0), second.1)

-- a condition on time, before it is tested
unfoldable pub time_condition_at : ℕ → List ℕ → Reading Constraint
time_condition_at input bytes = map_reading (λ t. record { low = t.0; high = t.1 }) (both_at term_at term_at input bytes)

-- the terms of a condition on the server's state with this tag, which stands at the place
unfoldable pub state_terms_at : ℕ → ℕ → ℕ → List ℕ → Reading StatePred
state_terms_at input start tag rest =
    if tag == 18 then map_reading (λ t. Owner t.0 t.1) (both_at term_at term_at input rest) else
    if tag == 19 then map_reading (λ t. HasXattr t.0 t.1.0 t.1.1) (both_at term_at (both_at term_at term_at) input rest) else
    if tag == 20 then map_reading (λ t. InDir t.0 t.1) (both_at term_at term_at input rest) else
    if is_formula_tag tag then Err (NotCanonical start) else
    Err (BadTag start)

-- a condition on the server's state, before it is tested
unfoldable pub state_condition_at : ℕ → List ℕ → Reading StatePred
state_condition_at input [] = Err Short
state_condition_at input (tag ∷ rest) = state_terms_at input (place input (tag ∷ rest)) tag rest

-- whether the condition is one of these
abbrev pub is_time_among : List Constraint → Constraint → Bool
is_time_among before c = list_any (λ known. constraint_eq known c) before

abbrev pub is_state_among : List StatePred → StatePred → Bool
is_state_among before s = list_any (λ known. state_eq known s) before

-- whether the condition may stand after these: it is in its form, and none of them
abbrev pub may_follow_times : List Constraint → Constraint → Bool
may_follow_times before c = is_time_condition c && not (is_time_among before c)

abbrev pub may_follow_states : List StatePred → StatePred → Bool
may_follow_states before s = is_state_condition s && not (is_state_among before s)

-- so many conditions after those before; each may follow
unfoldable pub items_at : {A : Type 0} → (ℕ → List ℕ → Reading A) → (List A → A → Bool) → ℕ → ℕ →
    List A → List ℕ → Reading (List A)
items_at one_at may_follow zero input before bytes = Ok (before, bytes)
items_at one_at may_follow (suc count) input before bytes = do
  one ← one_at input bytes
  if may_follow before one.0 then items_at one_at may_follow count input (before ++ one.0 ∷ []) one.1 else Err (NotCanonical (place input bytes))

-- how many conditions there are, at most so many
unfoldable pub count_at : ℕ → ℕ → List ℕ → Reading ℕ
count_at most input [] = Err Short
count_at most input (count ∷ rest) = if nat_lt most count then Err (NotCanonical (place input (count ∷ rest))) else Ok (count, rest)

-- how many conditions there are, and each
unfoldable pub conditions_at : {A : Type 0} → (ℕ → List ℕ → Reading A) → (List A → A → Bool) → ℕ →
    ℕ → List ℕ → Reading (List A)
conditions_at one_at may_follow most input bytes = do
  count ← count_at most input bytes
  items_at one_at may_follow count.0 input [] count.1

-- the version: 1, or 2 of a grant that names statements
unfoldable pub version_at : ℕ → List ℕ → Reading ℕ
version_at input [] = Err Short
version_at input (version ∷ rest) = if version == 1 || version == 2 then Ok (version, rest) else Err (BadTag (place input (version ∷ rest)))

-- the byte of grants, the version, and the goal
unfoldable pub head_at : ℕ → List ℕ → Reading (ℕ × Goal)
head_at input bytes = do
  mark ← marker_at 71 input bytes
  version ← version_at input mark
  goal ← goal_at input version.1
  Ok ((version.0, goal.0), goal.1)

-- so many numbers of statements after those before, each above the previous one
unfoldable pub rising_at : ℕ → ℕ → ℕ → List ℕ → List ℕ → Reading (List ℕ)
rising_at zero previous input before bytes = Ok (before, bytes)
rising_at (suc count) previous input before bytes = do
  number ← number_at w32 bytes
  if nat_lt previous number.0 then rising_at count number.0 input (before ++ number.0 ∷ []) number.1 else Err (NotCanonical (place input bytes))

-- how many statements are named, 1 to 64, and the number of each; numbers count from 1
unfoldable pub names_at : ℕ → List ℕ → Reading (List ℕ)
names_at input [] = Err Short
names_at input (count ∷ rest) =
    if nat_lt 0 count && nat_le count MOST_CITED then rising_at count 0 input [] rest else Err (NotCanonical (place input (count ∷ rest)))

-- the statements that a grant of this version names
unfoldable pub versioned_names_at : ℕ → ℕ → List ℕ → Reading (List ℕ)
versioned_names_at version input bytes = if version == 1 then Ok ([], bytes) else names_at input bytes

-- a grant: its head, its conditions, at most 64 together, and the statements that it names
unfoldable pub grant_at : ℕ → List ℕ → Reading GrantView
grant_at input bytes = do
  head ← head_at input bytes
  times ← conditions_at time_condition_at may_follow_times MOST_CONDITIONS input head.1
  states ← conditions_at state_condition_at may_follow_states (MOST_CONDITIONS - length times.0) input times.1
  cited ← versioned_names_at head.0.0 input states.1
  Ok (record { goal = head.0.1; times = times.0; states = states.0; cited = cited.0 }, cited.1)
