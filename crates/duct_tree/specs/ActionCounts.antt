-- What is counted of the actions of a start before they run.
use Rattle.std.specs.Prelude.{ℕ, Bool, true, false, List, count_by}
use Rattle.duct_run.specs.Actions.{ActionOf, open_read, create, pipe, input, capture, duplicate, duplicate_capture, duplicate_caller_end, parent, close, spawn, feed, finish}

-- the action starts a command
abbrev pub is_spawn : {E K : Type 0} → ActionOf E K → Bool
is_spawn (open_read path) = false
is_spawn (create path) = false
is_spawn pipe = false
is_spawn input = false
is_spawn (capture which) = false
is_spawn (duplicate depth) = false
is_spawn (duplicate_capture which) = false
is_spawn (duplicate_caller_end end) = false
is_spawn (parent which) = false
is_spawn close = false
is_spawn (spawn scope words ports) = true
is_spawn (feed bytes) = false
is_spawn (finish which) = false

-- the action starts an input worker
abbrev pub is_feed : {E K : Type 0} → ActionOf E K → Bool
is_feed (open_read path) = false
is_feed (create path) = false
is_feed pipe = false
is_feed input = false
is_feed (capture which) = false
is_feed (duplicate depth) = false
is_feed (duplicate_capture which) = false
is_feed (duplicate_caller_end end) = false
is_feed (parent which) = false
is_feed close = false
is_feed (spawn scope words ports) = false
is_feed (feed bytes) = true
is_feed (finish which) = false

-- how many commands the actions start
abbrev pub spawn_count : {E K : Type 0} → List (ActionOf E K) → ℕ
spawn_count actions = count_by is_spawn actions

-- how many input workers the actions start
abbrev pub feed_count : {E K : Type 0} → List (ActionOf E K) → ℕ
feed_count actions = count_by is_feed actions
