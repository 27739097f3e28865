-- What a running expression keeps, besides its children and workers.
use Rattle.std.specs.Prelude.{ℕ, ◌≡◌, ◌≤◌, List, [], ◌++◌, length, map, vec_capacity, option_map, option_to_list, Option, Vec}
use Rattle.std.specs.declared.alloc.Global.{Global}
use Rattle.duct_system.specs.Child.{Answer, ChildView}
use Rattle.duct_system.specs.Job.{JobView}
use Rattle.duct_system.specs.declared.system.Said.{Said}
use Rattle.duct_status.specs.Latest.{Latest}
use Rattle.duct_status.specs.ShapeView.{ShapeView, command_count, input_count}
use Rattle.duct_running.specs.Stored.{Bytes, stored_latest}
use Rattle.duct_running.specs.Allowed.{AnswersAllowed}
use Rattle.duct_running.specs.declared.running.RunningBuffers.{RunningBuffers}

-- the core's words are those that the children and workers store, each one that its child or worker
-- may return; there are as many of these as the shape has; the ids are the children's; and there is
-- room for the capture workers
pub record RunningInvariant {C F D : Type 0} (child : C → ChildView) (feed : F → JobView (Unit {0}))
    (drain : D → JobView Bytes) (answer : ℕ → Answer → Type 0)
    (feed_says : ℕ → Said (Unit {0}) → Type 0) (drain_says : ℕ → Said Bytes → Type 0)
    (shape : ShapeView) (words : Latest) (ids : List ℕ) (children : List C) (feeds : List F)
    (output error : Option D) (room : Vec D Global) : Type 0 where
  pub heard : words ≡ stored_latest (map child children) (map feed feeds)
      (option_map drain output) (option_map drain error)
  pub told : ∥ AnswersAllowed answer feed_says drain_says (map child children) (map feed feeds)
      (option_map drain output) (option_map drain error) ∥₁
  pub commands : length children ≡ command_count shape
  pub inputs : length feeds ≡ input_count shape
  pub named : ids ≡ map (λ c. c.process) (map child children)
  pub empty : room.items ≡ []
  pub fits : length (option_to_list output ++ option_to_list error) ≤ vec_capacity room

-- the room is empty, and is enough for the ids of the commands of this shape and for two capture
-- workers
pub record FitsShape {D : Type 0} (shape : ShapeView) (room : RunningBuffers D) : Type 0 where
  pub unnamed : room.ids.items ≡ []
  pub named : command_count shape ≤ vec_capacity room.ids
  pub empty : room.drains.items ≡ []
  pub drained : 2 ≤ vec_capacity room.drains
