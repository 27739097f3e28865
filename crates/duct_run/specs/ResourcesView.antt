-- The resources of a run, as contracts see them.
use Rattle.std.specs.Prelude.{ℕ, ◌+◌, ◌≤◌, ◌≡◌, ◌++◌, List, All, map, reverse, vec_len, vec_capacity, [], None, ◌∷◌, Some, option_map, option_to_list, Option}
use Rattle.duct_system.specs.Child.{ChildView, IsUnasked}
use Rattle.duct_system.specs.Job.{JobView, unpolled_job}
use Rattle.duct_system.specs.declared.system.Side.{Side}
use Rattle.duct_status.specs.PerSide.{at_side}
use Rattle.duct_status.specs.declared.per_side.PerSide.{PerSide}
use Rattle.duct_start.specs.Plan.{no_pipes}
use Rattle.duct_run.specs.declared.resources.Resources.{Resources}

-- the stack, its top first; the ends of the two capture pipes, the read end first; and the children
-- and workers, in order
pub record ResourcesView : Type 0 where
  pub stack : List ℕ
  pub pipes : PerSide (Option (ℕ × ℕ))
  pub children : List ℕ
  pub feeds : List ℕ
  pub drains : List ℕ

-- the numbers of the two ends of a capture pipe, if it is open
abbrev pub pipe_view : {E : Type 0} → (E → ℕ) → Option (E × E) → Option (ℕ × ℕ)
pipe_view end pipe = option_map (λ ends. (end ends.0, end ends.1)) pipe

-- the ends of a capture pipe, if it is open
abbrev pub pipe_ends : {A : Type 0} → Option (A × A) → List A
pipe_ends None = []
pipe_ends (Some pair) = pair.0 ∷ pair.1 ∷ []

-- the ends of both capture pipes, stdout's first
abbrev pub ends_of_pipes : {A : Type 0} → PerSide (Option (A × A)) → List A
ends_of_pipes pipes = pipe_ends pipes.out ++ pipe_ends pipes.err

-- all open ends
abbrev pub open_ends : ResourcesView → List ℕ
open_ends held = held.stack ++ ends_of_pipes held.pipes

-- no resources
abbrev pub empty_resources : ResourcesView
empty_resources = record {
  stack = [];
  pipes = no_pipes;
  children = [];
  feeds = [];
  drains = [];
}

-- the numbers of the ends on the stack, the top first
abbrev pub stack_view : {E : Type 0} → (E → ℕ) → List E → List ℕ
stack_view number_of items = reverse (map number_of items)

-- the numbers of the ends of the capture pipes
abbrev pub pipes_view : {E : Type 0} → (E → ℕ) → PerSide (Option (E × E)) → PerSide (Option (ℕ × ℕ))
pipes_view number_of pipes =
    record { out = pipe_view number_of pipes.out; err = pipe_view number_of pipes.err }

-- those of two values that there are, stdout's first
abbrev pub both : {D : Type 0} → PerSide (Option D) → List D
both values = option_to_list values.out ++ option_to_list values.err

-- the resources, by numbers
abbrev pub resources_view : {E C F D V W : Type 0} → (E → ℕ) → (C → ChildView) → (F → JobView V)
    → (D → JobView W) → Resources E C F D → ResourcesView
resources_view end child feed drain held = record {
  stack = stack_view end held.stack.items;
  pipes = pipes_view end held.pipes;
  children = map (λ c. (child c).number) held.children.items;
  feeds = map (λ f. (feed f).number) held.feeds.items;
  drains = map (λ d. (drain d).number) (both held.drains);
}

-- both have the same ends, children and workers
pub record AreSame {E C F D : Type 0} (old new : Resources E C F D) : Type 0 where
  pub stack : new.stack.items ≡ old.stack.items
  pub pipes : new.pipes ≡ old.pipes
  pub children : new.children.items ≡ old.children.items
  pub feeds : new.feeds.items ≡ old.feeds.items
  pub drains : new.drains ≡ old.drains

-- there are no ends, no children and no workers
pub record IsEmpty {E C F D : Type 0} (held : Resources E C F D) : Type 0 where
  pub stack : held.stack.items ≡ []
  pub pipes : held.pipes ≡ no_pipes
  pub children : held.children.items ≡ []
  pub feeds : held.feeds.items ≡ []
  pub drains : held.drains ≡ record { out = None; err = None }

-- there is room for what any one action gets
pub record HasRoom {E C F D : Type 0} (held : Resources E C F D) : Type 0 where
  pub stack : vec_len held.stack + 3 ≤ vec_capacity held.stack
  pub children : vec_len held.children + 1 ≤ vec_capacity held.children
  pub feeds : vec_len held.feeds + 1 ≤ vec_capacity held.feeds

-- no child was polled or given an order, and no worker was polled
pub record AreNew {E C F D V W : Type 0} (child : C → ChildView) (feed : F → JobView V)
    (drain : D → JobView W) (held : Resources E C F D) : Type 0 where
  pub children : All (λ c. IsUnasked (child c)) held.children.items
  pub feeds : All (λ f. feed f ≡ unpolled_job (feed f).number) held.feeds.items
  pub drains : (which : Side) → All (λ d. drain d ≡ unpolled_job (drain d).number)
      (option_to_list (at_side held.drains which))

-- the capture workers are the same
abbrev pub HasSameWorkers : {E C F D : Type 0} → Resources E C F D → Resources E C F D → Type 0
HasSameWorkers old new = new.drains ≡ old.drains

-- the numbers of all ends, in the order in which they are closed: the stack from its bottom, then
-- the capture pipes of stdout and stderr
abbrev pub ends_of_resources : {E C F D : Type 0} → (E → ℕ) → Resources E C F D → List ℕ
ends_of_resources number_of held =
    map number_of held.stack.items ++ ends_of_pipes (pipes_view number_of held.pipes)
