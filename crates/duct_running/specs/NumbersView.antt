-- The numbers of the children and of the workers of a start.
use Rattle.std.specs.Prelude.{ℕ, ◌≡◌, ◌≤◌, List, [], map, vec_capacity, option_map, Option}
use Rattle.duct_system.specs.Child.{ChildView}
use Rattle.duct_system.specs.Job.{JobView}
use Rattle.duct_status.specs.ShapeView.{ShapeView, command_count, input_count}
use Rattle.duct_start.specs.Running.{RunningView}
use Rattle.duct_system.specs.SystemViews.{SystemViews}
use Rattle.duct_running.specs.declared.numbers.Numbers.{Numbers}

-- the numbers of the children from left to right, of the input workers in tree order, and of the
-- capture workers of stdout and of stderr
pub record NumbersView : Type 0 where
  pub children : List ℕ
  pub feeds : List ℕ
  pub output : Option ℕ
  pub error : Option ℕ

-- the numbers of a running expression
abbrev pub numbers_in : {C F D V W : Type 0} → (C → ChildView) → (F → JobView V)
    → (D → JobView W) → RunningView C F D → NumbersView
numbers_in child feed drain running = record {
  children = map (λ c. c.number) (map child running.children);
  feeds = map (λ f. f.number) (map feed running.feeds);
  output = option_map (λ d. d.number) (option_map drain running.output);
  error = option_map (λ d. d.number) (option_map drain running.error);
}

-- the numbers of a running expression, by the views of its system
abbrev pub numbers_of : {S E C F D V W : Type 0} → SystemViews S E C F D V W → RunningView C F D
    → NumbersView
numbers_of views running = numbers_in views.child views.feed views.drain running

-- what contracts see of a `Numbers`
abbrev pub numbers_view : Numbers → NumbersView
numbers_view numbers = record {
  children = numbers.children.items;
  feeds = numbers.feeds.items;
  output = numbers.output;
  error = numbers.error;
}

-- there are no numbers of children and input workers yet, with room for those of this shape
pub record HaveRoom (shape : ShapeView) (numbers : Numbers) : Type 0 where
  pub no_children : numbers.children.items ≡ []
  pub no_feeds : numbers.feeds.items ≡ []
  pub children_fit : command_count shape ≤ vec_capacity numbers.children
  pub feeds_fit : input_count shape ≤ vec_capacity numbers.feeds
