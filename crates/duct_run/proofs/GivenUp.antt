-- A run that failed and gave up what it held is a start that failed and left its children to the
-- pool.
use Rattle.std.proofs.Common.{◌≡◌, ℕ, ◌+◌, ◌*◌, ◌≤◌, List, [], length, arith, length-append, map, reverse}
use Rattle.duct_run.proofs.Common.{length-reverse, PoolView, IsGiven, Answer, ChildView, JobView, JournalView, count_of, segment, Error, Allows, Refuses, Closes, StoppedWithCause, ResourcesView, open_ends, ends_of_pipes, AreNew, resources_view, ends_of_resources, Leaves, LeavesStarted, pool_view, Plan, RunContext, StartRefused, depth, Item, TreeView, count-append, count-reverse, Resources}
use Rattle.duct_run.proofs.Ceiling.{ceiling}
use Rattle.duct_run.proofs.Closing.{refused_closed, refused_children, refused_room}
use Rattle.duct_run.proofs.Leaving.{leaves_started}

module _ {E H C F D V W : Type 0} (allows : Allows H) (refuses : Refuses H) (number_of : E → ℕ) (child : C → ChildView) (feed : F → JobView V) (drain : D → JobView W)
    (context : RunContext) (items : List (Item E H)) (now : JournalView) (held : Resources E C F D) (error : Error)
    (run : StoppedWithCause allows refuses number_of context items now (resources_view number_of child feed drain held) error) where
  abbrev seen : ResourcesView
  seen = resources_view number_of child feed drain held

  -- the list of ends to close has the same ends as the view of what is held
  same_ends : (n : ℕ) → count_of n (ends_of_resources number_of held) ≡ count_of n (open_ends seen)
  same_ends n =
      let places = map number_of held.stack.items in
      let pairs = ends_of_pipes seen.pipes in
      omega (arith, count-append n places pairs, count-append n (reverse places) pairs, count-reverse n places)

  as_many : length (ends_of_resources number_of held) ≡ length (open_ends seen)
  as_many =
      let places = map number_of held.stack.items in
      let pairs = ends_of_pipes seen.pipes in
      omega (arith, length-append places pairs, length-append (reverse places) pairs, length-reverse places)

  -- there is room to close all that it held
  pub room_left : length (ends_of_resources number_of held) ≤ now.room
  room_left = omega (arith, as_many, refused_room allows refuses number_of context items now seen error run)

  module _ (then : JournalView) (closes : Closes (ends_of_resources number_of held) now then) where
    pub given_up : (tree : TreeView E H) (plan : Plan E H) → context.base ≡ ceiling number_of tree
        → context.bound ≡ 2 * depth tree + 4 → plan.items ≡ items
        → StartRefused allows refuses number_of tree plan context.old then error
    given_up tree plan base_is bound_is items_are = refused_closed allows refuses number_of context items now then seen error run (ends_of_resources number_of held) same_ends as_many closes tree plan base_is bound_is items_are

    pub left_started : (may : ℕ → Answer → Type 0) (before mid after : PoolView C)
        → AreNew child feed drain held
        → Leaves may [] (pool_view child before) (pool_view child mid)
        → IsGiven may child held.children.items mid after
        → LeavesStarted may child (segment context.old.entries then.entries) before after
    left_started may before mid after new swept given =
        leaves_started may child held.children.items (segment context.old.entries then.entries) before mid after swept given
        (refused_children allows refuses number_of context items now then seen error run (ends_of_resources number_of held) same_ends as_many closes) new.children
