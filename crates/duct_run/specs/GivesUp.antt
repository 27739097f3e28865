-- A run that failed and gave up its resources.
use Rattle.std.specs.Prelude.{ℕ, List, [], ◌+◌, ◌≤◌, ◌≡◌, ◌++◌, length, map}
use Rattle.duct_base.specs.Pool.{PoolView, IsGiven}
use Rattle.duct_system.specs.Child.{Answer, ChildView}
use Rattle.duct_system.specs.Job.{JobView}
use Rattle.duct_system.specs.Journal.{JournalView}
use Rattle.duct_system.specs.declared.error.Error.{Error}
use Rattle.duct_run.specs.Actions.{Action}
use Rattle.duct_start.specs.Chain.{Allows, Refuses}
use Rattle.duct_start.specs.Left.{Leaves, pool_view}
use Rattle.duct_run.specs.RunContract.{PlanTail, ActionsFail}
use Rattle.duct_run.specs.ResourcesView.{ends_of_resources, AreNew, resources_view}
use Rattle.duct_run.specs.declared.resources.Resources.{Resources}
use Rattle.duct_system.specs.EntryView.{Close}

-- the ends of these numbers were closed, one after the other, and no other request was made
pub record Closes (numbers : List ℕ) (old new : JournalView) : Type 0 where
  pub entries_are : new.entries ≡ old.entries ++ map Close numbers
  pub counted : new.added ≡ old.added + length numbers
  pub next_grows : old.next ≤ new.next
  pub room_is : old.room ≤ new.room + length numbers

-- the run failed with this error and these resources; the pool was swept while it ran, each open
-- end was closed, and each child was given to the pool
pub record GivesUp {E H C F D V W : Type 0} (allows : Allows H) (refuses : Refuses H)
    (end : E → ℕ) (child : C → ChildView) (feed : F → JobView V) (drain : D → JobView W)
    (may : ℕ → Answer → Type 0) (ending : PlanTail E H) (actions : List (Action E H))
    (old next : JournalView) (before after : PoolView C) (error : Error) : Type 0 where
  pub held : Resources E C F D
  pub stopped : JournalView
  pub swept : PoolView C
  pub refused : ActionsFail allows refuses end ending actions old stopped
      (resources_view end child feed drain held) error
  pub new : AreNew child feed drain held
  pub closes : Closes (ends_of_resources end held) stopped next
  pub leaves : Leaves may [] (pool_view child before) (pool_view child swept)
  pub given : IsGiven may child held.children.items swept after
