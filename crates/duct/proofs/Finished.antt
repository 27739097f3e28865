-- What a start that was waited for returns, and what it leaves of the pool.
use Rattle.std.proofs.Common.{◌≡◌, ℕ, Bool, List, [], ◌∷◌, refl, inl, inr, ◌∙◌, map, IfOk, IfErr, OnOk, Ok, Err, All, Option, Result}
use Rattle.std.proofs.lemmas.List.Elements.{All-cons, All-nil, All-head, All-tail}
use Rattle.duct_base.specs.Pool.{PoolView}
use Rattle.duct_system.specs.Child.{ChildView, IsUnasked}
use Rattle.duct_system.specs.EntryView.{EntryView}
use Rattle.duct_system.specs.declared.error.Error.{Error}
use Rattle.duct_start.specs.Chain.{Allows}
use Rattle.duct_start.specs.Plan.{Plan}
use Rattle.duct_start.specs.Running.{MadeReader, IsRunning, RunningView}
use Rattle.duct_start.specs.Start.{StartSucceeds}
use Rattle.duct_start.specs.TreeView.{TreeView}
use Rattle.duct_run.proofs.Leaving.{takes_in}
use Rattle.duct_start.specs.Left.{Leaves, pool_view}
use Rattle.duct_system.specs.SystemViews.{SystemViews}
use Rattle.duct_running.specs.NumbersView.{numbers_of}
use Rattle.duct_running.specs.Polled.{StaysSame}
use Rattle.duct_running.specs.Stored.{Bytes}
use Rattle.duct_handle.proofs.Beginning.{are_numbers}
use Rattle.duct_handle.specs.Finished.{RanUntilGiven}
use Rattle.duct_handle.specs.ReadsText.{FailsToRead}
use Rattle.duct.specs.Launched.{MadeBy, Runs, StartKind, WaitFailed, added_between, drains_error, drains_output, plan_for}
use Rattle.duct.specs.RunResults.{RanTree, ReadStopsBy}
use Rattle.duct.specs.TreeView.{tree_view}
use Rattle.duct.specs.declared.expression.Expression.{Expression}

-- children that kept their orders, of which there were none
still_unordered : {C : Type 0} (view : C → ChildView) (children waited : List C)
    → map (λ c. c.orders) (map view waited) ≡ map (λ c. c.orders) (map view children)
    → All (λ c. IsUnasked (view c)) children → All (λ c. (view c).orders ≡ []) waited
still_unordered view [] [] same all = All-nil (λ c. (view c).orders ≡ [])
still_unordered view [] (w ∷ waited) same all = absurd (cc)
still_unordered view (child ∷ children) [] same all = absurd (cc)
still_unordered view (child ∷ children) (w ∷ waited) same all =
    let none : (view child).orders ≡ [] = (All-head (λ c. IsUnasked (view c)) child children all).unordered in
    let kept : (view w).orders ≡ (view child).orders = cc in
    let rest : map (λ c. c.orders) (map view waited) ≡ map (λ c. c.orders) (map view children) = cc in
    All-cons (λ c. (view c).orders ≡ []) w waited (kept ∙ none)
    (still_unordered view children waited rest (All-tail (λ c. IsUnasked (view c)) child children all))

module _ {S E C F D V W : Type 0} (views : SystemViews S E C F D V W) {T H : Type 0} (tree : TreeView T H)
    (output error : Bool) (added : List EntryView) (running : RunningView C F D)
    (runs : IsRunning views.child views.feed views.drain tree output error added running) where
  -- what was waited for are the children and workers of the tree
  pub ran_tree : (waited : RunningView C F D) → StaysSame views running waited
      → RanTree views tree output error added waited
  ran_tree waited stays = record {
    shape_is = stays.shape_is ∙ runs.shape_is;
    numbers_are = are_numbers views.child views.feed views.drain tree output error added running (numbers_of views waited) runs stays.numbers_are;
    unordered = still_unordered views.child running.children waited.children stays.orders_are runs.unasked;
  }

module _ {S E C F D : Type 0} (views : SystemViews S E C F D (Unit {0}) Bytes) {H : Type 0} (allows : Allows H)
    (kind : StartKind) (root : Expression E H) (sys after : S) (before mid left : PoolView C)
    (asked : StartSucceeds allows views.number_of (tree_view root) (plan_for kind (tree_view root)) (views.journal sys) (views.journal after))
    (running : RunningView C F D) (runs : Runs views running kind (tree_view root) (added_between views sys after))
    (swept : Leaves views.may_answer [] (pool_view views.child before) (pool_view views.child mid)) where
  -- a wait in vain, after which the pool was given the children
  pub wait_failed : (holds : RunningView C F D → Type 0) (returned : RunningView C F D → MadeBy E H)
      → ((waited : RunningView C F D) → holds waited → returned waited kind (tree_view root) (added_between views sys after))
      → RanUntilGiven views running holds mid left
      → WaitFailed views allows kind root sys after before left returned
  wait_failed holds returned step ran = record {
    asked = asked;
    waited = ran.0;
    ran = ran_tree views (tree_view root) (drains_output kind (tree_view root)) (drains_error kind (tree_view root))
        (added_between views sys after) running runs ran.0 ran.1;
    returns = step ran.0 ran.2.0;
    given = takes_in views.may_answer views.child ran.0.children before mid left swept ran.2.1;
  }

  -- reads in vain
  module _ {R : Type 0} (may : ℕ → R → Type 0) (remaining : R → Option (List ℕ)) (reader : R)
      (made : MadeReader may (added_between views sys after) reader) (e : Error) where
    abbrev Stops : RunningView C F D → MadeBy E H
    Stops waited kind tree added = ReadStopsBy views may remaining added e waited

    pub read_failed : FailsToRead views running (remaining reader) e mid left
        → WaitFailed views allows kind root sys after before left Stops
    read_failed (inl (fault, gets)) =
        let stays : StaysSame views running running = record { shape_is = refl; numbers_are = refl; orders_are = refl } in
        record {
          asked = asked;
          waited = running;
          ran = ran_tree views (tree_view root) (drains_output kind (tree_view root)) (drains_error kind (tree_view root))
              (added_between views sys after) running runs running stays;
          returns = (reader, made, inl (fault, runs.unasked));
          given = takes_in views.may_answer views.child running.children before mid left swept gets;
        }
    read_failed (inr ran) = wait_failed _ Stops (λ waited holds. (reader, made, inr holds)) ran

-- two properties of a value, or of an error, give a third
pub if_ok_both : {T F Q : Type 0} (r : Result T F) {P R : T → Type 0}
    → ((value : T) → P value → Q → R value) → IfOk r P → OnOk r Q → IfOk r R
if_ok_both (Ok value) step holds other = step value holds other
if_ok_both (Err error) step holds other = tt

pub if_err_with : {T F : Type 0} (r : Result T F) {P R : F → Type 0}
    → ((error : F) → P error → R error) → IfErr r P → IfErr r R
if_err_with (Ok value) step holds = tt
if_err_with (Err error) step holds = step error holds
