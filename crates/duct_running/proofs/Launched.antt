-- What a start leaves running was never polled, and its children were given no order.
use Rattle.std.proofs.Common.{◌≡◌, ap, sym, ◌∙◌, ℕ, Bool, List, [], ◌∷◌, ◌++◌, All, map, Some, None, option_to_list, Option}
use Rattle.duct_running.proofs.Common.{All-cons, All-head, All-nil, All-tail, All-weaker, IsUnasked, JobView, unpolled_job, IsRunning, RunningView, SystemViews, IsUnordered, AreUnasked}
use Rattle.duct_system.specs.EntryView.{EntryView}
use Rattle.duct_system.specs.Started.{feeds_in, drains_in}
use Rattle.duct_start.specs.TreeView.{TreeView}

module _ {X T : Type 0} (view : X → JobView T) where
  abbrev IsUnpolled : X → Type 0
  IsUnpolled job = view job ≡ unpolled_job (view job).number

  unpolled : (job : X) (number : ℕ) → view job ≡ unpolled_job number → IsUnpolled job
  unpolled job number is = is ∙ ap (λ n. unpolled_job n) (sym (ap (λ (j : JobView T). j.number) is))

  all_unpolled : (jobs : List X) (numbers : List ℕ)
      → map view jobs ≡ map (λ number. unpolled_job number) numbers → All IsUnpolled jobs
  all_unpolled [] numbers are = All-nil IsUnpolled
  all_unpolled (job ∷ jobs) [] are = absurd (cc)
  all_unpolled (job ∷ jobs) (number ∷ numbers) are =
      let is : view job ≡ unpolled_job number = cc in
      let rest : map view jobs ≡ map (λ number. unpolled_job number) numbers = cc in
      All-cons IsUnpolled job jobs (unpolled job number is) (all_unpolled jobs numbers rest)

  first_unpolled : (one other : Option X) → All IsUnpolled (option_to_list one ++ option_to_list other)
      → All IsUnpolled (option_to_list one)
  first_unpolled None other all = All-nil IsUnpolled
  first_unpolled (Some job) other all =
      All-cons IsUnpolled job [] (All-head IsUnpolled job (option_to_list other) all) (All-nil IsUnpolled)

  second_unpolled : (one other : Option X) → All IsUnpolled (option_to_list one ++ option_to_list other)
      → All IsUnpolled (option_to_list other)
  second_unpolled None other all = all
  second_unpolled (Some job) other all = All-tail IsUnpolled job (option_to_list other) all

module _ {S E C F D V W A H : Type 0} (views : SystemViews S E C F D V W) {tree : TreeView A H}
    {output error : Bool} {added : List EntryView} {running : RunningView C F D}
    (runs : IsRunning views.child views.feed views.drain tree output error added running) where
  -- no child was polled or given an order, and no worker was polled
  pub launched_unasked : AreUnasked views running.children running.feeds running.output running.error
  launched_unasked =
      let drains = all_unpolled views.drain (option_to_list running.output ++ option_to_list running.error) (drains_in added) runs.drains_are in
      record {
        children_unasked = runs.unasked;
        feeds_unpolled = all_unpolled views.feed running.feeds (feeds_in added) runs.feeds_are;
        output_unpolled = first_unpolled views.drain running.output running.error drains;
        error_unpolled = second_unpolled views.drain running.output running.error drains;
      }

  -- no child was given an order
  pub launched_unordered : IsUnordered views running
  launched_unordered =
      All-weaker (λ c. IsUnasked (views.child c)) (λ c. (views.child c).orders ≡ []) (λ c unasked. unasked.unordered) running.children runs.unasked
