-- The results that children and workers store, as the words that a core is given.
use Rattle.std.specs.Prelude.{ℕ, ◌≡◌, List, All, map, Ok, Err, Some, None, option_map, option_to_list, Option, Vec}
use Rattle.std.specs.declared.alloc.Global.{Global}
use Rattle.std.specs.declared.sync.Arc.{Arc}
use Rattle.duct_system.specs.Child.{Answer, ChildView, IsUnasked}
use Rattle.duct_system.specs.Job.{JobView, unpolled_job}
use Rattle.duct_start.specs.Running.{RunningView}
use Rattle.duct_system.specs.SystemViews.{SystemViews}
use Rattle.duct_status.specs.EventView.{bytes_said}
use Rattle.duct_status.specs.Latest.{Latest}
use Rattle.duct_status.specs.declared.status.Word.{Word}
use Rattle.duct_status.specs.declared.status.Word.TheVariants as word
use Rattle.duct_system.specs.declared.system.ExitStatus.{ExitStatus}

-- the word for the result of a child's poll
abbrev pub answer_word : Answer → Word
answer_word (Ok (Some status)) = word.Ended status
answer_word (Ok None) = word.Running
answer_word (Err fault) = word.Fault fault

-- the word that a child stores: its ending, else the fault of its last poll, else Running
abbrev pub stored_word : Option ExitStatus → Option Answer → Word
stored_word (Some status) last = word.Ended status
stored_word None (Some (Err fault)) = word.Fault fault
stored_word None (Some (Ok found)) = word.Running
stored_word None None = word.Running

-- the bytes that a capture worker returns
abbrev pub Bytes : Type 0
Bytes = Arc (Vec ℕ Global) Global

-- the words that children, input workers and the capture workers of stdout and of stderr store
abbrev pub stored_latest : List ChildView → List (JobView (Unit {0})) → Option (JobView Bytes)
    → Option (JobView Bytes) → Latest
stored_latest children feeds output error = record {
  commands = map (λ child. stored_word child.ending child.last) children;
  inputs = map (λ feed. feed.kept) feeds;
  drains = record {
    out = option_map (λ drain. bytes_said drain.kept) output;
    err = option_map (λ drain. bytes_said drain.kept) error;
  };
}

-- the words that the children and the workers of a start store
abbrev pub stored_in : {C F D : Type 0} → (C → ChildView) → (F → JobView (Unit {0}))
    → (D → JobView Bytes) → RunningView C F D → Latest
stored_in child feed drain running =
    stored_latest (map child running.children) (map feed running.feeds)
    (option_map drain running.output) (option_map drain running.error)

module _ {S E C F D V W : Type 0} (views : SystemViews S E C F D V W) where
  -- no child was polled or given an order, and no worker was polled
  pub record AreUnasked (children : List C) (feeds : List F) (output error : Option D)
      : Type 0 where
    pub children_unasked : All (λ c. IsUnasked (views.child c)) children
    pub feeds_unpolled : All (λ f. views.feed f ≡ unpolled_job (views.feed f).number) feeds
    pub output_unpolled : All (λ d. views.drain d ≡ unpolled_job (views.drain d).number)
        (option_to_list output)
    pub error_unpolled : All (λ d. views.drain d ≡ unpolled_job (views.drain d).number)
        (option_to_list error)
