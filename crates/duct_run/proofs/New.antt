-- What a successful run holds is a running start, where no child was polled or given an order and
-- no worker was polled.
use Rattle.std.proofs.Common.{◌≡◌, ℕ, List, [], ◌∷◌, ◌++◌, refl, ap, sym, ◌∙◌, subst, map, is_some, option_to_list, All}
use Rattle.duct_run.proofs.Common.{All-append, All-head, All-tail, ChildView, EntryView, JobView, unpolled_job, JournalView, segment, State, Allows, LedgerInvariant, RunContext, RunInvariant, TreeView, AreNew, resources_view, Resources}
use Rattle.duct_status.specs.ShapeView.{shape_view}
use Rattle.duct_status.specs.declared.status.Shape.{Shape}
use Rattle.duct_system.specs.declared.system.Side.TheVariants as side
use Rattle.duct_start.specs.Running.{IsRunning, RunningView}
use Rattle.duct_start.specs.ShapeOfTree.{shape_of_tree}
use Rattle.duct_run.proofs.Whole.{segment_is}

-- jobs that were never polled are determined by their numbers
unpolled_all : {J V : Type 0} (job : J → JobView V) (jobs : List J)
    → All (λ j. job j ≡ unpolled_job (job j).number) jobs →
    map job jobs ≡ map (λ number. unpolled_job number) (map (λ j. (job j).number) jobs)
unpolled_all job [] all = refl
unpolled_all {J} {V} job (j ∷ jobs) all =
    let test = λ (j : J). job j ≡ unpolled_job (job j).number in
    ap (λ (v : JobView V). v ∷ map job jobs) (All-head test j jobs all) ∙ ap (λ (l : List (JobView V)). unpolled_job (job j).number ∷ l) (unpolled_all job jobs (All-tail test j jobs all))

module _ {E H C F D V W : Type 0} (child : C → ChildView) (feed : F → JobView V) (drain : D → JobView W) (number_of : E → ℕ) (tree : TreeView E H) (shape : Shape) (held : Resources E C F D)
    (new : AreNew child feed drain held) (seen : shape_view shape ≡ shape_of_tree tree) where
  -- what the run leaves
  abbrev pub run : RunningView C F D
  run = record {
    shape = shape;
    children = held.children.items;
    feeds = held.feeds.items;
    output = held.drains.out;
    error = held.drains.err;
  }

  -- by the entries that were added
  pub runs_new : (old now : JournalView) (added : List EntryView)
      → LedgerInvariant old now added (resources_view number_of child feed drain held)
      → IsRunning child feed drain tree (is_some held.drains.out) (is_some held.drains.err)
      added run
  runs_new old now added ledger =
      let outputs = option_to_list held.drains.out in
      let errors = option_to_list held.drains.err in
      record {
        shape_is = seen;
        children_are = ledger.children_are;
        unasked = new.children;
        feeds_are = unpolled_all feed held.feeds.items new.feeds ∙ ap (λ (l : List ℕ). map (λ number. unpolled_job number) l) ledger.feeds_are;
        drains_are = unpolled_all drain (outputs ++ errors) (All-append (λ d. drain d ≡ unpolled_job (drain d).number) outputs errors (new.drains side.Out) (new.drains side.Err))
            ∙ ap (λ (l : List ℕ). map (λ number. unpolled_job number) l) ledger.drains_are;
        output_is = refl;
        error_is = refl;
      }

  -- by the journal before and after
  pub runs_started : (allows : Allows H) (context : RunContext) (state : State E H) (now : JournalView)
      → RunInvariant allows number_of context state now (resources_view number_of child feed drain held)
      → IsRunning child feed drain tree (is_some held.drains.out) (is_some held.drains.err)
      (segment context.old.entries now.entries) run
  runs_started allows context state now invariant =
      let added = invariant.added in
      subst (λ (l : List EntryView). IsRunning child feed drain tree (is_some held.drains.out) (is_some held.drains.err) l
      run)
      (sym (segment_is context.old.entries now.entries added invariant.ledger.entries_are)) (runs_new context.old now added invariant.ledger)
