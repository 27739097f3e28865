-- What polls leave as it is.
use Rattle.std.proofs.Common.{refl, ◌∙◌}
use Rattle.duct_system.specs.Child.{ChildView}
use Rattle.duct_system.specs.Job.{JobView}
use Rattle.duct_tasks.proofs.Common.{RunningView, SystemViews, Stays, StaysSame, Bytes, RunsAlike}

module _ {C F D V W : Type 0} {child : C → ChildView} {feed : F → JobView V} {drain : D → JobView W}
  where
    pub stays_same : (running : RunningView C F D) → Stays child feed drain running running
    stays_same running = record { shape_is = refl; numbers_are = refl; orders_are = refl }

    pub stays_on : {one two three : RunningView C F D} → Stays child feed drain one two
        → Stays child feed drain two three → Stays child feed drain one three
    stays_on first second = record {
      shape_is = second.shape_is ∙ first.shape_is;
      numbers_are = second.numbers_are ∙ first.numbers_are;
      orders_are = second.orders_are ∙ first.orders_are;
    }

module _ {S E C F D : Type 0} (views : SystemViews S E C F D (Unit {0}) Bytes) where
  pub alike : (before after : RunningView C F D) → StaysSame views before after → RunsAlike views
      before after
  alike before after stays = λ i. (stays.shape_is i, stays.numbers_are i)
