-- What is published was concluded, and one more owner of it has the same answer.
use Rattle.std.proofs.Common.{◌≡◌, ap, refl, subst, sym, ◌∙◌, ℕ, IfSome, Ok, Err, Some, None, option_map, Option}
use Rattle.duct_handle.proofs.Common.{∥∥₁_map, Error, ShapeView, shape_view, SystemViews, Concluded, IsAnswer, WasConcluded, Polled, OneRuns, NumbersView, Bytes, answer_view, HandleView, PublishedView, SeenView, GivesAgain, IsNoEnding, KnowsIfEnded, Waited}
use Rattle.duct_system.specs.Child as child
use Rattle.duct_system.specs.declared.system.Said.{Said}
use Rattle.duct_system.specs.declared.error.Error.TheVariants as error
use Rattle.once_cell.specs.Once.{Agrees}
use Rattle.duct_handle.specs.declared.published.Answer.{Answer}

pub concluded : (answer : ℕ → child.Answer → Type 0) (feed : ℕ → Said (Unit {0}) → Type 0)
    (drain : ℕ → Said Bytes → Type 0) (here there : ShapeView) (mine its : NumbersView)
    (found : Option Answer) (ending : Answer) → found ≡ Some ending → its ≡ mine → there ≡ here
    → ∥ IfSome found (λ a. Concluded answer feed drain there its (answer_view a)) ∥₁ → WasConcluded answer feed drain here mine (answer_view ending)
concluded answer feed drain here there mine its found ending is same alike told =
    ∥∥₁_map told (λ t.
    let t' : Concluded answer feed drain there its (answer_view ending) = subst (λ (o : Option Answer). IfSome o (λ a. Concluded answer feed drain there its (answer_view a))) is t in
    subst (λ (X : Type 0). X) (λ i. Concluded answer feed drain (alike i) (same i) (answer_view ending)) t')

-- a wait that returns what its token then knows
module _ {S E C F D : Type 0} (views : SystemViews S E C F D (Unit {0}) Bytes) {X : Type 0} (view : X → PublishedView) (handle : HandleView) where
  knows_same : (cell other : ℕ) (known : Option PublishedView) (polled : Polled)
      → KnowsIfEnded handle (record { cell = cell; known = known }) polled
      → KnowsIfEnded handle (record { cell = other; known = known }) polled
  knows_same cell other known (Ok None) knows = tt
  knows_same cell other known (Ok (Some output)) knows = knows
  knows_same cell other known (Err (error.Checked text)) knows = knows
  knows_same cell other known (Err (error.System fault)) knows = tt
  knows_same cell other known (Err error.NotUtf8) knows = tt
  knows_same cell other known (Err (error.Hook fault)) knows = tt
  knows_same cell other known (Err (error.HookEnd end)) knows = tt
  knows_same cell other known (Err error.Deadline) knows = tt
  knows_same cell other known (Err error.Memory) knows = tt

  again_by : (old : Option X) (x : X) (polled : Polled) → Agrees old x
      → GivesAgain handle (view x) polled
      → IfSome (option_map view old) (λ known. GivesAgain handle known polled)
  again_by None x polled agrees again = tt
  again_by (Some y) x polled agrees again = subst (λ z. GivesAgain handle (view z) polled) (sym agrees) again

  kept_by : (old new : Option X) (x : X) → new ≡ Some x → Agrees old x
      → IfSome (option_map view old) (λ known. option_map view new ≡ Some known)
  kept_by None new x is agrees = tt
  kept_by (Some y) new x is agrees = ap (λ o. option_map view o) is ∙ ap (λ z. Some (view z)) (sym agrees)

  pub shared : (before cell : ℕ) (old new : Option X) (x : X) (polled : Polled) → new ≡ Some x
      → Agrees old x → cell ≡ handle.cell
      → IsAnswer views (shape_view handle.shape) handle.numbers polled
      → (polled ≡ Ok None → ⊥)
      → KnowsIfEnded handle (record { cell = handle.cell; known = Some (view x) }) polled
      → GivesAgain handle (view x) polled
      → Waited views handle (record { cell = before; known = option_map view old }) (record { cell = cell; known = option_map view new }) polled
  shared before cell old new x polled is agrees same told ended knows again = record {
    cell = same;
    told = told;
    pending = λ none. absurd (ended none);
    knows = subst (λ (o : Option PublishedView). KnowsIfEnded handle (record { cell = cell; known = o }) polled) (sym (ap (λ o. option_map view o) is)) (knows_same handle.cell cell (Some (view x)) polled knows);
    kept = kept_by old new x is agrees;
    again = again_by old x polled agrees again;
  }

  -- a wait with a token that knew nothing
  pub unknown : (before cell : ℕ) (old new : Option X) (polled : Polled) → old ≡ None
      → cell ≡ handle.cell → IsAnswer views
      (shape_view handle.shape) handle.numbers polled
      → (polled ≡ Ok None → OneRuns views handle.numbers) → KnowsIfEnded handle (record { cell = cell; known = option_map view new }) polled
      → Waited views handle (record { cell = before; known = option_map view old }) (record { cell = cell; known = option_map view new }) polled
  unknown before cell old new polled none same told pending knows = record {
    cell = same;
    told = told;
    pending = pending;
    knows = knows;
    kept = subst (λ o. IfSome (option_map view o) (λ known. option_map view new ≡ Some known)) (sym none) tt;
    again = subst (λ o. IfSome (option_map view o) (λ known. GivesAgain handle known polled)) (sym none) tt;
  }

  unended : (seen : SeenView) (e : Error) → IsNoEnding e → KnowsIfEnded handle seen (Err e)
  unended seen (error.Checked text) none = absurd none
  unended seen (error.System fault) none = tt
  unended seen error.NotUtf8 none = tt
  unended seen (error.Hook fault) none = tt
  unended seen (error.HookEnd end) none = tt
  unended seen error.Deadline none = tt
  unended seen error.Memory none = tt

  -- a wait that fails, with a token that knew nothing
  pub refused : (before cell : ℕ) (old new : Option X) (e : Error) → old ≡ None
      → cell ≡ handle.cell → IsAnswer views (shape_view handle.shape) handle.numbers
      (Err e) → IsNoEnding e
      → Waited views handle (record { cell = before; known = option_map view old }) (record { cell = cell; known = option_map view new }) (Err e)
  refused before cell old new e none same told fault =
      unknown before cell old new (Err e) none same told (λ is. absurd (cc)) (unended (record { cell = cell; known = option_map view new }) e fault)

  -- a wait with a token that knows nothing and learns nothing
  pub still_unknown : (seen : SeenView) (polled : Polled) → seen.known ≡ None
      → seen.cell ≡ handle.cell
      → IsAnswer views (shape_view handle.shape) handle.numbers polled
      → (polled ≡ Ok None → OneRuns views handle.numbers)
      → KnowsIfEnded handle seen polled → Waited views handle seen seen polled
  still_unknown seen polled none same told pending knows = record {
    cell = same;
    told = told;
    pending = pending;
    knows = knows;
    kept = subst (λ o. IfSome o (λ known. seen.known ≡ Some known)) (sym none) tt;
    again = subst (λ o. IfSome o (λ known. GivesAgain handle known polled)) (sym none) tt;
  }

  pub still_refused : (seen : SeenView) (e : Error) → seen.known ≡ None → seen.cell ≡ handle.cell
      → IsAnswer views (shape_view handle.shape) handle.numbers (Err e)
      → IsNoEnding e → Waited views handle seen seen (Err e)
  still_refused seen e none same told fault =
      still_unknown seen (Err e) none same told (λ is. absurd (cc)) (unended seen e fault)

-- nothing is known if its view is none
pub none_within : {X : Type 0} (view : X → PublishedView) (o : Option X)
    → option_map view o ≡ None → o ≡ None
none_within view None is = refl
none_within view (Some x) is = absurd (cc)
