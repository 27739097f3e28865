-- A core that was given no result has the words that children and workers store which were never
-- polled.
use Rattle.std.specs.List.{range_with_len}
use Rattle.std.proofs.Common.{◌≡◌, ◌+◌, refl, ap, sym, ◌∙◌, arith, ℕ, zero, suc, List, [], ◌∷◌, All, map, length, is_some, if◌then◌else◌, Some, None, option_map, option_to_list, Option}
use Rattle.duct_running.proofs.Common.{All-head, All-tail, Answer, ChildView, IsUnasked, JobView, unpolled_job, ExitStatus, bytes_said, Latest, latest_told, ShapeView, command_count, input_count, Word, SystemViews, Bytes, AreUnasked, stored_word, stored_latest}
use Rattle.duct_system.specs.declared.system.Said.TheVariants as said
use Rattle.duct_status.specs.declared.status.Word.TheVariants as word

silent : (child : ChildView) → IsUnasked child → stored_word child.ending child.last ≡ word.Running
silent child unasked = ap (λ (e : Option ExitStatus). stored_word e child.last) unasked.alive ∙ ap (λ (l : Option Answer). stored_word None l) unasked.silent

module _ {C F D : Type 0} (child : C → ChildView) (feed : F → JobView (Unit {0})) (drain : D → JobView Bytes) where
  commands : (children : List C) (from count : ℕ) → length children ≡ count
      → All (λ c. IsUnasked (child c)) children →
      map (λ k. word.Running) (range_with_len from count) ≡ map (λ c. stored_word c.ending c.last) (map child children)
  commands [] from zero many unasked = refl
  commands [] from (suc count) many unasked = absurd (cc)
  commands (c ∷ children) from zero many unasked = absurd (cc)
  commands (c ∷ children) from (suc count) many unasked =
      ap (λ ws. word.Running ∷ ws) (commands children (from + 1) count (omega arith) (All-tail (λ c. IsUnasked (child c)) c children unasked))
      ∙ ap (λ (w : Word). w ∷ map (λ c. stored_word c.ending c.last) (map child children)) (sym (silent (child c) (All-head (λ c. IsUnasked (child c)) c children unasked)))

  inputs : (feeds : List F) (from count : ℕ) → length feeds ≡ count
      → All (λ f. feed f ≡ unpolled_job (feed f).number) feeds →
      map (λ k. said.Running) (range_with_len from count) ≡ map (λ f. f.kept) (map feed feeds)
  inputs [] from zero many unpolled = refl
  inputs [] from (suc count) many unpolled = absurd (cc)
  inputs (f ∷ feeds) from zero many unpolled = absurd (cc)
  inputs (f ∷ feeds) from (suc count) many unpolled =
      ap (λ ws. said.Running ∷ ws) (inputs feeds (from + 1) count (omega arith) (All-tail (λ f. feed f ≡ unpolled_job (feed f).number) f feeds unpolled))
      ∙ ap (λ (j : JobView (Unit {0})). j.kept ∷ map (λ f. f.kept) (map feed feeds)) (sym (All-head (λ f. feed f ≡ unpolled_job (feed f).number) f feeds unpolled))

  capture : (worker : Option D) → All (λ d. drain d ≡ unpolled_job (drain d).number)
      (option_to_list worker) →
      (if is_some worker then Some said.Running else None) ≡ option_map (λ d. bytes_said d.kept) (option_map drain worker)
  capture None unpolled = refl
  capture (Some worker) unpolled = ap (λ (j : JobView Bytes). Some (bytes_said j.kept)) (sym (All-head (λ d. drain d ≡ unpolled_job (drain d).number) worker [] unpolled))

-- the words that they store, by the views of their system
pub unasked_words : {S E C F D : Type 0} (views : SystemViews S E C F D (Unit {0}) Bytes)
    (shape : ShapeView) (words : Latest) (children : List C) (feeds : List F) (output error : Option D)
    → words ≡ latest_told shape (record { out = is_some output; err = is_some error }) []
    → length children ≡ command_count shape → length feeds ≡ input_count shape
    → AreUnasked views children feeds output error
    → words ≡ stored_latest (map views.child children) (map views.feed feeds) (option_map views.drain output) (option_map views.drain error)
unasked_words views shape words children feeds output error told as_commands as_inputs unasked =
    told ∙ rw (
      sym (commands views.child views.feed views.drain children 0 (command_count shape) as_commands unasked.children_unasked),
      sym (inputs views.child views.feed views.drain feeds 0 (input_count shape) as_inputs unasked.feeds_unpolled),
      sym (capture views.child views.feed views.drain output unasked.output_unpolled),
      sym (capture views.child views.feed views.drain error unasked.error_unpolled),
    ) refl
