-- The latest reports of a list with one more event are the latest reports before, changed by that
-- event.
use Rattle.std.proofs.Common.{◌≡◌, ℕ, zero, suc, ◌+◌, ◌<◌, ◌==◌, Bool, true, false, cond, List, [], ◌∷◌, ◌++◌, map, refl, ap, sym, ◌∙◌, arith, Some, None, option_map, Option}
use Rattle.std.proofs.lemmas.Bool.Decides.{nat_tests}
use Rattle.std.proofs.lemmas.List.{append-nil}
use Rattle.std.specs.List.{range_with_len}
use Rattle.duct_system.specs.declared.system.Said.{Said}
use Rattle.duct_system.specs.declared.system.Said.TheVariants as said
use Rattle.duct_system.specs.declared.system.Side.{Side}
use Rattle.duct_system.specs.declared.system.Side.TheVariants as side
use Rattle.duct_status.specs.declared.status.Drains.{Drains}
use Rattle.duct_status.specs.declared.status.Word.{Word}
use Rattle.duct_status.specs.declared.status.Word.TheVariants as word
use Rattle.duct_status.specs.Latest.{words_of_command, words_of_input, words_of_drain, is_same_side, first_ending, last_or, ended_or, latest_of_command, first_result, latest_of_input, latest_of_drain, latest_told, word_after, change_at, latest_after}
use Rattle.duct_status.specs.EventView.{EventView, from_command, from_input, from_drain, conclude}
use Rattle.duct_status.specs.PerSide.{at_side, with_side}
use Rattle.duct_status.specs.ShapeView.{ShapeView, command, command_count, input_count}
use Rattle.duct_status.specs.declared.per_side.PerSide.{PerSide}
use Rattle.duct_system.specs.Job.{kept_after}

cond_append : {T : Type 0} (b : Bool) (x : T) (xs ys zs : List T) → zs ≡ xs ++ ys
    → cond b (x ∷ zs) zs ≡ cond b (x ∷ xs) xs ++ ys
cond_append true x xs ys zs e = ap (λ l. x ∷ l) e
cond_append false x xs ys zs e = e

of_command_append : (k : ℕ) (es fs : List EventView)
    → words_of_command k (es ++ fs) ≡ words_of_command k es ++ words_of_command k fs
of_command_append k [] fs = refl
of_command_append k (from_command j heard ∷ es) fs = cond_append (j == k) heard (words_of_command k es) (words_of_command k fs) (words_of_command k (es ++ fs)) (of_command_append k es fs)
of_command_append k (from_input i heard ∷ es) fs = of_command_append k es fs
of_command_append k (from_drain stream heard ∷ es) fs = of_command_append k es fs
of_command_append k (conclude ∷ es) fs = of_command_append k es fs

of_input_append : (k : ℕ) (es fs : List EventView)
    → words_of_input k (es ++ fs) ≡ words_of_input k es ++ words_of_input k fs
of_input_append k [] fs = refl
of_input_append k (from_command j heard ∷ es) fs = of_input_append k es fs
of_input_append k (from_input i heard ∷ es) fs = cond_append (i == k) heard (words_of_input k es) (words_of_input k fs) (words_of_input k (es ++ fs)) (of_input_append k es fs)
of_input_append k (from_drain stream heard ∷ es) fs = of_input_append k es fs
of_input_append k (conclude ∷ es) fs = of_input_append k es fs

of_drain_append : (stream : Side) (es fs : List EventView)
    → words_of_drain stream (es ++ fs) ≡ words_of_drain stream es ++ words_of_drain stream fs
of_drain_append stream [] fs = refl
of_drain_append stream (from_command j heard ∷ es) fs = of_drain_append stream es fs
of_drain_append stream (from_input i heard ∷ es) fs = of_drain_append stream es fs
of_drain_append stream (from_drain other heard ∷ es) fs = cond_append (is_same_side other stream) heard (words_of_drain stream es) (words_of_drain stream fs) (words_of_drain stream (es ++ fs)) (of_drain_append stream es fs)
of_drain_append stream (conclude ∷ es) fs = of_drain_append stream es fs

abbrev latest_by : Word → List Word → Word
latest_by none words = ended_or (first_ending words) (last_or none words)

-- one more report of a command
word_push : (none : Word) (words : List Word) (x : Word) → word_after none x ≡ x
    → latest_by none (words ++ x ∷ []) ≡ word_after (latest_by none words) x
word_push none [] (word.Ended status) free = sym free
word_push none [] word.Running free = sym free
word_push none [] (word.Fault fault) free = sym free
word_push none (word.Ended status ∷ words) x free = refl
word_push none (word.Running ∷ words) x free = word_push word.Running words x refl
word_push none (word.Fault fault ∷ words) x free = word_push (word.Fault fault) words x refl

-- one more report of a worker
result_push : {T : Type 0} (words : List (Said T)) (x : Said T)
    → first_result (words ++ x ∷ []) ≡ kept_after (first_result words) x
result_push [] said.Running = refl
result_push [] (said.Done value) = refl
result_push [] (said.Fault fault) = refl
result_push (said.Running ∷ words) x = result_push words x
result_push (said.Done value ∷ words) x = refl
result_push (said.Fault fault ∷ words) x = refl

-- an event about something else leaves the list of reports as it was
none_pushed : {T : Type 0} (xs ys zs : List T) → zs ≡ xs ++ ys → ys ≡ [] → zs ≡ xs
none_pushed xs ys zs e f = e ∙ ap (λ l. xs ++ l) f ∙ append-nil xs

command_same : (k : ℕ) (es : List EventView) (e : EventView) → words_of_command k (e ∷ []) ≡ []
    → latest_of_command k (es ++ e ∷ []) ≡ latest_of_command k es
command_same k es e none = ap (latest_by word.Running) (none_pushed (words_of_command k es) (words_of_command k (e ∷ [])) (words_of_command k (es ++ e ∷ [])) (of_command_append k es (e ∷ [])) none)

input_same : (k : ℕ) (es : List EventView) (e : EventView) → words_of_input k (e ∷ []) ≡ []
    → latest_of_input k (es ++ e ∷ []) ≡ latest_of_input k es
input_same k es e none = ap first_result (none_pushed (words_of_input k es) (words_of_input k (e ∷ [])) (words_of_input k (es ++ e ∷ [])) (of_input_append k es (e ∷ [])) none)

drain_same : (stream : Side) (es : List EventView) (e : EventView)
    → words_of_drain stream (e ∷ []) ≡ []
    → latest_of_drain stream (es ++ e ∷ []) ≡ latest_of_drain stream es
drain_same stream es e none = ap first_result (none_pushed (words_of_drain stream es) (words_of_drain stream (e ∷ [])) (words_of_drain stream (es ++ e ∷ [])) (of_drain_append stream es (e ∷ [])) none)

command_told : (k : ℕ) (es : List EventView) (e : EventView) (x : Word)
    → words_of_command k (e ∷ []) ≡ x ∷ []
    → latest_of_command k (es ++ e ∷ []) ≡ word_after (latest_of_command k es) x
command_told k es e x one = ap (latest_by word.Running) (of_command_append k es (e ∷ []) ∙ ap (λ l. words_of_command k es ++ l) one) ∙ word_push word.Running (words_of_command k es) x refl

input_told : (k : ℕ) (es : List EventView) (e : EventView) (x : Said (Unit {0}))
    → words_of_input k (e ∷ []) ≡ x ∷ []
    → latest_of_input k (es ++ e ∷ []) ≡ kept_after (latest_of_input k es) x
input_told k es e x one = ap first_result (of_input_append k es (e ∷ []) ∙ ap (λ l. words_of_input k es ++ l) one) ∙ result_push (words_of_input k es) x

drain_told : (stream : Side) (es : List EventView) (e : EventView) (x : Said (List ℕ))
    → words_of_drain stream (e ∷ []) ≡ x ∷ []
    → latest_of_drain stream (es ++ e ∷ []) ≡ kept_after (latest_of_drain stream es) x
drain_told stream es e x one = ap first_result (of_drain_append stream es (e ∷ []) ∙ ap (λ l. words_of_drain stream es ++ l) one) ∙ result_push (words_of_drain stream es) x

map_same : {T : Type 0} (f g : ℕ → T) (ks : List ℕ) → ((k : ℕ) → g k ≡ f k) → map f ks ≡ map g ks
map_same f g [] same = refl
map_same f g (k ∷ ks) same = ap (λ x. x ∷ map f ks) (sym (same k)) ∙ ap (λ xs. g k ∷ xs) (map_same f g ks same)

map_above : {T : Type 0} (f g : ℕ → T) (a n j : ℕ) → j < a
    → ((k : ℕ) → (j == k) ≡ false → g k ≡ f k)
    → map f (range_with_len a n) ≡ map g (range_with_len a n)
map_above f g a zero j low other = refl
map_above f g a (suc n) j low other = ap (λ x. x ∷ map f (range_with_len (a + 1) n)) (sym (other a (grind (arith, nat_tests)))) ∙ ap (λ xs. g a ∷ xs) (map_above f g (a + 1) n j (omega arith) other)

map_changed : {T : Type 0} (f g : ℕ → T) (change : T → T) (a n i j : ℕ) → j ≡ a + i
    → ((k : ℕ) → (j == k) ≡ true → g k ≡ change (f k)) → ((k : ℕ) → (j == k) ≡ false → g k ≡ f k)
    → change_at change i (map f (range_with_len a n)) ≡ map g (range_with_len a n)
map_changed f g change a zero i j is told other = refl
map_changed f g change a (suc n) zero j is told other = ap (λ x. x ∷ map f (range_with_len (a + 1) n)) (sym (told a (grind (arith, nat_tests)))) ∙ ap (λ xs. g a ∷ xs) (map_above f g (a + 1) n j (omega arith) other)
map_changed f g change a (suc n) (suc i) j is told other = ap (λ x. x ∷ change_at change i (map f (range_with_len (a + 1) n))) (sym (other a (grind (arith, nat_tests)))) ∙ ap (λ xs. g a ∷ xs) (map_changed f g change (a + 1) n i j (omega arith) told other)

when_there : (there : Bool) (x y : Said (List ℕ)) → y ≡ x
    → cond there (Some x) None ≡ cond there (Some y) None
when_there true x y e = ap Some (sym e)
when_there false x y e = refl

when_told : (there : Bool) (change : Said (List ℕ) → Said (List ℕ)) (x y : Said (List ℕ))
    → y ≡ change x → option_map change (cond there (Some x) None) ≡ cond there (Some y) None
when_told true change x y e = ap Some (sym e)
when_told false change x y e = refl

cond_one : {T : Type 0} (b : Bool) (x : T) → b ≡ true → cond b (x ∷ []) [] ≡ x ∷ []
cond_one b x e = ap (λ v. cond v (x ∷ []) []) e

cond_none : {T : Type 0} (b : Bool) (x : T) → b ≡ false → cond b (x ∷ []) [] ≡ []
cond_none b x e = ap (λ v. cond v (x ∷ []) []) e

commands_same : (t : ShapeView) (es : List EventView) (e : EventView)
    → ((k : ℕ) → words_of_command k (e ∷ []) ≡ [])
    → map (λ k. latest_of_command k es) (range_with_len 0 (command_count t)) ≡ map
    (λ k. latest_of_command k (es ++ e ∷ [])) (range_with_len 0 (command_count t))
commands_same t es e none = map_same (λ k. latest_of_command k es) (λ k. latest_of_command k (es ++ e ∷ [])) (range_with_len 0 (command_count t)) (λ k. command_same k es e (none k))

inputs_same : (t : ShapeView) (es : List EventView) (e : EventView)
    → ((k : ℕ) → words_of_input k (e ∷ []) ≡ [])
    → map (λ k. latest_of_input k es) (range_with_len 0 (input_count t)) ≡ map
    (λ k. latest_of_input k (es ++ e ∷ [])) (range_with_len 0 (input_count t))
inputs_same t es e none = map_same (λ k. latest_of_input k es) (λ k. latest_of_input k (es ++ e ∷ [])) (range_with_len 0 (input_count t)) (λ k. input_same k es e (none k))

drain_still : (there : Bool) (stream : Side) (es : List EventView) (e : EventView)
    → words_of_drain stream (e ∷ []) ≡ []
    → cond there (Some (latest_of_drain stream es)) None ≡ cond there
    (Some (latest_of_drain stream (es ++ e ∷ []))) None
drain_still there stream es e none = when_there there (latest_of_drain stream es) (latest_of_drain stream (es ++ e ∷ [])) (drain_same stream es e none)

drain_changed : (there : Bool) (stream : Side) (es : List EventView) (e : EventView)
    (x : Said (List ℕ)) → words_of_drain stream (e ∷ []) ≡ x ∷ []
    → option_map (λ old. kept_after old x) (cond there (Some (latest_of_drain stream es)) None)
    ≡ cond there (Some (latest_of_drain stream (es ++ e ∷ []))) None
drain_changed there stream es e x one = when_told there (λ old. kept_after old x) (latest_of_drain stream es) (latest_of_drain stream (es ++ e ∷ [])) (drain_told stream es e x one)

abbrev told : Drains → List EventView → PerSide (Option (Said (List ℕ)))
told drains es = (latest_told (command []) drains es).drains

drains_still : (drains : Drains) (es : List EventView) (e : EventView)
    → ((stream : Side) → words_of_drain stream (e ∷ []) ≡ [])
    → told drains es ≡ told drains (es ++ e ∷ [])
drains_still drains es e none = λ i. record {
  out = drain_still drains.out side.Out es e (none side.Out) i;
  err = drain_still drains.err side.Err es e (none side.Err) i;
}

drains_changed : (drains : Drains) (es : List EventView) (stream : Side) (x : Said (List ℕ))
    → with_side (told drains es) stream
    (option_map (λ old. kept_after old x) (at_side (told drains es) stream))
    ≡ told drains (es ++ from_drain stream x ∷ [])
drains_changed drains es side.Out x = let e = from_drain side.Out x in λ i. record {
  out = drain_changed drains.out side.Out es e x refl i;
  err = drain_still drains.err side.Err es e refl i;
}
drains_changed drains es side.Err x = let e = from_drain side.Err x in λ i. record {
  out = drain_still drains.out side.Out es e refl i;
  err = drain_changed drains.err side.Err es e x refl i;
}

-- the latest reports after one more event
pub words_more : (t : ShapeView) (drains : Drains) (es : List EventView) (e : EventView)
    → latest_after (latest_told t drains es) e ≡ latest_told t drains (es ++ e ∷ [])
words_more t drains es (from_command j x) =
    let e = from_command j x in
    λ i. record {
      commands = map_changed (λ k. latest_of_command k es) (λ k. latest_of_command k (es ++ e ∷ [])) (λ old. word_after old x) 0 (command_count t) j j (omega arith)
          (λ k same. command_told k es e x (cond_one (j == k) x same)) (λ k other. command_same k es e (cond_none (j == k) x other)) i;
      inputs = inputs_same t es e (λ k. refl) i;
      drains = drains_still drains es e (λ s. refl) i;
    }
words_more t drains es (from_input j x) =
    let e = from_input j x in
    λ i. record {
      commands = commands_same t es e (λ k. refl) i;
      inputs = map_changed (λ k. latest_of_input k es) (λ k. latest_of_input k (es ++ e ∷ [])) (λ old. kept_after old x) 0 (input_count t) j j (omega arith)
          (λ k same. input_told k es e x (cond_one (j == k) x same)) (λ k other. input_same k es e (cond_none (j == k) x other)) i;
      drains = drains_still drains es e (λ s. refl) i;
    }
words_more t drains es (from_drain stream x) =
    let e = from_drain stream x in
    λ i. record {
      commands = commands_same t es e (λ k. refl) i;
      inputs = inputs_same t es e (λ k. refl) i;
      drains = drains_changed drains es stream x i;
    }
words_more t drains es conclude = λ i. record {
  commands = commands_same t es conclude (λ k. refl) i;
  inputs = inputs_same t es conclude (λ k. refl) i;
  drains = drains_still drains es conclude (λ s. refl) i;
}
