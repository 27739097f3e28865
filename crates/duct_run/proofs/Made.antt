-- The spec that is made for a command is the one that its tree asks for, where each port is that of
-- its stream's target.
use Rattle.std.proofs.Common.{◌≡◌, ◌∙◌, ℕ, List}
use Rattle.duct_run.proofs.Common.{SpecView, Vars, Port, Stream, Scope, PerStream, surroundings_by, port_in, IsAsked, port_to, Target, target_of, IsMade}

pub made_is_asked : {E H : Type 0} (pairs : Vars) (program : List ℕ) (scope : Scope E H)
    (words : List (List ℕ)) (ports : PerStream Port) (spec : SpecView)
    → IsMade pairs program scope.folder scope.changes words ports spec → (stack : List (Target E))
    → ((stream : Stream)
    → port_in ports stream ≡ port_to stream (target_of (surroundings_by scope ports stack) stream))
    → IsAsked pairs program (surroundings_by scope ports stack) words spec
made_is_asked pairs program scope words ports spec made stack ports_fit = record {
  words_are = made.words_are;
  folder_is = made.folder_is;
  vars_are = made.vars_are;
  vars_ordered = made.vars_ordered;
  ports_are = λ stream. made.ports_are stream ∙ ports_fit stream;
}
