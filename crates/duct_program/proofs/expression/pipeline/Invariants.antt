-- The pipe so far, with the remaining commands piped after it, is the pipe of all.
use Rattle.std.proofs.Common.{◌≡◌, map, string_bytes, option_map}
use Rattle.duct.specs.TreeView.{tree_view}
use Rattle.duct_program.specs.Line.{further, pieces, piped, pipeline_of}
use Rattle.duct_program.proofs.Pipes.{pieces_len}
use Rattle.duct_program.proofs.expression.pipeline.Given as goal

abbrev pub invariant-loop-rest : goal.invariant-loop-rest
invariant-loop-rest g l =
    piped (tree_view l.left) (further (option_map (λ args. map string_bytes args.now) l.rest))
    ≡ pipeline_of (pieces (map string_bytes l.fn.args))

abbrev pub decreases-loop-rest : goal.decreases-loop-rest
decreases-loop-rest g l = pieces_len (option_map (λ args. map string_bytes args.now) l.rest)
