-- The expression of a text, read one token after the other, or why it has none; and what contracts
-- see of what was read so far.
use Rattle.std.specs.Prelude.{◌≡◌, ℕ, List, [], ◌∷◌, ◌++◌, Some, None, Ok, Err, option_map, Option, Result}
use Rattle.std.specs.Result.{result_map_both}
use Rattle.duct_system.specs.declared.spec.Stream.{Stream}
use Rattle.duct_start.specs.TreeView.{TreeView, pipe}
use Rattle.duct.specs.TreeView.{tree_view}
use Rattle.duct_words.specs.Split as tokens
use Rattle.duct_words.specs.Split.{TokenView, split_of}
use Rattle.duct_words.specs.declared.error.SplitError.TheVariants as splits
use Rattle.duct_program.specs.Line.{CommandView, command_view, worded_tree}
use Rattle.duct_program.specs.Parsed.{◌>>=◌}
use Rattle.duct_program.specs.declared.usage.Usage.{Usage}
use Rattle.duct_program.specs.declared.usage.Usage.TheVariants as usages
use Rattle.duct_words.specs.declared.error.LineError.{LineError}
use Rattle.duct_words.specs.declared.error.LineError.TheVariants as errors
use Rattle.duct_words.specs.declared.reader.Reader.{Reader}

-- what was read so far: the commands before, piped, if there is one; the command that has begun;
-- and the stream that the operator before redirects, if one stands there
pub record State (E H : Type 0) : Type 0 where
  pub left : Option (TreeView E H)
  pub command : CommandView
  pub stream : Option Stream

-- a command before its first word
abbrev pub no_words : CommandView
no_words = record { words = []; redirections = [] }

module _ {E H : Type 0} where
  -- what the code has read so far
  abbrev pub reader_view : Reader E H → State E H
  reader_view reader = record {
    left = option_map tree_view reader.left;
    command = command_view reader.command;
    stream = reader.stream;
  }

  -- before the first token
  abbrev pub start : State E H
  start = record { left = None; command = no_words; stream = None }

  -- a tree, behind those before it
  abbrev pub joined : Option (TreeView E H) → TreeView E H → TreeView E H
  joined None tree = tree
  joined (Some left) tree = pipe left tree

  -- the pipe of all commands, where a command ends
  abbrev pub ended : State E H → Result (TreeView E H) Usage
  ended state =
      elim state.stream [
        | None ↦ worded_tree state.command >>= λ tree. Ok (joined state.left tree)
        | Some stream ↦ Err usages.MissingPath
      ]

  -- with the next command, which has not begun
  abbrev pub after_command : State E H → State E H
  after_command state = record state { command = no_words; stream = None }

  -- with a word, or with the path that the operator before redirects to
  abbrev pub with_word : List ℕ → State E H → State E H
  with_word text state =
      elim state.stream [
        | None ↦ record state {
          command = record state.command { words = state.command.words ++ text ∷ [] };
        }
        | Some stream ↦ record state {
          command = record state.command {
            redirections = state.command.redirections
                ++ record { stream = stream; path = text } ∷ [];
          };
          stream = None;
        }
      ]

  -- after an operator that redirects this stream, where none stands before it
  abbrev pub redirected : Stream → State E H → Result (State E H) Usage
  redirected stream state =
      elim state.stream [
        | None ↦ Ok (record state { stream = Some stream })
        | Some before ↦ Err usages.MissingPath
      ]

  -- after a token
  abbrev pub step : State E H → TokenView → Result (State E H) Usage
  step state (tokens.word text) = Ok (with_word text state)
  step state tokens.pipe =
      ended state >>= λ tree. Ok (record (after_command state) { left = Some tree })
  step state (tokens.redirect stream) = redirected stream state

  -- the expression of tokens that stand behind those that were read
  abbrev pub tree_of : State E H → List TokenView → Result (TreeView E H) Usage
  tree_of state [] = ended state
  tree_of state (token ∷ others) = step state token >>= λ after. tree_of after others

  -- the expression of a text
  abbrev pub line_of : List ℕ → Result (TreeView E H) LineError
  line_of text =
      result_map_both (λ same. same) errors.Split (split_of text) >>= λ found.
      result_map_both (λ same. same) errors.Usage (tree_of start found)

-- the result, seen by a view, is what is read, or an allocation failed
abbrev pub ParsesAs : {A B : Type 0} → (A → B) → Result A LineError → Result B LineError → Type 0
ParsesAs view (Ok value) read = read ≡ Ok (view value)
ParsesAs view (Err (errors.Split splits.Memory)) read = Unit {0}
ParsesAs view (Err (errors.Usage usages.Memory)) read = Unit {0}
ParsesAs view (Err error) read = read ≡ Err error
