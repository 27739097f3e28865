-- What the program's arguments mean: their options, their commands, and the expression of all.
use Rattle.std.specs.Prelude.{ℕ, List, [], ◌∷◌, Bool, true, false, Some, None, Ok, Err, if◌then◌else◌, codes, map, option_map, bytes_eq, Option, Result}
use Rattle.std.specs.List.{slice_split}
use Rattle.duct_system.specs.declared.spec.Stream.TheVariants as streams
use Rattle.duct_system.specs.SpecView.{texts_of}
use Rattle.duct_system.specs.declared.spec.Stream.{Stream}
use Rattle.duct_start.specs.TreeView.{ModifierView, TreeView, around, command, pipe, stdin_bytes, stdin_path, stdout_path, stderr_path, unchecked}
use Rattle.duct_program.specs.declared.usage.Usage.{Usage}
use Rattle.duct_program.specs.declared.usage.Usage.TheVariants.{EmptyCommand, MissingText, MissingPath}
use Rattle.duct_program.specs.Parsed.{◌>>=◌}
use Rattle.duct_program.specs.declared.options.Options.{Options}
use Rattle.duct_program.specs.declared.command.Command.{Command}
use Rattle.duct_program.specs.declared.command.Redirection.{Redirection}

-- what the options ask of the whole line: a text for stdin, and that a failure is no error
pub record OptionsView : Type 0 where
  pub stdin : Option (List ℕ)
  pub unchecked : Bool

-- options, with the text as bytes
abbrev pub options_view : Options → OptionsView
options_view options = record {
  stdin = option_map (λ text. text.now) options.stdin;
  unchecked = options.unchecked;
}

-- no option at all
abbrev pub no_options : OptionsView
no_options = record { stdin = None; unchecked = false }

-- the options at the front of some arguments, read after these options, and the arguments after
-- them; the truth value says whether the argument before was a `--stdin`, whose text comes first
abbrev pub options_from : Bool → OptionsView → List (List ℕ)
    → Result (OptionsView × List (List ℕ)) Usage
options_from true options [] = Err MissingText
options_from true options (text ∷ args) =
    options_from false (record options { stdin = Some text }) args
options_from false options [] = Ok (options, [])
options_from false options (arg ∷ args) =
    if bytes_eq arg (codes "--stdin") then options_from true options args
    else if bytes_eq arg (codes "--unchecked")
    then options_from false (record options { unchecked = true }) args
    else Ok (options, arg ∷ args)

-- a stream that is read from or written to the file of this path
pub record RedirectionView : Type 0 where
  pub stream : Stream
  pub path : List ℕ

-- the words, and the redirections in the order in which they were written
pub record CommandView : Type 0 where
  pub words : List (List ℕ)
  pub redirections : List RedirectionView

-- a redirection, with its path as bytes
abbrev pub redirection_view : Redirection → RedirectionView
redirection_view redirection = record { stream = redirection.stream; path = redirection.path.now }

-- a command, with its words and paths as bytes
abbrev pub command_view : Command → CommandView
command_view said = record {
  words = texts_of said.words.items;
  redirections = map redirection_view said.redirections.items;
}

-- the stream that an argument redirects, or none if it is a word
abbrev pub redirected : List ℕ → Option Stream
redirected arg =
    if bytes_eq arg (codes "<") then Some streams.In
    else if bytes_eq arg (codes ">") then Some streams.Out
    else if bytes_eq arg (codes "2>") then Some streams.Err
    else None

-- what the arguments of a command mean; the stream is the one that the argument before them
-- redirects, if it redirects one
abbrev pub parts_of : Option Stream → List (List ℕ) → Result CommandView Usage
parts_of None [] = Ok (record { words = []; redirections = [] })
parts_of (Some stream) [] = Err MissingPath
parts_of (Some stream) (path ∷ args) =
    parts_of None args >>= λ said. Ok (record said {
      redirections = record { stream = stream; path = path } ∷ said.redirections;
    })
parts_of None (arg ∷ args) =
    elim (redirected arg) [
      | Some stream ↦ parts_of (Some stream) args
      | None ↦ parts_of None args >>= λ said. Ok (record said { words = arg ∷ said.words })
    ]

-- whether an argument is a `|`
abbrev pub is_bar : List ℕ → Bool
is_bar arg = bytes_eq arg (codes "|")

-- the arguments, split at each `|`: there is one piece more than there are `|`
abbrev pub pieces : List (List ℕ) → List (List (List ℕ))
pieces args = slice_split is_bar args

-- the pieces of the arguments after a `|`, if there is one
abbrev pub further : Option (List (List ℕ)) → List (List (List ℕ))
further None = []
further (Some args) = pieces args

module _ {E H : Type 0} where
  -- the modifier that a redirection puts around its command
  abbrev pub redirects : RedirectionView → ModifierView E H
  redirects redirection =
      elim redirection.stream [
        | streams.In ↦ stdin_path redirection.path
        | streams.Out ↦ stdout_path redirection.path
        | streams.Err ↦ stderr_path redirection.path
      ]

  -- a command with redirections around it, the first one outermost
  abbrev pub redirected_tree : List RedirectionView → TreeView E H → TreeView E H
  redirected_tree [] tree = tree
  redirected_tree (redirection ∷ others) tree =
      around (redirects redirection) (redirected_tree others tree)

  -- a command with its redirections around it, or the error `EmptyCommand` if it has no words
  abbrev pub worded_tree : CommandView → Result (TreeView E H) Usage
  worded_tree said =
      elim said.words [
        | [] ↦ Err EmptyCommand
        | word ∷ words ↦ Ok (redirected_tree said.redirections (command (word ∷ words)))
      ]

  -- the command that one piece means
  abbrev pub piece_tree : List (List ℕ) → Result (TreeView E H) Usage
  piece_tree piece = parts_of None piece >>= worded_tree

  -- a tree with the commands of these pieces piped after it, from left to right
  abbrev pub piped : TreeView E H → List (List (List ℕ)) → Result (TreeView E H) Usage
  piped left [] = Ok left
  piped left (piece ∷ others) = piece_tree piece >>= λ right. piped (pipe left right) others

  -- the pipe that the pieces mean
  abbrev pub pipeline_of : List (List (List ℕ)) → Result (TreeView E H) Usage
  pipeline_of [] = Err EmptyCommand
  pipeline_of (first ∷ others) = piece_tree first >>= λ left. piped left others

  -- a tree with the text for stdin around it, if there is one
  abbrev pub with_input : Option (List ℕ) → TreeView E H → TreeView E H
  with_input None tree = tree
  with_input (Some text) tree = around (stdin_bytes text) tree

  -- that tree with `unchecked` around it, if the options ask for it
  abbrev pub with_options : OptionsView → TreeView E H → TreeView E H
  with_options options tree =
      let given = with_input options.stdin tree
      in if options.unchecked then around unchecked given else given

  -- the expression that the arguments mean, or the first usage error in them from left to right
  abbrev pub meant : List (List ℕ) → Result (TreeView E H) Usage
  meant args =
      options_from false no_options args >>= λ front.
      pipeline_of (pieces front.1) >>= λ tree. Ok (with_options front.0 tree)
