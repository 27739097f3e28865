-- A text of an expression for a shell, or why it has none; and what contracts see of what a
-- modifier is to a shell.
use Rattle.std.specs.Prelude.{◌≡◌, ℕ, List, [], ◌∷◌, ◌++◌, Bool, false, ◌==◌, ◌||◌, Some, None, Ok, Err, if◌then◌else◌, is_some, codes, Option, Result}
use Rattle.std.specs.List.{list_any}
use Rattle.duct_base.specs.Executable.{asks_canonical, dotted}
use Rattle.duct_start.specs.Plan.{program_of}
use Rattle.duct_start.specs.TreeView.{ModifierView, TreeView, command, pipe, around, stdin_bytes, stdin_path, stdin_file, stdin_null, stdout_path, stdout_file, stdout_null, stdout_capture, stdout_to_stderr, stderr_path, stderr_file, stderr_null, stderr_capture, stderr_to_stdout, stdout_stderr_swap, dir, env, env_remove, full_env, unchecked, before_spawn}
use Rattle.duct_program.specs.Parsed.{◌>>=◌}
use Rattle.duct_words.specs.Quote.{quote_of}
use Rattle.duct_words.specs.declared.error.ShellTextError.{ShellTextError}
use Rattle.duct_words.specs.declared.error.ShellTextError.TheVariants.{Bytes, End, Capture, Removal, Hook, Folder, Name, Program, RelativeProgram, Nul, Memory}
use Rattle.duct_words.specs.declared.writer.Part.{Part}
use Rattle.duct_words.specs.declared.writer.Part.TheVariants as code

-- what a modifier is to a shell: the folder of the commands inside, a variable of theirs, an
-- operator behind parentheses with the path of its file, or the end of parentheses with what is
-- before and behind it
pub data PartView : Type 0 where
  folder : List ℕ → PartView
  setting : List ℕ → List ℕ → PartView
  file : List ℕ → List ℕ → PartView
  fixed : List ℕ → PartView

-- the same of the code, with its texts as lists of bytes
abbrev pub part_view : Part → PartView
part_view (code.Folder path) = folder path.now
part_view (code.Setting name value) = setting name.now value.now
part_view (code.File operator path) = file operator.now path.now
part_view (code.Fixed end) = fixed end.now

-- whether a text begins with `-`
abbrev pub begins_with_minus : List ℕ → Bool
begins_with_minus [] = false
begins_with_minus (b ∷ bs) = b == 45

-- whether `env` takes a text for an option or a variable
abbrev pub is_setting : List ℕ → Bool
is_setting text = begins_with_minus text || list_any (λ b. b == 61) text

-- the text of one word
abbrev pub word_text : List ℕ → List ℕ
word_text word = quote_of (word ∷ [])

-- the text that makes a folder the current one
abbrev pub folder_text : List ℕ → Result (List ℕ) ShellTextError
folder_text [] = Err Folder
folder_text (b ∷ bs) = Ok (word_text (dotted (b ∷ bs)))

-- the text of variables with one more, which is nearer to the command
abbrev pub with_setting : List ℕ → List ℕ → List ℕ → Result (List ℕ) ShellTextError
with_setting settings [] value = Err Name
with_setting settings (b ∷ name) value =
    if is_setting (b ∷ name) then Err Name
    else Ok (settings ++ (codes " " ++ word_text ((b ∷ name) ++ (codes "=" ++ value))))

-- the text of a command in this folder, if there is one, and with the text of these variables
abbrev pub command_in : Option (List ℕ) → List ℕ → List ℕ → Result (List ℕ) ShellTextError
command_in None settings words = Ok (codes "env" ++ (settings ++ (codes " " ++ words)))
command_in (Some path) settings words =
    folder_text path >>= λ there. Ok (codes "(cd -P " ++ (there ++ (codes " && env"
    ++ (settings ++ (codes " " ++ (words ++ codes ")"))))))

-- the same, where `env` and the folder leave the program what it is
abbrev pub command_text : Option (List ℕ) → List ℕ → List (List ℕ) → Result (List ℕ) ShellTextError
command_text in_folder settings words =
    if is_setting (program_of words) then Err Program
    else if asks_canonical (program_of words) (is_some in_folder) then Err RelativeProgram
    else command_in in_folder settings (quote_of words)

module _ {E H : Type 0} where
  -- what a modifier is to a shell
  abbrev pub part_of : ModifierView E H → Result PartView ShellTextError
  part_of (stdin_bytes bytes) = Err Bytes
  part_of (stdin_path path) = Ok (file (codes "<") path)
  part_of (stdin_file end) = Err End
  part_of stdin_null = Ok (file (codes "<") (codes "/dev/null"))
  part_of (stdout_path path) = Ok (file (codes ">") path)
  part_of (stdout_file end) = Err End
  part_of stdout_null = Ok (file (codes ">") (codes "/dev/null"))
  part_of stdout_capture = Err Capture
  part_of stdout_to_stderr = Ok (fixed (codes ") >&2"))
  part_of (stderr_path path) = Ok (file (codes "2>") path)
  part_of (stderr_file end) = Err End
  part_of stderr_null = Ok (file (codes "2>") (codes "/dev/null"))
  part_of stderr_capture = Err Capture
  part_of stderr_to_stdout = Ok (fixed (codes ") 2>&1"))
  part_of stdout_stderr_swap = Ok (fixed (codes ") 3>&1 >&2 2>&3 3>&-"))
  part_of (dir path) = Ok (folder path)
  part_of (env name value) = Ok (setting name value)
  part_of (env_remove name) = Err Removal
  part_of (full_env vars) = Err Removal
  part_of unchecked = Ok (fixed (codes " || true)"))
  part_of (before_spawn hook ends) = Err Hook

  -- the text of a tree in this folder, if there is one, and with the text of these variables
  abbrev pub text_of : Option (List ℕ) → List ℕ → TreeView E H → Result (List ℕ) ShellTextError
  text_of in_folder settings (command words) = command_text in_folder settings words
  text_of in_folder settings (pipe left right) =
      text_of in_folder settings left >>= λ first.
      text_of in_folder settings right >>= λ second. Ok (first ++ (codes " | " ++ second))
  text_of in_folder settings (around modifier inner) =
      part_of modifier >>= λ found. elim found [
        | folder path ↦ text_of (Some path) settings inner
        | setting name value ↦
            with_setting settings name value >>= λ more. text_of in_folder more inner
        | file operator path ↦
            text_of in_folder settings inner >>= λ text.
            Ok (codes "( " ++ (text ++ (codes ") " ++ (operator
            ++ (codes " " ++ word_text path)))))
        | fixed end ↦ text_of in_folder settings inner >>= λ text. Ok (codes "( " ++ (text ++ end))
      ]

  -- the text of a tree
  abbrev pub shell_text_of : TreeView E H → Result (List ℕ) ShellTextError
  shell_text_of tree =
      text_of None [] tree >>= λ text. if list_any (λ b. b == 0) text then Err Nul else Ok text

-- the result, seen by a view, is what is read, or an allocation failed
abbrev pub ParsesAs : {A B : Type 0} → (A → B) → Result A ShellTextError
    → Result B ShellTextError → Type 0
ParsesAs view (Ok value) read = read ≡ Ok (view value)
ParsesAs view (Err Memory) read = Unit {0}
ParsesAs view (Err error) read = read ≡ Err error
