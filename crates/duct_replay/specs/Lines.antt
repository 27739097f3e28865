-- What an item of a recording is written as, on a line of its own, and what such a line means. An
-- entry is an array of the request's name, what it was made with, and its answer; how a child ended
-- and what was read of an end are arrays of a name, a number, and the exit status or the bytes. A
-- line means the item that was written as its JSON, or there is a reason why it means none. Nothing
-- is ignored: an item too many, another type or another name is refused.
use Rattle.std.specs.Prelude.{◌≡◌, ◌<◌, ℕ, ℤ, pos, negsuc, int_lt, false, List, [], ◌∷◌, ◌++◌, map, length, slice_index, codes, Some, None, Ok, Err, if◌then◌else◌, ⊤, Option, Result, nat_lt, option_map, option_and_then, ok_or, bytes_eq, ◌≢◌, ◌+◌, flat_map}
use Rattle.std.specs.Str.{is_utf8}
use Rattle.duct_system.specs.EntryView.{EntryView, Environment, Pipe, OpenRead, Create, Duplicate, Parent, Canonicalize, Spawn, Feed, Drain, Reader, Close, entry_view}
use Rattle.duct_system.specs.Kinds.{kind_name}
use Rattle.duct_system.specs.SpecView.{SpecView, Vars, AreOrdered, with_var}
use Rattle.duct_system.specs.declared.spec.Port.{Port}
use Rattle.duct_system.specs.declared.spec.Port.TheVariants as ports
use Rattle.duct_system.specs.declared.system.ExitStatus.{ExitStatus}
use Rattle.duct_system.specs.declared.system.ExitStatus.TheVariants.{Code, Signal}
use Rattle.duct_system.specs.declared.system.Fault.{Fault}
use Rattle.duct_system.specs.declared.system.Kind.{Kind}
use Rattle.duct_system.specs.declared.system.Kind.TheVariants.{NotFound, PermissionDenied, BrokenPipe, WriteZero, InvalidInput, Unsupported, OutOfMemory, Other}
use Rattle.duct_system.specs.declared.system.Side.{Side}
use Rattle.duct_system.specs.declared.system.Side.TheVariants as sides
use Rattle.duct_system.specs.declared.system.Stdio.{Stdio}
use Rattle.duct_system.specs.declared.system.Stdio.TheVariants.{Inherit, Null, End}
use Rattle.duct_replay.specs.declared.write.Values.{Values}
use Rattle.duct_replay.specs.declared.write.Values.TheVariants as values
use Rattle.serde_json.specs.Data.{Data, null, number, string, array, unsigned, Items, no_items, item as first_item}
use Rattle.serde_json.specs.Find.{of_integer, as_str, as_number, as_i64, as_u64, as_array}
use Rattle.serde_json.specs.View.{items_of}
use Rattle.serde_json.specs.Written.{compact_text}
use Rattle.duct_replay.specs.declared.error.Refusal.{Refusal}
use Rattle.duct_replay.specs.declared.error.Refusal.TheVariants.{NotEntry, NotJson, Hidden, Memory}
use Rattle.duct_replay.specs.declared.read.Item.{Item}
use Rattle.duct_replay.specs.declared.read.Item.TheVariants as items
use Rattle.serde_json.specs.Read.{read}
use Rattle.std.specs.List.{AllByRecursion}
use Rattle.std.specs.Str.Lines.{lines}
use Rattle.duct_replay.specs.RecordingView.{RecordingView, Shared, bytes_of}
use Rattle.duct_replay.specs.declared.error.LineRefusal.{LineRefusal}

-- a number
abbrev pub number_data : ℕ → Data
number_data n = number (unsigned n)

-- an array of these
abbrev pub list_data : List Data → Data
list_data items = array (items_of items)

-- the name of an output stream of the parent
abbrev pub side_name : Side → List ℕ
side_name sides.Out = codes "stdout"
side_name sides.Err = codes "stderr"

-- a port; the place of an end is a number
abbrev pub port_data : Port → Data
port_data ports.Inherit = string (codes "inherit")
port_data ports.Null = string (codes "null")
port_data ports.Given = string (codes "given")
port_data (ports.Place place) = number_data place

-- a stream; an end is its number
abbrev pub stream_data : Stdio ℕ → Data
stream_data Inherit = string (codes "inherit")
stream_data Null = string (codes "null")
stream_data (End end) = number_data end

-- the value of a variable, or null where it is hidden
abbrev pub value_data : Values → List ℕ → Data
value_data values.Shown value = string value
value_data values.Hidden value = null

-- a variable: its name and its value
unfoldable pub variable_data : Values → List ℕ × List ℕ → Data
variable_data values pair = list_data (string pair.0 ∷ value_data values pair.1 ∷ [])

unfoldable pub variables_data : Values → Vars → Data
variables_data values vars = list_data (map (variable_data values) vars)

-- a folder, or null where there is none
abbrev pub folder_data : Option (List ℕ) → Data
folder_data (Some folder) = string folder
folder_data None = null

-- bytes: as text where they are UTF-8, and else as numbers
unfoldable pub bytes_data : List ℕ → Data
bytes_data bytes = if is_utf8 bytes then string bytes else list_data (map number_data bytes)

-- the three ports of a spec
abbrev pub ports_data : SpecView → Data
ports_data spec = list_data (map port_data (spec.input ∷ spec.output ∷ spec.error ∷ []))

-- the request of a child: its words, folder, variables and ports, and its streams
abbrev pub spawn_data : Values → SpecView → List (Stdio ℕ) → List Data
spawn_data values spec streams =
    string (codes "spawn") ∷ list_data (map string spec.words) ∷ folder_data spec.folder
    ∷ variables_data values spec.vars ∷ ports_data spec ∷ list_data (map stream_data streams)
    ∷ []

-- a request: its name, and what it was made with
unfoldable pub request_data : Values → EntryView → List Data
request_data values (Environment answer) = string (codes "environment") ∷ []
request_data values (Pipe answer) = string (codes "pipe") ∷ []
request_data values (OpenRead path answer) = string (codes "open_read") ∷ string path ∷ []
request_data values (Create path answer) = string (codes "create") ∷ string path ∷ []
request_data values (Duplicate end answer) = string (codes "duplicate") ∷ number_data end ∷ []
request_data values (Parent side answer) = string (codes "parent") ∷ string (side_name side) ∷ []
request_data values (Canonicalize path answer) = string (codes "canonicalize") ∷ string path ∷ []
request_data values (Spawn spec streams answer) = spawn_data values spec streams
request_data values (Feed end bytes answer) =
    string (codes "feed") ∷ number_data end ∷ bytes_data bytes ∷ []
request_data values (Drain end answer) = string (codes "drain") ∷ number_data end ∷ []
request_data values (Reader end) = string (codes "reader") ∷ number_data end ∷ []
request_data values (Close end) = string (codes "close") ∷ number_data end ∷ []

-- the answer of a request that was refused
abbrev pub refused_data : Fault → List Data
refused_data fault = string (codes "fault") ∷ string (kind_name fault.kind) ∷ []

-- an answer: "ok" and what was returned, or "fault" and its kind
abbrev pub result_data : {A : Type 0} → (A → List Data) → Result A Fault → List Data
result_data values (Ok answer) = string (codes "ok") ∷ values answer
result_data values (Err fault) = refused_data fault

-- an answer that is a number
abbrev pub number_answer_data : Result ℕ Fault → List Data
number_answer_data = result_data (λ n. number_data n ∷ [])

-- the answer to a request
unfoldable pub answer_data : Values → EntryView → List Data
answer_data values (Environment answer) =
    result_data (λ vars. variables_data values vars ∷ []) answer
answer_data values (Pipe answer) =
    result_data (λ ends. number_data ends.0 ∷ number_data ends.1 ∷ []) answer
answer_data values (OpenRead path answer) = number_answer_data answer
answer_data values (Create path answer) = number_answer_data answer
answer_data values (Duplicate end answer) = number_answer_data answer
answer_data values (Parent side answer) = number_answer_data answer
answer_data values (Canonicalize path answer) = result_data (λ text. string text ∷ []) answer
answer_data values (Spawn spec streams answer) = number_answer_data answer
answer_data values (Feed end bytes answer) = result_data (λ unit. []) answer
answer_data values (Drain end answer) = result_data (λ unit. []) answer
answer_data values (Reader end) = []
answer_data values (Close end) = []

-- an entry
unfoldable pub entry_data : Values → EntryView → Data
entry_data values entry = list_data (request_data values entry ++ answer_data values entry)

-- ---- items

-- an entry; the number of a child and how it ended; the number of an end and what was read of it
pub data ItemView : Type 0 where
  Noted : EntryView → ItemView
  Ended : ℕ × ExitStatus → ItemView
  Read : ℕ × List ℕ → ItemView

-- an exit status: "code" or "signal", and the code or the signal
abbrev pub status_data : ExitStatus → List Data
status_data (Code code) = string (codes "code") ∷ number (of_integer code) ∷ []
status_data (Signal signal) = string (codes "signal") ∷ number (of_integer signal) ∷ []

unfoldable pub item_data : Values → ItemView → Data
item_data values (Noted entry) = entry_data values entry
item_data values (Ended (child, status)) =
    list_data (string (codes "ended") ∷ number_data child ∷ status_data status)
item_data values (Read (end, bytes)) =
    list_data (string (codes "read") ∷ number_data end ∷ bytes_data bytes ∷ [])

-- the line of an item, with its newline
unfoldable pub item_text : Values → ItemView → List ℕ
item_text values item = compact_text (item_data values item) ++ 10 ∷ []

abbrev pub AreBytes : List ℕ → Type 0
AreBytes bytes = (place : ℕ) → slice_index bytes place < 256

-- an integer of 32 bits
pub record IsSmall (n : ℤ) : Type 0 where
  pub least : int_lt n (negsuc 2147483647) ≡ false
  pub most : int_lt (pos 2147483647) n ≡ false

-- what each item has, and so can be written: the variables of a spec are in order, a child has
-- three streams, bytes are below 256, and an exit status has 32 bits
abbrev pub IsWritable : ItemView → Type 0
IsWritable (Noted (Spawn spec streams answer)) = AreOrdered spec.vars × (length streams ≡ 3)
IsWritable (Noted (Feed end bytes answer)) = AreBytes bytes
IsWritable (Noted _) = ⊤
IsWritable (Ended (child, Code code)) = IsSmall code
IsWritable (Ended (child, Signal signal)) = IsSmall signal
IsWritable (Read output) = AreBytes output.1

-- ---- meaning: steps

infixl 10 ◌>>=◌
-- a value goes on to the next step, and a refusal stays
abbrev pub ◌>>=◌ : {A B : Type 0} → Result A Refusal → (A → Result B Refusal) → Result B Refusal
(Ok value) >>= next = next value
(Err refusal) >>= next = Err refusal

-- the refusal is the one that is read, or an allocation failed
abbrev pub RefusesAs : {B : Type 0} → Refusal → Result B Refusal → Type 0
RefusesAs Memory read = Unit {0}
RefusesAs refusal read = read ≡ Err refusal

-- the result, seen by a view, is what is read, or an allocation failed
abbrev pub ParsesAs : {A B : Type 0} → (A → B) → Result A Refusal → Result B Refusal → Type 0
ParsesAs view (Ok value) read = read ≡ Ok (view value)
ParsesAs view (Err refusal) read = RefusesAs refusal read

-- ---- parts

-- the items of an array
abbrev pub list_of : Items → List Data
list_of no_items = []
list_of (first_item json items) = json ∷ list_of items

unfoldable pub text_meant : Data → Result (List ℕ) Refusal
text_meant json = ok_or (as_str json) NotEntry

unfoldable pub number_meant : Data → Result ℕ Refusal
number_meant json = ok_or (option_and_then as_u64 (as_number json)) NotEntry

unfoldable pub list_meant : Data → Result (List Data) Refusal
list_meant json = ok_or (option_map list_of (as_array json)) NotEntry

-- each of these, in their order
abbrev pub all_meant : {A : Type 0} → (Data → Result A Refusal) → List Data
    → Result (List A) Refusal
all_meant one [] = Ok []
all_meant one (json ∷ more) =
    one json >>= λ value. all_meant one more >>= λ values. Ok (value ∷ values)

-- the first item, and those behind it
unfoldable pub first_meant : List Data → Result (Data × List Data) Refusal
first_meant [] = Err NotEntry
first_meant (json ∷ more) = Ok (json, more)

-- the item, where it is the only one
unfoldable pub only_meant : List Data → Result Data Refusal
only_meant (json ∷ []) = Ok json
only_meant _ = Err NotEntry

-- the first of these values that has this name
abbrev pub named : {A : Type 0} → (A → List ℕ) → List A → List ℕ → Result A Refusal
named name_of [] name = Err NotEntry
named name_of (value ∷ more) name =
    if bytes_eq name (name_of value) then Ok value else named name_of more name

-- ---- answers

unfoldable pub kind_named : List ℕ → Result Kind Refusal
kind_named =
    named kind_name (NotFound ∷ PermissionDenied ∷ BrokenPipe ∷ WriteZero ∷ InvalidInput
    ∷ Unsupported ∷ OutOfMemory ∷ Other ∷ [])

-- the fault with this name of its kind
unfoldable pub fault_meant : List Data → Result Fault Refusal
fault_meant values =
    only_meant values >>= text_meant >>= kind_named >>= λ kind. Ok (record { kind = kind })

-- an answer: what was returned, or a fault
unfoldable pub answer_meant : List Data → Result (Result (List Data) Fault) Refusal
answer_meant items =
    first_meant items >>= λ parts. text_meant parts.0 >>= λ word.
    if bytes_eq word (codes "ok") then Ok (Ok parts.1)
    else if bytes_eq word (codes "fault") then (fault_meant parts.1 >>= λ fault. Ok (Err fault))
    else Err NotEntry

-- an answer, with what was returned read further
abbrev pub returned_as : {A : Type 0} → (List Data → Result A Refusal)
    → Result (List Data) Fault → Result (Result A Fault) Refusal
returned_as read (Ok values) = read values >>= λ value. Ok (Ok value)
returned_as read (Err fault) = Ok (Err fault)

-- nothing
unfoldable pub unit_meant : List Data → Result (Unit {0}) Refusal
unit_meant [] = Ok tt
unit_meant _ = Err NotEntry

-- two numbers
unfoldable pub ends_meant : List Data → Result (ℕ × ℕ) Refusal
ends_meant (reader ∷ writer ∷ []) =
    number_meant reader >>= λ reader. number_meant writer >>= λ writer. Ok (reader, writer)
ends_meant _ = Err NotEntry

unfoldable pub unit_answer : List Data → Result (Result (Unit {0}) Fault) Refusal
unit_answer items = answer_meant items >>= returned_as unit_meant

unfoldable pub number_answer : List Data → Result (Result ℕ Fault) Refusal
number_answer items =
    answer_meant items >>= returned_as (λ values. only_meant values >>= number_meant)

unfoldable pub ends_answer : List Data → Result (Result (ℕ × ℕ) Fault) Refusal
ends_answer items = answer_meant items >>= returned_as ends_meant

unfoldable pub text_answer : List Data → Result (Result (List ℕ) Fault) Refusal
text_answer items = answer_meant items >>= returned_as (λ values. only_meant values >>= text_meant)

-- ---- variables, bytes, streams

-- null stands for no text
unfoldable pub text_or_null : Data → Result (Option (List ℕ)) Refusal
text_or_null null = Ok None
text_or_null (string text) = Ok (Some text)
text_or_null _ = Err NotEntry

-- a name and its value; null stands for a value that was hidden
unfoldable pub pair_meant : List Data → Result (List ℕ × List ℕ) Refusal
pair_meant (name ∷ value ∷ []) =
    text_meant name >>= λ name. text_or_null value >>= λ value. ok_or value Hidden
    >>= λ value. Ok (name, value)
pair_meant _ = Err NotEntry

unfoldable pub variable_meant : Data → Result (List ℕ × List ℕ) Refusal
variable_meant json = list_meant json >>= pair_meant

unfoldable pub variables_meant : Data → Result Vars Refusal
variables_meant json = list_meant json >>= all_meant variable_meant

unfoldable pub variables_answer : List Data → Result (Result Vars Fault) Refusal
variables_answer items =
    answer_meant items >>= returned_as (λ values. only_meant values >>= variables_meant)

-- the variables after these were set one by one, in order of name
abbrev pub set_in_turn : Vars → Vars → Vars
set_in_turn vars [] = vars
set_in_turn vars (pair ∷ more) = set_in_turn (with_var pair.0 pair.1 vars) more

unfoldable pub byte_meant : Data → Result ℕ Refusal
byte_meant json = number_meant json >>= λ n. if nat_lt n 256 then Ok n else Err NotEntry

-- a text stands for its bytes, and an array of numbers for these bytes
unfoldable pub bytes_meant : Data → Result (List ℕ) Refusal
bytes_meant json =
    elim (as_str json) [
      | Some text ↦ Ok text
      | None ↦ list_meant json >>= all_meant byte_meant
    ]

unfoldable pub words_meant : Data → Result (List (List ℕ)) Refusal
words_meant json = list_meant json >>= all_meant text_meant

-- a port: its name, or the place of an end
unfoldable pub port_meant : Data → Result Port Refusal
port_meant (number num) = ok_or (as_u64 num) NotEntry >>= λ place. Ok (ports.Place place)
port_meant (string name) =
    if bytes_eq name (codes "inherit") then Ok ports.Inherit
    else if bytes_eq name (codes "null") then Ok ports.Null
    else if bytes_eq name (codes "given") then Ok ports.Given
    else Err NotEntry
port_meant _ = Err NotEntry

-- a stream: its name, or the number of its end
unfoldable pub stream_meant : Data → Result (Stdio ℕ) Refusal
stream_meant (number num) = ok_or (as_u64 num) NotEntry >>= λ end. Ok (End end)
stream_meant (string name) =
    if bytes_eq name (codes "inherit") then Ok Inherit
    else if bytes_eq name (codes "null") then Ok Null
    else Err NotEntry
stream_meant _ = Err NotEntry

-- exactly three items
abbrev pub three_of : List Data → Result (Data × Data × Data) Refusal
three_of (input ∷ output ∷ error ∷ []) = Ok (input, output, error)
three_of _ = Err NotEntry

unfoldable pub three_meant : Data → Result (Data × Data × Data) Refusal
three_meant json = list_meant json >>= three_of

-- each of three
abbrev pub each_of : {A : Type 0} → (Data → Result A Refusal) → Data × Data × Data
    → Result (A × A × A) Refusal
each_of one parts =
    one parts.0 >>= λ input. one parts.1 >>= λ output. one parts.2 >>= λ error.
    Ok (input, output, error)

unfoldable pub side_named : List ℕ → Result Side Refusal
side_named = named side_name (sides.Out ∷ sides.Err ∷ [])

-- a spec; its variables are set one by one, so they end in order of name
unfoldable pub spec_meant : Data → Data → Data → Data → Result SpecView Refusal
spec_meant words folder vars ports =
    words_meant words >>= λ words.
    text_or_null folder >>= λ folder.
    variables_meant vars >>= λ vars.
    three_meant ports >>= each_of port_meant >>= λ ports. Ok (record {
      words = words;
      folder = folder;
      vars = set_in_turn [] vars;
      input = ports.0;
      output = ports.1;
      error = ports.2;
    })

-- ---- entries, each after the name of its request

-- one part, and the answer
abbrev pub asked : {A B : Type 0} → (Data → Result A Refusal) → (List Data → Result B Refusal)
    → (A → B → EntryView) → List Data → Result EntryView Refusal
asked part_meant answer_meant entry items =
    first_meant items >>= λ parts. part_meant parts.0 >>= λ part.
    answer_meant parts.1 >>= λ answer. Ok (entry part answer)

unfoldable pub spawn_meant : List Data → Result EntryView Refusal
spawn_meant items =
    first_meant items >>= λ words.
    first_meant words.1 >>= λ folder.
    first_meant folder.1 >>= λ vars.
    first_meant vars.1 >>= λ ports.
    first_meant ports.1 >>= λ streams.
    spec_meant words.0 folder.0 vars.0 ports.0 >>= λ spec.
    three_meant streams.0 >>= each_of stream_meant >>= λ io.
    number_answer streams.1 >>= λ answer.
    Ok (Spawn spec (io.0 ∷ io.1 ∷ io.2 ∷ []) answer)

unfoldable pub feed_meant : List Data → Result EntryView Refusal
feed_meant items =
    first_meant items >>= λ parts.
    first_meant parts.1 >>= λ more.
    number_meant parts.0 >>= λ end.
    bytes_meant more.0 >>= λ bytes.
    unit_answer more.1 >>= λ answer. Ok (Feed end bytes answer)

-- the entry of the request with this name
unfoldable pub named_meant : List ℕ → List Data → Result EntryView Refusal
named_meant name items =
    if bytes_eq name (codes "environment") then
    (variables_answer items >>= λ answer. Ok (Environment answer))
    else if bytes_eq name (codes "pipe") then (ends_answer items >>= λ answer. Ok (Pipe answer))
    else if bytes_eq name (codes "open_read") then asked text_meant number_answer OpenRead items
    else if bytes_eq name (codes "create") then asked text_meant number_answer Create items
    else if bytes_eq name (codes "duplicate") then asked number_meant number_answer Duplicate items
    else if bytes_eq name (codes "parent") then
    asked (λ side. text_meant side >>= side_named) number_answer Parent items
    else if bytes_eq name (codes "canonicalize") then
    asked text_meant text_answer Canonicalize items
    else if bytes_eq name (codes "spawn") then spawn_meant items
    else if bytes_eq name (codes "feed") then feed_meant items
    else if bytes_eq name (codes "drain") then asked number_meant unit_answer Drain items
    else if bytes_eq name (codes "reader") then
    (only_meant items >>= number_meant >>= λ end. Ok (Reader end))
    else if bytes_eq name (codes "close") then
    (only_meant items >>= number_meant >>= λ end. Ok (Close end))
    else Err NotEntry

-- ---- items of a recording

-- an integer of 32 bits
abbrev pub small : ℤ → Result ℤ Refusal
small n =
    if int_lt n (negsuc 2147483647) then Err NotEntry
    else if int_lt (pos 2147483647) n then Err NotEntry
    else Ok n

unfoldable pub integer_meant : Data → Result ℤ Refusal
integer_meant json = ok_or (option_and_then as_i64 (as_number json)) NotEntry >>= small

-- the exit status with this name
unfoldable pub status_named : List ℕ → ℤ → Result ExitStatus Refusal
status_named name n =
    if bytes_eq name (codes "code") then Ok (Code n)
    else if bytes_eq name (codes "signal") then Ok (Signal n)
    else Err NotEntry

-- the number of a child and how it ended
unfoldable pub ending_meant : List Data → Result ItemView Refusal
ending_meant items =
    first_meant items >>= λ child. first_meant child.1 >>= λ name.
    number_meant child.0 >>= λ number. text_meant name.0 >>= λ word.
    only_meant name.1 >>= λ json. integer_meant json >>= λ n.
    status_named word n >>= λ status. Ok (Ended (number, status))

-- the number of an end and what was read of it
unfoldable pub output_meant : List Data → Result ItemView Refusal
output_meant items =
    first_meant items >>= λ end. number_meant end.0 >>= λ number.
    only_meant end.1 >>= λ json. bytes_meant json >>= λ bytes. Ok (Read (number, bytes))

-- what stands behind this name
unfoldable pub item_named : List ℕ → List Data → Result ItemView Refusal
item_named name items =
    if bytes_eq name (codes "ended") then ending_meant items
    else if bytes_eq name (codes "read") then output_meant items
    else (named_meant name items >>= λ entry. Ok (Noted entry))

-- what a line means
unfoldable pub item_meant : Data → Result ItemView Refusal
item_meant json =
    list_meant json >>= first_meant >>= λ parts. text_meant parts.0
    >>= λ name. item_named name parts.1

-- what the text of a line means
unfoldable pub item_line : List ℕ → Result ItemView Refusal
item_line text = ok_or (read text) NotJson >>= item_meant

-- the entry, where an item is one
abbrev pub only_entry : ItemView → Result EntryView Refusal
only_entry (Noted entry) = Ok entry
only_entry _ = Err NotEntry

-- what the text of a line means as an entry of a journal
unfoldable pub line_meant : List ℕ → Result EntryView Refusal
line_meant text = item_line text >>= only_entry

-- an item as contracts see it
abbrev pub item_view : Item → ItemView
item_view (items.Entry entry) = Noted (entry_view entry)
item_view (items.Ended child status) = Ended (child, status)
item_view (items.Read end bytes) = Read (end, bytes_of bytes)

-- the entries; how children ended, and what was read of ends, by their numbers
pub record RecordedView : Type 0 where
  pub entries : List EntryView
  pub endings : List (ℕ × ExitStatus)
  pub outputs : List (ℕ × List ℕ)

-- what was read of an end, whoever owns it
abbrev pub output_view : ℕ × Shared → ℕ × List ℕ
output_view (end, shared) = (end, bytes_of shared)

-- what a recording has, whoever owns its bytes
abbrev pub recorded_view : RecordingView → RecordedView
recorded_view recording = record {
  entries = recording.entries;
  endings = recording.endings;
  outputs = map output_view recording.outputs;
}

-- its items: the entries, how children ended, and what was read
abbrev pub recorded_items : RecordedView → List ItemView
recorded_items recorded =
    map Noted recorded.entries ++ (map Ended recorded.endings ++ map Read recorded.outputs)

-- the text of a recording: the line of each item
abbrev pub recorded_text : Values → RecordedView → List ℕ
recorded_text values recorded = flat_map (item_text values) (recorded_items recorded)

-- the text of a journal: the line of each entry
abbrev pub entries_text : Values → List EntryView → List ℕ
entries_text values entries = flat_map (item_text values) (map Noted entries)

-- one more item in front
abbrev pub with_item : ItemView → RecordedView → RecordedView
with_item (Noted entry) recorded = record recorded { entries = entry ∷ recorded.entries }
with_item (Ended ending) recorded = record recorded { endings = ending ∷ recorded.endings }
with_item (Read output) recorded = record recorded { outputs = output ∷ recorded.outputs }

-- one more item behind
abbrev pub and_item : ItemView → RecordedView → RecordedView
and_item (Noted entry) recorded = record recorded { entries = recorded.entries ++ entry ∷ [] }
and_item (Ended ending) recorded = record recorded { endings = recorded.endings ++ ending ∷ [] }
and_item (Read output) recorded = record recorded { outputs = recorded.outputs ++ output ∷ [] }

-- what a line at this place means, in front of what is read behind it
abbrev pub at_line : ℕ → Result ItemView Refusal → Result RecordedView LineRefusal
    → Result RecordedView LineRefusal
at_line place (Ok item) (Ok recorded) = Ok (with_item item recorded)
at_line place (Ok item) (Err refusal) = Err refusal
at_line place (Err refusal) read = Err (record { line = place; refusal = refusal })

-- what lines mean, the first of which has this place
abbrev pub lines_meant : ℕ → List (List ℕ) → Result RecordedView LineRefusal
lines_meant place [] = Ok (record { entries = []; endings = []; outputs = [] })
lines_meant place (line ∷ more) = at_line place (item_line line) (lines_meant (place + 1) more)

-- what the text of a recording means
unfoldable pub recording_meant : List ℕ → Result RecordedView LineRefusal
recording_meant text = lines_meant 1 (lines text)

-- the entries of what was read
abbrev pub entries_read : Result RecordedView LineRefusal → Result (List EntryView) LineRefusal
entries_read (Ok recorded) = Ok recorded.entries
entries_read (Err refusal) = Err refusal

-- what the text of a journal means: it may be that of a recording, of which the entries count
abbrev pub journal_meant : List ℕ → Result (List EntryView) LineRefusal
journal_meant text = entries_read (recording_meant text)

-- the result is what is read, or an allocation failed
abbrev pub JournalParses : {A B : Type 0} → (A → B) → Result A LineRefusal
    → Result B LineRefusal → Type 0
JournalParses view (Ok value) read = read ≡ Ok (view value)
JournalParses view (Err at) read = at.refusal ≢ Memory → read ≡ Err at

-- in front of any text, this line is read as this item
abbrev pub ReadsFirst : List ℕ → ItemView → Type 0
ReadsFirst line item =
    (place : ℕ) (rest : List ℕ) → lines_meant place (lines (line ++ rest))
    ≡ at_line place (Ok item) (lines_meant (place + 1) (lines rest))

-- each of these items is read from its line
abbrev pub AllRead : Values → List ItemView → Type 0
AllRead values items = AllByRecursion (λ item. ReadsFirst (item_text values item) item) items

-- behind what was read comes the item that the line means
abbrev pub AddsItem : List ℕ → RecordedView → RecordedView → Type 0
AddsItem line old new = (item : ItemView) × (new ≡ and_item item old) × (item_line line ≡ Ok item)
