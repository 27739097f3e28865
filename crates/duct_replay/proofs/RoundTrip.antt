-- What an item is written as means that item.
use Rattle.std.proofs.Common.{◌≡◌, ℕ, suc, ◌<◌, List, [], ◌∷◌, ◌++◌, map, Bool, true, false, Some, None, Ok, Err, if◌then◌else◌, refl, ap, ◌∙◌, arith, rules, ℤ, pos, negsuc, codes, Option, Result}
use Rattle.std.specs.Str.{is_utf8}
use Rattle.serde_json.specs.Data.{Data, number, string}
use Rattle.serde_json.specs.Find.{of_integer}
use Rattle.duct_system.specs.EntryView.{EntryView, Environment, Pipe, OpenRead, Create, Duplicate, Parent, Canonicalize, Spawn, Feed, Drain, Reader, Close}
use Rattle.duct_system.specs.SpecView.{SpecView, Vars, AreOrdered}
use Rattle.duct_system.specs.declared.spec.Port.{Port}
use Rattle.duct_system.specs.declared.spec.Port.TheVariants as ports
use Rattle.duct_system.specs.declared.system.ExitStatus.{ExitStatus}
use Rattle.duct_system.specs.declared.system.ExitStatus.TheVariants.{Code, Signal}
use Rattle.duct_system.specs.declared.system.Fault.{Fault}
use Rattle.duct_system.specs.declared.system.Kind.{Kind}
use Rattle.duct_system.specs.declared.system.Kind.TheVariants.{NotFound, PermissionDenied, BrokenPipe, WriteZero, InvalidInput, Unsupported, OutOfMemory, Other}
use Rattle.duct_system.specs.declared.system.Side.{Side}
use Rattle.duct_system.specs.declared.system.Side.TheVariants as sides
use Rattle.duct_system.specs.declared.system.Stdio.{Stdio}
use Rattle.duct_system.specs.declared.system.Stdio.TheVariants.{Inherit, Null, End}
use Rattle.duct_system.specs.Kinds.{kind_name}
use Rattle.duct_replay.specs.Lines.{AreBytes, Ended, IsSmall, IsWritable, ItemView, Noted, Read, answer_data, bytes_data, entry_data, folder_data, item_data, list_data, number_answer_data, number_data, port_data, ports_data, request_data, result_data, side_name, status_data, stream_data, variable_data, variables_data, ◌>>=◌, all_meant, answer_meant, byte_meant, bytes_meant, each_of, ending_meant, ends_answer, ends_meant, fault_meant, feed_meant, first_meant, integer_meant, item_meant, item_named, kind_named, list_meant, named_meant, number_answer, number_meant, only_meant, output_meant, pair_meant, port_meant, returned_as, side_named, spawn_meant, spec_meant, status_named, stream_meant, text_answer, text_meant, text_or_null, three_meant, unit_answer, unit_meant, variable_meant, variables_answer, variables_meant, words_meant}
use Rattle.duct_replay.specs.declared.error.Refusal.{Refusal}
use Rattle.duct_replay.specs.declared.write.Values.TheVariants.{Shown}
use Rattle.duct_replay.proofs.Lists.{list_of_items}
use Rattle.duct_replay.proofs.Ordered.{set_again}

-- a step that returned a value goes on with it
after : {A B : Type 0} (next : A → Result B Refusal) {read : Result A Refusal} {value : A}
    → read ≡ Ok value → (read >>= next) ≡ next value
after next is = ap (λ read. read >>= next) is

-- ---- lists

list_back : (items : List Data) → list_meant (list_data items) ≡ Ok items
unfolding list_meant
list_back items = ap Ok (list_of_items items)

all_back : {A : Type 0} (one : Data → Result A Refusal) (write : A → Data)
    → ((value : A) → one (write value) ≡ Ok value) → (values : List A)
    → all_meant one (map write values) ≡ Ok values
all_back one write back [] = refl
all_back one write back (value ∷ values) =
    rw (back value, all_back one write back values)

text_back : (text : List ℕ) → text_meant (string text) ≡ Ok text
unfolding text_meant
text_back text = refl

words_back : (words : List (List ℕ)) → words_meant (list_data (map string words)) ≡ Ok words
unfolding words_meant
words_back words =
    after (all_meant text_meant) (list_back (map string words))
    ∙ all_back text_meant string text_back words

variable_back : (pair : List ℕ × List ℕ) → variable_meant (variable_data Shown pair) ≡ Ok pair
unfolding variable_meant list_meant pair_meant text_meant text_or_null variable_data
variable_back pair = refl

variables_back : (vars : Vars) → variables_meant (variables_data Shown vars) ≡ Ok vars
unfolding variables_meant variables_data
variables_back vars =
    after (all_meant variable_meant) (list_back (map (variable_data Shown) vars))
    ∙ all_back variable_meant (variable_data Shown) variable_back vars

byte_back : (byte : ℕ) → byte < 256 → byte_meant (number_data byte) ≡ Ok byte
unfolding byte_meant number_meant
byte_back byte below = search rules

numbers_back : (bytes : List ℕ) → AreBytes bytes
    → all_meant byte_meant (map number_data bytes) ≡ Ok bytes
numbers_back [] are = refl
numbers_back (byte ∷ bytes) are =
    rw (byte_back byte (are 0), numbers_back bytes (λ place. are (suc place)))

bytes_back : (bytes : List ℕ) → AreBytes bytes → bytes_meant (bytes_data bytes) ≡ Ok bytes
unfolding bytes_meant bytes_data
bytes_back bytes are = either (is_utf8 bytes)
  where
    either : (text : Bool)
        → bytes_meant (if text then string bytes else list_data (map number_data bytes)) ≡ Ok bytes
    either true = refl
    either false = rw (list_back (map number_data bytes)) (numbers_back bytes are)

-- ---- parts of a spec

folder_back : (folder : Option (List ℕ)) → text_or_null (folder_data folder) ≡ Ok folder
unfolding text_or_null
folder_back (Some folder) = refl
folder_back None = refl

port_back : (port : Port) → port_meant (port_data port) ≡ Ok port
unfolding port_meant
port_back ports.Inherit = refl
port_back ports.Null = refl
port_back ports.Given = refl
port_back (ports.Place place) = refl

ports_back : (spec : SpecView)
    → (three_meant (ports_data spec) >>= each_of port_meant)
    ≡ Ok (spec.input, spec.output, spec.error)
unfolding three_meant list_meant
ports_back spec = rw (port_back spec.input, port_back spec.output, port_back spec.error)

stream_back : (stream : Stdio ℕ) → stream_meant (stream_data stream) ≡ Ok stream
unfolding stream_meant
stream_back Inherit = refl
stream_back Null = refl
stream_back (End end) = refl

streams_back : (input output error : Stdio ℕ)
    → (three_meant (list_data (map stream_data (input ∷ output ∷ error ∷ []))) >>= each_of stream_meant)
    ≡ Ok (input, output, error)
unfolding three_meant list_meant
streams_back input output error = rw (stream_back input, stream_back output, stream_back error)

spec_back : (spec : SpecView) → AreOrdered spec.vars
    → spec_meant (list_data (map string spec.words)) (folder_data spec.folder)
    (variables_data Shown spec.vars) (ports_data spec) ≡ Ok spec
unfolding spec_meant
spec_back spec ordered =
    rw (words_back spec.words, folder_back spec.folder, variables_back spec.vars, ports_back spec, set_again spec.vars ordered)

side_back : (side : Side) → side_named (side_name side) ≡ Ok side
unfolding side_named
side_back sides.Out = refl
side_back sides.Err = refl

-- ---- answers

kind_back : (kind : Kind) → kind_named (kind_name kind) ≡ Ok kind
unfolding kind_named
kind_back NotFound = refl
kind_back PermissionDenied = refl
kind_back BrokenPipe = refl
kind_back WriteZero = refl
kind_back InvalidInput = refl
kind_back Unsupported = refl
kind_back OutOfMemory = refl
kind_back Other = refl

-- an answer whose values are read back
returned_back : {A : Type 0} (write : A → List Data) (read : List Data → Result A Refusal)
    → ((value : A) → read (write value) ≡ Ok value) → (answer : Result A Fault)
    → (answer_meant (result_data write answer) >>= returned_as read) ≡ Ok answer
unfolding answer_meant first_meant text_meant fault_meant only_meant
returned_back write read back (Ok value) = rw (back value)
returned_back write read back (Err fault) = rw (kind_back fault.kind)

number_back : (answer : Result ℕ Fault) → number_answer (number_answer_data answer) ≡ Ok answer
unfolding number_answer only_meant number_meant
number_back answer = returned_back (λ n. number_data n ∷ []) _ (λ n. refl) answer

unit_back : (answer : Result (Unit {0}) Fault)
    → unit_answer (result_data (λ unit. []) answer) ≡ Ok answer
unfolding unit_answer unit_meant
unit_back answer = returned_back (λ unit. []) _ (λ unit. refl) answer

ends_back : (answer : Result (ℕ × ℕ) Fault)
    → ends_answer (result_data (λ ends. number_data ends.0 ∷ number_data ends.1 ∷ []) answer)
    ≡ Ok answer
unfolding ends_answer ends_meant number_meant
ends_back answer =
    returned_back (λ ends. number_data ends.0 ∷ number_data ends.1 ∷ []) _ (λ ends. refl) answer

text_answer_back : (answer : Result (List ℕ) Fault)
    → text_answer (result_data (λ text. string text ∷ []) answer) ≡ Ok answer
unfolding text_answer only_meant text_meant
text_answer_back answer = returned_back (λ text. string text ∷ []) _ (λ text. refl) answer

variables_answer_back : (answer : Result Vars Fault)
    → variables_answer (result_data (λ vars. variables_data Shown vars ∷ []) answer) ≡ Ok answer
unfolding variables_answer only_meant
variables_answer_back answer =
    returned_back (λ vars. variables_data Shown vars ∷ []) _ variables_back answer

-- ---- items

-- what an array of these items means
items_meant : List Data → Result ItemView Refusal
items_meant items =
    first_meant items >>= λ parts. text_meant parts.0 >>= λ name. item_named name parts.1

opened : (items : List Data) → item_meant (list_data items) ≡ items_meant items
unfolding item_meant items_meant
opened items =
    ap (λ read. read >>= first_meant >>= λ parts. text_meant parts.0 >>= λ name. item_named name parts.1) (list_back items)

entry_back : (entry : EntryView) → IsWritable (Noted entry)
    → items_meant (request_data Shown entry ++ answer_data Shown entry) ≡ Ok (Noted entry)
unfolding items_meant request_data answer_data first_meant text_meant item_named named_meant number_meant spawn_meant feed_meant only_meant
entry_back (Environment answer) writable = rw (variables_answer_back answer)
entry_back (Pipe answer) writable = rw (ends_back answer)
entry_back (OpenRead path answer) writable = rw (number_back answer)
entry_back (Create path answer) writable = rw (number_back answer)
entry_back (Duplicate end answer) writable = rw (number_back answer)
entry_back (Parent side answer) writable = rw (side_back side, number_back answer)
entry_back (Canonicalize path answer) writable = rw (text_answer_back answer)
entry_back (Spawn spec [] answer) writable = absurd (omega (arith, writable.1))
entry_back (Spawn spec (input ∷ []) answer) writable = absurd (omega (arith, writable.1))
entry_back (Spawn spec (input ∷ output ∷ []) answer) writable = absurd (omega (arith, writable.1))
entry_back (Spawn spec (input ∷ output ∷ error ∷ []) answer) writable =
    rw (spec_back spec writable.0, streams_back input output error, number_back answer)
entry_back (Spawn spec (input ∷ output ∷ error ∷ other ∷ more) answer) writable =
    absurd (omega (arith, writable.1))
entry_back (Feed end bytes answer) writable = rw (bytes_back bytes writable, unit_back answer)
entry_back (Drain end answer) writable = rw (unit_back answer)
entry_back (Reader end) writable = refl
entry_back (Close end) writable = refl

integer_back : (n : ℤ) → IsSmall n → integer_meant (number (of_integer n)) ≡ Ok n
unfolding integer_meant
integer_back (pos n) small = search rules
integer_back (negsuc n) small = rw small.least refl

ending_back : (child : ℕ) (status : ExitStatus) → IsWritable (Ended (child, status))
    → items_meant (string (codes "ended") ∷ number_data child ∷ status_data status)
    ≡ Ok (Ended (child, status))
unfolding items_meant first_meant text_meant item_named ending_meant number_meant only_meant status_named
ending_back child (Code code) small = rw (integer_back code small) refl
ending_back child (Signal signal) small = rw (integer_back signal small) refl

output_back : (end : ℕ) (bytes : List ℕ) → AreBytes bytes
    → items_meant (string (codes "read") ∷ number_data end ∷ bytes_data bytes ∷ [])
    ≡ Ok (Read (end, bytes))
unfolding items_meant first_meant text_meant item_named output_meant number_meant only_meant
output_back end bytes are = rw (bytes_back bytes are) refl

-- the law
pub item_back : (item : ItemView) → IsWritable item → item_meant (item_data Shown item) ≡ Ok item
unfolding item_data entry_data
item_back (Noted entry) writable =
    opened (request_data Shown entry ++ answer_data Shown entry) ∙ entry_back entry writable
item_back (Ended (child, status)) writable =
    opened (string (codes "ended") ∷ number_data child ∷ status_data status)
    ∙ ending_back child status writable
item_back (Read (end, bytes)) writable =
    opened (string (codes "read") ∷ number_data end ∷ bytes_data bytes ∷ [])
    ∙ output_back end bytes writable
