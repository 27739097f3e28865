-- What an item is written as nests no deeper than three, and has no float.
use Rattle.std.proofs.Common.{◌≡◌, ℕ, suc, ◌≤◌, List, [], ◌∷◌, ◌++◌, map, Bool, true, false, Some, None, Ok, Err, if◌then◌else◌, refl, arith, ℤ, pos, negsuc, codes, Option, Result}
use Rattle.std.specs.Str.{is_utf8}
use Rattle.std.specs.List.{AllByRecursion}
use Rattle.serde_json.specs.Data.{Data, number, string, depth}
use Rattle.serde_json.specs.Find.{of_integer}
use Rattle.serde_json.specs.Written.{has_float}
use Rattle.duct_system.specs.EntryView.{EntryView, Environment, Pipe, OpenRead, Create, Duplicate, Parent, Canonicalize, Spawn, Feed, Drain, Reader, Close}
use Rattle.duct_system.specs.SpecView.{SpecView, Vars}
use Rattle.duct_system.specs.declared.spec.Port.{Port}
use Rattle.duct_system.specs.declared.spec.Port.TheVariants as ports
use Rattle.duct_system.specs.declared.system.ExitStatus.{ExitStatus}
use Rattle.duct_system.specs.declared.system.ExitStatus.TheVariants.{Code, Signal}
use Rattle.duct_system.specs.declared.system.Fault.{Fault}
use Rattle.duct_system.specs.declared.system.Stdio.{Stdio}
use Rattle.duct_system.specs.declared.system.Stdio.TheVariants.{Inherit, Null, End}
use Rattle.duct_replay.specs.declared.write.Values.{Values}
use Rattle.duct_replay.specs.declared.write.Values.TheVariants.{Shown, Hidden}
use Rattle.duct_replay.specs.Lines.{Ended, ItemView, Noted, Read, answer_data, bytes_data, entry_data, folder_data, item_data, list_data, number_answer_data, number_data, port_data, ports_data, request_data, result_data, side_name, status_data, stream_data, value_data, variable_data, variables_data}

-- it nests no deeper than this, and has no float
pub record IsPlain (n : ℕ) (json : Data) : Type 0 where
  pub shallow : depth json ≤ n
  pub exact : has_float json ≡ false

abbrev ArePlain : ℕ → List Data → Type 0
ArePlain n items = AllByRecursion (IsPlain n) items

list_plain : (n : ℕ) (items : List Data) → ArePlain n items → IsPlain (suc n) (list_data items)
list_plain n [] plain = record { shallow = omega arith; exact = refl }
list_plain n (item ∷ items) plain =
    let rest = list_plain n items plain.1 in
    let first = plain.0 in
    record {
      shallow = omega (arith, first.shallow, rest.shallow);
      exact = rw (first.exact) rest.exact;
    }

mapped : {A : Type 0} (n : ℕ) (write : A → Data) → ((value : A) → IsPlain n (write value))
    → (values : List A) → ArePlain n (map write values)
mapped n write plain [] = tt
mapped n write plain (value ∷ values) = (plain value, mapped n write plain values)

joined : (n : ℕ) (one other : List Data) → ArePlain n one → ArePlain n other
    → ArePlain n (one ++ other)
joined n [] other plain more = more
joined n (item ∷ one) other plain more = (plain.0, joined n one other plain.1 more)

text_plain : (n : ℕ) (text : List ℕ) → IsPlain n (string text)
text_plain n text = record { shallow = omega arith; exact = refl }

number_plain : (n value : ℕ) → IsPlain n (number_data value)
number_plain n value = record { shallow = omega arith; exact = refl }

value_plain : (n : ℕ) (values : Values) (value : List ℕ) → IsPlain n (value_data values value)
value_plain n Shown value = text_plain n value
value_plain n Hidden value = record { shallow = omega arith; exact = refl }

folder_plain : (n : ℕ) (folder : Option (List ℕ)) → IsPlain n (folder_data folder)
folder_plain n (Some folder) = text_plain n folder
folder_plain n None = record { shallow = omega arith; exact = refl }

port_plain : (n : ℕ) (port : Port) → IsPlain n (port_data port)
port_plain n ports.Inherit = text_plain n _
port_plain n ports.Null = text_plain n _
port_plain n ports.Given = text_plain n _
port_plain n (ports.Place place) = number_plain n place

stream_plain : (n : ℕ) (stream : Stdio ℕ) → IsPlain n (stream_data stream)
stream_plain n Inherit = text_plain n _
stream_plain n Null = text_plain n _
stream_plain n (End end) = number_plain n end

variable_plain : (values : Values) (pair : List ℕ × List ℕ)
    → IsPlain 1 (variable_data values pair)
unfolding variable_data
variable_plain values pair =
    list_plain 0 (string pair.0 ∷ value_data values pair.1 ∷ []) (text_plain 0 pair.0, (value_plain 0 values pair.1, tt))

variables_plain : (values : Values) (vars : Vars) → IsPlain 2 (variables_data values vars)
unfolding variables_data
variables_plain values vars =
    list_plain 1 (map (variable_data values) vars) (mapped 1 (variable_data values) (variable_plain values) vars)

bytes_plain : (bytes : List ℕ) → IsPlain 2 (bytes_data bytes)
unfolding bytes_data
bytes_plain bytes = either (is_utf8 bytes)
  where
    either : (text : Bool)
        → IsPlain 2 (if text then string bytes else list_data (map number_data bytes))
    either true = text_plain 2 bytes
    either false = list_plain 1 (map number_data bytes) (mapped 1 number_data (number_plain 1) bytes)

words_plain : (words : List (List ℕ)) → IsPlain 2 (list_data (map string words))
words_plain words = list_plain 1 (map string words) (mapped 1 string (text_plain 1) words)

ports_plain : (spec : SpecView) → IsPlain 2 (ports_data spec)
ports_plain spec =
    let all = spec.input ∷ spec.output ∷ spec.error ∷ [] in
    list_plain 1 (map port_data all) (mapped 1 port_data (port_plain 1) all)

streams_plain : (streams : List (Stdio ℕ)) → IsPlain 2 (list_data (map stream_data streams))
streams_plain streams =
    list_plain 1 (map stream_data streams) (mapped 1 stream_data (stream_plain 1) streams)

answer_plain : {A : Type 0} (values : A → List Data) → ((value : A) → ArePlain 2 (values value))
    → (answer : Result A Fault) → ArePlain 2 (result_data values answer)
answer_plain values plain (Ok value) = (text_plain 2 _, plain value)
answer_plain values plain (Err fault) = (text_plain 2 _, (text_plain 2 _, tt))

number_answer_plain : (answer : Result ℕ Fault) → ArePlain 2 (number_answer_data answer)
number_answer_plain = answer_plain _ (λ n. (number_plain 2 n, tt))

request_plain : (values : Values) (entry : EntryView)
    → ArePlain 2 (request_data values entry)
unfolding request_data
request_plain values (Environment answer) = (text_plain 2 _, tt)
request_plain values (Pipe answer) = (text_plain 2 _, tt)
request_plain values (OpenRead path answer) = (text_plain 2 _, (text_plain 2 path, tt))
request_plain values (Create path answer) = (text_plain 2 _, (text_plain 2 path, tt))
request_plain values (Duplicate end answer) = (text_plain 2 _, (number_plain 2 end, tt))
request_plain values (Parent side answer) =
    (text_plain 2 _, (text_plain 2 (side_name side), tt))
request_plain values (Canonicalize path answer) = (text_plain 2 _, (text_plain 2 path, tt))
request_plain values (Spawn spec streams answer) =
    (text_plain 2 _, (words_plain spec.words, (folder_plain 2 spec.folder, (variables_plain values spec.vars, (ports_plain spec, (streams_plain streams, tt))))))
request_plain values (Feed end bytes answer) =
    (text_plain 2 _, (number_plain 2 end, (bytes_plain bytes, tt)))
request_plain values (Drain end answer) = (text_plain 2 _, (number_plain 2 end, tt))
request_plain values (Reader end) = (text_plain 2 _, (number_plain 2 end, tt))
request_plain values (Close end) = (text_plain 2 _, (number_plain 2 end, tt))

returned_plain : (values : Values) (entry : EntryView)
    → ArePlain 2 (answer_data values entry)
unfolding answer_data
returned_plain values (Environment answer) =
    answer_plain _ (λ vars. (variables_plain values vars, tt)) answer
returned_plain values (Pipe answer) =
    answer_plain _ (λ ends. (number_plain 2 ends.0, (number_plain 2 ends.1, tt))) answer
returned_plain values (OpenRead path answer) = number_answer_plain answer
returned_plain values (Create path answer) = number_answer_plain answer
returned_plain values (Duplicate end answer) = number_answer_plain answer
returned_plain values (Parent side answer) = number_answer_plain answer
returned_plain values (Canonicalize path answer) =
    answer_plain _ (λ text. (text_plain 2 text, tt)) answer
returned_plain values (Spawn spec streams answer) = number_answer_plain answer
returned_plain values (Feed end bytes answer) = answer_plain _ (λ unit. tt) answer
returned_plain values (Drain end answer) = answer_plain _ (λ unit. tt) answer
returned_plain values (Reader end) = tt
returned_plain values (Close end) = tt

integer_plain : (n : ℕ) (code : ℤ) → IsPlain n (number (of_integer code))
integer_plain n (pos code) = record { shallow = omega arith; exact = refl }
integer_plain n (negsuc code) = record { shallow = omega arith; exact = refl }

status_plain : (status : ExitStatus) → ArePlain 2 (status_data status)
status_plain (Code code) = (text_plain 2 _, (integer_plain 2 code, tt))
status_plain (Signal signal) = (text_plain 2 _, (integer_plain 2 signal, tt))

pub item_plain : (values : Values) (item : ItemView) → IsPlain 3 (item_data values item)
unfolding item_data entry_data
item_plain values (Noted entry) =
    list_plain 2 (request_data values entry ++ answer_data values entry) (joined 2 (request_data values entry) (answer_data values entry) (request_plain values entry) (returned_plain values entry))
item_plain values (Ended (child, status)) =
    list_plain 2 (string (codes "ended") ∷ number_data child ∷ status_data status) (text_plain 2 _, (number_plain 2 child, status_plain status))
item_plain values (Read (end, bytes)) =
    list_plain 2 (string (codes "read") ∷ number_data end ∷ bytes_data bytes ∷ []) (text_plain 2 _, (number_plain 2 end, (bytes_plain bytes, tt)))
