-- What a test has set: the faults of requests, canonical paths, a log, and the changes of a hook.
use Rattle.std.specs.Prelude.{ℕ, Bool, false, ◌==◌, ◌&&◌, ◌≡◌, List, [], ◌∷◌, Some, None, replicate, slice_index, slice_set, if◌then◌else◌, ◌++◌, nat_eq, string_bytes, Option}
use Rattle.std.specs.declared.alloc.Global.{Global}
use Rattle.std.specs.declared.sync.Arc.{Arc}
use Rattle.std.specs.Arc.{arc_value}
use Rattle.std.specs.BTreeMap.{insert_entry}
use Rattle.std.specs.Cmp.Lexicographic.{slice_cmp, pointwise}
use Rattle.std.specs.Map.{lookup}
use Rattle.std.specs.Ordering.{nat_cmp, is_eq}
use Rattle.std.specs.List.{list_any}
use Rattle.duct_system.specs.Child.{one_more}
use Rattle.duct_system.specs.declared.system.Fault.{Fault}
use Rattle.duct_system.specs.declared.spec.Port.{Port}
use Rattle.duct_system.specs.declared.spec.Port.TheVariants as port
use Rattle.duct_system.specs.declared.spec.Stream.{Stream}
use Rattle.duct_system.specs.declared.spec.Stream.TheVariants.{In, Out, Err}
use Rattle.duct_system.specs.SpecView.{SpecView, with_var, without_var}
use Rattle.duct_script.specs.declared.calls.CallLog.{CallLog}
use Rattle.duct_script.specs.declared.requests.Sort.{Sort}
use Rattle.duct_script.specs.declared.requests.Sort.TheVariants.{Environment, Pipe, OpenRead, Create, Duplicate, Parent, Canonicalize, Spawn, Feed, Drain, Reader, Close}
use Rattle.duct_script.specs.declared.requests.Refusal.{Refusal}
use Rattle.duct_script.specs.declared.requests.Requests.{Requests}
use Rattle.duct_script.specs.declared.system.Script.{Script}
use Rattle.duct_script.specs.declared.hook.Destination.{Destination}
use Rattle.duct_script.specs.declared.hook.Destination.TheVariants as destination
use Rattle.duct_script.specs.declared.hook.SpecChange.{SpecChange}
use Rattle.duct_script.specs.declared.hook.SpecChange.TheVariants as change
use Rattle.duct_script.specs.declared.hook.HookAnswer.{HookAnswer}
use Rattle.duct_script.specs.declared.hook.HookAnswer.TheVariants.{Obey, Refuse, RefuseWord}

-- the place of a sort among all sorts
abbrev pub place_of : Sort → ℕ
place_of Environment = 0
place_of Pipe = 1
place_of OpenRead = 2
place_of Create = 3
place_of Duplicate = 4
place_of Parent = 5
place_of Canonicalize = 6
place_of Spawn = 7
place_of Feed = 8
place_of Drain = 9
place_of Reader = 10
place_of Close = 11

-- whether a refusal is for the request with this number among all requests, and with this number
-- among those of the sort at this place
abbrev pub is_for : ℕ → ℕ → ℕ → Refusal → Bool
is_for place among_all among_sort refusal =
    elim refusal.sort [
      | None ↦ refusal.request == among_all
      | Some sort ↦ place_of sort == place && refusal.request == among_sort
    ]

-- the fault of the first refusal that is for this request
abbrev pub fault_for : ℕ → ℕ → ℕ → List Refusal → Option Fault
fault_for place among_all among_sort [] = None
fault_for place among_all among_sort (refusal ∷ refusals) =
    if is_for place among_all among_sort refusal then Some refusal.fault
    else fault_for place among_all among_sort refusals

-- how many requests of a sort there are after one more
abbrev pub count_after : Sort → Requests → ℕ
count_after sort requests = one_more (slice_index requests.of_sort (place_of sort))

-- the fault that is set for the next request, if that is of this sort
abbrev pub next_fault : Sort → Requests → Option Fault
next_fault sort requests =
    fault_for (place_of sort) (one_more requests.asked) (count_after sort requests)
    requests.refusals.items

-- the requests after one more of this sort is counted
abbrev pub with_request : Sort → Requests → Requests
with_request sort requests = record requests {
  asked = one_more requests.asked;
  of_sort = slice_set requests.of_sort (place_of sort) (count_after sort requests);
}

-- paths with their canonical paths, in order of path
abbrev pub Paths : Type 0
Paths = List (List ℕ × List ℕ)

-- the canonical path of a path, if there is one
abbrev pub canonical_of : List ℕ → Paths → Option (List ℕ)
canonical_of path paths = lookup (λ other. is_eq (slice_cmp nat_cmp path other)) paths

-- the paths with this canonical path for a path, in place of the one that it had
abbrev pub with_path : List ℕ → List ℕ → Paths → Paths
with_path path name paths = insert_entry (slice_cmp nat_cmp) paths path name

-- one more owner of the log, if there is a log; making that owner may fail
abbrev pub SharesLog : Option (Arc CallLog Global) → Option (Arc CallLog Global) → Type 0
SharesLog None shared = shared ≡ None
SharesLog (Some log) None = Unit {0}
SharesLog (Some log) (Some shared) = arc_value shared ≡ arc_value log

-- no request of any sort is counted; no variable, canonical path, child, feed, drain, reader or log
-- is set; the bytes that its drains share are empty; and it is not starved
pub record IsUnset (sys : Script) : Type 0 where
  pub of_sort_are : sys.requests.of_sort ≡ replicate 12 0
  pub variables_are : sys.variables.items ≡ []
  pub canonical_is : sys.canonical.entries ≡ []
  pub children_are : sys.children.items ≡ []
  pub feeds_are : sys.feeds.items ≡ []
  pub drains_are : sys.drains.items ≡ []
  pub readers_are : sys.readers.items ≡ []
  pub empty_is : (arc_value sys.empty).items ≡ []
  pub calls_are : sys.calls ≡ None
  pub starved_is : sys.starved ≡ false

-- the port of a destination
abbrev pub port_to : Destination → Port
port_to destination.Inherit = port.Inherit
port_to destination.Null = port.Null
port_to (destination.HookEnd place) = port.Place place

-- the spec with this port for a stream
abbrev pub with_port : Stream → Port → SpecView → SpecView
with_port In to spec = record spec { input = to }
with_port Out to spec = record spec { output = to }
with_port Err to spec = record spec { error = to }

-- the spec after one change
abbrev pub changed_by : SpecChange → SpecView → SpecView
changed_by (change.Word word) spec = record spec { words = spec.words ++ string_bytes word ∷ [] }
changed_by (change.Var name value) spec =
    record spec { vars = with_var (string_bytes name) (string_bytes value) spec.vars }
changed_by (change.NoVar name) spec =
    record spec { vars = without_var (string_bytes name) spec.vars }
changed_by change.NoVars spec = record spec { vars = [] }
changed_by (change.Folder folder) spec = record spec { folder = Some (string_bytes folder) }
changed_by (change.Port stream to) spec = with_port stream (port_to to) spec

-- the spec after all changes, in order
abbrev pub changed : List SpecChange → SpecView → SpecView
changed [] spec = spec
changed (first ∷ rest) spec = changed rest (changed_by first spec)

-- whether a word is one of these words
abbrev pub has_word : List ℕ → List (List ℕ) → Bool
has_word word words = list_any (λ other. pointwise nat_eq other word) words

-- the fault with which a spec is refused, if it is
abbrev pub refusal_of : HookAnswer → SpecView → Option Fault
refusal_of Obey spec = None
refusal_of (Refuse fault) spec = Some fault
refusal_of (RefuseWord word fault) spec =
    if has_word (string_bytes word) spec.words then Some fault else None
