-- The text of an entry: its request, and its fault if the system refused it.
use Rattle.std.specs.Prelude.{ℕ, List, [], ◌∷◌, ◌++◌, codes, Some, None, Option}
use Rattle.duct_system.specs.EntryView.{EntryView, Environment, Pipe, OpenRead, Create, Duplicate, Parent, Canonicalize, Spawn, Feed, Drain, Reader, Close}
use Rattle.duct_system.specs.Kinds.{kind_name}
use Rattle.duct_system.specs.SpecView.{SpecView}
use Rattle.duct_system.specs.Trace.{fault_of}
use Rattle.duct_system.specs.declared.system.Fault.{Fault}
use Rattle.duct_system.specs.declared.system.Side.TheVariants.{Out, Err}
use Rattle.duct_status.specs.Form.{Form, plain, before, joined, each_form, of_text, of_number, text_of}

-- the words of a spec: its program and its arguments
abbrev pub words_form : List (List ℕ) → Form
words_form (program ∷ arguments) =
    before (of_text (codes "spawn of ") program) (each_form (of_text (codes " ")) arguments)
words_form [] = plain (codes "spawn of no program")

-- the folder of a spec, if it has one
abbrev pub folder_form : Option (List ℕ) → Form
folder_form (Some folder) = of_text (codes " in ") folder
folder_form None = plain []

-- the start of a child
abbrev pub spawn_form : SpecView → Form
spawn_form spec = joined (words_form spec.words ∷ folder_form spec.folder ∷ [])

-- the request of an entry
abbrev pub request_form : EntryView → Form
request_form (Environment answer) = plain (codes "environment")
request_form (Pipe answer) = plain (codes "pipe")
request_form (OpenRead path answer) = of_text (codes "open of ") path
request_form (Create path answer) = of_text (codes "create of ") path
request_form (Duplicate lent answer) = of_number (codes "duplicate of end ") lent
request_form (Parent Out answer) = plain (codes "duplicate of the parent's stdout")
request_form (Parent Err answer) = plain (codes "duplicate of the parent's stderr")
request_form (Canonicalize path answer) = of_text (codes "canonical path of ") path
request_form (Spawn spec io answer) = spawn_form spec
request_form (Feed end bytes answer) = of_number (codes "input worker of end ") end
request_form (Drain end answer) = of_number (codes "capture worker of end ") end
request_form (Reader end) = of_number (codes "reader of end ") end
request_form (Close end) = of_number (codes "close of end ") end

-- a colon and the kind of a fault, if there is one
abbrev pub fault_form : Option Fault → Form
fault_form (Some fault) = plain (codes ": " ++ kind_name fault.kind)
fault_form None = plain []

-- the request of an entry, and its fault if it has one
abbrev pub entry_form : EntryView → Form
entry_form entry = joined (request_form entry ∷ fault_form (fault_of entry) ∷ [])

-- the text of the request of an entry, where its paths, words and folder are printable ASCII
abbrev pub request_text : EntryView → Option (List ℕ)
request_text entry = text_of (request_form entry)

-- the text of an entry, where they are
abbrev pub entry_text : EntryView → Option (List ℕ)
entry_text entry = text_of (entry_form entry)
