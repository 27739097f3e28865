-- What a policy is asked about, as contracts see it, what it allows, and what that means for the
-- entries of a journal.
use Rattle.std.specs.Prelude.{ℕ, Bool, true, false, ◌≡◌, ◌||◌, List, Some, None, Option}
use Rattle.std.specs.List.{list_all}
use Rattle.duct_system.specs.EntryView.{EntryView, OpenRead, Create, Duplicate, Parent, Canonicalize, Spawn}
use Rattle.duct_system.specs.SpecView.{SpecView}
use Rattle.duct_system.specs.Trace.{fault_of}
use Rattle.duct_system.specs.declared.system.Fault.{Fault}
use Rattle.duct_system.specs.declared.system.Kind.{Kind}
use Rattle.duct_system.specs.declared.system.Kind.TheVariants.{PermissionDenied}
use Rattle.duct_system.specs.declared.system.Side.{Side}
use Rattle.duct_guard.specs.declared.counts.Counts.{Counts}
use Rattle.duct_guard.specs.declared.policy.Request.{Request}
use Rattle.duct_guard.specs.declared.policy.Request.TheVariants as code

-- a request: to start a child by this spec; to open this path for reading, or for writing; to look
-- up its canonical path; to return one more end of an end, or of this stream of the parent
pub data RequestView : Type 0 where
  spawn : SpecView → RequestView
  read : List ℕ → RequestView
  create : List ℕ → RequestView
  canonicalize : List ℕ → RequestView
  duplicate : RequestView
  parent : Side → RequestView

-- the same without the borrows
abbrev pub request_view : Request → RequestView
request_view (code.Spawn spec) = spawn spec.now
request_view (code.Read path) = read path.now
request_view (code.Create path) = create path.now
request_view (code.Canonicalize path) = canonicalize path.now
request_view code.Duplicate = duplicate
request_view (code.Parent side) = parent side

-- the requests; the greatest numbers of ends that are open at once and of children that are ever
-- started; and the greatest number of children that run at once
pub record Rules : Type 0 where
  pub allows : RequestView → Bool
  pub limits : Counts
  pub at_once : ℕ

-- whether an entry's request is allowed
abbrev pub is_allowed : Rules → EntryView → Bool
is_allowed rules (OpenRead path answer) = rules.allows (read path)
is_allowed rules (Create path answer) = rules.allows (create path)
is_allowed rules (Duplicate lent answer) = rules.allows duplicate
is_allowed rules (Parent side answer) = rules.allows (parent side)
is_allowed rules (Canonicalize path answer) = rules.allows (canonicalize path)
is_allowed rules (Spawn spec io answer) = rules.allows (spawn spec)
is_allowed rules _ = true

-- each entry's request is allowed
abbrev pub AreAllowed : Rules → List EntryView → Type 0
AreAllowed rules entries = list_all (is_allowed rules) entries ≡ true

-- whether it is the fault of what is forbidden
abbrev pub is_permission_denied : Kind → Bool
is_permission_denied PermissionDenied = true
is_permission_denied _ = false

-- whether a request failed for being forbidden
abbrev pub is_denial : Option Fault → Bool
is_denial (Some fault) = is_permission_denied fault.kind
is_denial None = false

-- each entry whose request isn't allowed failed with PermissionDenied
abbrev pub AreDenied : Rules → List EntryView → Type 0
AreDenied rules entries =
    list_all (λ entry. is_allowed rules entry || is_denial (fault_of entry)) entries ≡ true
