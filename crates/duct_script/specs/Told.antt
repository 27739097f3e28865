-- What contracts see of a scripted child, feed and drain, and what these return from their lists.
use Rattle.std.specs.Prelude.{ℕ, ◌+◌, ◌-◌, ◌^◌, min, Bool, true, false, List, [], ◌≡◌, Ok, Err, Some, None}
use Rattle.duct_system.specs.Child.{Answer, ChildView, Obeyed}
use Rattle.duct_system.specs.Job.{JobView}
use Rattle.duct_system.specs.declared.system.Order.{Order}
use Rattle.duct_system.specs.declared.system.Order.TheVariants.{Kill, Signal}
use Rattle.duct_system.specs.declared.system.Said.{Said}
use Rattle.duct_system.specs.declared.system.Said.TheVariants as said
use Rattle.duct_script.specs.Answers.{Shared, next_or}
use Rattle.duct_script.specs.declared.child.ChildScript.{ChildScript}
use Rattle.duct_script.specs.declared.child.PollAnswer.{PollAnswer}
use Rattle.duct_script.specs.declared.child.PollAnswer.TheVariants as poll
use Rattle.duct_script.specs.declared.child.ScriptChild.{ScriptChild}
use Rattle.duct_script.specs.declared.job.ScriptDrain.{ScriptDrain}
use Rattle.duct_script.specs.declared.job.ScriptFeed.{ScriptFeed}

-- a child; its id is its number plus 1000, but at most 2 ^ 32 - 1
abbrev pub child_view : ScriptChild → ChildView
child_view child = record {
  number = child.number;
  process = min (child.number + 1000) (2 ^ 32 - 1);
  leads = child.leads;
  polls = child.polls;
  last = child.last;
  ending = child.ending;
  orders = child.orders.items;
}

-- a feed
abbrev pub feed_view : ScriptFeed → JobView (Unit {0})
feed_view feed = record { number = feed.number; polls = feed.polls; kept = feed.kept }

-- a drain
abbrev pub drain_view : ScriptDrain → JobView Shared
drain_view drain = record { number = drain.number; polls = drain.polls; kept = drain.kept.value }

-- a child whose polls return these results, whose orders succeed, and which has no gate
pub record IsObeying (answers : List PollAnswer) (script : ChildScript) : Type 0 where
  pub polls_are : script.polls.items.items ≡ answers
  pub kills_are : script.kills.items.items ≡ []
  pub signals_are : script.signals.items.items ≡ []
  pub gate_is : script.gate ≡ None

-- the result of a poll in the form of the interface
abbrev pub told_by : PollAnswer → Answer
told_by poll.Running = Ok None
told_by (poll.Ended status) = Ok (Some status)
told_by (poll.Fault fault) = Err fault

-- the result of a child's next poll: its exit status once it has one, else the next of its list
abbrev pub poll_of : ScriptChild → Answer
poll_of child = elim child.ending [
  | Some status ↦ Ok (Some status)
  | None ↦ told_by (next_or poll.Running child.script.polls.items.items)
]

-- an order that is noted returns the next result of the list for orders of its kind
abbrev pub Obeys : ChildScript → ℕ → Order → Bool → Obeyed → Type 0
Obeys script number order false answer = Unit {0}
Obeys script number Kill true answer = answer ≡ next_or (Ok tt) script.kills.items.items
Obeys script number (Signal signal) true answer =
    answer ≡ next_or (Ok tt) script.signals.items.items

-- the result of a feed's next poll: what it stores, else the next of its list
abbrev pub said_by : ScriptFeed → Said (Unit {0})
said_by feed = elim feed.kept [
  | said.Running ↦ next_or (said.Done tt) feed.script.items.items
  | said.Done value ↦ said.Done value
  | said.Fault fault ↦ said.Fault fault
]
