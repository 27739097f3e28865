-- What contracts see of a child of the host.
use Rattle.duct_system.specs.Child.{ChildView}
use Rattle.duct_host.specs.declared.child.Child.{Child}

-- a child: its id is that of the process
abbrev pub child_view : {R S T U V : Type 0} → Child R S T U V → ChildView
child_view child = record {
  number = child.number;
  process = child.id;
  leads = child.leads;
  polls = child.polls;
  last = child.last;
  ending = child.seen.ending;
  orders = child.orders.items;
}
