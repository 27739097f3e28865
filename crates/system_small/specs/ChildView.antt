-- A child of the small system as contracts see it.
use Rattle.std.specs.Prelude.{◌-◌, ◌^◌, false, if◌then◌else◌, min, Ok, Some, None}
use Rattle.duct_system.specs.Child.{ChildView}
use Rattle.system_small.specs.Told.{exit_of}
use Rattle.system_small.specs.declared.SmallChild.{SmallChild}

-- a child; its id is its number, at most 2 ^ 32 - 1
abbrev pub child_view : SmallChild → ChildView
child_view child = record {
  number = child.number;
  process = min child.number (2 ^ 32 - 1);
  leads = false;
  polls = child.polls;
  last = if child.is_polled then Some (Ok (Some (exit_of child.number))) else None;
  ending = if child.is_polled then Some (exit_of child.number) else None;
  orders = child.orders.items;
}
