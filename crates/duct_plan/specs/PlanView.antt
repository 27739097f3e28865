-- A plan of the code as contracts see it.
use Rattle.std.specs.Prelude.{map, string_bytes, option_copied}
use Rattle.duct_system.specs.SpecView.{var_view}
use Rattle.duct_start.specs.Plan as plan
use Rattle.duct_start.specs.Step as request
use Rattle.duct_start.specs.Surroundings as outwards
use Rattle.duct_plan.specs.declared.items.VariableChange.{VariableChange}
use Rattle.duct_plan.specs.declared.items.VariableChange.TheVariants.{Sets, Removes, Replaces}
use Rattle.duct_plan.specs.declared.items.Surroundings.{Surroundings}
use Rattle.duct_plan.specs.declared.items.Target.{Target}
use Rattle.duct_plan.specs.declared.items.Target.TheVariants.{Parents, Nothing, ReaderAt, WriterAt, FileAt, Lends}
use Rattle.duct_plan.specs.declared.items.Item.{Item}
use Rattle.duct_plan.specs.declared.items.Item.TheVariants.{Environment, Pipe, OpenRead, Create, Canonicalize, Spawn, Feed, Drain, Reader}
use Rattle.duct_plan.specs.declared.items.Plan.{Plan}

-- where a stream goes
abbrev pub target_of : {E : Type 0} → Target E → outwards.Target E
target_of (Parents stream) = outwards.Parents stream
target_of Nothing = outwards.Nothing
target_of (ReaderAt place) = outwards.ReaderAt place
target_of (WriterAt place) = outwards.WriterAt place
target_of (FileAt place) = outwards.FileAt place
target_of (Lends end) = outwards.Lends end.now

-- how a node changes the variables
abbrev pub change_of : VariableChange → outwards.VariableChange
change_of (Sets name value) = outwards.Sets name.now value.now
change_of (Removes name) = outwards.Removes name.now
change_of (Replaces vars) = outwards.Replaces (map var_view vars.now.entries)

-- what a command finds
abbrev pub found_of : {E H : Type 0} → Surroundings E H → outwards.Surroundings E H
found_of found = record {
  folder = option_copied found.folder;
  changes = map change_of found.changes.items;
  input = target_of found.input;
  output = target_of found.output;
  error = target_of found.error;
  hooks = map (λ hook. (hook.0.now, hook.1.now)) found.hooks.items;
}

-- one request
abbrev pub item_of : {E H : Type 0} → Item E H → request.Item E H
item_of Environment = request.AskEnvironment
item_of Pipe = request.AskPipe
item_of (OpenRead path) = request.AskOpenRead path.now
item_of (Create path) = request.AskCreate path.now
item_of (Canonicalize program) = request.AskCanonicalize program.now
item_of (Spawn found words) = request.AskSpawn (found_of found) (map string_bytes words.now)
item_of (Feed place bytes) = request.AskFeed place bytes.now
item_of (Drain place) = request.AskDrain place
item_of (Reader place) = request.AskReader place

-- the requests, and the places of the capture pipes
abbrev pub plan_view : {E H : Type 0} → Plan E H → plan.Plan E H
plan_view plan = record {
  items = map item_of plan.items.items;
  pipes = record { out = plan.out; err = plan.err };
}
