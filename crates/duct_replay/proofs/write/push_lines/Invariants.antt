-- The text so far, followed by the lines of the rest, is the text of all.
use Rattle.std.proofs.Common.{◌≡◌, ◌++◌, map, string_bytes, length, flat_map}
use Rattle.duct_replay.specs.Lines.{item_text, AllRead}
use Rattle.duct_replay.specs.declared.write.Values.TheVariants.{Shown}
use Rattle.duct_replay.proofs.write.push_lines.Given as goal

abbrev pub invariant-loop-item : goal.invariant-loop-item
invariant-loop-item g l = record {
  text : string_bytes l.text ++ flat_map (item_text l.values) (map g.T.Written.item l.rest) ≡ string_bytes l.fn.text ++ flat_map (item_text l.values) (map g.T.Written.item l.items);
  shown : l.values ≡ Shown → AllRead l.values (map g.T.Written.item l.rest) → AllRead l.values (map g.T.Written.item l.items);
}

abbrev pub decreases-loop-item : goal.decreases-loop-item
decreases-loop-item g l = length l.rest
