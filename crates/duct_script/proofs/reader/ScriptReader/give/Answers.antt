use Rattle.std.proofs.Common.{◌≡◌, take, drop, length, arith}
use Rattle.std.proofs.lemmas.Grind.{common_steps}
use Rattle.duct_script.proofs.Bytes.{left_before}
use Rattle.duct_script.proofs.reader.ScriptReader.give.Goals as goal

pub returns-clause-bytes : goal.returns-clause-bytes
returns-clause-bytes c =
    let is : c.copy_from_slice.new.self ≡ take c.min-count.result (drop c.args.self.now.given c.args.self.now.bytes.items) = grind (arith, common_steps) in
    let len : length c.copy_from_slice.new.self ≡ c.min-count.result = grind (arith, common_steps) in
    left_before _ _ _ _ _ is len
