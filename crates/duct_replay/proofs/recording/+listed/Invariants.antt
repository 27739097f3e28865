use Rattle.std.proofs.Common.{length}
use Rattle.duct_replay.proofs.recording.+listed.Given as goal

abbrev pub decreases-listed : goal.decreases-listed
decreases-listed g l = length l.pairs.now
