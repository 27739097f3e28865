use Rattle.std.proofs.Common.{ℕ, ap, Global, Vec}
use Rattle.duct_replay.proofs.Noting.{by_reader}
use Rattle.duct_replay.proofs.recorded.note_all.Goals as goal

pub note_output-requires : goal.note_output-requires
note_output-requires g c =
    let given = c.requires (c.in-Some.note, c.in-Some.bytes) c.in-Some.is in
    by_reader _ _ _ _ _ _ (ap (λ (bytes : Vec ℕ Global). bytes.items) c.in-Ok.ensures.ok) given
