-- What is kept after each result of a read.
use Rattle.std.proofs.Common.{List, ℕ, rules}
use Rattle.duct_replay.specs.RecordingView.{HasGiven}
use Rattle.duct_replay.proofs.Noting.{at_end, given_all, given_more, given_same, keeps_more}
use Rattle.duct_replay.proofs.recorded.read_kept.Goals as goal

pub note_all-requires : goal.note_all-requires
note_all-requires g c kept is =
    let end = at_end _ _ _ _ _ c.in-Ok.is c.if-count-eq0.true (search rules) c.read.ensures.bytes in
    given_all _ _ _ _ _ _ end.0 end.1 (c.requires kept is)

pub returns-else-count-eq0-clause-given : goal.returns-else-count-eq0-clause-given
returns-else-count-eq0-clause-given g c kept is =
    let before = λ (bytes : List ℕ). ∥ HasGiven g.S.System.may_read g.S.Reader.Read.remaining c.args.number bytes c.args.inner.now ∥₁ in
    let after = λ (bytes : List ℕ). ∥ HasGiven g.S.System.may_read g.S.Reader.Read.remaining c.args.number bytes c.read.new.self ∥₁ in
    keeps_more _ _ kept _ before after c.more_kept.ensures is c.requires (λ bytes given. given_more _ _ _ _ _ _ _ c.in-Ok.ensures.bytes.0 given)

pub returns-in-Err-clause-given : goal.returns-in-Err-clause-given
returns-in-Err-clause-given g c kept is =
    given_same _ _ _ _ _ _ c.in-Err.ensures.bytes (c.requires kept is)
