-- A read without a token, and what has ended where it is at EOF.
use Rattle.std.proofs.Common.{arith, inl, inr, ℕ, ◌≡◌, ◌<◌, Ok, Err, Result}
use Rattle.duct_handle.proofs.Common.{Error, shape_view, SystemViews, IsAnswer, Polled, Bytes, HandleView, SeenView}
use Rattle.duct_handle.specs.Reads.{HasOutput, ReadsAs, ReadsOnce}

-- what a read with a token returns, without what its token knows
pub reads_once : {S E C F D : Type 0} (views : SystemViews S E C F D (Unit {0}) Bytes)
    (handle : HandleView) (room : ℕ) (before after : SeenView) (result : Result ℕ Error)
    → ReadsAs views handle room before after result
    → ReadsOnce (IsAnswer views (shape_view handle.shape) handle.numbers) room result
reads_once views handle room before after result (inl r) = inl (r.0, r.1, r.2)
reads_once views handle room before after result (inr (inl r)) = inr (inl (r.0, r.1, r.2))
reads_once views handle room before after result (inr (inr r)) =
    inr (inr (r.0, r.1, r.2.told, r.3))

-- a read that is at EOF has waited for an output
pub closes_once : (may_return : Polled → Type 0) (room : ℕ) (result : Result ℕ Error)
    → ReadsOnce may_return room result → result ≡ Ok 0 → 0 < room → HasOutput may_return
closes_once may_return room result (inl (count, is, inl some)) nothing asked =
    let none : count ≡ 0 = cc in absurd (omega arith)
closes_once may_return room result (inl (count, is, inr none)) nothing asked =
    absurd (omega arith)
closes_once may_return room result (inr (inl r)) nothing asked = absurd (cc)
closes_once may_return room result (inr (inr (Ok output, some, told, is))) nothing asked =
    (output, told)
closes_once may_return room result (inr (inr (Err e, some, told, is))) nothing asked = absurd (cc)
