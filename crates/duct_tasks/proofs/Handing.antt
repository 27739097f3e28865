-- What both streams gave, once no more is read.
use Rattle.std.proofs.Common.{◌≡◌, ◌∙◌, Bool, false, List, [], Err, IsErr, IsOk, Ok, Option, Result, ap, arith, length, refl, subst, sym, ℕ}
use Rattle.std.specs.Borrow.{Bor}
use Rattle.std.specs.Fn.{Mut}
use Rattle.std.specs.declared.io.Error.{Error}
use Rattle.duct_system.specs.declared.system.Side.{Side}
use Rattle.duct_tasks.proofs.Lining.{none_told}
use Rattle.duct_tasks.specs.Streams.{FailedBy, GivesLines, Handed, Hands, HandsUnless, ReadsBoth}
use Rattle.duct_tasks.specs.declared.lines.BothLines.{BothLines}
use Rattle.duct_tasks.specs.declared.lines.LinesError.{LinesError}

module _ {R F : Type 0} (remaining : R → Option (List ℕ))
    (calls : Mut F (Side × (Bor (List ℕ) × Unit {0})) (Result (Unit {0}) Error)) where
  -- the bytes of both are those of their readers, and their lines were handed on
  pub gives_lines : (both : BothLines R) (f f' : F) (over : Bool) (out err : R)
      (stdout stderr : List ℕ)
      → ReadsBoth remaining both → Handed calls both f f' → both.over ≡ Ok over
      → both.out.first.value ≡ out → both.err.first.value ≡ err
      → stdout ≡ both.out.bytes.items → stderr ≡ both.err.bytes.items
      → GivesLines remaining (Hands calls (Ok tt)) over f f' out err stdout stderr
  gives_lines both f f' over out err stdout stderr reads handed is out_is err_is is_out is_err =
      rw (← out_is, ← err_is, is_out, is_err) (record {
        out_left = both.out.stream.left.value;
        err_left = both.err.stream.left.value;
        told = both.out.told;
        told_err = both.err.told;
        output = reads.output.gave;
        error = reads.error.gave;
        handed = subst (λ (o : _). HandsUnless (Hands calls) o f f' both.out.bytes.items
            both.out.told both.err.bytes.items both.err.told) is handed;
        ends = λ yes. let ends = reads.ends (is ∙ ap Ok yes) in
            (reads.output.ended ends.0, reads.error.ended ends.1);
      })

  -- nothing was handed on before the first read
  pub handed_none : (both : BothLines R) (f : F) → ReadsBoth remaining both → both.over ≡ Ok false
      → both.out.bytes.items ≡ [] → both.err.bytes.items ≡ [] → Handed calls both f f
  handed_none both f reads is no_out no_err =
      let told : both.out.told ≡ 0 = omega (arith, reads.output.fits, ap length no_out) in
      let told_err : both.err.told ≡ 0 = omega (arith, reads.error.fits, ap length no_err) in
      subst (λ (o : _). HandsUnless (Hands calls) o f f both.out.bytes.items both.out.told
      both.err.bytes.items both.err.told) (sym is)
      (none_told (Hands calls (Ok tt)) f both.out.bytes.items both.err.bytes.items
      both.out.told both.err.told no_out no_err told told_err)

  -- where no more is read because of the closure's error, its last call returned that
  pub failed_by : (both : BothLines R) (f f' : F) (e : LinesError) → Handed calls both f f'
      → both.over ≡ Err e → FailedBy (Hands calls) e f'
  failed_by both f f' e handed is =
      subst (λ (o : _). HandsUnless (Hands calls) o f f' both.out.bytes.items both.out.told
      both.err.bytes.items both.err.told) is handed

-- what has not failed had not failed before
pub ok_before : {T E : Type 0} (before after : Result T E) → (IsErr before → IsErr after)
    → (value : T) → after ≡ Ok value → IsOk before
ok_before (Ok first) after failed value is = refl
ok_before (Err e) (Ok first) failed value is = absurd (let h = failed refl in cc)
ok_before (Err e) (Err f) failed value is = absurd (cc)
