use Rattle.std.proofs.Common.{◌≡◌, ◌∙◌, All, List, [], ◌∷◌, ◌++◌, ap, arith, length, length-append, subst, sym}
use Rattle.std.specs.List.{AllZip}
use Rattle.std.specs.Vec.Iter.{into_iter_items}
use Rattle.duct_tasks.proofs.Common.{All-head, All-tail, append_assoc}
use Rattle.duct_tasks.proofs.Keeping.{zip_more}
use Rattle.duct_tasks.specs.Services.{CameTo, HasLeft}
use Rattle.duct_tasks.specs.declared.keeper.Kept.{Kept}
use Rattle.duct_tasks.specs.declared.service.Service.{Service}
use Rattle.duct_tasks.proofs.keeper.kept_of.Goals as goal

pub loop-init : goal.loop-init
loop-init g c =
    let same : into_iter_items c.into_iter-services.result ≡ c.args.services.items = search in
    record {
      came = (
        [],
        sym same,
        subst (λ (kept : List Kept). AllZip (CameTo {R = g.row.R.Denot}) [] kept) (sym c.requires.empty) tt,
      );
      have_left = subst (λ (all : List (Service _)). All HasLeft all) (sym same) c.requires.left;
      left = omega (arith, c.len-end.ensures, c.into_iter-services.ensures.len);
      many = search;
      room = omega (
        arith,
        c.requires.fits,
        ap (λ (all : List (Service _)). length all) same,
        ap (λ (kept : List Kept). length kept) c.requires.empty,
      );
    }

pub into_kept-requires : goal.into_kept-requires
into_kept-requires g c =
    All-head HasLeft c.in-Some.service (into_iter_items c.next.new.self)
    (subst (λ (all : List (Service _)). All HasLeft all) c.in-Some.ensures.items
    c.loop.invariant.have_left)

pub loop-preserved : goal.loop-preserved
loop-preserved g c =
    let i = c.loop.invariant in
    let service = c.in-Some.service in
    let rest = into_iter_items c.next.new.self in
    let items = c.in-Some.ensures.items in
    let fewer = ap (λ (all : List (Service _)). length all) items in
    record {
      came = (
        i.came.0 ++ service ∷ [],
        i.came.1 ∙ ap (λ (left : List (Service _)). i.came.0 ++ left) items
            ∙ sym (append_assoc i.came.0 (service ∷ []) rest),
        subst (λ (kept : List Kept). AllZip CameTo (i.came.0 ++ service ∷ []) kept)
            (sym c.push_reserved.ensures.items)
            (zip_more CameTo i.came.0 c.loop.room.items service c.into_kept.result i.came.2
            c.into_kept.ensures),
      );
      have_left = All-tail HasLeft service rest
          (subst (λ (all : List (Service _)). All HasLeft all) items i.have_left);
      left = omega (arith, i.left, c.in-Some.ensures.len);
      many = omega (arith, i.many, c.in-Some.ensures.len, fewer);
      room = omega (
        arith,
        i.room,
        fewer,
        c.push_reserved.ensures.capacity,
        ap (λ (kept : List Kept). length kept) c.push_reserved.ensures.items,
        length-append c.loop.room.items (c.into_kept.result ∷ []),
      );
    }
