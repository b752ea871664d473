use Rattle.std.proofs.Common.{◌<◌, ◌∷◌, [], sym, ap, subst, length, length-append, arith, rules}
use Rattle.catalogue_loading.proofs.Listed.{AreReadSoFar, one_read, none_more}
use Rattle.catalogue_loading.proofs.record_parts.parts_at.Goals as goal

pub returns-in-Err : goal.returns-in-Err
returns-in-Err g c =
    let few : length c.loop.items < c.args.count = search rules in
    none_more g.P.RecordPart.IsValid g.P.RecordPart.spell c.args.count c.args.bytes.now c.loop.items c.loop.rest.now c.in-Err.fault few c.loop.invariant.read c.in-Err.ensures

pub loop-preserved : goal.loop-preserved
loop-preserved g c =
    let few : length c.loop.items < c.args.count = search rules in
    let more = c.in_ok-push-in-Ok.ensures.ok in
    record {
      counted = omega (arith, ap length more, length-append c.loop.items (c.in-Ok.item ∷ []), c.loop.invariant.counted);
      read =
          subst (λ items. AreReadSoFar g.P.RecordPart.IsValid g.P.RecordPart.spell c.args.count c.args.bytes.now items c.in-Ok.after.now) (sym more)
          (one_read g.P.RecordPart.IsValid g.P.RecordPart.spell c.args.count c.args.bytes.now c.loop.items c.in-Ok.item c.loop.rest.now c.in-Ok.after.now few c.loop.invariant.read c.in-Ok.ensures.0 c.in-Ok.ensures.1);
    }
