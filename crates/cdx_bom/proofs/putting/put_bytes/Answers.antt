use Rattle.std.proofs.Common.{◌∙◌, arith}
use Rattle.std.proofs.lemmas.List.{length-drop, take_rest}
use Rattle.cdx_bom.proofs.Fronts.{goes_on}
use Rattle.cdx_bom.proofs.putting.put_bytes.Goals as goal

pub loop-at-preserved : goal.loop-at-preserved
loop-at-preserved g c =
    let bytes = c.args.bytes.now in
    let i = c.loop-at.invariant in
    let bound = rw (take_rest bytes c.loop-at.at, length-drop c.loop-at.at bytes) at c.in-Ok.ensures.bound in
    let step = rw (take_rest bytes c.loop-at.at) at c.in-Ok.ensures.bytes in
    record {
      within = omega (arith, bound, i.within);
      put = goes_on _ _ _ bytes c.loop-at.at c.in-Ok.count i.within i.put step;
      sound = c.in-Ok.ensures.cause.ok ∙ i.sound;
    }
