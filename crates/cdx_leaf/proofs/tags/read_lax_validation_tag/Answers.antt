use Rattle.std.proofs.Common.{◌≡◌, subst, arith}
use Rattle.cdx_leaf.proofs.Skip.{Skips, skips_start, skips_up, skips_done, skips_other}
use Rattle.cdx_leaf.proofs.tags.read_lax_validation_tag.Goals as goal

pub loop-event-preserved-in-StartElement : goal.loop-event-preserved-in-StartElement
loop-event-preserved-in-StartElement c =
    let took = c.in-Some.ensures.takes in
    record {
      skips = λ nodes rest at. skips_start c.args.reader.now c.loop-event.reader c.next.new.self c.loop-event.depth c.in-Some.event.now _ _ _ rest c.in-StartElement.is took (c.loop-event.invariant.skips nodes rest at);
      shallow = omega (arith, took.1);
    }

pub returns-then-depth-eq0 : goal.returns-then-depth-eq0
returns-then-depth-eq0 c = λ nodes rest at.
    let e : c.loop-event.depth ≡ 0 = omega arith in
    skips_done c.args.reader.now c.loop-event.reader c.next.new.self c.in-Some.event.now c.args.element.now c.in-EndElement.name nodes rest c.in-EndElement.is c.in-Some.ensures.takes at
    (subst (λ d. Skips c.args.reader.now c.loop-event.reader d rest) e (c.loop-event.invariant.skips nodes rest at))

pub loop-event-preserved-in-EndElement : goal.loop-event-preserved-in-EndElement
loop-event-preserved-in-EndElement c =
    let took = c.in-Some.ensures.takes in
    record {
      skips = λ nodes rest at. skips_up c.args.reader.now c.loop-event.reader c.next.new.self c.loop-event.depth c.in-Some.event.now _ rest (λ z. absurd (omega arith)) c.in-EndElement.is took (c.loop-event.invariant.skips nodes rest at);
      shallow = omega (arith, took.1);
    }

pub loop-event-preserved : goal.loop-event-preserved
loop-event-preserved c =
    let took = c.in-Some.ensures.takes in
    record {
      skips = λ nodes rest at. skips_other c.args.reader.now c.loop-event.reader c.next.new.self c.loop-event.depth c.in-Some.event.now rest c.in_default-event.not-StartElement c.in_default-event.not-EndElement took (c.loop-event.invariant.skips nodes rest at);
      shallow = omega (arith, took.1);
    }
