use Rattle.std.proofs.Common.{Ok, []}
use Rattle.cdx_leaf.proofs.Simple.{simple_text, simple_cdata}
use Rattle.cdx_leaf.proofs.tags.read_u32_tag.Goals as goal

pub number_after-requires-clause-at : goal.number_after-requires-clause-at
number_after-requires-clause-at c =
    let r = c.requires in
    let s = simple_text (Ok []) c.args.reader.now c.next.new.self c.in-Some-Characters.field-0.now c.args.element.now c.in-Some-Characters.text r.nodes r.rest c.in-Some-Characters.field-0-is c.in-Some-Characters.ensures.takes r.at in
    record { nodes = s.0; rest = r.rest; at = s.1 }

pub number_after-requires-in-Some-CData-clause-at : goal.number_after-requires-in-Some-CData-clause-at
number_after-requires-in-Some-CData-clause-at c =
    let r = c.requires in
    let s = simple_cdata (Ok []) c.args.reader.now c.next.new.self c.in-Some-CData.field-0.now c.args.element.now c.in-Some-CData.text r.nodes r.rest c.in-Some-CData.field-0-is c.in-Some-CData.ensures.takes r.at in
    record { nodes = s.0; rest = r.rest; at = s.1 }
