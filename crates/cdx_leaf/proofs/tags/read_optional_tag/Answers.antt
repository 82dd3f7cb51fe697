use Rattle.std.proofs.Common.{Ok, [], sym, ap, ◌∙◌}
use Rattle.cdx_events.specs.Nodes.{characters, cdata}
use Rattle.cdx_leaf.proofs.Steps.{at_text, at_cdata}
use Rattle.cdx_leaf.proofs.Simple.{simple_text, simple_cdata, optional_end, optional_ok, closing_with}
use Rattle.cdx_leaf.proofs.tags.read_optional_tag.Goals as goal

pub closing_tag_or_error-requires : goal.closing_tag_or_error-requires
closing_tag_or_error-requires c =
    let r = c.requires in
    let s = simple_text (Ok []) c.args.reader.now c.next.new.self c.in-Some-Characters.field-0.now c.args.element.now c.in-Some-Characters.text r.nodes r.rest c.in-Some-Characters.field-0-is c.in-Some-Characters.ensures.takes r.at in
    record { nodes = s.0; rest = r.rest; at = s.1 }

pub closing_tag_or_error-requires-in-Some-CData : goal.closing_tag_or_error-requires-in-Some-CData
closing_tag_or_error-requires-in-Some-CData c =
    let r = c.requires in
    let s = simple_cdata (Ok []) c.args.reader.now c.next.new.self c.in-Some-CData.field-0.now c.args.element.now c.in-Some-CData.text r.nodes r.rest c.in-Some-CData.field-0-is c.in-Some-CData.ensures.takes r.at in
    record { nodes = s.0; rest = r.rest; at = s.1 }

pub returns-in-Some-EndElement : goal.returns-in-Some-EndElement
returns-in-Some-EndElement c = λ nodes rest at.
    optional_end c.args.reader.now c.next.new.self c.in-Some-EndElement.field-0.now c.args.element.now c.in-Some-EndElement.field-0-0 nodes rest c.in-Some-EndElement.field-0-is c.in-Some-EndElement.ensures.takes at

pub returns-in_ok-copy-in-Some-Characters : goal.returns-in_ok-copy-in-Some-Characters
returns-in_ok-copy-in-Some-Characters c = λ nodes rest at.
    let el = c.args.element.now.local_name in
    let old = c.args.reader.now in
    let f = at_text old c.next.new.self c.in-Some-Characters.field-0.now c.args.element.now c.in-Some-Characters.text nodes rest c.in-Some-Characters.field-0-is at c.in-Some-Characters.ensures.takes in
    let s = simple_text (Ok []) old c.next.new.self c.in-Some-Characters.field-0.now c.args.element.now c.in-Some-Characters.text nodes rest c.in-Some-Characters.field-0-is c.in-Some-Characters.ensures.takes at in
    let closed = c.in_ok-closing_tag_or_error-in-Some-Characters.ensures s.0 rest s.1 in
    (optional_ok (characters c.in-Some-Characters.text) nodes f.others el _ old.place f.nodes_are (s.2 ∙ closing_with el _ c.in-Some-Characters.text c.next.new.self.place s.0 closed.0 ∙ ap (λ t. Ok t) (sym c.in_ok-copy-in-Some-Characters.ensures)), closed.1 ∙ s.3)

pub returns-in_ok-copy-in-Some-CData : goal.returns-in_ok-copy-in-Some-CData
returns-in_ok-copy-in-Some-CData c = λ nodes rest at.
    let el = c.args.element.now.local_name in
    let old = c.args.reader.now in
    let f = at_cdata old c.next.new.self c.in-Some-CData.field-0.now c.args.element.now c.in-Some-CData.text nodes rest c.in-Some-CData.field-0-is at c.in-Some-CData.ensures.takes in
    let s = simple_cdata (Ok []) old c.next.new.self c.in-Some-CData.field-0.now c.args.element.now c.in-Some-CData.text nodes rest c.in-Some-CData.field-0-is c.in-Some-CData.ensures.takes at in
    let closed = c.in_ok-closing_tag_or_error-in-Some-CData.ensures s.0 rest s.1 in
    (optional_ok (cdata c.in-Some-CData.text) nodes f.others el _ old.place f.nodes_are (s.2 ∙ closing_with el _ c.in-Some-CData.text c.next.new.self.place s.0 closed.0 ∙ ap (λ t. Ok t) (sym c.in_ok-copy-in-Some-CData.ensures)), closed.1 ∙ s.3)
