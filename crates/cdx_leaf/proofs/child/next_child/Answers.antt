use Rattle.std.proofs.Common.{sym, ◌∙◌}
use Rattle.cdx_leaf.proofs.NextChild.{texts_end, texts_start, texts_refused, texts_pass}
use Rattle.cdx_leaf.proofs.child.next_child.Goals as goal

pub returns-in-EndElement-clause-meets : goal.returns-in-EndElement-clause-meets
returns-in-EndElement-clause-meets c = λ nodes rest at.
    texts_end c.args.rule c.args.reader.now c.args.opened.now.element.now nodes rest c.texts.reader c.next.new.self c.in-Some.event.now c.in-EndElement.name c.in-EndElement.is c.in-Some.ensures.takes (c.texts.invariant nodes rest at)

pub returns-in-StartElement-clause-meets : goal.returns-in-StartElement-clause-meets
returns-in-StartElement-clause-meets c = λ nodes rest at.
    texts_start c.args.rule c.args.reader.now c.args.opened.now.element.now nodes rest c.texts.reader c.next.new.self c.in-Some.event.now _ c.in-StartElement.namespace c.in-StartElement.is c.place-place.ensures c.in-Some.ensures.takes (c.texts.invariant nodes rest at)

pub returns-then-not-passes-clause-meets : goal.returns-then-not-passes-clause-meets
returns-then-not-passes-clause-meets c = λ nodes rest at.
    texts_refused c.args.rule c.args.reader.now c.args.opened.now.element.now nodes rest c.texts.reader c.next.new.self c.in-Some.event.now c.place-place.result c.refuse.result (sym c.passes.ensures ∙ c.if-not-passes.true) c.in_default-event.not-StartElement c.in_default-event.not-EndElement c.place-place.ensures c.refuse.ensures c.in-Some.ensures.takes (c.texts.invariant nodes rest at)

pub texts-preserved : goal.texts-preserved
texts-preserved c = λ nodes rest at.
    texts_pass c.args.rule c.args.reader.now c.args.opened.now.element.now nodes rest c.texts.reader c.next.new.self c.in-Some.event.now (sym c.passes.ensures ∙ c.if-not-passes.false) c.in_default-event.not-StartElement c.in_default-event.not-EndElement c.in-Some.ensures.takes (c.texts.invariant nodes rest at)
