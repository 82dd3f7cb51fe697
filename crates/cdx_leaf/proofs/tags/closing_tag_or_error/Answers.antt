use Rattle.cdx_leaf.proofs.Simple.{closing_end}
use Rattle.cdx_leaf.proofs.tags.closing_tag_or_error.Goals as goal

pub returns-in-Some-EndElement : goal.returns-in-Some-EndElement
returns-in-Some-EndElement c = λ nodes rest at.
    closing_end c.args.reader.now c.next.new.self c.in-Some-EndElement.field-0.now c.args.element.now c.in-Some-EndElement.field-0-0 _ nodes rest c.in-Some-EndElement.field-0-is c.in-Some-EndElement.ensures.takes at
