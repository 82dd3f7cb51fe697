use Rattle.cdx_leaf.proofs.Parts.{reads_text}
use Rattle.cdx_leaf.proofs.texts.TextFromXml.read_from.Goals as goal

pub returns : goal.returns
returns c = reads_text (λ t. t) c.args.opened.now.version c.args.opened.now.element.now c.args.opened.now.attributes.now c.args.reader.now c.read_simple_tag.new.reader c.read_simple_tag.result c.read_simple_tag.ensures
