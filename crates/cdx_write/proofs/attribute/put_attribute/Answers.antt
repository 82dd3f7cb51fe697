use Rattle.cdx_write.proofs.RowWords.{no_attribute_added, attribute_none}
use Rattle.cdx_write.proofs.attribute.put_attribute.Goals as goal

pub returns-in-None : goal.returns-in-None
returns-in-None g c = rw c.in-None.is (no_attribute_added c.args.attributes.now _ (attribute_none c.args.name.now g.T.Kinded.kind c.args.target.version))
