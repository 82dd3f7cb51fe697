use Rattle.cdx_schema.specs.Table.{rows}
use Rattle.cdx_write.specs.WrittenRows.{attributes_written}
use Rattle.cdx_write.proofs.Appended.{after_both, all_added, last_added}
use Rattle.cdx_service_data.proofs.xml.writing.ServiceDataWrittenRecord.attributes.Goals as goal

pub returns : goal.returns
unfolding attributes_written rows
returns c =
    all_added c.new-attributes.result c.put_attribute-2.new.attributes _ c.new-attributes.ensures
    (after_both c.new-attributes.result c.put_attribute.new.attributes c.put_attribute-2.new.attributes _ _ c.in_ok-put_attribute.ensures
    (last_added c.put_attribute.new.attributes c.put_attribute-2.new.attributes _ c.in_ok-put_attribute-2.ensures))
