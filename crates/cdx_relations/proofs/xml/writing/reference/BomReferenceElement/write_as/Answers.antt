use Rattle.cdx_relations.proofs.xml.writing.reference.BomReferenceElement.write_as.Goals as goal

pub returns : goal.returns
returns c = c.write_reference.ensures c.args.target.version
