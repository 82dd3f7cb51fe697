use Rattle.std.proofs.Common.{subst}
use Rattle.cdx_models.specs.Trees.{boolean}
use Rattle.cdx_leaf.specs.Reading.{Reads, behind_end}
use Rattle.cdx_leaf.specs.Tags.{boolean_in}
use Rattle.cdx_leaf.proofs.Parts.{boolean_kind_is}
use Rattle.cdx_leaf.proofs.texts.BoolFromXml.read_from.Goals as goal

pub returns : goal.returns
returns c = λ d ns p nodes rest st.
    let old = c.args.reader.now in
    let new = c.read_boolean_tag.new.reader in
    rw (boolean_kind_is c.args.opened.now.version c.args.opened.now.element.now c.args.opened.now.attributes.now ns d p nodes) (subst (λ q. Reads boolean old new (behind_end old nodes rest) (boolean_in nodes c.args.opened.now.element.now.local_name q) c.read_boolean_tag.result) st.place (c.read_boolean_tag.ensures nodes rest st.at))
