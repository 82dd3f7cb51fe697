use Rattle.std.proofs.Common.{◌+◌, sym}
use Rattle.std.proofs.lemmas.Result.{err_from_is_err_and}
use Rattle.cdx_models.specs.Trees.{boolean}
use Rattle.cdx_schema.specs.Kinds.{a_boolean}
use Rattle.cdx_schema.specs.Nodes.{places_of}
use Rattle.cdx_schema.specs.XmlReading.{simple_text}
use Rattle.cdx_leaf.specs.Numbers.{value_read}
use Rattle.cdx_leaf.proofs.Parts.{told_at_end}
use Rattle.cdx_leaf.proofs.Records.{first_fails}
use Rattle.cdx_leaf.proofs.tags.read_boolean_tag.Goals as goal

pub returns-in_err-text : goal.returns-in_err-text
returns-in_err-text c = λ nodes rest at.
    let q = err_from_is_err_and c.from_residual.result c.from_residual.ensures.1 in
    let e = c.in_err-text.field-0.0 in
    let el = c.args.element.now.local_name in
    let old = c.args.reader.now in
    let read = c.in_err-text.ensures nodes rest at in
    rw (q.1, q.2) (read.0, first_fails e c.read_simple_tag.new.reader.place (simple_text nodes el old.place) (λ s. value_read a_boolean (old.place + places_of nodes) el s) read.1)

pub returns : goal.returns
returns c = λ nodes rest at.
    let el = c.args.element.now.local_name in
    let old = c.args.reader.now in
    let s = c.in_ok-text.text in
    let read = c.in_ok-text.ensures nodes rest at in
    rw read.0 (told_at_end boolean old c.read_simple_tag.new.reader c.place.result nodes rest (λ q. value_read a_boolean q el s) c.from_xml_value.result read.1 (sym c.place.ensures) (rw (sym c.as_str.ensures, sym c.as_str-2.ensures) c.from_xml_value.ensures))
