use Rattle.std.proofs.Common.{Err, subst}
use Rattle.std.proofs.lemmas.Result.{err_from_is_err_and}
use Rattle.cdx_schema.specs.Depth.{Depth}
use Rattle.cdx_schema.specs.Kinds.{a_tools}
use Rattle.cdx_leaf.specs.Reading.{ReadsAs}
use Rattle.cdx_nest.specs.Frames.{value_tree}
use Rattle.cdx_nest.proofs.xml.reading.ToolsFromXml.read_from.Goals as goal

pub returns-in_err-tools : goal.returns-in_err-tools
returns-in_err-tools c = λ d ns p nodes rest st.
    let q = err_from_is_err_and c.from_residual.result c.from_residual.ensures.1 in
    rw (q.1, q.2) (subst (λ (e : Depth). ReadsAs value_tree c.args.reader.now c.read_element.new.reader c.args.opened.now.element.now c.args.opened.now.attributes.now c.args.opened.now.version a_tools (λ _. e) (Err c.in_err-tools.field-0.0)) c.top-depth.ensures c.in_err-tools.ensures.reads d ns p nodes rest st)

pub returns : goal.returns
returns c = λ d ns p nodes rest st. rw c.in-Tools.is at (rw c.top-depth.ensures at (c.in_ok-tools.ensures.reads d ns p nodes rest st))
