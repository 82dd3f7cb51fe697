use Rattle.std.proofs.Common.{Ok, refl, sym, ap, ◌∙◌}
use Rattle.std.proofs.lemmas.Result.{err_from_is_err_and}
use Rattle.cdx_events.specs.Nodes.{element}
use Rattle.cdx_models.specs.Trees.{text}
use Rattle.cdx_schema.specs.Kinds.{a_reference}
use Rattle.cdx_schema.specs.Results.{◌>>=◌}
use Rattle.cdx_schema.specs.XmlReading.{appended, xread}
use Rattle.cdx_leaf.specs.Trees.{collected}
use Rattle.cdx_leaf.proofs.Records.{first_fails}
use Rattle.cdx_leaf.proofs.ChildSteps.{collected_more}
use Rattle.cdx_relations.proofs.xml.reading.dependency.take_reference.Goals as goal

pub returns-in_err-reference : goal.returns-in_err-reference
returns-in_err-reference c = λ d ns p nodes rest st.
    let q = err_from_is_err_and c.from_residual.result c.from_residual.ensures.1 in
    let read = c.in_err-reference.ensures d ns p nodes rest st in
    let before = collected text c.args.field.now in
    rw (q.1, q.2) (read.0, first_fails c.in_err-reference.field-0.0 c.read_from.new.reader.place (xread (element c.args.opened.now.element.now c.args.opened.now.attributes.now ns nodes) c.args.opened.now.version a_reference p d) (λ t. Ok (appended before t)) read.1)

pub returns : goal.returns
returns c = λ d ns p nodes rest st.
    let x = c.in_ok-reference.reference in
    let read = c.in_ok-reference.ensures d ns p nodes rest st in
    let before = collected text c.args.field.now in
    (refl, ap (λ r. r >>= λ t. Ok (appended before t)) read.0 ∙ ap (λ t. Ok t) (collected_more text c.args.field.now x.0 ∙ ap (λ o. collected text o) (sym c.in_ok-push.ensures.ok)), read.1)
