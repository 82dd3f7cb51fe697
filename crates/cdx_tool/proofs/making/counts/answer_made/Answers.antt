use Rattle.std.proofs.Common.{List, refl, sym, subst}
use Rattle.serde_json.specs.View.{view}
use Rattle.cdx_bom.specs.declared.doc.Doc.{Doc}
use Rattle.cdx_bom.specs.Docs.{AreDocs}
use Rattle.cdx_request.specs.Made.{made_bill, made_doc}
use Rattle.cdx_tool.proofs.MadeRoads.{spelled, the_docs, value_clear, not_refused}
use Rattle.cdx_tool.proofs.making.counts.answer_made.Goals as goal

pub returns-in-Ok : goal.returns-in-Ok
returns-in-Ok c =
    let n = c.args.count in
    let m = c.made_law.ensures n in
    let is = spelled n (view c.in_ok-made_value.field-0) (made_bill n) c.in_ok-made_value.ensures refl in
    let r = c.in-Ok.ensures (made_doc n) is in
    let are = subst (λ (ds : List Doc). AreDocs ds r.0) (sym c.as_slice.ensures) r.2 in
    c.answer_counts.ensures m (the_docs n m c.as_slice.result.now r.0 r.1 are) (value_clear n m c.no_floats.ensures.documents)

pub unreachable-requires : goal.unreachable-requires
unreachable-requires c =
    let n = c.args.count in
    let is = spelled n (view c.in_ok-made_value.field-0) (made_bill n) c.in_ok-made_value.ensures refl in
    not_refused n (c.made_law.ensures n) c.in-Err.error c.in_default.not-Memory (c.in-Err.ensures (made_doc n) is)
