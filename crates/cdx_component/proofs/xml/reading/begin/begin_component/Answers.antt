use Rattle.std.proofs.lemmas.Result.{err_from_is_err_and}
use Rattle.cdx_component.specs.PartTrees.{origin_trees}
use Rattle.cdx_component.proofs.Begun.{component_begins, component_begins_not}
use Rattle.cdx_component.proofs.xml.reading.begin.begin_component.Goals as goal

pub returns-in_err-origin : goal.returns-in_err-origin
returns-in_err-origin c = λ v.
    let q = err_from_is_err_and c.from_residual.result c.from_residual.ensures.1 in
    rw (q.1, q.2) (component_begins_not c.args.opened.now.attributes.now v c.args.opened.now.element.now.local_name c.args.opened.now.place c.in_err-origin.field-0.0 _ (c.in_err-origin.ensures v))

pub returns : goal.returns
returns c = λ v. component_begins c.args.opened.now.attributes.now v c.args.opened.now.element.now.local_name c.args.opened.now.place (origin_trees c.in_ok-origin.origin) (c.in_ok-origin.ensures v)
