use Rattle.std.proofs.Common.{◌+◌, Ok, sym, ap, ◌∙◌}
use Rattle.cdx_models.specs.Trees.{component, fields, Trees, ◌⧺◌}
use Rattle.cdx_schema.specs.Results.{◌>>=◌}
use Rattle.cdx_schema.specs.Table.{rows}
use Rattle.cdx_schema.specs.XmlReading.{ended}
use Rattle.cdx_leaf.proofs.Records.{first_fails}
use Rattle.cdx_component.specs.PartTrees.{origin_trees, marks_trees, contents_trees}
use Rattle.cdx_component.specs.ReadingParts.{component_part}
use Rattle.cdx_component.proofs.Begun.{component_ends, component_lacks}
use Rattle.cdx_component.proofs.xml.reading.finish.finish_component.Goals as goal

pub returns-in-Err : goal.returns-in-Err
returns-in-Err c =
    first_fails c.in-Err.error (c.args.closed.now.place + 1) (ended (rows component) (component_part c.args.part) c.args.closed.now.version c.args.closed.now.element.now.local_name c.args.closed.now.place) (λ us. Ok (fields component us))
    (component_lacks c.args.part c.args.closed.now.version c.args.closed.now.element.now.local_name c.args.closed.now.place c.in-Err.error (c.args.closed.now.place + 1) c.in-Err.ensures)

pub returns-in-Ok : goal.returns-in-Ok
returns-in-Ok c =
    let rest = λ (ns : Trees). origin_trees c.args.part.origin ⧺ (ns ⧺ (marks_trees c.args.part.marks ⧺ contents_trees c.args.part.contents)) in
    ap (λ r. r >>= λ us. Ok (fields component us)) (component_ends c.args.part c.args.closed.now.version c.args.closed.now.element.now.local_name c.args.closed.now.place ∙ ap (λ r. r >>= λ ns. Ok (rest ns)) c.in-Ok.ensures)
    ∙ ap (λ t. Ok t) (sym c.assemble.ensures)
