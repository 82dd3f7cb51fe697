use Rattle.std.proofs.Common.{[], ◌++◌, refl, ◌∙◌, codes}
use Rattle.cdx_models.specs.Trees.{present, list_tree, entity, component, metadata}
use Rattle.cdx_models.specs.Records.{contact_tree, entity_tree}
use Rattle.cdx_license.specs.Records.{licenses_tree}
use Rattle.cdx_component.specs.Trees.{component_tree}
use Rattle.cdx_nest.specs.Trees.{tools_tree, metadata_tree}
use Rattle.cdx_schema.specs.Kinds.{a_list, a_record, a_tools, authors}
use Rattle.cdx_schema.specs.Table.{of}
use Rattle.cdx_losses.specs.Walks.{value_lost}
use Rattle.cdx_losses.proofs.Spared.{row_lost}
use Rattle.cdx_losses.proofs.Levels.{licenses_row, metadata_lost}
use Rattle.cdx_losses.proofs.Walks.{adds_same, adds_both, adds_end, adds_value}
use Rattle.cdx_losses.proofs.Values.{row_written, value_inside, tools_written}
use Rattle.cdx_losses.proofs.walking.MetadataLosing.lose.Goals as goal
use Rattle.cdx_component.proofs.Written.{component_counts}

pub returns : goal.returns
returns c =
    let r1 = row_lost c.args.road.version c.args.road.trips (of a_tools "tools") (present tools_tree c.args.self.now.tools) in
    let r2 = row_lost c.args.road.version c.args.road.trips (of (a_list authors) "authors") (present (list_tree contact_tree) c.args.self.now.authors) in
    let r3 = row_lost c.args.road.version c.args.road.trips (of (a_record component) "component") (present component_tree c.args.self.now.component) in
    let r4 = row_lost c.args.road.version c.args.road.trips (of (a_record entity) "manufacture") (present entity_tree c.args.self.now.manufacture) in
    let r5 = row_lost c.args.road.version c.args.road.trips (of (a_record entity) "supplier") (present entity_tree c.args.self.now.supplier) in
    let r6 = row_lost c.args.road.version c.args.road.trips licenses_row (present licenses_tree c.args.self.now.licenses) in
    let a = c.args.walk.now in
    let w1 = c.lose_row.new.walk in
    let w2 = c.lose_row-2.new.walk in
    let w3 = c.lose_row-3.new.walk in
    let w4 = c.lose_row-4.new.walk in
    let w5 = c.lose_row-5.new.walk in
    let w6 = c.lose_row-6.new.walk in
    adds_same (r1 ++ (r2 ++ (r3 ++ (r4 ++ (r5 ++ (r6 ++ [])))))) (value_lost c.args.road (metadata_tree c.args.self.now) (a_record metadata)) a w6 (value_inside c.args.road (metadata_tree c.args.self.now) (a_record metadata) refl refl ∙ metadata_lost c.args.road.version c.args.road.trips c.args.self.now)
    (adds_both r1 (r2 ++ (r3 ++ (r4 ++ (r5 ++ (r6 ++ []))))) a w1 w6 (adds_value c.args.road (of a_tools "tools") (codes "tools") (present tools_tree c.args.self.now.tools) a w1 refl (row_written tools_tree tools_written c.args.self.now.tools) refl c.in_ok-lose_row.ensures)
    (adds_both r2 (r3 ++ (r4 ++ (r5 ++ (r6 ++ [])))) w1 w2 w6 (adds_value c.args.road (of (a_list authors) "authors") (codes "authors") (present (list_tree contact_tree) c.args.self.now.authors) w1 w2 refl (row_written (list_tree contact_tree) (λ y. refl) c.args.self.now.authors) refl c.in_ok-lose_row-2.ensures)
    (adds_both r3 (r4 ++ (r5 ++ (r6 ++ []))) w2 w3 w6 (adds_value c.args.road (of (a_record component) "component") (codes "component") (present component_tree c.args.self.now.component) w2 w3 refl (row_written component_tree component_counts c.args.self.now.component) refl c.in_ok-lose_row-3.ensures)
    (adds_both r4 (r5 ++ (r6 ++ [])) w3 w4 w6 (adds_value c.args.road (of (a_record entity) "manufacture") (codes "manufacture") (present entity_tree c.args.self.now.manufacture) w3 w4 refl (row_written entity_tree (λ y. refl) c.args.self.now.manufacture) refl c.in_ok-lose_row-4.ensures)
    (adds_both r5 (r6 ++ []) w4 w5 w6 (adds_value c.args.road (of (a_record entity) "supplier") (codes "supplier") (present entity_tree c.args.self.now.supplier) w4 w5 refl (row_written entity_tree (λ y. refl) c.args.self.now.supplier) refl c.in_ok-lose_row-5.ensures)
    (adds_end r6 w5 w6 (adds_value c.args.road licenses_row (codes "licenses") (present licenses_tree c.args.self.now.licenses) w5 w6 refl (row_written licenses_tree (λ y. refl) c.args.self.now.licenses) refl c.in_ok-lose_row-6.ensures)))))))
