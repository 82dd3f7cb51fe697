use Rattle.std.proofs.Common.{[], ◌++◌, refl, codes}
use Rattle.cdx_models.specs.Trees.{present, metadata}
use Rattle.cdx_models.specs.Records.{properties_tree}
use Rattle.cdx_signature.specs.Records.{signature_tree, signature_there}
use Rattle.cdx_relations.specs.Records.{compositions_tree}
use Rattle.cdx_component.specs.Trees.{components_tree}
use Rattle.cdx_service.specs.Trees.{services_tree}
use Rattle.cdx_nest.specs.Trees.{metadata_tree}
use Rattle.cdx_bom.specs.Trees.{bom_tree}
use Rattle.cdx_schema.specs.Kinds.{a_list, a_record, a_bill, compositions, components, services}
use Rattle.cdx_schema.specs.Table.{of, signature_row}
use Rattle.cdx_losses.specs.Losses.{lost}
use Rattle.cdx_losses.proofs.Spared.{row_lost}
use Rattle.cdx_losses.proofs.Levels.{properties_spared, signature_spared, properties_row, bill_lost}
use Rattle.cdx_losses.proofs.Walks.{adds_same, adds_both, adds_end, adds_unknown, adds_value}
use Rattle.cdx_losses.proofs.Values.{row_written, components_written, services_written}
use Rattle.cdx_losses.proofs.walking.lose_bill.Goals as goal

pub returns : goal.returns
returns c =
    let r1 = row_lost c.args.road.version c.args.road.trips (of (a_record metadata) "metadata") (present metadata_tree c.args.bill.now.metadata) in
    let r2 = row_lost c.args.road.version c.args.road.trips (of (a_list components) "components") (present components_tree c.args.bill.now.components) in
    let r3 = row_lost c.args.road.version c.args.road.trips (of (a_list services) "services") (present services_tree c.args.bill.now.services) in
    let r4 = row_lost c.args.road.version c.args.road.trips (of (a_list compositions) "compositions") (present compositions_tree c.args.bill.now.compositions) in
    let r5 = row_lost c.args.road.version c.args.road.trips properties_row (present properties_tree c.args.bill.now.properties) in
    let r6 = row_lost c.args.road.version c.args.road.trips signature_row (present signature_tree c.args.bill.now.signature) in
    let a = c.args.walk.now in
    let w1 = c.lose_row.new.walk in
    let w2 = c.lose_row-2.new.walk in
    let w3 = c.lose_row-3.new.walk in
    let w4 = c.lose_row-4.new.walk in
    let w5 = c.record_member.new.self in
    let w6 = c.record_member-2.new.self in
    adds_same (r1 ++ (r2 ++ (r3 ++ (r4 ++ (r5 ++ (r6 ++ [])))))) (lost c.args.road.version c.args.road.trips (bom_tree c.args.bill.now) a_bill) a w6 (bill_lost c.args.road.version c.args.road.trips c.args.bill.now)
    (adds_both r1 (r2 ++ (r3 ++ (r4 ++ (r5 ++ (r6 ++ []))))) a w1 w6 (adds_value c.args.road (of (a_record metadata) "metadata") (codes "metadata") (present metadata_tree c.args.bill.now.metadata) a w1 refl (row_written metadata_tree (λ y. refl) c.args.bill.now.metadata) refl c.in_ok-lose_row.ensures)
    (adds_both r2 (r3 ++ (r4 ++ (r5 ++ (r6 ++ [])))) w1 w2 w6 (adds_value c.args.road (of (a_list components) "components") (codes "components") (present components_tree c.args.bill.now.components) w1 w2 refl (row_written components_tree components_written c.args.bill.now.components) refl c.in_ok-lose_row-2.ensures)
    (adds_both r3 (r4 ++ (r5 ++ (r6 ++ []))) w2 w3 w6 (adds_value c.args.road (of (a_list services) "services") (codes "services") (present services_tree c.args.bill.now.services) w2 w3 refl (row_written services_tree services_written c.args.bill.now.services) refl c.in_ok-lose_row-3.ensures)
    (adds_both r4 (r5 ++ (r6 ++ [])) w3 w4 w6 (adds_value c.args.road (of (a_list compositions) "compositions") (codes "compositions") (present compositions_tree c.args.bill.now.compositions) w3 w4 refl (row_written compositions_tree (λ y. refl) c.args.bill.now.compositions) refl c.in_ok-lose_row-4.ensures)
    (adds_both r5 (r6 ++ []) w4 w5 w6 (adds_unknown properties_tree c.args.road.version c.args.road.trips properties_row (codes "properties") c.args.bill.now.properties c.unknown.result w4 w5 refl properties_spared (λ y. refl) refl c.unknown.ensures c.in_ok-record_member.ensures)
    (adds_end r6 w5 w6 (adds_unknown signature_tree c.args.road.version c.args.road.trips signature_row (codes "signature") c.args.bill.now.signature c.unknown-2.result w5 w6 refl signature_spared signature_there refl c.unknown-2.ensures c.in_ok-record_member-2.ensures)))))))
