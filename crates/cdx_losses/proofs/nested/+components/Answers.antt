use Rattle.std.proofs.Common.{[], ◌++◌, refl, sym, ap, ◌∙◌, codes, arith}
use Rattle.cdx_models.specs.Trees.{present, each, entity, evidence, component, pedigree}
use Rattle.cdx_models.specs.Records.{entity_tree}
use Rattle.cdx_license.specs.Records.{licenses_tree}
use Rattle.cdx_signature.specs.Records.{signature_tree, signature_there}
use Rattle.cdx_patch.specs.Records.{patches_tree}
use Rattle.cdx_component_parts.specs.Records.{evidence_tree}
use Rattle.cdx_component.specs.Trees.{component_tree, components_tree, pedigree_tree}
use Rattle.cdx_component.specs.declared.component.Component.TheViews.{out-Component, out-Pedigree}
use Rattle.cdx_schema.specs.Kinds.{a_list, a_record, patches, components}
use Rattle.cdx_schema.specs.Table.{of, signature_row}
use Rattle.cdx_schema.specs.Faults.{to_member}
use Rattle.cdx_losses.specs.Losses.{lost, items_lost}
use Rattle.cdx_losses.specs.LeftOut.{supplier_row, evidence_row}
use Rattle.cdx_losses.specs.Walks.{value_lost, below}
use Rattle.cdx_losses.specs.Told.{all_told}
use Rattle.cdx_losses.proofs.Spared.{row_lost}
use Rattle.cdx_losses.proofs.Levels.{signature_spared, licenses_row, component_lost, pedigree_lost, components_lost}
use Rattle.cdx_losses.proofs.Walks.{nothing_there, adds_row, adds_same, adds_both, adds_end, adds_absent, adds_unknown, adds_value, adds_inside, adds_or, round, round_first, rounds_done}
use Rattle.cdx_losses.proofs.Values.{row_written, value_inside}
use Rattle.cdx_losses.proofs.Gone.{unchanged}
use Rattle.cdx_losses.proofs.nested.+components.Goals as goal
use Rattle.cdx_component.proofs.Written.{component_counts}

pub lose_component-returns : goal.lose_component-returns
lose_component-returns t c =
    let r1 = row_lost c.args.road.version c.args.road.trips supplier_row (present entity_tree (out-Component c.args.held.now).supplier) in
    let r2 = row_lost c.args.road.version c.args.road.trips licenses_row (present licenses_tree (out-Component c.args.held.now).licenses) in
    let r3 = row_lost c.args.road.version c.args.road.trips (of (a_record pedigree) "pedigree") (present pedigree_tree (out-Component c.args.held.now).pedigree) in
    let r4 = row_lost c.args.road.version c.args.road.trips (of (a_list components) "components") (present components_tree (out-Component c.args.held.now).components) in
    let r5 = row_lost c.args.road.version c.args.road.trips evidence_row (present evidence_tree (out-Component c.args.held.now).evidence) in
    let r6 = row_lost c.args.road.version c.args.road.trips signature_row (present signature_tree (out-Component c.args.held.now).signature) in
    let a = c.args.walk.now in
    let w1 = c.lose_row_or.new.walk in
    let w2 = c.lose_row.new.walk in
    let w3 = c.lose_pedigree_row.new.walk in
    let w4 = c.lose_components_row.new.walk in
    let w5 = c.lose_row_or-2.new.walk in
    let w6 = c.record_member.new.self in
    adds_same (r1 ++ (r2 ++ (r3 ++ (r4 ++ (r5 ++ (r6 ++ [])))))) (lost c.args.road.version c.args.road.trips (component_tree c.args.held.now) (a_record component)) a w6 (component_lost c.args.road.version c.args.road.trips c.args.held.now)
    (adds_both r1 (r2 ++ (r3 ++ (r4 ++ (r5 ++ (r6 ++ []))))) a w1 w6 (adds_or c.args.road.version c.args.road.trips supplier_row (codes "supplier") (present entity_tree (out-Component c.args.held.now).supplier) c.supplier_reason-supplier.result (value_lost c.args.road (present entity_tree (out-Component c.args.held.now).supplier) (a_record entity)) a w1 (sym (value_inside c.args.road (present entity_tree (out-Component c.args.held.now).supplier) (a_record entity) refl (row_written entity_tree (λ y. refl) (out-Component c.args.held.now).supplier))) refl c.supplier_reason-supplier.ensures c.in_ok-lose_row_or.ensures)
    (adds_both r2 (r3 ++ (r4 ++ (r5 ++ (r6 ++ [])))) w1 w2 w6 (adds_value c.args.road licenses_row (codes "licenses") (present licenses_tree (out-Component c.args.held.now).licenses) w1 w2 refl (row_written licenses_tree (λ y. refl) (out-Component c.args.held.now).licenses) refl c.in_ok-lose_row.ensures)
    (adds_both r3 (r4 ++ (r5 ++ (r6 ++ []))) w2 w3 w6 (adds_inside c.args.road.version c.args.road.trips (of (a_record pedigree) "pedigree") (codes "pedigree") (present pedigree_tree (out-Component c.args.held.now).pedigree) w2 w3 refl (unchanged c.args.road.version (a_record pedigree) (present pedigree_tree (out-Component c.args.held.now).pedigree) refl) refl c.in_ok-lose_pedigree_row.ensures)
    (adds_both r4 (r5 ++ (r6 ++ [])) w3 w4 w6 (adds_inside c.args.road.version c.args.road.trips (of (a_list components) "components") (codes "components") (present components_tree (out-Component c.args.held.now).components) w3 w4 refl (unchanged c.args.road.version (a_list components) (present components_tree (out-Component c.args.held.now).components) refl) refl c.in_ok-lose_components_row.ensures)
    (adds_both r5 (r6 ++ []) w4 w5 w6 (adds_or c.args.road.version c.args.road.trips evidence_row (codes "evidence") (present evidence_tree (out-Component c.args.held.now).evidence) c.evidence_reason-evidence.result (value_lost c.args.road (present evidence_tree (out-Component c.args.held.now).evidence) (a_record evidence)) w4 w5 (sym (value_inside c.args.road (present evidence_tree (out-Component c.args.held.now).evidence) (a_record evidence) refl (row_written evidence_tree (λ y. refl) (out-Component c.args.held.now).evidence))) refl c.evidence_reason-evidence.ensures c.in_ok-lose_row_or-2.ensures)
    (adds_end r6 w5 w6 (adds_unknown signature_tree c.args.road.version c.args.road.trips signature_row (codes "signature") (out-Component c.args.held.now).signature c.unknown.result w5 w6 refl signature_spared signature_there refl c.unknown.ensures c.in_ok-record_member.ensures)))))))

pub lose_pedigree-returns : goal.lose_pedigree-returns
lose_pedigree-returns t c =
    let r1 = row_lost c.args.road.version c.args.road.trips (of (a_list components) "ancestors") (present components_tree (out-Pedigree c.args.held.now).ancestors) in
    let r2 = row_lost c.args.road.version c.args.road.trips (of (a_list components) "descendants") (present components_tree (out-Pedigree c.args.held.now).descendants) in
    let r3 = row_lost c.args.road.version c.args.road.trips (of (a_list components) "variants") (present components_tree (out-Pedigree c.args.held.now).variants) in
    let r4 = row_lost c.args.road.version c.args.road.trips (of (a_list patches) "patches") (present patches_tree (out-Pedigree c.args.held.now).patches) in
    let a = c.args.walk.now in
    let w1 = c.lose_components_row.new.walk in
    let w2 = c.lose_components_row-2.new.walk in
    let w3 = c.lose_components_row-3.new.walk in
    let w4 = c.lose_row.new.walk in
    adds_same (r1 ++ (r2 ++ (r3 ++ (r4 ++ [])))) (lost c.args.road.version c.args.road.trips (pedigree_tree c.args.held.now) (a_record pedigree)) a w4 (pedigree_lost c.args.road.version c.args.road.trips c.args.held.now)
    (adds_both r1 (r2 ++ (r3 ++ (r4 ++ []))) a w1 w4 (adds_inside c.args.road.version c.args.road.trips (of (a_list components) "ancestors") (codes "ancestors") (present components_tree (out-Pedigree c.args.held.now).ancestors) a w1 refl (unchanged c.args.road.version (a_list components) (present components_tree (out-Pedigree c.args.held.now).ancestors) refl) refl c.in_ok-lose_components_row.ensures)
    (adds_both r2 (r3 ++ (r4 ++ [])) w1 w2 w4 (adds_inside c.args.road.version c.args.road.trips (of (a_list components) "descendants") (codes "descendants") (present components_tree (out-Pedigree c.args.held.now).descendants) w1 w2 refl (unchanged c.args.road.version (a_list components) (present components_tree (out-Pedigree c.args.held.now).descendants) refl) refl c.in_ok-lose_components_row-2.ensures)
    (adds_both r3 (r4 ++ []) w2 w3 w4 (adds_inside c.args.road.version c.args.road.trips (of (a_list components) "variants") (codes "variants") (present components_tree (out-Pedigree c.args.held.now).variants) w2 w3 refl (unchanged c.args.road.version (a_list components) (present components_tree (out-Pedigree c.args.held.now).variants) refl) refl c.in_ok-lose_components_row-3.ensures)
    (adds_end r4 w3 w4 (adds_value c.args.road (of (a_list patches) "patches") (codes "patches") (present patches_tree (out-Pedigree c.args.held.now).patches) w3 w4 refl (row_written patches_tree (λ y. refl) (out-Pedigree c.args.held.now).patches) refl c.in_ok-lose_row.ensures)))))

pub lose_pedigree_row-returns-in-None : goal.lose_pedigree_row-returns-in-None
lose_pedigree_row-returns-in-None t c =
    adds_absent pedigree_tree (λ t. lost c.args.road.version c.args.road.trips t (a_record pedigree)) (to_member (codes "pedigree")) c.args.held.now c.args.walk.now (nothing_there c.args.road.version c.args.road.trips (a_record pedigree)) c.in-None.is

pub lose_pedigree_row-returns-in_ok-lose_pedigree-in-Some : goal.lose_pedigree_row-returns-in_ok-lose_pedigree-in-Some
lose_pedigree_row-returns-in_ok-lose_pedigree-in-Some t c =
    adds_row pedigree_tree (λ t. lost c.args.road.version c.args.road.trips t (a_record pedigree)) (to_member (codes "pedigree")) c.in-Some.held c.args.held.now c.args.walk.now c.enter_member.new.self c.lose_pedigree.new.walk c.leave.new.self c.depth-depth.result
    c.in-Some.is c.in_ok-enter_member-in-Some.ensures.path c.enter_member.ensures.losses c.in_ok-lose_pedigree-in-Some.ensures c.depth-depth.ensures c.leave.ensures.path c.leave.ensures.losses

pub lose_components_row-returns-in-None : goal.lose_components_row-returns-in-None
lose_components_row-returns-in-None t c =
    adds_absent components_tree (λ t. lost c.args.road.version c.args.road.trips t (a_list components)) (to_member c.args.name.now) c.args.held.now c.args.walk.now (nothing_there c.args.road.version c.args.road.trips (a_list components)) c.in-None.is

pub lose_components_row-returns-in_ok-lose_components-in-Some : goal.lose_components_row-returns-in_ok-lose_components-in-Some
lose_components_row-returns-in_ok-lose_components-in-Some t c =
    adds_row components_tree (λ t. lost c.args.road.version c.args.road.trips t (a_list components)) (to_member c.args.name.now) c.in-Some.held c.args.held.now c.args.walk.now c.enter_member.new.self c.lose_components.new.walk c.leave.new.self c.depth-depth.result
    c.in-Some.is c.in_ok-enter_member-in-Some.ensures.path c.enter_member.ensures.losses c.in_ok-lose_components-in-Some.ensures c.depth-depth.ensures c.leave.ensures.path c.leave.ensures.losses

pub lose_components-loop-i-init : goal.lose_components-loop-i-init
lose_components-loop-i-init t c = (
  refl,
  round_first component_tree (a_record component) c.args.road c.as_slice-item-items.result.now (lost c.args.road.version c.args.road.trips (components_tree c.args.held.now) (a_list components)) c.args.walk.now (components_lost c.args.road.version c.args.road.trips c.args.held.now ∙ ap (λ z. items_lost c.args.road.version c.args.road.trips (each component_tree z) (a_record component) 0) (sym c.as_slice-item-items.ensures)),
)

pub lose_components-loop-i-preserved : goal.lose_components-loop-i-preserved
lose_components-loop-i-preserved t c =
    round component_tree (a_record component) c.args.road c.as_slice-item-items.result.now c.loop-i.i c.item-item.result c.args.walk.now c.loop-i.walk c.enter_item.new.self c.lose_component.new.walk c.leave.new.self c.depth-depth.result (all_told c.args.walk.now.losses ++ below c.args.walk.now.path.items (lost c.args.road.version c.args.road.trips (components_tree c.args.held.now) (a_list components))) c.loop-i-test.true c.item-item.is c.loop-i.invariant
    c.in_ok-enter_item.ensures.path c.enter_item.ensures.losses
    (adds_same (lost c.args.road.version c.args.road.trips (component_tree c.item-item.result) (a_record component)) (value_lost c.args.road (component_tree c.item-item.result) (a_record component)) c.enter_item.new.self c.lose_component.new.walk (value_inside c.args.road (component_tree c.item-item.result) (a_record component) refl (component_counts c.item-item.result)) c.in_ok-lose_component.ensures)
    c.depth-depth.ensures c.leave.ensures.path c.leave.ensures.losses

pub lose_components-returns : goal.lose_components-returns
lose_components-returns t c = (c.loop-i.invariant.0, rounds_done component_tree (a_record component) c.args.road c.args.walk.now.path.items c.as_slice-item-items.result.now c.loop-i.i c.loop-i.walk.losses (all_told c.args.walk.now.losses ++ below c.args.walk.now.path.items (lost c.args.road.version c.args.road.trips (components_tree c.args.held.now) (a_list components))) (omega arith) c.loop-i.invariant.1)
