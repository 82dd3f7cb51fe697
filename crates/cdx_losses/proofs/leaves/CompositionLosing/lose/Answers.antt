use Rattle.std.proofs.Common.{[], ◌++◌, refl, ◌∙◌, codes}
use Rattle.cdx_models.specs.Trees.{present, text, list_tree, composition}
use Rattle.cdx_signature.specs.Records.{signature_tree, signature_there}
use Rattle.cdx_relations.specs.Records.{bom_reference_tree, composition_tree}
use Rattle.cdx_schema.specs.Kinds.{a_record}
use Rattle.cdx_schema.specs.Table.{signature_row}
use Rattle.cdx_losses.specs.Walks.{value_lost}
use Rattle.cdx_losses.proofs.Spared.{row_lost}
use Rattle.cdx_losses.proofs.Levels.{text_spared, signature_spared, reference_texts_spared, reference_row, vulnerabilities_row, composition_lost}
use Rattle.cdx_losses.proofs.Walks.{adds_same, adds_both, adds_end, adds_unknown}
use Rattle.cdx_losses.proofs.Values.{value_inside}
use Rattle.cdx_losses.proofs.leaves.CompositionLosing.lose.Goals as goal

pub returns : goal.returns
returns c =
    let r1 = row_lost c.args.road.version c.args.road.trips reference_row (present text c.args.self.now.bom_ref) in
    let r2 = row_lost c.args.road.version c.args.road.trips vulnerabilities_row (present (list_tree bom_reference_tree) c.args.self.now.vulnerabilities) in
    let r3 = row_lost c.args.road.version c.args.road.trips signature_row (present signature_tree c.args.self.now.signature) in
    let a = c.args.walk.now in
    let w1 = c.record_member.new.self in
    let w2 = c.record_member-2.new.self in
    let w3 = c.record_member-3.new.self in
    adds_same (r1 ++ (r2 ++ (r3 ++ []))) (value_lost c.args.road (composition_tree c.args.self.now) (a_record composition)) a w3 (value_inside c.args.road (composition_tree c.args.self.now) (a_record composition) refl refl ∙ composition_lost c.args.road.version c.args.road.trips c.args.self.now)
    (adds_both r1 (r2 ++ (r3 ++ [])) a w1 w3 (adds_unknown text c.args.road.version c.args.road.trips reference_row (codes "bom-ref") c.args.self.now.bom_ref c.unknown.result a w1 refl text_spared (λ y. refl) refl c.unknown.ensures c.in_ok-record_member.ensures)
    (adds_both r2 (r3 ++ []) w1 w2 w3 (adds_unknown (list_tree bom_reference_tree) c.args.road.version c.args.road.trips vulnerabilities_row (codes "vulnerabilities") c.args.self.now.vulnerabilities c.unknown-unknown.result w1 w2 refl reference_texts_spared (λ y. refl) refl c.unknown-unknown.ensures c.in_ok-record_member-2.ensures)
    (adds_end r3 w2 w3 (adds_unknown signature_tree c.args.road.version c.args.road.trips signature_row (codes "signature") c.args.self.now.signature c.unknown-2.result w2 w3 refl signature_spared signature_there refl c.unknown-2.ensures c.in_ok-record_member-3.ensures))))
