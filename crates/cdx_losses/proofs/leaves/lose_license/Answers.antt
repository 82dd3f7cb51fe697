use Rattle.std.proofs.Common.{[], ◌++◌, refl, codes}
use Rattle.cdx_models.specs.Trees.{present, text, license}
use Rattle.cdx_models.specs.Records.{properties_tree}
use Rattle.cdx_license.specs.Records.{license_tree}
use Rattle.cdx_schema.specs.Kinds.{a_record}
use Rattle.cdx_losses.specs.Losses.{lost}
use Rattle.cdx_losses.proofs.Spared.{row_lost}
use Rattle.cdx_losses.proofs.Levels.{text_spared, properties_spared, reference_row, properties_row, license_lost}
use Rattle.cdx_losses.proofs.Walks.{adds_same, adds_both, adds_end, adds_unknown}
use Rattle.cdx_losses.proofs.leaves.lose_license.Goals as goal

pub returns : goal.returns
returns c =
    let r1 = row_lost c.args.road.version c.args.road.trips reference_row (present text c.args.license.now.bom_ref) in
    let r2 = row_lost c.args.road.version c.args.road.trips properties_row (present properties_tree c.args.license.now.properties) in
    let a = c.args.walk.now in
    let w1 = c.record_member.new.self in
    let w2 = c.record_member-2.new.self in
    adds_same (r1 ++ (r2 ++ [])) (lost c.args.road.version c.args.road.trips (license_tree c.args.license.now) (a_record license)) a w2 (license_lost c.args.road.version c.args.road.trips c.args.license.now)
    (adds_both r1 (r2 ++ []) a w1 w2 (adds_unknown text c.args.road.version c.args.road.trips reference_row (codes "bom-ref") c.args.license.now.bom_ref c.unknown.result a w1 refl text_spared (λ y. refl) refl c.unknown.ensures c.in_ok-record_member.ensures)
    (adds_end r2 w1 w2 (adds_unknown properties_tree c.args.road.version c.args.road.trips properties_row (codes "properties") c.args.license.now.properties c.unknown-2.result w1 w2 refl properties_spared (λ y. refl) refl c.unknown-2.ensures c.in_ok-record_member-2.ensures)))
