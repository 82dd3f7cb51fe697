use Rattle.std.proofs.Common.{ap, sym, ◌∙◌, Ok}
use Rattle.serde_json.specs.View.{view}
use Rattle.cdx_models.specs.Trees.{text}
use Rattle.cdx_schema.specs.Depths.{depth_of}
use Rattle.cdx_json.proofs.Values.{reference_ok, reference_err}
use Rattle.cdx_relations.proofs.json.composition.BomReferenceFromJson.from_json_at.Goals as goal

pub returns-in-None : goal.returns-in-None
returns-in-None c = reference_err c.here.result (view c.args.value.now) c.args.context.version (depth_of c.args.context.depth) c.in-None.ensures c.here.ensures

pub returns-in_ok-new-in-Some : goal.returns-in_ok-new-in-Some
returns-in_ok-new-in-Some c =
    reference_ok (view c.args.value.now) c.in-Some.text.now c.args.context.version (depth_of c.args.context.depth) c.in-Some.ensures
    ∙ ap (λ s. Ok (text s)) (sym c.in_ok-new-in-Some.ensures)
