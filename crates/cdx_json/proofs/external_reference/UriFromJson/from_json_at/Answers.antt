use Rattle.std.proofs.Common.{ap, sym, ◌∙◌, Ok}
use Rattle.serde_json.specs.View.{view}
use Rattle.cdx_models.specs.Trees.{text}
use Rattle.cdx_models.specs.Addresses.{uri_text}
use Rattle.cdx_schema.specs.Depths.{depth_of}
use Rattle.cdx_json.proofs.Values.{text_ok, text_err}
use Rattle.cdx_models.proofs.AddressTexts.{text_of_uri as uri_back}
use Rattle.cdx_json.proofs.external_reference.UriFromJson.from_json_at.Goals as goal

pub returns-in-None-clause-gives : goal.returns-in-None-clause-gives
returns-in-None-clause-gives c = text_err c.here.result (view c.args.value.now) c.args.context.version (depth_of c.args.context.depth) c.in-None.ensures c.here.ensures

pub returns-in_ok-new-in-Some-clause-gives : goal.returns-in_ok-new-in-Some-clause-gives
returns-in_ok-new-in-Some-clause-gives c =
    text_ok (view c.args.value.now) c.in-Some.text.now c.args.context.version (depth_of c.args.context.depth) c.in-Some.ensures
    ∙ ap (λ s. Ok (text s)) (sym (ap uri_text c.from_text.ensures ∙ uri_back c.in_ok-new-in-Some.field-0 ∙ c.in_ok-new-in-Some.ensures))
