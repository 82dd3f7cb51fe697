use Rattle.std.proofs.Common.{ap, ◌∙◌, Some}
use Rattle.serde_json.specs.View.{view, items_view}
use Rattle.cdx_tool.proofs.Reading.{hops_read}
use Rattle.cdx_tool.proofs.request.read.read_hops.Goals as goal

pub returns-in-Some : goal.returns-in-Some
returns-in-Some c =
    hops_read c.read_parts.result (view c.args.value.now) (items_view c.as_slice.result.now) (ap (λ vs. Some (items_view vs)) c.as_slice.ensures.value ∙ c.in-Some.ensures) c.read_parts.ensures
