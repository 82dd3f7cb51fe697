use Rattle.std.proofs.Common.{option_map, ap, sym, ◌∙◌}
use Rattle.serde_json.specs.Find.{get}
use Rattle.serde_json.specs.View.{view}
use Rattle.serde_json.proofs.Views.{view-lookup, view-Object}
use Rattle.cdx_tool.proofs.part.take_member.Goals as goal

pub returns-in-Object : goal.returns-in-Object
returns-in-Object c = rw c.in-Object.is (ap (option_map view) c.remove.ensures.value ∙ (view-lookup c.args.name.now c.in-Object.map.entries ∙ sym (ap (get c.args.name.now) (view-Object c.in-Object.map))))
