use Rattle.std.proofs.Common.{option_map, ap, ◌∙◌}
use Rattle.serde_json.specs.View.{view, members_view}
use Rattle.serde_json.proofs.Views.{view-lookup}
use Rattle.cdx_owned.proofs.Others.{removed}
use Rattle.cdx_owned.proofs.member.take_member.Goals as goal

pub returns-clause-member : goal.returns-clause-member
returns-clause-member c = ap (option_map view) c.remove.ensures.value ∙ view-lookup c.args.name.now c.args.map.now.entries

pub returns-clause-others : goal.returns-clause-others
returns-clause-others c = ap members_view c.remove.ensures.entries ∙ removed c.args.name.now c.args.map.now.entries
