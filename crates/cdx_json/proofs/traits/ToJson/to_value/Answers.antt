use Rattle.cdx_schema.specs.Keeping.{keep}
use Rattle.cdx_json.proofs.InOrder.{value_spelled}
use Rattle.cdx_json.proofs.traits.ToJson.to_value.Goals as goal

pub returns : goal.returns
returns g c = value_spelled c.to_value.result _ (keep c.args.version (g.Self.HasTree.tree c.args.self.now) g.Self.Kinded.kind) c.args.version g.Self.Kinded.kind c.in_ok-spelling.ensures c.to_value.ensures
