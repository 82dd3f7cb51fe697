use Rattle.cdx_machine.proofs.Listing.{item_put}
use Rattle.cdx_machine.proofs.lists.ItemsFrame.put.Goals as goal

pub returns : goal.returns
returns g c = item_put g.L.ListOf.list_name g.L.Item.Machine.kind g.met.L.ListOf.item_kind g.met.L.ListOf.one_name g.L.Item.Machine.tree c.args.self.now.items c.push.new.self c.args.value c.push.result c.push.ensures.ok
