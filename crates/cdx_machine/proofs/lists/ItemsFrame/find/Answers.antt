use Rattle.std.proofs.Common.{sym, ap, ◌∙◌}
use Rattle.std.specs.Str.{bytes_eq}
use Rattle.cdx_machine.specs.Records.{items_slots}
use Rattle.cdx_machine.proofs.Listing.{item_found, item_unknown}
use Rattle.cdx_machine.proofs.lists.ItemsFrame.find.Goals as goal

pub returns-then-is : goal.returns-then-is
returns-then-is g c =
    item_found g.L.ListOf.list_name g.L.Item.Machine.kind g.met.L.ListOf.item_kind g.met.L.ListOf.one_name (items_slots g.L.Item.Machine.tree c.args.self.now.items) c.args._version c.args.name.now.local_name
    (ap (bytes_eq c.args.name.now.local_name) (sym c.inner.ensures) ∙ (sym c.is.ensures ∙ c.if-is.true))

pub returns : goal.returns
returns g c = item_unknown g.L.ListOf.list_name g.L.Item.Machine.kind g.met.L.ListOf.item_kind g.met.L.ListOf.one_name (items_slots g.L.Item.Machine.tree c.args.self.now.items) c.args._version c.args.name.now.local_name (ap (bytes_eq c.args.name.now.local_name) (sym c.inner.ensures) ∙ (sym c.is.ensures ∙ c.if-is.false))
