use Rattle.std.proofs.Common.{refl, sym, ap, ◌∙◌, Some, None}
use Rattle.std.specs.Prelude.{if◌then◌else◌, ◌&&◌, true}
use Rattle.std.proofs.lemmas.Slice.Eq.{bytes_eq-Decides}
use Rattle.cdx_models.specs.declared.bom.SpecVersion.TheVariants.{V1_3}
use Rattle.cdx_schema.specs.XmlReading.{all}
use Rattle.cdx_leaf.specs.Reading.{behind_end}
use Rattle.cdx_leaf.specs.Trees.{collected}
use Rattle.cdx_leaf.specs.Listing.{listing_slots, listing_plan}
use Rattle.cdx_leaf.proofs.ChildSteps.{arm_more}
use Rattle.cdx_leaf.proofs.lists.ListingChildren.read_child.Goals as goal

pub returns-clause-takes : goal.returns-clause-takes
returns-clause-takes g c = λ d ns p nodes rest st.
    let x = g.X.HasTree.tree in
    let inner = c.args.self.now.inner.now in
    arm_more (listing_plan c.args.self.now.rule inner g.X.Kinded.kind) c.args.opened.now.version (g.X.FromXml.depth d) c.args.opened.now.element.now c.args.opened.now.attributes.now ns p nodes (listing_slots x c.args.self.now.items) _ c.args.reader.now c.take_into.new.reader (behind_end c.args.reader.now nodes rest) (record { name = inner; since = V1_3; kind = g.X.Kinded.kind; field = 0; place = all }) (collected x c.take_into.new.field) c.take_into.result
    ((bytes_eq-Decides c.args.opened.now.element.now.local_name inner).0 (sym c.is.ensures ∙ c.if-not-is.false))
    (ap (λ b. if b && true then Some (record { name = inner; since = V1_3; kind = g.X.Kinded.kind; field = 0; place = all }) else None) ((bytes_eq-Decides inner inner).1 refl))
    refl refl (c.take_into.ensures d ns p nodes rest st)
