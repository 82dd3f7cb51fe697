-- A worked row on dropped empty texts.
use Rattle.std.specs.Prelude.{◌≡◌, refl, [], ◌∷◌, codes, Some}
use Rattle.cdx_models.specs.declared.bom.SpecVersion.TheVariants.{V1_5}
use Rattle.cdx_schema.specs.Kinds.{a_bill}
use Rattle.cdx_schema.specs.Faults.{unexpected}
use Rattle.cdx_events.specs.EmptyTexts.{lean}
use Rattle.cdx_schema.specs.Dropped.{hole}
use Rattle.cdx_schema.proofs.Literals.{◌⊳◌, at, el, tag, txt, leaf, bom, reading_on_literals}
use Rattle.cdx_events.specs.declared.event.EventKind.TheVariants as kinds
use Rattle.cdx_events.specs.Nodes.{Node, no_nodes}

-- a swid whose attached text is one empty text event
abbrev empty_attached_text : Node
empty_attached_text = bom V1_5 (at "version" "1" ∷ []) (tag "components" (el "component" (at "type" "library" ∷ []) (leaf "name" "a" ⊳ el "swid" (at "tagId" "t" ∷ at "name" "n" ∷ []) (tag "text" (txt "" ⊳ no_nodes) ⊳ no_nodes) ⊳ no_nodes) ⊳ no_nodes) ⊳ no_nodes)

no_text_at_9 : hole (lean empty_attached_text) V1_5 1 a_bill ≡ Some (unexpected 9 (codes "text") kinds.EndElement)
unfolding reading_on_literals hole
no_text_at_9 = refl
