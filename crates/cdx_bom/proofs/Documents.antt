-- A document is exactly one of the schema.
use Rattle.std.proofs.Common.{◌≡◌, refl, sym, ap, subst, ◌∙◌}
use Rattle.serde_json.specs.View.{view}
use Rattle.serde_json.specs.declared.value.Value.{Value}
use Rattle.cdx_events.specs.declared.events.Events.{Events}
use Rattle.cdx_events.specs.Nodes.{Node, characters, cdata, element, document, IsBalanced}
use Rattle.cdx_leaf.proofs.Roots.{same_root}
use Rattle.cdx_schema.specs.Roads as roads
use Rattle.cdx_bom.specs.declared.doc.Doc.{Doc}
use Rattle.cdx_bom.specs.declared.doc.Doc.TheVariants as doc
use Rattle.cdx_bom.specs.Docs.{IsDoc}

-- Two roots with the same document are the same.
pub one_root : (x y : Node) → document x ≡ document y → x ≡ y
one_root (element n a ns nodes) y e = same_root y n a ns nodes e
one_root x (element n a ns nodes) e = sym (same_root x n a ns nodes (sym e))
one_root (characters s) (characters t) e = cc
one_root (characters s) (cdata t) e = absurd cc
one_root (cdata s) (characters t) e = absurd cc
one_root (cdata s) (cdata t) e = cc

pub same_doc : (d : Doc) (x y : roads.Doc) → IsDoc d x → IsDoc d y → x ≡ y
same_doc (doc.Json v) (roads.json x) (roads.json y) p q = ap (λ z. roads.json z) (sym p ∙ q)
same_doc (doc.Json v) (roads.json x) (roads.xml y) p q = absurd q
same_doc (doc.Json v) (roads.xml x) y p q = absurd p
same_doc (doc.Xml e) (roads.xml x) (roads.xml y) p q = ap (λ z. roads.xml z) (one_root x y (sym p ∙ q))
same_doc (doc.Xml e) (roads.xml x) (roads.json y) p q = absurd q
same_doc (doc.Xml e) (roads.json x) y p q = absurd p

pub is_json : (d : Doc) (v : Value) → d ≡ doc.Json v → (x : roads.Doc) × IsDoc d x
is_json d v e = subst (λ z. (x : roads.Doc) × IsDoc z x) (sym e) (roads.json (view v), refl)

pub is_xml : (d : Doc) (events : Events) → d ≡ doc.Xml events → IsBalanced events.list → (x : roads.Doc) × IsDoc d x
is_xml d events e b = subst (λ z. (x : roads.Doc) × IsDoc z x) (sym e) (roads.xml (element b.name b.attributes b.namespace b.nodes), b.whole)
