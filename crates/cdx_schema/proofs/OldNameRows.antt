-- Worked rows on references that old documents spell otherwise in JSON, and on a bill's signature in XML.
use Prim.Native.String.{String}
use Rattle.std.specs.Prelude.{◌≡◌, refl, [], ◌∷◌, codes, Ok}
use Rattle.serde_json.specs.Data.{Members, no_members, null}
use Rattle.cdx_models.specs.declared.bom.SpecVersion.{SpecVersion}
use Rattle.cdx_models.specs.declared.bom.SpecVersion.TheVariants.{V1_3, V1_4, V1_5}
use Rattle.cdx_models.specs.Trees as name
use Rattle.cdx_models.specs.Trees.{Tree, absent, number}
use Rattle.cdx_events.specs.Nodes.{Node, Nodes, no_nodes}
use Rattle.cdx_schema.specs.Kinds as kind
use Rattle.cdx_schema.specs.Faults.{to_member, wrong_kind}
use Rattle.cdx_schema.specs.JsonSpelling.{jspell}
use Rattle.cdx_schema.specs.XmlReading.{xml_denotes}
use Rattle.cdx_schema.specs.XmlSpelling.{root}
use Rattle.cdx_schema.proofs.Literals.{str, num, obj, ◌↪◌⨟◌, ◌⊳◌, at, bom, t', reading_on_literals}
use Rattle.cdx_schema.proofs.RecordRows.{of_fields, id_tree, signer_tree, signer_xml}
use Rattle.cdx_schema.proofs.RuleRows.{Values, wrong}

-- ---- both spellings, in each of the five records

-- A record is read from an object with the reference under the one name or the other, alone or both at once, and written
-- under the first.
abbrev BothSpellings : SpecVersion → kind.Kind → Members → Tree → Type 0
BothSpellings v k ms t = Values v k (obj ("bom-ref" ↪ str "r" ⨟ ms)) (Ok t)
    × Values v k (obj ("bomRef" ↪ str "r" ⨟ ms)) (Ok t)
    × Values v k (obj ("bom-ref" ↪ str "r" ⨟ "bomRef" ↪ num 1 ⨟ ms)) (Ok t)
    × Values v k (obj ("bom-ref" ↪ null ⨟ "bomRef" ↪ str "r" ⨟ ms)) (Ok t)
    × (jspell t v k ≡ obj ("bom-ref" ↪ str "r" ⨟ ms))

contact_spellings : BothSpellings V1_3 (kind.a_record name.contact) no_members (of_fields name.contact (t' "r" ∷ absent ∷ absent ∷ absent ∷ []))
unfolding reading_on_literals
contact_spellings = (refl, refl, refl, refl, refl)

entity_spellings : BothSpellings V1_3 (kind.a_record name.entity) no_members (of_fields name.entity (t' "r" ∷ absent ∷ absent ∷ absent ∷ []))
unfolding reading_on_literals
entity_spellings = (refl, refl, refl, refl, refl)

expression_spellings : BothSpellings V1_3 (kind.a_record name.expression) ("expression" ↪ str "MIT" ⨟ no_members) (of_fields name.expression (t' "r" ∷ t' "MIT" ∷ []))
unfolding reading_on_literals
expression_spellings = (refl, refl, refl, refl, refl)

composition_spellings : BothSpellings V1_5 (kind.a_record name.composition) ("aggregate" ↪ str "a" ⨟ no_members)
    (of_fields name.composition (t' "r" ∷ t' "a" ∷ absent ∷ absent ∷ absent ∷ absent ∷ []))
unfolding reading_on_literals
composition_spellings = (refl, refl, refl, refl, refl)

license_spellings : BothSpellings V1_5 (kind.a_record name.license) ("id" ↪ str "MIT" ⨟ no_members) (of_fields name.license (t' "r" ∷ id_tree ∷ absent ∷ absent ∷ absent ∷ []))
unfolding reading_on_literals
license_spellings = (refl, refl, refl, refl, refl)

-- ---- which member is read

-- Neither is there, or both are null.
no_reference : Values V1_5 (kind.a_record name.contact) (obj no_members) (Ok (of_fields name.contact (absent ∷ absent ∷ absent ∷ absent ∷ [])))
    × Values V1_5 (kind.a_record name.contact) (obj ("bom-ref" ↪ null ⨟ "bomRef" ↪ null ⨟ no_members)) (Ok (of_fields name.contact (absent ∷ absent ∷ absent ∷ absent ∷ [])))
unfolding reading_on_literals
no_reference = (refl, refl)

-- A fault has the path of the member that is read.
wrong_references : Values V1_5 (kind.a_record name.entity) (obj ("bom-ref" ↪ num 1 ⨟ "bomRef" ↪ str "r" ⨟ no_members)) (wrong (to_member (codes "bom-ref") ∷ []) wrong_kind)
    × Values V1_5 (kind.a_record name.entity) (obj ("bomRef" ↪ num 1 ⨟ no_members)) (wrong (to_member (codes "bomRef") ∷ []) wrong_kind)
    × Values V1_5 (kind.a_record name.entity) (obj ("bom-ref" ↪ null ⨟ "bomRef" ↪ num 1 ⨟ no_members)) (wrong (to_member (codes "bomRef") ∷ []) wrong_kind)
unfolding reading_on_literals
wrong_references = (refl, refl, refl)

-- A component's own reference has the one spelling alone.
one_spelling : Values V1_4 (kind.a_record name.service) (obj ("bomRef" ↪ num 1 ⨟ "name" ↪ str "s" ⨟ no_members))
    (Ok (of_fields name.service (absent ∷ absent ∷ absent ∷ t' "s" ∷ absent ∷ absent ∷ absent ∷ absent ∷ absent ∷ absent ∷ absent ∷ absent ∷ absent ∷ absent ∷ absent ∷ absent ∷ [])))
unfolding reading_on_literals
one_spelling = refl

-- Before 1.5 neither spelling is known of a license.
license_in_1_4 : Values V1_4 (kind.a_record name.license) (obj ("bom-ref" ↪ num 1 ⨟ "bomRef" ↪ num 2 ⨟ "id" ↪ str "MIT" ⨟ no_members))
    (Ok (of_fields name.license (absent ∷ id_tree ∷ absent ∷ absent ∷ absent ∷ [])))
unfolding reading_on_literals
license_in_1_4 = refl

-- ---- a bill's signature in XML

abbrev signed_bill : String → Tree
signed_bill label = of_fields name.bill (t' label ∷ number 1 ∷ absent ∷ absent ∷ absent ∷ absent ∷ absent ∷ absent ∷ absent ∷ absent ∷ signer_tree ∷ [])

abbrev bom_with : SpecVersion → Nodes → Node
bom_with v xs = bom v (at "version" "1" ∷ []) xs

-- It is the last child, and read back.
signature_in_1_5 : (root (signed_bill "1.5") V1_5 ≡ bom_with V1_5 (signer_xml "signature" ⊳ no_nodes)) × (xml_denotes (bom_with V1_5 (signer_xml "signature" ⊳ no_nodes)) V1_5 ≡ Ok (signed_bill "1.5"))
unfolding reading_on_literals
signature_in_1_5 = (refl, refl)

signature_in_1_4 : (root (signed_bill "1.4") V1_4 ≡ bom_with V1_4 (signer_xml "signature" ⊳ no_nodes)) × (xml_denotes (bom_with V1_4 (signer_xml "signature" ⊳ no_nodes)) V1_4 ≡ Ok (signed_bill "1.4"))
unfolding reading_on_literals
signature_in_1_4 = (refl, refl)

-- 1.3 doesn't know it: it isn't written, and as an unknown child it is skipped.
signature_before_1_4 : (root (signed_bill "1.3") V1_3 ≡ bom_with V1_3 no_nodes)
    × (xml_denotes (bom_with V1_3 (signer_xml "signature" ⊳ no_nodes)) V1_3
    ≡ Ok (of_fields name.bill (t' "1.3" ∷ number 1 ∷ absent ∷ absent ∷ absent ∷ absent ∷ absent ∷ absent ∷ absent ∷ absent ∷ absent ∷ [])))
unfolding reading_on_literals
signature_before_1_4 = (refl, refl)
