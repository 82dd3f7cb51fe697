-- A bill that a program holds: what 1.5 keeps of it, and the spelling of its plain bill.
use Rattle.std.proofs.Common.{◌≡◌, refl, sym, ap, ◌∙◌, List, [], ◌∷◌, true, false, codes, Option, Some, None, true≢false}
use Rattle.serde_json.specs.Data.{Data, no_members}
use Rattle.serde_json.specs.Data as json
use Rattle.cdx_models.specs.declared.bom.SpecVersion.TheVariants.{V1_5}
use Rattle.cdx_models.specs.Trees.{component, tools_object, metadata, bill, Tree, absent, text, number, items, fields, Trees, none, more, two, ◌⧺◌, trees, present, list_tree}
use Rattle.cdx_models.specs.Versions.{label}
use Rattle.cdx_models.specs.Records.{urn_tree, contact_tree, entity_tree, properties_tree, tool_tree}
use Rattle.cdx_schema.specs.Kinds.{a_record, a_tools, a_bill}
use Rattle.cdx_schema.specs.Table.{rows}
use Rattle.cdx_schema.specs.Keeping.{kept, keep}
use Rattle.cdx_schema.specs.Trips.{settled}
use Rattle.cdx_schema.specs.JsonSpelling.{jspell, heading}
use Rattle.cdx_license.specs.Records.{licenses_tree}
use Rattle.cdx_component.specs.Trees.{component_tree, components_tree}
use Rattle.cdx_service.specs.Trees.{services_tree}
use Rattle.cdx_nest.specs.declared.metadata.Metadata.{Metadata}
use Rattle.cdx_nest.specs.declared.tools.Tools.{Tools}
use Rattle.cdx_nest.specs.declared.tools.Tools.TheVariants as variant
use Rattle.cdx_nest.specs.Trees.{tools_tree, makers, terms, metadata_tree}
use Rattle.cdx_bom.specs.declared.bom.Bom.{Bom}
use Rattle.cdx_bom.specs.Trees.{inventory_groups, bill_contents, relations, inventory_with, bom_tree}
use Rattle.cdx_bom.proofs.Names.{SparesLeaves, lacks, all_lack, appended_lack}
use Rattle.cdx_bom.proofs.Leaves.{texts_lack, row_lacks, list_lacks, urn_lacks, contact_lacks, entity_lacks, licenses_lack, tool_lacks, properties_lack}
use Rattle.cdx_bom.proofs.Whole.{component_lacks, components_lack, services_lack}
use Rattle.cdx_bom.proofs.Nested.{relations_lack}
use Rattle.cdx_bom.proofs.Settled.{bill_settled, makers_settled, metadata_is, settled_list, settled_object}
use Rattle.cdx_canon.specs.Canon.{labelled, plain}
use Rattle.cdx_canon.specs.Plain.{is_no_tool, with_part}
use Rattle.cdx_canon.proofs.KeptText.{is_bill, IsWhole, whole_kept, labelled_whole}
use Rattle.cdx_canon.proofs.Respelled.{field_anew}

-- ---- it holds no other bill

bills_spare : SparesLeaves is_bill
bills_spare bill e = absurd (true≢false e)
bills_spare _ e = refl

tools_lack : (x : Tools) → lacks is_bill (tools_tree x) ≡ true
unfolding lacks rows
tools_lack (variant.List ts) = list_lacks is_bill tool_tree (tool_lacks is_bill bills_spare) ts
tools_lack (variant.Object ss cs) = rw (row_lacks is_bill services_tree (services_lack is_bill bills_spare refl) ss, row_lacks is_bill components_tree (components_lack is_bill bills_spare refl) cs) refl

metadata_lacks : (m : Metadata) → lacks is_bill (metadata_tree m) ≡ true
unfolding lacks rows
metadata_lacks m = rw (
  texts_lack is_bill m.timestamp,
  row_lacks is_bill tools_tree tools_lack m.tools,
  row_lacks is_bill (list_tree contact_tree) (list_lacks is_bill contact_tree (contact_lacks is_bill bills_spare)) m.authors,
  row_lacks is_bill component_tree (component_lacks is_bill bills_spare refl) m.component,
  row_lacks is_bill entity_tree (entity_lacks is_bill bills_spare) m.manufacture,
  row_lacks is_bill entity_tree (entity_lacks is_bill bills_spare) m.supplier,
  row_lacks is_bill licenses_tree (licenses_lack is_bill bills_spare) m.licenses,
  row_lacks is_bill properties_tree (properties_lack is_bill bills_spare) m.properties,
) refl

inventory_lacks : (b : Bom) → all_lack is_bill (inventory_groups b) ≡ true
unfolding lacks
inventory_lacks b = rw (
  row_lacks is_bill urn_tree (urn_lacks is_bill) b.serial_number,
  row_lacks is_bill metadata_tree metadata_lacks b.metadata,
  row_lacks is_bill components_tree (components_lack is_bill bills_spare refl) b.components,
  row_lacks is_bill services_tree (services_lack is_bill bills_spare refl) b.services,
) refl

held_whole : (b : Bom) → IsWhole (bom_tree b)
unfolding rows
held_whole b = (refl, (refl, appended_lack is_bill (inventory_groups b) (relations b) (inventory_lacks b) (relations_lack is_bill bills_spare b)))

-- What 1.5 keeps of it is the bill with the label 1.5.
held_kept : (b : Bom) → keep V1_5 (bom_tree b) a_bill ≡ labelled V1_5 (bom_tree b)
unfolding kept rows
held_kept b = labelled_whole V1_5 V1_5 (bom_tree b) (held_whole b)

metadata_kept : (m : Metadata) → keep V1_5 (metadata_tree m) (a_record metadata) ≡ metadata_tree m
metadata_kept m = whole_kept V1_5 (metadata_tree m) (a_record metadata) (metadata_lacks m) refl

-- ---- a member anew

tools_anew : (a : Tree) (us : Trees) → jspell (fields metadata (more a (more (fields tools_object (two absent absent)) us))) V1_5 (a_record metadata)
    ≡ with_part (codes "tools") (json.object no_members) (jspell (fields metadata (more a (more (items none) us))) V1_5 (a_record metadata))
unfolding jspell rows
tools_anew a us = ap json.object (field_anew 1 (codes "tools") (fields tools_object (two absent absent)) (items none) V1_5 (more a (more absent us)) (rows metadata) no_members refl)

metadata_anew : (a b c : Tree) (ms ns us : Trees) → jspell (fields bill (more a (more b (more c (more (fields metadata ns) us))))) V1_5 a_bill
    ≡ with_part (codes "metadata") (jspell (fields metadata ns) V1_5 (a_record metadata)) (jspell (fields bill (more a (more b (more c (more (fields metadata ms) us))))) V1_5 a_bill)
unfolding jspell rows
metadata_anew a b c ms ns us = ap json.object (field_anew 3 (codes "metadata") (fields metadata ns) (fields metadata ms) V1_5 (more a (more b (more c (more absent us)))) (rows bill) (heading bill) refl)

-- ---- metadata once an empty tool list counts as a tools object without parts

tools_as_is : (o : Option Tools) → is_no_tool o ≡ false → settled (present tools_tree o) a_tools ≡ present tools_tree o
unfolding settled
tools_as_is None e = refl
tools_as_is (Some (variant.List [])) e = absurd (true≢false e)
tools_as_is (Some (variant.List (x ∷ xs))) e = settled_list (x ∷ xs)
tools_as_is (Some (variant.Object ss cs)) e = settled_object ss cs

tools_emptied : (o : Option Tools) → is_no_tool o ≡ true → (settled (present tools_tree o) a_tools ≡ fields tools_object (two absent absent)) × (present tools_tree o ≡ items none)
tools_emptied None e = absurd (true≢false (sym e))
tools_emptied (Some (variant.List [])) e = (settled_list [], refl)
tools_emptied (Some (variant.List (x ∷ xs))) e = absurd (true≢false (sym e))
tools_emptied (Some (variant.Object ss cs)) e = absurd (true≢false (sym e))

-- the fields of metadata with a tree that stands for the tools
abbrev tooled : Metadata → Tree → Tree
tooled m t = fields metadata (more (present text m.timestamp) (more t (trees (present (list_tree contact_tree) m.authors ∷ present component_tree m.component ∷ present entity_tree m.manufacture ∷ present entity_tree m.supplier ∷ present licenses_tree m.licenses ∷ present properties_tree m.properties ∷ []))))

metadata_as_is : (m : Metadata) → is_no_tool m.tools ≡ false → settled (metadata_tree m) (a_record metadata) ≡ metadata_tree m
metadata_as_is m e = metadata_is m ∙ ap (tooled m) (tools_as_is m.tools e)

pub metadata_spelled : (m : Metadata) → is_no_tool m.tools ≡ true
    → with_part (codes "tools") (json.object no_members) (jspell (keep V1_5 (metadata_tree m) (a_record metadata)) V1_5 (a_record metadata)) ≡ jspell (settled (metadata_tree m) (a_record metadata)) V1_5 (a_record metadata)
metadata_spelled m e =
    let p = tools_emptied m.tools e in
    ap (λ t. with_part (codes "tools") (json.object no_members) (jspell t V1_5 (a_record metadata))) (metadata_kept m ∙ ap (tooled m) p.1)
    ∙ (sym (tools_anew (present text m.timestamp) _)
    ∙ ap (λ t. jspell t V1_5 (a_record metadata)) (sym (metadata_is m ∙ ap (tooled m) p.0)))

-- ---- the bill

abbrev relabelled : Bom → Bom
relabelled b = record { spec_version = V1_5; version = b.version; serial_number = b.serial_number; metadata = b.metadata; components = b.components; services = b.services; external_references = b.external_references; dependencies = b.dependencies; compositions = b.compositions; properties = b.properties; signature = b.signature }

-- the bill under the label 1.5, with a tree that stands for the metadata
abbrev described : Bom → Tree → Tree
described b t = fields bill (inventory_with t (relabelled b) ⧺ relations (relabelled b))

plain_is : (b : Bom) → plain (bom_tree b) ≡ described b (settled (present metadata_tree b.metadata) (a_record metadata))
plain_is b = bill_settled (relabelled b)

kept_is : (b : Bom) → keep V1_5 (bom_tree b) a_bill ≡ described b (present metadata_tree b.metadata)
kept_is b = held_kept b

abbrev value : Tree → Data
value t = jspell t V1_5 a_bill

spelled_same : (b : Bom) → settled (present metadata_tree b.metadata) (a_record metadata) ≡ present metadata_tree b.metadata → value (keep V1_5 (bom_tree b) a_bill) ≡ value (plain (bom_tree b))
spelled_same b e = ap value (kept_is b ∙ (ap (described b) (sym e) ∙ sym (plain_is b)))

present_as_is : (o : Option Metadata) → o ≡ None → settled (present metadata_tree o) (a_record metadata) ≡ present metadata_tree o
unfolding settled
present_as_is o e = rw e refl

-- Without metadata, what 1.5 keeps is the plain bill.
pub spelled_none : (b : Bom) → b.metadata ≡ None → value (keep V1_5 (bom_tree b) a_bill) ≡ value (plain (bom_tree b))
spelled_none b e = spelled_same b (present_as_is b.metadata e)

-- So it is where the metadata has no tool list without a tool.
pub spelled_as_is : (b : Bom) (m : Metadata) → b.metadata ≡ Some m → is_no_tool m.tools ≡ false → value (keep V1_5 (bom_tree b) a_bill) ≡ value (plain (bom_tree b))
spelled_as_is b m e f = spelled_same b (ap (λ o. settled (present metadata_tree o) (a_record metadata)) e ∙ (metadata_as_is m f ∙ ap (present metadata_tree) (sym e)))

-- Else its metadata is spelled anew.
pub spelled_anew : (b : Bom) (m : Metadata) → b.metadata ≡ Some m
    → with_part (codes "metadata") (jspell (settled (metadata_tree m) (a_record metadata)) V1_5 (a_record metadata)) (value (keep V1_5 (bom_tree b) a_bill)) ≡ value (plain (bom_tree b))
spelled_anew b m e =
    let whole = metadata_anew (text (label V1_5)) (number b.version) (present urn_tree b.serial_number) (makers m ⧺ terms m) (makers_settled m) (bill_contents b ⧺ relations b) in
    let settle : settled (metadata_tree m) (a_record metadata) ≡ fields metadata (makers_settled m) = metadata_is m in
    ap (λ t. with_part (codes "metadata") (jspell t V1_5 (a_record metadata)) (value (keep V1_5 (bom_tree b) a_bill))) settle
    ∙ (ap (λ t. with_part (codes "metadata") (jspell (fields metadata (makers_settled m)) V1_5 (a_record metadata)) (value t)) (kept_is b ∙ ap (λ o. described b (present metadata_tree o)) e)
    ∙ (sym whole
    ∙ ap value (ap (described b) (sym settle) ∙ (ap (λ o. described b (settled (present metadata_tree o) (a_record metadata))) (sym e) ∙ sym (plain_is b)))))
