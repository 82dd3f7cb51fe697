-- A bill that is written row by row is the schema's document of it.
use Rattle.std.proofs.Common.{◌≡◌, refl, sym, ap, ◌∙◌, ℕ, List, [], ◌∷◌, ◌++◌, reverse, append_assoc, Option, Some, None}
use Rattle.std.specs.Prelude.{codes}
use Rattle.cdx_events.specs.declared.event.XmlEvent.{XmlEvent}
use Rattle.cdx_events.specs.declared.event.XmlEvent.TheVariants.{StartDocument, EndDocument}
use Rattle.cdx_events.specs.Nodes.{events_of_all, IsBalanced}
use Rattle.cdx_models.specs.declared.bom.SpecVersion.{SpecVersion}
use Rattle.cdx_models.specs.declared.bom.SpecVersion.TheVariants.{V1_3, V1_4, V1_5}
use Rattle.cdx_models.specs.declared.bom.UrnUuid.{UrnUuid}
use Rattle.cdx_models.specs.Records.{urn_tree}
use Rattle.cdx_models.specs.Trees.{bill, number, fields, Trees, ◌⧺◌, present}
use Rattle.cdx_models.specs.Versions.{namespace}
use Rattle.cdx_schema.specs.Kinds.{a_bill, a_number, a_text}
use Rattle.cdx_schema.specs.Keeping.{kept, keep, rows_kept}
use Rattle.cdx_schema.specs.Table.{rows}
use Rattle.cdx_schema.specs.XmlSpelling.{attributes_of, nodes_of, plain_name}
use Rattle.cdx_schema.specs.Groups.{group}
use Rattle.cdx_models.specs.Trees.{fields_of}
use Rattle.cdx_write.specs.WrittenRows.{attribute_written, attributes_written, rows_written}
use Rattle.cdx_write.specs.Writing.{end_tag}
use Rattle.cdx_write.proofs.RowsLaws.{attributes_are, rows_are, rows_in_groups}
use Rattle.cdx_bom.specs.declared.bom.Bom.{Bom}
use Rattle.cdx_bom.specs.Trees.{bom_tree, inventory_groups, relations}
use Rattle.cdx_bom.specs.BillWriting.{root_start, document_in}

bill_kept : (w : SpecVersion) (ts : Trees) → keep w (fields bill ts) a_bill ≡ fields bill (rows_kept w w ts (rows bill))
unfolding kept
bill_kept V1_3 ts = refl
bill_kept V1_4 ts = refl
bill_kept V1_5 ts = refl

-- ---- attributes

-- the version, and then the serial number where there is one, turned round
turned : (n : ℕ) (serial : Option UrnUuid) (w : SpecVersion) → reverse (attribute_written (codes "version") a_number (number n) w ++ attribute_written (codes "serialNumber") a_text (present urn_tree serial) w ++ []) ≡ attribute_written (codes "serialNumber") a_text (present urn_tree serial) w ++ attribute_written (codes "version") a_number (number n) w
unfolding attribute_written kept
turned n None w = refl
turned n (Some u) w = refl

put_in_order : (b : Bom) (w : SpecVersion) → attributes_written (inventory_groups b ⧺ relations b) w (rows bill) ≡ attribute_written (codes "version") a_number (number b.version) w ++ attribute_written (codes "serialNumber") a_text (present urn_tree b.serial_number) w ++ []
unfolding attributes_written rows attribute_written kept
put_in_order b w = refl

-- The root's attributes.
pub root_attributes_are : (b : Bom) (w : SpecVersion) → attribute_written (codes "serialNumber") a_text (present urn_tree b.serial_number) w ++ attribute_written (codes "version") a_number (number b.version) w ≡ attributes_of (keep w (bom_tree b) a_bill) w a_bill
root_attributes_are b w =
    sym (turned b.version b.serial_number w) ∙ ap reverse (sym (put_in_order b w) ∙ attributes_are (inventory_groups b ⧺ relations b) w (rows bill))
    ∙ ap (λ t. attributes_of t w a_bill) (sym (bill_kept w (inventory_groups b ⧺ relations b)))

-- ---- the document

-- The rows of the two groups are those of the bill.
pub both_groups : (b : Bom) (w : SpecVersion) → rows_written (inventory_groups b) w (group 0 bill) ++ rows_written (relations b) w (group 1 bill) ≡ rows_written (fields_of (bom_tree b)) w (rows bill)
unfolding rows
both_groups b w = sym (rows_in_groups (inventory_groups b) (relations b) w (group 0 bill) (group 1 bill) refl)

pub nodes_are : (b : Bom) (w : SpecVersion) → rows_written (fields_of (bom_tree b)) w (rows bill) ≡ events_of_all (nodes_of (keep w (bom_tree b) a_bill) w a_bill)
unfolding nodes_of
nodes_are b w = rows_are (inventory_groups b ⧺ relations b) w (rows bill) ∙ ap (λ t. events_of_all (nodes_of t w a_bill)) (sym (bill_kept w (inventory_groups b ⧺ relations b)))

-- what the writer appends after the start of the document
abbrev pub from_rows : Bom → SpecVersion → List XmlEvent
from_rows b w = rows_written (fields_of (bom_tree b)) w (rows bill) ++ ((end_tag (codes "bom") ∷ []) ++ (EndDocument ∷ []))

pub document_is : (b : Bom) (w : SpecVersion) → (StartDocument ∷ []) ++ ((root_start (bom_tree b) w ∷ []) ++ from_rows b w) ≡ document_in w (bom_tree b)
document_is b w =
    let inner = events_of_all (nodes_of (keep w (bom_tree b) a_bill) w a_bill) in
    ap (λ (s : List XmlEvent). StartDocument ∷ (root_start (bom_tree b) w ∷ (s ++ (end_tag (codes "bom") ∷ (EndDocument ∷ []))))) (nodes_are b w)
    ∙ ap (λ (s : List XmlEvent). StartDocument ∷ (root_start (bom_tree b) w ∷ s)) (sym (append_assoc inner (end_tag (codes "bom") ∷ []) (EndDocument ∷ [])))

-- A bill's document is balanced.
pub balanced : (b : Bom) (w : SpecVersion) (list : List XmlEvent) → list ≡ document_in w (bom_tree b) → IsBalanced list
balanced b w list is = record { name = plain_name (codes "bom"); attributes = attributes_of (keep w (bom_tree b) a_bill) w a_bill; namespace = record { default = Some (namespace w) }; nodes = nodes_of (keep w (bom_tree b) a_bill) w a_bill; whole = is }
