-- A bill's document in pieces: what stands before the components, each component, what stands between them and the
-- dependencies, each dependency, and what comes after them.
use Rattle.std.specs.Prelude.{◌≡◌, ℕ, suc, ◌+◌, codes, List, [], ◌∷◌, ◌++◌, length, Option, Some, None, Result, Err}
use Rattle.std.specs.List.{flat_map}
use Rattle.cdx_events.specs.declared.event.XmlEvent.{XmlEvent}
use Rattle.cdx_events.specs.declared.event.XmlEvent.TheVariants.{StartDocument, EndDocument}
use Rattle.cdx_models.specs.declared.bom.SpecVersion.{SpecVersion}
use Rattle.cdx_models.specs.declared.errors.XmlWriteError.{XmlWriteError}
use Rattle.cdx_models.specs.declared.errors.XmlWriteError.TheVariants as error
use Rattle.cdx_models.specs.declared.bom.SpecVersion.TheVariants.{V1_4, V1_5}
use Rattle.cdx_models.specs.Records.{references_tree, properties_tree}
use Rattle.cdx_models.specs.Trees.{component, dependency, metadata, present}
use Rattle.cdx_schema.specs.Kinds.{services, external_references, compositions, properties, a_list, a_record, a_signature}
use Rattle.cdx_write.specs.Spelling.{spelled_events}
use Rattle.cdx_write.specs.WrittenRows.{child_written, late_written}
use Rattle.cdx_write.specs.Writing.{start_tag, end_tag}
use Rattle.cdx_relations.specs.declared.dependency.Dependency.{Dependency}
use Rattle.cdx_relations.specs.Records.{dependency_tree, compositions_tree}
use Rattle.cdx_signature.specs.Records.{signature_tree}
use Rattle.cdx_nest.specs.Nested.{Component, component_items, component_tree, services_tree}
use Rattle.cdx_nest.specs.Trees.{metadata_tree}
use Rattle.cdx_bom.specs.declared.bom.Bom.{Bom}
use Rattle.cdx_bom.specs.declared.xml.pieces.Stage.{Stage}
use Rattle.cdx_bom.specs.declared.xml.pieces.Stage.TheVariants as stage
use Rattle.cdx_bom.specs.Trees.{bom_tree}
use Rattle.cdx_bom.specs.BillWriting.{root_start, document_in}

-- Nothing but want of memory refuses.
abbrev pub OnlyMemory : Result (Unit {0}) XmlWriteError → Type 0
OnlyMemory (Err (error.BomError e)) = ⊥
OnlyMemory (Err (error.XmlElementWriteError put)) = ⊥
OnlyMemory _ = Unit {0}

-- ---- what callers see

-- the events of a document that are still to be written, and in how many pieces they come
pub record Ahead : Type 0 where
  pub events : List XmlEvent
  pub pieces : ℕ

-- What a call for the next piece gives: the next events, or nothing at the end.
abbrev pub GivesPiece : Ahead → Ahead → Option (List XmlEvent) → Type 0
GivesPiece old new None = old.events ≡ []
GivesPiece old new (Some piece) = (old.events ≡ piece ++ new.events) × (old.pieces ≡ suc new.pieces)

-- ---- lists, where there are such

-- the items of a list; none where there is no list
abbrev pub items_of : {A B : Type 0} → (A → List B) → Option A → List B
items_of items None = []
items_of items (Some list) = items list

abbrev pub list_opened : {A : Type 0} → List ℕ → Option A → List XmlEvent
list_opened name None = []
list_opened name (Some list) = start_tag name ∷ []

abbrev pub list_closed : {A : Type 0} → List ℕ → Option A → List XmlEvent
list_closed name None = []
list_closed name (Some list) = end_tag name ∷ []

-- ---- the components

abbrev pub all_components : Bom → List Component
all_components b = items_of component_items b.components

-- a component as its element
abbrev pub component_written : SpecVersion → Component → List XmlEvent
component_written w x = spelled_events (component_tree x) w (codes "component") (a_record component)

abbrev pub components_written : SpecVersion → List Component → List XmlEvent
components_written w xs = flat_map (component_written w) xs

-- ---- the dependencies

abbrev pub all_dependencies : Bom → List Dependency
all_dependencies b = items_of (λ list. list.0) b.dependencies

-- a dependency as its element
abbrev pub dependency_written : SpecVersion → Dependency → List XmlEvent
dependency_written w x = spelled_events (dependency_tree x) w (codes "dependency") (a_record dependency)

abbrev pub dependencies_written : SpecVersion → List Dependency → List XmlEvent
dependencies_written w xs = flat_map (dependency_written w) xs

-- ---- the rows beside these two lists

abbrev pub metadata_row : SpecVersion → Bom → List XmlEvent
metadata_row w b = child_written (codes "metadata") (a_record metadata) (present metadata_tree b.metadata) w

abbrev pub services_row : SpecVersion → Bom → List XmlEvent
services_row w b = child_written (codes "services") (a_list services) (present services_tree b.services) w

abbrev pub references_row : SpecVersion → Bom → List XmlEvent
references_row w b = child_written (codes "externalReferences") (a_list external_references) (present references_tree b.external_references) w

abbrev pub compositions_row : SpecVersion → Bom → List XmlEvent
compositions_row w b = child_written (codes "compositions") (a_list compositions) (present compositions_tree b.compositions) w

abbrev pub properties_row : SpecVersion → Bom → List XmlEvent
properties_row w b = late_written V1_5 w (child_written (codes "properties") (a_list properties) (present properties_tree b.properties) w)

abbrev pub signature_row : SpecVersion → Bom → List XmlEvent
signature_row w b = late_written V1_4 w (child_written (codes "signature") a_signature (present signature_tree b.signature) w)

-- ---- the pieces

unfoldable pub before_components : SpecVersion → Bom → List XmlEvent
before_components w b = StartDocument ∷ root_start (bom_tree b) w ∷ (metadata_row w b ++ list_opened (codes "components") b.components)

unfoldable pub before_dependencies : SpecVersion → Bom → List XmlEvent
before_dependencies w b = list_closed (codes "components") b.components ++ (services_row w b ++ (references_row w b ++ list_opened (codes "dependencies") b.dependencies))

unfoldable pub after_dependencies : SpecVersion → Bom → List XmlEvent
after_dependencies w b = list_closed (codes "dependencies") b.dependencies ++ (compositions_row w b ++ (properties_row w b ++ (signature_row w b ++ (end_tag (codes "bom") ∷ EndDocument ∷ []))))

abbrev pub after_components : SpecVersion → Bom → List XmlEvent
after_components w b = before_dependencies w b ++ (dependencies_written w (all_dependencies b) ++ after_dependencies w b)

-- what is still to be written of a bill
abbrev pub ahead : Bom → SpecVersion → Stage → Ahead
ahead b w stage.Start = record { events = document_in w (bom_tree b); pieces = 3 + length (all_components b) + length (all_dependencies b) }
ahead b w (stage.Components left) = record { events = components_written w left.now ++ after_components w b; pieces = 2 + length left.now + length (all_dependencies b) }
ahead b w (stage.Dependencies left) = record { events = dependencies_written w left.now ++ after_dependencies w b; pieces = 1 + length left.now }
ahead b w stage.Done = record { events = []; pieces = 0 }
