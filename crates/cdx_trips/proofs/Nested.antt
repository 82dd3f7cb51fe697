-- Components, services, tools and metadata one level at a time: where a trip may find something to take.
use Rattle.std.proofs.Common.{◌≡◌, Bool, true, false, not, ◌&&◌, ◌==◌, length, List, Option, refl, sym, ap, ◌∙◌}
use mathlib.Core.Bool.{and-true}
use Rattle.cdx_models.specs.Trees.{component, pedigree, entity, service, metadata, tool, fields, each, present, list_tree}
use Rattle.cdx_models.specs.Records.{contact_tree, entity_tree, tool_tree}
use Rattle.cdx_models.specs.declared.tool.Tool.{Tool}
use Rattle.cdx_patch.specs.Records.{patches_tree}
use Rattle.cdx_component_parts.specs.Records.{evidence_tree}
use Rattle.cdx_schema.specs.Kinds.{components, services, authors, patches, a_list, a_record, a_tools}
use Rattle.cdx_schema.specs.Table.{rows, list}
use Rattle.cdx_schema.specs.Trips.{is_hollow}
use Rattle.cdx_nest.specs.Nested.{Component, Component-F, Pedigree-F, out-Component, out-Pedigree, Components, Pedigree, component_tree, components_tree, pedigree_tree, component_fields, pedigree_fields, component_items, component_tree-out, components_tree-out, pedigree_tree-out, Service, Service-F, out-Service, Services, service_tree, services_tree, service_fields, service_items, service_tree-out, services_tree-out}
use Rattle.cdx_nest.specs.Trees.{object_tree, tools_tree, metadata_tree}
use Rattle.cdx_nest.specs.declared.metadata.Metadata.{Metadata}
use Rattle.cdx_trips.specs.Surviving.{comes_as_list, survives, items_survive}
use Rattle.cdx_trips.proofs.Items.{item_survives, tools_there}
use Rattle.cdx_trips.proofs.Untouched.{items_safe}

-- ---- components

-- a test of two parts before others
first_two : (a b c : Bool) → (a && (b && c)) ≡ ((a && b) && c)
first_two true b c = refl
first_two false b c = refl

level_survives : (x : Component-F Component Components Pedigree) → survives (fields component (component_fields components_tree pedigree_tree x)) (a_record component)
    ≡ (not (is_hollow (present entity_tree x.supplier)) && (survives (present entity_tree x.supplier) (a_record entity) && (survives (present pedigree_tree x.pedigree) (a_record pedigree) && (survives (present components_tree x.components) (a_list components) && not (is_hollow (present evidence_tree x.evidence))))))
unfolding survives rows
level_survives x = rw (and-true (not (is_hollow (present evidence_tree x.evidence)))) refl

pub component_rows : (c : Component) → survives (component_tree c) (a_record component)
    ≡ ((not (is_hollow (present entity_tree (out-Component c).supplier)) && survives (present entity_tree (out-Component c).supplier) (a_record entity)) && (survives (present pedigree_tree (out-Component c).pedigree) (a_record pedigree) && (survives (present components_tree (out-Component c).components) (a_list components) && not (is_hollow (present evidence_tree (out-Component c).evidence)))))
component_rows c =
    let o = out-Component c in
    let whole = survives (present entity_tree o.supplier) (a_record entity) in
    let rest = survives (present pedigree_tree o.pedigree) (a_record pedigree) && (survives (present components_tree o.components) (a_list components) && not (is_hollow (present evidence_tree o.evidence))) in
    ap (λ t. survives t (a_record component)) (component_tree-out c) ∙ (level_survives o ∙ first_two (not (is_hollow (present entity_tree o.supplier))) whole rest)

pub component_item : (c : Component) → item_survives (component_tree c) (a_record component) ≡ survives (component_tree c) (a_record component)
component_item c = ap (λ t. item_survives t (a_record component)) (component_tree-out c) ∙ sym (ap (λ t. survives t (a_record component)) (component_tree-out c))

pedigree_level : (x : Pedigree-F Component Components Pedigree) → survives (fields pedigree (pedigree_fields components_tree x)) (a_record pedigree)
    ≡ (survives (present components_tree x.ancestors) (a_list components) && (survives (present components_tree x.descendants) (a_list components) && (survives (present components_tree x.variants) (a_list components) && survives (present patches_tree x.patches) (a_list patches))))
unfolding survives rows
pedigree_level x = rw (and-true (survives (present patches_tree x.patches) (a_list patches))) refl

pub pedigree_rows : (p : Pedigree) → survives (pedigree_tree p) (a_record pedigree)
    ≡ (survives (present components_tree (out-Pedigree p).ancestors) (a_list components) && (survives (present components_tree (out-Pedigree p).descendants) (a_list components) && (survives (present components_tree (out-Pedigree p).variants) (a_list components) && survives (present patches_tree (out-Pedigree p).patches) (a_list patches))))
pedigree_rows p = ap (λ t. survives t (a_record pedigree)) (pedigree_tree-out p) ∙ pedigree_level (out-Pedigree p)

pub components_items : (cs : Components) → survives (components_tree cs) (a_list components) ≡ items_survive (each component_tree (component_items cs)) (a_record component)
unfolding survives list
components_items cs = ap (λ t. survives t (a_list components)) (components_tree-out cs)

-- ---- services

service_level : (x : Service-F Service Services) → survives (fields service (service_fields services_tree x)) (a_record service) ≡ (survives (present entity_tree x.provider) (a_record entity) && survives (present services_tree x.services) (a_list services))
unfolding survives rows
service_level x = rw (and-true (survives (present services_tree x.services) (a_list services))) refl

pub service_rows : (s : Service) → survives (service_tree s) (a_record service) ≡ (survives (present entity_tree (out-Service s).provider) (a_record entity) && survives (present services_tree (out-Service s).services) (a_list services))
service_rows s = ap (λ t. survives t (a_record service)) (service_tree-out s) ∙ service_level (out-Service s)

pub service_item : (s : Service) → item_survives (service_tree s) (a_record service) ≡ survives (service_tree s) (a_record service)
service_item s = ap (λ t. item_survives t (a_record service)) (service_tree-out s) ∙ sym (ap (λ t. survives t (a_record service)) (service_tree-out s))

pub services_items : (ss : Services) → survives (services_tree ss) (a_list services) ≡ items_survive (each service_tree (service_items ss)) (a_record service)
unfolding survives list
services_items ss = ap (λ t. survives t (a_list services)) (services_tree-out ss)

-- ---- tools and metadata

pub object_rows : (ss : Option Services) (cs : Option Components) → survives (object_tree ss cs) a_tools ≡ (survives (present services_tree ss) (a_list services) && survives (present components_tree cs) (a_list components))
unfolding survives rows
object_rows ss cs = rw (and-true (survives (present components_tree cs) (a_list components))) refl

pub list_of_tools : (xs : List Tool) → survives (list_tree tool_tree xs) a_tools ≡ not (length xs == 0)
unfolding survives list
list_of_tools xs =
    ap (λ b. comes_as_list a_tools (each tool_tree xs) && b) (items_safe (each tool_tree xs) (a_record tool) refl)
    ∙ (and-true (comes_as_list a_tools (each tool_tree xs)) ∙ sym (tools_there tool_tree xs))

pub metadata_rows : (m : Metadata) → survives (metadata_tree m) (a_record metadata)
    ≡ (survives (present tools_tree m.tools) a_tools && (survives (present (list_tree contact_tree) m.authors) (a_list authors) && (survives (present component_tree m.component) (a_record component) && (survives (present entity_tree m.manufacture) (a_record entity) && survives (present entity_tree m.supplier) (a_record entity)))))
unfolding survives rows
metadata_rows m = rw (and-true (survives (present entity_tree m.supplier) (a_record entity))) refl
