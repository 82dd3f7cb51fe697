-- Tools, metadata, components and services are read child by child.
use Rattle.std.specs.Prelude.{◌≡◌, refl, ℕ, List, Option}
use Rattle.std.specs.Option.{option_map}
use Rattle.std.proofs.Common.{sym, ap, ◌∙◌}
use Rattle.cdx_models.specs.Trees.{component, pedigree, service, metadata}
use Rattle.cdx_schema.specs.Kinds.{Kind, components, services}
use Rattle.cdx_schema.specs.Table.{rows, list}
use Rattle.cdx_schema.specs.XmlReading.{Child}
use Rattle.cdx_push.specs.declared.kinds.LeafKind.{LeafKind}
use Rattle.cdx_push.specs.Leaf.{kind_of as leaf_kind}
use Rattle.cdx_machine.specs.Feeding.{IsNoBill}
use Rattle.cdx_nest_machine.specs.declared.nested.ChildReader.{ChildReader}
use Rattle.cdx_nest_machine.specs.declared.nested.ChildReader.TheVariants.{Leaf, Nested}
use Rattle.cdx_nest_machine.specs.Forms.{plan_of, IsNested, record_nested, list_nested, tools_nested}
use Rattle.cdx_nest_machine.specs.Children.{ReadsEach, child_kind, readers_listed}
use Rattle.cdx_component.specs.Frames.{kind_of as component_kind, reader_of as component_reader}
use Rattle.cdx_component.specs.FrameLaws.{children_by_rows as component_children}
use Rattle.cdx_component.specs.declared.frames.ComponentKind.{ComponentKind}
use Rattle.cdx_component.specs.declared.frames.ComponentKind.TheVariants as component_kinds
use Rattle.cdx_service.specs.Frames.{kind_of as service_kind, reader_of as service_reader}
use Rattle.cdx_service.specs.FrameLaws.{children_by_rows as service_children}
use Rattle.cdx_service.specs.declared.frames.ServiceKind.{ServiceKind}
use Rattle.cdx_service.specs.declared.frames.ServiceKind.TheVariants as service_kinds
use Rattle.cdx_nest.specs.declared.frames.NestKind.{NestKind}
use Rattle.cdx_nest.specs.declared.frames.NestKind.TheVariants.{Tools, Component, Components, Pedigree, Service, Services, Metadata}
use Rattle.cdx_nest.specs.Frames.{nest_kind, among_components, among_services, reader_as, tools_readers, metadata_readers, reader_of}

-- Kinds of components and of services are the same in the schema.
pub components_alike : (k : ComponentKind) → nest_kind (among_components k) ≡ component_kind k
components_alike component_kinds.Component = refl
components_alike component_kinds.Components = refl
components_alike component_kinds.Pedigree = refl

pub services_alike : (k : ServiceKind) → nest_kind (among_services k) ≡ service_kind k
services_alike service_kinds.Service = refl
services_alike service_kinds.Services = refl

-- What reads the children of those reads them here.
module _ {K : Type 0} (of : K → NestKind) (own : K → Kind) (same : (k : K) → nest_kind (of k) ≡ own k) where
  child_kinds_agree : (r : ChildReader LeafKind K) → child_kind leaf_kind own r ≡ child_kind leaf_kind nest_kind (reader_as of r)
  child_kinds_agree (Leaf l) = refl
  child_kinds_agree (Nested k) = sym (same k)

  reads_here : (child : ℕ → Option (ChildReader LeafKind K)) (cs : List Child) → ReadsEach leaf_kind own child cs → ReadsEach leaf_kind nest_kind (λ i. option_map (reader_as of) (child i)) cs
  reads_here child cs each i row at =
      let (r, is, kind) = each i row at in
      (reader_as of r, ap (λ o. option_map (reader_as of) o) is, kind ∙ child_kinds_agree r)

-- The child of each position is read as the kind of its row.
pub children_by_rows : (s : NestKind) → ReadsEach leaf_kind nest_kind (reader_of s) (plan_of (nest_kind s)).children
unfolding rows list
children_by_rows Tools = readers_listed leaf_kind nest_kind tools_readers (plan_of (nest_kind Tools)).children refl
children_by_rows Component = reads_here among_components component_kind components_alike (component_reader component_kinds.Component) (plan_of (nest_kind Component)).children (component_children component_kinds.Component)
children_by_rows Components = reads_here among_components component_kind components_alike (component_reader component_kinds.Components) (plan_of (nest_kind Components)).children (component_children component_kinds.Components)
children_by_rows Pedigree = reads_here among_components component_kind components_alike (component_reader component_kinds.Pedigree) (plan_of (nest_kind Pedigree)).children (component_children component_kinds.Pedigree)
children_by_rows Service = reads_here among_services service_kind services_alike (service_reader service_kinds.Service) (plan_of (nest_kind Service)).children (service_children service_kinds.Service)
children_by_rows Services = reads_here among_services service_kind services_alike (service_reader service_kinds.Services) (plan_of (nest_kind Services)).children (service_children service_kinds.Services)
children_by_rows Metadata = readers_listed leaf_kind nest_kind metadata_readers (plan_of (nest_kind Metadata)).children refl

pub kinds_nested : (s : NestKind) → IsNested (nest_kind s)
unfolding rows
kinds_nested Tools = tools_nested
kinds_nested Component = record_nested component refl
kinds_nested Components = list_nested components
kinds_nested Pedigree = record_nested pedigree refl
kinds_nested Service = record_nested service refl
kinds_nested Services = list_nested services
kinds_nested Metadata = record_nested metadata refl

pub kinds_no_bill : (s : NestKind) → IsNoBill (nest_kind s)
kinds_no_bill Tools = refl
kinds_no_bill Component = refl
kinds_no_bill Components = refl
kinds_no_bill Pedigree = refl
kinds_no_bill Service = refl
kinds_no_bill Services = refl
kinds_no_bill Metadata = refl
