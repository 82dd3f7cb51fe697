-- What is read of tools and metadata, and of components and services, while their elements are open.
use Rattle.std.specs.Prelude.{ℕ, List, [], ◌∷◌, Option}
use Rattle.std.specs.Option.{option_map}
use Rattle.cdx_models.specs.Trees.{component, pedigree, service, metadata, Tree, Trees}
use Rattle.cdx_schema.specs.Kinds.{components, services, Kind, a_list, a_record, a_tools}
use Rattle.cdx_machine.specs.Several.{at_position}
use Rattle.cdx_nest_machine.specs.declared.nested.ChildReader.{ChildReader}
use Rattle.cdx_nest_machine.specs.declared.nested.ChildReader.TheVariants.{Leaf, Nested}
use Rattle.cdx_push.specs.declared.kinds.LeafKind.{LeafKind}
use Rattle.cdx_push.specs.declared.kinds.LeafKind.TheVariants as leaf_kinds
use Rattle.cdx_component.specs.Trees.{component_tree, components_tree, pedigree_tree}
use Rattle.cdx_component.specs.Frames.{frame_kind as component_frame_kind, frame_fields as component_fields, reader_of as component_reader}
use Rattle.cdx_component.specs.declared.frames.ComponentKind.{ComponentKind}
use Rattle.cdx_component.specs.declared.frames.ComponentKind.TheVariants as component_kinds
use Rattle.cdx_service.specs.Trees.{service_tree, services_tree}
use Rattle.cdx_service.specs.Frames.{frame_kind as service_frame_kind, frame_fields as service_fields, reader_of as service_reader}
use Rattle.cdx_service.specs.declared.frames.ServiceKind.{ServiceKind}
use Rattle.cdx_service.specs.declared.frames.ServiceKind.TheVariants as service_kinds
use Rattle.cdx_nest.specs.Trees.{tools_tree, metadata_tree}
use Rattle.cdx_nest.specs.Reading.{tools_part, metadata_part}
use Rattle.cdx_nest.specs.declared.frames.NestKind.{NestKind}
use Rattle.cdx_nest.specs.declared.frames.NestKind.TheVariants.{Tools, Component, Components, Pedigree, Service, Services, Metadata}
use Rattle.cdx_nest.specs.declared.frames.NestValue.{NestValue}
use Rattle.cdx_nest.specs.declared.frames.NestValue.TheVariants as values
use Rattle.cdx_nest.specs.declared.frames.NestFrame.{NestFrame}
use Rattle.cdx_nest.specs.declared.frames.NestFrame.TheVariants as frames

-- the kind in the schema
abbrev pub nest_kind : NestKind → Kind
nest_kind Tools = a_tools
nest_kind Component = a_record component
nest_kind Components = a_list components
nest_kind Pedigree = a_record pedigree
nest_kind Service = a_record service
nest_kind Services = a_list services
nest_kind Metadata = a_record metadata

-- the kinds of components and of services among these
abbrev pub among_components : ComponentKind → NestKind
among_components component_kinds.Component = Component
among_components component_kinds.Components = Components
among_components component_kinds.Pedigree = Pedigree

abbrev pub among_services : ServiceKind → NestKind
among_services service_kinds.Service = Service
among_services service_kinds.Services = Services

-- what a value was read as, and its tree
abbrev pub value_kind : NestValue → NestKind
value_kind (values.Tools x) = Tools
value_kind (values.Component x) = Component
value_kind (values.Components x) = Components
value_kind (values.Pedigree x) = Pedigree
value_kind (values.Service x) = Service
value_kind (values.Services x) = Services
value_kind (values.Metadata x) = Metadata

abbrev pub value_tree : NestValue → Tree
value_tree (values.Tools x) = tools_tree x
value_tree (values.Component x) = component_tree x
value_tree (values.Components x) = components_tree x
value_tree (values.Pedigree x) = pedigree_tree x
value_tree (values.Service x) = service_tree x
value_tree (values.Services x) = services_tree x
value_tree (values.Metadata x) = metadata_tree x

-- what an open element is read as, and its fields so far
abbrev pub frame_kind : NestFrame → NestKind
frame_kind (frames.Component x) = among_components (component_frame_kind x)
frame_kind (frames.Service x) = among_services (service_frame_kind x)
frame_kind (frames.Tools x) = Tools
frame_kind (frames.Metadata x) = Metadata

abbrev pub frame_fields : NestFrame → Trees
frame_fields (frames.Component x) = component_fields x
frame_fields (frames.Service x) = service_fields x
frame_fields (frames.Tools x) = tools_part x
frame_fields (frames.Metadata x) = metadata_part x

-- ---- what reads each child, in the plan's order

abbrev pub Reader : Type 0
Reader = ChildReader LeafKind NestKind

-- by a kind of components or of services, among these kinds
abbrev pub reader_as : {K : Type 0} → (K → NestKind) → ChildReader LeafKind K → Reader
reader_as of (Leaf l) = Leaf l
reader_as of (Nested k) = Nested (of k)

abbrev pub tools_readers : List Reader
tools_readers = Leaf leaf_kinds.Tool ∷ Nested Services ∷ Nested Components ∷ []

abbrev pub metadata_readers : List Reader
metadata_readers = Leaf leaf_kinds.Text ∷ Nested Tools ∷ Leaf leaf_kinds.Authors ∷ Nested Component ∷ Leaf leaf_kinds.Entity ∷ Leaf leaf_kinds.Entity ∷ Leaf leaf_kinds.Licenses ∷ Leaf leaf_kinds.Properties ∷ []

abbrev pub reader_of : NestKind → ℕ → Option Reader
reader_of Tools i = at_position tools_readers i
reader_of Component i = option_map (reader_as among_components) (component_reader component_kinds.Component i)
reader_of Components i = option_map (reader_as among_components) (component_reader component_kinds.Components i)
reader_of Pedigree i = option_map (reader_as among_components) (component_reader component_kinds.Pedigree i)
reader_of Service i = option_map (reader_as among_services) (service_reader service_kinds.Service i)
reader_of Services i = option_map (reader_as among_services) (service_reader service_kinds.Services i)
reader_of Metadata i = at_position metadata_readers i
