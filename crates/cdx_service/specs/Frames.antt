-- Services and lists of services as kinds of frames: what reads their children, and the fields so far.
use Rattle.std.specs.Prelude.{ℕ, List, [], ◌∷◌, ◌++◌, Option}
use Rattle.cdx_models.specs.Trees.{service, Tree, Trees}
use Rattle.cdx_schema.specs.Kinds.{Kind, services, a_list, a_record}
use Rattle.cdx_machine.specs.Records.{items_slots}
use Rattle.cdx_machine.specs.Several.{at_position}
use Rattle.cdx_nest_machine.specs.declared.nested.ChildReader.{ChildReader}
use Rattle.cdx_nest_machine.specs.declared.nested.ChildReader.TheVariants.{Leaf, Nested}
use Rattle.cdx_push.specs.declared.kinds.LeafKind.{LeafKind}
use Rattle.cdx_push.specs.declared.kinds.LeafKind.TheVariants as leaf_kinds
use Rattle.cdx_service.specs.declared.frames.ServiceKind.{ServiceKind}
use Rattle.cdx_service.specs.declared.frames.ServiceKind.TheVariants as kinds
use Rattle.cdx_service.specs.declared.frames.ServiceValue.{ServiceValue}
use Rattle.cdx_service.specs.declared.frames.ServiceValue.TheVariants as values
use Rattle.cdx_service.specs.declared.frames.ServiceFrame.{ServiceFrame}
use Rattle.cdx_service.specs.declared.frames.ServiceFrame.TheVariants as frames
use Rattle.cdx_service.specs.Trees.{service_tree, services_tree, service_items}
use Rattle.cdx_service.specs.ReadingParts.{service_part}

-- the kind in the schema
abbrev pub kind_of : ServiceKind → Kind
kind_of kinds.Service = a_record service
kind_of kinds.Services = a_list services

abbrev pub frame_kind : ServiceFrame → ServiceKind
frame_kind (frames.Service part) = kinds.Service
frame_kind (frames.Services list) = kinds.Services

abbrev pub frame_fields : ServiceFrame → Trees
frame_fields (frames.Service part) = service_part part
frame_fields (frames.Services list) = items_slots service_tree (service_items list)

abbrev pub value_kind : ServiceValue → ServiceKind
value_kind (values.Service x) = kinds.Service
value_kind (values.Services xs) = kinds.Services

abbrev pub value_tree : ServiceValue → Tree
value_tree (values.Service x) = service_tree x
value_tree (values.Services xs) = services_tree xs

-- ---- what reads each child, in the plan's order

abbrev pub Reader : Type 0
Reader = ChildReader LeafKind ServiceKind

-- provider, group, name, version and description
abbrev pub naming_readers : List Reader
naming_readers = Leaf leaf_kinds.Entity ∷ Leaf leaf_kinds.Text ∷ Leaf leaf_kinds.Text ∷ Leaf leaf_kinds.Text ∷ Leaf leaf_kinds.Text ∷ []

-- endpoints, authenticated, x-trust-boundary, data, licenses and externalReferences
abbrev pub access_readers : List Reader
access_readers = Leaf leaf_kinds.Endpoints ∷ Leaf leaf_kinds.Flag ∷ Leaf leaf_kinds.Flag ∷ Leaf leaf_kinds.Data ∷ Leaf leaf_kinds.Licenses ∷ Leaf leaf_kinds.ExternalReferences ∷ []

-- properties, services, signature and trustZone
abbrev pub contents_readers : List Reader
contents_readers = Leaf leaf_kinds.Properties ∷ Nested kinds.Services ∷ Leaf leaf_kinds.Signature ∷ Leaf leaf_kinds.Text ∷ []

abbrev pub service_readers : List Reader
service_readers = naming_readers ++ (access_readers ++ contents_readers)

-- each item is a service
abbrev pub services_readers : List Reader
services_readers = Nested kinds.Service ∷ []

abbrev pub reader_of : ServiceKind → ℕ → Option Reader
reader_of kinds.Service = at_position service_readers
reader_of kinds.Services = at_position services_readers
