-- The children of services and of lists of services are read as their kinds.
use Rattle.std.specs.Prelude.{refl}
use Rattle.cdx_models.specs.Trees.{service}
use Rattle.cdx_schema.specs.Kinds.{services}
use Rattle.cdx_schema.specs.Table.{rows, list}
use Rattle.cdx_machine.specs.Feeding.{IsNoBill}
use Rattle.cdx_nest_machine.specs.Children.{ReadsEach, readers_listed}
use Rattle.cdx_nest_machine.specs.Forms.{plan_of, IsNested, record_nested, list_nested}
use Rattle.cdx_push.specs.Leaf.{kind_of as leaf_kind_of}
use Rattle.cdx_service.specs.declared.frames.ServiceKind.{ServiceKind}
use Rattle.cdx_service.specs.declared.frames.ServiceKind.TheVariants.{Service, Services}
use Rattle.cdx_service.specs.Frames.{kind_of, service_readers, services_readers, reader_of}

pub children_by_rows : (s : ServiceKind) → ReadsEach leaf_kind_of kind_of (reader_of s) (plan_of (kind_of s)).children
unfolding rows list
children_by_rows Service = readers_listed leaf_kind_of kind_of service_readers (plan_of (kind_of Service)).children refl
children_by_rows Services = readers_listed leaf_kind_of kind_of services_readers (plan_of (kind_of Services)).children refl

pub kinds_nested : (s : ServiceKind) → IsNested (kind_of s)
unfolding rows
kinds_nested Service = record_nested service refl
kinds_nested Services = list_nested services

pub kinds_no_bill : (s : ServiceKind) → IsNoBill (kind_of s)
kinds_no_bill Service = refl
kinds_no_bill Services = refl
