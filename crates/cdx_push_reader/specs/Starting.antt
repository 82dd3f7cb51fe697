-- What is asked of the start of a bill's root.
use Rattle.std.specs.Prelude.{◌≡◌, true, Result, Ok, Err, codes, if◌then◌else◌}
use Rattle.std.specs.Str.{bytes_eq}
use Rattle.cdx_events.specs.declared.event.EventKind.TheVariants as kinds
use Rattle.cdx_events.specs.declared.name.OwnedName.{OwnedName}
use Rattle.cdx_events.specs.declared.name.Namespace.{Namespace}
use Rattle.cdx_models.specs.declared.bom.SpecVersion.{SpecVersion}
use Rattle.cdx_models.specs.declared.errors.XmlReadError.{XmlReadError}
use Rattle.cdx_models.specs.Versions.{namespace}
use Rattle.cdx_schema.specs.Faults.{unexpected}
use Rattle.cdx_schema.specs.XmlReading.{in_namespace}

-- The root is named `bom`, or refused at its start.
abbrev pub root_name_read : OwnedName → Result (Unit {0}) XmlReadError
root_name_read n = if bytes_eq n.local_name (codes "bom") then Ok tt else Err (unexpected 1 (codes "bom") kinds.StartElement)

-- The root is a bill's by its name, and in the version's namespace.
abbrev pub IsBillStart : SpecVersion → OwnedName → Namespace → Type 0
IsBillStart v n s = (bytes_eq n.local_name (codes "bom") ≡ true) × (in_namespace s.default (namespace v) ≡ true)
