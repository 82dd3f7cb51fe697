-- The kinds of the children of each record.
use Rattle.std.specs.Prelude.{◌≡◌, refl, [], ◌∷◌}
use Rattle.cdx_models.specs.Trees.{attached_text, classification, evidence, license, service_data, swid}
use Rattle.cdx_schema.specs.Kinds.{a_license_identifier, a_list, a_record, a_text, copyright_texts, licenses, properties}
use Rattle.cdx_schema.specs.Table.{rows, list}
use Rattle.cdx_schema.specs.XmlReading.{record_plan}
use Rattle.cdx_machine.specs.Several.{kinds_of}

pub license_kinds : a_license_identifier ∷ a_license_identifier ∷ a_record attached_text ∷ a_text ∷ a_list properties ∷ [] ≡ kinds_of (record_plan license).children
unfolding rows list
license_kinds = refl

pub swid_kinds : a_record attached_text ∷ a_text ∷ [] ≡ kinds_of (record_plan swid).children
unfolding rows list
swid_kinds = refl

pub evidence_kinds : a_list licenses ∷ a_list copyright_texts ∷ [] ≡ kinds_of (record_plan evidence).children
unfolding rows list
evidence_kinds = refl

pub service_data_kinds : a_record classification ∷ [] ≡ kinds_of (record_plan service_data).children
unfolding rows list
service_data_kinds = refl
