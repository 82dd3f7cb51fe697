-- The kinds of the children of each record.
use Rattle.std.specs.Prelude.{◌≡◌, refl, [], ◌∷◌}
use Rattle.cdx_models.specs.Trees.{contact, entity, reference, tool}
use Rattle.cdx_schema.specs.Kinds.{a_list, a_record, a_text, external_references, hashes}
use Rattle.cdx_schema.specs.Table.{rows, list}
use Rattle.cdx_schema.specs.XmlReading.{record_plan}
use Rattle.cdx_machine.specs.Several.{kinds_of}

pub contact_kinds : a_text ∷ a_text ∷ a_text ∷ [] ≡ kinds_of (record_plan contact).children
unfolding rows list
contact_kinds = refl

pub entity_kinds : a_text ∷ a_text ∷ a_record contact ∷ [] ≡ kinds_of (record_plan entity).children
unfolding rows list
entity_kinds = refl

pub reference_kinds : a_text ∷ a_text ∷ a_list hashes ∷ [] ≡ kinds_of (record_plan reference).children
unfolding rows list
reference_kinds = refl

pub tool_kinds : a_text ∷ a_text ∷ a_text ∷ a_list hashes ∷ a_list external_references ∷ [] ≡ kinds_of (record_plan tool).children
unfolding rows list
tool_kinds = refl
