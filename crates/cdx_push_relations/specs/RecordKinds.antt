-- The kinds of the children of each record.
use Rattle.std.specs.Prelude.{◌≡◌, refl, [], ◌∷◌}
use Rattle.cdx_models.specs.Trees.{composition, dependency, signer}
use Rattle.cdx_schema.specs.Kinds.{a_list, a_reference, a_signature, a_text, assemblies, composed, vulnerabilities}
use Rattle.cdx_schema.specs.Table.{rows, list}
use Rattle.cdx_schema.specs.XmlReading.{record_plan}
use Rattle.cdx_machine.specs.Several.{kinds_of}

pub dependency_kinds : a_reference ∷ [] ≡ kinds_of (record_plan dependency).children
unfolding rows list
dependency_kinds = refl

pub composition_kinds : a_text ∷ a_list assemblies ∷ a_list composed ∷ a_list vulnerabilities ∷ a_signature ∷ [] ≡ kinds_of (record_plan composition).children
unfolding rows list
composition_kinds = refl

pub signer_kinds : a_text ∷ a_text ∷ [] ≡ kinds_of (record_plan signer).children
unfolding rows list
signer_kinds = refl
