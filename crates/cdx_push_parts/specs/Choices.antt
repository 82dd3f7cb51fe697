-- Kinds that are read by their element's name: how a license is named, and licenses or expressions.
use Rattle.std.specs.Prelude.{◌≡◌, refl, [], ◌∷◌, codes}
use Rattle.cdx_models.specs.Trees.{license, expression, spdx_id, license_name}
use Rattle.cdx_schema.specs.Kinds.{licenses, a_record, a_license_choice, a_license_identifier}
use Rattle.cdx_schema.specs.Table.{list}
use Rattle.cdx_schema.specs.XmlReading.{plan_of_list, xread}
use Rattle.cdx_machine.specs.Named.{IsByName}
use Rattle.cdx_machine.specs.Several.{kinds_of}

pub identifier_by_name : IsByName a_license_identifier (codes "id") (codes "name") (codes "id or name") (a_record spdx_id) (a_record license_name)
unfolding xread
identifier_by_name = record {
  by_one = λ n a s xs v p d h. rw h refl;
  by_other = λ n a s xs v p d g h. rw (g, h) refl;
  by_neither = λ n a s xs v p d g h. rw (g, h) refl;
}

pub choice_by_name : IsByName a_license_choice (codes "license") (codes "expression") (codes "license or expression") (a_record license) (a_record expression)
unfolding xread
choice_by_name = record {
  by_one = λ n a s xs v p d h. rw h refl;
  by_other = λ n a s xs v p d g h. rw (g, h) refl;
  by_neither = λ n a s xs v p d g h. rw (g, h) refl;
}

pub licenses_kinds : a_license_choice ∷ a_license_choice ∷ [] ≡ kinds_of (plan_of_list licenses).children
unfolding list
licenses_kinds = refl
