-- License choices and identifiers have element names of their own.
use Rattle.std.proofs.Common.{◌≡◌, ℕ, List, codes, refl}
use Rattle.cdx_models.specs.declared.bom.SpecVersion.{SpecVersion}
use Rattle.cdx_models.specs.declared.bom.SpecVersion.TheVariants.{V1_3, V1_4, V1_5}
use Rattle.cdx_models.specs.Trees.{license, expression, spdx_id, license_name, text, fields, Trees, one}
use Rattle.cdx_schema.specs.Kinds.{a_record, a_license_choice, a_license_identifier}
use Rattle.cdx_schema.specs.Table.{rows}
use Rattle.cdx_schema.specs.Keeping.{kept}
use Rattle.cdx_schema.specs.XmlSpelling.{nodes_of}
use Rattle.cdx_write.specs.Spelling.{spelled_events}
use Rattle.cdx_write.specs.Writing.{simple_tag}

pub license_choice : (ts : Trees) (w : SpecVersion) (tag : List ℕ) → spelled_events (fields license ts) w (codes "license") (a_record license) ≡ spelled_events (fields license ts) w tag a_license_choice
unfolding spelled_events kept nodes_of
license_choice ts V1_3 tag = refl
license_choice ts V1_4 tag = refl
license_choice ts V1_5 tag = refl

pub expression_choice : (ts : Trees) (w : SpecVersion) (tag : List ℕ) → spelled_events (fields expression ts) w (codes "expression") (a_record expression) ≡ spelled_events (fields expression ts) w tag a_license_choice
unfolding spelled_events kept nodes_of
expression_choice ts V1_3 tag = refl
expression_choice ts V1_4 tag = refl
expression_choice ts V1_5 tag = refl

pub spdx_identifier : (s : List ℕ) (w : SpecVersion) (tag : List ℕ) → simple_tag (codes "id") s ≡ spelled_events (fields spdx_id (one (text s))) w tag a_license_identifier
unfolding spelled_events kept nodes_of rows
spdx_identifier s V1_3 tag = refl
spdx_identifier s V1_4 tag = refl
spdx_identifier s V1_5 tag = refl

pub name_identifier : (s : List ℕ) (w : SpecVersion) (tag : List ℕ) → simple_tag (codes "name") s ≡ spelled_events (fields license_name (one (text s))) w tag a_license_identifier
unfolding spelled_events kept nodes_of rows
name_identifier s V1_3 tag = refl
name_identifier s V1_4 tag = refl
name_identifier s V1_5 tag = refl
