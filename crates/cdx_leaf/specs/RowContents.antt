-- How the rows of each record stand in XML: as children, or one of them as the text right in the element.
use Rattle.std.specs.Prelude.{◌≡◌, refl}
use Rattle.cdx_models.specs.Trees.{Name, hash, property, attached_text, expression, spdx_id, license_name, copyright, classification}
use Rattle.cdx_models.specs.Names.{every_name}
use Rattle.cdx_schema.specs.Table.{rows}
use Rattle.cdx_schema.specs.XmlReading.{TextContent, no_content, any_text, one_text_alone, content_from}

abbrev pub content_of : Name → TextContent
content_of hash = any_text 1
content_of property = any_text 1
content_of attached_text = one_text_alone 2
content_of expression = any_text 1
content_of spdx_id = one_text_alone 0
content_of license_name = one_text_alone 0
content_of copyright = any_text 0
content_of classification = any_text 1
content_of _ = no_content

pub content_from_rows : (n : Name) → content_from 0 (rows n) ≡ content_of n
unfolding rows
content_from_rows n = every_name (λ m. content_from 0 (rows m)) content_of refl n
