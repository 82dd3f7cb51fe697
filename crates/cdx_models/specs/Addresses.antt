-- The address of an external reference: its text, and which of its two variants a text gives.
use Rattle.std.specs.Prelude.{ℕ, List, Bool, ◌==◌, codes, if◌then◌else◌}
use Rattle.std.specs.List.{starts_with}
use Rattle.cdx_models.specs.declared.external_reference.Uri.{Uri}
use Rattle.cdx_models.specs.declared.external_reference.Uri.TheVariants.{Url, BomLink}

abbrev pub uri_text : Uri → List ℕ
uri_text (Url s) = s
uri_text (BomLink s) = s

abbrev pub begins_as_bom_link : List ℕ → Bool
begins_as_bom_link s = starts_with ◌==◌ s (codes "urn:cdx:")

abbrev pub uri_of : List ℕ → Uri
uri_of s = if begins_as_bom_link s then BomLink s else Url s
