-- The text of an address that a text gives is that text.
use Rattle.std.proofs.Common.{◌≡◌, ℕ, List, Bool, true, false, refl}
use Rattle.std.specs.Prelude.{if◌then◌else◌}
use Rattle.cdx_models.specs.Addresses.{uri_of, uri_text, begins_as_bom_link}
use Rattle.cdx_models.specs.declared.external_reference.Uri.TheVariants.{Url, BomLink}

pub text_of_uri : (s : List ℕ) → uri_text (uri_of s) ≡ s
text_of_uri s = go (begins_as_bom_link s)
  where
    go : (b : Bool) → uri_text (if b then BomLink s else Url s) ≡ s
    go true = refl
    go false = refl
