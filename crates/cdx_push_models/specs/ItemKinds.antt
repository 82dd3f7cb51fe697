-- Of which kind the items of each list are.
use Rattle.std.specs.Prelude.{◌≡◌, refl}
use Rattle.cdx_models.specs.Trees.{contact, hash, property, reference}
use Rattle.cdx_schema.specs.Kinds.{a_record, a_text, authors, endpoints, external_references, hashes, links, properties}
use Rattle.cdx_schema.specs.Table.{list}

pub hashes_item : a_record hash ≡ (list hashes).kind
unfolding list
hashes_item = refl

pub properties_item : a_record property ≡ (list properties).kind
unfolding list
properties_item = refl

pub links_item : a_text ≡ (list links).kind
unfolding list
links_item = refl

pub endpoints_item : a_text ≡ (list endpoints).kind
unfolding list
endpoints_item = refl

pub authors_item : a_record contact ≡ (list authors).kind
unfolding list
authors_item = refl

pub external_references_item : a_record reference ≡ (list external_references).kind
unfolding list
external_references_item = refl
