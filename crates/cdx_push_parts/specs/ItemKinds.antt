-- Of which kind the items of each list are.
use Rattle.std.specs.Prelude.{◌≡◌, refl}
use Rattle.cdx_models.specs.Trees.{copyright}
use Rattle.cdx_schema.specs.Kinds.{a_record, copyright_texts}
use Rattle.cdx_schema.specs.Table.{list}

pub copyright_texts_item : a_record copyright ≡ (list copyright_texts).kind
unfolding list
copyright_texts_item = refl
