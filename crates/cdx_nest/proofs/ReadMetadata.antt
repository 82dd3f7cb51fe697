-- Metadata in XML: no attributes, and nothing that has to be there.
use Rattle.std.proofs.Common.{◌≡◌, ℕ, List, Ok, refl, sym, ap, ◌∙◌}
use Rattle.cdx_events.specs.declared.name.OwnedAttribute.{OwnedAttribute}
use Rattle.cdx_models.specs.declared.bom.SpecVersion.{SpecVersion}
use Rattle.cdx_models.specs.Trees.{metadata, absent, fields, Tree, Trees, none, more}
use Rattle.cdx_schema.specs.Results.{◌>>=◌}
use Rattle.cdx_schema.specs.Table.{rows}
use Rattle.cdx_schema.specs.XmlReading.{attributes_read, ended}
use Rattle.cdx_machine.specs.Plain.{attributes_first}
use Rattle.cdx_machine.specs.Records.{record_end}
use Rattle.cdx_nest.specs.Reading.{metadata_part}
use Rattle.cdx_nest.specs.declared.frames.metadata.MetadataPart.{MetadataPart}

abbrev nothing_yet : Trees
nothing_yet = more absent (more absent (more absent (more absent (more absent (more absent (more absent (more absent none)))))))

pub metadata_begins : (a : List OwnedAttribute) (v : SpecVersion) (el : List ℕ) (p : ℕ) → attributes_first metadata el a v p ≡ Ok nothing_yet
unfolding rows attributes_read
metadata_begins a v el p = refl

nothing_lacks : (m : MetadataPart) (v : SpecVersion) (el : List ℕ) (q : ℕ) → ended (rows metadata) (metadata_part m) v el q ≡ Ok (metadata_part m)
unfolding rows ended
nothing_lacks m v el q = refl

pub metadata_ends : (m : MetadataPart) (t : Tree) (v : SpecVersion) (el : List ℕ) (q : ℕ) → t ≡ fields metadata (metadata_part m) → record_end metadata el v q (metadata_part m) ≡ Ok t
metadata_ends m t v el q is = ap (λ r. r >>= λ us. Ok (fields metadata us)) (nothing_lacks m v el q) ∙ ap (λ t. Ok t) (sym is)
