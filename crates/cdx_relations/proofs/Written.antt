-- References as elements.
use Rattle.std.proofs.Common.{◌≡◌, ℕ, List, [], ◌∷◌, codes, refl, ap, ◌∙◌}
use Rattle.cdx_events.specs.declared.name.OwnedName.{OwnedName}
use Rattle.cdx_events.specs.Name.{local}
use Rattle.cdx_models.specs.declared.bom.SpecVersion.{SpecVersion}
use Rattle.cdx_models.specs.Trees.{text}
use Rattle.cdx_schema.specs.Kinds.{a_reference}
use Rattle.cdx_schema.specs.Keeping.{kept}
use Rattle.cdx_schema.specs.XmlSpelling.{nodes_of}
use Rattle.cdx_write.specs.Listed.{item_put}
use Rattle.cdx_write.specs.Spelling.{spelled_events}
use Rattle.cdx_write.specs.Writing.{opening, end_tag}

pub reference_written : (tag s : List ℕ) (n : OwnedName) (v : List ℕ) (w : SpecVersion) → n ≡ local (codes "ref") → v ≡ s
    → opening tag (record { name = n; value = v } ∷ []) ∷ end_tag tag ∷ [] ≡ spelled_events (text s) w tag a_reference
unfolding spelled_events kept nodes_of
reference_written tag s n v w is same =
    ap (λ m. opening tag (record { name = m; value = v } ∷ []) ∷ end_tag tag ∷ []) is
    ∙ ap (λ u. opening tag (record { name = local (codes "ref"); value = u } ∷ []) ∷ end_tag tag ∷ []) same

pub reference_item : (tag s : List ℕ) (w : SpecVersion) → spelled_events (text s) w tag a_reference ≡ item_put tag a_reference (text s) w
unfolding item_put kept
reference_item tag s w = refl
