-- Which versions components fit.
use Rattle.std.proofs.Common.{◌≡◌, ℕ, ◌<◌, ◌≤◌, ◌+◌, Bool, true, false, not, ◌&&◌, is_some, List, drop, get_or, length, Option, Some, None, refl, sym, ap, ◌∙◌}
use mathlib.Core.Bool.{and-true}
use Rattle.std.proofs.lemmas.List.{at_drop_more, at_drop_all}
use Rattle.cdx_models.specs.Trees.{component, pedigree, entity, swid, evidence, text, boolean, fields, present, each, is_absent}
use Rattle.cdx_models.specs.Records.{entity_tree, hashes_tree, references_tree, properties_tree}
use Rattle.cdx_license.specs.Records.{licenses_tree}
use Rattle.cdx_signature.specs.Records.{signature_tree}
use Rattle.cdx_code.specs.Records.{commits_tree}
use Rattle.cdx_patch.specs.Records.{patches_tree}
use Rattle.cdx_component_parts.specs.Records.{mime_type_tree, cpe_tree, swid_tree, evidence_tree}
use Rattle.cdx_component_parts.specs.declared.component.Cpe.{Cpe}
use Rattle.cdx_component_parts.specs.declared.component.MimeType.{MimeType}
use Rattle.cdx_schema.specs.Kinds.{components, hashes, licenses, external_references, properties, commits, patches, a_text, a_boolean, a_list, a_record, a_signature}
use Rattle.cdx_schema.specs.Table.{rows, list}
use Rattle.cdx_schema.specs.Keeping.{has_versions, items_have_versions}
use Rattle.cdx_component.specs.declared.component.Component.{Component}
use Rattle.cdx_component.specs.declared.component.Component.TheOpen.{Component-F, Pedigree-F}
use Rattle.cdx_component.specs.declared.component.Component.TheViews.{out-Component, out-Pedigree}
use Rattle.cdx_component.specs.declared.component.Components.{Components}
use Rattle.cdx_component.specs.declared.component.Pedigree.{Pedigree}
use Rattle.cdx_component.specs.Trees.{component_tree, components_tree, pedigree_tree, component_fields, pedigree_fields, component_items}
use Rattle.cdx_component.specs.Laws.{component_tree-out, components_tree-out, pedigree_tree-out}
use Rattle.cdx_component.proofs.LeavesFit.{text_fit, text_fits, boolean_fits, row_fits, entity_fits, hashes_fit, licenses_fit, references_fit, properties_fit, signature_fits, commits_fit, patches_fit, swid_fits, evidence_fits}

present-some : (o : Option (List ℕ)) → not (is_absent (present text o)) ≡ is_some o
present-some None = refl
present-some (Some s) = refl

mime_type_fits : (x : MimeType) → has_versions (mime_type_tree x) a_text ≡ true
mime_type_fits x = text_fit x.0

cpe_fits : (x : Cpe) → has_versions (cpe_tree x) a_text ≡ true
cpe_fits x = text_fit x.0

level_has : (x : Component-F Component Components Pedigree) → has_versions (fields component (component_fields components_tree pedigree_tree x)) (a_record component)
    ≡ (is_some x.version && (has_versions (present pedigree_tree x.pedigree) (a_record pedigree) && has_versions (present components_tree x.components) (a_list components)))
unfolding has_versions rows
level_has x = rw (
  row_fits mime_type_tree a_text mime_type_fits x.mime_type,
  text_fits a_text x.bom_ref,
  row_fits entity_tree (a_record entity) entity_fits x.supplier,
  text_fits a_text x.author,
  text_fits a_text x.publisher,
  text_fits a_text x.group,
  present-some x.version,
  text_fits a_text x.version,
  text_fits a_text x.description,
  text_fits a_text x.scope,
  row_fits hashes_tree (a_list hashes) hashes_fit x.hashes,
  row_fits licenses_tree (a_list licenses) licenses_fit x.licenses,
  text_fits a_text x.copyright,
  row_fits cpe_tree a_text cpe_fits x.cpe,
  text_fits a_text x.purl,
  row_fits swid_tree (a_record swid) swid_fits x.swid,
  row_fits boolean a_boolean boolean_fits x.modified,
  row_fits references_tree (a_list external_references) references_fit x.external_references,
  row_fits properties_tree (a_list properties) properties_fit x.properties,
  row_fits evidence_tree (a_record evidence) evidence_fits x.evidence,
  row_fits signature_tree a_signature signature_fits x.signature,
  and-true (is_some x.version),
  and-true (has_versions (present components_tree x.components) (a_list components)),
) refl

pub component_has : (c : Component) → has_versions (component_tree c) (a_record component)
    ≡ (is_some (out-Component c).version && (has_versions (present pedigree_tree (out-Component c).pedigree) (a_record pedigree) && has_versions (present components_tree (out-Component c).components) (a_list components)))
component_has c = ap (λ t. has_versions t (a_record component)) (component_tree-out c) ∙ level_has (out-Component c)

pedigree_level_has : (x : Pedigree-F Component Components Pedigree) → has_versions (fields pedigree (pedigree_fields components_tree x)) (a_record pedigree)
    ≡ (has_versions (present components_tree x.ancestors) (a_list components) && (has_versions (present components_tree x.descendants) (a_list components) && has_versions (present components_tree x.variants) (a_list components)))
unfolding has_versions rows
pedigree_level_has x = rw (row_fits commits_tree (a_list commits) commits_fit x.commits, row_fits patches_tree (a_list patches) patches_fit x.patches, text_fits a_text x.notes, and-true (has_versions (present components_tree x.variants) (a_list components))) refl

pub pedigree_has : (p : Pedigree) → has_versions (pedigree_tree p) (a_record pedigree)
    ≡ (has_versions (present components_tree (out-Pedigree p).ancestors) (a_list components) && (has_versions (present components_tree (out-Pedigree p).descendants) (a_list components) && has_versions (present components_tree (out-Pedigree p).variants) (a_list components)))
pedigree_has p = ap (λ t. has_versions t (a_record pedigree)) (pedigree_tree-out p) ∙ pedigree_level_has (out-Pedigree p)

pub components_have : (cs : Components) → has_versions (components_tree cs) (a_list components) ≡ items_have_versions (each component_tree (component_items cs)) (a_record component)
unfolding has_versions list
components_have cs = ap (λ t. has_versions t (a_list components)) (components_tree-out cs)

items-step : (xs : List Component) (i : ℕ) (x : Component) → i < length xs → x ≡ get_or xs i x
    → items_have_versions (each component_tree (drop i xs)) (a_record component) ≡ (has_versions (component_tree x) (a_record component) && items_have_versions (each component_tree (drop (i + 1) xs)) (a_record component))
unfolding has_versions
items-step xs i x h p =
    at_drop_more (λ zs. items_have_versions (each component_tree zs) (a_record component)) xs i x h ∙ ap (λ z. has_versions (component_tree z) (a_record component) && items_have_versions (each component_tree (drop (i + 1) xs)) (a_record component)) (sym p)

pub items-end : (xs : List Component) (i : ℕ) → length xs ≤ i → items_have_versions (each component_tree (drop i xs)) (a_record component) ≡ true
unfolding has_versions
items-end xs i h = at_drop_all (λ zs. items_have_versions (each component_tree zs) (a_record component)) xs i h

pub items-goes : (xs : List Component) (i : ℕ) (x : Component) (b : Bool) → i < length xs → x ≡ get_or xs i x → has_versions (component_tree x) (a_record component) ≡ true
    → items_have_versions (each component_tree (drop i xs)) (a_record component) ≡ b → items_have_versions (each component_tree (drop (i + 1) xs)) (a_record component) ≡ b
items-goes xs i x b h p e inv = rw (items-step xs i x h p, e) at inv

pub items-stops : (xs : List Component) (i : ℕ) (x : Component) (b : Bool) → i < length xs → x ≡ get_or xs i x → has_versions (component_tree x) (a_record component) ≡ false
    → items_have_versions (each component_tree (drop i xs)) (a_record component) ≡ b → false ≡ b
items-stops xs i x b h p e inv = rw (items-step xs i x h p, e) at inv

pub ruleset items_rules = (items-end)
