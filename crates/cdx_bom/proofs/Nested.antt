-- Components, services and metadata, one level at a time: how deep they nest, and which names they lack.
use Rattle.std.proofs.Common.{◌≡◌, ℕ, ◌+◌, ◌<◌, ◌≤◌, Bool, true, false, not, ◌&&◌, List, drop, get_or, length, Option, refl, sym, ap, ◌∙◌, arith}
use mathlib.Core.Bool.{and-true}
use Rattle.std.proofs.lemmas.List.{at_drop_more, at_drop_all}
use Rattle.cdx_models.specs.Trees.{Name, component, pedigree, service, metadata, Tree, text, boolean, Trees, none, more, ◌⧺◌, each, present, list_tree}
use Rattle.cdx_models.specs.Records.{urn_tree, entity_tree, contact_tree, hashes_tree, references_tree, properties_tree, tool_tree}
use Rattle.cdx_license.specs.Records.{licenses_tree}
use Rattle.cdx_signature.specs.Records.{signature_tree}
use Rattle.cdx_code.specs.Records.{commits_tree}
use Rattle.cdx_patch.specs.Records.{patches_tree}
use Rattle.cdx_component_parts.specs.Records.{mime_type_tree, cpe_tree, swid_tree, evidence_tree}
use Rattle.cdx_service_data.specs.Records.{data_tree}
use Rattle.cdx_relations.specs.Records.{dependencies_tree, compositions_tree}
use Rattle.cdx_schema.specs.Depth.{Depth, top, inside, name_too_deep}
use Rattle.cdx_schema.specs.Keeping.{is_shallow, are_shallow}
use Rattle.cdx_nest.specs.Nested.{Component, Component-F, Pedigree-F, out-Component, out-Pedigree, Components, Pedigree, origin, naming, marks, component_contents, component_tree, components_tree, pedigree_tree, component_fields, pedigree_fields, component_items, component_tree-out, components_tree-out, pedigree_tree-out, Service, Service-F, out-Service, Services, service_naming, service_access, service_contents, service_tree, services_tree, service_fields, service_items, service_tree-out, services_tree-out}
use Rattle.cdx_models.specs.declared.tool.Tool.{Tool}
use Rattle.cdx_nest.specs.declared.metadata.Metadata.{Metadata}
use Rattle.cdx_nest.specs.Trees.{object_tree, tools_tree, makers, terms, metadata_tree}
use Rattle.cdx_bom.specs.declared.bom.Bom.{Bom}
use Rattle.cdx_bom.specs.Trees.{inventory_groups, relations, bom_tree}
use Rattle.cdx_bom.proofs.Names.{lacks, all_lack, SparesLeaves, is_counted, counted_spare, is_level, are_level}
use Rattle.cdx_bom.proofs.Leaves.{texts_lack, text_lacks, row_lacks, list_lacks, boolean_lacks, urn_lacks, mime_type_lacks, cpe_lacks, entity_lacks, contact_lacks, hashes_lack, licenses_lack, swid_lacks, references_lack, properties_lack, evidence_lacks, signature_lacks, commits_lack, patches_lack, data_lacks, tool_lacks, dependencies_lack, compositions_lack}

-- ---- the groups of rows in which no component and no service stands

pub origin_lack : {C L P : Type 0} (Q : Name → Bool) → SparesLeaves Q → (c : Component-F C L P) → all_lack Q (origin c) ≡ true
unfolding lacks
origin_lack Q h c =
    rw (row_lacks Q mime_type_tree (mime_type_lacks Q) c.mime_type, texts_lack Q c.bom_ref, row_lacks Q entity_tree (entity_lacks Q h) c.supplier, texts_lack Q c.author, texts_lack Q c.publisher) refl

pub naming_lack : {C L P : Type 0} (Q : Name → Bool) → SparesLeaves Q → (c : Component-F C L P) → all_lack Q (naming c) ≡ true
unfolding lacks
naming_lack Q h c = rw (texts_lack Q c.group, texts_lack Q c.version, texts_lack Q c.description, texts_lack Q c.scope, row_lacks Q hashes_tree (hashes_lack Q h) c.hashes) refl

pub marks_lack : {C L P : Type 0} (Q : Name → Bool) → SparesLeaves Q → (c : Component-F C L P) → all_lack Q (marks c) ≡ true
unfolding lacks
marks_lack Q h c =
    rw (row_lacks Q licenses_tree (licenses_lack Q h) c.licenses, texts_lack Q c.copyright, row_lacks Q cpe_tree (cpe_lacks Q) c.cpe, texts_lack Q c.purl, row_lacks Q swid_tree (swid_lacks Q h) c.swid, row_lacks Q boolean (boolean_lacks Q) c.modified) refl

pub service_naming_lack : {S L : Type 0} (Q : Name → Bool) → SparesLeaves Q → (s : Service-F S L) → all_lack Q (service_naming s) ≡ true
unfolding lacks
service_naming_lack Q h s = rw (texts_lack Q s.bom_ref, row_lacks Q entity_tree (entity_lacks Q h) s.provider, texts_lack Q s.group, texts_lack Q s.version, texts_lack Q s.description) refl

pub service_access_lack : {S L : Type 0} (Q : Name → Bool) → SparesLeaves Q → (s : Service-F S L) → all_lack Q (service_access s) ≡ true
unfolding lacks
service_access_lack Q h s =
    rw (row_lacks Q (list_tree text) (list_lacks Q text (text_lacks Q)) s.endpoints, row_lacks Q boolean (boolean_lacks Q) s.authenticated, row_lacks Q boolean (boolean_lacks Q) s.x_trust_boundary, row_lacks Q data_tree (data_lacks Q h) s.data_items, row_lacks Q licenses_tree (licenses_lack Q h) s.licenses, row_lacks Q references_tree (references_lack Q h) s.external_references) refl

pub relations_lack : (Q : Name → Bool) → SparesLeaves Q → (b : Bom) → all_lack Q (relations b) ≡ true
unfolding lacks
relations_lack Q h b =
    rw (row_lacks Q references_tree (references_lack Q h) b.external_references, row_lacks Q dependencies_tree (dependencies_lack Q h) b.dependencies, row_lacks Q compositions_tree (compositions_lack Q h) b.compositions, row_lacks Q properties_tree (properties_lack Q h) b.properties, row_lacks Q signature_tree (signature_lacks Q h) b.signature) refl

-- ---- depths

-- leaves before and after
level_before : (ts us : Trees) (d : Depth) → all_lack is_counted ts ≡ true → are_shallow (ts ⧺ us) d ≡ are_shallow us d
unfolding is_shallow lacks
level_before none us d h = refl
level_before (more t ts) us d h =
    let p = halves (lacks is_counted t) (all_lack is_counted ts) h in
    ap (λ b. b && are_shallow (ts ⧺ us) d) (is_level t d p.0) ∙ level_before ts us d p.1
  where
    halves : (a b : Bool) → (a && b) ≡ true → (a ≡ true) × (b ≡ true)
    halves true b e = (refl, e)
    halves false b e = absurd cc

level : {A : Type 0} (f : A → Tree) (o : Option A) (d : Depth) → ((x : A) → lacks is_counted (f x) ≡ true) → is_shallow (present f o) d ≡ true
level f o d h = is_level (present f o) d (row_lacks is_counted f h o)

contents_levels : {C L P : Type 0} (l : L → Tree) (p : P → Tree) (c : Component-F C L P) (d : Depth) → are_shallow (component_contents l p c) d ≡ (is_shallow (present p c.pedigree) d && is_shallow (present l c.components) d)
unfolding is_shallow
contents_levels l p c d = rw (
  level references_tree c.external_references d (references_lack is_counted counted_spare),
  level properties_tree c.properties d (properties_lack is_counted counted_spare),
  level evidence_tree c.evidence d (evidence_lacks is_counted counted_spare),
  level signature_tree c.signature d (signature_lacks is_counted counted_spare),
  and-true (is_shallow (present l c.components) d),
) refl

component_fields_level : {C L P : Type 0} (l : L → Tree) (p : P → Tree) (c : Component-F C L P) (d : Depth) → are_shallow (component_fields l p c) d ≡ (is_shallow (present p c.pedigree) d && is_shallow (present l c.components) d)
component_fields_level l p c d =
    level_before (origin c) (naming c ⧺ (marks c ⧺ component_contents l p c)) d (origin_lack is_counted counted_spare c)
    ∙ level_before (naming c) (marks c ⧺ component_contents l p c) d (naming_lack is_counted counted_spare c)
    ∙ level_before (marks c) (component_contents l p c) d (marks_lack is_counted counted_spare c)
    ∙ contents_levels l p c d

component_level : (c : Component) (d : Depth) → is_shallow (component_tree c) d
    ≡ (not (name_too_deep component d) && (is_shallow (present pedigree_tree (out-Component c).pedigree) (inside component d) && is_shallow (present components_tree (out-Component c).components) (inside component d)))
unfolding is_shallow
component_level c d =
    ap (λ t. is_shallow t d) (component_tree-out c) ∙ ap (λ b. not (name_too_deep component d) && b) (component_fields_level components_tree pedigree_tree (out-Component c) (inside component d))

abbrev pub in_component : Depth → Depth
in_component d = record { components = d.components + 1; services = d.services }

abbrev pub in_service : Depth → Depth
in_service d = record { components = d.components; services = d.services + 1 }

inside_component : (d : Depth) → inside component d ≡ in_component d
inside_component d = ap (λ n. record { components = n; services = d.services }) (omega arith)

inside_service : (d : Depth) → inside service d ≡ in_service d
inside_service d = ap (λ n. record { components = d.components; services = n }) (omega arith)

component_deep : (d : Depth) → 32 ≤ d.components → name_too_deep component d ≡ true
component_deep d h = grind arith

component_not_deep : (d : Depth) → d.components < 32 → name_too_deep component d ≡ false
component_not_deep d h = grind arith

service_deep : (d : Depth) → 32 ≤ d.services → name_too_deep service d ≡ true
service_deep d h = grind arith

service_not_deep : (d : Depth) → d.services < 32 → name_too_deep service d ≡ false
service_not_deep d h = grind arith

pub component_too_deep : (c : Component) (d : Depth) → 32 ≤ d.components → false ≡ is_shallow (component_tree c) d
component_too_deep c d h = sym (component_level c d ∙ ap (λ b. not b && (is_shallow (present pedigree_tree (out-Component c).pedigree) (inside component d) && is_shallow (present components_tree (out-Component c).components) (inside component d))) (component_deep d h))

pub component_levels : (c : Component) (d : Depth) → d.components < 32 → is_shallow (component_tree c) d
    ≡ (is_shallow (present pedigree_tree (out-Component c).pedigree) (in_component d) && is_shallow (present components_tree (out-Component c).components) (in_component d))
component_levels c d h =
    component_level c d
    ∙ ap (λ b. not b && (is_shallow (present pedigree_tree (out-Component c).pedigree) (inside component d) && is_shallow (present components_tree (out-Component c).components) (inside component d))) (component_not_deep d h)
    ∙ ap (λ e. is_shallow (present pedigree_tree (out-Component c).pedigree) e && is_shallow (present components_tree (out-Component c).components) e) (inside_component d)

pedigree_fields_level : {C L P : Type 0} (l : L → Tree) (p : Pedigree-F C L P) (d : Depth) → are_shallow (pedigree_fields l p) d
    ≡ (is_shallow (present l p.ancestors) d && (is_shallow (present l p.descendants) d && is_shallow (present l p.variants) d))
unfolding is_shallow
pedigree_fields_level l p d = rw (
  level commits_tree p.commits d (commits_lack is_counted counted_spare),
  level patches_tree p.patches d (patches_lack is_counted counted_spare),
  is_level (present text p.notes) d (texts_lack is_counted p.notes),
  and-true (is_shallow (present l p.variants) d),
) refl

pub pedigree_levels : (p : Pedigree) (d : Depth) → is_shallow (pedigree_tree p) d
    ≡ (is_shallow (present components_tree (out-Pedigree p).ancestors) d && (is_shallow (present components_tree (out-Pedigree p).descendants) d && is_shallow (present components_tree (out-Pedigree p).variants) d))
unfolding is_shallow
pedigree_levels p d = ap (λ t. is_shallow t d) (pedigree_tree-out p) ∙ pedigree_fields_level components_tree (out-Pedigree p) d

pub components_level : (cs : Components) (d : Depth) → is_shallow (components_tree cs) d ≡ are_shallow (each component_tree (component_items cs)) d
unfolding is_shallow
components_level cs d = ap (λ t. is_shallow t d) (components_tree-out cs)

service_contents_level : {S L : Type 0} (l : L → Tree) (s : Service-F S L) (d : Depth) → are_shallow (service_contents l s) d ≡ is_shallow (present l s.services) d
unfolding is_shallow
service_contents_level l s d = rw (
  level properties_tree s.properties d (properties_lack is_counted counted_spare),
  level signature_tree s.signature d (signature_lacks is_counted counted_spare),
  is_level (present text s.trust_zone) d (texts_lack is_counted s.trust_zone),
  and-true (is_shallow (present l s.services) d),
) refl

service_fields_level : {S L : Type 0} (l : L → Tree) (s : Service-F S L) (d : Depth) → are_shallow (service_fields l s) d ≡ is_shallow (present l s.services) d
service_fields_level l s d =
    level_before (service_naming s) (service_access s ⧺ service_contents l s) d (service_naming_lack is_counted counted_spare s)
    ∙ level_before (service_access s) (service_contents l s) d (service_access_lack is_counted counted_spare s)
    ∙ service_contents_level l s d

service_level : (s : Service) (d : Depth) → is_shallow (service_tree s) d ≡ (not (name_too_deep service d) && is_shallow (present services_tree (out-Service s).services) (inside service d))
unfolding is_shallow
service_level s d =
    ap (λ t. is_shallow t d) (service_tree-out s) ∙ ap (λ b. not (name_too_deep service d) && b) (service_fields_level services_tree (out-Service s) (inside service d))

pub service_too_deep : (s : Service) (d : Depth) → 32 ≤ d.services → false ≡ is_shallow (service_tree s) d
service_too_deep s d h = sym (service_level s d ∙ ap (λ b. not b && is_shallow (present services_tree (out-Service s).services) (inside service d)) (service_deep d h))

pub service_levels : (s : Service) (d : Depth) → d.services < 32 → is_shallow (service_tree s) d ≡ is_shallow (present services_tree (out-Service s).services) (in_service d)
service_levels s d h =
    service_level s d
    ∙ ap (λ b. not b && is_shallow (present services_tree (out-Service s).services) (inside service d)) (service_not_deep d h)
    ∙ ap (is_shallow (present services_tree (out-Service s).services)) (inside_service d)

pub services_level : (ss : Services) (d : Depth) → is_shallow (services_tree ss) d ≡ are_shallow (each service_tree (service_items ss)) d
unfolding is_shallow
services_level ss d = ap (λ t. is_shallow t d) (services_tree-out ss)

-- ---- a test of two parts, one after the other

pub then_both : (p q x y whole : Bool) → whole ≡ (x && y) → p ≡ x → p ≡ true → q ≡ y → q ≡ whole
then_both p q x y whole is a t b = b ∙ sym (is ∙ ap (λ z. z && y) (sym a ∙ t))

pub else_neither : (p x y whole : Bool) → whole ≡ (x && y) → p ≡ x → p ≡ false → p ≡ whole
else_neither p x y whole is a f = f ∙ sym (is ∙ ap (λ z. z && y) (sym a ∙ f))

-- ---- a loop over components or services

abbrev pub from : {A : Type 0} → (A → Tree) → List A → ℕ → Depth → Bool
from f xs i d = are_shallow (each f (drop i xs)) d

from-step : {A : Type 0} (f : A → Tree) (xs : List A) (i : ℕ) (x : A) (d : Depth) → i < length xs → x ≡ get_or xs i x → from f xs i d ≡ (is_shallow (f x) d && from f xs (i + 1) d)
unfolding is_shallow
from-step f xs i x d h p = at_drop_more (λ zs. are_shallow (each f zs) d) xs i x h ∙ ap (λ z. is_shallow (f z) d && from f xs (i + 1) d) (sym p)

pub from-end : {A : Type 0} (f : A → Tree) (xs : List A) (i : ℕ) (d : Depth) → length xs ≤ i → from f xs i d ≡ true
unfolding is_shallow
from-end f xs i d h = at_drop_all (λ zs. are_shallow (each f zs) d) xs i h

pub from-goes : {A : Type 0} (f : A → Tree) (xs : List A) (i : ℕ) (x : A) (d : Depth) (b : Bool) → i < length xs → x ≡ get_or xs i x → is_shallow (f x) d ≡ true → from f xs i d ≡ b → from f xs (i + 1) d ≡ b
from-goes f xs i x d b h p e inv = rw (from-step f xs i x d h p, e) at inv

pub from-stops : {A : Type 0} (f : A → Tree) (xs : List A) (i : ℕ) (x : A) (d : Depth) (b : Bool) → i < length xs → x ≡ get_or xs i x → is_shallow (f x) d ≡ false → from f xs i d ≡ b → false ≡ b
from-stops f xs i x d b h p e inv = rw (from-step f xs i x d h p, e) at inv

-- ---- tools, metadata and bills

pub object_levels : (ss : Option Services) (cs : Option Components) (d : Depth) → is_shallow (object_tree ss cs) d ≡ (is_shallow (present services_tree ss) d && is_shallow (present components_tree cs) d)
unfolding is_shallow
object_levels ss cs d = rw (and-true (is_shallow (present components_tree cs) d)) refl

pub tool_list_levels : (xs : List Tool) (d : Depth) → is_shallow (list_tree tool_tree xs) d ≡ true
tool_list_levels xs d = is_level (list_tree tool_tree xs) d (list_lacks is_counted tool_tree (tool_lacks is_counted counted_spare) xs)

makers_level : (m : Metadata) (d : Depth) → are_shallow (makers m) d ≡ (is_shallow (present tools_tree m.tools) d && is_shallow (present component_tree m.component) d)
unfolding is_shallow
makers_level m d = rw (
  is_level (present text m.timestamp) d (texts_lack is_counted m.timestamp),
  level (list_tree contact_tree) m.authors d (list_lacks is_counted contact_tree (contact_lacks is_counted counted_spare)),
  level entity_tree m.manufacture d (entity_lacks is_counted counted_spare),
  level entity_tree m.supplier d (entity_lacks is_counted counted_spare),
  and-true (is_shallow (present component_tree m.component) d),
) refl

terms_lack : (Q : Name → Bool) → SparesLeaves Q → (m : Metadata) → all_lack Q (terms m) ≡ true
unfolding lacks
terms_lack Q h m = rw (row_lacks Q licenses_tree (licenses_lack Q h) m.licenses, row_lacks Q properties_tree (properties_lack Q h) m.properties) refl

-- leaves at the end
level_after : (ts us : Trees) (d : Depth) → all_lack is_counted us ≡ true → are_shallow (ts ⧺ us) d ≡ are_shallow ts d
unfolding is_shallow
level_after none us d h = are_level us d h
level_after (more t ts) us d h = ap (λ b. is_shallow t d && b) (level_after ts us d h)

pub metadata_levels : (m : Metadata) (d : Depth) → is_shallow (metadata_tree m) d ≡ (is_shallow (present tools_tree m.tools) d && is_shallow (present component_tree m.component) d)
unfolding is_shallow
metadata_levels m d = level_after (makers m) (terms m) d (terms_lack is_counted counted_spare m) ∙ makers_level m d

inventory_level : (b : Bom) (d : Depth) → are_shallow (inventory_groups b) d
    ≡ (is_shallow (present metadata_tree b.metadata) d && (is_shallow (present components_tree b.components) d && is_shallow (present services_tree b.services) d))
unfolding is_shallow
inventory_level b d = rw (
  level urn_tree b.serial_number d (urn_lacks is_counted),
  and-true (is_shallow (present services_tree b.services) d),
) refl

pub bill_levels : (b : Bom) → is_shallow (bom_tree b) top
    ≡ (is_shallow (present metadata_tree b.metadata) top && (is_shallow (present components_tree b.components) top && is_shallow (present services_tree b.services) top))
unfolding is_shallow
bill_levels b = level_after (inventory_groups b) (relations b) top (relations_lack is_counted counted_spare b) ∙ inventory_level b top
