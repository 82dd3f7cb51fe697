-- Whole components and services: which names they lack.
use Rattle.std.proofs.Common.{◌≡◌, Bool, true, false, not, List, [], ◌∷◌, map, Option, Some, None, refl, ap, ◌∙◌, subst}
use Rattle.cdx_models.specs.Trees.{Name, component, pedigree, service, Tree, items, fields, ◌⧺◌, trees, present}
use Rattle.cdx_models.specs.Records.{references_tree, properties_tree}
use Rattle.cdx_signature.specs.Records.{signature_tree}
use Rattle.cdx_code.specs.Records.{commits_tree}
use Rattle.cdx_patch.specs.Records.{patches_tree}
use Rattle.cdx_component_parts.specs.Records.{evidence_tree}
use Rattle.cdx_schema.specs.Table.{rows}
use Rattle.cdx_nest.specs.Nested.{Component, Component-F, Pedigree-F, ind-Component, fold-roll-Components, former-Component-pedigree, former-Component-components, Components, Pedigree, origin, naming, marks, component_contents, component_tree, components_tree, pedigree_tree, component_step, components_step, pedigree_step, component_fields, pedigree_fields, component_items, component_tree-roll, components_tree-out, pedigree_tree-roll, Service, Service-F, ind-Service, fold-roll-Services, former-Service-services, Services, service_naming, service_access, service_contents, service_tree, services_tree, service_step, services_step, service_fields, service_items, service_tree-roll, services_tree-out}
use Rattle.cdx_bom.proofs.Names.{lacks, all_lack, SparesLeaves, appended_lack}
use Rattle.cdx_bom.proofs.Leaves.{texts_lack, row_lacks, list_lacks, references_lack, properties_lack, evidence_lacks, signature_lacks, commits_lack, patches_lack}
use Rattle.cdx_bom.proofs.Nested.{origin_lack, naming_lack, marks_lack, service_naming_lack, service_access_lack}
use Rattle.cdx_schema.proofs.Sound.{both}

contents_lack : {C L P : Type 0} (Q : Name → Bool) → SparesLeaves Q → (l : L → Tree) (p : P → Tree) (c : Component-F C L P) → lacks Q (present p c.pedigree) ≡ true → lacks Q (present l c.components) ≡ true → all_lack Q (component_contents l p c) ≡ true
unfolding lacks
contents_lack Q h l p c i j =
    rw (i, row_lacks Q references_tree (references_lack Q h) c.external_references, row_lacks Q properties_tree (properties_lack Q h) c.properties, j, row_lacks Q evidence_tree (evidence_lacks Q h) c.evidence, row_lacks Q signature_tree (signature_lacks Q h) c.signature) refl

component_fields_lack : {C L P : Type 0} (Q : Name → Bool) → SparesLeaves Q → Q component ≡ false → (l : L → Tree) (p : P → Tree) (c : Component-F C L P) → lacks Q (present p c.pedigree) ≡ true → lacks Q (present l c.components) ≡ true
    → lacks Q (fields component (component_fields l p c)) ≡ true
unfolding lacks rows
component_fields_lack Q h q l p c i j =
    let rest = appended_lack Q (marks c) (component_contents l p c) (marks_lack Q h c) (contents_lack Q h l p c i j) in
    let named = appended_lack Q (naming c) (marks c ⧺ component_contents l p c) (naming_lack Q h c) rest in
    both (not (Q component)) (all_lack Q (component_fields l p c)) (ap not q) (appended_lack Q (origin c) (naming c ⧺ (marks c ⧺ component_contents l p c)) (origin_lack Q h c) named)

services_fields_lack : {S L : Type 0} (Q : Name → Bool) → SparesLeaves Q → Q service ≡ false → (l : L → Tree) (s : Service-F S L) → lacks Q (present l s.services) ≡ true → lacks Q (fields service (service_fields l s)) ≡ true
unfolding lacks rows
services_fields_lack Q h q l s j =
    let rest : all_lack Q (service_contents l s) ≡ true = rw (row_lacks Q properties_tree (properties_lack Q h) s.properties, j, row_lacks Q signature_tree (signature_lacks Q h) s.signature, texts_lack Q s.trust_zone) refl in
    both (not (Q service)) (all_lack Q (service_fields l s)) (ap not q)
    (appended_lack Q (service_naming s) (service_access s ⧺ service_contents l s) (service_naming_lack Q h s) (appended_lack Q (service_access s) (service_contents l s) (service_access_lack Q h s) rest))

pedigree_fields_lack : {C L P : Type 0} (Q : Name → Bool) → SparesLeaves Q → (l : L → Tree) (p : Pedigree-F C L P) → lacks Q (present l p.ancestors) ≡ true → lacks Q (present l p.descendants) ≡ true → lacks Q (present l p.variants) ≡ true
    → lacks Q (fields pedigree (pedigree_fields l p)) ≡ true
unfolding lacks rows
pedigree_fields_lack Q h l p i j k = rw (h pedigree refl, i, j, k, row_lacks Q commits_tree (commits_lack Q h) p.commits, row_lacks Q patches_tree (patches_lack Q h) p.patches, texts_lack Q p.notes) refl

-- ---- by induction over components

abbrev Lacking : {A : Type 0} → (Name → Bool) → (A → Tree) → A → Type 0
Lacking Q f x = lacks Q (f x) ≡ true

known-pedigree : (Q : Name → Bool) (o : Option ((p : Pedigree) × Lacking Q pedigree_tree p)) → lacks Q (present pedigree_tree (former-Component-pedigree.map ((p : Pedigree) × Lacking Q pedigree_tree p) Pedigree (λ e. e.0) o)) ≡ true
unfolding lacks
known-pedigree Q None = refl
known-pedigree Q (Some e) = e.1

known-components : (Q : Name → Bool) (o : Option ((c : Components) × Lacking Q components_tree c)) → lacks Q (present components_tree (former-Component-components.map ((c : Components) × Lacking Q components_tree c) Components (λ e. e.0) o)) ≡ true
unfolding lacks
known-components Q None = refl
known-components Q (Some e) = e.1

known-services : (Q : Name → Bool) (o : Option ((s : Services) × Lacking Q services_tree s)) → lacks Q (present services_tree (former-Service-services.map ((s : Services) × Lacking Q services_tree s) Services (λ e. e.0) o)) ≡ true
unfolding lacks
known-services Q None = refl
known-services Q (Some e) = e.1

known_items : {A : Type 0} (Q : Name → Bool) (f : A → Tree) (es : List ((x : A) × Lacking Q f x)) → lacks Q (items (trees (map f (map (λ e. e.0) es)))) ≡ true
unfolding lacks
known_items Q f [] = refl
known_items Q f (e ∷ es) = rw (e.1, known_items Q f es) refl

pub component_lacks : (Q : Name → Bool) → SparesLeaves Q → Q component ≡ false → (c : Component) → lacks Q (component_tree c) ≡ true
component_lacks Q h q =
    ind-Component (Lacking Q component_tree) (Lacking Q components_tree) (Lacking Q pedigree_tree)
    (λ x y is.
    ap (lacks Q) (component_tree-roll x)
    ∙ component_fields_lack Q h q components_tree pedigree_tree x
    (subst (λ z. lacks Q (present pedigree_tree z.pedigree) ≡ true) is (known-pedigree Q y.pedigree))
    (subst (λ z. lacks Q (present components_tree z.components) ≡ true) is (known-components Q y.components)))
    (λ x y is. ap (lacks Q) (fold-roll-Components Tree Tree Tree component_step components_step pedigree_step x) ∙ subst (λ z. lacks Q (items (trees (map component_tree z.items.items))) ≡ true) is (known_items Q component_tree y.items.items))
    (λ x y is.
    ap (lacks Q) (pedigree_tree-roll x)
    ∙ pedigree_fields_lack Q h components_tree x
    (subst (λ z. lacks Q (present components_tree z.ancestors) ≡ true) is (known-components Q y.ancestors))
    (subst (λ z. lacks Q (present components_tree z.descendants) ≡ true) is (known-components Q y.descendants))
    (subst (λ z. lacks Q (present components_tree z.variants) ≡ true) is (known-components Q y.variants)))

pub components_lack : (Q : Name → Bool) → SparesLeaves Q → Q component ≡ false → (cs : Components) → lacks Q (components_tree cs) ≡ true
unfolding lacks
components_lack Q h q cs = ap (lacks Q) (components_tree-out cs) ∙ list_lacks Q component_tree (component_lacks Q h q) (component_items cs)

pub service_lacks : (Q : Name → Bool) → SparesLeaves Q → Q service ≡ false → (s : Service) → lacks Q (service_tree s) ≡ true
service_lacks Q h q =
    ind-Service (Lacking Q service_tree) (Lacking Q services_tree)
    (λ x y is. ap (lacks Q) (service_tree-roll x) ∙ services_fields_lack Q h q services_tree x (subst (λ z. lacks Q (present services_tree z.services) ≡ true) is (known-services Q y.services)))
    (λ x y is. ap (lacks Q) (fold-roll-Services Tree Tree service_step services_step x) ∙ subst (λ z. lacks Q (items (trees (map service_tree z.items.items))) ≡ true) is (known_items Q service_tree y.items.items))

pub services_lack : (Q : Name → Bool) → SparesLeaves Q → Q service ≡ false → (ss : Services) → lacks Q (services_tree ss) ≡ true
services_lack Q h q ss = ap (lacks Q) (services_tree-out ss) ∙ list_lacks Q service_tree (service_lacks Q h q) (service_items ss)
