-- What is listed of each record that the walk goes over, and how its steps add up.
use Rattle.std.specs.Prelude.{◌≡◌, refl, ℕ, suc, ◌+◌, ◌<◌, ◌≤◌, List, [], ◌∷◌, ◌++◌, map, length, take, drop, Bool, true, false, if◌then◌else◌, filter, Option, Some, None, codes}
use Rattle.std.proofs.Common.{true≢false, get_or}
use Rattle.std.proofs.lemmas.List.{map-append, append-nil, append_assoc, at_drop_more, at_drop_all}
use mathlib.Core.Path.{ap, sym, ◌∙◌, subst}
use native.Mathlib.Omega.{arith}
use Rattle.cdx_models.specs.declared.errors.Step.{Step}
use Rattle.cdx_models.specs.Trees.{Name, component, pedigree, entity, swid, evidence, metadata, Tree, absent, text, number, boolean, items, fields, Trees, none, more, present, list_tree, each}
use Rattle.cdx_models.specs.Records.{urn_tree, contact_tree, entity_tree, hashes_tree, references_tree, properties_tree, tool_tree}
use Rattle.cdx_license.specs.Records.{licenses_tree}
use Rattle.cdx_signature.specs.Records.{signature_tree}
use Rattle.cdx_code.specs.Records.{commits_tree}
use Rattle.cdx_patch.specs.Records.{patches_tree}
use Rattle.cdx_component_parts.specs.Records.{mime_type_tree, cpe_tree, swid_tree, evidence_tree}
use Rattle.cdx_relations.specs.Records.{dependencies_tree, compositions_tree}
use Rattle.cdx_schema.specs.Kinds.{hashes, licenses, properties, external_references, components, services, authors, commits, patches, dependencies, compositions, Kind, a_text, a_boolean, a_list, a_record, a_tools, a_signature, a_bill, Row}
use Rattle.cdx_schema.specs.Held.{held_kind}
use Rattle.cdx_schema.specs.Table.{rows, list}
use Rattle.cdx_schema.specs.Faults.{to_member, to_item}
use Rattle.cdx_component.specs.declared.component.Component.{Component}
use Rattle.cdx_component.specs.declared.component.Component.TheOpen.{Component-F, Pedigree-F}
use Rattle.cdx_component.specs.declared.component.Component.TheViews.{out-Component, out-Pedigree}
use Rattle.cdx_component.specs.declared.component.Components.{Components}
use Rattle.cdx_component.specs.declared.component.Pedigree.{Pedigree}
use Rattle.cdx_component.specs.Trees.{component_tree, components_tree, pedigree_tree, component_fields, pedigree_fields}
use Rattle.cdx_component.specs.Trees as nested
use Rattle.cdx_component.specs.Laws.{component_tree-out, components_tree-out, pedigree_tree-out}
use Rattle.cdx_service.specs.Trees.{services_tree}
use Rattle.cdx_service.specs.declared.service.Services.{Services}
use Rattle.cdx_nest.specs.Trees.{object_tree, tools_tree, metadata_tree}
use Rattle.cdx_nest.specs.declared.metadata.Metadata.{Metadata}
use Rattle.cdx_models.specs.declared.tool.Tool.{Tool}
use Rattle.cdx_bom.specs.declared.bom.Bom.{Bom}
use Rattle.cdx_bom.specs.Trees.{bom_tree}
use Rattle.cdx_bom.proofs.Names as names
use Rattle.cdx_bom.proofs.Names.{lacks, all_lack, fields_lack, components_spare}
use Rattle.cdx_bom.proofs.Leaves.{text_lacks, boolean_lacks, row_lacks, list_lacks, urn_lacks, mime_type_lacks, cpe_lacks, entity_lacks, contact_lacks, hashes_lack, licenses_lack, swid_lacks, references_lack, properties_lack, evidence_lacks, signature_lacks, commits_lack, patches_lack, tool_lacks, dependencies_lack, compositions_lack}
use Rattle.cdx_bom.proofs.Whole.{services_lack}
use Rattle.cdx_ways.specs.Ways.{At, behind_step, behind_row, behind_choice}
use Rattle.cdx_inventory.specs.declared.entry.Entry.{Entry}
use Rattle.cdx_inventory.specs.Listing.{itself, listed_in, items_listed, rows_listed}
use Rattle.cdx_inventory.specs.Entries.{Told, entry, told, all_told, has_license, inventory}
use Rattle.cdx_inventory.specs.Walks.{entries_below, AddsEntries}
use Rattle.cdx_inventory.proofs.Unlisted.{append_none, behind_none, choice_none}
use Rattle.cdx_schema.proofs.JsonBack.{and_true}
use Rattle.cdx_ways.proofs.Lists.{cut_back}

-- ---- trees without components list nothing

lone : (n : Name) (ts : Trees) → names.is_component n ≡ false → itself n ts ≡ []
lone component ts h = absurd (true≢false h)
lone _ ts h = refl

mutual
  unfolding listed_in lacks

  nothing_in : (t : Tree) (k : Kind) → lacks names.is_component t ≡ true → listed_in t k ≡ []
  nothing_in absent k h = refl
  nothing_in (text s) k h = refl
  nothing_in (number n) k h = refl
  nothing_in (boolean b) k h = refl
  nothing_in (items ts) k h = nothing_in_items ts (held_kind k) 0 h
  nothing_in (fields n ts) k h =
      let p = fields_lack names.is_component n ts h in
      append_none (itself n ts) (behind_choice k n (rows_listed ts (rows n))) (lone n ts p.0) (ap (behind_choice k n) (nothing_in_rows ts (rows n) p.2) ∙ choice_none k n)

  nothing_in_items : (ts : Trees) (k : Kind) (i : ℕ) → all_lack names.is_component ts ≡ true → items_listed ts k i ≡ []
  nothing_in_items none k i h = refl
  nothing_in_items (more t ts) k i h =
      let p = and_true (lacks names.is_component t) (all_lack names.is_component ts) h in
      append_none (behind_step (to_item i) (listed_in t k)) (items_listed ts k (suc i)) (ap (behind_step (to_item i)) (nothing_in t k p.0)) (nothing_in_items ts k (suc i) p.1)

  nothing_in_rows : (ts : Trees) (rs : List Row) → all_lack names.is_component ts ≡ true → rows_listed ts rs ≡ []
  nothing_in_rows none rs h = refl
  nothing_in_rows (more t ts) [] h = refl
  nothing_in_rows (more t ts) (r ∷ rs) h =
      let p = and_true (lacks names.is_component t) (all_lack names.is_component ts) h in
      append_none (behind_row r.json (listed_in t r.kind)) (rows_listed ts rs) (ap (behind_row r.json) (nothing_in t r.kind p.0) ∙ behind_none r.json) (nothing_in_rows ts rs p.1)

leaf : {A : Type 0} (f : A → Tree) (k : Kind) → ((x : A) → lacks names.is_component (f x) ≡ true) → (o : Option A) → listed_in (present f o) k ≡ []
leaf f k h o = nothing_in (present f o) k (row_lacks names.is_component f h o)

a_line : (o : Option (List ℕ)) → listed_in (present text o) a_text ≡ []
a_line o = leaf text a_text (text_lacks names.is_component) o

-- ---- one level at a time

level : {C L P : Type 0} (l : L → Tree) (p : P → Tree) (x : Component-F C L P) → rows_listed (component_fields l p x) (rows component)
    ≡ behind_step (to_member (codes "pedigree")) (listed_in (present p x.pedigree) (a_record pedigree)) ++ (behind_step (to_member (codes "components")) (listed_in (present l x.components) (a_list components)) ++ [])
unfolding listed_in rows
level l p x = rw (
  leaf mime_type_tree a_text (mime_type_lacks names.is_component) x.mime_type,
  a_line x.bom_ref,
  leaf entity_tree (a_record entity) (entity_lacks names.is_component components_spare) x.supplier,
  a_line x.author,
  a_line x.publisher,
  a_line x.group,
  a_line x.version,
  a_line x.description,
  a_line x.scope,
  leaf hashes_tree (a_list hashes) (hashes_lack names.is_component components_spare) x.hashes,
  leaf licenses_tree (a_list licenses) (licenses_lack names.is_component components_spare) x.licenses,
  a_line x.copyright,
  leaf cpe_tree a_text (cpe_lacks names.is_component) x.cpe,
  a_line x.purl,
  leaf swid_tree (a_record swid) (swid_lacks names.is_component components_spare) x.swid,
  leaf boolean a_boolean (boolean_lacks names.is_component) x.modified,
  leaf references_tree (a_list external_references) (references_lack names.is_component components_spare) x.external_references,
  leaf properties_tree (a_list properties) (properties_lack names.is_component components_spare) x.properties,
  leaf evidence_tree (a_record evidence) (evidence_lacks names.is_component components_spare) x.evidence,
  leaf signature_tree a_signature (signature_lacks names.is_component components_spare) x.signature,
) refl

pub component_listed : (c : Component) → listed_in (component_tree c) (a_record component)
    ≡ ([], component_tree c) ∷ (behind_step (to_member (codes "pedigree")) (listed_in (present pedigree_tree (out-Component c).pedigree) (a_record pedigree))
    ++ behind_step (to_member (codes "components")) (listed_in (present components_tree (out-Component c).components) (a_list components)))
unfolding listed_in
component_listed c =
    ap (λ t. listed_in t (a_record component)) (component_tree-out c)
    ∙ (ap (λ xs. ([], fields component (component_fields components_tree pedigree_tree (out-Component c))) ∷ xs) (level components_tree pedigree_tree (out-Component c) ∙ ap (λ xs. behind_step (to_member (codes "pedigree")) (listed_in (present pedigree_tree (out-Component c).pedigree) (a_record pedigree)) ++ xs) (append-nil _))
    ∙ ap (λ t. ([], t) ∷ (behind_step (to_member (codes "pedigree")) (listed_in (present pedigree_tree (out-Component c).pedigree) (a_record pedigree))
    ++ behind_step (to_member (codes "components")) (listed_in (present components_tree (out-Component c).components) (a_list components)))) (sym (component_tree-out c)))

pedigree_level : {C L P : Type 0} (l : L → Tree) (x : Pedigree-F C L P) → rows_listed (pedigree_fields l x) (rows pedigree)
    ≡ behind_step (to_member (codes "ancestors")) (listed_in (present l x.ancestors) (a_list components)) ++ (behind_step (to_member (codes "descendants")) (listed_in (present l x.descendants) (a_list components))
    ++ (behind_step (to_member (codes "variants")) (listed_in (present l x.variants) (a_list components)) ++ []))
unfolding listed_in rows
pedigree_level l x = rw (
  leaf commits_tree (a_list commits) (commits_lack names.is_component components_spare) x.commits,
  leaf patches_tree (a_list patches) (patches_lack names.is_component components_spare) x.patches,
  a_line x.notes,
) refl

pub pedigree_listed : (p : Pedigree) → listed_in (pedigree_tree p) (a_record pedigree)
    ≡ behind_step (to_member (codes "ancestors")) (listed_in (present components_tree (out-Pedigree p).ancestors) (a_list components)) ++ (behind_step (to_member (codes "descendants")) (listed_in (present components_tree (out-Pedigree p).descendants) (a_list components))
    ++ (behind_step (to_member (codes "variants")) (listed_in (present components_tree (out-Pedigree p).variants) (a_list components)) ++ []))
unfolding listed_in
pedigree_listed p = ap (λ t. listed_in t (a_record pedigree)) (pedigree_tree-out p) ∙ pedigree_level components_tree (out-Pedigree p)

pub components_listed : (cs : Components) → listed_in (components_tree cs) (a_list components) ≡ items_listed (each component_tree (nested.component_items cs)) (a_record component) 0
unfolding listed_in list
components_listed cs = ap (λ t. listed_in t (a_list components)) (components_tree-out cs)

pub object_listed : (ss : Option Services) (cs : Option Components) → listed_in (object_tree ss cs) a_tools ≡ behind_step (to_member (codes "components")) (listed_in (present components_tree cs) (a_list components)) ++ []
unfolding listed_in rows
object_listed ss cs = rw (leaf services_tree (a_list services) (services_lack names.is_component components_spare refl) ss) refl

pub tools_unlisted : (ts : List Tool) → listed_in (list_tree tool_tree ts) a_tools ≡ []
tools_unlisted ts = nothing_in (list_tree tool_tree ts) a_tools (list_lacks names.is_component tool_tree (tool_lacks names.is_component components_spare) ts)

pub metadata_listed : (m : Metadata) → listed_in (metadata_tree m) (a_record metadata)
    ≡ behind_step (to_member (codes "tools")) (listed_in (present tools_tree m.tools) a_tools) ++ (behind_step (to_member (codes "component")) (listed_in (present component_tree m.component) (a_record component)) ++ [])
unfolding listed_in rows
metadata_listed m = rw (
  a_line m.timestamp,
  leaf (list_tree contact_tree) (a_list authors) (list_lacks names.is_component contact_tree (contact_lacks names.is_component components_spare)) m.authors,
  leaf entity_tree (a_record entity) (entity_lacks names.is_component components_spare) m.manufacture,
  leaf entity_tree (a_record entity) (entity_lacks names.is_component components_spare) m.supplier,
  leaf licenses_tree (a_list licenses) (licenses_lack names.is_component components_spare) m.licenses,
  leaf properties_tree (a_list properties) (properties_lack names.is_component components_spare) m.properties,
) refl

pub bill_listed : (b : Bom) → listed_in (bom_tree b) a_bill
    ≡ behind_step (to_member (codes "metadata")) (listed_in (present metadata_tree b.metadata) (a_record metadata)) ++ (behind_step (to_member (codes "components")) (listed_in (present components_tree b.components) (a_list components)) ++ [])
unfolding listed_in rows
bill_listed b = rw (
  leaf urn_tree a_text (urn_lacks names.is_component) b.serial_number,
  leaf services_tree (a_list services) (services_lack names.is_component components_spare refl) b.services,
  leaf references_tree (a_list external_references) (references_lack names.is_component components_spare) b.external_references,
  leaf dependencies_tree (a_list dependencies) (dependencies_lack names.is_component components_spare) b.dependencies,
  leaf compositions_tree (a_list compositions) (compositions_lack names.is_component components_spare) b.compositions,
  leaf properties_tree (a_list properties) (properties_lack names.is_component components_spare) b.properties,
  leaf signature_tree a_signature (signature_lacks names.is_component components_spare) b.signature,
) refl

pub nothing_present : {A : Type 0} (f : A → Tree) (k : Kind) → listed_in (present f None) k ≡ []
unfolding listed_in
nothing_present f k = refl

-- ---- how steps add up

below_append : (p : List Step) (xs ys : List (At Tree)) → entries_below p (xs ++ ys) ≡ entries_below p xs ++ entries_below p ys
below_append p xs ys = map-append (λ x. entry (p ++ x.0, x.1)) xs ys

below_step : (p : List Step) (s : Step) (xs : List (At Tree)) → entries_below (p ++ s ∷ []) xs ≡ entries_below p (behind_step s xs)
below_step p s [] = refl
below_step p s (x ∷ xs) = ap (λ q. entry (q, x.1) ∷ entries_below (p ++ s ∷ []) xs) (append_assoc p (s ∷ []) x.0) ∙ ap (λ es. entry (p ++ s ∷ x.0, x.1) ∷ es) (below_step p s xs)

pub adds_same : (xs ys : List (At Tree)) (p q : List Step) (e f : List Entry) → ys ≡ xs → AddsEntries xs p q e f → AddsEntries ys p q e f
adds_same xs ys p q e f h a = subst (λ (zs : List (At Tree)). AddsEntries zs p q e f) (sym h) a

pub adds_none : (p : List Step) (e : List Entry) → AddsEntries [] p p e e
adds_none p e = (refl, sym (append-nil (all_told e)))

pub adds_both : (xs ys : List (At Tree)) (p q r : List Step) (e f g : List Entry) → AddsEntries xs p q e f → AddsEntries ys q r f g → AddsEntries (xs ++ ys) p r e g
adds_both xs ys p q r e f g a b = (
  b.0 ∙ a.0,
  b.1 ∙ (ap (λ z. all_told f ++ entries_below z ys) a.0 ∙ (ap (λ z. z ++ entries_below p ys) a.1 ∙ (append_assoc (all_told e) (entries_below p xs) (entries_below p ys) ∙ ap (λ z. all_told e ++ z) (sym (below_append p xs ys))))),
)

-- what is listed behind a step, where the path is cut back to where it began
pub adds_behind : (s : Step) (xs : List (At Tree)) (p q r t : List Step) (e f : List Entry) → q ≡ p ++ s ∷ [] → t ≡ p → AddsEntries xs q r e f → AddsEntries (behind_step s xs) p t e f
adds_behind s xs p q r t e f is back a = (back, a.1 ∙ ap (λ z. all_told e ++ z) (ap (λ z. entries_below z xs) is ∙ below_step p s xs))

pub adds_one : (c : Tree) (p : List Step) (e f : List Entry) (x : Entry) → f ≡ e ++ x ∷ [] → told x ≡ entry (p, c) → AddsEntries (([], c) ∷ []) p p e f
adds_one c p e f x is h = (refl, ap all_told is ∙ (map-append told e (x ∷ []) ∙ ap (λ z. all_told e ++ z ∷ []) (h ∙ ap (λ q. entry (q, c)) (sym (append-nil p)))))

pub adds_end : (xs : List (At Tree)) (p q : List Step) (e f : List Entry) → AddsEntries xs p q e f → AddsEntries (xs ++ []) p q e f
adds_end xs p q e f a = adds_same xs (xs ++ []) p q e f (append-nil xs) a

-- a row in which nothing stands
pub adds_absent : {A : Type 0} (f : A → Tree) (k : Kind) (s : Step) (o : Option A) (p : List Step) (e : List Entry) → o ≡ None → AddsEntries (behind_step s (listed_in (present f o) k)) p p e e
adds_absent f k s o p e is = adds_same [] (behind_step s (listed_in (present f o) k)) p p e e (ap (λ z. behind_step s (listed_in (present f z) k)) is ∙ ap (behind_step s) (nothing_present f k)) (adds_none p e)

-- a row in which something stands, where the path went on by the row's name and is cut back
pub adds_row : {A : Type 0} (f : A → Tree) (k : Kind) (s : Step) (x : A) (o : Option A) (p q r t : List Step) (n : ℕ) (e g : List Entry) → o ≡ Some x → q ≡ p ++ s ∷ [] → n ≡ length p → t ≡ take n r
    → AddsEntries (listed_in (f x) k) q r e g → AddsEntries (behind_step s (listed_in (present f o) k)) p t e g
adds_row f k s x o p q r t n e g is next long cut a =
    adds_same (behind_step s (listed_in (f x) k)) (behind_step s (listed_in (present f o) k)) p t e g (ap (λ z. behind_step s (listed_in (present f z) k)) is)
    (adds_behind s (listed_in (f x) k) p q r t e g next (cut_back p q r t s n next a.0 long cut) a)

-- what is listed from nothing on is the inventory
pub bill_told : (b : Bom) (p q : List Step) (e f : List Entry) → p ≡ [] → e ≡ []
    → AddsEntries (behind_step (to_member (codes "metadata")) (listed_in (present metadata_tree b.metadata) (a_record metadata)) ++ (behind_step (to_member (codes "components")) (listed_in (present components_tree b.components) (a_list components)) ++ [])) p q e f
    → all_told f ≡ inventory (bom_tree b) None
bill_told b p q e f start empty a =
    let xs = behind_step (to_member (codes "metadata")) (listed_in (present metadata_tree b.metadata) (a_record metadata)) ++ (behind_step (to_member (codes "components")) (listed_in (present components_tree b.components) (a_list components)) ++ []) in
    a.1 ∙ (ap (λ z. all_told z ++ entries_below p xs) empty ∙ (ap (λ z. entries_below z xs) start ∙ ap (map entry) (sym (bill_listed b))))

-- ---- the items of a list

-- what is still to be listed from an item on, behind what is there, is the whole
abbrev pub Remains : {X : Type 0} → (X → Tree) → Kind → List Step → List X → ℕ → List Entry → List Told → Type 0
Remains f k p xs i e whole = all_told e ++ entries_below p (items_listed (each f (drop i xs)) k i) ≡ whole

next_item : (i : ℕ) → suc i ≡ i + 1
next_item i = omega arith

item_step : {X : Type 0} (f : X → Tree) (k : Kind) (xs : List X) (i : ℕ) (x : X) → i < length xs → x ≡ get_or xs i x
    → items_listed (each f (drop i xs)) k i ≡ behind_step (to_item i) (listed_in (f x) k) ++ items_listed (each f (drop (i + 1) xs)) k (i + 1)
unfolding listed_in
item_step f k xs i x h is =
    at_drop_more (λ zs. items_listed (each f zs) k i) xs i x h
    ∙ (ap (λ n. behind_step (to_item i) (listed_in (f (get_or xs i x)) k) ++ items_listed (each f (drop (i + 1) xs)) k n) (next_item i)
    ∙ ap (λ z. behind_step (to_item i) (listed_in (f z) k) ++ items_listed (each f (drop (i + 1) xs)) k (i + 1)) (sym is))

pub remains_next : {X : Type 0} (f : X → Tree) (k : Kind) (p : List Step) (xs : List X) (i : ℕ) (x : X) (e g : List Entry) (whole : List Told) → i < length xs → x ≡ get_or xs i x
    → all_told g ≡ all_told e ++ entries_below (p ++ to_item i ∷ []) (listed_in (f x) k) → Remains f k p xs i e whole → Remains f k p xs (i + 1) g whole
remains_next f k p xs i x e g whole h is a r =
    ap (λ z. z ++ entries_below p (items_listed (each f (drop (i + 1) xs)) k (i + 1))) (a ∙ ap (λ z. all_told e ++ z) (below_step p (to_item i) (listed_in (f x) k)))
    ∙ (append_assoc (all_told e) (entries_below p (behind_step (to_item i) (listed_in (f x) k))) (entries_below p (items_listed (each f (drop (i + 1) xs)) k (i + 1)))
    ∙ (ap (λ z. all_told e ++ z) (sym (below_append p (behind_step (to_item i) (listed_in (f x) k)) (items_listed (each f (drop (i + 1) xs)) k (i + 1))) ∙ ap (entries_below p) (sym (item_step f k xs i x h is))) ∙ r))

pub remains_none : {X : Type 0} (f : X → Tree) (k : Kind) (p : List Step) (xs : List X) (i : ℕ) (e : List Entry) (whole : List Told) → length xs ≤ i → Remains f k p xs i e whole → all_told e ≡ whole
unfolding listed_in
remains_none f k p xs i e whole h r = sym (append-nil (all_told e)) ∙ (ap (λ z. all_told e ++ entries_below p z) (sym (at_drop_all (λ zs. items_listed (each f zs) k i) xs i h)) ∙ r)

-- ---- under a license

kept_told : (b : Bool) (e : Entry) (us : List Entry) (vs : List Told) → all_told us ≡ vs → all_told (if b then e ∷ us else us) ≡ (if b then told e ∷ vs else vs)
kept_told true e us vs h = ap (λ xs. told e ∷ xs) h
kept_told false e us vs h = h

pub licensed_told : (s : List ℕ) (es : List Entry) → all_told (filter (λ e. has_license s (told e)) es) ≡ filter (has_license s) (all_told es)
licensed_told s [] = refl
licensed_told s (e ∷ es) = kept_told (has_license s (told e)) e (filter (λ x. has_license s (told x)) es) (filter (has_license s) (all_told es)) (licensed_told s es)
