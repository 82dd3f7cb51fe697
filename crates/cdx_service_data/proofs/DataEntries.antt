-- A service's data in JSON: in 1.5 each item is a flow, which may count as its classification, and before a
-- classification.
use Rattle.std.proofs.Common.{◌≡◌, ◌≤◌, length, map, take, ℕ, suc, Bool, true, false, List, [], ◌∷◌, Option, Some, None, Result, Ok, Err, refl, sym, ap, subst, ◌∙◌}
use Rattle.std.proofs.lemmas.List.{take_all}
use Rattle.serde_json.specs.Data.{Data, Items, no_items, item, Members}
use Rattle.serde_json.specs.Data as json
use Rattle.serde_json.specs.Find.{as_array}
use Rattle.cdx_models.specs.declared.bom.SpecVersion.{SpecVersion}
use Rattle.cdx_models.specs.declared.bom.SpecVersion.TheVariants.{V1_3, V1_4, V1_5}
use Rattle.cdx_models.specs.Versions.{knows}
use Rattle.cdx_models.specs.Trees.{classification, service_data, Tree, text, items, fields, Trees, more, trees, each, list_tree, present, absent, number, boolean, fields_of}
use Rattle.cdx_models.specs.Entries.{entry_of}
use Rattle.cdx_schema.specs.Kinds.{Kind, a_list, a_record, a_data, an_entry, classifications, flows}
use Rattle.cdx_schema.specs.Table.{rows, list}
use Rattle.cdx_schema.specs.Depth.{Depth}
use Rattle.cdx_schema.specs.Results.{◌>>=◌}
use Rattle.cdx_schema.specs.Faults.{JsonFault, to_item, under, here}
use Rattle.cdx_schema.specs.JsonReading.{Object, jread, array_items_read}
use Rattle.cdx_schema.specs.JsonSpelling.{jspell, items_spelled, members_spelled}
use Rattle.cdx_schema.specs.Keeping.{kept, keep, items_kept, rows_kept}
use Rattle.cdx_models.specs.declared.errors.JsonReadError.{JsonReadError}
use Rattle.cdx_models.specs.declared.errors.JsonKind.TheVariants.{WrongKind}
use Rattle.cdx_json.specs.Gives.{Fails, Gives, IsFaultAt}
use Rattle.cdx_json.specs.ByRows.{list_read, own_by_rows, by_rows, rows_made}
use Rattle.cdx_json.proofs.Rows.{fails_then, fails_here}
use Rattle.cdx_json.specs.KeptRows.{rows_put, put_own}
use Rattle.cdx_json.proofs.KeptRowsLaws.{rows_put_are}
use Rattle.cdx_service_data.specs.Entries.{over}
use Rattle.cdx_service_data.specs.Records.{classification_tree, service_data_tree, service_classification, service_entry}
use Rattle.cdx_service_data.specs.declared.service.DataClassification.{DataClassification}
use Rattle.cdx_service_data.specs.declared.service.ServiceData.{ServiceData}
use Rattle.cdx_service_data.proofs.Entries.{held, over-each}

-- ---- which version it is

pub late : (v : SpecVersion) → knows V1_5 v ≡ true → V1_5 ≡ v
late V1_3 e = absurd cc
late V1_4 e = absurd cc
late V1_5 e = refl

-- ---- reading

item_early : (x : Data) (v : SpecVersion) (d : Depth) → knows V1_5 v ≡ false → jread x v an_entry d ≡ jread x v (a_record classification) d
unfolding jread
item_early x V1_5 d e = absurd cc
item_early json.null V1_3 d e = refl
item_early (json.boolean b) V1_3 d e = refl
item_early (json.number n) V1_3 d e = refl
item_early (json.string s) V1_3 d e = refl
item_early (json.array xs) V1_3 d e = refl
item_early (json.object ms) V1_3 d e = refl
item_early json.null V1_4 d e = refl
item_early (json.boolean b) V1_4 d e = refl
item_early (json.number n) V1_4 d e = refl
item_early (json.string s) V1_4 d e = refl
item_early (json.array xs) V1_4 d e = refl
item_early (json.object ms) V1_4 d e = refl

items_early : (xs : Items) (v : SpecVersion) (d : Depth) (n : ℕ) → knows V1_5 v ≡ false → array_items_read xs v an_entry d n ≡ array_items_read xs v (a_record classification) d n
unfolding jread
items_early no_items v d n e = refl
items_early (item x xs) v d n e =
    ap (λ r. under (to_item n) r >>= λ t. array_items_read xs v an_entry d (suc n) >>= λ ts. Ok (more t ts)) (item_early x v d e)
    ∙ ap (λ r. under (to_item n) (jread x v (a_record classification) d) >>= λ t. r >>= λ ts. Ok (more t ts)) (items_early xs v d (suc n) e)

pub entries_early : (xs : Items) (b : Bool) (v : SpecVersion) (d : Depth) → b ≡ knows V1_5 v → b ≡ false → list_read xs v an_entry d ≡ list_read xs v (a_record classification) d
entries_early xs b v d is e = ap (λ r. r >>= λ ts. Ok (items ts)) (items_early xs v d 0 (sym is ∙ e))

-- a service data as an entry, and several
abbrev as_entry : Tree → Result Tree JsonFault
as_entry t = Ok (entry_of t)

abbrev as_list : Trees → Result Trees JsonFault
as_list ts = Ok (over entry_of ts)

abbrev pub as_entries : Tree → Result Tree JsonFault
as_entries t = Ok (items (over entry_of (held t)))

item_late : (x : Data) (d : Depth) → jread x V1_5 an_entry d ≡ (jread x V1_5 (a_record service_data) d >>= as_entry)
unfolding jread
item_late json.null d = refl
item_late (json.boolean b) d = refl
item_late (json.number n) d = refl
item_late (json.string s) d = refl
item_late (json.array xs) d = refl
item_late (json.object ms) d = refl

-- one item as an entry, and then the rest
entry_first : (x : Result Tree JsonFault) (xs : Result Trees JsonFault) (n : ℕ)
    → (under (to_item n) (x >>= as_entry) >>= λ t. (xs >>= as_list) >>= λ ts. Ok (more t ts)) ≡ ((under (to_item n) x >>= λ t. xs >>= λ ts. Ok (more t ts)) >>= as_list)
entry_first (Ok t) (Ok ts) n = refl
entry_first (Ok t) (Err e) n = refl
entry_first (Err e) xs n = refl

items_late : (xs : Items) (d : Depth) (n : ℕ) → array_items_read xs V1_5 an_entry d n ≡ (array_items_read xs V1_5 (a_record service_data) d n >>= as_list)
unfolding jread
items_late no_items d n = refl
items_late (item x xs) d n =
    ap (λ r. under (to_item n) r >>= λ t. array_items_read xs V1_5 an_entry d (suc n) >>= λ ts. Ok (more t ts)) (item_late x d)
    ∙ ap (λ r. under (to_item n) (jread x V1_5 (a_record service_data) d >>= as_entry) >>= λ t. r >>= λ ts. Ok (more t ts)) (items_late xs d (suc n))
    ∙ entry_first (jread x V1_5 (a_record service_data) d) (array_items_read xs V1_5 (a_record service_data) d (suc n)) n

list_late : (r : Result Trees JsonFault) → ((r >>= as_list) >>= λ ts. Ok (items ts)) ≡ ((r >>= λ ts. Ok (items ts)) >>= as_entries)
list_late (Ok ts) = refl
list_late (Err e) = refl

entries_late : (xs : Items) (b : Bool) (v : SpecVersion) (d : Depth) → b ≡ knows V1_5 v → b ≡ true → list_read xs v an_entry d ≡ (list_read xs v (a_record service_data) d >>= as_entries)
entries_late xs b v d is e =
    let P : SpecVersion → Type 0 = λ v. list_read xs v an_entry d ≡ (list_read xs v (a_record service_data) d >>= as_entries) in
    subst P (late v (sym is ∙ e)) (ap (λ r. r >>= λ ts. Ok (items ts)) (items_late xs d 0) ∙ list_late (array_items_read xs V1_5 (a_record service_data) d 0))

pub flows_ok : (xs : Items) (b : Bool) (v : SpecVersion) (d : Depth) (ys : List ServiceData) → b ≡ knows V1_5 v → b ≡ true → list_read xs v (a_record service_data) d ≡ Ok (list_tree service_data_tree ys) → list_read xs v an_entry d ≡ Ok (list_tree service_entry ys)
flows_ok xs b v d ys is e h = entries_late xs b v d is e ∙ ap (λ r. r >>= as_entries) h ∙ ap (λ ts. Ok (items ts)) (over-each entry_of service_data_tree ys)

pub flows_err : (m : JsonReadError) (xs : Items) (b : Bool) (v : SpecVersion) (d : Depth) → b ≡ knows V1_5 v → b ≡ true → Fails m (list_read xs v (a_record service_data) d) → Fails m (list_read xs v an_entry d)
flows_err m xs b v d is e h = subst (Fails m) (sym (entries_late xs b v d is e)) (fails_then as_entries m _ h)

data_is : (x : Data) (xs : Items) (v : SpecVersion) (d : Depth) → Some xs ≡ as_array x → jread x v a_data d ≡ list_read xs v an_entry d
unfolding jread
data_is json.null xs v d e = absurd cc
data_is (json.boolean b) xs v d e = absurd cc
data_is (json.number n) xs v d e = absurd cc
data_is (json.string s) xs v d e = absurd cc
data_is (json.array ys) xs v d e = let same : ys ≡ xs = cc in ap (λ q. list_read q v an_entry d) same
data_is (json.object ms) xs v d e = absurd cc

data_wrong : (x : Data) (v : SpecVersion) (d : Depth) → None ≡ as_array x → jread x v a_data d ≡ here WrongKind
unfolding jread
data_wrong json.null v d e = refl
data_wrong (json.boolean b) v d e = refl
data_wrong (json.number n) v d e = refl
data_wrong (json.string s) v d e = refl
data_wrong (json.array xs) v d e = absurd cc
data_wrong (json.object ms) v d e = refl

pub data_gives : {X : Type 0} (see : X → Tree) (r : Result X JsonReadError) (x : Data) (xs : Items) (v : SpecVersion) (d : Depth) → Some xs ≡ as_array x → Gives see r (list_read xs v an_entry d) → Gives see r (jread x v a_data d)
data_gives see r x xs v d is h = subst (Gives see r) (sym (data_is x xs v d is)) h

pub data_err : (m : JsonReadError) (x : Data) (v : SpecVersion) (d : Depth) → None ≡ as_array x → IsFaultAt [] WrongKind m → Fails m (jread x v a_data d)
data_err m x v d is at = fails_here m WrongKind (jread x v a_data d) at (data_wrong x v d is)

-- a classification's own members are those of its record
pub own_classification : (o : Object) (v : SpecVersion) (d : Depth) → by_rows classification o v d ≡ own_by_rows classification o v d
unfolding own_by_rows rows_made rows
own_classification o v d = refl

pub own_fails : (m : JsonReadError) (o : Object) (v : SpecVersion) (d : Depth) → Fails m (by_rows classification o v d) → Fails m (own_by_rows classification o v d)
own_fails m o v d h = subst (Fails m) (own_classification o v d) h

own_kept : (w : SpecVersion) (ts : Trees) (ms : Members) → members_spelled (rows_kept w w ts (rows classification)) w (rows classification) ms ≡ put_own (a_record classification) (fields classification ts) w ms
unfolding put_own jspell kept
own_kept V1_3 ts ms = refl
own_kept V1_4 ts ms = refl
own_kept V1_5 ts ms = refl

pub own_put : (w : SpecVersion) (ts : Trees) (ms : Members) → rows_put ts w (rows classification) ms ≡ put_own (a_record classification) (fields classification ts) w ms
own_put w ts ms = rows_put_are ts w (rows classification) ms ∙ own_kept w ts ms

-- ---- keeping

pub kept_alike : {A : Type 0} (f g : A → Tree) (k m : Kind) (w l : SpecVersion) (xs : List A) → ((x : A) → kept w l (f x) k ≡ kept w l (g x) m) → items_kept w l (each f xs) k ≡ items_kept w l (each g xs) m
unfolding kept
kept_alike f g k m w l [] h = refl
kept_alike f g k m w l (x ∷ xs) h = ap (λ t. more t (items_kept w l (each f xs) k)) (h x) ∙ ap (more (kept w l (g x) m)) (kept_alike f g k m w l xs h)

pub classification_kept : (w l : SpecVersion) (ts : Trees) → kept w l (fields classification ts) (a_record classification) ≡ kept w l (fields classification ts) an_entry
unfolding kept
classification_kept V1_3 l ts = refl
classification_kept V1_4 l ts = refl
classification_kept V1_5 l ts = refl

pub classifications_kept : (w l : SpecVersion) (xs : List DataClassification) → kept w l (list_tree classification_tree xs) (a_list classifications) ≡ kept w l (list_tree classification_tree xs) a_data
unfolding kept list
classifications_kept w l xs = ap items (kept_alike classification_tree classification_tree (a_record classification) an_entry w l xs (λ x. classification_kept w l (fields_of (classification_tree x))))

-- a flow as an entry of 1.5
flow_kept : (l : SpecVersion) (x : ServiceData) → entry_of (kept V1_5 l (service_data_tree x) (a_record service_data)) ≡ kept V1_5 l (service_entry x) an_entry
unfolding kept rows
flow_kept l x = by x.name x.description
  where
    by : (name description : Option (List ℕ))
        → entry_of (kept V1_5 l (fields service_data (trees (present text name ∷ present text description ∷ classification_tree x.classification ∷ []))) (a_record service_data)) ≡ kept V1_5 l (entry_of (fields service_data (trees (present text name ∷ present text description ∷ classification_tree x.classification ∷ [])))) an_entry
    by None None = refl
    by (Some n) None = refl
    by None (Some d) = refl
    by (Some n) (Some d) = refl

flows_over : (l : SpecVersion) (xs : List ServiceData) → over entry_of (items_kept V1_5 l (each service_data_tree xs) (a_record service_data)) ≡ items_kept V1_5 l (each service_entry xs) an_entry
unfolding kept
flows_over l [] = refl
flows_over l (x ∷ xs) =
    ap (λ t. more t (over entry_of (items_kept V1_5 l (each service_data_tree xs) (a_record service_data)))) (flow_kept l x) ∙ ap (more (kept V1_5 l (service_entry x) an_entry)) (flows_over l xs)

flows_kept_1_5 : (l : SpecVersion) (r xs : List ServiceData) → list_tree service_data_tree r ≡ kept V1_5 l (list_tree service_data_tree xs) (a_list flows) → list_tree service_entry r ≡ kept V1_5 l (list_tree service_entry xs) a_data
unfolding kept list
flows_kept_1_5 l r xs e = ap items (sym (over-each entry_of service_data_tree r)) ∙ ap (λ t. items (over entry_of (held t))) e ∙ ap items (flows_over l xs)

pub flows_kept : (b : Bool) (w l : SpecVersion) (r xs : List ServiceData) → b ≡ knows V1_5 w → b ≡ true → list_tree service_data_tree r ≡ kept w l (list_tree service_data_tree xs) (a_list flows) → list_tree service_entry r ≡ kept w l (list_tree service_entry xs) a_data
flows_kept b w l r xs is t =
    let P : SpecVersion → Type 0 = λ w. list_tree service_data_tree r ≡ kept w l (list_tree service_data_tree xs) (a_list flows) → list_tree service_entry r ≡ kept w l (list_tree service_entry xs) a_data in
    subst P (late w (sym is ∙ t)) (flows_kept_1_5 l r xs)

-- a flow as an entry of an earlier version
pub flow_dropped : (w l : SpecVersion) (x : ServiceData) → knows V1_5 w ≡ false → kept w l (service_classification x) (a_record classification) ≡ kept w l (service_entry x) an_entry
unfolding kept rows
flow_dropped w l x e = by w x.name x.description e
  where
    by : (w : SpecVersion) (name description : Option (List ℕ)) → knows V1_5 w ≡ false
        → kept w l (classification_tree x.classification) (a_record classification) ≡ kept w l (entry_of (fields service_data (trees (present text name ∷ present text description ∷ classification_tree x.classification ∷ [])))) an_entry
    by V1_5 n d e = absurd cc
    by V1_3 None None e = refl
    by V1_3 (Some n) None e = refl
    by V1_3 None (Some d) e = refl
    by V1_3 (Some n) (Some d) e = refl
    by V1_4 None None e = refl
    by V1_4 (Some n) None e = refl
    by V1_4 None (Some d) e = refl
    by V1_4 (Some n) (Some d) e = refl

pub flows_dropped : (b : Bool) (w l : SpecVersion) (cs : List DataClassification) (xs : List ServiceData) → b ≡ knows V1_5 w → b ≡ false → list_tree classification_tree cs ≡ list_tree service_classification xs
    → kept w l (list_tree classification_tree cs) (a_list classifications) ≡ kept w l (list_tree service_entry xs) a_data
unfolding kept list
flows_dropped b w l cs xs is f e =
    ap (λ t. kept w l t (a_list classifications)) e ∙ ap items (kept_alike service_classification service_entry (a_record classification) an_entry w l xs (λ x. flow_dropped w l x (sym is ∙ f)))

-- ---- writing

spelled_alike : {A : Type 0} (f g : A → Tree) (k m : Kind) (w : SpecVersion) (xs : List A) → ((x : A) → jspell (keep w (f x) k) w k ≡ jspell (keep w (g x) m) w m) → items_spelled (items_kept w w (each f xs) k) w k ≡ items_spelled (items_kept w w (each g xs) m) w m
unfolding kept jspell
spelled_alike f g k m w [] h = refl
spelled_alike f g k m w (x ∷ xs) h = ap (λ t. item t (items_spelled (items_kept w w (each f xs) k) w k)) (h x) ∙ ap (item (jspell (keep w (g x) m) w m)) (spelled_alike f g k m w xs h)

classification_spelled : (w : SpecVersion) (ts : Trees) → jspell (keep w (fields classification ts) (a_record classification)) w (a_record classification) ≡ jspell (keep w (fields classification ts) an_entry) w an_entry
unfolding kept jspell
classification_spelled V1_3 ts = refl
classification_spelled V1_4 ts = refl
classification_spelled V1_5 ts = refl

pub classifications_spelled : (w : SpecVersion) (xs : List DataClassification) → jspell (keep w (list_tree classification_tree xs) (a_list classifications)) w (a_list classifications) ≡ jspell (keep w (list_tree classification_tree xs) a_data) w a_data
unfolding kept jspell list
classifications_spelled w xs = ap json.array (spelled_alike classification_tree classification_tree (a_record classification) an_entry w xs (λ x. classification_spelled w (fields_of (classification_tree x))))

flow_spelled : (x : ServiceData) → jspell (keep V1_5 (service_data_tree x) (a_record service_data)) V1_5 (a_record service_data) ≡ jspell (keep V1_5 (service_entry x) an_entry) V1_5 an_entry
unfolding kept jspell rows
flow_spelled x = by x.name x.description
  where
    by : (name description : Option (List ℕ))
        → jspell (keep V1_5 (fields service_data (trees (present text name ∷ present text description ∷ classification_tree x.classification ∷ []))) (a_record service_data)) V1_5 (a_record service_data)
        ≡ jspell (keep V1_5 (entry_of (fields service_data (trees (present text name ∷ present text description ∷ classification_tree x.classification ∷ [])))) an_entry) V1_5 an_entry
    by None None = refl
    by (Some n) None = refl
    by None (Some d) = refl
    by (Some n) (Some d) = refl

pub flows_spelled : (b : Bool) (w : SpecVersion) (xs : List ServiceData) → b ≡ knows V1_5 w → b ≡ true → jspell (keep w (list_tree service_data_tree xs) (a_list flows)) w (a_list flows) ≡ jspell (keep w (list_tree service_entry xs) a_data) w a_data
unfolding kept jspell list
flows_spelled b w xs is t =
    let P : SpecVersion → Type 0 = λ w. jspell (keep w (list_tree service_data_tree xs) (a_list flows)) w (a_list flows) ≡ jspell (keep w (list_tree service_entry xs) a_data) w a_data in
    subst P (late w (sym is ∙ t)) (ap json.array (spelled_alike service_data_tree service_entry (a_record service_data) an_entry V1_5 xs flow_spelled))

dropped_spelled : (w : SpecVersion) (x : ServiceData) → knows V1_5 w ≡ false → jspell (keep w (service_classification x) (a_record classification)) w (a_record classification) ≡ jspell (keep w (service_entry x) an_entry) w an_entry
unfolding kept jspell
dropped_spelled w x e = by w (keep w (service_classification x) (a_record classification)) ∙ ap (λ t. jspell t w an_entry) (flow_dropped w w x e)
  where
    by : (w : SpecVersion) (t : Tree) → jspell t w (a_record classification) ≡ jspell t w an_entry
    by w absent = refl
    by w (text s) = refl
    by w (number n) = refl
    by w (boolean b) = refl
    by w (items ts) = refl
    by w (fields n ts) = refl

pub early_spelled : (b : Bool) (w : SpecVersion) (xs : List ServiceData) → b ≡ knows V1_5 w → b ≡ false
    → jspell (keep w (list_tree service_classification xs) (a_list classifications)) w (a_list classifications) ≡ jspell (keep w (list_tree service_entry xs) a_data) w a_data
unfolding kept jspell list
early_spelled b w xs is f = ap json.array (spelled_alike service_classification service_entry (a_record classification) an_entry w xs (λ x. dropped_spelled w x (sym is ∙ f)))

-- ---- the classifications of several, at the end of a loop over them

pub classified_all : (cs : List DataClassification) (xs ys : List ServiceData) (n : ℕ) → xs ≡ ys → length xs ≤ n → map classification_tree cs ≡ map service_classification (take n xs) → list_tree classification_tree cs ≡ list_tree service_classification ys
classified_all cs xs ys n same all e = ap (λ ts. items (trees ts)) (e ∙ ap (map service_classification) (take_all n xs all ∙ same))
