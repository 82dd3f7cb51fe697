-- Bills, read, kept and written group by group.
use Rattle.std.proofs.Common.{◌≡◌, [], ◌++◌, length, Some, None, Result, Vec, Global, refl, sym, ap, ◌∙◌, subst}
use Rattle.serde_json.specs.Data.{Data, Members, object}
use Rattle.serde_json.specs.Data as json
use Rattle.serde_json.specs.Find.{as_object}
use Rattle.cdx_models.specs.declared.bom.SpecVersion.{SpecVersion}
use Rattle.cdx_models.specs.declared.bom.SpecVersion.TheVariants.{V1_3, V1_4, V1_5}
use Rattle.cdx_models.specs.declared.errors.JsonReadError.{JsonReadError}
use Rattle.cdx_models.specs.declared.errors.JsonKind.TheVariants.{WrongKind}
use Rattle.cdx_models.specs.Trees.{bill, Tree, fields, Trees, ◌⧺◌}
use Rattle.cdx_models.proofs.Lists.{count}
use Rattle.cdx_schema.specs.Kinds.{a_bill}
use Rattle.cdx_schema.specs.Table.{rows}
use Rattle.cdx_schema.specs.Depth.{Depth}
use Rattle.cdx_schema.specs.Faults.{here}
use Rattle.cdx_schema.specs.Results.{◌>>=◌}
use Rattle.cdx_schema.specs.Keeping.{kept, keep, rows_kept}
use Rattle.cdx_schema.specs.JsonReading.{Object, jread, seen, bill_read}
use Rattle.cdx_schema.specs.JsonSpelling.{jspell, heading}
use Rattle.cdx_json.specs.Gives.{Fails, Gives, IsFaultAt}
use Rattle.cdx_json.specs.ByRows.{rows_made, own_made, by_rows, as_record}
use Rattle.cdx_json.specs.KeptRows.{rows_held, rows_put}
use Rattle.cdx_schema.specs.Groups.{group}
use Rattle.cdx_json.specs.Groups.{group_read}
use Rattle.cdx_json.specs.Spellings.{spelling_data, spelling_members}
use Rattle.cdx_json.specs.declared.spelling.Spelling.{Object as object_of}
use Rattle.cdx_json.proofs.Rows.{fails_here}
use Rattle.cdx_json.proofs.ByRowsLaws.{by_rows_are, rows_split, rows_then, then_same}
use Rattle.cdx_json.proofs.KeptRowsLaws.{rows_held_are, rows_put_are}
use Rattle.cdx_json.proofs.Groups.{held_split, two_equal, put_split}
use Rattle.cdx_json.proofs.Setting.{Entry, spelling_data-Object}
use Rattle.cdx_bom.specs.declared.bom.Bom.{Bom}
use Rattle.cdx_bom.specs.Trees.{inventory_groups, relations, bom_tree}
use Rattle.cdx_bom.specs.Groups.{format_of, bill_by_groups}

bill_rows : rows bill ≡ group 0 bill ++ group 1 bill
unfolding rows
bill_rows = refl

rows_in_groups : (o : Object) (v : SpecVersion) (d : Depth) → by_rows bill o v d ≡ (group_read 0 bill o v d >>= λ a. group_read 1 bill o v d >>= λ b. as_record bill (a ⧺ b))
rows_in_groups o v d =
    let own = own_made o v d in
    ap (λ rs. rows_made o own rs v d (as_record bill)) bill_rows
    ∙ rows_split o own (group 0 bill) (group 1 bill) v d (as_record bill)
    ∙ then_same (group_read 0 bill o v d) _ _ (λ a. rows_then o own (group 1 bill) v d (λ us. as_record bill (a ⧺ us)))

bill_in_groups : (o : Object) (v : SpecVersion) (d : Depth) → bill_read o v d ≡ bill_by_groups o v d
unfolding bill_by_groups
bill_in_groups o v d = ap (λ r. format_of o v d >>= λ t. r) (sym (by_rows_are bill o v d) ∙ rows_in_groups o v d)

bill_is : (x : Data) (ms : Members) (v : SpecVersion) (d : Depth) → Some ms ≡ as_object x → jread x v a_bill d ≡ bill_read (seen ms) v d
unfolding jread
bill_is json.null ms v d e = absurd cc
bill_is (json.boolean b) ms v d e = absurd cc
bill_is (json.number k) ms v d e = absurd cc
bill_is (json.string s) ms v d e = absurd cc
bill_is (json.array ds) ms v d e = absurd cc
bill_is (json.object ls) ms v d e = let same : ls ≡ ms = cc in ap (λ q. bill_read (seen q) v d) same

bill_wrong : (x : Data) (v : SpecVersion) (d : Depth) → None ≡ as_object x → jread x v a_bill d ≡ here WrongKind
unfolding jread
bill_wrong json.null v d e = refl
bill_wrong (json.boolean b) v d e = refl
bill_wrong (json.number k) v d e = refl
bill_wrong (json.string s) v d e = refl
bill_wrong (json.array ds) v d e = refl
bill_wrong (json.object ls) v d e = absurd cc

pub bill_err : (e : JsonReadError) (x : Data) (v : SpecVersion) (d : Depth) → None ≡ as_object x → IsFaultAt [] WrongKind e → Fails e (jread x v a_bill d)
bill_err e x v d is at = fails_here e WrongKind (jread x v a_bill d) at (bill_wrong x v d is)

pub bill_gives : {X : Type 0} (see : X → Tree) (r : Result X JsonReadError) (x : Data) (ms : Members) (v : SpecVersion) (d : Depth) → Some ms ≡ as_object x → Gives see r (bill_by_groups (seen ms) v d) → Gives see r (jread x v a_bill d)
bill_gives see r x ms v d is h = subst (Gives see r) (sym (bill_is x ms v d is ∙ bill_in_groups (seen ms) v d)) h

-- ---- what is kept

inventory_count : (b : Bom) → count (inventory_groups b) ≡ length (group 0 bill)
unfolding rows
inventory_count b = refl

bill_kept_is : (w l : SpecVersion) (ts : Trees) → fields bill (rows_kept w l ts (rows bill)) ≡ kept w l (fields bill ts) a_bill
unfolding kept
bill_kept_is V1_3 l ts = refl
bill_kept_is V1_4 l ts = refl
bill_kept_is V1_5 l ts = refl

pub bill_kept : (w l : SpecVersion) (t : Tree) (b : Bom) (p q : Trees) → t ≡ fields bill (p ⧺ q) → p ≡ rows_held w l (inventory_groups b) (group 0 bill) → q ≡ rows_held w l (relations b) (group 1 bill) → t ≡ kept w l (bom_tree b) a_bill
bill_kept w l t b p q is i j =
    let split = ap (rows_held w l (inventory_groups b ⧺ relations b)) bill_rows ∙ held_split w l (inventory_groups b) (relations b) (group 0 bill) (group 1 bill) (inventory_count b) in
    is ∙ ap (fields bill) (two_equal p q _ _ i j ∙ sym split ∙ rows_held_are w l (inventory_groups b ⧺ relations b) (rows bill)) ∙ bill_kept_is w l (inventory_groups b ⧺ relations b)

-- ---- what is written

bill_object : (w : SpecVersion) (ts : Trees) → object (rows_put ts w (rows bill) (heading bill)) ≡ jspell (fields bill (rows_kept w w ts (rows bill))) w a_bill
unfolding jspell
bill_object w ts = ap object (rows_put_are ts w (rows bill) (heading bill))

pub bill_members : (b : Bom) (w : SpecVersion) → object (rows_put (relations b) w (group 1 bill) (rows_put (inventory_groups b) w (group 0 bill) (heading bill))) ≡ jspell (keep w (bom_tree b) a_bill) w a_bill
bill_members b w =
    let split = ap (λ rs. rows_put (inventory_groups b ⧺ relations b) w rs (heading bill)) bill_rows ∙ put_split w (inventory_groups b) (relations b) (group 0 bill) (group 1 bill) (heading bill) (inventory_count b) in
    ap object (sym split) ∙ bill_object w (inventory_groups b ⧺ relations b) ∙ ap (λ t. jspell t w a_bill) (bill_kept_is w w (inventory_groups b ⧺ relations b))

pub bill_put : (m : Vec Entry Global) (b : Bom) (w : SpecVersion) (p q : Members) → q ≡ heading bill → p ≡ rows_put (inventory_groups b) w (group 0 bill) q → spelling_members m.items ≡ rows_put (relations b) w (group 1 bill) p
    → spelling_data (object_of m) ≡ jspell (keep w (bom_tree b) a_bill) w a_bill
bill_put m b w p q h i j =
    spelling_data-Object m ∙ ap object (j ∙ ap (rows_put (relations b) w (group 1 bill)) (i ∙ ap (rows_put (inventory_groups b) w (group 0 bill)) h)) ∙ bill_members b w
