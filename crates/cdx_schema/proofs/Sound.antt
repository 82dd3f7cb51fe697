-- What the rows of the schema have in common.
use Rattle.std.specs.Prelude.{◌≡◌, refl, List, [], ◌∷◌, Bool, true, false, ◌&&◌, ◌⊎◌}
use Rattle.std.proofs.Common.{true≢false, inl, inr}
use mathlib.Core.Path.{ap, sym, ◌∙◌}
use Rattle.cdx_models.specs.declared.bom.SpecVersion.{SpecVersion}
use Rattle.cdx_models.specs.declared.bom.SpecVersion.TheVariants.{V1_3}
use Rattle.cdx_models.specs.Trees.{Name, hash, contact, entity, diff, source, license, expression, spdx_id, license_name, component, pedigree, evidence, classification, service_data, tools_object, metadata, signer, signers, chain, bill, Tree, items, fields, Trees, none, more}
use Rattle.cdx_schema.specs.Kinds.{Lists, components, Kind, a_list, a_record, a_license_choice, a_license_identifier, a_tools, a_data, an_entry, a_signature, a_bill, Need, optional, required_first, Spelled, filled_child, children, Row}
use Rattle.cdx_schema.specs.Table.{rows, list}
use Rattle.cdx_schema.specs.Held.{held_kind}
use Rattle.cdx_schema.specs.Keeping.{has_versions, items_have_versions, rows_have_versions, is_there}
use Rattle.cdx_schema.specs.Membership.{HasShape, HaveShape, FieldsHaveShape, IsRecordOf}
use Rattle.cdx_schema.proofs.JsonBack.{and_true}
use Rattle.cdx_schema.proofs.XmlLaw.{is_list_kind}

pub both : (a b : Bool) → a ≡ true → b ≡ true → (a && b) ≡ true
both a b p q = rw (p, q) refl

-- ---- records and kinds that hold no component

abbrev pub free_name : Name → Bool
free_name component = false
free_name pedigree = false
free_name tools_object = false
free_name metadata = false
free_name bill = false
free_name _ = true

abbrev pub free_list : Lists → Bool
free_list components = false
free_list _ = true

abbrev pub free_kind : Kind → Bool
free_kind (a_list l) = free_list l
free_kind (a_record n) = free_name n
free_kind a_bill = false
free_kind _ = true

abbrev pub free_need : Need → Bool
free_need required_first = false
free_need _ = true

abbrev pub all_free : List Row → Bool
all_free [] = true
all_free (r ∷ rs) = (free_need r.need && free_kind r.kind) && all_free rs

pub rows_free : (n : Name) → free_name n ≡ true → all_free (rows n) ≡ true
unfolding rows
rows_free component h = absurd (true≢false (sym h))
rows_free pedigree h = absurd (true≢false (sym h))
rows_free tools_object h = absurd (true≢false (sym h))
rows_free metadata h = absurd (true≢false (sym h))
rows_free bill h = absurd (true≢false (sym h))
rows_free _ h = refl

list_free : (l : Lists) → free_list l ≡ true → free_kind (list l).kind ≡ true
unfolding list
list_free components h = absurd (true≢false (sym h))
list_free _ h = refl

held_free : (k : Kind) → free_kind k ≡ true → free_kind (held_kind k) ≡ true
unfolding list
held_free (a_list l) h = list_free l h
held_free a_tools h = refl
held_free a_data h = refl
held_free _ h = refl

name_same : (n m : Name) → n ≡ m → free_name m ≡ true → free_name n ≡ true
name_same n m e h = ap free_name e ∙ h

pub there : (n : Need) (t : Tree) → free_need n ≡ true → is_there n t ≡ true
there required_first t h = absurd (true≢false (sym h))
there _ t h = refl

fields_free : (n : Name) (ts : Trees) (k : Kind) → IsRecordOf k n ts → free_kind k ≡ true → (free_name n ≡ true → rows_have_versions ts (rows n) ≡ true) → has_versions (fields n ts) k ≡ true
unfolding has_versions
fields_free n ts a_tools is h f = refl
fields_free n ts (a_record m) is h f = f (name_same n m is h)
fields_free n ts a_license_choice is h f = f (elim is [ inl e ↦ name_same n license e refl | inr e ↦ name_same n expression e refl ])
fields_free n ts a_license_identifier is h f = f (elim is [ inl e ↦ name_same n spdx_id e refl | inr e ↦ name_same n license_name e refl ])
fields_free n ts an_entry is h f = f (elim is [ inl e ↦ name_same n classification e refl | inr e ↦ name_same n service_data e.0 refl ])
fields_free n ts a_signature is h f = f (by is)
  where
    by : (n ≡ signers) ⊎ ((n ≡ chain) ⊎ (n ≡ signer)) → free_name n ≡ true
    by (inl e) = name_same n signers e refl
    by (inr (inl e)) = name_same n chain e refl
    by (inr (inr e)) = name_same n signer e refl
fields_free n ts a_bill is h f = absurd (true≢false (sym h))
fields_free n ts _ is h f = absurd (true≢false is)

mutual
  unfolding has_versions

  pub free_there : (t : Tree) (k : Kind) → HasShape t k → free_kind k ≡ true → has_versions t k ≡ true
  free_there (items ts) k h f = free_items ts (held_kind k) h.1 (held_free k f)
  free_there (fields n ts) k h f = fields_free n ts k h.0 f (λ g. free_rows ts (rows n) h.1 (rows_free n g))
  free_there _ k h f = refl

  pub free_items : (ts : Trees) (k : Kind) → HaveShape ts k → free_kind k ≡ true → items_have_versions ts k ≡ true
  free_items none k h f = refl
  free_items (more t ts) k h f = both (has_versions t k) (items_have_versions ts k) (free_there t k h.0 f) (free_items ts k h.1 f)

  pub free_rows : (ts : Trees) (rs : List Row) → FieldsHaveShape ts rs → all_free rs ≡ true → rows_have_versions ts rs ≡ true
  free_rows none rs h f = refl
  free_rows (more t ts) [] h f = refl
  free_rows (more t ts) (r ∷ rs) h f =
      let p : ((free_need r.need && free_kind r.kind) ≡ true) × (all_free rs ≡ true) = and_true (free_need r.need && free_kind r.kind) (all_free rs) f in
      let q : (free_need r.need ≡ true) × (free_kind r.kind ≡ true) = and_true (free_need r.need) (free_kind r.kind) p.0 in
      both (is_there r.need t && has_versions t r.kind) (rows_have_versions ts rs)
      (both (is_there r.need t) (has_versions t r.kind) (there r.need t q.0) (elim h.0 [ inl e ↦ ap (λ x. has_versions x r.kind) e.0 | inr e ↦ free_there t r.kind e q.1 ]))
      (free_rows ts rs h.1 p.1)

-- ---- which rows may be dropped, by a version and by a trip

-- The records whose rows are all in each version, and which hold no component.
abbrev pub whole_name : Name → Bool
whole_name contact = true
whole_name entity = true
whole_name diff = true
whole_name source = true
whole_name evidence = true
whole_name _ = false

abbrev pub whole_kind : Kind → Bool
whole_kind (a_record n) = whole_name n
whole_kind _ = false

abbrev pub sound_since : SpecVersion → Need → Kind → Bool
sound_since V1_3 n k = true
sound_since _ optional k = free_kind k
sound_since _ _ k = false

abbrev pub sound_xml : Spelled → Need → Kind → Bool
sound_xml (filled_child q) optional k = free_kind k && whole_kind k
sound_xml (filled_child q) _ k = false
sound_xml (children q) n k = is_list_kind k
sound_xml _ n k = true

abbrev pub all_sound : List Row → Bool
all_sound [] = true
all_sound (r ∷ rs) = (sound_since r.since r.need r.kind && sound_xml r.xml r.need r.kind) && all_sound rs

pub sound : (n : Name) → all_sound (rows n) ≡ true
unfolding rows
sound hash = refl
sound _ = refl

pub sound_parts : (r : Row) (rs : List Row) → all_sound (r ∷ rs) ≡ true → (sound_since r.since r.need r.kind ≡ true) × (sound_xml r.xml r.need r.kind ≡ true) × (all_sound rs ≡ true)
sound_parts r rs h =
    let p : ((sound_since r.since r.need r.kind && sound_xml r.xml r.need r.kind) ≡ true) × (all_sound rs ≡ true) = and_true (sound_since r.since r.need r.kind && sound_xml r.xml r.need r.kind) (all_sound rs) h in
    let q : (sound_since r.since r.need r.kind ≡ true) × (sound_xml r.xml r.need r.kind ≡ true) = and_true (sound_since r.since r.need r.kind) (sound_xml r.xml r.need r.kind) p.0 in
    (q.0, q.1, p.1)
