-- Rows that are attributes.
use Rattle.std.proofs.Common.{◌≡◌, ℕ, List, [], ◌∷◌, Bool, true, false, Option, Some, None, Result, Ok, Err, refl, sym, ap, ◌∙◌, subst}
use Rattle.std.specs.Prelude.{if◌then◌else◌}
use Rattle.cdx_models.specs.declared.errors.XmlReadError.{XmlReadError}
use Rattle.cdx_models.specs.declared.bom.SpecVersion.{SpecVersion}
use Rattle.cdx_events.specs.declared.name.OwnedAttribute.{OwnedAttribute}
use Rattle.cdx_models.specs.declared.bom.SpecVersion.TheVariants.{V1_3}
use Rattle.cdx_models.specs.Versions.{knows}
use Rattle.cdx_models.specs.Trees.{Tree, Trees, absent, text, none, more}
use Rattle.cdx_schema.specs.Results.{◌>>=◌}
use Rattle.cdx_schema.specs.Faults.{lacking}
use Rattle.cdx_schema.specs.Kinds.{Kind, Row, Member, required, optional, a_text}
use Rattle.cdx_schema.specs.JsonReading.{is_required}
use Rattle.cdx_schema.specs.XmlTexts.{tree_of_text}
use Rattle.cdx_schema.specs.XmlReading.{attribute_read, parsed, find_attribute, row_attribute, attributes_read}
use Rattle.cdx_leaf.specs.Fault.{FailsAt}
use Rattle.cdx_leaf.specs.Attribute.{or_fault, GivesAt, known_since, text_row, plain_attribute_row}
use Rattle.cdx_leaf.specs.Numbers.{parsed_attribute}
use Rattle.cdx_leaf.specs.Parts.{text_alone}
use Rattle.cdx_models.specs.Trees.{present}
use Rattle.cdx_leaf.proofs.Records.{first_fails, then_fails}

pub required_text : (r : Row) → r.kind ≡ a_text → r.need ≡ required → (name : List ℕ) (v : SpecVersion) (el : List ℕ) (p : ℕ) (o : Option (List ℕ)) → attribute_read o name r v el p ≡ (or_fault o (lacking p el name) >>= λ s. Ok (text s))
required_text r kind need name v el p None = ap (λ x. if is_required x v then Err (lacking p el name) else Ok absent) need
required_text r kind need name v el p (Some s) = ap (λ k. parsed (tree_of_text k s) p name s k) kind

pub optional_text_is : (r : Row) → r.kind ≡ a_text → r.need ≡ optional → (name : List ℕ) (v : SpecVersion) (el : List ℕ) (p : ℕ) (o : Option (List ℕ)) → attribute_read o name r v el p ≡ Ok (present text o)
optional_text_is r kind need name v el p None = ap (λ x. if is_required x v then Err (lacking p el name) else Ok absent) need
optional_text_is r kind need name v el p (Some s) = ap (λ k. parsed (tree_of_text k s) p name s k) kind

-- ---- rows one after the other

module _ (as' : List OwnedAttribute) (v : SpecVersion) (el : List ℕ) (p : ℕ) where
  pub row_ok : (r : Row) (rs : List Row) (t : Tree) (ts : Trees) → row_attribute r as' v el p ≡ Ok t → attributes_read rs as' v el p ≡ Ok ts → attributes_read (r ∷ rs) as' v el p ≡ Ok (more t ts)
  unfolding attributes_read
  row_ok r rs t ts e h = ap (λ x. x >>= λ t. attributes_read rs as' v el p >>= λ ts. Ok (more t ts)) e ∙ ap (λ x. x >>= λ ts. Ok (more t ts)) h

  pub row_fails : (r : Row) (rs : List Row) (e : XmlReadError) (q : ℕ) → FailsAt e q (row_attribute r as' v el p) → FailsAt e q (attributes_read (r ∷ rs) as' v el p)
  unfolding attributes_read
  row_fails r rs e q h = first_fails e q (row_attribute r as' v el p) (λ t. attributes_read rs as' v el p >>= λ ts. Ok (more t ts)) h

  pub later_fails : (r : Row) (rs : List Row) (t : Tree) (e : XmlReadError) (q : ℕ) → row_attribute r as' v el p ≡ Ok t → FailsAt e q (attributes_read rs as' v el p) → FailsAt e q (attributes_read (r ∷ rs) as' v el p)
  unfolding attributes_read
  later_fails r rs t e q is h = then_fails e q (row_attribute r as' v el p) t (λ t. attributes_read rs as' v el p >>= λ ts. Ok (more t ts)) is (first_fails e q (attributes_read rs as' v el p) (λ ts. Ok (more t ts)) h)

  -- a text that has to be there
  pub must_row : (name : List ℕ) (j : Member) (t : List ℕ) → or_fault (find_attribute name as') (lacking p el name) ≡ Ok t → row_attribute (text_row name j None V1_3 required) as' v el p ≡ Ok (text t)
  must_row name j t e = required_text (text_row name j None V1_3 required) refl refl name v el p (find_attribute name as') ∙ ap (λ x. x >>= λ s. Ok (text s)) e

  pub must_row_fails : (name : List ℕ) (j : Member) (e : XmlReadError) (q : ℕ) → FailsAt e q (or_fault (find_attribute name as') (lacking p el name)) → FailsAt e q (row_attribute (text_row name j None V1_3 required) as' v el p)
  must_row_fails name j e q h = subst (λ x. FailsAt e q x) (sym (required_text (text_row name j None V1_3 required) refl refl name v el p (find_attribute name as'))) (first_fails e q (or_fault (find_attribute name as') (lacking p el name)) (λ s. Ok (text s)) h)

  -- a text that may be there, where the version knows it
  pub maybe_row : (name : List ℕ) (j : Member) (old : Option (List ℕ)) (since : SpecVersion) (x : Option (List ℕ)) → x ≡ known_since since v (find_attribute name as') → row_attribute (text_row name j old since optional) as' v el p ≡ Ok (present text x)
  maybe_row name j old since x e = go (knows since v) ∙ ap (λ o. Ok (present text o)) (sym e)
    where
      go : (b : Bool) → (if b then attribute_read (find_attribute name as') name (text_row name j old since optional) v el p else Ok absent) ≡ Ok (present text (if b then find_attribute name as' else None))
      go true = optional_text_is (text_row name j old since optional) refl refl name v el p (find_attribute name as')
      go false = refl

  -- a value that may be there
  value_is : (r : Row) → r.need ≡ optional → (name : List ℕ) (o : Option (List ℕ)) → attribute_read o name r v el p ≡ parsed_attribute r.kind p name o
  value_is r need name None = ap (λ x. if is_required x v then Err (lacking p el name) else Ok absent) need
  value_is r need name (Some s) = refl

  pub value_row : (K : Kind) (name : List ℕ) (j : Member) (t : Tree) → parsed_attribute K p name (find_attribute name as') ≡ Ok t → row_attribute (plain_attribute_row K name j) as' v el p ≡ Ok t
  value_row K name j t e = value_is (plain_attribute_row K name j) refl name (find_attribute name as') ∙ e

  pub value_row_fails : (K : Kind) (name : List ℕ) (j : Member) (e : XmlReadError) (q : ℕ) → FailsAt e q (parsed_attribute K p name (find_attribute name as')) → FailsAt e q (row_attribute (plain_attribute_row K name j) as' v el p)
  value_row_fails K name j e q h = subst (λ x. FailsAt e q x) (sym (value_is (plain_attribute_row K name j) refl name (find_attribute name as'))) h

  pub rows_end : attributes_read [] as' v el p ≡ Ok none
  unfolding attributes_read
  rows_end = refl

-- ---- what has to be there at the end

pub or_fault_ok : {T : Type 0} (o : Option T) (fault : XmlReadError) (t : T) → or_fault o fault ≡ Ok t → o ≡ Some t
or_fault_ok None fault t e = absurd cc
or_fault_ok (Some x) fault t e = let same : x ≡ t = cc in ap (λ y. Some y) same

pub or_fault_err : {T : Type 0} (o : Option T) (fault f : XmlReadError) → or_fault o fault ≡ Err f → (o ≡ None) × (fault ≡ f)
or_fault_err None fault f e = (refl, cc)
or_fault_err (Some x) fault f e = absurd cc

-- An attribute that has to be there stands before the text.
pub text_first : (as' : List OwnedAttribute) (v : SpecVersion) (el : List ℕ) (p : ℕ) (name : List ℕ) (j : Member) (other : Row) → row_attribute other as' v el p ≡ Ok absent → (place : ℕ) (r : Result (List ℕ) XmlReadError)
    → GivesAt (λ t. t) place (or_fault (find_attribute name as') (lacking p el name)) r → GivesAt text_alone place (attributes_read (text_row name j None V1_3 required ∷ other ∷ []) as' v el p) r
text_first as' v el p name j other alone place (Ok s) h = row_ok as' v el p (text_row name j None V1_3 required) (other ∷ []) (text s) (more absent none) (must_row as' v el p name j s h) (row_ok as' v el p other [] absent none alone (rows_end as' v el p))
text_first as' v el p name j other alone place (Err e) h = row_fails as' v el p (text_row name j None V1_3 required) (other ∷ []) e place (must_row_fails as' v el p name j e place h)
