-- What is there stays there.
use Rattle.std.specs.Prelude.{◌≡◌, refl, false, ℕ, List, Bool}
use Rattle.std.proofs.Common.{ap, ◌∙◌}
use Rattle.cdx_models.specs.declared.bom.SpecVersion.{SpecVersion}
use Rattle.cdx_models.specs.declared.bom.SpecVersion.TheVariants.{V1_3, V1_4, V1_5}
use Rattle.cdx_models.specs.Trees.{Name, Tree, text, number, boolean, items, fields, fields_of, Trees, is_absent}
use Rattle.cdx_schema.specs.Kinds.{Kind, Lists, a_text, a_number, a_boolean, a_reference, a_list, a_record, a_signature, a_license_choice, a_license_identifier}
use Rattle.cdx_schema.specs.Keeping.{kept}

pub text_stays : (w l : SpecVersion) (s : List ℕ) → is_absent (kept w l (text s) a_text) ≡ false
unfolding kept
text_stays w l s = refl

pub reference_stays : (w l : SpecVersion) (s : List ℕ) → is_absent (kept w l (text s) a_reference) ≡ false
unfolding kept
reference_stays w l s = refl

pub boolean_stays : (w l : SpecVersion) (b : Bool) → is_absent (kept w l (boolean b) a_boolean) ≡ false
unfolding kept
boolean_stays w l b = refl

pub number_stays : (w l : SpecVersion) (n : ℕ) → is_absent (kept w l (number n) a_number) ≡ false
unfolding kept
number_stays w l n = refl

pub list_stays : (w l : SpecVersion) (i : Lists) (ts : Trees) → is_absent (kept w l (items ts) (a_list i)) ≡ false
unfolding kept
list_stays w l i ts = refl

pub record_stays : (w l : SpecVersion) (n : Name) (ts : Trees) → is_absent (kept w l (fields n ts) (a_record n)) ≡ false
unfolding kept
record_stays V1_3 l n ts = refl
record_stays V1_4 l n ts = refl
record_stays V1_5 l n ts = refl

pub signature_fields_stay : (w l : SpecVersion) (n : Name) (ts : Trees) → is_absent (kept w l (fields n ts) a_signature) ≡ false
unfolding kept
signature_fields_stay V1_3 l n ts = refl
signature_fields_stay V1_4 l n ts = refl
signature_fields_stay V1_5 l n ts = refl

pub choice_fields_stay : (w l : SpecVersion) (n : Name) (ts : Trees) → is_absent (kept w l (fields n ts) a_license_choice) ≡ false
unfolding kept
choice_fields_stay V1_3 l n ts = refl
choice_fields_stay V1_4 l n ts = refl
choice_fields_stay V1_5 l n ts = refl

pub identifier_fields_stay : (w l : SpecVersion) (n : Name) (ts : Trees) → is_absent (kept w l (fields n ts) a_license_identifier) ≡ false
unfolding kept
identifier_fields_stay V1_3 l n ts = refl
identifier_fields_stay V1_4 l n ts = refl
identifier_fields_stay V1_5 l n ts = refl

-- Equal trees stay there alike.
pub stays_alike : (w l : SpecVersion) (k : Kind) (t u : Tree) → t ≡ u → is_absent (kept w l t k) ≡ is_absent (kept w l u k)
stays_alike w l k t u e = ap (λ x. is_absent (kept w l x k)) e

pub record_tree_stays : (w l : SpecVersion) (n : Name) (t : Tree) → t ≡ fields n (fields_of t) → is_absent (kept w l t (a_record n)) ≡ false
record_tree_stays w l n t e = stays_alike w l (a_record n) t (fields n (fields_of t)) e ∙ record_stays w l n (fields_of t)
