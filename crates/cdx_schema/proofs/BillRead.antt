-- Both spellings of what a version keeps of a bill are read back.
use Rattle.std.specs.Prelude.{◌≡◌, refl, ℕ, ◌^◌, List, true, false, nat_lt, ◌⊎◌, Ok}
use Rattle.std.proofs.Common.{true≢false, inl, inr}
use mathlib.Core.Path.{ap, sym, subst}
use Rattle.cdx_models.specs.declared.bom.SpecVersion.{SpecVersion}
use Rattle.cdx_models.specs.Trees.{Name, bill, Tree, absent, text, number, boolean, items, fields, Trees, none, more}
use Rattle.cdx_schema.specs.Kinds.{a_text, a_number, a_version, a_bill}
use Rattle.cdx_schema.specs.Table.{rows, bill_children}
use Rattle.cdx_schema.specs.Depth.{top}
use Rattle.cdx_schema.specs.JsonReading.{json_denotes}
use Rattle.cdx_schema.specs.JsonSpelling.{jspell}
use Rattle.cdx_schema.specs.XmlReading.{xml_denotes}
use Rattle.cdx_schema.specs.XmlSpelling.{root}
use Rattle.cdx_schema.specs.Keeping.{kept, rows_kept, keep, fits, is_shallow}
use Rattle.cdx_schema.specs.Membership.{HasShape, FieldsHaveShape}
use Rattle.cdx_schema.proofs.NoFloats.{no_float}
use Rattle.cdx_schema.proofs.KeptTwice.{stays}
use Rattle.cdx_schema.proofs.JsonBack.{Held}
use Rattle.cdx_schema.proofs.HeldKept.{json_law, held_kept, fits_first}
use Rattle.cdx_schema.proofs.XmlLaw.{tripped}
use Rattle.cdx_schema.proofs.BillLaw.{bill_xback, IsSerial}
use Rattle.cdx_schema.proofs.Basics.{lt_true}

pub reads_json : (b : Tree) (w : SpecVersion) → HasShape b a_bill → fits w b a_bill ≡ true → is_shallow b top ≡ true
    → json_denotes (jspell (keep w b a_bill) w a_bill) w ≡ Ok (keep w b a_bill)
reads_json b w h f s = rw (no_float (keep w b a_bill) w a_bill) (json_law w top b a_bill h f s)

version_is : (t : Tree) → ((t ≡ absent) × (false ≡ true)) ⊎ HasShape t a_version → (x : List ℕ) × (t ≡ text x)
version_is t (inl h) = absurd (true≢false (sym h.1))
version_is absent (inr h) = absurd (true≢false h)
version_is (text x) (inr h) = (x, refl)
version_is (number x) (inr h) = absurd (true≢false h)
version_is (boolean x) (inr h) = absurd (true≢false h)
version_is (items x) (inr h) = absurd (true≢false h.0)
version_is (fields n x) (inr h) = absurd (true≢false h.0)

number_is : (t : Tree) → ((t ≡ absent) × (false ≡ true)) ⊎ HasShape t a_number → (m : ℕ) × (t ≡ number m) × (nat_lt m (2 ^ 32) ≡ true)
number_is t (inl h) = absurd (true≢false (sym h.1))
number_is absent (inr h) = absurd (true≢false h)
number_is (text x) (inr h) = absurd (true≢false h)
number_is (number x) (inr h) = (x, refl, lt_true x (2 ^ 32) h)
number_is (boolean x) (inr h) = absurd (true≢false h)
number_is (items x) (inr h) = absurd (true≢false h.0)
number_is (fields n x) (inr h) = absurd (true≢false h.0)

serial_is : (w : SpecVersion) (t : Tree) → ((t ≡ absent) × (true ≡ true)) ⊎ HasShape t a_text → IsSerial (kept w w t a_text)
unfolding kept
serial_is w t (inl h) = inl (ap (λ x. kept w w x a_text) h.0)
serial_is w absent (inr h) = absurd (true≢false h)
serial_is w (text x) (inr h) = inr (x, refl)
serial_is w (number x) (inr h) = absurd (true≢false h)
serial_is w (boolean x) (inr h) = absurd (true≢false h)
serial_is w (items x) (inr h) = absurd (true≢false h.0)
serial_is w (fields n x) (inr h) = absurd (true≢false h.0)

abbrev Reads : SpecVersion → Tree → Type 0
Reads w t = xml_denotes (root t w) w ≡ Ok (tripped w t a_bill)

of_three : (w : SpecVersion) (x : List ℕ) (m : ℕ) (s : Tree) (us : Trees) → nat_lt m (2 ^ 32) ≡ true → IsSerial (kept w w s a_text)
    → Held w top (kept w w (fields bill (more (text x) (more (number m) (more s us)))) a_bill) a_bill → Reads w (kept w w (fields bill (more (text x) (more (number m) (more s us)))) a_bill)
unfolding rows kept
of_three w x m s us lt serial held =
    subst (Reads w) (sym (stays w a_bill bill (rows_kept w w (more (text x) (more (number m) (more s us))) (rows bill)) refl))
    (bill_xback w top m (rows_kept w w us bill_children) (kept w w s a_text) lt serial (subst (λ t. Held w top t a_bill) (stays w a_bill bill (rows_kept w w (more (text x) (more (number m) (more s us))) (rows bill)) refl) held).2.1.1.1)

of_fields : (w : SpecVersion) (ts : Trees) → FieldsHaveShape ts (rows bill) → Held w top (kept w w (fields bill ts) a_bill) a_bill → Reads w (kept w w (fields bill ts) a_bill)
unfolding rows
of_fields w none h held = absurd (true≢false h)
of_fields w (more a none) h held = absurd (true≢false h.1)
of_fields w (more a (more c none)) h held = absurd (true≢false h.1.1)
of_fields w (more a (more c (more s us))) h held =
    let p : (x : List ℕ) × (a ≡ text x) = version_is a h.0 in
    let q : (m : ℕ) × (c ≡ number m) × (nat_lt m (2 ^ 32) ≡ true) = number_is c h.1.0 in
    let P : Tree → Tree → Type 0 = (λ x y. Held w top (kept w w (fields bill (more x (more y (more s us)))) a_bill) a_bill → Reads w (kept w w (fields bill (more x (more y (more s us)))) a_bill)) in
    subst (λ x. P x c) (sym p.1) (subst (P (text p.0)) (sym q.1) (of_three w p.0 q.0 s us q.2 (serial_is w s h.1.1.0))) held

of_record : (w : SpecVersion) (n : Name) (ts : Trees) → n ≡ bill → FieldsHaveShape ts (rows n) → Held w top (kept w w (fields n ts) a_bill) a_bill → Reads w (kept w w (fields n ts) a_bill)
of_record w n ts is = subst (λ (m : Name). FieldsHaveShape ts (rows m) → Held w top (kept w w (fields m ts) a_bill) a_bill → Reads w (kept w w (fields m ts) a_bill)) (sym is) (of_fields w ts)

of_bill : (b : Tree) (w : SpecVersion) → HasShape b a_bill → Held w top (kept w w b a_bill) a_bill → Reads w (kept w w b a_bill)
of_bill (items x) w h held = absurd (true≢false h.0)
of_bill (fields n ts) w h held = of_record w n ts h.0 h.1 held
of_bill _ w h held = absurd (true≢false h)

-- The XML spelling is read back as exactly what the trip makes of it.
pub reads_xml : (b : Tree) (w : SpecVersion) → HasShape b a_bill → fits w b a_bill ≡ true → is_shallow b top ≡ true
    → xml_denotes (root (keep w b a_bill) w) w ≡ Ok (tripped w (keep w b a_bill) a_bill)
reads_xml b w h f s = of_bill b w h (held_kept w w top b a_bill h (fits_first w b a_bill f) s)
