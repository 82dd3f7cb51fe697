-- The road of a made bill.
use Rattle.std.proofs.Common.{◌≡◌, ℕ, zero, suc, ◌<◌, ◌^◌, List, [], ◌∷◌, true, false, Ok, inl, inr, refl, ap, subst, arith}
use Rattle.cdx_models.specs.declared.bom.SpecVersion.TheVariants.{V1_4, V1_5}
use Rattle.cdx_models.specs.Trees.{component, Tree}
use Rattle.cdx_schema.specs.Kinds.{a_record, a_bill}
use Rattle.cdx_schema.specs.Table.{rows, list}
use Rattle.cdx_schema.specs.Depth.{top}
use Rattle.cdx_schema.specs.Membership.{HasShape, HaveShape}
use Rattle.cdx_schema.specs.Keeping.{kept, items_kept, keep, is_shallow, are_shallow}
use Rattle.cdx_schema.specs.JsonSpelling.{jspell}
use Rattle.cdx_schema.specs.JsonReading.{json_denotes}
use Rattle.cdx_schema.specs.Trips.{in_json, in_xml}
use Rattle.cdx_schema.specs.Laws.{HasBillShape, IsShallow, LeadsFrom}
use Rattle.cdx_schema.specs.Roads.{Doc, json, xml, from_json, denotes}
use Rattle.cdx_schema.proofs.Stated.{json_back, leads}
use Rattle.cdx_request.specs.Made.{made_component, made_components, made_bill, made_doc, made_hops, made_road, count_answer}
use Rattle.cdx_request.specs.Served.{IsMade, MadeLaw}

-- ---- a bill

component_shaped : (i : ℕ) → HasShape (made_component i) (a_record component)
unfolding rows
component_shaped i = (refl, (inr tt, (inl (refl, refl), (inl (refl, refl), (inl (refl, refl), (inl (refl, refl), (inl (refl, refl), (inl (refl, refl), (inr tt, (inr tt, (inl (refl, refl), (inl (refl, refl), (inl (refl, refl), (inl (refl, refl), (inl (refl, refl), (inl (refl, refl), (inl (refl, refl), (inl (refl, refl), (inl (refl, refl), (inl (refl, refl), (inl (refl, refl), (inl (refl, refl), (inl (refl, refl), (inl (refl, refl), (inl (refl, refl), tt)))))))))))))))))))))))))

components_shaped : (i n : ℕ) → HaveShape (made_components i n) (a_record component)
unfolding made_components
components_shaped i zero = tt
components_shaped i (suc n) = (component_shaped i, components_shaped (suc i) n)

one_fits : 1 < 2 ^ 32
one_fits = omega arith

bill_shaped : (n : ℕ) → HasBillShape (made_bill n)
unfolding rows list
bill_shaped n = (refl, (inr refl, (inr one_fits, (inl (refl, refl), (inl (refl, refl), (inr (tt, components_shaped 0 n), (inl (refl, refl), (inl (refl, refl), (inl (refl, refl), (inl (refl, refl), (inl (refl, refl), (inl (refl, refl), tt))))))))))))

-- ---- shallow

components_shallow : (i n : ℕ) → are_shallow (made_components i n) top ≡ true
unfolding made_components are_shallow is_shallow
components_shallow i zero = refl
components_shallow i (suc n) = components_shallow (suc i) n

bill_shallow : (n : ℕ) → IsShallow (made_bill n)
unfolding is_shallow
bill_shallow n = rw (components_shallow 0 n) refl

-- ---- kept by its own version

component_kept : (i : ℕ) → kept V1_5 V1_5 (made_component i) (a_record component) ≡ made_component i
unfolding kept rows
component_kept i = refl

components_kept : (i n : ℕ) → items_kept V1_5 V1_5 (made_components i n) (a_record component) ≡ made_components i n
unfolding made_components items_kept
components_kept i zero = refl
components_kept i (suc n) = rw (component_kept i, components_kept (suc i) n) refl

pub bill_kept : (n : ℕ) → keep V1_5 (made_bill n) a_bill ≡ made_bill n
unfolding kept rows list
bill_kept n = rw (components_kept 0 n) refl

-- ---- its road

bill_denoted : (n : ℕ) → denotes (made_doc n) V1_5 ≡ Ok (made_bill n)
bill_denoted n =
    let back = json_back (made_bill n) V1_5 (bill_shaped n) (bill_shallow n) refl in
    ap from_json (subst (λ (b : Tree). json_denotes (jspell b V1_5 a_bill) V1_5 ≡ Ok b) (bill_kept n) back)

-- two documents in the forms of the hops
two_docs : (n : ℕ) (docs : List Doc) → made_road n ≡ Ok docs → LeadsFrom (made_bill n) made_hops docs → IsMade n
two_docs n (xml root ∷ json x ∷ []) is l = record { root = root; value = x; led = is; counted = ap (count_answer n) is }
two_docs n [] is l = absurd (omega (arith, l.0))
two_docs n (y ∷ []) is l = absurd (omega (arith, l.0))
two_docs n (y ∷ z ∷ w ∷ more) is l = absurd (omega (arith, l.0))
two_docs n (json y ∷ z ∷ []) is l = let e : true ≡ false = (l.1 1 (record { form = in_xml; version = V1_5 }) (json y) refl refl).0 in absurd cc
two_docs n (xml y ∷ xml z ∷ []) is l = let e : true ≡ false = (l.1 2 (record { form = in_json; version = V1_4 }) (xml z) refl refl).0 in absurd cc

pub made_law : MadeLaw
made_law n =
    let l = leads (made_bill n) (made_doc n) V1_5 made_hops (bill_denoted n) refl in
    two_docs n l.0 l.1 l.2
