-- A bill with one library: what the law on reading back asks of it.
use Rattle.std.proofs.Common.{◌≡◌, ℕ, ◌<◌, ◌^◌, List, Some, Result, Ok, Err, inl, inr, refl, ap, subst, ◌∙◌, arith}
use Rattle.serde_json.specs.View.{view}
use Rattle.serde_json.specs.declared.value.Value.{Value}
use Rattle.cdx_models.specs.declared.errors.JsonWriteError.{JsonWriteError}
use Rattle.cdx_models.specs.declared.errors.JsonWriteError.TheVariants as write
use Rattle.cdx_json.specs.Gives.{Makes}
use Rattle.std.specs.Prelude.{codes}
use Rattle.cdx_models.specs.declared.bom.SpecVersion.TheVariants.{V1_5}
use Rattle.cdx_models.specs.Trees.{component, Tree}
use Rattle.cdx_schema.specs.Kinds.{a_record, a_bill}
use Rattle.cdx_schema.specs.Table.{rows, list}
use Rattle.cdx_schema.specs.Membership.{HasShape}
use Rattle.cdx_schema.specs.Keeping.{kept, items_kept, keep, is_shallow, are_shallow}
use Rattle.cdx_schema.specs.JsonReading.{json_denotes}
use Rattle.cdx_schema.specs.Laws.{HasBillShape, IsShallow, ReadsBackJson}
use Rattle.cdx_bom.specs.Outputs.{kept_json}
use Rattle.cdx_component.specs.Trees.{new_component}
use Rattle.cdx_uses.specs.Uses.{library_bill}

library_shaped : (type name version : List ℕ) → HasShape (new_component type name (Some version)) (a_record component)
unfolding rows
library_shaped type name version = (refl, (inr tt, (inl (refl, refl), (inl (refl, refl), (inl (refl, refl), (inl (refl, refl), (inl (refl, refl), (inl (refl, refl), (inr tt, (inr tt, (inl (refl, refl), (inl (refl, refl), (inl (refl, refl), (inl (refl, refl), (inl (refl, refl), (inl (refl, refl), (inl (refl, refl), (inl (refl, refl), (inl (refl, refl), (inl (refl, refl), (inl (refl, refl), (inl (refl, refl), (inl (refl, refl), (inl (refl, refl), (inl (refl, refl), tt)))))))))))))))))))))))))

one_fits : 1 < 2 ^ 32
one_fits = omega arith

bill_shaped : (name version : List ℕ) → HasBillShape (library_bill name version)
unfolding rows list
bill_shaped name version = (refl, (inr refl, (inr one_fits, (inl (refl, refl), (inl (refl, refl), (inr (tt, (library_shaped (codes "library") name version, tt)), (inl (refl, refl), (inl (refl, refl), (inl (refl, refl), (inl (refl, refl), (inl (refl, refl), (inl (refl, refl), tt))))))))))))

bill_shallow : (name version : List ℕ) → IsShallow (library_bill name version)
unfolding are_shallow is_shallow
bill_shallow name version = refl

bill_kept : (name version : List ℕ) → keep V1_5 (library_bill name version) a_bill ≡ library_bill name version
unfolding kept items_kept rows list
bill_kept name version = refl

-- the document of the bill denotes the bill
pub bill_back : ReadsBackJson → (name version : List ℕ) → json_denotes (kept_json V1_5 (library_bill name version)) V1_5 ≡ Ok (library_bill name version)
bill_back law name version =
    subst (λ (b : Tree). json_denotes (kept_json V1_5 (library_bill name version)) V1_5 ≡ Ok b) (bill_kept name version)
    (law (library_bill name version) V1_5 (bill_shaped name version) (bill_shallow name version) refl)

-- what is written of the bill denotes the bill
pub made_back : ReadsBackJson → (b : Tree) (name version : List ℕ) → b ≡ library_bill name version → (r : Result Value JsonWriteError) → Makes r (λ v. view v ≡ kept_json V1_5 b) → Makes r (λ v. json_denotes (view v) V1_5 ≡ Ok (library_bill name version))
made_back law b name version is (Ok v) made = ap (λ x. json_denotes x V1_5) (made ∙ ap (kept_json V1_5) is) ∙ bill_back law name version
made_back law b name version is (Err (write.Memory m)) made = tt
made_back law b name version is (Err (write.JsonElementWriteError n)) made = absurd made
made_back law b name version is (Err (write.BomError e)) made = absurd made
