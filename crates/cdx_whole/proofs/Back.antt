-- A bill that is written and read again.
use Rattle.std.proofs.Common.{◌≡◌, ℕ, List, Ok, refl, ap, ◌∙◌}
use Rattle.serde_json.specs.Data.{Data}
use Rattle.cdx_models.specs.declared.bom.SpecVersion.TheVariants.{V1_5}
use Rattle.cdx_models.specs.Trees.{Tree}
use Rattle.cdx_schema.specs.Kinds.{a_bill}
use Rattle.cdx_schema.specs.Table.{rows, list}
use Rattle.cdx_schema.specs.Keeping.{kept, items_kept, rows_kept, keep, is_shallow, are_shallow}
use Rattle.cdx_schema.specs.JsonReading.{json_denotes}
use Rattle.cdx_schema.specs.Laws.{HasBillShape, IsShallow, ReadsBackJson}
use Rattle.cdx_bom.specs.Outputs.{kept_json}
use Rattle.cdx_whole.specs.Owners.{bill_of_owner}

-- what is written of a bill denotes what 1.5 keeps of it
pub denotes_kept : ReadsBackJson → (b : Tree) → HasBillShape b → IsShallow b → (d : Data) → d ≡ kept_json V1_5 b → json_denotes d V1_5 ≡ Ok (keep V1_5 b a_bill)
denotes_kept law b shape shallow d is = ap (λ x. json_denotes x V1_5) is ∙ law b V1_5 shape shallow refl

pub bill_shallow : (b : Tree) (name id owner : List ℕ) → b ≡ bill_of_owner name id owner → IsShallow b
unfolding is_shallow are_shallow
bill_shallow b name id owner is = rw is refl

pub bill_kept : (b : Tree) (name id owner : List ℕ) → b ≡ bill_of_owner name id owner → keep V1_5 b a_bill ≡ bill_of_owner name id owner
unfolding kept items_kept rows_kept rows list
bill_kept b name id owner is = rw is refl
