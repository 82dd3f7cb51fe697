-- The ends of signers and chains.
use Rattle.std.proofs.Common.{◌≡◌, ℕ, List, [], ◌∷◌, Ok, refl}
use Rattle.cdx_models.specs.declared.bom.SpecVersion.{SpecVersion}
use Rattle.cdx_models.specs.Trees.{signers, chain, Tree, fields, one, list_tree}
use Rattle.cdx_schema.specs.Table.{rows}
use Rattle.cdx_schema.specs.XmlReading.{ended}
use Rattle.cdx_machine.specs.Records.{record_end, items_slots}

pub signers_end : {X : Type 0} (f : X → Tree) (xs : List X) (el : List ℕ) (v : SpecVersion) (q : ℕ) → record_end signers el v q (items_slots f xs) ≡ Ok (fields signers (one (list_tree f xs)))
unfolding rows ended
signers_end f [] el v q = refl
signers_end f (x ∷ xs) el v q = refl

pub chain_end : {X : Type 0} (f : X → Tree) (xs : List X) (el : List ℕ) (v : SpecVersion) (q : ℕ) → record_end chain el v q (items_slots f xs) ≡ Ok (fields chain (one (list_tree f xs)))
unfolding rows ended
chain_end f [] el v q = refl
chain_end f (x ∷ xs) el v q = refl
