-- Worked rows on JSON readings, by computation.
use Prim.Native.String.{String}
use Rattle.std.specs.Prelude.{◌≡◌, refl, ℕ, zero, suc, List, [], ◌∷◌, Bool, codes, Result, Ok, Err, true, false}
use Rattle.serde_json.specs.Data.{Data, no_items, no_members, null}
use Rattle.cdx_models.specs.declared.bom.SpecVersion.TheVariants.{V1_3, V1_4, V1_5}
use Rattle.cdx_models.specs.Trees.{Tree, absent, number, items, fields, none, more, one, two, bill, component, chain, signers, signer, license, spdx_id, metadata, classification, service_data, dependency}
use Rattle.cdx_schema.specs.Kinds as kind
use Rattle.cdx_schema.specs.Depth.{top}
use Rattle.cdx_models.specs.declared.errors.Step.{Step}
use Rattle.cdx_models.specs.declared.errors.JsonKind.{JsonKind}
use Rattle.cdx_schema.specs.Faults.{JsonFault, to_member, to_item, missing, wrong_kind, out_of_range, bad_format, bad_spec_version, too_deep}
use Rattle.cdx_schema.specs.JsonReading.{jread, json_denotes}
use Rattle.cdx_schema.proofs.Literals.{str, num, obj, arr, ◌↪◌⨟◌, ◌⨠◌, t', reading_on_literals}

-- a dependency on nothing
depends_on_nothing : jread (arr (obj ("ref" ↪ str "dependency" ⨟ no_members) ⨠ no_items)) V1_5 (kind.a_list kind.dependencies) top
    ≡ Ok (items (one (fields dependency (two (t' "dependency") (items none)))))
unfolding reading_on_literals
depends_on_nothing = refl

depends_on_null : jread (obj ("ref" ↪ str "a" ⨟ "dependsOn" ↪ null ⨟ no_members)) V1_5 (kind.a_record dependency) top
    ≡ Err (record { path = to_member (codes "dependsOn") ∷ []; cause = wrong_kind })
unfolding reading_on_literals
depends_on_null = refl

-- ---- signatures

abbrev signed : String → String → Data
signed a b = obj ("algorithm" ↪ str a ⨟ "value" ↪ str b ⨟ no_members)

abbrev signer_of : String → String → Tree
signer_of a b = fields signer (two (t' a) (t' b))

chain_beside_null : jread (obj ("chain" ↪ arr (signed "ES256" "a" ⨠ no_items) ⨟ "signers" ↪ null ⨟ no_members)) V1_5 kind.a_signature top
    ≡ Ok (fields chain (one (items (one (signer_of "ES256" "a")))))
unfolding reading_on_literals
chain_beside_null = refl

no_signers : jread (arr no_items) V1_5 kind.a_signature top ≡ Ok (fields signers (one (items none)))
unfolding reading_on_literals
no_signers = refl

no_value : jread (obj ("algorithm" ↪ str "ES256" ⨟ no_members)) V1_5 kind.a_signature top ≡ Err (record { path = to_member (codes "value") ∷ []; cause = missing })
unfolding reading_on_literals
no_value = refl

single : jread (signed "ES256" "a") V1_5 kind.a_signature top ≡ Ok (signer_of "ES256" "a")
unfolding reading_on_literals
single = refl

-- ---- licenses

beside_a_license : jread (obj ("license" ↪ obj ("id" ↪ str "MIT" ⨟ no_members) ⨟ "note" ↪ num 1 ⨟ no_members)) V1_5 kind.a_license_choice top
    ≡ Err (record { path = to_member (codes "expression") ∷ []; cause = missing })
unfolding reading_on_literals
beside_a_license = refl

id_before_name : jread (obj ("license" ↪ obj ("name" ↪ str "M" ⨟ "id" ↪ str "MIT" ⨟ no_members) ⨟ no_members)) V1_5 kind.a_license_choice top
    ≡ Ok (fields license (more absent (more (fields spdx_id (one (t' "MIT"))) (more absent (more absent (one absent))))))
unfolding reading_on_literals
id_before_name = refl

-- ---- components

abbrev plain_component : Data
plain_component = obj ("type" ↪ str "library" ⨟ "name" ↪ str "a" ⨟ no_members)

no_version_in_1_3 : jread plain_component V1_3 (kind.a_record component) top ≡ Err (record { path = to_member (codes "version") ∷ []; cause = missing })
unfolding reading_on_literals
no_version_in_1_3 = refl

-- n components in one another, in a list
abbrev nested : ℕ → Data
nested zero = arr no_items
nested (suc zero) = arr (plain_component ⨠ no_items)
nested (suc (suc n)) = arr (obj ("type" ↪ str "library" ⨟ "name" ↪ str "a" ⨟ "components" ↪ nested (suc n) ⨟ no_members) ⨠ no_items)

abbrev is_ok' : Result Tree JsonFault → Bool
is_ok' (Ok t) = true
is_ok' (Err e) = false

deep : is_ok' (jread (nested 32) V1_5 (kind.a_list kind.components) top) ≡ true
unfolding reading_on_literals
deep = refl

abbrev steps_down : ℕ → List Step
steps_down zero = []
steps_down (suc n) = to_member (codes "components") ∷ to_item 0 ∷ steps_down n

too_deep_below_32 : jread (nested 33) V1_5 (kind.a_list kind.components) top ≡ Err (record { path = to_item 0 ∷ steps_down 32; cause = too_deep })
unfolding reading_on_literals
too_deep_below_32 = refl

-- ---- data

abbrev a_class : String → String → Tree
a_class f c = fields classification (two (t' f) (t' c))

abbrev data_of_1_5 : Data
data_of_1_5 = arr (obj ("flow" ↪ str "f" ⨟ "classification" ↪ str "c" ⨟ no_members) ⨠ obj ("name" ↪ str "n" ⨟ "flow" ↪ str "g" ⨟ "classification" ↪ str "d" ⨟ no_members) ⨠ no_items)

data_in_1_5 : jread data_of_1_5 V1_5 kind.a_data top ≡ Ok (items (two (a_class "f" "c") (fields service_data (more (t' "n") (two absent (a_class "g" "d"))))))
unfolding reading_on_literals
data_in_1_5 = refl

data_in_1_4 : jread data_of_1_5 V1_4 kind.a_data top ≡ Ok (items (two (a_class "f" "c") (a_class "g" "d")))
unfolding reading_on_literals
data_in_1_4 = refl

data_name_number : jread (arr (obj ("name" ↪ num 1 ⨟ no_members) ⨠ no_items)) V1_5 kind.a_data top ≡ Err (record { path = to_item 0 ∷ to_member (codes "name") ∷ []; cause = wrong_kind })
unfolding reading_on_literals
data_name_number = refl

data_not_flat : jread (arr (obj ("classification" ↪ obj ("flow" ↪ str "f" ⨟ "classification" ↪ str "c" ⨟ no_members) ⨟ no_members) ⨠ no_items)) V1_5 kind.a_data top
    ≡ Err (record { path = to_item 0 ∷ to_member (codes "flow") ∷ []; cause = missing })
unfolding reading_on_literals
data_not_flat = refl

-- ---- tools

tools_in_1_4 : jread (obj ("tools" ↪ obj ("components" ↪ arr (plain_component ⨠ no_items) ⨟ no_members) ⨟ no_members)) V1_4 (kind.a_record metadata) top
    ≡ Err (record { path = to_member (codes "tools") ∷ []; cause = wrong_kind })
unfolding reading_on_literals
tools_in_1_4 = refl

-- ---- bills

abbrev bill_with : Data → Data → Data → Data
bill_with f s n = obj ("bomFormat" ↪ f ⨟ "specVersion" ↪ s ⨟ "version" ↪ n ⨟ no_members)

abbrev refused : List Step → JsonKind → Result Tree JsonFault
refused p c = Err (record { path = p; cause = c })

abbrev plain_bill : String → ℕ → Tree
plain_bill s n = fields bill (more (t' s) (more (number n) (more absent (more absent (more absent (more absent (more absent (more absent (more absent (more absent (more absent none)))))))))))

wide_version : json_denotes (bill_with (str "CycloneDX") (str "1.5") (num 4294967296)) V1_5 ≡ refused (to_member (codes "version") ∷ []) out_of_range
unfolding reading_on_literals
wide_version = refl

largest_version : json_denotes (bill_with (str "CycloneDX") (str "1.5") (num 4294967295)) V1_5 ≡ Ok (plain_bill "1.5" 4294967295)
unfolding reading_on_literals
largest_version = refl

own_label : json_denotes (bill_with (str "CycloneDX") (str "1.3") (num 1)) V1_5 ≡ Ok (plain_bill "1.3" 1)
unfolding reading_on_literals
own_label = refl

no_such_version : json_denotes (bill_with (str "CycloneDX") (str "1.6") (num 1)) V1_5 ≡ refused (to_member (codes "specVersion") ∷ []) bad_spec_version
unfolding reading_on_literals
no_such_version = refl

no_such_format : json_denotes (bill_with (str "X") (str "1.5") (num 1)) V1_5 ≡ refused (to_member (codes "bomFormat") ∷ []) bad_format
unfolding reading_on_literals
no_such_format = refl
