-- The records' names in a row, so that what holds of each is proved by one table.
use Rattle.std.proofs.Common.{◌≡◌, ℕ, List, [], ◌∷◌, map, get_or, refl, sym, ap, ◌∙◌}
use Rattle.std.proofs.Math.ListN.{get_or-map}
use Rattle.cdx_models.specs.Trees.{Name, hash, property, attached_text, contact, entity, commit, action, patch, diff, issue, source, reference, dependency, composition, license, expression, spdx_id, license_name, tool, component, swid, pedigree, evidence, copyright, service, classification, service_data, tools_object, metadata, signer, signers, chain, bill}
use Rattle.cdx_models.specs.Equal.{name_code}

-- the names in the order of their numbers
abbrev pub all_names : List Name
all_names = hash ∷ property ∷ attached_text ∷ contact ∷ entity ∷ commit ∷ action ∷ patch ∷ diff ∷ issue ∷ source
    ∷ reference ∷ dependency ∷ composition ∷ license ∷ expression ∷ spdx_id ∷ license_name ∷ tool ∷ component ∷ swid ∷ pedigree
    ∷ evidence ∷ copyright ∷ service ∷ classification ∷ service_data ∷ tools_object ∷ metadata ∷ signer ∷ signers ∷ chain ∷ bill ∷ []

abbrev name_of : ℕ → Name
name_of c = get_or all_names c hash

code-back : (n : Name) → name_of (name_code n) ≡ n
code-back hash = refl
code-back property = refl
code-back attached_text = refl
code-back contact = refl
code-back entity = refl
code-back commit = refl
code-back action = refl
code-back patch = refl
code-back diff = refl
code-back issue = refl
code-back source = refl
code-back reference = refl
code-back dependency = refl
code-back composition = refl
code-back license = refl
code-back expression = refl
code-back spdx_id = refl
code-back license_name = refl
code-back tool = refl
code-back component = refl
code-back swid = refl
code-back pedigree = refl
code-back evidence = refl
code-back copyright = refl
code-back service = refl
code-back classification = refl
code-back service_data = refl
code-back tools_object = refl
code-back metadata = refl
code-back signer = refl
code-back signers = refl
code-back chain = refl
code-back bill = refl

pub code-injective : (n m : Name) → name_code n ≡ name_code m → n ≡ m
code-injective n m e = sym (code-back n) ∙ ap name_of e ∙ code-back m

-- Two tables that agree on the row of names agree on each name.
pub every_name : {A : Type 0} (f g : Name → A) → map f all_names ≡ map g all_names → (n : Name) → f n ≡ g n
every_name {A = A} f g e n =
    let in_row = λ (h : Name → A). get_or-map h all_names (name_code n) hash ∙ ap h (code-back n) in
    let first = ap (λ xs. get_or xs 0 (f hash)) e in
    sym (in_row f) ∙ ap (λ xs. get_or xs (name_code n) (f hash)) e ∙ ap (get_or (map g all_names) (name_code n)) first ∙ in_row g
