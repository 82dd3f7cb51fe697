-- Which values have something to write.
use Rattle.std.specs.Prelude.{ℕ, List, [], ◌∷◌, Bool, true, false, not, ◌||◌}
use Rattle.cdx_models.specs.Trees.{Name, contact, entity, diff, source, tool, pedigree, evidence, metadata, Tree, fields, Trees, is_absent, field}

-- One of the fields at these places is there.
abbrev pub has_one : List ℕ → Trees → Bool
has_one [] ts = false
has_one (i ∷ is) ts = not (is_absent (field i ts)) || has_one is ts

-- An entity has a name, a url or contacts, whatever its reference is; a contact a name, an email or a phone; evidence
-- licenses or copyrights; a diff a text or a url; a source a name or a url; a pedigree and metadata any field; a tool
-- a vendor, a name, a version or hashes, whatever its external references are.
abbrev pub fields_will_write : Name → Trees → Bool
fields_will_write entity ts = has_one (1 ∷ 2 ∷ 3 ∷ []) ts
fields_will_write contact ts = has_one (1 ∷ 2 ∷ 3 ∷ []) ts
fields_will_write evidence ts = has_one (0 ∷ 1 ∷ []) ts
fields_will_write diff ts = has_one (0 ∷ 1 ∷ []) ts
fields_will_write source ts = has_one (0 ∷ 1 ∷ []) ts
fields_will_write pedigree ts = has_one (0 ∷ 1 ∷ 2 ∷ 3 ∷ 4 ∷ 5 ∷ []) ts
fields_will_write metadata ts = has_one (0 ∷ 1 ∷ 2 ∷ 3 ∷ 4 ∷ 5 ∷ 6 ∷ 7 ∷ []) ts
fields_will_write tool ts = has_one (0 ∷ 1 ∷ 2 ∷ 3 ∷ []) ts
fields_will_write _ ts = true

-- Every other value has.
abbrev pub will_write : Tree → Bool
will_write (fields n ts) = fields_will_write n ts
will_write _ = true
