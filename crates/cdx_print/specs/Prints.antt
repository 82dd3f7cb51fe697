-- JSON that is printed piece by piece, each piece after the text before it.
use Rattle.std.specs.Prelude.{ℕ, List, [], ◌∷◌, ◌++◌, Bool}
use Rattle.serde_json.specs.Data.{Data, string}
use Rattle.serde_json.specs.Written.{comma_if, compact_text}
use Rattle.cdx_models.specs.declared.bom.SpecVersion.{SpecVersion}
use Rattle.cdx_models.specs.Trees.{Tree}
use Rattle.cdx_schema.specs.Kinds.{Kind}
use Rattle.cdx_schema.specs.Keeping.{keep}
use Rattle.cdx_schema.specs.JsonSpelling.{jspell}

-- what starts a member, and the member's text
abbrev pub then_text : List ℕ → List ℕ → List ℕ → List ℕ
then_text start s before = (before ++ start) ++ compact_text (string s)

-- what starts a member: a comma, where one stands before it, its name and the colon
abbrev pub key_text : Bool → List ℕ → List ℕ
key_text later k = comma_if later ++ (compact_text (string k) ++ 58 ∷ [])

-- the spelling of what a version keeps of a value with this tree and kind
abbrev pub kept_value : {A : Type 0} → (A → Tree) → Kind → SpecVersion → A → Data
kept_value f k w x = jspell (keep w (f x) k) w k
