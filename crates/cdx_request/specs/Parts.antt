-- What an object has.
use Rattle.std.specs.Prelude.{ℕ, List, [], ◌∷◌, Bool, Option, Some, None, option_and_then, is_some}
use Rattle.serde_json.specs.Data.{Data, string, object, Items, no_items, item}
use Rattle.serde_json.specs.Find.{get, as_str}
use Rattle.serde_json.specs.Events.{members_len}
use Rattle.cdx_models.specs.declared.bom.SpecVersion.{SpecVersion}
use Rattle.cdx_models.specs.Versions.{version_of}

infixl 10 ◌>>=◌
abbrev pub ◌>>=◌ : {A B : Type 0} → Option A → (A → Option B) → Option B
o >>= f = option_and_then f o

-- how many members, each under its own name
abbrev pub member_count : Data → ℕ
member_count (object ms) = members_len ms
member_count _ = 0

abbrev pub has : List ℕ → Data → Bool
has name d = is_some (get name d)

abbrev pub text_at : List ℕ → Data → Option (List ℕ)
text_at name d = get name d >>= as_str

abbrev pub version_at : List ℕ → Data → Option SpecVersion
version_at name d = text_at name d >>= version_of

-- a member that may be absent: how many there are of it
abbrev pub how_many : Option Data → ℕ
how_many None = 0
how_many (Some d) = 1

-- where it is there it is a text
abbrev pub if_text : Option Data → Option (Option (List ℕ))
if_text None = Some None
if_text (Some (string s)) = Some (Some s)
if_text (Some _) = None

-- all items of an array, where each is what f asks for
abbrev pub all_in : {A : Type 0} → (Data → Option A) → Items → Option (List A)
all_in f no_items = Some []
all_in f (item d ds) = do
  x ← f d
  xs ← all_in f ds
  Some (x ∷ xs)
