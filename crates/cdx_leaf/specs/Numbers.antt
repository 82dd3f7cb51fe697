-- Attributes and texts that are booleans and numbers.
use Rattle.std.specs.Prelude.{ℕ, List, Option, Some, None, Result, Ok}
use Rattle.cdx_models.specs.declared.errors.XmlReadError.{XmlReadError}
use Rattle.cdx_models.specs.Trees.{Tree, absent}
use Rattle.cdx_schema.specs.Kinds.{Kind}
use Rattle.cdx_schema.specs.XmlTexts.{tree_of_text}
use Rattle.cdx_schema.specs.XmlReading.{parsed}

-- what the text of an element or attribute is as a kind
abbrev pub value_read : Kind → ℕ → List ℕ → List ℕ → Result Tree XmlReadError
value_read k place name s = parsed (tree_of_text k s) place name s k

-- an attribute that may be there
abbrev pub parsed_attribute : Kind → ℕ → List ℕ → Option (List ℕ) → Result Tree XmlReadError
parsed_attribute k place name None = Ok absent
parsed_attribute k place name (Some s) = value_read k place name s
