-- Texts, booleans and numbers: trees that are written as one text.
use Rattle.std.specs.Prelude.{◌≡◌, refl, ℕ, List, [], Bool}
use Rattle.cdx_events.specs.Nodes.{characters}
use Rattle.cdx_models.specs.declared.bom.SpecVersion.{SpecVersion}
use Rattle.cdx_models.specs.Trees.{Tree, text, number, boolean}
use Rattle.cdx_schema.specs.Kinds.{Kind, a_text, a_boolean, a_number}
use Rattle.cdx_schema.specs.Keeping.{kept, keep}
use Rattle.cdx_schema.specs.XmlTexts.{text_of}
use Rattle.cdx_schema.specs.XmlSpelling.{attributes_of, tag_of, nodes_of, lone}

-- Each version keeps the tree, and it is written as its text, without attributes and under no name of its own.
pub record IsLone (k : Kind) (t : Tree) : Type 0 where
  pub kept : (w : SpecVersion) → keep w t k ≡ t
  pub tag : (s : List ℕ) → tag_of k t s ≡ s
  pub attributes : (w : SpecVersion) → attributes_of t w k ≡ []
  pub nodes : (w : SpecVersion) → nodes_of t w k ≡ lone (characters (text_of t))

pub text_is_lone : (s : List ℕ) → IsLone a_text (text s)
unfolding kept nodes_of
text_is_lone s = record { kept = λ w. refl; tag = λ q. refl; attributes = λ w. refl; nodes = λ w. refl }

pub boolean_is_lone : (b : Bool) → IsLone a_boolean (boolean b)
unfolding kept nodes_of
boolean_is_lone b = record { kept = λ w. refl; tag = λ q. refl; attributes = λ w. refl; nodes = λ w. refl }

pub number_is_lone : (n : ℕ) → IsLone a_number (number n)
unfolding kept nodes_of
number_is_lone n = record { kept = λ w. refl; tag = λ q. refl; attributes = λ w. refl; nodes = λ w. refl }
