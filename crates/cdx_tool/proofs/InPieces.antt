-- Items that are printed a few at a time.
use Rattle.std.proofs.Common.{◌≡◌, ◌∙◌, ℕ, List, ◌∷◌, [], ◌++◌, map, codes, Bool, false, sym, ap, append_assoc, append-nil}
use Rattle.std.proofs.lemmas.List.{map-append}
use Rattle.serde_json.specs.Data.{Data, array}
use Rattle.serde_json.specs.View.{items_of}
use Rattle.serde_json.specs.Written.{compact_text, items_text}
use Rattle.cdx_tool.specs.Prints.{PrintsItems}

-- ---- an array, after its first bracket

module _ (ds : List Data) (old before : List ℕ) (is : before ≡ old ++ codes "[") where
  pub begun : before ++ items_text false (items_of ds) ≡ old ++ compact_text (array (items_of ds))
  begun = ap (λ s. s ++ items_text false (items_of ds)) is ∙ append_assoc old (91 ∷ []) (items_text false (items_of ds))

  -- whose items were all printed
  pub array_printed : (held : List ℕ) (later : Bool) → PrintsItems ds before false held later → held ++ codes "]" ≡ old ++ compact_text (array (items_of ds))
  array_printed held later printed = printed [] ∙ ap (λ es. before ++ items_text false (items_of es)) (append-nil ds) ∙ begun

-- ---- the values of a list

-- The first were printed, and the rest is to come.
pub piece_printed : {X : Type 0} (f : X → Data) (all piece rest : List X) (whole held : List ℕ) (later : Bool) (new : List ℕ) (now : Bool)
    → all ≡ piece ++ rest → PrintsItems (map f piece) held later new now → held ++ items_text later (items_of (map f all)) ≡ whole → new ++ items_text now (items_of (map f rest)) ≡ whole
piece_printed f all piece rest whole held later new now are printed so_far =
    printed (map f rest) ∙ ap (λ ds. held ++ items_text later (items_of ds)) (sym (ap (map f) are ∙ map-append f piece rest)) ∙ so_far
