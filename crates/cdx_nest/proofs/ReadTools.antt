-- What tools come to at their element's end.
use Rattle.std.proofs.Common.{◌≡◌, ℕ, List, [], ◌∷◌, length, Bool, true, false, not, ◌||◌, ◌&&◌, if◌then◌else◌, codes, Result, Ok, Err, refl, sym, ap, ◌∙◌, arith}
use Rattle.cdx_models.specs.declared.bom.SpecVersion.{SpecVersion}
use Rattle.cdx_models.specs.declared.errors.XmlReadError.{XmlReadError}
use Rattle.cdx_models.specs.declared.tool.Tool.{Tool}
use Rattle.cdx_models.specs.Records.{tool_tree}
use Rattle.cdx_models.specs.Trees.{Tree, more, two, present, list_tree, is_absent}
use Rattle.cdx_schema.specs.Faults.{lacking}
use Rattle.cdx_schema.specs.XmlReading.{tools_object_of}
use Rattle.cdx_leaf.specs.Trees.{collected}
use Rattle.cdx_nest_machine.specs.Forms.{tools_last}
use Rattle.cdx_component.specs.Trees.{components_tree}
use Rattle.cdx_service.specs.Trees.{services_tree}
use Rattle.cdx_nest.specs.Reading.{tools_part, object_slots}
use Rattle.cdx_nest.specs.declared.frames.tools.ToolsPart.{ToolsPart}

module _ (v : SpecVersion) (el : List ℕ) (q : ℕ) where
  pub without_tool : (x : ToolsPart) (count : ℕ) → count ≡ length x.tools → count ≡ 0 → tools_last el v q (tools_part x) ≡ Ok (tools_object_of v (object_slots x.services x.components))
  without_tool x count is empty = by x.tools (sym is ∙ empty)
    where
      by : (ts : List Tool) → length ts ≡ 0 → tools_last el v q (more (collected tool_tree ts) (two (present services_tree x.services) (present components_tree x.components))) ≡ Ok (tools_object_of v (object_slots x.services x.components))
      by [] e = refl
      by (t ∷ ts) e = absurd (omega arith)

  -- a tool, and whether something stands beside it
  abbrev beside : Bool → Tree → Result Tree XmlReadError
  beside true t = Err (lacking q el (codes "tool array or services & components"))
  beside false t = Ok t

  with_tool : (ts : List Tool) (s t : Tree) → (length ts ≡ 0 → ⊥) → tools_last el v q (more (collected tool_tree ts) (two s t)) ≡ beside (not (is_absent s) || not (is_absent t)) (list_tree tool_tree ts)
  with_tool [] s t some = absurd (some refl)
  with_tool (x ∷ xs) s t some = go (is_absent s) (is_absent t)
    where
      go : (b c : Bool) → (if b && c then Ok (list_tree tool_tree (x ∷ xs)) else Err (lacking q el (codes "tool array or services & components"))) ≡ beside (not b || not c) (list_tree tool_tree (x ∷ xs))
      go true true = refl
      go true false = refl
      go false c = refl

  pub with_tools : (x : ToolsPart) (count : ℕ) (b c : Bool) → count ≡ length x.tools → (count ≡ 0 → ⊥) → b ≡ (not (is_absent (present services_tree x.services)) || not (is_absent (present components_tree x.components))) → b ≡ c
      → tools_last el v q (tools_part x) ≡ beside c (list_tree tool_tree x.tools)
  with_tools x count b c is some told e =
      with_tool x.tools (present services_tree x.services) (present components_tree x.components) (λ z. some (is ∙ z))
      ∙ ap (λ y. beside y (list_tree tool_tree x.tools)) (sym told ∙ e)
