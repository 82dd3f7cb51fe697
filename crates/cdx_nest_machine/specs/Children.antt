-- What reads the children of nested kinds.
use Rattle.std.specs.Prelude.{◌≡◌, refl, ℕ, zero, suc, List, [], ◌∷◌, map, true, false, Option, Some, None}
use Rattle.std.proofs.Common.{sym, ap, ◌∙◌}
use Rattle.cdx_schema.specs.Depth.{Depth, is_too_deep}
use Rattle.cdx_schema.specs.Kinds.{Kind}
use Rattle.cdx_schema.specs.XmlReading.{Child}
use Rattle.cdx_schema.specs.declared.depth.Depth.{Depth as Counts}
use Rattle.cdx_schema.specs.Depths.{depth_of}
use Rattle.cdx_machine.specs.Several.{at_position, kinds_of}
use Rattle.cdx_nest_machine.specs.declared.nested.ChildReader.{ChildReader}
use Rattle.cdx_nest_machine.specs.declared.nested.ChildReader.TheVariants.{Leaf, Nested}
use Rattle.cdx_nest_machine.specs.Forms.{inner_of}
use Rattle.cdx_schema.proofs.Basics.{some_same}

-- the kind that is read
abbrev pub child_kind : {L S : Type 0} → (L → Kind) → (S → Kind) → ChildReader L S → Kind
child_kind leaf own (Leaf l) = leaf l
child_kind leaf own (Nested s) = own s

-- Something reads the child of each position, and reads it as the child's kind.
abbrev pub ReadsEach : {L S : Type 0} → (L → Kind) → (S → Kind) → (ℕ → Option (ChildReader L S)) → List Child → Type 0
ReadsEach {L = L} {S = S} leaf own child cs = (i : ℕ) (row : Child) → at_position cs i ≡ Some row → (r : ChildReader L S) × (child i ≡ Some r) × (row.kind ≡ child_kind leaf own r)

-- Something reads the child of the position.
abbrev pub HasReader : {L S : Type 0} → (ℕ → Option (ChildReader L S)) → ℕ → Type 0
HasReader {L = L} {S = S} child i = (r : ChildReader L S) × (child i ≡ Some r)

-- How deep the parts of an element of the kind stand, or none where it is too deep itself.
abbrev pub Deepens : Kind → Depth → Option Counts → Type 0
Deepens kind d None = is_too_deep kind d ≡ true
Deepens kind d (Some e) = (is_too_deep kind d ≡ false) × (depth_of e ≡ inner_of kind d)

-- The law of a list of what reads each child.
pub readers_listed : {L S : Type 0} (leaf : L → Kind) (own : S → Kind) (rs : List (ChildReader L S)) (cs : List Child) → map (child_kind leaf own) rs ≡ kinds_of cs → ReadsEach leaf own (at_position rs) cs
readers_listed leaf own [] [] e i row h = absurd (let wrong : None ≡ Some row = h in cc)
readers_listed leaf own [] (c ∷ cs) e i row h = absurd (let wrong : [] ≡ c.kind ∷ kinds_of cs = e in cc)
readers_listed leaf own (r ∷ rs) [] e i row h = absurd (let wrong : None ≡ Some row = h in cc)
readers_listed leaf own (r ∷ rs) (c ∷ cs) e zero row h =
    let same : c ≡ row = some_same h in
    let kind : child_kind leaf own r ≡ c.kind = cc in
    (r, refl, ap (λ (x : Child). x.kind) (sym same) ∙ sym kind)
readers_listed leaf own (r ∷ rs) (c ∷ cs) e (suc i) row h =
    let rest : map (child_kind leaf own) rs ≡ kinds_of cs = cc in
    readers_listed leaf own rs cs rest i row h
