-- Components, pedigrees and lists of components, while they are read and once they were.
use Rattle.std.proofs.Common.{◌≡◌, List, Ok, refl, sym, ap, ◌∙◌}
use Rattle.cdx_events.specs.declared.name.OwnedName.{OwnedName}
use Rattle.cdx_events.specs.declared.name.OwnedAttribute.{OwnedAttribute}
use Rattle.cdx_events.specs.Cursor.{Cursor}
use Rattle.cdx_models.specs.declared.bom.SpecVersion.{SpecVersion}
use Rattle.cdx_models.specs.Trees.{Tree}
use Rattle.cdx_schema.specs.Depth.{Depth}
use Rattle.cdx_schema.specs.Kinds.{Kind}
use Rattle.cdx_schema.specs.Table.{rule, list}
use Rattle.cdx_leaf.specs.Reading.{ReadsAs}
use Rattle.cdx_leaf.specs.Rules.{as_rule}
use Rattle.cdx_leaf.specs.declared.rule.Rule.TheVariants.{Lax}
use Rattle.cdx_nest_machine.specs.Forms.{plan_of}
use Rattle.cdx_component.specs.Frames.{kind_of}
use Rattle.cdx_component.specs.declared.frames.ComponentKind.{ComponentKind}
use Rattle.cdx_component.specs.declared.frames.ComponentKind.TheVariants as kinds

-- They are lax.
pub frames_ruled : (k : ComponentKind) → (plan_of (kind_of k)).rule ≡ as_rule Lax
unfolding rule list
frames_ruled kinds.Component = refl
frames_ruled kinds.Components = refl
frames_ruled kinds.Pedigree = refl

-- what was read, seen as the value that it is
pub read_as : {X Y : Type 0} (f : X → Tree) (g : Y → Tree) (old new : Cursor) (n : OwnedName) (a : List OwnedAttribute) (v : SpecVersion) (kind : Kind) (depth : Depth → Depth) (x : X) (y : Y) → g y ≡ f x → ReadsAs f old new n a v kind depth (Ok x) → ReadsAs g old new n a v kind depth (Ok y)
read_as f g old new n a v kind depth x y same h = λ d ns p nodes rest st.
    let r = h d ns p nodes rest st in
    (r.0 ∙ ap (λ t. Ok t) (sym same), r.1)
