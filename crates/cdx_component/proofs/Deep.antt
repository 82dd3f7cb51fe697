-- Components count for the depth.
use Rattle.std.proofs.Common.{◌≡◌, ◌+◌, ◌<◌, ◌≤◌, true, false, [], Some, None, Result, sym, ap, ◌∙◌, subst, arith}
use Rattle.serde_json.specs.Data.{Data, Members}
use Rattle.serde_json.specs.Find.{as_object}
use Rattle.cdx_models.specs.declared.bom.SpecVersion.{SpecVersion}
use Rattle.cdx_models.specs.declared.errors.JsonKind.TheVariants.{WrongKind, TooDeep}
use Rattle.cdx_models.specs.declared.errors.JsonReadError.{JsonReadError}
use Rattle.cdx_models.specs.Trees.{component}
use Rattle.cdx_schema.specs.Kinds.{a_record}
use Rattle.cdx_schema.specs.Depth.{Depth, inside, name_too_deep}
use Rattle.cdx_schema.specs.JsonReading.{jread, seen}
use Rattle.cdx_json.specs.Gives.{Fails, Gives, IsFaultAt}
use Rattle.cdx_json.proofs.Values.{record_err, deep_err, deep_record_gives}
use Rattle.cdx_component.specs.declared.component.Component.{Component}
use Rattle.cdx_component.specs.Trees.{component_tree}
use Rattle.cdx_component.specs.Groups.{component_by_groups}
use Rattle.cdx_component.proofs.Grouped.{component_in_groups}
use Rattle.cdx_json.proofs.Groups.{one_more}

abbrev pub in_component : Depth → Depth
in_component d = record { components = d.components + 1; services = d.services }

pub component_is_deep : (d : Depth) → 32 ≤ d.components → name_too_deep component d ≡ true
component_is_deep d h = grind arith

pub component_is_shallow : (d : Depth) → d.components < 32 → name_too_deep component d ≡ false
component_is_shallow d h = grind arith

pub inside_component : (d : Depth) → in_component d ≡ inside component d
inside_component d = ap (λ n. record { components = n; services = d.services }) (one_more d.components)

pub component_deep : (e : JsonReadError) (x : Data) (v : SpecVersion) (d : Depth) → 32 ≤ d.components → IsFaultAt [] TooDeep e → Fails e (jread x v (a_record component) d)
component_deep e x v d h at = deep_err e x component v d (component_is_deep d h) at

pub component_none : (e : JsonReadError) (x : Data) (v : SpecVersion) (d : Depth) → d.components < 32 → None ≡ as_object x → IsFaultAt [] WrongKind e → Fails e (jread x v (a_record component) d)
component_none e x v d h is at = record_err e x component v d (component_is_shallow d h) is at

pub component_some : (r : Result Component JsonReadError) (x : Data) (ms : Members) (v : SpecVersion) (d : Depth) → d.components < 32 → Some ms ≡ as_object x → Gives component_tree r (component_by_groups (seen ms) v (in_component d)) → Gives component_tree r (jread x v (a_record component) d)
component_some r x ms v d h is given =
    deep_record_gives component_tree r x ms component v d (component_is_shallow d h) is
    (subst (Gives component_tree r) (ap (component_by_groups (seen ms) v) (inside_component d) ∙ sym (component_in_groups (seen ms) v (inside component d))) given)
