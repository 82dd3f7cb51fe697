-- Services count for the depth.
use Rattle.std.proofs.Common.{◌≡◌, ◌+◌, ◌<◌, ◌≤◌, true, false, [], Some, None, Result, sym, ap, ◌∙◌, subst, arith}
use Rattle.serde_json.specs.Data.{Data, Members}
use Rattle.serde_json.specs.Find.{as_object}
use Rattle.cdx_models.specs.declared.bom.SpecVersion.{SpecVersion}
use Rattle.cdx_models.specs.declared.errors.JsonKind.TheVariants.{WrongKind, TooDeep}
use Rattle.cdx_models.specs.declared.errors.JsonReadError.{JsonReadError}
use Rattle.cdx_models.specs.Trees.{service}
use Rattle.cdx_schema.specs.Kinds.{a_record}
use Rattle.cdx_schema.specs.Depth.{Depth, inside, name_too_deep}
use Rattle.cdx_schema.specs.JsonReading.{jread, seen}
use Rattle.cdx_json.specs.Gives.{Fails, Gives, IsFaultAt}
use Rattle.cdx_json.proofs.Values.{record_err, deep_err, deep_record_gives}
use Rattle.cdx_service.specs.declared.service.Service.{Service}
use Rattle.cdx_service.specs.Trees.{service_tree}
use Rattle.cdx_service.specs.Groups.{service_by_groups}
use Rattle.cdx_service.proofs.Grouped.{service_in_groups}
use Rattle.cdx_json.proofs.Groups.{one_more}

abbrev pub in_service : Depth → Depth
in_service d = record { components = d.components; services = d.services + 1 }

pub service_is_deep : (d : Depth) → 32 ≤ d.services → name_too_deep service d ≡ true
service_is_deep d h = grind arith

pub service_is_shallow : (d : Depth) → d.services < 32 → name_too_deep service d ≡ false
service_is_shallow d h = grind arith

pub inside_service : (d : Depth) → in_service d ≡ inside service d
inside_service d = ap (λ n. record { components = d.components; services = n }) (one_more d.services)

pub service_deep : (e : JsonReadError) (x : Data) (v : SpecVersion) (d : Depth) → 32 ≤ d.services → IsFaultAt [] TooDeep e → Fails e (jread x v (a_record service) d)
service_deep e x v d h at = deep_err e x service v d (service_is_deep d h) at

pub service_none : (e : JsonReadError) (x : Data) (v : SpecVersion) (d : Depth) → d.services < 32 → None ≡ as_object x → IsFaultAt [] WrongKind e → Fails e (jread x v (a_record service) d)
service_none e x v d h is at = record_err e x service v d (service_is_shallow d h) is at

pub service_some : (r : Result Service JsonReadError) (x : Data) (ms : Members) (v : SpecVersion) (d : Depth) → d.services < 32 → Some ms ≡ as_object x → Gives service_tree r (service_by_groups (seen ms) v (in_service d)) → Gives service_tree r (jread x v (a_record service) d)
service_some r x ms v d h is given =
    deep_record_gives service_tree r x ms service v d (service_is_shallow d h) is
    (subst (Gives service_tree r) (ap (service_by_groups (seen ms) v) (inside_service d) ∙ sym (service_in_groups (seen ms) v (inside service d))) given)
