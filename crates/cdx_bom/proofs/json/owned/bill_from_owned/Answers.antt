use Rattle.std.proofs.Common.{◌≡◌, ℕ, List, false, bytes_eq, codes, refl, sym, ap, subst, ◌∙◌}
use Rattle.std.proofs.lemmas.Result.{err_from_is_err_and}
use Rattle.serde_json.specs.Data.{object}
use Rattle.serde_json.specs.Find.{get_member}
use Rattle.serde_json.specs.View.{members_view}
use Rattle.cdx_schema.specs.JsonReading.{first_float, float_of_members, seen}
use Rattle.cdx_schema.specs.Depths.{depth_of}
use Rattle.cdx_json.specs.Gives.{Fails, Gives}
use Rattle.cdx_json.specs.SeenOf.{seen_of}
use Rattle.cdx_owned.specs.Floats.{unless_float}
use Rattle.cdx_owned.proofs.FloatSearch.{before_fails, under_fails, others_left}
use Rattle.cdx_owned.proofs.Others.{other_stays}
use Rattle.cdx_bom.specs.Trees.{bom_tree}
use Rattle.cdx_bom.specs.Groups.{bill_by_groups}
use Rattle.cdx_bom.proofs.Floats.{float_first, read_after}
use Rattle.cdx_bom.proofs.Grouped.{bill_gives}
use Rattle.cdx_bom.proofs.ReadApart.{is_with, seen_alike}
use Rattle.cdx_bom.proofs.json.owned.bill_from_owned.Goals as goal

pub returns-in_err-refuse_floats_before : goal.returns-in_err-refuse_floats_before
unfolding first_float
returns-in_err-refuse_floats_before c =
    let before = members_view c.args.map.entries in
    let p = err_from_is_err_and c.from_residual.result c.from_residual.ensures.1 in
    rw (p.1, p.2) (float_first c.in_err-refuse_floats_before.field-0.0 (object before) c.args.version (before_fails (codes "components") c.in_err-refuse_floats_before.field-0.0 before c.in_err-refuse_floats_before.ensures))

pub returns-in_err-components : goal.returns-in_err-components
unfolding first_float
returns-in_err-components c =
    let before = members_view c.args.map.entries in
    let p = err_from_is_err_and c.from_residual-in_err-components.result c.from_residual-in_err-components.ensures.1 in
    rw (p.1, p.2) (float_first c.in_err-components.field-0.0 (object before) c.args.version (under_fails (codes "components") c.in_err-components.field-0.0 before c.in_ok-refuse_floats_before.ensures c.in_err-components.ensures.floats))

pub returns-in_err-refuse_member_floats : goal.returns-in_err-refuse_member_floats
unfolding first_float
returns-in_err-refuse_member_floats c =
    let before = members_view c.args.map.entries in
    let p = err_from_is_err_and c.from_residual-in_err-refuse_member_floats.result c.from_residual-in_err-refuse_member_floats.ensures.1 in
    let same = others_left (codes "components") before c.in_ok-refuse_floats_before.ensures c.in_ok-components.ensures.floats ∙ ap float_of_members (sym c.in_ok-components.ensures.others) in
    rw (p.1, p.2) (float_first c.in_err-refuse_member_floats.field-0.0 (object before) c.args.version (subst (λ o. Fails c.in_err-refuse_member_floats.field-0.0 (unless_float o)) (sym same) c.in_err-refuse_member_floats.ensures))

pub returns : goal.returns
unfolding first_float
returns c =
    let before = members_view c.args.map.entries in
    let others = seen_of c.in_ok-members.members.members.items in
    let same = others_left (codes "components") before c.in_ok-refuse_floats_before.ensures c.in_ok-components.ensures.floats ∙ ap float_of_members (sym c.in_ok-components.ensures.others) in
    let stay : (other : List ℕ) → bytes_eq other (codes "components") ≡ false → get_member other others ≡ get_member other before = λ other apart. ap (get_member other) (c.in_ok-members.ensures ∙ c.in_ok-components.ensures.others) ∙ other_stays (codes "components") other apart before in
    let d = depth_of c.top.result in
    let read = subst (λ o. Gives bom_tree c.bom_from_members.result (bill_by_groups o c.args.version d))
    (sym (is_with (codes "components") (seen before) (seen others) (seen_alike before others (codes "components") stay)))
    (c.bom_from_members.ensures (seen before (codes "components")) c.in_ok-components.ensures.read) in
    let gives = bill_gives bom_tree c.bom_from_members.result (object before) before c.args.version d refl read in
    read_after bom_tree c.bom_from_members.result (object before) c.args.version (ap unless_float same ∙ c.in_ok-refuse_member_floats.ensures) (rw c.top.ensures at gives)
