use Rattle.std.proofs.Common.{◌≡◌, Ok, string_bytes, sym, ap, ◌∙◌, subst, arith, rules}
use Rattle.std.proofs.lemmas.Result.{err_from_is_err_and}
use Rattle.serde_json.specs.Data.{null, boolean, number, string}
use Rattle.serde_json.specs.View.{view, number_view, members_view}
use Rattle.serde_json.specs.declared.value.Value.{the_lemmas}
use Rattle.serde_json.proofs.Views.{Entry, view-Array, view-Object}
use Rattle.cdx_models.specs.declared.errors.Step.TheVariants.{Item, Member}
use Rattle.cdx_schema.specs.JsonReading.{first_float, float_of_members, behind}
use Rattle.cdx_json.specs.Gives.{Fails, Gives}
use Rattle.cdx_owned.specs.Floats.{to_unit, unless_float}
use Rattle.cdx_owned.proofs.FloatSearch.{within_free, within_float, number_free, number_float, items_go, items_stop, items_end, members_go, members_stop, members_end}
use Rattle.cdx_owned.proofs.floats.+floats.Goals as goal

pub refuse_floats-returns-in-Null : goal.refuse_floats-returns-in-Null
unfolding first_float
refuse_floats-returns-in-Null t c =
    let seen : null ≡ view c.args.value.now = rw c.in-Null.is (search (rules, the_lemmas)) in
    sym (ap (λ d. unless_float (first_float d)) seen)

pub refuse_floats-returns-in-Bool : goal.refuse_floats-returns-in-Bool
unfolding first_float
refuse_floats-returns-in-Bool t c =
    let seen : boolean c.in-Bool.field-0 ≡ view c.args.value.now = rw c.in-Bool.is (search (rules, the_lemmas)) in
    sym (ap (λ d. unless_float (first_float d)) seen)

pub refuse_floats-returns-in-String : goal.refuse_floats-returns-in-String
unfolding first_float
refuse_floats-returns-in-String t c =
    let seen : string (string_bytes c.in-String.field-0) ≡ view c.args.value.now = rw c.in-String.is (search (rules, the_lemmas)) in
    sym (ap (λ d. unless_float (first_float d)) seen)

pub refuse_floats-returns-then-is_f64 : goal.refuse_floats-returns-then-is_f64
refuse_floats-returns-then-is_f64 t c =
    let seen : number (number_view c.in-Number.number) ≡ view c.args.value.now = rw c.in-Number.is (search (rules, the_lemmas)) in
    subst (λ d. Fails c.here.result (unless_float (first_float d))) seen (number_float c.here.result (number_view c.in-Number.number) c.is_f64.result c.is_f64.ensures c.if-is_f64.true c.here.ensures)

pub refuse_floats-returns-else-is_f64 : goal.refuse_floats-returns-else-is_f64
refuse_floats-returns-else-is_f64 t c =
    let seen : number (number_view c.in-Number.number) ≡ view c.args.value.now = rw c.in-Number.is (search (rules, the_lemmas)) in
    sym (ap (λ d. unless_float (first_float d)) seen) ∙ number_free (number_view c.in-Number.number) c.is_f64.result c.is_f64.ensures c.if-is_f64.false

pub refuse_floats-returns-in-Array : goal.refuse_floats-returns-in-Array
unfolding first_float
refuse_floats-returns-in-Array t c =
    subst (λ d. Gives to_unit c.refuse_item_floats.result (unless_float (first_float d))) (sym (ap view c.in-Array.is ∙ view-Array c.in-Array.items)) c.refuse_item_floats.ensures

pub refuse_floats-returns-in-Object : goal.refuse_floats-returns-in-Object
unfolding first_float
refuse_floats-returns-in-Object t c =
    subst (λ d. Gives to_unit c.refuse_member_floats.result (unless_float (first_float d))) (sym (ap view c.in-Object.is ∙ view-Object c.in-Object.map)) c.refuse_member_floats.ensures

pub refuse_item-returns-in-Ok : goal.refuse_item-returns-in-Ok
refuse_item-returns-in-Ok t c = within_free (Item c.args.at) (first_float (view c.args.item.now)) c.in-Ok.ensures

pub refuse_item-returns-in-Err : goal.refuse_item-returns-in-Err
refuse_item-returns-in-Err t c = within_float c.in-Err.e c.at_item.result (Item c.args.at) (first_float (view c.args.item.now)) c.in-Err.ensures c.at_item.ensures

pub refuse_member-returns-in-Ok : goal.refuse_member-returns-in-Ok
refuse_member-returns-in-Ok t c = within_free (Member c.args.name.now) (first_float (view c.args.value.now)) c.in-Ok.ensures

pub refuse_member-returns-in-Err : goal.refuse_member-returns-in-Err
refuse_member-returns-in-Err t c = within_float c.in-Err.e c.at_member.result (Member c.args.name.now) (first_float (view c.args.value.now)) c.in-Err.ensures c.at_member.ensures

pub refuse_item_floats-returns-in_err-refuse_item : goal.refuse_item_floats-returns-in_err-refuse_item
refuse_item_floats-returns-in_err-refuse_item t c =
    let p = err_from_is_err_and c.from_residual.result c.from_residual.ensures.1 in
    rw (p.1, p.2) (items_stop c.deref-item-items.result.now c.loop-i.i c.item-item.result _ c.in_err-refuse_item.field-0.0 c.loop-i-test.true c.item-item.is c.in_err-refuse_item.ensures c.loop-i.invariant)

pub refuse_item_floats-loop-i-preserved : goal.refuse_item_floats-loop-i-preserved
refuse_item_floats-loop-i-preserved t c = items_go c.deref-item-items.result.now c.loop-i.i c.item-item.result _ c.loop-i-test.true c.item-item.is c.in_ok-refuse_item.ensures c.loop-i.invariant

pub refuse_item_floats-returns : goal.refuse_item_floats-returns
refuse_item_floats-returns t c = items_end c.deref-item-items.result.now c.loop-i.i _ (omega arith) c.loop-i.invariant

pub refuse_member_floats-returns-in_err-refuse_member : goal.refuse_member_floats-returns-in_err-refuse_member
refuse_member_floats-returns-in_err-refuse_member t c =
    let p = err_from_is_err_and c.from_residual.result c.from_residual.ensures.1 in
    let e : Entry = (c.in-Some.name.now, c.in-Some.value.now) in
    let named : c.as_str.result.now ≡ string_bytes c.in-Some.name.now = search rules in
    rw (p.1, p.2)
    (members_stop e c.next.new.self _ c.in_err-refuse_member.field-0.0 (subst (λ s. Fails c.in_err-refuse_member.field-0.0 (unless_float (behind (Member s) (first_float (view c.in-Some.value.now))))) named c.in_err-refuse_member.ensures)
    (subst (λ es. float_of_members (members_view es) ≡ float_of_members (members_view c.args.map.now.entries)) c.in-Some.ensures.steps c.loop-name.invariant))

pub refuse_member_floats-loop-name-preserved : goal.refuse_member_floats-loop-name-preserved
refuse_member_floats-loop-name-preserved t c =
    let e : Entry = (c.in-Some.name.now, c.in-Some.value.now) in
    let named : c.as_str.result.now ≡ string_bytes c.in-Some.name.now = search rules in
    members_go e c.next.new.self _ (subst (λ s. unless_float (behind (Member s) (first_float (view c.in-Some.value.now))) ≡ Ok tt) named c.in_ok-refuse_member.ensures)
    (subst (λ es. float_of_members (members_view es) ≡ float_of_members (members_view c.args.map.now.entries)) c.in-Some.ensures.steps c.loop-name.invariant)

pub refuse_member_floats-returns : goal.refuse_member_floats-returns
refuse_member_floats-returns t c = members_end c.loop-name.name-iterator _ c.in-None.ensures.steps.0 c.loop-name.invariant
