-- What calls make of values.
use Rattle.std.proofs.Common.{◌≡◌, ap, ◌∙◌, [], Result, Ok, Err, IfOk, String, BTreeMap, Global}
use Rattle.std.specs.declared.alloc.AllocError.{AllocError}
use Rattle.serde_json.specs.Data.{Data, object, no_members}
use Rattle.serde_json.specs.View.{view, members_view}
use Rattle.serde_json.specs.declared.value.Value.{Value, Object}
use Rattle.serde_json.proofs.Views.{view-Object}

pub made_so : (r : Result Value AllocError) (x y : Data) → IfOk r (λ v. view v ≡ x) → x ≡ y → IfOk r (λ v. view v ≡ y)
made_so (Ok v) x y h e = h ∙ e
made_so (Err a) x y h e = tt

pub empty_object : (m : BTreeMap (String Global) Value) → m.entries ≡ [] → view (Object m) ≡ object no_members
empty_object m e = view-Object m ∙ ap (λ es. object (members_view es)) e
