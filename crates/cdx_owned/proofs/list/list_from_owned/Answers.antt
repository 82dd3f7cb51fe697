use Rattle.std.proofs.Common.{Result, Ok, Err, IfOk, sym, ap, ◌∙◌, subst}
use Rattle.serde_json.specs.Find.{as_array}
use Rattle.serde_json.specs.View.{view, items_view}
use Rattle.serde_json.proofs.Views.{view-Array}
use Rattle.cdx_models.specs.Trees.{list_tree}
use Rattle.cdx_schema.specs.Depths.{depth_of}
use Rattle.cdx_schema.specs.JsonReading.{first_float}
use Rattle.cdx_json.specs.Gives.{Gives}
use Rattle.cdx_json.proofs.Values.{list_gives}
use Rattle.cdx_owned.specs.Floats.{to_unit, unless_float}
use Rattle.cdx_owned.proofs.list.list_from_owned.Goals as goal

still : {A E : Type 0} (P Q : A → Type 0) (r : Result A E) → ((x : A) → P x → Q x) → IfOk r P → IfOk r Q
still P Q (Ok x) f h = f x h
still P Q (Err e) f h = tt

pub returns-in-Array-clause-floats : goal.returns-in-Array-clause-floats
unfolding first_float
returns-in-Array-clause-floats g c =
    subst (λ d. Gives to_unit c.items_from_owned.result (unless_float (first_float d))) (sym (ap view c.in-Array.is ∙ view-Array c.in-Array.items)) c.items_from_owned.ensures.floats

pub returns-in-Array-clause-read : goal.returns-in-Array-clause-read
returns-in-Array-clause-read g c =
    still _ _ c.items_from_owned.result
    (λ r h. λ l is. list_gives (list_tree g.T.HasTree.tree) r (view c.args.value) (items_view c.in-Array.items.items) g.T.Kinded.kind l c.args.context.version (depth_of c.args.context.depth) is
    (sym (ap as_array (ap view c.in-Array.is ∙ view-Array c.in-Array.items))) h)
    c.items_from_owned.ensures.read
