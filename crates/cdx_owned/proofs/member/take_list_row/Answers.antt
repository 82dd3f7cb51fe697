use Rattle.std.proofs.Common.{◌≡◌, ℕ, List, Option, Some, None, Ok, refl}
use Rattle.serde_json.specs.Data.{Data}
use Rattle.serde_json.specs.Data as json
use Rattle.serde_json.specs.Find.{get_member}
use Rattle.serde_json.specs.View.{view, members_view}
use Rattle.cdx_models.specs.Trees.{list_tree}
use Rattle.cdx_schema.specs.Kinds.{a_list, optional}
use Rattle.cdx_schema.specs.JsonReading.{first_float}
use Rattle.cdx_schema.specs.Depths.{depth_of}
use Rattle.cdx_json.specs.Gives.{non_null}
use Rattle.cdx_json.proofs.Rows.{may_none, live_ok, live_err}
use Rattle.cdx_owned.specs.Floats.{unless_float, float_under}
use Rattle.cdx_owned.proofs.member.take_list_row.Goals as goal

none_in_null : (name : List ℕ) (o : Option Data) → None ≡ non_null o → unless_float (float_under name o) ≡ Ok tt
unfolding first_float
none_in_null name None e = refl
none_in_null name (Some json.null) e = refl
none_in_null name (Some (json.boolean b)) e = absurd cc
none_in_null name (Some (json.number n)) e = absurd cc
none_in_null name (Some (json.string s)) e = absurd cc
none_in_null name (Some (json.array xs)) e = absurd cc
none_in_null name (Some (json.object ms)) e = absurd cc

pub returns-in-None-clause-floats : goal.returns-in-None-clause-floats
returns-in-None-clause-floats g c = none_in_null c.args.name.now (get_member c.args.name.now (members_view c.args.map.now.entries)) c.in-None.ensures.member

pub returns-in-None-clause-read : goal.returns-in-None-clause-read
returns-in-None-clause-read g c = λ l h. may_none c.args.name.now (a_list l) (members_view c.args.map.now.entries) c.args.context.version (depth_of c.args.context.depth) c.in-None.ensures.member

pub returns-in-Ok-Ok-clause-read : goal.returns-in-Ok-Ok-clause-read
returns-in-Ok-Ok-clause-read g c =
    λ l h. live_ok c.args.name.now optional (a_list l) (members_view c.args.map.now.entries) c.args.context.version (depth_of c.args.context.depth) (view c.in-Some.value) (list_tree g.T.HasTree.tree c.in-Ok-Ok.held) c.in-Some.ensures.member
    ((rw c.in-Ok-Ok.field-0-is at c.in-Ok-Ok.ensures.read) l h)

pub returns-in-Ok-Err-clause-read : goal.returns-in-Ok-Err-clause-read
returns-in-Ok-Err-clause-read g c =
    λ l h. live_err c.in-Ok-Err.e c.at_member.result c.args.name.now optional (a_list l) (members_view c.args.map.now.entries) c.args.context.version (depth_of c.args.context.depth) (view c.in-Some.value) c.in-Some.ensures.member
    ((rw c.in-Ok-Err.field-0-is at c.in-Ok-Err.ensures.read) l h) c.at_member.ensures
