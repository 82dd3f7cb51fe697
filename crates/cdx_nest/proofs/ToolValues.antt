-- Tools are a list of tools, or in 1.5 an object of services and components.
use Rattle.std.proofs.Common.{◌≡◌, [], Vec, Global, Some, None, Result, Ok, refl, sym, ap, ◌∙◌, subst}
use Rattle.serde_json.specs.Data.{Data, Items, no_items, array, Members, no_members, object}
use Rattle.serde_json.specs.Data as json
use Rattle.serde_json.specs.Find.{as_array, as_object}
use Rattle.cdx_models.specs.declared.bom.SpecVersion.{SpecVersion}
use Rattle.cdx_models.specs.declared.bom.SpecVersion.TheVariants.{V1_5}
use Rattle.cdx_models.specs.declared.errors.JsonKind.TheVariants.{WrongKind}
use Rattle.cdx_models.specs.declared.errors.JsonReadError.{JsonReadError}
use Rattle.cdx_models.specs.Trees.{tool, tools_object, Tree, items, fields, Trees}
use Rattle.cdx_schema.specs.Kinds.{tool_list, a_list, a_record, a_tools}
use Rattle.cdx_schema.specs.Table.{rows, list}
use Rattle.cdx_schema.specs.Depth.{Depth}
use Rattle.cdx_schema.specs.Faults.{here}
use Rattle.cdx_schema.specs.Keeping.{kept, keep}
use Rattle.cdx_schema.specs.JsonReading.{jread, seen, tools_read}
use Rattle.cdx_schema.specs.JsonSpelling.{jspell}
use Rattle.cdx_json.specs.ByRows.{list_read, by_rows}
use Rattle.cdx_json.specs.Gives.{Fails, Gives, IsFaultAt}
use Rattle.cdx_json.specs.KeptRows.{rows_put}
use Rattle.cdx_json.specs.Spellings.{spelling_data, spelling_items}
use Rattle.cdx_json.specs.declared.spelling.Spelling.{Spelling, Array}
use Rattle.cdx_json.proofs.ByRowsLaws.{by_rows_are}
use Rattle.cdx_json.proofs.KeptRowsLaws.{record_put}
use Rattle.cdx_json.proofs.Rows.{fails_here}
use Rattle.cdx_json.proofs.Setting.{spelling_data-Array}
use Rattle.cdx_nest.specs.declared.tools.Tools.{Tools}
use Rattle.cdx_nest.specs.Trees.{tools_tree}

-- ---- read

array_is : (x : Data) (ds : Items) (v : SpecVersion) (d : Depth) → Some ds ≡ as_array x → jread x v a_tools d ≡ list_read ds v (a_record tool) d
unfolding jread list
array_is json.null ds v d e = absurd cc
array_is (json.boolean b) ds v d e = absurd cc
array_is (json.number n) ds v d e = absurd cc
array_is (json.string s) ds v d e = absurd cc
array_is (json.array es) ds v d e = let same : es ≡ ds = cc in ap (λ q. list_read q v (a_record tool) d) same
array_is (json.object ms) ds v d e = absurd cc

object_is : (x : Data) (ms : Members) (v : SpecVersion) (d : Depth) → Some ms ≡ as_object x → jread x v a_tools d ≡ tools_read v (seen ms) d
unfolding jread
object_is json.null ms v d e = absurd cc
object_is (json.boolean b) ms v d e = absurd cc
object_is (json.number n) ms v d e = absurd cc
object_is (json.string s) ms v d e = absurd cc
object_is (json.array es) ms v d e = absurd cc
object_is (json.object ls) ms v d e = let same : ls ≡ ms = cc in ap (λ q. tools_read v (seen q) d) same

wrong : (x : Data) (v : SpecVersion) (d : Depth) → None ≡ as_array x → None ≡ as_object x → jread x v a_tools d ≡ here WrongKind
unfolding jread
wrong json.null v d a e = refl
wrong (json.boolean b) v d a e = refl
wrong (json.number n) v d a e = refl
wrong (json.string s) v d a e = refl
wrong (json.array es) v d a e = absurd cc
wrong (json.object ls) v d a e = absurd cc

pub tools_ok : (x : Data) (ds : Items) (t : Tree) (v : SpecVersion) (d : Depth) → Some ds ≡ as_array x → list_read ds v (a_record tool) d ≡ Ok t → jread x v a_tools d ≡ Ok t
tools_ok x ds t v d is e = array_is x ds v d is ∙ e

pub tools_err : (e : JsonReadError) (x : Data) (ds : Items) (v : SpecVersion) (d : Depth) → Some ds ≡ as_array x → Fails e (list_read ds v (a_record tool) d) → Fails e (jread x v a_tools d)
tools_err e x ds v d is h = subst (Fails e) (sym (array_is x ds v d is)) h

pub tools_wrong : (e : JsonReadError) (x : Data) (v : SpecVersion) (d : Depth) → None ≡ as_array x → None ≡ as_object x → IsFaultAt [] WrongKind e → Fails e (jread x v a_tools d)
tools_wrong e x v d a is at = fails_here e WrongKind (jread x v a_tools d) at (wrong x v d a is)

pub tools_gives : (r : Result Tools JsonReadError) (x : Data) (ms : Members) (v : SpecVersion) (d : Depth) → Some ms ≡ as_object x → Gives tools_tree r (tools_read v (seen ms) d) → Gives tools_tree r (jread x v a_tools d)
tools_gives r x ms v d is h = subst (Gives tools_tree r) (sym (object_is x ms v d is)) h

pub object_gives : (r : Result Tools JsonReadError) (ms : Members) (d : Depth) → Gives tools_tree r (by_rows tools_object (seen ms) V1_5 d) → Gives tools_tree r (tools_read V1_5 (seen ms) d)
object_gives r ms d h = subst (Gives tools_tree r) (by_rows_are tools_object (seen ms) V1_5 d) h

-- ---- kept and written

pub list_kept : (w l : SpecVersion) (ts : Trees) → kept w l (items ts) (a_list tool_list) ≡ kept w l (items ts) a_tools
unfolding kept
list_kept w l ts = refl

pub list_spelled : (w : SpecVersion) (ts : Trees) → jspell (keep w (items ts) (a_list tool_list)) w (a_list tool_list) ≡ jspell (keep w (items ts) a_tools) w a_tools
unfolding kept jspell
list_spelled w ts = refl

alike : (ts : Trees) → jspell (keep V1_5 (fields tools_object ts) (a_record tools_object)) V1_5 (a_record tools_object) ≡ jspell (keep V1_5 (fields tools_object ts) a_tools) V1_5 a_tools
unfolding kept jspell
alike ts = refl

pub object_spelled : (ts : Trees) → object (rows_put ts V1_5 (rows tools_object) no_members) ≡ jspell (keep V1_5 (fields tools_object ts) a_tools) V1_5 a_tools
object_spelled ts = record_put tools_object V1_5 (fields tools_object ts) refl refl ∙ alike ts

pub empty_is : (v : Vec Spelling Global) → v.items ≡ [] → spelling_data (Array v) ≡ array no_items
empty_is v e = spelling_data-Array v ∙ ap (λ ss. array (spelling_items ss)) e
