-- Worked rows on what versions keep, by computation.
use Prim.Native.String.{String}
use Rattle.std.specs.Prelude.{◌≡◌, refl, [], ◌∷◌, true, false}
use Rattle.cdx_models.specs.declared.bom.SpecVersion.TheVariants.{V1_3, V1_4, V1_5}
use Rattle.cdx_models.specs.Trees.{Tree, absent, number, items, fields, none, more, one, two, bill, component, tool, tools_object, metadata}
use Rattle.cdx_schema.specs.Kinds as kind
use Rattle.cdx_schema.specs.Keeping.{keep, fits}
use Rattle.cdx_schema.specs.Trips.{IsSame, after_road, in_json}
use Rattle.cdx_schema.proofs.Literals.{t', reading_on_literals}

abbrev an_unversioned : Tree
an_unversioned = fields component (more (t' "library") (more absent (more absent (more absent (more absent (more absent (more absent (more (t' "a") (more absent (more absent (more absent (more absent (more absent (more absent (more absent (more absent (more absent (more absent (more absent (more absent (more absent (more absent (more absent (more absent none))))))))))))))))))))))))

a_tool_in_1_3 : keep V1_3 (fields tool (more absent (more (t' "t") (more absent (more absent (one (items none))))))) (kind.a_record tool)
    ≡ fields tool (more absent (more (t' "t") (more absent (more absent (one absent)))))
unfolding reading_on_literals
a_tool_in_1_3 = refl

unversioned_in_1_3 : fits V1_3 an_unversioned (kind.a_record component) ≡ false
unfolding reading_on_literals
unversioned_in_1_3 = refl

unversioned_in_1_4 : fits V1_4 an_unversioned (kind.a_record component) ≡ true
unfolding reading_on_literals
unversioned_in_1_4 = refl

abbrev with_tools : Tree → Tree
with_tools t = fields metadata (more absent (more t (more absent (more absent (more absent (more absent (more absent (one absent))))))))

abbrev tool_components : Tree
tool_components = with_tools (fields tools_object (two absent (items (one an_unversioned))))

tools_fit : fits V1_3 tool_components (kind.a_record metadata) ≡ true
unfolding reading_on_literals
tools_fit = refl

tools_kept : keep V1_3 tool_components (kind.a_record metadata) ≡ with_tools (items none)
unfolding reading_on_literals
tools_kept = refl

abbrev bill_of : String → Tree → Tree
bill_of s m = fields bill (more (t' s) (more (number 1) (more absent (more m (more absent (more absent (more absent (more absent (more absent (more absent (more absent none)))))))))))

same_tools : IsSame (bill_of "1.5" (with_tools (items none))) (bill_of "1.5" (with_tools (fields tools_object (two absent absent))))
unfolding reading_on_literals
same_tools = refl

lowest_so_far : after_road (bill_of "1.5" tool_components) (record { form = in_json; version = V1_3 }) (record { form = in_json; version = V1_5 } ∷ []) ≡ bill_of "1.5" (with_tools (items none))
unfolding reading_on_literals
lowest_so_far = refl
