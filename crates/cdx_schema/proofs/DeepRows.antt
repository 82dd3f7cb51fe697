-- A shallow bill whose JSON spelling nests 104 arrays and objects.
use Rattle.std.specs.Prelude.{◌≡◌, refl, ℕ, zero, suc, [], codes, true}
use Rattle.serde_json.specs.Data.{depth}
use Rattle.cdx_models.specs.declared.bom.SpecVersion.TheVariants.{V1_5}
use Rattle.cdx_models.specs.Trees.{property, license, spdx_id, evidence, pedigree, component, tools_object, metadata, bill, Tree, absent, text, number, items, fields, Trees, none, more, one, two}
use Rattle.cdx_schema.specs.Kinds.{a_bill}
use Rattle.cdx_schema.specs.Table.{rows, list}
use Rattle.cdx_schema.specs.Depth.{top}
use Rattle.cdx_schema.specs.JsonSpelling.{jspell}
use Rattle.cdx_schema.specs.Keeping.{is_shallow}

abbrev gaps : ℕ → Trees → Trees
gaps zero ts = ts
gaps (suc n) ts = more absent (gaps n ts)

-- a component with a pedigree and evidence
abbrev component_with : Tree → Tree → Tree
component_with p e = fields component (more (text []) (gaps 6 (more (text []) (gaps 10 (more p (gaps 3 (two e absent)))))))

abbrev some_properties : Tree
some_properties = items (one (fields property (two (text []) (text []))))

abbrev deep_license : Tree
deep_license = fields license (more absent (more (fields spdx_id (one (text []))) (more absent (two absent some_properties))))

abbrev deep_evidence : Tree
deep_evidence = fields evidence (two (items (one deep_license)) absent)

abbrev line : ℕ → Tree
line zero = component_with absent deep_evidence
line (suc n) = component_with (fields pedigree (more (items (one (line n))) (gaps 5 none))) absent

abbrev deepest : Tree
deepest = fields bill (more (text (codes "1.5")) (more (number 1) (more absent (more (fields metadata (more absent (more (fields tools_object (two absent (items (one (line 31))))) (gaps 6 none)))) (gaps 7 none)))))

deepest_nests : depth (jspell deepest V1_5 a_bill) ≡ 104
unfolding jspell rows list
deepest_nests = refl

deepest_shallow : is_shallow deepest top ≡ true
unfolding is_shallow
deepest_shallow = refl
