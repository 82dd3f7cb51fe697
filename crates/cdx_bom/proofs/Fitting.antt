-- Which versions bills fit.
use Rattle.std.proofs.Common.{◌≡◌, true, ◌&&◌, Option, None, refl}
use mathlib.Core.Bool.{and-true}
use Rattle.cdx_models.specs.declared.bom.SpecVersion.{SpecVersion}
use Rattle.cdx_models.specs.declared.bom.SpecVersion.TheVariants.{V1_3, V1_4, V1_5}
use Rattle.cdx_models.specs.Trees.{metadata, Tree, present}
use Rattle.cdx_models.specs.Records.{urn_tree, references_tree, properties_tree}
use Rattle.cdx_relations.specs.Records.{dependencies_tree, compositions_tree}
use Rattle.cdx_signature.specs.Records.{signature_tree}
use Rattle.cdx_schema.specs.Kinds.{Kind, components, services, external_references, dependencies, compositions, properties, a_text, a_list, a_record, a_signature, a_bill}
use Rattle.cdx_schema.specs.Table.{rows}
use Rattle.cdx_schema.specs.Keeping.{fits, has_versions}
use Rattle.cdx_nest.specs.Nested.{components_tree, services_tree}
use Rattle.cdx_nest.specs.Trees.{metadata_tree}
use Rattle.cdx_bom.specs.declared.bom.Bom.{Bom}
use Rattle.cdx_bom.specs.Trees.{bom_tree}
use Rattle.cdx_bom.proofs.Names.{lacks, is_component, components_spare, fits_all}
use Rattle.cdx_bom.proofs.Leaves.{row_lacks, urn_lacks, references_lack, dependencies_lack, compositions_lack, properties_lack, signature_lacks}
use Rattle.cdx_bom.proofs.Whole.{services_lack}

leaf : {A : Type 0} (f : A → Tree) (o : Option A) (k : Kind) → ((x : A) → lacks is_component (f x) ≡ true) → has_versions (present f o) k ≡ true
leaf f o k h = fits_all (present f o) k (row_lacks is_component f h o)

bill_has : (b : Bom) → has_versions (bom_tree b) a_bill ≡ (has_versions (present metadata_tree b.metadata) (a_record metadata) && has_versions (present components_tree b.components) (a_list components))
unfolding has_versions rows
bill_has b = rw (
  leaf urn_tree b.serial_number a_text (urn_lacks is_component),
  leaf services_tree b.services (a_list services) (services_lack is_component components_spare refl),
  leaf references_tree b.external_references (a_list external_references) (references_lack is_component components_spare),
  leaf dependencies_tree b.dependencies (a_list dependencies) (dependencies_lack is_component components_spare),
  leaf compositions_tree b.compositions (a_list compositions) (compositions_lack is_component components_spare),
  leaf properties_tree b.properties (a_list properties) (properties_lack is_component components_spare),
  leaf signature_tree b.signature a_signature (signature_lacks is_component components_spare),
  and-true (has_versions (present components_tree b.components) (a_list components)),
) refl

pub bill_fits : (w : SpecVersion) (b : Bom) → fits w (bom_tree b) a_bill ≡ (fits w (present metadata_tree b.metadata) (a_record metadata) && fits w (present components_tree b.components) (a_list components))
bill_fits V1_3 b = bill_has b
bill_fits V1_4 b = refl
bill_fits V1_5 b = refl

pub nothing_fits : {A : Type 0} (f : A → Tree) (w : SpecVersion) (k : Kind) → fits w (present f None) k ≡ true
unfolding has_versions
nothing_fits f V1_3 k = refl
nothing_fits f V1_4 k = refl
nothing_fits f V1_5 k = refl
