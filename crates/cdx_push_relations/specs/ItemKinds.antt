-- Of which kind the items of each list are.
use Rattle.std.specs.Prelude.{◌≡◌, refl}
use Rattle.cdx_models.specs.Trees.{composition, dependency}
use Rattle.cdx_schema.specs.Kinds.{a_record, a_reference, assemblies, composed, compositions, dependencies, vulnerabilities}
use Rattle.cdx_schema.specs.Table.{list}

pub dependencies_item : a_record dependency ≡ (list dependencies).kind
unfolding list
dependencies_item = refl

pub assemblies_item : a_reference ≡ (list assemblies).kind
unfolding list
assemblies_item = refl

pub composed_item : a_reference ≡ (list composed).kind
unfolding list
composed_item = refl

pub vulnerabilities_item : a_reference ≡ (list vulnerabilities).kind
unfolding list
vulnerabilities_item = refl

pub compositions_item : a_record composition ≡ (list compositions).kind
unfolding list
compositions_item = refl
