-- The kinds of the children of each record.
use Rattle.std.specs.Prelude.{◌≡◌, refl, [], ◌∷◌}
use Rattle.cdx_models.specs.Trees.{action, attached_text, commit, diff, issue, patch, source}
use Rattle.cdx_schema.specs.Kinds.{a_list, a_record, a_text, links, resolved}
use Rattle.cdx_schema.specs.Table.{rows, list}
use Rattle.cdx_schema.specs.XmlReading.{record_plan}
use Rattle.cdx_machine.specs.Several.{kinds_of}

pub action_kinds : a_text ∷ a_text ∷ a_text ∷ [] ≡ kinds_of (record_plan action).children
unfolding rows list
action_kinds = refl

pub commit_kinds : a_text ∷ a_text ∷ a_record action ∷ a_record action ∷ a_text ∷ [] ≡ kinds_of (record_plan commit).children
unfolding rows list
commit_kinds = refl

pub diff_kinds : a_record attached_text ∷ a_text ∷ [] ≡ kinds_of (record_plan diff).children
unfolding rows list
diff_kinds = refl

pub source_kinds : a_text ∷ a_text ∷ [] ≡ kinds_of (record_plan source).children
unfolding rows list
source_kinds = refl

pub issue_kinds : a_text ∷ a_text ∷ a_text ∷ a_record source ∷ a_list links ∷ [] ≡ kinds_of (record_plan issue).children
unfolding rows list
issue_kinds = refl

pub patch_kinds : a_record diff ∷ a_list resolved ∷ [] ≡ kinds_of (record_plan patch).children
unfolding rows list
patch_kinds = refl
