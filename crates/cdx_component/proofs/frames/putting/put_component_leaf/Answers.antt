use Rattle.cdx_models.specs.Trees.{◌⧺◌}
use Rattle.cdx_component.specs.PartTrees.{marks_trees, contents_trees}
use Rattle.cdx_component.proofs.frames.putting.put_component_leaf.Goals as goal

pub returns-then-position-lt9 : goal.returns-then-position-lt9
returns-then-position-lt9 c =
    let p = c.args.part.now in
    c.put_naming.ensures p.origin (marks_trees p.marks ⧺ contents_trees p.contents)

pub returns-then-position-lt15 : goal.returns-then-position-lt15
returns-then-position-lt15 c =
    let p = c.args.part.now in
    c.put_marks.ensures p.origin p.naming (contents_trees p.contents)

pub returns-else-position-lt15 : goal.returns-else-position-lt15
returns-else-position-lt15 c =
    let p = c.args.part.now in
    c.put_contents.ensures p.origin p.naming p.marks
