use Rattle.std.proofs.Common.{◌≡◌, ◌++◌, ◌-◌, sym, ap, ◌∙◌, arith}
use Rattle.cdx_machine.specs.Several.{at_position}
use Rattle.cdx_service.specs.Frames.{naming_readers, access_readers, contents_readers}
use Rattle.cdx_service.proofs.Found.{at_first, at_later}
use Rattle.cdx_service.proofs.frames.putting.put_service_leaf.Goals as goal

pub put_access-requires : goal.put_access-requires
put_access-requires c =
    let i = c.args.position in
    sym (at_later naming_readers (access_readers ++ contents_readers) i (omega arith) ∙ at_first access_readers contents_readers (i - 5) (omega arith)) ∙ c.requires

pub put_contents-requires : goal.put_contents-requires
put_contents-requires c =
    let i = c.args.position in
    let left : i - 5 - 6 ≡ i - 11 = omega arith in
    sym (at_later naming_readers (access_readers ++ contents_readers) i (omega arith) ∙ (at_later access_readers contents_readers (i - 5) (omega arith) ∙ ap (λ j. at_position contents_readers j) left)) ∙ c.requires
