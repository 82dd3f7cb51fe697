use Rattle.cdx_service.proofs.FrameGroups.{found_naming, found_access, found_contents}
use Rattle.cdx_service.proofs.frames.names.find_in_service.Goals as goal

pub returns-in-Unknown-find_access : goal.returns-in-Unknown-find_access
returns-in-Unknown-find_access c = λ ts. found_contents ts c.args.version c.args.name.now.local_name c.find_naming.result c.find_access.result c.find_contents.result (c.find_naming.ensures ts c.args.version) c.in-Unknown.is (c.find_access.ensures ts c.args.version) c.in-Unknown-find_access.is (c.find_contents.ensures ts)

pub returns-in_default-find_access : goal.returns-in_default-find_access
returns-in_default-find_access c = λ ts. found_access ts c.args.version c.args.name.now.local_name c.find_naming.result c.find_access.result (c.find_naming.ensures ts c.args.version) c.in-Unknown.is (c.find_access.ensures ts c.args.version) c.in_default-find_access.not-Unknown

pub returns-in_default : goal.returns-in_default
returns-in_default c = λ ts. found_naming ts c.args.version c.args.name.now.local_name c.find_naming.result (c.find_naming.ensures ts c.args.version) c.in_default.not-Unknown
